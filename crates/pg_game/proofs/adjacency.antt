-- Lemmas of the proofs of `adjacency`.
pub mod WrittenSources
pub mod NamedRanges
pub mod Sums
pub mod RisingLists
