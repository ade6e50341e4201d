-- Lemmas of the proofs of `writing`.
pub mod Lengths
pub mod NumberLists
pub mod WrittenTexts
