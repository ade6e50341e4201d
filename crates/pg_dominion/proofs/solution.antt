-- Lemmas of the proofs of `solution`.
pub mod KeptEdges
