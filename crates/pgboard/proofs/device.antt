-- Lemmas of the proofs of `device`.
pub mod Pieces
