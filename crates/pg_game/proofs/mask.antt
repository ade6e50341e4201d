-- Lemmas of the proofs of `mask`.
pub mod Bits
