-- Lemmas of the proofs of `options`.
pub mod Batches
