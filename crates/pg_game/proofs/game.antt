-- Lemmas of the proofs of `game`.
pub mod Equality
pub mod Parts
