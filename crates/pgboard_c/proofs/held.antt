-- Lemmas of the proofs of `held`.
pub mod Boxes
