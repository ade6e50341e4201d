-- Lemmas of the proofs of `attractor`.
pub mod TargetRows
