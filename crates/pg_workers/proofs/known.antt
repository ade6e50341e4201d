-- Lemmas of the proofs of `known`.
pub mod RefusedSets
pub mod SetRows
