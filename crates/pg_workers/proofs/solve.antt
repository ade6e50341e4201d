-- Lemmas of the proofs of `solve`.
pub mod SettledSum
