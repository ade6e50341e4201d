-- Lemmas of the proofs of `cycles`.
pub mod NoWayBack
