-- Lemmas of the proofs of `claim`.
pub mod RowsByVertex
pub mod NoWayBack
