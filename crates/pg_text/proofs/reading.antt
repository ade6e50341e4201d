-- Lemmas of the proofs of `reading`.
pub mod RowsOfLines
