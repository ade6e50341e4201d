-- Lemmas of the proofs of `report`.
pub mod PlacedRows
pub mod Rows
