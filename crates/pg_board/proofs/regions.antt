-- Lemmas of the proofs of `regions`.
pub mod KeptEdgesOfRows
pub mod WrittenRowSteps
pub mod FirstLost
pub mod RowsInMasks
pub mod Tables
