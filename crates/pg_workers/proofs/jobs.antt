-- Lemmas of the proofs of `jobs`.
pub mod DrawnNumbers
pub mod WordSteps
