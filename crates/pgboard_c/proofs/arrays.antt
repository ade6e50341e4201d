-- Lemmas of the proofs of `arrays`.
pub mod GameOfArrays
pub mod ChoiceNumbers
