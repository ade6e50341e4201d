-- Lemmas of the proofs of `solution_text`.
pub mod Identifiers
pub mod KnownLines
pub mod TokenSteps
pub mod VertexTable
