-- Lemmas of the proofs of `lexer`.
pub mod TokenAtPlace
pub mod ByteRuns
