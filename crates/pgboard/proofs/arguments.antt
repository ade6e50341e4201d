-- Lemmas of the proofs of `arguments`.
pub mod CommandLine
