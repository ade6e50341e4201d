-- Lemmas of the proofs of `reader`.
pub mod Machine
pub mod TokenSteps
pub mod TokenRuns
