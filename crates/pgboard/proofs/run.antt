-- Lemmas of the proofs of `run`.
pub mod FaultsOfRuns
