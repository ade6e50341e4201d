-- Lemmas of the proofs of `board`.
pub mod OldCopies
pub mod PostChecks
