-- Lemmas of the proofs of `verify`.
pub mod JoinedText
pub mod JoinedFaults
