-- Lemmas of the proofs of `trace`.
pub mod WordLines
pub mod ItemTexts
