-- Lemmas of the proofs of `worker`.
pub mod CountedAnswers
