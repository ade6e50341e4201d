-- Lemmas of the proofs of `contents`.
pub mod EntryOfRest
pub mod FullJournals
