-- Lemmas of the proofs of `solve`.
pub mod JournalRows
pub mod KnownTexts
pub mod EmptyText
pub mod ExactSolutions
pub mod NothingKnown
