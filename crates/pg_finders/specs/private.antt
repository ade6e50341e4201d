-- Definitions that only private functions and proofs of this crate cite: no public contract uses them.
pub mod Solved
pub mod DeadEnds
pub mod recursion
pub mod AttractorLaws
pub mod small
pub mod solitaire
pub mod Singles
