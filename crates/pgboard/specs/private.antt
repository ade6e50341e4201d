-- Definitions that only private functions and proofs of this crate cite: no public contract uses them.
pub mod Run
pub mod Line
