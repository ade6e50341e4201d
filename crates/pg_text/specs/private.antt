-- Definitions that only private functions and proofs of this crate cite: no public contract uses them.
pub mod Lexeme
pub mod Reach
pub mod FirstFault
pub mod SolutionReads
pub mod GameReads
pub mod SolutionTable
pub mod Machine
pub mod Tables
pub mod Parsing
