-- Definitions that only private functions and proofs of this crate cite: no public contract uses them.
pub mod Bits
pub mod Stored
pub mod Gathered
pub mod Identifiers
pub mod Rows
pub mod IdentifierList
pub mod Lines
pub mod Resolved
pub mod Opened
pub mod Seed
