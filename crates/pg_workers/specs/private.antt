-- Definitions that only private functions and proofs of this crate cite: no public contract uses them.
pub mod Drawing
pub mod Report
pub mod TicketFields
pub mod KnownPosts
