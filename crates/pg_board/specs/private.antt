-- Definitions that only private functions and proofs of this crate cite: no public contract uses them.
pub mod VertexState
pub mod Regions
pub mod Contents
pub mod Stage
pub mod OpenEdges
pub mod WrittenRows
pub mod WrittenInTurn
