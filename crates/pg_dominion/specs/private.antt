-- Definitions that only private functions and proofs of this crate cite: no public contract uses them.
pub mod FreeVertices
pub mod KeptEdges
pub mod Labels
pub mod JointStrategy
pub mod Ranking
pub mod ListedEnds
