-- The invariants of the search for small dominions.
pub mod Excluded
pub mod Few
pub mod Search
pub mod Partial
pub mod Walked
pub mod SearchSteps
pub mod Ends
