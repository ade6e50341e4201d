pub mod Common
pub mod Counts
pub mod KeptState
pub mod KnownSets
