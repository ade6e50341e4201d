-- The invariants of the recursion, in the order in which a reader needs them.
pub mod Subgame
pub mod Order
pub mod Settled
pub mod Partition
pub mod Solver
pub mod GoingBack
