-- Lemmas of the proofs of `laws`.
pub mod Examples
pub mod FaultOrTokens
pub mod ExclusiveFaults
pub mod UniqueLines
pub mod UniqueGameLines
pub mod UniqueTokens
pub mod FaultKinds
