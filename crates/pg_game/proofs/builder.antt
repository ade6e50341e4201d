-- Lemmas of the proofs of `builder`.
pub mod GamesInOrder
pub mod GamesWithoutFault
pub mod PickedSpecifications
pub mod PushedParts
pub mod FirstUnknown
