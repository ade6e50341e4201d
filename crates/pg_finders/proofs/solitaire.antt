-- Solitaire subgames: lemmas.
pub mod BackwardSearch
pub mod ForcedPlayer
