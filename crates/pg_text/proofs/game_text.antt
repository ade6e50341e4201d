-- Lemmas of the proofs of `game_text`.
pub mod TokenSteps
