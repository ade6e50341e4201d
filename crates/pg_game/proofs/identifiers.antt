-- Lemmas of the proofs of `identifiers`.
pub mod OwnPlaces
pub mod Places
pub mod FirstRepeated
