-- Lemmas of the proofs of `laws`.
pub mod AnyOrder
