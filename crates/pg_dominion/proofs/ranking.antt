-- Lemmas of the proofs of `ranking`.
pub mod NoBadVertex
