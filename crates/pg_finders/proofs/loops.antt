-- Dominions of a single vertex: lemmas.
pub mod SingleDominions
