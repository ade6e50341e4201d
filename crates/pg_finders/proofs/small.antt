-- The search for small dominions: lemmas.
pub mod FewRows
pub mod Bits
pub mod ChoiceCount
pub mod LastVertex
pub mod PartialClaims
pub mod FreshChoice
pub mod GatheredClaim
pub mod RestoredRows
pub mod WayBack
