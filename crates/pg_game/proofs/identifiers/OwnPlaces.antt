-- Identifiers that are 0, 1 and so on.
use Rattle.pg_game.proofs.Common.{◌≡◌, ℕ, ◌<◌, List, length, get_or, sym, ◌∙◌, ap, arith, ext_get_or}
use Rattle.std.specs.List.{range_with_len}
use Rattle.std.proofs.lemmas.List.FromFn.{length-range_with_len, get_or-range_with_len}
use Rattle.pg_game.specs.private.IdentifierList.{AreOwnPlaces}

own_place : (n v : ℕ) → v < n → get_or (range_with_len 0 n) v 0 ≡ v
own_place n v l = let e = get_or-range_with_len 0 n v 0 l in omega (arith, e)

-- a list in which each has its own place
pub own_are : (n : ℕ) (ids : List ℕ) → n ≡ length ids → AreOwnPlaces ids → range_with_len 0 n ≡ ids
own_are n ids is own =
    let m = length-range_with_len 0 n in
    ext_get_or 0 (range_with_len 0 n) ids (m ∙ is) (λ v l.
    let k : v < n = omega (arith, l, m) in
    let j : v < length ids = omega (arith, k, is) in
    own_place n v k ∙ sym (own v j))

module _ {n : ℕ} {ids : List ℕ} (is : range_with_len 0 n ≡ ids) where
  pub own_length : length ids ≡ n
  own_length = sym (ap (λ (xs : List ℕ). length xs) is) ∙ length-range_with_len 0 n

  pub own_at : (v : ℕ) → v < n → get_or ids v 0 ≡ v
  own_at v l = sym (ap (λ (xs : List ℕ). get_or xs v 0) is) ∙ own_place n v l
