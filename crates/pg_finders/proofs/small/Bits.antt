-- The bits of a few rows' vertices: as they are made, and what they say.
use Rattle.pg_finders.proofs.Common.{◌≡◌, ℕ, List, ◌+◌, ◌<◌, false, inl, inr, length, set, take, get_or, get_or-set_same, get_or-set_other, ◌∙◌}
use Rattle.pg_finders.proofs.Common.{ap, subst, arith, length-set, Option, None, cases_Bool, cases_eq, ClaimRows, named}
use Rattle.std.proofs.Common.{◌*◌, ◌%◌, ◌^◌, w64}
use Rattle.std.specs.Prelude.{bit_or}
use Rattle.std.specs.Int.{bit_at}
use Rattle.std.proofs.lemmas.Nat.Bits.{bit_at_or, bit_at_set_same, bit_at-lt}
use Rattle.pg_finders.specs.private.small.Few.{IsFew, HaveBits}
use Rattle.pg_dominion.specs.Claim.{row_at}
use Rattle.pg_dominion.proofs.RowsByPlace.{place_at}
use Rattle.pg_finders.proofs.small.FewRows.{view_length, view_row}

-- what has no bit is not there
pub no_bit : (rows now : ClaimRows) (len : ℕ) (words : List ℕ) → IsFew rows len → HaveBits rows len words → take len rows ≡ now → (v : ℕ)
    → bit_at (get_or words len 0) (v % 64) ≡ 0 → named now v ≡ false
no_bit rows now len words few have view v none = elim (cases_Bool (named now v)) [
  | inr n ↦ n
  | inl y ↦ (let k = place_at now v y in
      let l : k.0 < len = omega (arith, k.1, view_length rows now len few view) in
      let q : (row_at rows k.0).0 ≡ v = ap (λ (r : ℕ × Option ℕ). r.0) (view_row rows now len few view k.0 k.1) ∙ k.2 in
      let one : bit_at (get_or words len 0) (v % 64) ≡ 1 = subst (λ x. bit_at (get_or words len 0) (x % 64) ≡ 1) q (have.each k.0 len l (omega arith)) in
      absurd (omega (arith, one, none)))
]

-- a row at the end, and a word with its bit
pub bits_push : (rows : ClaimRows) (len : ℕ) (words : List ℕ) (v word : ℕ) → length rows ≡ 8 → len < 8 → HaveBits rows len words → word ≡ get_or words len 0
    → HaveBits (set rows len (v, None)) (len + 1) (set words (len + 1) (bit_or word (1 * 2 ^ (v % 64) % 2 ^ 64)))
bits_push rows len words v word eight capacity have read = record {
  size = length-set words (len + 1) to ∙ have.size;
  each = λ j k l m. elim (cases_eq k (len + 1)) as (λ _. bit_at (get_or (set words (len + 1) to) k 0) ((row_at (set rows len (v, None)) j).0 % 64) ≡ 1) [
    | inl q ↦ rw (q, get_or-set_same words (len + 1) to 0 (omega (arith, capacity, have.size))) (last j (omega (arith, l, q)))
    | inr n ↦ rw (get_or-set_other words (len + 1) k to 0 n, other j (omega (arith, l, m, n))) (have.each j k l (omega (arith, m, n)))
  ];
}
  where
    to : ℕ
    to = bit_or word (1 * 2 ^ (v % 64) % 2 ^ 64)

    other : (j : ℕ) → j < len → (row_at (set rows len (v, None)) j).0 ≡ (row_at rows j).0
    other j l = ap (λ (r : ℕ × Option ℕ). r.0) (get_or-set_other rows len j (v, None) (0, None) (omega (arith, l)))

    kept : (j : ℕ) → j < len → bit_at to ((row_at rows j).0 % 64) ≡ 1
    kept j l =
        let i : ℕ = (row_at rows j).0 % 64 in
        let one : bit_at word i ≡ 1 = ap (λ w. bit_at w i) read ∙ have.each j len l (omega arith) in
        omega (arith, bit_at_or word (1 * 2 ^ (v % 64) % 2 ^ 64) i, one, bit_at-lt (1 * 2 ^ (v % 64) % 2 ^ 64) i)

    last : (j : ℕ) → j < len + 1 → bit_at to ((row_at (set rows len (v, None)) j).0 % 64) ≡ 1
    last j l = elim (cases_eq j len) as (λ _. bit_at to ((row_at (set rows len (v, None)) j).0 % 64) ≡ 1) [
      | inl q ↦ (let e : (row_at (set rows len (v, None)) j).0 ≡ v =
          ap (λ k. (row_at (set rows len (v, None)) k).0) q ∙ ap (λ (r : ℕ × Option ℕ). r.0)
          (get_or-set_same rows len (v, None) (0, None) (omega (arith, capacity, eight))) in
          rw e (bit_at_set_same w64 word (v % 64) (omega arith)))
      | inr n ↦ (let b : j < len = omega (arith, l, n) in rw (other j b) (kept j b))
    ]

-- a choice leaves the vertices as they are
pub bits_choose : (rows : ClaimRows) (len : ℕ) (words : List ℕ) (at v : ℕ) (choice : Option ℕ) → at < length rows → v ≡ (row_at rows at).0
    → HaveBits rows len words → HaveBits (set rows at (v, choice)) len words
bits_choose rows len words at v choice l is have = record {
  size = have.size;
  each = λ j k a b. rw (same j) (have.each j k a b);
}
  where
    same : (j : ℕ) → (row_at (set rows at (v, choice)) j).0 ≡ (row_at rows j).0
    same j = elim (cases_eq j at) as (λ _. (row_at (set rows at (v, choice)) j).0 ≡ (row_at rows j).0) [
      | inl q ↦ (let here : (row_at (set rows at (v, choice)) at).0 ≡ v = ap (λ (r : ℕ × Option ℕ). r.0) (get_or-set_same rows at (v, choice) (0, None) l) in
          rw q (here ∙ is))
      | inr n ↦ ap (λ (r : ℕ × Option ℕ). r.0) (get_or-set_other rows at j (v, choice) (0, None) n)
    ]
