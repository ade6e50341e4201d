-- Words of bits: what they hold after a write, and how many bits are set.
use Rattle.pg_game.proofs.Common.{rules}
use Rattle.pg_game.proofs.Common.{◌≡◌, ◌≢◌, ℕ, zero, suc, ◌+◌, ◌-◌, ◌^◌, ◌<◌, ◌≤◌, Bool, true, false, List, [], ◌∷◌, map, length, set}
use Rattle.pg_game.proofs.Common.{get_or, get_or-set_same, get_or-set_other, get_or_past, ext_get_or, length-set, refl, ap, sym, ◌∙◌, inl, inr, arith}
use Rattle.pg_game.proofs.Common.{cases_eq, cases_lt, eq-eqb}
use Rattle.std.proofs.Common.{◌*◌, ◌/◌, ◌%◌, eqb, replicate, cond, w64}
use Rattle.std.proofs.lemmas.Bool.{true≢false}
use Rattle.std.proofs.lemmas.List.{length-replicate, get_or-replicate}
use Rattle.std.proofs.lemmas.List.FromFn.{length-map-range_with_len, get_or-map-range_with_len, sum_by-map-range_with_len_more}
use Rattle.std.proofs.lemmas.List.Sums.{sum_by-cons, count_by-le-length}
use Rattle.std.proofs.lemmas.Simd.{mask_l-lt, bit_mask_l, ones-mask_l}
use Rattle.std.proofs.lemmas.Nat.{one_shl}
use Rattle.std.proofs.lemmas.Nat.Bits.{bit_at-zero, bit_at-lt, bit_at_ones, bit_at_ones_above, same_from_bits_below, bit_at-trailing_zeros}
use Rattle.std.proofs.lemmas.Nat.Bits.{bit_at_set_same, bit_at_set_other, bit_at_clear_same, bit_at_clear_other}
use Rattle.std.specs.List.{range_with_len, count_by}
use Rattle.std.specs.Simd.Lanes.{mask_l}
use Rattle.std.specs.Int.{bit_at, bit_not, div_ceil, trailing_zeros}
use Rattle.std.specs.Prelude.{count_ones, bit_and, bit_or}
use Rattle.pg_game.specs.Bits.{bit_of, bits_of}
use Rattle.pg_game.specs.VertexSet.{members, how_many}
use Rattle.pg_game.specs.private.Bits.{FitBits, AreWords}

pub opened : (words : List ℕ) (n : ℕ) → AreWords words n → FitBits words n
unfolding AreWords
opened words n are = are

pub closed : (words : List ℕ) (n : ℕ) → FitBits words n → AreWords words n
unfolding AreWords
closed words n fit = fit

pub length-bits_of : (words : List ℕ) (n : ℕ) → length (bits_of words n) ≡ n
unfolding bits_of
length-bits_of words n = length-map-range_with_len (bit_of words) 0 n

pub get_or-bits_of : (words : List ℕ) (n v : ℕ) → v < n → get_or (bits_of words n) v false ≡ bit_of words v
unfolding bits_of
get_or-bits_of words n v l = get_or-map-range_with_len (bit_of words) 0 n v v false l (omega arith)

pub below : (words : List ℕ) (n v : ℕ) {flags : List Bool} → bits_of words n ≡ flags → v < length flags → v < n
below words n v is l = omega (arith, length-bits_of words n, ap length is, l)

-- a list of flags that has the bits of the words
pub bits_are : (words : List ℕ) (flags : List Bool) → ((v : ℕ) → v < length flags → bit_of words v ≡ get_or flags v false)
    → bits_of words (length flags) ≡ flags
bits_are words flags each =
    ext_get_or false _ _ (length-bits_of words (length flags))
    (λ v l. let k : v < length flags = omega (arith, length-bits_of words (length flags)) in get_or-bits_of words (length flags) v k ∙ each v k)

-- past the words there is no bit
pub no_word : (words : List ℕ) (v : ℕ) → length words ≤ v / 64 → bit_of words v ≡ false
no_word words v l = ap (λ w. eqb (bit_at w (v % 64)) 1) (get_or_past words (v / 64) 0 l) ∙ ap (λ b. eqb b 1) (bit_at-zero (v % 64))

-- words without a bit
pub no_bits : (k v : ℕ) → bit_of (replicate k 0) v ≡ false
no_bits k v = search (rules, cases_lt, get_or-replicate, bit_at-zero, no_word, length-replicate)

-- one bit is written
module _ (words : List ℕ) (v to : ℕ) (within : v / 64 < length words)
    (others : (i : ℕ) → i < 64 → i ≢ v % 64 → bit_at to i ≡ bit_at (get_or words (v / 64) 0) i) where
  bit_else : (u : ℕ) → u ≢ v → bit_of (set words (v / 64) to) u ≡ bit_of words u
  bit_else u apart = elim (cases_eq (u / 64) (v / 64)) as (λ _. bit_of (set words (v / 64) to) u ≡ bit_of words u) [
    | inl same ↦
        ap (λ k. eqb (bit_at (get_or (set words (v / 64) to) k 0) (u % 64)) 1) same
        ∙ ap (λ w. eqb (bit_at w (u % 64)) 1) (get_or-set_same words (v / 64) to 0 within)
        ∙ ap (λ b. eqb b 1) (others (u % 64) (omega arith) (omega arith))
        ∙ ap (λ k. eqb (bit_at (get_or words k 0) (u % 64)) 1) (sym same)
    | inr other ↦ ap (λ w. eqb (bit_at w (u % 64)) 1) (get_or-set_other words (v / 64) (u / 64) to 0 other)
  ]

  pub bits_of-set : (n : ℕ) (b : Bool) → v < n → eqb (bit_at to (v % 64)) 1 ≡ b → bits_of (set words (v / 64) to) n ≡ set (bits_of words n) v b
  bits_of-set n b l is =
      let len : length (set (bits_of words n) v b) ≡ n = length-set (bits_of words n) v b ∙ length-bits_of words n in
      ap (bits_of (set words (v / 64) to)) (sym len)
      ∙ bits_are (set words (v / 64) to) (set (bits_of words n) v b)
      (λ u m. elim (cases_eq u v) as (λ _. bit_of (set words (v / 64) to) u ≡ get_or (set (bits_of words n) v b) u false) [
        | inl same ↦
            rw same
            (ap (λ w. eqb (bit_at w (v % 64)) 1) (get_or-set_same words (v / 64) to 0 within) ∙ is
            ∙ sym (get_or-set_same (bits_of words n) v b false (omega (arith, length-bits_of words n))))
        | inr other ↦
            bit_else u other ∙ sym (get_or-bits_of words n u (omega (arith, len))) ∙ sym (get_or-set_other (bits_of words n) v u b false other)
      ])

  pub fit-set : (n : ℕ) → v < n → FitBits words n → FitBits (set words (v / 64) to) n
  fit-set n l are = search (rules, length-set, are.short, are.size, are.none)

pub inserted : (words : List ℕ) (n v word : ℕ) → v < n → FitBits words n → word ≡ get_or words (v / 64) 0
    → let after = set words (v / 64) (bit_or word (1 * 2 ^ (v % 64) % 2 ^ 64)) in FitBits after n × (bits_of after n ≡ set (bits_of words n) v true)
inserted words n v word l are read =
    let to : ℕ = bit_or word (1 * 2 ^ (v % 64) % 2 ^ 64) in
    let low : v % 64 < 64 = omega arith in
    let within : v / 64 < length words = omega (arith, are.size) in
    let others : (i : ℕ) → i < 64 → i ≢ v % 64 → bit_at to i ≡ bit_at (get_or words (v / 64) 0) i =
    λ i m apart. bit_at_set_other w64 word (v % 64) low i apart ∙ ap (λ w. bit_at w i) read in (
      fit-set words v to within others n l are,
      bits_of-set words v to within others n true l (eq-eqb _ 1 (bit_at_set_same w64 word (v % 64) low)),
    )

pub removed : (words : List ℕ) (n v word : ℕ) → v < n → FitBits words n → word ≡ get_or words (v / 64) 0
    → let after = set words (v / 64) (bit_and word (bit_not w64 (1 * 2 ^ (v % 64) % 2 ^ 64))) in
    FitBits after n × (bits_of after n ≡ set (bits_of words n) v false)
removed words n v word l are read =
    let to : ℕ = bit_and word (bit_not w64 (1 * 2 ^ (v % 64) % 2 ^ 64)) in
    let low : v % 64 < 64 = omega arith in
    let within : v / 64 < length words = omega (arith, are.size) in
    let others : (i : ℕ) → i < 64 → i ≢ v % 64 → bit_at to i ≡ bit_at (get_or words (v / 64) 0) i =
    λ i m apart. bit_at_clear_other w64 word (v % 64) low i m apart ∙ ap (λ w. bit_at w i) read in (
      fit-set words v to within others n l are,
      bits_of-set words v to within others n false l (ap (λ b. eqb b 1) (bit_at_clear_same w64 word (v % 64) low)),
    )

pub fit-none : (words : List ℕ) (k n : ℕ) → n < 2 ^ 32 → k ≡ div_ceil n 64 → words ≡ replicate k 0 → FitBits words n
fit-none words k n short size is = search (rules, length-replicate, no_bits)

pub bits_of_none : (words : List ℕ) (k n : ℕ) → words ≡ replicate k 0 → bits_of words n ≡ replicate n false
bits_of_none words k n is =
    let len = length-replicate n false in
    ap (λ ws. bits_of ws n) is ∙ ap (bits_of (replicate k 0)) (sym len)
    ∙ bits_are (replicate k 0) (replicate n false) (λ v l. no_bits k v ∙ sym (get_or-replicate n v false false (omega (arith, len))))

-- whole words of ones, and the rest of n bits in one word more
pub record AreFull (words : List ℕ) (n : ℕ) : Type 0 where
  pub size : length words ≡ div_ceil n 64
  pub whole : (i : ℕ) → i < n / 64 → get_or words i 0 ≡ 2 ^ 64 - 1
  pub rest : 0 < n % 64 → get_or words (n / 64) 0 ≡ 2 ^ (n % 64) - 1

-- as words of ones are made, and the last is cut
module _ (words before : List ℕ) (n k : ℕ) (size : k ≡ div_ceil n 64) (ones : before ≡ replicate k (2 ^ 64 - 1)) where
  number : length before ≡ div_ceil n 64
  number = ap length ones ∙ (length-replicate k (2 ^ 64 - 1) ∙ size)

  one_before : (i : ℕ) → i < n / 64 → get_or before i 0 ≡ 2 ^ 64 - 1
  one_before i l = ap (λ ws. get_or ws i 0) ones ∙ get_or-replicate k i (2 ^ 64 - 1) 0 (omega (arith, size))

  pub full_with_rest : 0 < n % 64 → words ≡ set before (n / 64) (1 * 2 ^ (n % 64) % 2 ^ 64 - 1) → AreFull words n
  full_with_rest some is = search (rules, number, length-set, get_or-set_other, one_before, get_or-set_same, one_shl)

  pub full_words : n % 64 ≤ 0 → words ≡ before → AreFull words n
  full_words none is = search (rules, number, one_before)

ones_below : (words : List ℕ) (v k : ℕ) → get_or words (v / 64) 0 ≡ 2 ^ k - 1 → v % 64 < k → bit_of words v ≡ true
ones_below words v k is l = ap (λ w. eqb (bit_at w (v % 64)) 1) is ∙ eq-eqb _ 1 (bit_at_ones k (v % 64) l)

none_above : (words : List ℕ) (v k : ℕ) → get_or words (v / 64) 0 ≡ 2 ^ k - 1 → k ≤ v % 64 → bit_of words v ≡ false
none_above words v k is l = ap (λ w. eqb (bit_at w (v % 64)) 1) is ∙ ap (λ b. eqb b 1) (bit_at_ones_above k (v % 64) l)

full-below : {words : List ℕ} {n : ℕ} → AreFull words n → (v : ℕ) → v < n → bit_of words v ≡ true
full-below {words} {n} full v l = elim (cases_lt (v / 64) (n / 64)) [
  | inl whole ↦ ones_below words v 64 (full.whole (v / 64) whole) (omega arith)
  | inr last ↦
      let same : v / 64 ≡ n / 64 = omega arith in
      ones_below words v (n % 64) (ap (λ i. get_or words i 0) same ∙ full.rest (omega arith)) (omega arith)
]

full-above : {words : List ℕ} {n : ℕ} → AreFull words n → (v : ℕ) → n ≤ v → bit_of words v ≡ false
full-above {words} {n} full v l = search (rules, cases_lt, none_above, no_word, full.size, full.rest)

pub fit-full : {words : List ℕ} {n : ℕ} → n < 2 ^ 32 → AreFull words n → FitBits words n
fit-full short full = record { short = short; size = full.size; none = full-above full }

pub bits_of_full : {words : List ℕ} {n : ℕ} → AreFull words n → bits_of words n ≡ replicate n true
bits_of_full {words} {n} full =
    let len = length-replicate n true in
    ap (bits_of words) (sym len)
    ∙ bits_are words (replicate n true)
    (λ v l. let k : v < n = omega (arith, len) in full-below full v k ∙ sym (get_or-replicate n v true false k))

-- how many pass a test
how_many_map : {X : Type 0} (f : X → Bool) (xs : List X) → how_many (map f xs) ≡ count_by f xs
how_many_map f [] = refl
how_many_map f (x ∷ xs) =
    sum_by-cons (λ b. cond b 1 0) (f x) (map f xs) ∙ ap (λ k. cond (f x) 1 0 + k) (how_many_map f xs) ∙ sym (sum_by-cons (λ y. cond (f y) 1 0) x xs)

-- how many of f 0, f 1 and so on, n of them, are true
abbrev how_many_of : (ℕ → Bool) → ℕ → ℕ
how_many_of f n = how_many (map f (range_with_len 0 n))

abbrev one : Bool → ℕ
one b = cond b 1 0

one_more : (f : ℕ → Bool) (n : ℕ) → how_many_of f (n + 1) ≡ how_many_of f n + cond (f n) 1 0
one_more f n = sum_by-map-range_with_len_more (λ b. cond b 1 0) f 0 n n (omega arith)

in_two_parts : (f : ℕ → Bool) (m k : ℕ) → how_many_of f (m + k) ≡ how_many_of f m + how_many_of (λ j. f (m + j)) k
in_two_parts f m zero = let e : m + zero ≡ m = omega arith in ap (how_many_of f) e ∙ omega arith
in_two_parts f m (suc k) =
    let e : m + suc k ≡ m + k + 1 = omega arith in
    let s : suc k ≡ k + 1 = omega arith in
    omega (arith, ap (how_many_of f) e, one_more f (m + k), in_two_parts f m k, one_more (λ j. f (m + j)) k, ap (how_many_of (λ j. f (m + j))) s)

digit : (b : ℕ) → b < 2 → b ≡ cond (eqb b 1) 1 0
digit zero l = refl
digit (suc zero) l = refl
digit (suc (suc b)) l = absurd (omega arith)

-- the ones of a word of n bits
ones_are : (w n : ℕ) (f : ℕ → Bool) → w < 2 ^ n → ((k : ℕ) → k < n → f k ≡ eqb (bit_at w k) 1) → count_ones w ≡ how_many_of f n
ones_are w n f fits each =
    let ms = map f (range_with_len 0 n) in
    let small : mask_l ms < 2 ^ n = omega (arith, mask_l-lt ms, ap (λ k. 2 ^ k) (length-map-range_with_len f 0 n)) in
    let same : w ≡ mask_l ms = same_from_bits_below n w (mask_l ms) fits small
    (λ k l.
    digit (bit_at w k) (bit_at-lt w k)
    ∙ ap (λ b. cond b 1 0) (sym (each k l) ∙ sym (get_or-map-range_with_len f 0 n k k false l (omega arith)))
    ∙ sym (bit_mask_l ms k)) in
    ap count_ones same ∙ ones-mask_l f (range_with_len 0 n) ∙ sym (how_many_map f (range_with_len 0 n))

-- the bits of one word more
pub word_more : (words : List ℕ) (i : ℕ) → get_or words i 0 < 2 ^ 64
    → how_many (bits_of words (64 * (i + 1))) ≡ how_many (bits_of words (64 * i)) + count_ones (get_or words i 0)
unfolding bits_of
word_more words i fits =
    let e : 64 * (i + 1) ≡ 64 * i + 64 = omega arith in
    ap (how_many_of (bit_of words)) e
    ∙ in_two_parts (bit_of words) (64 * i) 64
    ∙ ap (λ k. how_many_of (bit_of words) (64 * i) + k)
    (sym (ones_are (get_or words i 0) 64 (λ j. bit_of words (64 * i + j)) fits
    (λ k l.
    let word : (64 * i + k) / 64 ≡ i = omega arith in
    let place : (64 * i + k) % 64 ≡ k = omega arith in
    ap (λ j. eqb (bit_at (get_or words j 0) ((64 * i + k) % 64)) 1) word ∙ ap (λ j. eqb (bit_at (get_or words i 0) j) 1) place)))

-- from n on there is none
pub none_more : (words : List ℕ) (n d : ℕ) → FitBits words n → how_many (bits_of words (n + d)) ≡ how_many (bits_of words n)
unfolding bits_of
none_more words n zero are = let e : n + zero ≡ n = omega arith in ap (how_many_of (bit_of words)) e
none_more words n (suc d) are =
    let e : n + suc d ≡ n + d + 1 = omega arith in
    ap (how_many_of (bit_of words)) e
    ∙ one_more (bit_of words) (n + d)
    ∙ omega (arith, ap one (are.none (n + d) (omega arith)), none_more words n d are)

pub at_most : (words : List ℕ) (n m : ℕ) → FitBits words n → how_many (bits_of words m) ≤ n
at_most words n m are = elim (cases_lt n m) [
  | inl l ↦
      let e : m ≡ n + (m - n) = omega arith in
      let few = count_by-le-length (λ b. b) (bits_of words n) in
      omega (arith, ap (λ k. how_many (bits_of words k)) e, none_more words n (m - n) are, few, length-bits_of words n)
  | inr l ↦ omega (arith, count_by-le-length (λ b. b) (bits_of words m), length-bits_of words m)
]

pub all_counted : (words : List ℕ) (n : ℕ) → FitBits words n → how_many (bits_of words (64 * length words)) ≡ how_many (bits_of words n)
all_counted words n are =
    let all : n ≤ 64 * length words = omega (arith, are.size) in
    let e : 64 * length words ≡ n + (64 * length words - n) = omega arith in
    ap (λ k. how_many (bits_of words k)) e ∙ none_more words n (64 * length words - n) are

-- a word that is not 0 has a member
pub member_in : (words : List ℕ) (n i : ℕ) → FitBits words n → 0 < get_or words i 0 → get_or words i 0 < 2 ^ 64
    → (v : ℕ) × (members (bits_of words n) v ≡ true)
member_in words n i are some fits =
    let lowest = bit_at-trailing_zeros w64 (get_or words i 0) some fits in
    let t : ℕ = trailing_zeros w64 (get_or words i 0) in
    let low : t < 64 = lowest.0 in
    let v : ℕ = 64 * i + t in
    let word : v / 64 ≡ i = omega arith in
    let place : v % 64 ≡ t = omega arith in
    let set : bit_of words v ≡ true =
    ap (λ j. eqb (bit_at (get_or words j 0) (v % 64)) 1) word
    ∙ ap (λ j. eqb (bit_at (get_or words i 0) j) 1) place
    ∙ eq-eqb _ 1 lowest.1 in
    elim (cases_lt v n) [
      | inl l ↦ (v, get_or-bits_of words n v l ∙ set)
      | inr l ↦ absurd (true≢false (sym set ∙ are.none v l))
    ]

-- where all words are 0 there is none
pub no_member : (words : List ℕ) (n v : ℕ) → ((i : ℕ) → i < length words → get_or words i 0 ≡ 0) → members (bits_of words n) v ≡ false
no_member words n v zeros = search (rules, cases_lt, get_or_past, length-bits_of, get_or-bits_of, bit_at-zero, no_word)

pub none_counted : (words : List ℕ) → how_many (bits_of words (64 * 0)) ≡ 0
unfolding bits_of
none_counted words = refl
