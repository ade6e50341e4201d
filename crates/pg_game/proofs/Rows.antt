-- Rows between offsets: how many, each one, and one more.
use Rattle.pg_game.proofs.Common.{◌≡◌, ℕ, zero, suc, ◌+◌, ◌-◌, ◌<◌, ◌≤◌, ◌⊎◌, inl, inr, List, [], ◌∷◌, ◌++◌, length, take, drop, get_or}
use Rattle.pg_game.proofs.Common.{arith, length-append, add-one, rules, slice_range, ext_get_or, get_or_append_left, get_or_push, get_or_default}
use Rattle.pg_game.proofs.Common.{refl, sym, ap, subst, ◌∙◌, length-take-le, sum_by-cons, take-length, rows_of, IsCompressed, size_of}
use Rattle.std.proofs.lemmas.List.{take-append-le, drop-append-le, length-drop}
use Rattle.std.proofs.Math.Seq.{drop-append_seam, take-add}

pub length-rows_of : (os ts : List ℕ) → length (rows_of os ts) ≡ length os - 1
length-rows_of [] ts = refl
length-rows_of (a ∷ []) ts = refl
length-rows_of (a ∷ b ∷ os) ts = let h = length-rows_of (b ∷ os) ts in omega arith

pub row_of : (os ts : List ℕ) (k : ℕ) → k + 1 < length os → get_or (rows_of os ts) k [] ≡ slice_range ts (get_or os k 0) (get_or os (k + 1) 0)
row_of [] ts k l = absurd (omega arith)
row_of (a ∷ []) ts k l = absurd (omega arith)
row_of (a ∷ b ∷ os) ts zero l = refl
row_of (a ∷ b ∷ os) ts (suc k) l = rw add-one (rw add-one at (row_of (b ∷ os) ts k (omega arith)))

take_all : (xs : List ℕ) (n : ℕ) → n ≡ length xs → take n xs ≡ xs
take_all xs n e = rw e (take-length xs)

-- and what was added is the range from its old end on
range_added : (ts xs : List ℕ) (a b : ℕ) → a ≡ length ts → b ≡ length ts + length xs → slice_range (ts ++ xs) a b ≡ xs
range_added ts xs a b e f = rw e (let g : drop (length ts) (ts ++ xs) ≡ xs = drop-append_seam ts xs in rw g (take_all xs (b - length ts) (omega arith)))

pub below_or_last : (n k : ℕ) → k < n + 1 → (k < n) ⊎ (k ≡ n)
below_or_last n k l = grind arith

pub last_of : (n k : ℕ) → k < n → (k + 1 < n) ⊎ (k + 1 ≡ n)
last_of n k l = grind arith

pub rows_of-push : {os ts : List ℕ} (xs : List ℕ) (e : ℕ) → IsCompressed os ts → e ≡ length ts + length xs
    → rows_of (os ++ e ∷ []) (ts ++ xs) ≡ rows_of os ts ++ xs ∷ []
rows_of-push {os} {ts} xs e c q =
    let n = length-rows_of os ts in
    let m = length-rows_of (os ++ e ∷ []) (ts ++ xs) in
    let grown = length-append os (e ∷ []) in
    let pushed = length-append (rows_of os ts) (xs ∷ []) in
    ext_get_or [] (rows_of (os ++ e ∷ []) (ts ++ xs)) (rows_of os ts ++ xs ∷ []) (omega (arith, n, m, grown, pushed)) (λ k l.
    let lk : k < length os = omega (arith, m, grown) in
    let at = row_of (os ++ e ∷ []) (ts ++ xs) k (omega (arith, m, grown)) in
    let from : get_or (os ++ e ∷ []) k 0 ≡ get_or os k 0 = get_or_append_left os (e ∷ []) 0 k lk in
    elim (last_of (length os) k lk) [
      | inl below ↦ (let to : get_or (os ++ e ∷ []) (k + 1) 0 ≡ get_or os (k + 1) 0 = get_or_append_left os (e ∷ []) 0 (k + 1) below in
          at ∙ rw (from, to) ((search (rules, drop-append-le, take-append-le, length-drop))
          ∙ sym (get_or_append_left (rows_of os ts) (xs ∷ []) [] k (omega (arith, n)) ∙ row_of os ts k below)))
      | inr end ↦ (let to : get_or (os ++ e ∷ []) (k + 1) 0 ≡ e = get_or_push os e 0 (k + 1) (sym end) in
          at ∙ rw (from, to) (range_added ts xs (get_or os k 0) e (c.last k end) q ∙ sym (get_or_push (rows_of os ts) xs [] k (omega (arith, n)))))
    ])

pub length-range : (ts : List ℕ) (a b : ℕ) → a ≤ b → b ≤ length ts → length (slice_range ts a b) ≡ b - a
length-range ts a b l m = length-take-le (b - a) (drop a ts) (omega (arith, length-drop a ts))

-- how far the offsets rise
size-rising : (os ts : List ℕ) (m : ℕ) → m + 1 ≡ length os → ((k : ℕ) → k + 1 < length os → get_or os k 0 ≤ get_or os (k + 1) 0)
    → ((k : ℕ) → k < length os → get_or os k 0 ≤ length ts) → size_of (rows_of os ts) + get_or os 0 0 ≡ get_or os m 0
size-rising [] ts m s r w = absurd (omega arith)
size-rising (a ∷ []) ts zero s r w = omega arith
size-rising (a ∷ []) ts (suc m) s r w = absurd (omega arith)
size-rising (a ∷ b ∷ os) ts zero s r w = absurd (omega arith)
size-rising (a ∷ b ∷ os) ts (suc m) s r w =
    let h = size-rising (b ∷ os) ts m (omega arith) (λ k l. rw add-one (rw add-one at (r (suc k) (omega arith)))) (λ k l. w (suc k) (omega arith)) in
    let q : a ≤ b = r 0 (omega arith) in
    let n : length (slice_range ts a b) ≡ b - a = length-range ts a b q (w 1 (omega arith)) in
    let e = sum_by-cons (λ (row : List ℕ). length row) (slice_range ts a b) (rows_of (b ∷ os) ts) in
    omega (arith, h, n, e, q)

pub size-rows_of : {os ts : List ℕ} → IsCompressed os ts → size_of (rows_of os ts) ≡ length ts
size-rows_of {os} {ts} c =
    let h = size-rising os ts (length os - 1) (omega arith) c.rising c.within in
    omega (arith, h, c.first, c.last (length os - 1) (omega arith))

pub IsCompressed-push : {os ts : List ℕ} (xs : List ℕ) (e : ℕ) → IsCompressed os ts → e ≡ length ts + length xs → IsCompressed (os ++ e ∷ []) (ts ++ xs)
IsCompressed-push {os} {ts} xs e c q = search (rules, length-append, get_or_append_left, last_of, get_or_push, below_or_last)

-- the two offsets of a row that are read, and the row
pub row_bounds : {os ts : List ℕ} (v a b : ℕ) → IsCompressed os ts → v + 1 < length os → a ≡ get_or os v a → b ≡ get_or os (v + 1) b →
    (a ≤ b) × (b ≤ length ts) × (get_or (rows_of os ts) v [] ≡ slice_range ts a b)
row_bounds {os} {ts} v a b c l ea eb =
    let fa : a ≡ get_or os v 0 = ea ∙ get_or_default os v a 0 (omega arith) in
    let fb : b ≡ get_or os (v + 1) 0 = eb ∙ get_or_default os (v + 1) b 0 l in
    (omega (arith, c.rising v l), omega (arith, c.within (v + 1) l), rw (fa, fb) (row_of os ts v l))

up_to : (ts : List ℕ) (a b : ℕ) → a ≤ b → take b ts ≡ take a ts ++ slice_range ts a b
up_to ts a b l = let e : b ≡ a + (b - a) = omega arith in ap (λ n. take n ts) e ∙ take-add a (b - a) ts

-- where the rows are the same, so are the offsets and the targets
module _ {os ts os' ts' : List ℕ} (c : IsCompressed os ts) (d : IsCompressed os' ts') (e : rows_of os ts ≡ rows_of os' ts') where
  same_number : length os ≡ length os'
  same_number =
      omega (arith, length-rows_of os ts, length-rows_of os' ts', ap (λ (xs : List (List ℕ)). length xs) e, c.nonempty, d.nonempty)

  abbrev AreSameUpTo : ℕ → Type 0
  AreSameUpTo k = (get_or os k 0 ≡ get_or os' k 0) × (take (get_or os k 0) ts ≡ take (get_or os' k 0) ts')

  one_row_more : (k : ℕ) → k + 1 < length os → AreSameUpTo k → AreSameUpTo (k + 1)
  one_row_more k l h =
      let m : k + 1 < length os' = omega (arith, same_number) in
      let rises = c.rising k l in
      let rises' = d.rising k m in
      let row : slice_range ts (get_or os k 0) (get_or os (k + 1) 0) ≡ slice_range ts' (get_or os' k 0) (get_or os' (k + 1) 0) =
      sym (row_of os ts k l) ∙ (ap (λ (xs : List (List ℕ)). get_or xs k []) e ∙ row_of os' ts' k m) in
      let n = length-range ts (get_or os k 0) (get_or os (k + 1) 0) rises (c.within (k + 1) l) in
      let n' = length-range ts' (get_or os' k 0) (get_or os' (k + 1) 0) rises' (d.within (k + 1) m) in (
        omega (arith, n, n', ap (λ (xs : List ℕ). length xs) row, h.0, rises, rises'),
        up_to ts (get_or os k 0) (get_or os (k + 1) 0) rises
            ∙ ((λ i. h.1 i ++ row i) ∙ sym (up_to ts' (get_or os' k 0) (get_or os' (k + 1) 0) rises')),
      )

  same_up_to : (k : ℕ) → k < length os → AreSameUpTo k
  same_up_to zero l = (c.first ∙ sym d.first, ap (λ n. take n ts) c.first ∙ sym (ap (λ n. take n ts') d.first))
  same_up_to (suc k) l =
      let more : AreSameUpTo (k + 1) = one_row_more k (omega arith) (same_up_to k (omega arith)) in
      let s : suc k ≡ k + 1 = omega arith in
      subst AreSameUpTo (sym s) more

  pub same_offsets : os ≡ os'
  same_offsets = ext_get_or 0 os os' same_number (λ k l. (same_up_to k l).0)

  pub same_targets : ts ≡ ts'
  same_targets =
      let k : ℕ = length os - 1 in
      sym (take_all ts (get_or os k 0) (c.last k (omega (arith, c.nonempty))))
      ∙ ((same_up_to k (omega (arith, c.nonempty))).1
      ∙ take_all ts' (get_or os' k 0) (d.last k (omega (arith, c.nonempty, same_number))))

-- a row's end is an offset
pub row_end : (os ts : List ℕ) (v : ℕ) {rows : List (List ℕ)} → rows_of os ts ≡ rows → v < length rows → v + 1 < length os
row_end os ts v is l = let n = length-rows_of os ts in let e = ap (λ (xs : List (List ℕ)). length xs) is in omega (arith, n, e, l)
