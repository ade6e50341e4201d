-- Sizes of batches, as they are tried one after the other.
use Rattle.pg_board.proofs.Common.{rules, ◌≡◌, ◌≤◌, ◌<◌, ℕ, zero, suc, ◌+◌, ◌-◌, true, false, ◌⊎◌, refl, sym, ◌∙◌, subst, arith, ltb-true}
use Rattle.pg_board.proofs.Common.{nat_lt, false_from_ne_true}
use Rattle.std.proofs.Common.{◌≢◌, ◌*◌, ◌/◌, ◌%◌, ◌^◌, min}
use Rattle.std.proofs.Math.Nat.{div-eq_of_lt-le, le-div_iff_mul-le, two-pow-succ}
use Rattle.std.proofs.lemmas.Grind.{common_steps, div_ceil_times}
use Rattle.pg_game.specs.Specification.{max_vertices}
unfoldable use Rattle.pg_board.specs.Work.{batch_of, batches, batches_of, doubled, most_batches, most_doublings, total_of}

-- a quotient that is rounded up
pub rounded_up : (n size : ℕ) → 0 < size → n / size + min 1 (n % size) ≡ batches_of size n
rounded_up n size some =
    let b = div_ceil_times n size some in
    sym (div-eq_of_lt-le size (omega (arith, b.1, some)) (omega (arith, b.0, some)))

-- this size is tried after smaller ones that gave too many batches
pub record IsTried (n size : ℕ) : Type 0 where
  pub times : ℕ
  pub left : ℕ
  pub some : 64 ≤ size
  pub small : size ≤ 2 * n + 64
  pub size_is : size ≡ 64 * 2 ^ times
  pub same : doubled left size n ≡ batch_of n
  pub within : n ≤ size * 2 ^ left
  pub least : (k : ℕ) → k < times → most_batches < batches_of (64 * 2 ^ k) n

pub first_tried : (n : ℕ) → n ≤ max_vertices → IsTried n 64
unfolding batch_of
first_tried n l = record {
  times = 0;
  left = most_doublings;
  some = omega arith;
  small = omega arith;
  size_is = refl;
  same = refl;
  within = omega (arith, l);
  least = λ k lt. absurd (omega (arith, lt));
}

-- more batches than one, so there are more vertices than a batch has
pub too_many : (n size : ℕ) → 64 ≤ size → most_batches < batches_of size n → size < n
too_many n size some many = grind (arith, le-div_iff_mul-le)

next_one : (n size left : ℕ) → nat_lt most_batches (batches_of size n) ≡ true → doubled (suc left) size n ≡ doubled left (2 * size) n
next_one n size left t = rw t refl

none_more : (n size left : ℕ) → nat_lt most_batches (batches_of size n) ≡ false → doubled left size n ≡ size
none_more n size left f = grind (arith, common_steps)

split : (k times : ℕ) → k < suc times → (k < times) ⊎ (k ≡ times)
split k times l = search arith

pub next_tried : (n size : ℕ) → IsTried n size → most_batches < batches_of size n → IsTried n (size * 2)
next_tried n size r many = go r.left r.same r.within
  where
    t : nat_lt most_batches (batches_of size n) ≡ true
    t = search arith

    -- twice the size, once less to be doubled
    ap_within : (left : ℕ) → n ≤ size * 2 ^ suc left → n ≤ size * 2 * 2 ^ left
    ap_within left h = subst (λ (m : ℕ). n ≤ m) (again (2 ^ left) (2 ^ suc left) (two-pow-succ left)) h
      where
        again : (x y : ℕ) → y ≡ x + x → size * y ≡ size * 2 * x
        again x y e = rw e (omega arith)

    two : size * 2 ≡ 2 * size
    two = omega arith

    go : (left : ℕ) → doubled left size n ≡ batch_of n → n ≤ size * 2 ^ left → IsTried n (size * 2)
    go zero same within = absurd (let m = too_many n size r.some many in omega (arith, m, within))
    go (suc left) same within = record {
      times = suc r.times;
      left = left;
      some = let s = r.some in omega (arith, s);
      small = let m = too_many n size r.some many in omega (arith, m);
      size_is = let e = two-pow-succ r.times in let s = r.size_is in omega (arith, e, s);
      same = rw two (sym (next_one n size left t) ∙ same);
      within = ap_within left within;
      least = λ k l. search (rules, split);
    }

pub last_tried : (n size : ℕ) → IsTried n size → batches_of size n ≤ most_batches → size ≡ batch_of n
last_tried n size r few = grind (arith, common_steps, none_more, false_from_ne_true, nat_lt, ltb-true)

-- a search that is not the last job has a batch
pub has_batch : (bound n number : ℕ) → number < total_of bound n → (number ≢ 0) → (number ≢ 1) → (number + 1 ≢ total_of bound n)
    → (number - 2) / 2 < batches n
has_batch bound n number l a b d = grind arith

pub job_begins : (bound n number size : ℕ) → size ≡ batch_of n → 64 ≤ size → number < total_of bound n → (number ≢ 0) → (number ≢ 1)
    → (number + 1 ≢ total_of bound n) → size * ((number - 2) / 2) ≤ n
job_begins bound n number size e some l a b d = grind (arith, has_batch)
