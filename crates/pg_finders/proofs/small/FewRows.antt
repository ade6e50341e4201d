-- A few rows in an array, and the rows that they are.
use Rattle.pg_finders.proofs.Common.{◌≡◌, ℕ, ◌<◌, length, take, set, sym, ◌∙◌, ap, arith, Option, get_or-take, ClaimRows}
use Rattle.std.proofs.lemmas.List.{length-take-le}
use Rattle.std.proofs.Math.Seq.{take-set-lt}
use Rattle.std.specs.Prelude.{None}
use Rattle.pg_dominion.specs.Claim.{row_at}
use Rattle.pg_finders.specs.private.small.Few.{IsFew}

module _ (rows now : ClaimRows) (len : ℕ) (few : IsFew rows len) (view : take len rows ≡ now) where
  pub view_length : len ≡ length now
  view_length = sym (ap length (sym view) ∙ length-take-le len rows (omega (arith, few.size, few.within)))

  pub view_row : (at : ℕ) → at < length now → row_at rows at ≡ row_at now at
  view_row at l = sym (ap (λ (xs : ClaimRows). row_at xs at) (sym view) ∙ get_or-take len rows at (0, None) (omega (arith, view_length)))

  pub view_set : (at : ℕ) (r : ℕ × Option ℕ) → at < length now → take len (set rows at r) ≡ set now at r
  view_set at r l = take-set-lt len rows at r (omega (arith, view_length)) ∙ ap (λ (xs : ClaimRows). set xs at r) view
