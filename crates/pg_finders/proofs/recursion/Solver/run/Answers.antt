use Rattle.pg_finders.proofs.Common.{◌≡◌, ◌+◌, ◌-◌, ◌<◌, ◌≤◌, ℕ, zero, suc, List, [], ◌∷◌, ◌++◌, length, take, refl, sym, ◌∙◌, ap, arith, take_all, Frame}
use Rattle.pg_finders.proofs.Common.{Option, None, Some, AreFewer, HasStepped, number_left, inl, inr, true, false}
use Rattle.std.proofs.lemmas.List.{take_more}
use Rattle.std.proofs.lemmas.Option.{slice_get_within, slice_get-get_or, get_or_from_slice_get}
use Rattle.std.specs.List.{slice_get}
use Rattle.pg_finders.specs.private.recursion.Solver.{after_step}
use Rattle.pg_finders.proofs.Sets.{no_both}
use Rattle.pg_finders.proofs.recursion.LoopSteps.{open_levels_done}
use Rattle.pg_finders.proofs.recursion.Solver.run.Goals as goal

-- the last item of a list comes after the others, and a list without one has none
last_split : (xs : List Frame) (f : Frame) → slice_get xs (length xs - 1) ≡ Some f → xs ≡ take (length xs - 1) xs ++ f ∷ []
last_split xs f h =
    let k = length xs - 1 in
    let low = slice_get_within xs k f h in
    sym (take_all (k + 1) xs (omega arith)) ∙ (take_more xs k f low ∙ ap (λ g. take k xs ++ g ∷ []) (get_or_from_slice_get xs k f f h))

no_last : (xs : List Frame) → slice_get xs (length xs - 1) ≡ None → xs ≡ []
no_last [] h = refl
no_last (x ∷ xs) h = absurd (let some = slice_get-get_or (x ∷ xs) (length (x ∷ xs) - 1) x (omega arith) in cc (some, h))

pub leave-requires : goal.leave-requires
leave-requires c = record {
  running = c.steps.invariant.running;
  before = take (length c.steps.self.frames.items - 1) c.steps.self.frames.items;
  last = last_split c.steps.self.frames.items c.in-Some.field-0.now (sym (rw c.deref.ensures.value at c.in-Some.ensures.value));
  none = c.has_more.ensures.none c.if-has_more.false;
}

-- where a step is left and taken, no more of them are spent than the work falls
fewer_left : (given left : Option ℕ) → AreFewer given left → AreFewer given (after_step left)
fewer_left None left h = ap after_step h
fewer_left (Some n) None h = h
fewer_left (Some n) (Some m) h = (omega (arith, h.0), refl)

step_spent : (left : Option ℕ) (before after given whole : ℕ) → (left ≡ Some 0 → ⊥) → after < before → before + given ≤ whole + number_left left
    → after + given ≤ whole + number_left (after_step left)
step_spent None before after given whole some l h = omega (arith, l, h)
step_spent (Some zero) before after given whole some l h = absurd (some refl)
step_spent (Some (suc n)) before after given whole some l h = omega (arith, l, h)

step_taken : (given left : Option ℕ) → AreFewer given left → (left ≡ Some 0 → ⊥) → HasStepped given (after_step left)
step_taken None left h some = tt
step_taken (Some n) None h some = absurd (let e : false ≡ true = h.1 in cc e)
step_taken (Some n) (Some zero) h some = absurd (some refl)
step_taken (Some n) (Some (suc m)) h some = (omega (arith, h.0), refl)

pub steps-preserved-then-has_more : goal.steps-preserved-then-has_more
steps-preserved-then-has_more c =
    let i = c.steps.invariant in
    let some : c.steps.left ≡ Some 0 → ⊥ = λ e. absurd (cc (c.take_step.ensures.none e, c.if-not-take_step.false)) in
    record {
      running = c.in_ok-enter.ensures.running;
      fewer = rw c.take_step.ensures.one (fewer_left c.args.left.now c.steps.left i.fewer);
      spends = rw c.take_step.ensures.one (step_spent c.steps.left _ _ _ _ some c.in_ok-enter.ensures.fewer i.spends);
      charged = λ v m. inl (rw c.take_step.ensures.one (step_taken c.args.left.now c.steps.left i.fewer some));
    }

pub steps-preserved : goal.steps-preserved
steps-preserved c =
    let i = c.steps.invariant in
    record {
      running = c.in_ok-leave.ensures.running;
      fewer = i.fewer;
      spends = omega (arith, i.spends, c.in_ok-leave.ensures.fewer);
      charged = λ v m. elim (i.charged v m) [ inl t ↦ inl t | inr a ↦ absurd (no_both a (c.has_more.ensures.none c.if-has_more.false v)) ];
    }

pub returns-clause-solved : goal.returns-clause-solved
returns-clause-solved c _ =
    let none = no_last c.steps.self.frames.items (sym (rw (c.deref.ensures.value, c.in_default.is) at c.last.ensures.value)) in
    open_levels_done c.steps.invariant.running.open_levels none (c.has_more.ensures.none c.if-has_more.false)

pub returns-clause-charged : goal.returns-clause-charged
returns-clause-charged c _ v m = elim (c.steps.invariant.charged v m) [
  | inl t ↦ t
  | inr a ↦ absurd (no_both a (c.has_more.ensures.none c.if-has_more.false v))
]
