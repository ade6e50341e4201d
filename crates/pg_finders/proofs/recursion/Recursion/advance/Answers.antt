use Rattle.pg_finders.proofs.Common.{◌≡◌, ◌<◌, ℕ, Bool, List, Option, None, Some, In, HasStepped, ap, false, members, refl, subst, sym, true}
use Rattle.std.specs.Option.{IsSome}
use Rattle.std.specs.Prelude.{unwrap_or}
use Rattle.pg_finders.specs.Run.{Run}
use Rattle.pg_finders.specs.declared.recursion.Solved.{Solved}
use Rattle.pg_finders.proofs.recursion.Recursion.advance.Goals as goal

pub invariant_of-view : goal.invariant_of-view
invariant_of-view c = rw c.deref.ensures record {
  size = c.self.invariant.1.inside_length;
  no_dead_end = λ v d. (let s = c.self.invariant.0.successor v d.0 in d.1 s.0 s.1 s.2);
}

stepped_below : (n : ℕ) (left : Option ℕ) → HasStepped (Some n) left → unwrap_or left 0 < n
stepped_below n None h = absurd (let e : false ≡ true = h.1 in cc e)
stepped_below n (Some m) h = h.0

pub returns-in-Some-clause-charged : goal.returns-in-Some-clause-charged
returns-in-Some-clause-charged c = λ v m.
    let more = c.self.invariant.2 v (subst (λ (mask : List Bool). In (members mask) v) (sym (ap (λ (r : Run). r.mask) c.self.view_is)) m) in
    let some = subst (λ (found : Option Solved). IsSome found) (sym c.in-Some.is) refl in
    let stepped = c.in_ok-solved.ensures.charged some more.0 more.1 in
    rw c.unwrap_or.ensures (stepped_below c.args.steps.now c.solve-found.new.left stepped)
