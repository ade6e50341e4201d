use Rattle.pg_dominion.proofs.Common.{◌≡◌, ◌<◌, ℕ, Bool, List, length, set, false, inl, inr, refl, sym, length-set, ◌∙◌, rules, ◌==◌, cases_Bool, or_cases}
use Rattle.pg_dominion.proofs.Common.{named, members, member_below}
use Rattle.pg_dominion.proofs.Rows.{named-push}
use Rattle.pg_dominion.proofs.AttractionSteps.{read_set}
use Rattle.pg_dominion.proofs.TakenRow.{extends_taken}
use Rattle.pg_dominion.proofs.attractor.FreeVerticesAttractorState.take.Goals as goal

-- what is not in a mask is not in it without another vertex
taken_out : (mask : List Bool) (v w : ℕ) → v < length mask → members mask w ≡ false → members (set mask v false) w ≡ false
taken_out mask v w l f = search (rules, cases_Bool, read_set)

pub returns-clause-grown : goal.returns-clause-grown
returns-clause-grown c = search (rules, c.remove.ensures, c.in_ok-push.ensures.items, extends_taken, read_set, member_below, c.requires.free, c.requires.leads)

pub returns-clause-listed : goal.returns-clause-listed
returns-clause-listed c = ((c.args.v, c.args.choice), refl, c.in_ok-push.ensures.items)

pub returns-clause-free : goal.returns-clause-free
returns-clause-free c = search (rules, c.remove.ensures, read_set, member_below, c.requires.free)

pub returns-clause-ready : goal.returns-clause-ready
returns-clause-ready c =
    let mask = c.args.self.now.free in
    let rows = c.args.list.now.items in
    let v = c.args.v in
    let old = c.requires.ready in
    let l = member_below mask v c.requires.free in
    rw (c.remove.ensures, c.in_ok-push.ensures.items) (record {
      size = length-set mask v false ∙ old.size;
      cursors_size = old.cursors_size;
      apart = λ w i. elim (or_cases (named rows w) (v == w) (sym (named-push rows (v, c.args.choice) w) ∙ i)) [
        | inl n ↦ taken_out mask v w l (old.apart w n)
        | inr e ↦ rw (read_set mask v w false false l, e) refl
      ];
    })
