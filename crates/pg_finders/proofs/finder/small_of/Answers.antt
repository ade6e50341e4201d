use Rattle.pg_finders.proofs.Common.{◌≡◌, ℕ, Bool, false, List, [], ◌∷◌, subst, min, IfOk, Player, Graph, VertexSet, members, Claim, ClaimRows, IsOfSmall}
use Rattle.std.proofs.Common.{Result, Ok, Err}
use Rattle.pg_finders.specs.declared.finder.Found.{Found}
use Rattle.pg_finders.specs.Finding.{IsSmall}
use Rattle.pg_finders.proofs.finder.small_of.Goals as goal

told : {E : Type 0} (g : Graph) (U : VertexSet) (p : Player) (seeds : List ℕ) (bound budget : ℕ) (r : Result Found E) (xs : List Claim) (t : Bool)
    → IfOk r (λ f. f.claims.items ≡ xs) → IfOk r (λ f. f.gave_up ≡ t) → IsOfSmall g U p seeds bound budget xs t
    → IfOk r (λ f. IsOfSmall g U p seeds bound budget f.claims.items f.gave_up)
told g U p seeds bound budget (Ok f) xs t e h s = rw (e, h) s
told g U p seeds bound budget (Err x) xs t e h s = tt

pub returns-in-Found : goal.returns-in-Found
returns-in-Found c =
    let i = c.args.inside.now in
    let ws = c.args.seeds.now in
    let h = rw c.in-Found.is at c.in_ok-claim.ensures in
    let o = c.all_of-in-Found in
    let x = c.in-Found.claim in
    let small = subst (λ (b : ℕ). IsSmall i.graph (members i.mask) c.args.player ws b x.rows) c.min.ensures h.1 in
    told i.graph (members i.mask) c.args.player ws (min c.args.bound 8) c.args.budget o.result (x ∷ []) false o.ensures.claims o.ensures.gave_up
    (h.0, small)

pub returns-in-Nothing : goal.returns-in-Nothing
returns-in-Nothing c =
    let i = c.args.inside.now in
    let ws = c.args.seeds.now in
    let o = c.all_of-in-Nothing in
    let none = subst (λ (b : ℕ). (rows : ClaimRows) → IsSmall i.graph (members i.mask) c.args.player ws b rows → ⊥) c.min.ensures
    (rw c.in-Nothing.is at c.in_ok-claim.ensures) in
    told i.graph (members i.mask) c.args.player ws (min c.args.bound 8) c.args.budget o.result [] false o.ensures.claims o.ensures.gave_up none

pub returns-in-GaveUp : goal.returns-in-GaveUp
returns-in-GaveUp c = rw (c.new.ensures.items, ← c.min.ensures) (rw c.in-GaveUp.is at c.in_ok-claim.ensures)
