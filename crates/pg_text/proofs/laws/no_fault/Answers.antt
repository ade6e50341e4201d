use Rattle.pg_text.proofs.Common.{◌≡◌, ℕ, ◌<◌, ◌∷◌, length, lt-ltb, sym, ◌∙◌, ap, subst, rules, Some, None, Player, Graph, HasEdge, In, SolutionRows, winner_of}
use Rattle.pg_text.proofs.Common.{won_by, IsSolution, LacksChoice, HasBadChoice, Leaves, IsOnBadWalk}
use Rattle.pg_game.specs.Player.{opponent, of_parity}
use Rattle.pg_text.specs.Laws.{SolutionHasNoFault}
use Rattle.pg_text.proofs.Verdict.{won}
use Rattle.pg_text.proofs.laws.no_fault.Goals as goal

other : (p : Player) → p ≡ opponent p → ⊥
other x0 e = search (rules)

module _ (g : Graph) (rows : SolutionRows) (s : IsSolution g rows) where
  inside : (v : ℕ) → v < length g → In (won_by rows (winner_of rows v)) v
  inside v l = search (rules, lt-ltb, s.size)

  no_lack : (v : ℕ) → LacksChoice g rows v → ⊥
  no_lack v (l, o, e) =
      let c = (s.regions (winner_of rows v)).choices v (inside v l) o in
      let k : Some c.0 ≡ None = sym c.1 ∙ e in
      cc k

  no_bad : (v : ℕ) → HasBadChoice g rows v → ⊥
  no_bad v (l, o, (w, e, n)) =
      let c = (s.regions (winner_of rows v)).choices v (inside v l) o in
      let k : Some c.0 ≡ Some w = sym c.1 ∙ e in
      let m : c.0 ≡ w = cc k in
      n (subst (λ x. HasEdge g v x) m c.2)

  no_leave : (v w : ℕ) → Leaves g rows v w → ⊥
  no_leave v w (k, d) = let i = (s.regions (winner_of rows v)).closed v w k in d (won g rows s.size (winner_of rows v) w i).1

  no_walk : (v : ℕ) → IsOnBadWalk g rows v → ⊥
  no_walk v (vs, c, e, q) =
      let h = (s.regions (winner_of rows v)).good (v ∷ vs) c in
      other (winner_of rows v) (sym h ∙ (ap of_parity (sym e) ∙ q))

solution_has_no_fault : SolutionHasNoFault
solution_has_no_fault g rows s = record { choices = no_lack g rows s; edges = no_bad g rows s; inside = no_leave g rows s; walks = no_walk g rows s }

pub returns : goal.returns
returns c = solution_has_no_fault
