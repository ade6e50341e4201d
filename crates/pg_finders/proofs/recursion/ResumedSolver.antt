-- The solver where the recursion goes back: the levels, and the steps that are left.
use Rattle.pg_finders.proofs.Common.{◌≡◌, ◌≢◌, ℕ, ◌<◌, ◌≤◌, Bool, inl, inr, List, [], ◌∷◌, ◌++◌, length, take, drop, refl, sym, ◌∙◌, ap, subst}
use Rattle.pg_finders.proofs.Common.{VertexSet, arith, take-append-drop, Player, Even, Odd, opponent, Graph, In, Within, members, Frame, listed, Once, SettledLists, settled_of}
use Rattle.pg_finders.proofs.Common.{winners_of, choices_of, active_of, AreVertices, IsOrder, count_at, AreOpenLevels, IsAtEnd, IsSolverState, how_many_gone, work}
use Rattle.std.proofs.Common.{length-take}
use Rattle.pg_finders.specs.declared.recursion.Solver.{Solver}
use Rattle.pg_finders.specs.declared.recursion.order.Order.{Order}
use Rattle.pg_finders.specs.private.recursion.Partition.{IsPartition}
use Rattle.pg_finders.specs.private.recursion.Solver.{tail_at}
use Rattle.pg_finders.specs.private.recursion.GoingBack.{Shrinks, PushesFrameAgain, WinsBack, KeepsLists, count_again, frame_of}
use Rattle.pg_finders.proofs.recursion.AttractionSteps.{grown_active}
use Rattle.pg_finders.proofs.recursion.ListsAsSets.{once_drop}
use Rattle.pg_finders.proofs.recursion.PlacedLists.{lists_once}
use Rattle.pg_finders.proofs.recursion.ResumedLevels.{Resumes, between, left_aside, own_length, other_same, resumed_subgame, resumed_levels, resumed_fewer, dropped_levels}
use Rattle.pg_finders.proofs.recursion.ResumedLevels.{dropped_fewer}

-- what does not change where a subgame waits again
pub record SamePartition (x x' : Solver) : Type 0 where
  pub partition : x'.partition ≡ x.partition
  pub order : x'.order ≡ x.order
  pub opened : x'.opened ≡ x.opened
  pub size : x'.size ≡ x.size

pub after_push : (f : Frame) (k : ℕ) (x x' : Solver) → PushesFrameAgain f k x x' → SamePartition x x'
after_push f k x x' h = elim h [
  | inl a ↦ record { partition = ap (λ s. s.partition) a.1; order = ap (λ s. s.order) a.1; opened = ap (λ s. s.opened) a.1; size = ap (λ s. s.size) a.1 }
  | inr a ↦ record { partition = a.1.partition; order = a.1.order; opened = a.1.opened; size = a.1.size }
]

-- what is left of a list is as long as what is kept of it
still_fits : (k : ℕ) (xs ys : List ℕ) → take k ys ≡ take k xs → k ≤ length xs → k ≤ length ys
still_fits k xs ys e l = omega (arith, l, ap length e, length-take k xs, length-take k ys)

-- what the player's attraction wants of the solver that waits again
module _ {g : Graph} {U : VertexSet} {f : Frame} {x x1 x2 : Solver} {k : ℕ} (h : Shrinks g U f x x1 k) (w : PushesFrameAgain f k x1 x2) where
  abbrev same : SamePartition x1 x2
  same = after_push f k x1 x2 w

  pub back_partition : IsPartition (length g) x2.partition
  back_partition = subst (IsPartition (length g)) (sym same.partition) h.partition

  pub back_right : AreVertices g x2.opened.items
  back_right = subst (λ o. AreVertices g o.items) (sym same.opened) h.opened_right

  pub back_listed : Within (active_of x2.partition.subgame) (listed x2.opened.items)
  back_listed v i = subst (λ o. In (listed o.items) v) (sym same.opened) (h.opened_all v (subst (λ y. In (active_of y.subgame) v) same.partition i))

  pub back_counts : count_at f f.player ≤ length (settled_of x.partition.settled f.player)
      → count_at f f.player ≤ length (settled_of x2.partition.settled f.player)
  back_counts l = still_fits (count_at f f.player) (settled_of x.partition.settled f.player) (settled_of x2.partition.settled f.player)
      (subst (λ y. take (count_at f f.player) (settled_of y.settled f.player) ≡ take (count_at f f.player) (settled_of x.partition.settled f.player))
      (sym same.partition) h.before) l

-- what the calls say of the solver x and the solvers after each of them
pub record IsResumed (g : Graph) (mask : List Bool) (f : Frame) (x x1 x2 x3 : Solver) (k : ℕ) : Type 0 where
  pub at_end : IsAtEnd g mask x f
  pub some : length (settled_of x.partition.settled (opponent f.player)) ≢ count_at f (opponent f.player)
  pub shrinks : Shrinks g (members mask) f x x1 k
  pub waits : PushesFrameAgain f k x1 x2
  pub wins : WinsBack g (tail_at f f.player) x2.partition x3.partition
  pub partition : IsPartition (length g) x3.partition
  pub same : KeepsLists x2 x3

module _ {g : Graph} {mask : List Bool} {f : Frame} {x x1 x2 x3 : Solver} {k : ℕ} (h : IsResumed g mask f x x1 x2 x3 k) where
  abbrev p : Player
  p = f.player

  abbrev settled : Solver → SettledLists
  settled y = settled_of y.partition.settled

  abbrev kept : List ℕ
  kept = drop (count_at f p) (settled x1 p)

  waited : SamePartition x1 x2
  waited = after_push f k x1 x2 h.waits

  wins : WinsBack g (tail_at f p) x1.partition x3.partition
  wins = subst (λ y. WinsBack g (tail_at f p) y x3.partition) waited.partition h.wins

  resumes : Resumes g (members mask) x1.frames.items f (active_of x.partition.subgame) (settled x) x.set_aside.items x.partition.subgame.plan h.shrinks.taken
      x1.list.items k kept (active_of x1.partition.subgame) x1.partition.subgame.plan wins.more (active_of x3.partition.subgame) (settled x3) x3.partition.subgame.plan
  resumes = record {
    run = rw (← h.shrinks.frames) h.at_end.running.open_levels;
    none = h.at_end.none;
    some = h.some;
    shrunk = h.shrinks.shrunk;
    kept_once = once_drop (count_at f p) (settled x1 p) (lists_once h.shrinks.partition.placed p);
    own = wins.own ∙ ap (λ xs. xs ++ wins.more) (sym (take-append-drop (count_at f p) (settled x1 p)) ∙ ap (λ xs. xs ++ kept) h.shrinks.before);
    other = wins.other ∙ h.shrinks.lost;
    grown = wins.grown;
    done = wins.done;
  }

  again_counts : (r s : Player) (B C : SettledLists) → length (B r) ≡ count_at f r → C (opponent r) ≡ B (opponent r) → count_again f C r s ≡ length (B s)
  again_counts Even Even B C a b = sym a
  again_counts Even Odd B C a b = ap length b
  again_counts Odd Even B C a b = ap length b
  again_counts Odd Odd B C a b = sym a

  counts : (r : Player) → count_again f (settled x1) p r ≡ length (between resumes r)
  counts r = again_counts p r (between resumes) (settled x1) (own_length resumes) (h.shrinks.lost ∙ sym (other_same resumes))

  abbrev again : Frame
  again = frame_of p k (count_again f (settled x1) p Even) (count_again f (settled x1) p Odd) x1

  counts_at : (r : Player) → count_at again r ≡ length (between resumes r)
  counts_at Even = counts Even
  counts_at Odd = counts Odd

  from : length x1.set_aside.items ≡ length (left_aside resumes)
  from = ap length h.shrinks.set_aside

  aside_is : x1.set_aside.items ++ x1.list.items ≡ left_aside resumes ++ x1.list.items
  aside_is = ap (λ xs. xs ++ x1.list.items) h.shrinks.set_aside

  -- the levels as they are now, of which fewer steps are left
  now : AreOpenLevels g (members mask) (active_of x3.partition.subgame) (settled x3) x3.set_aside.items x3.frames.items (winners_of x3.partition.subgame.plan)
      (choices_of x3.partition.subgame.plan) × (work g mask x3 < work g mask x)
  now = elim h.waits [
    | inl a ↦ (
        let aside : x3.set_aside.items ≡ left_aside resumes = ap (λ s. s.items) (h.same.set_aside ∙ ap (λ s. s.set_aside) a.1) ∙ h.shrinks.set_aside in
        let frames : x3.frames.items ≡ x1.frames.items = ap (λ s. s.items) (h.same.frames ∙ ap (λ s. s.frames) a.1) in (
          rw (aside, frames) (dropped_levels resumes a.0),
          rw (aside, frames, h.shrinks.frames) (dropped_fewer resumes a.0 mask refl (how_many_gone (settled x) x.set_aside.items)),
        ))
    | inr a ↦ (
        let aside : x3.set_aside.items ≡ left_aside resumes ++ x1.list.items = ap (λ s. s.items) h.same.set_aside ∙ (a.1.set_aside ∙ aside_is) in
        let frames : x3.frames.items ≡ x1.frames.items ++ again ∷ [] = ap (λ s. s.items) h.same.frames ∙ a.1.frames in
        let some : 0 < k = omega (arith, a.0) in (
          rw (aside, frames) (resumed_levels resumes again refl counts_at from refl (ap length aside_is) some),
          rw (aside, frames, h.shrinks.frames) (resumed_fewer resumes again refl counts_at from refl (ap length aside_is) some mask refl
              (how_many_gone (settled x) x.set_aside.items)),
        ))
  ]

  pub fewer_now : work g mask x3 < work g mask x
  fewer_now = now.1

  pub running_now : (order : Order) → IsOrder g (active_of x3.partition.subgame) order → IsSolverState g mask (record x3 { order = order })
  running_now order is = record {
    inside_length = h.at_end.running.inside_length;
    whole = h.same.size ∙ (waited.size ∙ (h.shrinks.size ∙ h.at_end.running.whole));
    sizes = h.partition.sizes;
    subgame = resumed_subgame resumes;
    order = is;
    placed = h.partition.placed;
    open_levels = now.0;
  }

  -- what the order is filled with
  opened_same : x3.opened ≡ x1.opened
  opened_same = h.same.opened ∙ waited.opened

  pub opened_right : AreVertices g x3.opened.items
  opened_right = subst (λ o. AreVertices g o.items) (sym opened_same) h.shrinks.opened_right

  pub opened_once : Once x3.opened.items
  opened_once = subst (λ o. Once o.items) (sym opened_same) h.shrinks.opened_once

  pub opened_all : Within (active_of x3.partition.subgame) (listed x3.opened.items)
  opened_all v i = subst (λ o. In (listed o.items) v) (sym opened_same) (h.shrinks.opened_all v (grown_active wins.grown v i))
