-- What the loop owes where it finishes the last subgame that waits: all is settled as the player's.
use Rattle.pg_finders.proofs.Common.{◌≡◌, ℕ, ◌<◌, Bool, ◌&&◌, ◌||◌, not, ◌⊎◌, inl, inr, List, [], ◌∷◌, ◌++◌, length, take, drop}
use Rattle.pg_finders.proofs.Common.{refl, sym, ◌∙◌, ap, arith, append_assoc, rules, or_parts, false_from_ne_true, Player}
use Rattle.pg_finders.proofs.Common.{opponent, Graph, VertexSet, In, members, own_or_other, Plan, Frame, Once, listed, SettledLists, settled_of}
use Rattle.pg_finders.proofs.Common.{winners_of, choices_of, how_many, IsBegun, IsSolvedInside, active_of, count_at, prefix, level_at, AreOpenLevels, IsAtEnd, IsSolverState}
use Rattle.pg_finders.proofs.Common.{how_many_gone, work, priority_count}
use Rattle.std.proofs.Common.{length-drop}
use Rattle.pg_finders.specs.declared.recursion.Solver.{Solver}
use Rattle.pg_finders.specs.private.recursion.Settled.{IsPlaced}
use Rattle.pg_finders.proofs.Sets.{no_both, only, minus}
use Rattle.pg_finders.proofs.recursion.ListsAsSets.{in_prefix, in_rest, prefix_or_rest, in_drop, once_join, once_drop, apart_from, some_length}
use Rattle.pg_finders.proofs.SolvedSubgames.{IsSolvedTo-subst, all_won}
use Rattle.pg_finders.proofs.recursion.LoopSteps.{Finishes, lists_fit, last_begun, since_inside, since_left, aside_inside, inside_cases, left_cases}
use Rattle.pg_finders.proofs.recursion.LoopSteps.{left_solved, finish_more, open_levels_finish}
use Rattle.pg_finders.proofs.recursion.StepBounds.{work_finish}
use Rattle.pg_finders.proofs.recursion.SharedLists.{cut}

-- each list gets what was set aside, and nothing else but the number of those that wait has changed
pub record SettlesAside (g : Graph) (x z : Solver) (f : Frame) : Type 0 where
  pub subgame : z.partition.subgame ≡ x.partition.subgame
  pub order : z.order ≡ x.order
  pub size : z.size ≡ x.size
  pub frames : x.frames.items ≡ z.frames.items ++ f ∷ []
  pub set_aside : z.set_aside.items ≡ take f.set_aside_from x.set_aside.items
  pub own : settled_of z.partition.settled f.player ≡ settled_of x.partition.settled f.player ++ drop f.set_aside_from x.set_aside.items
  pub other : settled_of z.partition.settled (opponent f.player) ≡ settled_of x.partition.settled (opponent f.player)
  pub placed : IsPlaced (length g) z.partition.settled

-- The player won all that was left.
module _ {g : Graph} {inside : List Bool} {x z : Solver} {f : Frame} (h : IsAtEnd g inside x f)
    (all : length (settled_of x.partition.settled (opponent f.player)) ≡ count_at f (opponent f.player)) (c : SettlesAside g x z f) where
  abbrev frames : List Frame
  frames = z.frames.items

  abbrev U : VertexSet
  U = members inside

  abbrev X : VertexSet
  X = active_of x.partition.subgame

  abbrev settled : SettledLists
  settled = settled_of x.partition.settled

  abbrev set_aside : List ℕ
  set_aside = x.set_aside.items

  abbrev old : Plan
  old = x.partition.subgame.plan

  abbrev p : Player
  p = f.player

  abbrev q : Player
  q = opponent f.player

  abbrev I : VertexSet
  I = (level_at U settled set_aside f).inside

  abbrev L : VertexSet
  L = (level_at U settled set_aside f).left

  abbrev since : SettledLists
  since r = drop (count_at f r) (settled r)

  abbrev B : List ℕ
  B = drop f.set_aside_from set_aside

  run : AreOpenLevels g U X settled set_aside (frames ++ f ∷ []) (winners_of old) (choices_of old)
  run = rw (← c.frames) h.running.open_levels

  begun : IsBegun g I (level_at U settled set_aside f).tops L p (winners_of old) (choices_of old)
  begun = last_begun frames f run

  solved : IsSolvedInside g L (winners_of old) (choices_of old)
  solved = left_solved frames f run h.none

  inside_of : (r : Player) (v : ℕ) → In (listed (since r)) v → In I v
  inside_of = since_inside frames f run

  aside_of : (v : ℕ) → In (listed B) v → In I v
  aside_of = aside_inside frames f run

  cases : (v : ℕ) → In I v → ((r : Player) × In (listed (since r)) v) ⊎ In (listed B) v
  cases = inside_cases frames f run h.none

  his : (r : Player) (v : ℕ) → In (listed (since r)) v → winners_of old v ≡ r
  his r v i = run.his r v (in_drop (count_at f r) (settled r) v i)

  -- what is set aside is not settled
  not_aside : (r : Player) (v : ℕ) → In (listed (since r)) v → In (listed B) v → ⊥
  not_aside r v i j = no_both (in_drop f.set_aside_from set_aside v j) (run.apart.aside_apart r v (in_drop (count_at f r) (settled r) v i))

  aside_his : (v : ℕ) → In (listed B) v → winners_of old v ≡ p
  aside_his v i = begun.his v (minus (aside_of v i) (false_from_ne_true (L v) (λ y. (let k = (left_cases frames f run h.none) v y in not_aside k.0 v k.1 i))))

  some_aside : (v : ℕ) × In (listed B) v
  some_aside =
      let s = begun.some in
      let b = only (I s.0) (L s.0) (begun.attracted.target s.0 s.1) in
      elim (cases s.0 b.0) [
        | inl (r, y) ↦ absurd (no_both (since_left frames f run r s.0 y) b.1)
        | inr y ↦ (s.0, y)
      ]

  once_since : (r : Player) → Once (since r)
  once_since r = once_drop (count_at f r) (settled r) (run.apart.settled_once r)

  none_lost : (v : ℕ) → In (listed (since q)) v → ⊥
  none_lost v i = (let a = some_length (since q) v i in absurd (omega (arith, a, all, length-drop (count_at f q) (settled q))))

  -- all inside is what the player has
  taken_all : (v : ℕ) → In I v → In (listed (since p ++ B)) v
  taken_all v i = search (rules, cases, own_or_other, in_prefix, none_lost, in_rest)

  own_cases : (P : ℕ → Type 0) → ((v : ℕ) → In (listed (since p)) v → P v) → ((v : ℕ) → In (listed B) v → P v) → (v : ℕ) → In (listed (since p ++ B)) v → P v
  own_cases P a b v i = elim (prefix_or_rest (since p) B v i) [ inl y ↦ a v y | inr y ↦ b v y ]

  mine : (v : ℕ) → In (listed (since p ++ B)) v → winners_of old v ≡ p
  mine = own_cases (λ v. winners_of old v ≡ p) (his p) aside_his

  settles : Finishes g p I X (prefix f settled) (settled_of z.partition.settled) (since p ++ B) (since q) (winners_of old) (winners_of old) (choices_of old) (choices_of old)
  settles = record {
    own_is = c.own ∙ (ap (λ ys. ys ++ B) (cut f settled p) ∙ append_assoc (prefix f settled p) (since p) B);
    other_is = c.other ∙ cut f settled q;
    own_within = own_cases (In I) (inside_of p) aside_of;
    other_within = inside_of q;
    own_once = once_join (since p) B (once_since p) (once_drop f.set_aside_from set_aside run.apart.aside_once) (apart_from (since p) B (not_aside p));
    other_once = once_since q;
    apart = apart_from (since p ++ B) (since q) (λ v i j. none_lost v j);
    left = λ v. h.none v ∙ sym (false_from_ne_true (I v && not (listed (since p ++ B) v || listed (since q) v)) (λ y.
        (let b = only (I v) (listed (since p ++ B) v || listed (since q) v) y in
        no_both (taken_all v b.0) (or_parts (listed (since p ++ B) v) (listed (since q) v) b.1).0)));
    own_won = mine;
    other_won = his q;
    same = λ v n. (refl, refl);
    solved = IsSolvedTo-subst (λ v. sym (h.none v))
        (all_won begun solved (λ v l. mine v (taken_all v (begun.within v l))));
  }

  now : AreOpenLevels g U X (settled_of z.partition.settled) (take f.set_aside_from set_aside) frames (winners_of old) (choices_of old)
  now = open_levels_finish frames f run settles

  pub finished : IsSolverState g inside z
  finished = record {
    inside_length = h.running.inside_length;
    whole = c.size ∙ h.running.whole;
    sizes = rw c.subgame h.running.sizes;
    subgame = rw c.subgame h.running.subgame;
    order = rw (c.subgame, c.order) h.running.order;
    placed = c.placed;
    open_levels = rw (c.subgame, c.set_aside) now;
  }

  -- and fewer steps are left
  pub finished_fewer : work g inside z < work g inside x
  finished_fewer =
      let some : 0 < length (since p ++ B) = some_length (since p ++ B) some_aside.0 (in_rest (since p) B some_aside.0 some_aside.1) in
      rw (c.frames, c.set_aside) (work_finish (priority_count g U) (how_many inside) (how_many_gone settled set_aside)
      (how_many_gone (settled_of z.partition.settled) (take f.set_aside_from set_aside)) frames f (finish_more frames f run settles (omega (arith, some)))
      (lists_fit inside now.apart now.listed_inside))
