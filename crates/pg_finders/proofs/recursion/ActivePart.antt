-- What the loop owes where it begins the active part.
use Rattle.pg_finders.proofs.Common.{◌≡◌, ℕ, ◌+◌, ◌-◌, ◌<◌, ◌≤◌, ◌&&◌, not, List, Bool, true, false, [], ◌∷◌, ◌++◌, All, length, take, refl, sym, ◌∙◌, ap, arith}
use Rattle.pg_finders.proofs.Common.{subst, fun_ext, length-append, false_from_ne_true, member_below, Player, Even, Odd, Graph, Choices, VertexSet, In, Within}
use Rattle.pg_finders.proofs.Common.{members, Frame, SettledLists, how_many, Winners, of_parity, Once, place, AreGreatest, priority_of}
use Rattle.pg_finders.proofs.Common.{how_many_gone, steps_left, steps, work, priority_count, cases_lt, inl, inr, listed, without, settled_of, active_of, IsBegun, IsOrder, IsSolverState}
use Rattle.pg_finders.proofs.Common.{SameOutside, winners_of, choices_of, count_at}
use Rattle.pg_finders.specs.declared.recursion.Solver.{Solver}
use Rattle.pg_finders.specs.declared.recursion.order.Order.{Order}
use Rattle.pg_finders.specs.declared.recursion.settled.Tail.{Tail}
use Rattle.pg_finders.specs.private.recursion.Partition.{IsPartition, BeginsAgain}
use Rattle.pg_finders.specs.private.recursion.GoingBack.{PushesFrame, frame_of}
use Rattle.pg_finders.proofs.Sets.{only, minus, no_both}
use Rattle.pg_finders.proofs.SolvedSubgames.{IsAttracted-subst, back_equal, left_subgame}
use Rattle.pg_finders.proofs.recursion.FilteredLists.{filter_keeps, filter_passed}
use Rattle.pg_finders.proofs.recursion.ListsAsSets.{some_length, all_below}
use Rattle.pg_finders.proofs.recursion.LoopSteps.{Begins, open_levels_begin, begins_deeper, lists_fit}
use Rattle.pg_finders.proofs.recursion.SharedLists.{part_of}
use Rattle.pg_finders.proofs.recursion.StepBounds.{work_begin}
use Rattle.pg_finders.proofs.recursion.WonBack.{free_here}

-- the steps fall, since some vertex is set aside
pub enters_fewer : {g : Graph} (inside : List Bool) {active active' : VertexSet} {settled : SettledLists} {set_aside added : List ℕ} {frames : List Frame}
    {f : Frame} {won won' : Winners} {s s' : Choices} → Begins g (members inside) active active' settled set_aside added frames f won won' s s'
    → 0 < length added → let d = priority_count g (members inside) in let n = how_many inside in
    steps (d - length (frames ++ f ∷ [])) (n - how_many_gone settled (set_aside ++ added)) + steps_left d n (frames ++ f ∷ [])
    < steps (d - length frames) (n - how_many_gone settled set_aside) + steps_left d n frames
enters_fewer {g} inside {settled = settled} {set_aside = set_aside} {added = added} {frames = frames} {f = f} b some =
    let even : f.even ≡ length (settled Even) = b.counts Even in
    let odd : f.odd ≡ length (settled Odd) = b.counts Odd in
    let now = open_levels_begin b in
    work_begin (priority_count g (members inside)) (how_many inside) (how_many_gone settled set_aside) (how_many_gone settled (set_aside ++ added)) frames f
    (begins_deeper b) (omega (arith, even, odd, b.from)) (omega (arith, some, length-append set_aside added)) (lists_fit inside now.apart now.listed_inside)

-- no settled vertex is active
pub running_partition : {g : Graph} {inside : List Bool} {x : Solver} → IsSolverState g inside x → IsPartition (length g) x.partition
running_partition {g} {inside} {x} h = record {
  sizes = h.sizes;
  placed = h.placed;
  apart = λ p v i. false_from_ne_true (active_of x.partition.subgame v) (λ a. no_both i
      ((part_of (members inside) (settled_of x.partition.settled) x.set_aside.items v (sym (h.open_levels.active_is v) ∙ a)).1 p));
}

pub greatest_below : {g : Graph} {inside : List Bool} {x : Solver} {top : ℕ} {list : List ℕ} → IsSolverState g inside x
    → AreGreatest g (active_of x.partition.subgame) top list → All (λ v. v < length g) list
greatest_below {g} {inside} {x} {top} {list} h greatest = all_below (length g) list (λ v i.
    (let l = member_below x.partition.subgame.active v (greatest.inside v i) in omega (arith, l, h.sizes.active)))

-- The active part is begun, and its attractor is listed, the greatest vertices first. Of the solver no other list has changed.
pub record BeginsPart (g : Graph) (p : Player) (k even odd : ℕ) (x y : Solver) : Type 0 where
  pub settled : (q : Player) → settled_of y.partition.settled q ≡ settled_of x.partition.settled q
  pub set_aside : y.set_aside.items ≡ x.set_aside.items
  pub frames : y.frames.items ≡ x.frames.items
  pub size : y.size ≡ x.size
  pub order : IsOrder g (active_of y.partition.subgame) y.order
  pub partition : IsPartition (length g) y.partition
  pub once : Once y.list.items
  pub few : k ≤ length y.list.items
  pub begun : IsBegun g (active_of x.partition.subgame) (listed (take k y.list.items)) (active_of y.partition.subgame) p (winners_of y.partition.subgame.plan)
      (choices_of y.partition.subgame.plan)
  pub listed_is : (v : ℕ) → listed y.list.items v ≡ without (active_of x.partition.subgame) (active_of y.partition.subgame) v
  pub same : SameOutside (active_of x.partition.subgame) x.partition.subgame.plan y.partition.subgame.plan
  pub even_is : even ≡ length (settled_of y.partition.settled Even)
  pub odd_is : odd ≡ length (settled_of y.partition.settled Odd)

-- of an order, fewer vertices may be active
order_fewer : {g : Graph} {A B : VertexSet} {order : Order} → Within B A → IsOrder g A order → IsOrder g B order
order_fewer l o = record { right = o.right; rising = o.rising; distinct = o.distinct; upto = o.upto; stand = λ v i. o.stand v (l v i) }

-- So it is where a subgame begins at the greatest vertices, and nothing is free that is not active.
module _ {g : Graph} {inside : List Bool} {x : Solver} (h : IsSolverState g inside x) (y : Solver) {p : Player} {none : Tail} {k top : ℕ}
    {tops : List ℕ} (his : none.player ≡ p) (from : none.from ≡ length (settled_of x.partition.settled none.player)) (parity : of_parity top ≡ p)
    (greatest : AreGreatest g (active_of x.partition.subgame) top tops) (b : BeginsAgain g none tops x.partition y.partition y.list.items k)
    (partition : IsPartition (length g) y.partition) (order : IsOrder g (without (active_of x.partition.subgame) (listed tops)) y.order) where
  abbrev A : VertexSet
  A = active_of x.partition.subgame

  abbrev L : VertexSet
  L = active_of y.partition.subgame

  listed_in : (v : ℕ) → In (listed y.list.items) v → In A v
  listed_in v i = b.attracted.inside v i

  aside_is : (v : ℕ) → listed y.list.items v ≡ without A L v
  aside_is v = back (A v) (L v) (listed y.list.items v) (b.active v) (listed_in v)
    where
      back : (a l m : Bool) → l ≡ (a && not m) → (m ≡ true → a ≡ true) → m ≡ (a && not l)
      back true l true e f = rw e refl
      back true l false e f = rw e refl
      back false l true e f = absurd (let q = f refl in cc q)
      back false l false e f = refl

  top_was : (v : ℕ) → In (listed (take k y.list.items)) v → In (listed tops) v
  top_was v i = (filter_passed (λ u. A u) tops v (subst (λ xs. In (listed xs) v) b.tops i)).0

  top_is : (v : ℕ) → In (listed tops) v → In (listed (take k y.list.items)) v
  top_is v i = subst (λ xs. In (listed xs) v) (sym b.tops) (filter_keeps (λ u. A u) tops v i (greatest.inside v i))

  begun_here : IsBegun g A (listed (take k y.list.items)) L none.player (winners_of y.partition.subgame.plan) (choices_of y.partition.subgame.plan)
  begun_here = record {
    subgame = h.subgame;
    within = λ v i. (only (A v) (listed y.list.items v) (sym (b.active v) ∙ i)).0;
    rank = place y.list.items;
    parity = λ t i. ap of_parity (greatest.own t (top_was t i)) ∙ (parity ∙ sym his);
    below = λ t v i u n. elim (cases_lt (priority_of g v) (priority_of g t)) [
      | inl l ↦ l
      | inr l ↦ absurd (no_both (top_is v (greatest.all v u (omega (arith, greatest.own t (top_was t i), greatest.most v u, l)))) n)
    ];
    attracted = IsAttracted-subst aside_is b.attracted;
    chosen = λ v i o. (let q = b.chosen v i o in (q.0, q.1, q.2, sym (free_here none h_partition from q.0) ∙ q.3));
    his = λ v i. b.his v (aside_is v ∙ i);
    some = (greatest.some.0, top_is greatest.some.0 greatest.some.1);
  }
    where
      h_partition : IsPartition (length g) x.partition
      h_partition = running_partition h

  pub begins_part : {even odd : ℕ} → y.set_aside.items ≡ x.set_aside.items → y.frames.items ≡ x.frames.items → y.size ≡ x.size
      → even ≡ length (settled_of y.partition.settled Even) → odd ≡ length (settled_of y.partition.settled Odd) → BeginsPart g p k even odd x y
  begins_part set_aside frames size even_is odd_is = record {
    settled = b.settled;
    set_aside = set_aside;
    frames = frames;
    size = size;
    order = order_fewer (λ v i. (let a = only (A v) (listed y.list.items v) (sym (b.active v) ∙ i) in
        minus a.0 (false_from_ne_true (listed tops v) (λ j. no_both (b.attracted.target v (top_is v j)) a.1)))) order;
    partition = partition;
    once = b.once;
    few = b.few;
    begun = subst (λ q. IsBegun g A (listed (take k y.list.items)) L q (winners_of y.partition.subgame.plan) (choices_of y.partition.subgame.plan)) his begun_here;
    listed_is = aside_is;
    same = b.same;
    even_is = even_is;
    odd_is = odd_is;
  }

-- Then it waits.
module _ {g : Graph} {inside : List Bool} {x y z : Solver} {p : Player} {k even odd : ℕ} (h : IsSolverState g inside x)
    (w : PushesFrame p k even odd y z) (b : BeginsPart g p k even odd x y) where
  abbrev f : Frame
  f = frame_of p k even odd y

  settled_are : settled_of y.partition.settled ≡ settled_of x.partition.settled
  settled_are = fun_ext b.settled

  counts : (q : Player) → count_at f q ≡ length (settled_of y.partition.settled q)
  counts Even = b.even_is
  counts Odd = b.odd_is

  tops : f.tops_upto - f.set_aside_from ≡ k
  tops = omega arith

  begins : Begins g (members inside) (active_of x.partition.subgame) (active_of y.partition.subgame) (settled_of y.partition.settled) y.set_aside.items y.list.items
      y.frames.items f (winners_of x.partition.subgame.plan) (winners_of y.partition.subgame.plan) (choices_of x.partition.subgame.plan) (choices_of y.partition.subgame.plan)
  begins = record {
    open_levels = rw (settled_are, b.set_aside, b.frames) h.open_levels;
    within = λ v i. (only (active_of x.partition.subgame v) (active_of y.partition.subgame v) (sym (b.listed_is v) ∙ i)).0;
    once = b.once;
    left = λ v. sym (back_equal (active_of x.partition.subgame v) (active_of y.partition.subgame v) (b.begun.within v))
        ∙ ap (λ t. active_of x.partition.subgame v && not t) (sym (b.listed_is v));
    begun = rw tops b.begun;
    same = b.same;
    counts = counts;
    from = refl;
    tops = (omega arith, omega (arith, b.few, length-append y.set_aside.items y.list.items));
    upto = refl;
  }

  pub entered : IsSolverState g inside z
  entered = record {
    inside_length = h.inside_length;
    whole = w.size ∙ (b.size ∙ h.whole);
    sizes = rw w.partition b.partition.sizes;
    subgame = rw w.partition (left_subgame b.begun);
    order = rw (w.partition, w.order) b.order;
    placed = rw w.partition b.partition.placed;
    open_levels = rw (w.partition, w.set_aside, w.frames) (open_levels_begin begins);
  }

  pub entered_fewer : work g inside z < work g inside x
  entered_fewer =
      let s = b.begun.some in
      rw (w.partition, w.set_aside, w.frames, ← b.settled Even, ← b.settled Odd, ← b.set_aside, ← b.frames)
      (enters_fewer inside begins (some_length y.list.items s.0 (b.listed_is s.0 ∙ b.begun.attracted.target s.0 s.1)))
