-- How many slices remain.
use Rattle.pg_board.proofs.Common.{◌≡◌, ◌≤◌, ◌<◌, ◌+◌, ◌-◌, ℕ, length, arith, sym, subst, Result, ◌↔◌, Bool, false, Graph, Journal, state_of, IsFull, State, unsettled, is_unsettled, In, and_parts, ltb-true, nat_lt}
use Rattle.std.proofs.Common.{IfOk, IsTrue, OnErr, rules}
use Rattle.std.proofs.lemmas.Result.{IfOk-weaker}
use Rattle.std.specs.declared.alloc.AllocError.{AllocError}
use Rattle.pg_board.specs.BoardRecord.{SessionRecord}
use Rattle.pg_board.specs.Work.{total_of}
use Rattle.pg_board.specs.Slices.{slices_left, most_slices, most_steps, IsSearch, IsCharged, IsLastCharged}
use Rattle.pg_board.specs.declared.advance.Stage.{Stage}
use Rattle.pg_board.specs.declared.advance.Stage.TheVariants as stage
use Rattle.pg_board.specs.private.Stage.{IsStageOf, IsRunOn}
use Rattle.pg_board.proofs.Common.{List, members, all_vertices, member_below, lt-ltb, ap, ◌∙◌}
use Rattle.std.proofs.Common.{Ok, Err}
use Rattle.std.proofs.lemmas.List.Sums.{count_by-le-length}
use Rattle.pg_game.specs.VertexSet.{how_many}
use Rattle.pg_finders.specs.Run.{Run}
use Rattle.pg_finders.specs.Steps.{priority_count, steps}
use Rattle.pg_finders.proofs.Steps.{count_grow, steps_grow}

pub slices_within : (g : Graph) (journal : Journal) (s : Stage) → IsStageOf g journal s → slices_left g s ≤ most_slices g
slices_within g journal (stage.Search number) h = omega arith
slices_within g journal (stage.Recursion r) h = omega (arith, h.few)

-- a run that begins on the unsettled part has no more steps than the game may take
pub begun_on : (g h : Graph) (journal : Journal) (mask : List Bool) (r : Result Run AllocError) → IfOk r (λ x. x.graph ≡ h) → IfOk r (λ x. x.mask ≡ mask)
    → IfOk r (λ x. x.remaining ≤ steps (priority_count h (members mask)) (how_many mask)) → h ≡ g → length mask ≡ length g
    → ((v : ℕ) → members mask v ≡ unsettled g (state_of journal) v) → IfOk r (IsRunOn g journal)
begun_on g h journal mask (Err e) graph is few same sized are = tt
begun_on g h journal mask (Ok x) graph is few same sized are = record {
  graph = graph ∙ same;
  mask = λ v. ap (λ m. members m v) is ∙ are v;
  few =
      let kinds = count_grow g {L = members mask} {U = all_vertices g} (λ v i. lt-ltb v (length g) (let b = member_below mask v i in omega (arith, b, sized))) in
      let here : priority_count h (members mask) ≡ priority_count g (members mask) = ap (λ (y : Graph). priority_count y (members mask)) same in
      let all = steps_grow (priority_count h (members mask)) (priority_count g (all_vertices g)) (how_many mask) (length g) (omega (arith, here, kinds))
      (let n = count_by-le-length (λ b. b) mask in omega (arith, n, sized)) in
      omega (arith, few, all);
}

-- the first slice of the recursion leaves fewer than there were after the last search
module _ (g : Graph) (from : Stage) (number remaining given : ℕ) (Open : Type 0) (r : Result Stage AllocError) (is : from ≡ stage.Search number)
    (few : remaining ≤ most_steps g) (here : IfOk r (λ s. Open → slices_left g s + given ≤ remaining)) where
  pub begun_nearer : IfOk r (λ s. Open → 0 < given → slices_left g s < slices_left g from)
  begun_nearer = IfOk-weaker r _ _ (λ s h o some. subst (λ (x : Stage). slices_left g s < slices_left g x) (sym is) (omega (arith, h o, few, some))) here

  pub begun_taken : (left : ℕ) → IfOk r (λ s. Open → slices_left g s + (given - left) ≤ slices_left g from)
  begun_taken left = IfOk-weaker r _ _ (λ s h o. subst (λ (x : Stage). slices_left g s + (given - left) ≤ slices_left g x) (sym is) (omega (arith, h o, few))) here

-- a further slice of the recursion leaves fewer than there were
pub further_nearer : (g : Graph) (from : Stage) (remaining given : ℕ) (Open : Type 0) (r : Result Stage AllocError) → slices_left g from ≡ remaining
    → IfOk r (λ s. Open → slices_left g s + given ≤ remaining) → IfOk r (λ s. Open → 0 < given → slices_left g s < slices_left g from)
further_nearer g from remaining given Open r is here = IfOk-weaker r _ _ (λ s h o some. omega (arith, h o, is, some)) here

pub further_taken : (g : Graph) (from : Stage) (remaining given left : ℕ) (Open : Type 0) (r : Result Stage AllocError) → slices_left g from ≡ remaining
    → IfOk r (λ s. Open → slices_left g s + given ≤ remaining) → IfOk r (λ s. Open → slices_left g s + (given - left) ≤ slices_left g from)
further_taken g from remaining given left Open r is here = IfOk-weaker r _ _ (λ s h o. omega (arith, h o, is)) here

-- after the last search the steps of the recursion remain, and one slice more
pub few_left : (g : Graph) (from : Stage) (number : ℕ) → from ≡ stage.Search number → total_of 4 (length g) ≤ number + 1
    → slices_left g from ≤ 1 + most_steps g
few_left g from number is last = subst (λ (x : Stage). slices_left g x ≤ 1 + most_steps g) (sym is) (omega (arith, last))

-- then a slice uses up its steps
pub charged_all : (g : Graph) (most slices given left : ℕ) (Open : Type 0) (r : Result Stage AllocError) → slices ≤ 1 + most
    → IfOk r (λ s. Open → left ≡ 0) → IfOk r (λ s. Open → IsCharged most slices (slices_left g s) given left)
charged_all g most slices given left Open r few here =
    IfOk-weaker r _ _ (λ s h o. ((λ more. absurd (omega (arith, more, few))), (λ few. h o))) here

-- and if it settles the last vertex, it has taken a step
pub charged_last : (most slices given left : ℕ) (Full : Type 0) (Open : ℕ → Type 0) (r : Result Stage AllocError) → slices ≤ 1 + most
    → IfOk r (λ s. Full → (v : ℕ) → Open v → left < given) → IfOk r (λ s. Full → (v : ℕ) → Open v → IsLastCharged most slices given left)
charged_last most slices given left Full Open r few here =
    IfOk-weaker r _ _ (λ s h full v o. ((λ more. absurd (omega (arith, more, few))), (λ few. h full v o))) here

-- and if memory is refused, it was no search
pub no_refused_search : (most slices : ℕ) (Kept : Type 0) (r : Result Stage AllocError) → slices ≤ 1 + most → OnErr r (IsSearch most slices → Kept)
no_refused_search most slices Kept (Ok s) few = tt
no_refused_search most slices Kept (Err e) few = λ more. absurd (omega (arith, more, few))

-- what a slice of a board is charged, its session is charged
pub charged_in_session : (Charged : Graph → ℕ → ℕ → Type 0) (g h : Graph) (s t : Stage) (x : SessionRecord) → g ≡ h → s ≡ t → h ≡ x.board.graph
    → slices_left h t ≡ x.slices → Charged g (most_steps g) (slices_left g s) → Charged h (most_steps x.board.graph) x.slices
charged_in_session Charged g h s t x graph same board slices here =
    subst (λ (y : Graph). Charged h (most_steps y) x.slices) board
    (subst (λ (m : ℕ). Charged h (most_steps h) m) slices
    (subst (λ (y : Stage). Charged h (most_steps h) (slices_left h y)) same
    (subst (λ (y : Graph). Charged y (most_steps y) (slices_left y s)) graph here)))

-- a full board has no unsettled vertex
pub full_shut : (g : Graph) (st : State) (v : ℕ) → IsFull g st → In (unsettled g st) v → ⊥
full_shut g st v full i =
    let parts = and_parts (nat_lt v (length g)) (is_unsettled (st v)) i in
    let shut : is_unsettled (st v) ≡ false = full v (ltb-true v (length g) parts.0) in
    cc (shut, parts.1)

-- a journal that was found not to be full is not
pub still_open : (g h : Graph) (i j : Journal) (b : Bool) → g ≡ h → i ≡ j → (IsTrue b ↔ IsFull g (state_of i)) → b ≡ false → IsFull h (state_of j) → ⊥
still_open g h i j b graph journal exact open_still full =
    let before = subst (λ (x : Graph). IsFull x (state_of i)) (sym graph) (subst (λ (x : Journal). IsFull h (state_of x)) (sym journal) full) in
    search (rules, exact.1 before, open_still)

-- what a slice says of its board, of the session that had it
pub in_session : (g h : Graph) (s t u : Stage) (n k : ℕ) → g ≡ h → t ≡ u → slices_left h u ≡ n → slices_left g s + k ≤ slices_left g t
    → slices_left h s + k ≤ n
in_session g h s t u n k graph same view here =
    subst (λ (m : ℕ). slices_left h s + k ≤ m) view (subst (λ (x : Stage). slices_left h s + k ≤ slices_left h x) same
    (subst (λ (x : Graph). slices_left x s + k ≤ slices_left x t) graph here))
