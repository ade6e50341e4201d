-- How many vertices are unsettled, and that a call gives up only under a limit below the most steps that they take.
use Rattle.pg_board.proofs.Common.{◌≡◌, ◌≤◌, ◌<◌, ◌+◌, ℕ, zero, suc, Bool, true, false, inl, inr, List, [], ◌∷◌, length, refl, sym, ◌∙◌, ap, arith}
use Rattle.pg_board.proofs.Common.{rules, length-set, eq-eqb, nat_eq, cases_lt, and-false, Option, None, Some, IsDistinct, recursion_from_All}
use Rattle.pg_board.proofs.Common.{members, unsettled, is_unsettled, state_of, IsLawful, number_settled, named, BoardRecord}
use Rattle.pg_board.proofs.Common.{Graph, Journal, cases_Bool, false_from_ne_true, and_parts, fun_ext, subst, VertexSet, all_vertices}
use Rattle.std.specs.Prelude.{slice_set, nat_lt}
use Rattle.std.proofs.lemmas.Bool.{and_from}
use Rattle.std.specs.List.{AllByRecursion}
use Rattle.std.proofs.lemmas.List.{get_or-set_other}
use Rattle.std.proofs.lemmas.List.Sums.{count_by-le-length, sum_by-append}
use Rattle.std.proofs.lemmas.Map.Keys.{IsDistinct-head, IsDistinct-tail}
use Rattle.pg_game.specs.VertexSet.{how_many}
use Rattle.pg_finders.specs.Steps.{priority_count, steps}
use Rattle.pg_finders.proofs.Masks.{counted, how_many-set, how_many-unset}
use Rattle.pg_finders.proofs.Sets.{no_both}
use Rattle.pg_board.proofs.OwnEntries.{stays_shut}
use Rattle.pg_finders.proofs.Steps.{count_grow, steps_grow}
use Rattle.pg_board.specs.Finish.{IsContinued, MayGiveUp, number_unsettled, priorities_unsettled}
use Rattle.pg_board.proofs.Distinct.{AllRows, each_named}
use Rattle.pg_dominion.proofs.RowsByPlace.{in_vertices}
use Rattle.pg_board.proofs.Numbers.{settled_list, number_is, settled_vertices, below}

-- the vertex has a place in the mask, and is not in it
abbrev Free : List Bool → ℕ → Type 0
Free mask v = (v < length mask) × (members mask v ≡ false)

still_free : (mask : List Bool) (v w : ℕ) → nat_eq v w ≡ false → Free mask w → Free (slice_set mask v true) w
still_free mask v w apart f =
    let other : w ≡ v → ⊥ = λ e. (let t = eq-eqb v w (sym e) in absurd (cc (t, apart))) in
    (omega (arith, f.0, length-set mask v true), get_or-set_other mask v w true false other ∙ f.1)

all_free : (mask : List Bool) (v : ℕ) (vs : List ℕ) → AllByRecursion (λ w. nat_eq v w ≡ false) vs → AllByRecursion (Free mask) vs
    → AllByRecursion (Free (slice_set mask v true)) vs
all_free mask v [] a f = tt
all_free mask v (w ∷ ws) a f = (still_free mask v w a.0 f.0, all_free mask v ws a.1 f.1)

-- distinct vertices beside those of a mask
beside : (vs : List ℕ) (mask : List Bool) → IsDistinct nat_eq vs → AllByRecursion (Free mask) vs → length vs + how_many mask ≤ length mask
beside [] mask d f = omega (arith, count_by-le-length (λ b. b) mask)
beside (v ∷ vs) mask d f =
    let more = beside vs (slice_set mask v true) (IsDistinct-tail nat_eq v vs d) (all_free mask v vs (IsDistinct-head nat_eq v vs d) f.1) in
    let free : counted (members mask v) ≡ 0 = rw f.0.1 refl in
    omega (arith, more, free, how_many-set mask v true f.0.0, length-set mask v true)

-- a mask of what is unsettled has no more vertices than there are
pub how_many-unsettled : (b : BoardRecord) (mask : List Bool) → IsLawful b.graph b.journal → length mask ≡ length b.graph
    → ((v : ℕ) → members mask v ≡ unsettled b.graph (state_of b.journal) v) → how_many mask ≤ number_unsettled b
how_many-unsettled b mask lawful sized are =
    let all = recursion_from_All (Free mask) (settled_list b.journal) (each_named (Free mask) (AllRows b.journal) free) in
    let h = beside (settled_list b.journal) mask lawful.once all in
    omega (arith, h, sized, number_is b.journal)
  where
    free : (v : ℕ) → named (AllRows b.journal) v ≡ true → Free mask v
    free v n =
        let i = in_vertices (AllRows b.journal) v ∙ n in
        let shut : is_unsettled (state_of b.journal v) ≡ false = search (rules, settled_vertices b.journal v, i) in
        (omega (arith, below b.graph b.journal lawful v i, sized), are v ∙ rw shut (and-false _))

-- a mask that has no vertex
pub no_member : (mask : List Bool) → how_many mask ≡ 0 → (v : ℕ) → members mask v ≡ false
no_member mask e v = false_from_ne_true (members mask v) (λ i. (let h = how_many-unset mask v i in absurd (omega (arith, h, e))))

-- the priorities of such a mask
pub same_priorities : (b : BoardRecord) (g : Graph) (mask : List Bool) → g ≡ b.graph → ((v : ℕ) → members mask v ≡ unsettled b.graph (state_of b.journal) v)
    → priority_count g (members mask) ≡ priorities_unsettled b
same_priorities b g mask graph are =
    ap (λ (h : Graph). priority_count h (members mask)) graph ∙ ap (λ (U : VertexSet). priority_count b.graph U) (fun_ext are)

-- what is unsettled has no more priorities than the game
pub open_priorities : (b : BoardRecord) (g : Graph) → b.graph ≡ g → priorities_unsettled b ≤ priority_count g (all_vertices g)
open_priorities b g graph = subst (λ (h : Graph). priorities_unsettled b ≤ priority_count h (all_vertices h)) graph
    (count_grow b.graph (λ v i. (and_parts (nat_lt v (length b.graph)) (is_unsettled (state_of b.journal v)) i).0))

-- who gives up on fewer vertices may do so on more
pub gives_up_before : (limit : Option ℕ) (d e m n : ℕ) → d ≤ e → m ≤ n → MayGiveUp limit d m → MayGiveUp limit e n
gives_up_before None d e m n k l h = h
gives_up_before (Some x) d e m n k l h = (omega (arith, h.0, l), omega (arith, h.1, steps_grow d e m n k l))

-- who gives up has a vertex, and has not got enough
pub may_give_up : (limit : Option ℕ) (d m : ℕ) (Found : Type 0) → (Found → ⊥) → (m ≡ 0 → Found) → (limit ≡ None → Found)
    → ((k : ℕ) → limit ≡ Some k → steps d m ≤ k → Found) → MayGiveUp limit d m
may_give_up None d m Found never nothing unlimited enough = never (unlimited refl)
may_give_up (Some k) d zero Found never nothing unlimited enough = absurd (never (nothing refl))
may_give_up (Some k) d (suc m) Found never nothing unlimited enough = elim (cases_lt k (steps d (suc m))) [
  | inl lt ↦ (omega arith, lt)
  | inr ge ↦ absurd (never (enough k refl ge))
]

-- further entries leave no more unsettled
pub fewer_unsettled : (old new : BoardRecord) → IsContinued old new → number_unsettled new ≤ number_unsettled old
fewer_unsettled old new more =
    let added : number_settled new.journal ≡ number_settled old.journal + number_settled more.added =
    ap number_settled more.journal ∙ sum_by-append (λ e. length e.rows) old.journal more.added in
    let same : length new.graph ≡ length old.graph = rw more.graph refl in
    omega (arith, added, same)

pub fewer_priorities : (old new : BoardRecord) → IsContinued old new → priorities_unsettled new ≤ priorities_unsettled old
fewer_priorities old new more =
    subst (λ (g : Graph). priority_count g (unsettled g (state_of new.journal)) ≤ priorities_unsettled old) (sym more.graph)
    (count_grow old.graph (λ v i. (let b = and_parts (nat_lt v (length old.graph)) (is_unsettled (state_of new.journal v)) i in
    and_from (nat_lt v (length old.graph)) (is_unsettled (state_of old.journal v)) b.0 (still_open v b.1))))
  where
    still_open : (v : ℕ) → is_unsettled (state_of new.journal v) ≡ true → is_unsettled (state_of old.journal v) ≡ true
    still_open v u = elim (cases_Bool (is_unsettled (state_of old.journal v))) [
      | inl y ↦ y
      | inr n ↦ absurd (no_both u (subst (λ (j : Journal). is_unsettled (state_of j v) ≡ false) (sym more.journal) (stays_shut old.journal more.added v n)))
    ]
