-- Levels that wait: one is added, one is taken away, and the last part goes on.
use Rattle.pg_finders.proofs.Common.{◌≡◌, ℕ, ◌+◌, ◌<◌, ◌≤◌, false, ◌⊎◌, inl, inr, List, [], ◌∷◌, ◌++◌, sym, ◌∙◌, ap, arith, cases_Bool}
use Rattle.pg_finders.proofs.Common.{false_from_ne_true, Player, opponent, Graph, HasEdge, owner_of, VertexSet, In, Within, without, Choices, own_or_other}
use Rattle.pg_finders.proofs.Common.{Winners, IsSolvedTo, IsBegun, Level, AreLevels, length, no_vertices, ltb-true, priority_count}
use Rattle.pg_finders.proofs.Sets.{twice, no_both, only, minus}
use Rattle.pg_finders.proofs.Steps.{count_grow, count_more}
use Rattle.pg_finders.proofs.SolvedSubgames.{IsSolvedTo-same, solved_append, begun_same}

-- what two plans agree on
abbrev pub Agree : VertexSet → Winners → Winners → Choices → Choices → Type 0
Agree R won won' s s' = (v : ℕ) → R v ≡ false → (won' v ≡ won v) × (s' v ≡ s v)

pub out_of : (U R : VertexSet) → Within R U → (v : ℕ) → U v ≡ false → R v ≡ false
out_of U R w v u = false_from_ne_true (R v) (λ y. no_both (w v y) u)

waits_within : (g : Graph) (U : VertexSet) (fs : List Level) (R : VertexSet) (won : Winners) (s : Choices) → AreLevels g U fs R won s → Within R U
waits_within g U [] R won s h = h.rest
waits_within g U (f ∷ fs) R won s h = λ v i. h.0.rest v (h.1.within v (waits_within g f.left fs R won s h.2 v i))

-- the part R goes on, and nothing else changes
pub waits_on : (g : Graph) (U : VertexSet) (fs : List Level) (R Q : VertexSet) (won won' : Winners) (s s' : Choices) → AreLevels g U fs R won s
    → Agree R won won' s s' → IsSolvedTo g R Q won' s' → AreLevels g U fs Q won' s'
waits_on g U [] R Q won won' s s' h same more = solved_append (IsSolvedTo-same same h) more
waits_on g U (f ∷ fs) R Q won won' s s' h same more =
    let below = waits_within g f.left fs R won s h.2 in
    let here : Agree f.left won won' s s' = λ v n. same v (out_of f.left R below v n) in (
      IsSolvedTo-same (λ v n. here v (out_of f.inside f.left h.1.within v n)) h.0,
      begun_same h.1 won' s' here,
      waits_on g f.left fs R Q won won' s s' h.2 same more,
    )

-- the part is begun
pub waits_push : (g : Graph) (U : VertexSet) (fs : List Level) (f : Level) (R : VertexSet) (won : Winners) (s : Choices) → AreLevels g U fs f.inside won s
    → IsBegun g f.inside f.tops f.left f.player won s → IsSolvedTo g f.left R won s → AreLevels g U (fs ++ f ∷ []) R won s
waits_push g U [] f R won s h b more = (h, b, more)
waits_push g U (x ∷ fs) f R won s h b more = (h.0, h.1, waits_push g x.left fs f R won s h.2 b more)

-- the last level is taken away
pub waits_pop : (g : Graph) (U : VertexSet) (fs : List Level) (f : Level) (R : VertexSet) (won : Winners) (s : Choices) → AreLevels g U (fs ++ f ∷ []) R won s
    → AreLevels g U fs f.inside won s × IsBegun g f.inside f.tops f.left f.player won s × IsSolvedTo g f.left R won s
waits_pop g U [] f R won s h = h
waits_pop g U (x ∷ fs) f R won s h = let k = waits_pop g x.left fs f R won s h.2 in ((h.0, h.1, k.0), k.1, k.2)

-- from what a begun subgame leaves, edges into what is set aside are the opponent's
begun_away : {g : Graph} {U T L : VertexSet} {p : Player} {won : Winners} {s : Choices} → IsBegun g U T L p won s → (v w : ℕ) → In L v → HasEdge g v w
    → In (without U L) w → won w ≡ opponent (owner_of g v)
begun_away {g} {U} {T} {L} {p} b v w l e a = elim (own_or_other (owner_of g v) p) [
  | inl o ↦ absurd (no_both l (only (U v) (L v) (b.attracted.own v w (b.within v l) o e a)).1)
  | inr o ↦ b.his w a ∙ (sym (twice p) ∙ ap opponent (sym o))
]

-- an edge from the part R to the rest leads to what the owner's opponent has
pub waits_away : (g : Graph) (U : VertexSet) (fs : List Level) (R : VertexSet) (won : Winners) (s : Choices) → AreLevels g U fs R won s → (v w : ℕ) → In R v
    → HasEdge g v w → In U w → R w ≡ false → won w ≡ opponent (owner_of g v)
waits_away g U [] R won s h v w i e u n = h.away v w i e (minus u n)
waits_away g U (f ∷ fs) R won s h v w i e u n = go (cases_Bool (f.inside w)) (cases_Bool (f.left w)) (waits_away g f.left fs R won s h.2 v w i e)
  where
    left : In f.left v
    left = waits_within g f.left fs R won s h.2 v i

    go : (In f.inside w) ⊎ (f.inside w ≡ false) → (In f.left w) ⊎ (f.left w ≡ false) → (In f.left w → R w ≡ false → won w ≡ opponent (owner_of g v))
        → won w ≡ opponent (owner_of g v)
    go (inr m) l rest = h.0.away v w (h.1.within v left) e (minus u m)
    go (inl y) (inl z) rest = rest z n
    go (inl y) (inr z) rest = begun_away h.1 v w left e (minus y z)

-- the levels that wait and the part R have different greatest priorities
pub waits_count : (g : Graph) (U : VertexSet) (fs : List Level) (R : VertexSet) (won : Winners) (s : Choices) → AreLevels g U fs R won s → (v : ℕ) → In R v
    → v < length g → length fs + 1 ≤ priority_count g U
waits_count g U [] R won s h v i l =
    let c = count_more g {L = no_vertices} {U = U} (λ w j. absurd (cc j)) v l (h.rest v i) (λ w j. absurd (cc j)) in
    omega (arith, c)
waits_count g U (f ∷ fs) R won s h v i l =
    let rest = waits_count g f.left fs R won s h.2 v i l in
    let top = h.1.some in
    let inside = h.1.attracted.inside top.0 (h.1.attracted.target top.0 top.1) in
    let apart : (w : ℕ) → In f.left w → f.tops w ≡ false =
    λ w j. false_from_ne_true (f.tops w) (λ y. no_both j (only (f.inside w) (f.left w) (h.1.attracted.target w y)).1) in
    let lower = count_more g h.1.within top.0 (ltb-true top.0 (length g) (h.1.subgame.vertices top.0 inside)) inside
    (λ w j e. (let low = h.1.below top.0 w top.1 (h.1.within w j) (apart w j) in absurd (omega (arith, low, e)))) in
    let fewer = count_grow g h.0.rest in
    omega (arith, rest, lower, fewer)
