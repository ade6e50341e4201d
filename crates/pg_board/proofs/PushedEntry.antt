-- An entry that answers a good claim leaves a lawful state.
use Rattle.pg_board.proofs.Common.{rules, ◌≡◌, ℕ, true, false, inl, inr, [], ◌∷◌, ◌++◌, length, refl, sym, ◌∙◌, ap, subst, lt-ltb, ltb-true}
use Rattle.pg_board.proofs.Common.{append_assoc, Contains, All, IsDistinct, false_from_ne_true, or_cases, or_right, take-append-drop, append-nil}
use Rattle.pg_board.proofs.Common.{map-append, nat_eq_equiv, IsDistinct-push}
use Rattle.pg_board.proofs.Common.{and-true, and-false, or-false, Player, Even, Odd, opponent, Graph, IsGame, HasEdge, owner_of, edge_inside, some_edge}
use Rattle.pg_board.proofs.Common.{VertexSet, In, all_vertices, union, Choices, kept, KeptEdge, IsSubgame, Attractor, IsRegion, ClosedWalk-weaker}
use Rattle.pg_board.proofs.Common.{Attractor-idempotent, grown_region, own_or_other, not_own, same_is, is_same, not_same, ClaimRows, named, choice_in}
use Rattle.pg_board.proofs.Common.{IsRightRow, IsAttractedRow, named-append, choice-front, choice-back, place_of, named_right, kept_same, choice_leads, Entry}
use Rattle.pg_board.proofs.Common.{is_winner, choice_in_row, State, settled, choices, is_unsettled, rest_of, IsGoodOn, IsLawfulState, Journal, vertices}
use Rattle.pg_board.proofs.Common.{state_of, claimed_rows, attracted_rows, Answers, IsLawful}
use Rattle.std.specs.Prelude.{Option, Some, None, nat_eq, if◌then◌else◌}
use Rattle.std.proofs.lemmas.Bool.{or_parts}
use Rattle.pg_board.proofs.Distinct.{distinct-append, each_named}
use Rattle.pg_game.specs.Kept.{option_list}
use Rattle.pg_game.proofs.GrownRegions.{Grows}
use Rattle.pg_game.proofs.LeftSubgame.{rest_is_subgame}
use Rattle.pg_dominion.proofs.Named.{rank, rank_below, rank_at}
use Rattle.pg_board.proofs.RestIsGood.{in_rest, rest_is_good, rest_twice, named_rest, choice_rest}
use Rattle.pg_board.proofs.NoRowOfOpponent.{differs, avoid}
use Rattle.pg_board.proofs.OpeningState.{none_distinct}
use Rattle.pg_dominion.proofs.RowsByPlace.{in_vertices, distinct_rising}
use Rattle.pg_board.proofs.Numbers.{lawful_now}

-- what one entry says of a vertex
abbrev pub entry_state : Entry → State
entry_state e v = if named e.rows v then Some (e.player, choice_in e.rows v) else None

-- the new entry says what the journal left open
pub state_push : (j : Journal) (e : Entry) (v : ℕ) → state_of (j ++ e ∷ []) v ≡ (if is_unsettled (state_of j v) then entry_state e v else state_of j v)
state_push [] e v = refl
state_push (x ∷ xs) e v = search (rules, state_push xs e v)

pub open_unsettled : (q : Player) (o : Option (Player × Option ℕ)) → is_unsettled o ≡ true → is_winner q o ≡ false
open_unsettled q o h = search rules

pub settled_shut : (q : Player) (o : Option (Player × Option ℕ)) → is_winner q o ≡ true → is_unsettled o ≡ false
settled_shut q o h = search rules

pub neither_open : (p : Player) (o : Option (Player × Option ℕ)) → is_winner p o ≡ false → is_winner (opponent p) o ≡ false
    → is_unsettled o ≡ true
neither_open p o a b = search rules

-- a region with other choices that agree on it
pub region_same : (g : Graph) (p : Player) (X : VertexSet) (s t : Choices) → ((v : ℕ) → In X v → t v ≡ s v) → IsRegion g p X s → IsRegion g p X t
region_same g p X s t same r = search (rules, r.vertices, r.choices, r.closed, r.good, ClosedWalk-weaker, kept_same)

-- an entry that answers a good claim is added to a lawful journal
pub record IsAdded (g : Graph) (j : Journal) (p : Player) (rows : ClaimRows) (e : Entry) : Type 0 where
  pub game : IsGame g
  pub lawful : IsLawful g j
  pub posted : IsGoodOn g (state_of j) p rows
  pub answers : Answers g (state_of j) p rows e

module _ {g : Graph} {j : Journal} {p : Player} {rows : ClaimRows} {e : Entry} (added : IsAdded g j p rows e) where
  abbrev st : State
  st = state_of j

  abbrev st' : State
  st' = state_of (j ++ e ∷ [])

  abbrev R : ClaimRows
  R = claimed_rows e

  abbrev A : ClaimRows
  A = attracted_rows e

  split : e.rows ≡ R ++ A
  split = sym (take-append-drop e.claimed e.rows)

  state : IsLawfulState g st
  state = lawful_now g j added.lawful

  -- the claimed rows are a good claim of their own
  own_good : IsGoodOn g st p R
  own_good = subst (IsGoodOn g st p) (sym added.answers.rest) (rest_is_good g st p rows added.posted)

  own_rest : rest_of st R ≡ R
  own_rest = subst (λ xs. rest_of st xs ≡ xs) (sym added.answers.rest) (rest_twice st rows)

  own_closed : (v w : ℕ) → KeptEdge g p (named R) (choice_in R) v w → In (union (named R) (settled st p)) w
  own_closed = subst (λ xs. (v w : ℕ) → KeptEdge g p (named xs) (choice_in R) v w → In (union (named xs) (settled st p)) w) own_rest own_good.closed

  claimed_open : (v : ℕ) → In (named R) v → is_unsettled (st v) ≡ true
  claimed_open v i = (in_rest st rows v (subst (λ xs. In (named xs) v) added.answers.rest i)).1

  other : IsRegion g (opponent p) (settled st (opponent p)) (choices st)
  other = state.regions (opponent p)

  base : (v : ℕ) → In (union (union (settled st p) (named R)) (named [])) v → settled st (opponent p) v ≡ false
  base v i = search (rules, or_cases, or-false, open_unsettled, claimed_open, differs, same_is)

  not_theirs : (v : ℕ) → In (union (union (settled st p) (named R)) (named A)) v → settled st (opponent p) v ≡ false
  not_theirs = avoid g added.game p (union (settled st p) (named R)) (settled st (opponent p)) (choices st) other A [] A added.answers.turns refl base

  -- what an attracted row leads to
  leads : (v : ℕ) (i : In (named A) v)
      → IsAttractedRow g p (all_vertices g) (union (union (settled st p) (named R)) (named (place_of A v i).before)) (v, (place_of A v i).choice)
  leads v i = let q = place_of A v i in added.answers.turns q.before q.after (v, q.choice) q.split

  attracted_new : (v : ℕ) → In (named A) v → (settled st p v ≡ false) × (named R v ≡ false)
  attracted_new v i = search (rules, (leads v i).fresh, leads, or_parts, place_of)

  old_state : (v : ℕ) → is_unsettled (st v) ≡ false → st' v ≡ st v
  old_state v o = state_push j e v ∙ rw o refl

  claimed_choice : (v : ℕ) → In (named R) v → choices st' v ≡ choice_in R v
  claimed_choice v i = search (rules, claimed_open, split, choice-front, named-append, state_push)

  -- an unsettled vertex of the claim has the claim's choice
  pub claims_state : (v : ℕ) → In (named rows) v → is_unsettled (st v) ≡ true → st' v ≡ Some (p, choice_in rows v)
  claims_state v i o =
      let r : named R v ≡ true = ap (λ (xs : ClaimRows). named xs v) added.answers.rest ∙ (named_rest st rows v ∙ rw (i, o) refl) in
      let n : named e.rows v ≡ true = ap (λ (xs : ClaimRows). named xs v) split ∙ (named-append R A v ∙ rw r refl) in
      let c : choice_in e.rows v ≡ choice_in rows v =
      ap (λ (xs : ClaimRows). choice_in xs v) split ∙ (choice-front R A v r ∙ (ap (λ (xs : ClaimRows). choice_in xs v) added.answers.rest
      ∙ choice_rest st rows v o)) in
      state_push j e v ∙ rw (o, n, c, added.answers.player) refl

  attracted_choice : (v : ℕ) (i : In (named A) v) → choices st' v ≡ (place_of A v i).choice
  attracted_choice v i =
      search (rules, (attracted_new v i).1, attracted_new, split, choice-back, place_of, named-append, state_push, neither_open, not_theirs, or_right)

  right : (v : ℕ) → In (named R) v → IsRightRow g p (v, choice_in R v)
  right v i = named_right g p R v own_good.sound.shape.right.each i

  -- where a kept edge of an attracted vertex ends
  falls_to : (v w : ℕ) (i : In (named A) v) → Contains (kept g p (choices st') v) w
      → In (union (union (settled st p) (named R)) (named (place_of A v i).before)) w
  falls_to v w i m = elim (own_or_other (owner_of g v) p) [
    | inl o ↦
        (let c = (leads v i).own o in
        let n : Contains (option_list (choices st' v)) w = rw (is_same (owner_of g v) p o) at m in
        rw (choice_leads (choices st' v) c.0 w (attracted_choice v i ∙ c.1) n) at c.3)
    | inr o ↦
        (let f = (leads v i).forced (not_own p (owner_of g v) o) in
        let n : HasEdge g v w = rw (not_same (owner_of g v) p (not_own p (owner_of g v) o)) at m in
        f.1 w n (edge_inside g added.game v w (ltb-true v (length g) (leads v i).inside) n))
  ]

  grows : Grows g p (settled st p) (named R) (named A) (choices st) (choices st') (rank A)
  grows = record {
    old = state.regions p;
    rest = λ v i. lt-ltb v (length g) (right v i).vertex;
    attracted = λ v i. (leads v i).inside;
    rest_choices = λ v i o. (let c = (right v i).own o in (c.0, claimed_choice v i ∙ c.1, c.2));
    attracted_choices = λ v i o. (let c = (leads v i).own o in (c.0, attracted_choice v i ∙ c.1, c.2));
    rest_closed = λ v w i m.
        or_cases (named R w) (settled st p w) (own_closed v w (kept_same g p (named R) (choice_in R) (choices st') v w (claimed_choice v i) i m));
    attracted_falls = λ v w i m. elim (or_cases (union (settled st p) (named R) w) (named (place_of A v i).before w) (falls_to v w i m)) [
      | inl h ↦ inl (or_cases (settled st p w) (named R w) h)
      | inr n ↦ inr (search (rules, place_of, named-append, rank, rank_below, rank_at))
    ];
    rest_good = λ walk c. own_good.sound.good walk (ClosedWalk-weaker (KeptEdge g p (named R) (choices st')) (KeptEdge g p (named R) (choice_in R))
        (λ v w k. kept_same g p (named R) (choice_in R) (choices st') v w (claimed_choice v k.0) k.0 k.1) walk c);
    keeps_old = λ v i. ap choice_in_row (old_state v (settled_shut p (st v) i));
    rest_new = λ v i. open_unsettled p (st v) (claimed_open v i);
    attracted_new = attracted_new;
  }

  named_open : (v : ℕ) → named e.rows v ≡ true → is_unsettled (st v) ≡ true
  named_open v n = search (rules, or_cases, claimed_open, split, named-append, neither_open, attracted_new, not_theirs, or_right)

  ours : settled st' p ≡ union (settled st p) (union (named R) (named A))
  ours = search (rules, is_same, split, named-append, state_push, and-true, and-false, or-false, added.answers.player, named_open)

  pub ours_named : settled st' p ≡ union (settled st p) (named e.rows)
  ours_named = search (rules, is_same, state_push, and-true, and-false, or-false, added.answers.player, named_open)

  pub theirs : settled st' (opponent p) ≡ settled st (opponent p)
  theirs = search (rules, differs, state_push, and-true, and-false, or-false, added.answers.player, named_open)

  our_region : IsRegion g p (settled st' p) (choices st')
  our_region = search (rules, ours, grown_region, rank, grows)

  their_region : IsRegion g (opponent p) (settled st' (opponent p)) (choices st')
  their_region = search (rules, theirs, region_same, old_state, settled_shut, other)

  our_attractor : (v : ℕ) → Attractor g p (all_vertices g) (settled st' p) v → In (settled st' p) v
  our_attractor v a = subst (λ X. In X v) (sym ours_named) ((added.answers.exact v).1
      (Attractor-idempotent g p (all_vertices g) (union (settled st p) (named R)) (settled st' p)
      (λ x i. (added.answers.exact x).0 (subst (λ X. In X x) ours_named i)) v a))

  their_attractor : (v : ℕ) → Attractor g (opponent p) (all_vertices g) (settled st' (opponent p)) v → In (settled st' (opponent p)) v
  their_attractor v a =
      subst (λ X. In X v) (sym theirs) (state.attracted (opponent p) v (subst (λ X. Attractor g (opponent p) (all_vertices g) X v) theirs a))

  regions : (q : Player) → IsRegion g q (settled st' q) (choices st')
  regions q = search (rules, own_or_other, our_region, their_region)

  attracted : (q : Player) (v : ℕ) → Attractor g q (all_vertices g) (settled st' q) v → In (settled st' q) v
  attracted q v a = elim (own_or_other q p) [ inl h ↦ rw h (our_attractor v (rw h at a)) | inr h ↦ rw h (their_attractor v (rw h at a)) ]

  pub lawful_state : IsLawfulState g st'
  lawful_state =
      let part = rest_is_subgame g (settled st' Even) (settled st' Odd) (edge_inside g added.game) (some_edge g added.game) (attracted Even) (attracted Odd) in
      record { regions = regions; attracted = attracted; open_part = subst (IsSubgame g) (search rules) part }

  -- the entry added.answers its own claim
  pub own_claim_good : IsGoodOn g st e.player R
  own_claim_good = subst (λ q. IsGoodOn g st q R) (sym added.answers.player) own_good

  pub own_claim_answered : Answers g st e.player R e
  own_claim_answered =
      let a = added.answers in
      subst (λ q. Answers g st q R e) (sym a.player) (record { player = a.player; claimed = a.claimed; rest = sym own_rest; exact = a.exact; turns = a.turns })

  -- no two of the entry's rows name one vertex
  all_done : (done rest : ClaimRows) → A ≡ done ++ rest → IsDistinct nat_eq (vertices done) → IsDistinct nat_eq (vertices A)
  all_done done [] q d = subst (λ xs. IsDistinct nat_eq (vertices xs)) (sym (q ∙ append-nil done)) d
  all_done done (r ∷ rest) q d =
      let n = or_parts (union (settled st p) (named R) r.0) (named done r.0) (added.answers.turns done rest r q).fresh in
      search (rules, all_done (done ++ r ∷ []) rest, append_assoc, map-append, IsDistinct-push nat_eq_equiv, in_vertices, n.1)

  pub once_rows : IsDistinct nat_eq (vertices e.rows)
  once_rows = subst (IsDistinct nat_eq) (sym (ap vertices split ∙ map-append (λ (x : ℕ × Option ℕ). x.0) R A))
      (distinct-append (named A) (vertices R) (vertices A)
      (distinct_rising (vertices R) own_good.sound.shape.right.rising)
      (all_done [] A refl none_distinct)
      (each_named (λ v. named A v ≡ false) R (λ v i. false_from_ne_true (named A v) (λ a. (let h = (attracted_new v a).1 in cc (i, h)))))
      (each_named (λ v. named A v ≡ true) A (λ v i. i)))

  pub each_open : All (λ v. is_unsettled (st v) ≡ true) (vertices e.rows)
  each_open = each_named (λ v. is_unsettled (st v) ≡ true) e.rows named_open
