-- Posting a known set settles it exactly where it is a region, and else is refused for a reason of the set.
use Rattle.std.proofs.lemmas.Grind.{common_steps}
use Rattle.std.proofs.Common.{rules, ◌≡◌, ℕ, zero, suc, ◌<◌, Bool, true, false, ◌||◌, ◌↔◌, List, [], ◌∷◌, length, refl, sym, ◌∙◌, ap, subst, arith, lt-ltb}
use Rattle.std.proofs.Common.{◌++◌, ◌≤◌, ltb-true, Ok, Err, IfOk, IfErr, Result, Option, Some, nat_lt}
use mathlib.Core.Path.{fun_ext}
use Rattle.std.proofs.Math.Bool.{or-false}
use Rattle.std.specs.List.{Contains}
use Rattle.std.specs.Cmp.{both_ways, nat_eq_equiv}
use Rattle.std.proofs.lemmas.Bool.{eqb-true, and_parts, and_from, false_from_ne_true}
use Rattle.std.proofs.lemmas.List.{length-map, nil_from_length}
use Rattle.std.proofs.lemmas.List.Sums.{sum_by_push}
use Rattle.std.proofs.lemmas.Map.Views.{Contains-from_any, list_any-from_Contains}
use Rattle.pg_game.specs.declared.player.Player.{Player}
use Rattle.pg_game.specs.declared.player.Player.TheVariants.{Even, Odd}
use Rattle.pg_game.specs.Player.{opponent, same_player}
use Rattle.pg_game.specs.Graph.{Graph, IsGame, owner_of}
use Rattle.pg_game.specs.VertexSet.{VertexSet, In, all_vertices, union}
use Rattle.pg_dominion.specs.KeptEdges.{own_choices}
use Rattle.pg_game.specs.Kept.{Choices, kept, KeptEdge}
use Rattle.pg_game.specs.Attractor.{Attractor}
use Rattle.pg_game.specs.Region.{IsRegion}
use Rattle.pg_game.proofs.Walks.{ClosedWalk-weaker}
use Rattle.pg_game.proofs.Disjoint.{kept_own, kept_other}
use Rattle.pg_game.proofs.Players.{is_same}
use Rattle.pg_text.specs.Known.{KnownRows, known_of, known_choice}
use Rattle.pg_dominion.specs.declared.claim.Claim.{Claim}
use Rattle.pg_dominion.specs.Claim.{ClaimRows, named, choice_in, vertices}
use Rattle.pg_finders.proofs.GoodClaims.{good_rows}
use Rattle.pg_finders.proofs.Rows.{RowsOf, rows_of_below}
use Rattle.pg_finders.proofs.Sets.{not_same}
use Rattle.pg_board.specs.declared.journal.Entry.{Entry}
use Rattle.pg_board.specs.declared.journal.Posted.{Posted}
use Rattle.pg_board.specs.declared.journal.Refusal.{Refusal}
use Rattle.pg_board.specs.declared.journal.Refusal.TheVariants as refusal
use Rattle.pg_board.specs.BoardRecord.{BoardRecord}
use Rattle.pg_board.specs.State.{State, settled, unsettled, is_unsettled, rest_of, IsGoodOn}
use Rattle.pg_board.specs.Journal.{Journal, state_of, IsLawful, IsDominionAfter, number_settled}
use Rattle.pg_board.specs.Post.{Adds, AnswersDominion, SettlesDominion, SettlesUnlessMemory}
use Rattle.pg_board.specs.Refusal.{Refuses}
use Rattle.pg_board.proofs.Copies.{dominion_now}
use Rattle.pg_dominion.proofs.Rows.{named_right}
use Rattle.pg_dominion.proofs.RowsByPlace.{in_vertices, named_at}
use Rattle.pg_board.proofs.OpeningState.{none_distinct, no_region, attracts_none, lawful_none}
use Rattle.pg_board.proofs.PushedEntry.{IsAdded, neither_open, once_rows, ours_named, claims_state}
use Rattle.pg_board.proofs.RestIsGood.{in_rest, named_rest}
use Rattle.pg_workers.specs.KnownRegions.{IsKnownRegion, KeepsKnown, known_rows, IsAttractedToKnown, HasCount, HasNone, IsBefore, IsSolveFault}
use Rattle.pg_workers.specs.KnownRegions.{IsRefusedKnown, IsRefusedPost}
use Rattle.pg_workers.specs.private.KnownPosts.{SettlesKnown, IsKnownFault, HasKnown, fault_of}
use Rattle.pg_board.specs.Finish.{AreOfCaller, IsLater}
use Rattle.pg_workers.specs.declared.known.SolveFault.{SolveFault}
use Rattle.pg_workers.specs.declared.known.SolveFault.TheVariants as fault
use Rattle.pg_board.proofs.OwnEntries.{both_of_caller, none_later, one_later, continued, keeps_state}

-- what is known is known of vertices
known_below : (known : KnownRows) (p : Player) (v : ℕ) → known_of known p v ≡ true → v < length known
known_below [] p v i = absurd (cc i)
known_below (r ∷ known) p zero i = omega arith
known_below (r ∷ known) p (suc v) i = let h = known_below known p v i in omega arith

-- a set without vertices is a region, and attracts none
module _ (g : Graph) (game : IsGame g) (known : KnownRows) (p : Player) (none : (v : ℕ) → known_of known p v ≡ false) where
  pub empty_region : IsKnownRegion g known p
  empty_region = subst (λ (X : VertexSet). IsRegion g p X (known_choice known)) (sym (fun_ext none)) (no_region g p (known_choice known))

  pub none_attracted : (v : ℕ) → IsAttractedToKnown g known p v → ⊥
  none_attracted v a =
      let h : false ≡ true = attracts_none g game p v (subst (λ (X : VertexSet). Attractor g p (all_vertices g) X v) (fun_ext none) a) in cc h

-- the vertices of rows as a list
in_rows : (rows : ClaimRows) (v : ℕ) → Contains (vertices rows) v ↔ In (named rows) v
in_rows rows v = (
  λ m. sym (in_vertices rows v) ∙ list_any-from_Contains nat_eq_equiv v (vertices rows) m,
  λ i. Contains-from_any eqb-true v (vertices rows) (in_vertices rows v ∙ i),
)

-- an open vertex of a claim is in its rest
to_rest : (st : State) (rows : ClaimRows) (v : ℕ) → In (named rows) v → is_unsettled (st v) ≡ true → In (named (rest_of st rows)) v
to_rest st rows v i o = named_rest st rows v ∙ rw (i, o) refl

-- what is said of a claim, of its player and its rows
said_of : (P : Claim → Type 0) (claim : Claim) (p : Player) (rows : ClaimRows) → claim.player ≡ p → claim.rows ≡ rows → P claim
    → P (record { player = p; rows = rows })
said_of P claim p rows player is h = grind arith

module _ (g : Graph) (game : IsGame g) (known : KnownRows) (sized : length known ≤ length g) (p : Player) where
  abbrev K : VertexSet
  K = known_of known p

  abbrev s : Choices
  s = known_choice known

  abbrev rows : ClaimRows
  rows = known_rows g known p

  inside : (v : ℕ) → In K v → v < length g
  inside v i = let h = known_below known p v i in omega arith

  facts : RowsOf K (own_choices g p s) (length g) rows
  facts = rows_of_below K (own_choices g p s) (length g)

  rows_named : (v : ℕ) → named rows v ≡ K v
  rows_named v = both_ways (named rows v) (K v) (λ m. (facts.named_only v m).0) (λ i. facts.names v i (inside v i))

  to_rows : (v : ℕ) → In K v → In (named rows) v
  to_rows v i = rows_named v ∙ i

  own_choice : (v : ℕ) → In K v → same_player (owner_of g v) p ≡ true → choice_in rows v ≡ s v
  own_choice v i y = facts.choice v (to_rows v i) ∙ rw y refl

  same_kept : (v : ℕ) → In K v → kept g p (choice_in rows) v ≡ kept g p s v
  same_kept v i = search (rules, own_choice)

  region_dominion : IsKnownRegion g known p → 0 < length rows → (journal : Journal) → IsDominionAfter g journal 0 p rows
  region_dominion region n journal =
      let open_inside = λ (v : ℕ) (i : In (unsettled g (state_of [])) v). ltb-true v (length g) (and_parts (nat_lt v (length g)) true i).0 in
      let good = good_rows g (unsettled g (state_of [])) p K s (grind (arith, and_from, kept_own, s, is_same, kept_other, not_same)) open_inside n in
      (omega arith, (dominion_now g game [] (lawful_none g game) p rows good).1)

  -- where no vertex is known, there is nothing to post
  module _ (empty : length rows ≡ 0) where
    none_known : (v : ℕ) → K v ≡ false
    none_known v = sym (rows_named v) ∙ subst (λ (xs : ClaimRows). named xs v ≡ false) (sym (nil_from_length rows empty)) refl

    region_of_none : IsKnownRegion g known p
    region_of_none = empty_region g game known p none_known

    nothing_attracted : (v : ℕ) → IsAttractedToKnown g known p v → ⊥
    nothing_attracted = none_attracted g game known p none_known

    none_counted : HasCount (IsAttractedToKnown g known p) 0
    none_counted = record {
      numbers = [];
      distinct = none_distinct;
      all = λ v. (λ m. absurd (omega (arith, m.1)), λ a. absurd (nothing_attracted v a));
      size = refl;
    }

    none_states : (journal : Journal) (v : ℕ) → In K v → state_of journal v ≡ Some (p, own_choices g p s v)
    none_states journal v i = absurd (let h : false ≡ true = sym (none_known v) ∙ i in cc h)

    pub settles_nothing : (journal : Journal) → HasNone journal p
        → SettlesKnown (record { graph = g; journal = journal }) (record { graph = g; journal = journal }) known p
    settles_nothing journal none =
        let later = none_later (record { graph = g; journal = journal }) (record { graph = g; journal = journal }) (p ∷ []) refl in
        grind (arith, region_of_none, nothing_attracted, none_counted, none_states, later)

  module _ (journal : Journal) (none : HasNone journal p) where
    abbrev st : State
    st = state_of journal

    abbrev here : BoardRecord
    here = record { graph = g; journal = journal }

    open_named : (v : ℕ) → In (named rows) v → settled st (opponent p) v ≡ false → is_unsettled (st v) ≡ true
    open_named v i o = neither_open p (st v) (none v) o

    -- rows that may be posted are of a region
    good_region : IsGoodOn g st p rows → IsKnownRegion g known p
    good_region good = record {
      vertices = λ v i. lt-ltb v (length g) (inside v i);
      choices =
          λ v i o. (let c = (named_right g p rows v good.sound.shape.right.each (to_rows v i)).own o in
          (c.0, sym (own_choice v i (is_same (owner_of g v) p o)) ∙ c.1, c.2));
      closed = λ v w k.
          (let i = to_rows v k.0 in
          let m = subst (λ (xs : List ℕ). Contains xs w) (sym (same_kept v k.0)) k.1 in
          let h = good.closed v w (to_rest st rows v i (open_named v i (good.not_lost v i)), m) in
          search (rules, st, rows, inside, or-false, rows_named, in_rest));
      good =
          λ walk c. good.sound.good walk (ClosedWalk-weaker (KeptEdge g p K s) (KeptEdge g p (named rows) (choice_in rows))
          (λ v w k. (to_rows v k.0, subst (λ (xs : List ℕ). Contains xs w) (sym (same_kept v k.0)) k.1)) walk c);
    }

    -- where nothing is settled for the player, no rows of his are stale
    never_stale : 0 < length rows → Refuses g st p rows refusal.Stale → ⊥
    never_stale n h =
        let i = named_at rows 0 n in grind (arith, common_steps, open_named, false_from_ne_true, st, to_rest, rows)

    union_known : union (settled st p) (named rows) ≡ K
    union_known = fun_ext (λ v. ap (λ (own : Bool). own || named rows v) (none v) ∙ rows_named v)

    -- what a board that took the claim says of it
    abbrev Takes : BoardRecord → Posted → Claim → Type 0
    Takes new posted claim =
        IsGoodOn g st claim.player claim.rows
        × Adds here new 0 claim posted
        × ((k : ℕ) → IsDominionAfter g journal k claim.player claim.rows → AnswersDominion st claim.rows (Ok posted)
        × SettlesUnlessMemory here new claim.player claim.rows (Ok posted))

    settles_rows : IsLawful g journal → (new : BoardRecord) → new.graph ≡ g → (posted : Posted) → Takes new posted (record { player = p; rows = rows })
        → SettlesKnown here new known p
    settles_rows lawful new same posted (good, adds, old) = record {
      region = good_region good;
      later = later;
      own = own;
      other = settles.other;
      states = states;
      more = length adds.entry.rows;
      size = record {
        numbers = vertices adds.entry.rows;
        distinct = once_rows added;
        all = listed_as;
        size = length-map adds.entry.rows (λ (r : ℕ × Option ℕ). r.0);
      };
      number = ap number_settled adds.journal ∙ sum_by_push (λ (e : Entry). length e.rows) journal adds.entry;
    }
      where
        added : IsAdded g journal p rows adds.entry
        added = record { game = game; lawful = lawful; posted = good; answers = adds.answers }

        later : IsLater (p ∷ []) here new
        later = one_later here new (record { player = p; rows = rows }) posted same adds

        settles : SettlesDominion here new p rows
        settles = (old 0 (region_dominion (good_region good) good.sound.shape.nonempty journal)).1

        own : (v : ℕ) → In (settled (state_of new.journal) p) v ↔ IsAttractedToKnown g known p v
        own v = subst (λ (X : VertexSet). In (settled (state_of new.journal) p) v ↔ Attractor g p (all_vertices g) X v) union_known (settles.own v)

        ours : (v : ℕ) → settled (state_of new.journal) p v ≡ named adds.entry.rows v
        ours v =
            ap (λ (j : Journal). settled (state_of j) p v) adds.journal
            ∙ (ap (λ (X : VertexSet). X v) (ours_named added) ∙ ap (λ (own : Bool). own || named adds.entry.rows v) (none v))

        states : (v : ℕ) → In K v → state_of new.journal v ≡ Some (p, own_choices g p s v)
        states v i =
            let n = to_rows v i in
            ap (λ (j : Journal). state_of j v) adds.journal
            ∙ (claims_state added v n (open_named v n (good.not_lost v n)) ∙ ap (λ (c : Option ℕ). Some (p, c)) (facts.choice v n))

        listed_as : (v : ℕ) → Contains (vertices adds.entry.rows) v ↔ IsAttractedToKnown g known p v
        listed_as v = (
          λ m. (own v).0 (ours v ∙ (in_rows adds.entry.rows v).0 m),
          λ a. (in_rows adds.entry.rows v).1 (sym (ours v) ∙ (own v).1 a),
        )

    pub settles_known : IsLawful g journal → (new : BoardRecord) → new.graph ≡ g → (posted : Posted) (claim : Claim) → claim.player ≡ p → claim.rows ≡ rows
        → Takes new posted claim → SettlesKnown here new known p
    settles_known lawful new same posted claim player is takes = settles_rows lawful new same posted (said_of (Takes new posted) claim p rows player is takes)

    -- what a board that refused the claim says of it
    abbrev Refuted : BoardRecord → Refusal → Claim → Type 0
    Refuted new e claim =
        Refuses g st claim.player claim.rows e
        × ((k : ℕ) → IsDominionAfter g journal k claim.player claim.rows → AnswersDominion st claim.rows (Err e)
        × SettlesUnlessMemory here new claim.player claim.rows (Err e))

    -- a refused set is no region, and not stale
    abbrev IsRefusedFor : SolveFault → Type 0
    IsRefusedFor fault.Memory = Unit {0}
    IsRefusedFor (fault.Known q e) = (q ≡ p) × IsRefusedKnown g journal known p e

    refused_for : (new : BoardRecord) (e : Refusal) (claim : Claim) → claim.player ≡ p → claim.rows ≡ rows → 0 < length claim.rows
        → Refuted new e claim → IsRefusedFor (fault_of p e)
    refused_for new e claim player is n refuted =
        (grind (arith, never_stale, region_dominion))

    of_lawful : IsLawful g journal → (f : SolveFault) → IsRefusedFor f → IsKnownFault g journal known p f
    of_lawful lawful fault.Memory h = tt
    of_lawful lawful (fault.Known q e) (same, refused) = (same, lawful, refused)

    pub refused_known : IsLawful g journal → (new : BoardRecord) (e : Refusal) (claim : Claim) → claim.player ≡ p → claim.rows ≡ rows
        → 0 < length claim.rows → Refuted new e claim → IsKnownFault g journal known p (fault_of p e)
    refused_known lawful new e claim player is n refuted = of_lawful lawful (fault_of p e) (refused_for new e claim player is n refuted)

-- a refused post on the board before it is a fault of the run
pub post_fault : (g : Graph) (known : KnownRows) (p : Player) (before : BoardRecord) → before.graph ≡ g → IsBefore g known p before.journal
    → (e : SolveFault) → IsKnownFault before.graph before.journal known p e → IsSolveFault g known e
post_fault g known p before same is fault.Memory h = tt
post_fault g known p before same is (fault.Known q e) (player, lawful, refused) =
    subst (λ (r : Player). IsRefusedPost g known r e) (sym player) (record {
      journal = before.journal;
      lawful = subst (λ (k : Graph). IsLawful k before.journal) same lawful;
      before = is;
      refused = subst (λ (k : Graph). IsRefusedKnown k before.journal known p e) same refused;
    })

module _ (g : Graph) (known : KnownRows) (opened mid : BoardRecord) (here : opened.graph ≡ g) (new_board : opened.journal ≡ [])
    (first : SettlesKnown opened mid known Even) where
  -- what the post of Even's known set leaves is the board before Odd's post
  before_odd : IsBefore g known Odd mid.journal
  before_odd = (
    subst (λ (h : Graph). IsKnownRegion h known Even) here first.region,
    λ v. subst (λ (h : Graph). In (settled (state_of mid.journal) Even) v ↔ IsAttractedToKnown h known Even v) here (first.own v),
    λ v. first.other v ∙ ap (λ (j : Journal). settled (state_of j) Odd v) new_board,
  )

  pub odd_fault : mid.graph ≡ g → (r : Result BoardRecord SolveFault) → IfErr r (IsKnownFault mid.graph mid.journal known Odd)
      → IfErr r (IsSolveFault g known)
  odd_fault same (Ok new) h = tt
  odd_fault same (Err e) h = post_fault g known Odd mid same before_odd e h

  pub has_known : mid.graph ≡ g → (r : Result BoardRecord SolveFault) → IfOk r (λ new. SettlesKnown mid new known Odd)
      → IfOk r (λ new. HasKnown g known new.journal)
  has_known same (Err e) none = tt
  has_known same (Ok new) second = record {
    entries =
        subst (λ (j : Journal). AreOfCaller (Even ∷ Odd ∷ []) j) (sym (second.later.journal ∙ ap (λ (j : Journal). j ++ second.later.added)
        (first.later.journal ∙ ap (λ (j : Journal). j ++ first.later.added) new_board)))
        (both_of_caller first.later.added second.later.added first.later.by_caller second.later.by_caller);
    regions = regions;
    states = states;
    number = record {
      of_even = first.more;
      of_odd = second.more;
      even = subst (λ (h : Graph). HasCount (IsAttractedToKnown h known Even) first.more) here first.size;
      odd = subst (λ (h : Graph). HasCount (IsAttractedToKnown h known Odd) second.more) same second.size;
      sum = let none : number_settled opened.journal ≡ 0 = ap number_settled new_board in omega (arith, first.number, second.number);
    };
  }
    where
      regions : (p : Player) → IsKnownRegion g known p
      regions Even = subst (λ (h : Graph). IsKnownRegion h known Even) here first.region
      regions Odd = subst (λ (h : Graph). IsKnownRegion h known Odd) same second.region

      states : KeepsKnown g known (state_of new.journal)
      states Even v i =
          keeps_state mid new v (Even, own_choices g Even (known_choice known) v) (continued second.later)
          (subst (λ (h : Graph). state_of mid.journal v ≡ Some (Even, own_choices h Even (known_choice known) v)) here (first.states v i))
      states Odd v i =
          subst (λ (h : Graph). state_of new.journal v ≡ Some (Odd, own_choices h Odd (known_choice known) v)) same (second.states v i)
