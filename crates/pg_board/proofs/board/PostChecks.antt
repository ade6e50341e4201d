-- What the checks of a claim against the state say together.
use Rattle.pg_board.proofs.Common.{rules, ◌≡◌, ℕ, ◌<◌, ◌≤◌, Bool, true, false, length, refl, sym, ◌∙◌, ap, subst, arith, Option, nat_eq, fun_ext, list_any}
use Rattle.pg_board.proofs.Common.{vertices}
use Rattle.pg_board.proofs.Common.{length-map, length-le_from_distinct_below, false_from_ne_true, Player, Graph, NoneHas, VertexSet, In, union, KeptEdge, Claim}
use Rattle.pg_board.proofs.Common.{ClaimRows, named, choice_in, AreRight, IsSound, named_right, Posted, State, settled, rest_of, IsGoodOn, Journal, state_of}
use Rattle.pg_board.proofs.Common.{Regions, BoardRecord, Adds, IsLost, Refuses, table_state, IsBoard, Within, members, lt-ltb, ◌==◌}
use Rattle.std.proofs.lemmas.Bool.{eqb-false}
use Rattle.pg_game.specs.Least.{IsFirstEdge}
use Rattle.pg_board.specs.Refusal.{IsOpenEdge}
use Rattle.pg_dominion.proofs.RowsByPlace.{distinct_rising, in_vertices}
use Rattle.pg_board.proofs.RestIsGood.{in_rest, kept_of_rest, rest_right, rest_twice}
use Rattle.pg_board.specs.declared.journal.Refusal.TheVariants as refusal

abbrev pub record_with : Graph → Journal → BoardRecord
record_with g j = record { graph = g; journal = j }

-- the vertices of the rest and the player's
abbrev pub Bounds : State → Player → ClaimRows → VertexSet
Bounds st p rows = union (named (rest_of st rows)) (settled st p)

module _ (g : Graph) (st : State) (p : Player) (rows : ClaimRows) where
  pub good_on : IsSound g p rows → NoneHas (IsLost st p rows) → 0 < length (rest_of st rows)
      → ((v w : ℕ) → IsOpenEdge g st p (rest_of st rows) v w → ⊥) → IsGoodOn g st p rows
  good_on sound none some closed = record {
    sound = sound;
    not_lost = λ v i. false_from_ne_true _ (λ t. none v (i, t));
    not_stale = some;
    closed = λ v w k. inside v w k (Bounds st p rows w) refl;
  }
    where
      inside : (v w : ℕ) → KeptEdge g p (named (rest_of st rows)) (choice_in rows) v w → (b : Bool) → Bounds st p rows w ≡ b
          → In (Bounds st p rows) w
      inside v w k true e = e
      inside v w k false e = absurd (closed v w (kept_of_rest g p st rows v w k, e))

-- a sound claim of which nothing is lost on a board, and its rest
pub record IsChecked (g : Graph) (j : Journal) (r : Regions) (number : ℕ) (p : Player) (rows rest : ClaimRows) : Type 0 where
  pub board : IsBoard g j r number
  pub sound : IsSound g p rows
  pub none : NoneHas (IsLost (table_state r.table.items) p rows)
  pub rest_is : rest ≡ rest_of (table_state r.table.items) rows

module _ {g : Graph} {j : Journal} {r : Regions} {number : ℕ} {p : Player} {rows rest : ClaimRows} (h : IsChecked g j r number p rows rest) where
  abbrev now : State
  now = table_state r.table.items

  -- the rest is right and unsettled
  pub rest_right_here : AreRight g p rest
  rest_right_here = subst (λ (xs : ClaimRows). AreRight g p xs) (sym h.rest_is) (rest_right g p now rows h.sound.shape.right)

  pub rest_open : Within (named rest) (members r.unsettled)
  rest_open v i =
      let is = in_rest now rows v (subst (λ (xs : ClaimRows). In (named xs) v) h.rest_is i) in
      search (rules, h.board.regions.mask v, is.1, lt-ltb, (named_right g p rows v h.sound.shape.right.each is.0).vertex)

  pub rest_now : rest ≡ rest_of (state_of j) rows
  rest_now = subst (λ (s : State). rest ≡ rest_of s rows) (fun_ext h.board.state) h.rest_is

  pub refused_open : (v w : ℕ) → IsFirstEdge (IsOpenEdge g now p rest) v w → Refuses g (state_of j) p rows (refusal.Open v w)
  refused_open v w found = subst (λ (s : State). Refuses g s p rows (refusal.Open v w)) (fun_ext h.board.state)
      (h.sound, h.none, subst (λ (xs : ClaimRows). IsFirstEdge (IsOpenEdge g now p xs) v w) h.rest_is found)

  pub claim_good : 0 < length rest → ((v w : ℕ) → IsOpenEdge g now p rest v w → ⊥) → IsGoodOn g (state_of j) p rows
  claim_good some none =
      let closed = subst (λ (xs : ClaimRows). (v w : ℕ) → IsOpenEdge g now p xs v w → ⊥) h.rest_is none in
      subst (λ (s : State). IsGoodOn g s p rows) (fun_ext h.board.state)
      (good_on g now p rows h.sound h.none (subst (λ (xs : ClaimRows). 0 < length xs) h.rest_is some) closed)

pub nonempty : (rows : ClaimRows) {n : ℕ} → n ≡ length rows → (n == 0) ≡ false → 0 < length rows
nonempty rows {n} e f = let h = eqb-false n 0 f in omega (arith, h)

pub sound_here : {x : BoardRecord} {g : Graph} {j : Journal} {p : Player} {rows : ClaimRows} → record { graph = g; journal = j } ≡ x → IsSound x.graph p rows
    → IsSound g p rows
sound_here {p = p} {rows} view sound = subst (λ (y : BoardRecord). IsSound y.graph p rows) (sym view) sound

-- an entry that answers the rest answers the claim
pub adds_claim : (old new : BoardRecord) (worker : ℕ) (p : Player) (rows : ClaimRows) (claim : Claim) (posted : Posted) → claim.player ≡ p
    → rows ≡ rest_of (state_of old.journal) claim.rows → Adds old new worker (record { player = p; rows = rows }) posted
    → Adds old new worker claim posted
adds_claim old new worker p rows claim posted player same a =
    record {
      entry = a.entry;
      journal = a.journal;
      answers = record {
        player = a.answers.player ∙ sym player;
        claimed = a.answers.claimed;
        rest = a.answers.rest ∙ (ap (rest_of (state_of old.journal)) same ∙ rest_twice (state_of old.journal) claim.rows);
        exact = rw player a.answers.exact;
        turns = rw player a.answers.turns;
      };
      by_worker = a.by_worker;
      number = a.number;
      claimed = a.claimed;
      settled = a.settled;
    }

-- right rows are no more than the vertices
pub few_rows : {g : Graph} {p : Player} {rows : ClaimRows} → AreRight g p rows → length rows ≤ length g
few_rows {g} {p} {rows} a =
    let below : (q : ℕ) → list_any (nat_eq q) (vertices rows) ≡ true → q < length g =
    λ q m. (named_right g p rows q a.each (sym (in_vertices rows q) ∙ m)).vertex in
    let h = length-le_from_distinct_below (vertices rows) (length g) (distinct_rising (vertices rows) a.rising) below in
    omega (arith, h, length-map rows (λ (r : ℕ × Option ℕ). r.0))
