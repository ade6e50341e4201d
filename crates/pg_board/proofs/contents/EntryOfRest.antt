-- The entry of a good rest and of what it attracts.
use Rattle.pg_board.proofs.Common.{rules, ◌≡◌, ℕ, ◌+◌, ◌≤◌, true, false, [], ◌∷◌, ◌++◌, length, take, drop, refl, sym, ◌∙◌, subst, arith, lt-ltb}
use Rattle.pg_board.proofs.Common.{length-append, ◌↔◌, fun_ext, sum_by_push, take-length, Player, Graph, IsGame, VertexSet, In, Within}
use Rattle.pg_board.proofs.Common.{all_vertices, union, members, IsSubgame, Attractor, ClaimRows, named, IsAttraction, named_right, Entry, State, settled}
use Rattle.pg_board.proofs.Common.{unsettled, rest_of, IsGoodOn, Journal, state_of, claimed_rows, Answers, IsLawful, number_settled, Regions, table_state}
use Rattle.pg_board.proofs.Common.{state_with, AreRegions, IsBoard, or_assoc, named-append, open_before, HasWritten, IsDistinct, nat_eq, nat_lt}
use Rattle.pg_board.proofs.Common.{is_unsettled, ◌<◌, ap, ltb-true, eqb-true, and_parts, or_left, false_from_ne_true, vertices}
use Rattle.std.proofs.lemmas.List.Sums.{count_by-le-length}
use Rattle.std.proofs.Math.Seq.{take-append_seam, drop-append_seam}
use Rattle.pg_board.proofs.RestIsGood.{in_rest}
use Rattle.pg_board.proofs.PushedEntry.{state_push}
use Rattle.pg_board.proofs.Lawful.{lawful_push}
use Rattle.pg_board.proofs.Numbers.{lawful_now, number_within, sum_fits, all_named}
use Rattle.std.proofs.lemmas.Bool.{and_from}
use Rattle.pg_dominion.specs.AttractorState.{AttractsNoFurther}
use Rattle.pg_dominion.specs.ExtendedRows.{LeadFrom}
use Rattle.pg_dominion.proofs.AttractionSteps.{grown_attraction, grown_rows}
use Rattle.pg_dominion.proofs.TakenRow.{lead_none}
use Rattle.pg_board.specs.private.WrittenRows.{WritesInTurn}
use Rattle.pg_dominion.proofs.RowsByPlace.{distinct_rising}
use Rattle.pg_board.proofs.WholeAttractor.{whole}

-- a rest lies in the unsettled part
pub rest_inside : (g : Graph) (st : State) (p : Player) (R : ClaimRows) → IsGoodOn g st p R → rest_of st R ≡ R → Within (named R) (unsettled g st)
rest_inside g st p R good twice v i =
    search (rules, (named_right g p R v good.sound.shape.right.each i).vertex, and_from, lt-ltb, named_right, good.sound.shape.right.each, in_rest)

-- the entry of a claim that is its own rest, on a lawful journal: its rows, and after them what they attract
pub record Enters (g : Graph) (j : Journal) (p : Player) (R A : ClaimRows) (e : Entry) : Type 0 where
  pub game : IsGame g
  pub lawful : IsLawful g j
  pub good : IsGoodOn g (state_of j) p R
  pub twice : rest_of (state_of j) R ≡ R
  pub attraction : IsAttraction g p (unsettled g (state_of j)) (named R) A
  pub player : e.player ≡ p
  pub claimed : e.claimed ≡ length R
  pub rows : e.rows ≡ R ++ A

module _ (g : Graph) (j : Journal) (p : Player) (R A : ClaimRows) (e : Entry) (h : Enters g j p R A e) where
  abbrev st : State
  st = state_of j

  claimed_are : claimed_rows e ≡ R
  claimed_are = rw (h.claimed, h.rows) (take-append_seam R A)

  all : IsAttraction g p (all_vertices g) (union (settled st p) (named R)) A
  all = whole g h.game st (lawful_now g j h.lawful) p (named R) (rest_inside g st p R h.good h.twice) A h.attraction

  names : (v : ℕ) → union (settled st p) (named e.rows) v ≡ union (union (settled st p) (named R)) (named A) v
  names v = rw (h.rows, named-append R A v) (sym (or_assoc (settled st p v) (named R v) (named A v)))

  abbrev Exact : ClaimRows → ℕ → Type 0
  Exact xs v = In (union (settled st p) (named e.rows)) v ↔ Attractor g p (all_vertices g) (union (settled st p) (named xs)) v

  pub answered : Answers g st p R e
  answered = record {
    player = h.player;
    claimed = rw (h.claimed, h.rows) (omega (arith, length-append R A));
    rest = claimed_are ∙ sym h.twice;
    exact = λ v. subst (λ (xs : ClaimRows). Exact xs v) (sym claimed_are) (λ i. (all.exact v).0 (sym (names v) ∙ i), λ i. names v ∙ (all.exact v).1 i);
    turns = search (rules, claimed_are, all.turns, h.claimed, drop-append_seam);
  }

  pub lawful_more : IsLawful g (j ++ e ∷ [])
  lawful_more = lawful_push (record { game = h.game; lawful = h.lawful; posted = h.good; answers = answered })

  pub number_more : number_settled (j ++ e ∷ []) ≡ number_settled j + length e.rows
  number_more = sum_by_push (λ (x : Entry). length x.rows) j e

  pub number_fits : number_settled j + length e.rows ≤ length g
  number_fits = let n = number_within g (j ++ e ∷ []) lawful_more in omega (arith, number_more)

-- a claim that is its own rest, before it is entered
pub record IsEntering (g : Graph) (j : Journal) (r : Regions) (number : ℕ) (p : Player) (R : ClaimRows) : Type 0 where
  pub board : IsBoard g j r number
  pub good : IsGoodOn g (state_of j) p R
  pub twice : rest_of (state_of j) R ≡ R

-- what the steps in place have made of a board's regions: all that the claim attracts is settled
pub record HasGrown (g : Graph) (p : Player) (r r2 : Regions) (R rows : ClaimRows) : Type 0 where
  pub regions : AreRegions g r2
  pub attraction : IsAttraction g p (members r.unsettled) (named R) (drop (length R) rows)
  pub parts : rows ≡ R ++ drop (length R) rows
  pub tells : (v : ℕ) → table_state r2.table.items v ≡ state_with (table_state r.table.items) p rows v

-- the entry has the claim's rows and the others
pub record HasRows (e : Entry) (p : Player) (R rows : ClaimRows) : Type 0 where
  pub player : e.player ≡ p
  pub claimed : e.claimed ≡ length R
  pub rows_are : e.rows ≡ rows

module _ {g : Graph} {j : Journal} {r : Regions} {number : ℕ} {p : Player} {R : ClaimRows} (q : IsEntering g j r number p R) where
  opened : members r.unsettled ≡ unsettled g (state_of j)
  opened = search (rules, q.board)

  board_subgame : IsSubgame g (members r.unsettled)
  board_subgame = subst (λ (U : VertexSet). IsSubgame g U) (sym opened) (lawful_now g j q.board.lawful).open_part

  pub rest_within : Within (named R) (members r.unsettled)
  rest_within = subst (λ (U : VertexSet). Within (named R) U) (sym opened) (rest_inside g (state_of j) p R q.good q.twice)

  pub rest_distinct : IsDistinct nat_eq (vertices R)
  rest_distinct = distinct_rising (vertices R) q.good.sound.shape.right.rising

  rest_unsettled : (v : ℕ) → named R v ≡ true → (v < length g) × (is_unsettled (state_of j v) ≡ true)
  rest_unsettled v i = (
    (named_right g p R v q.good.sound.shape.right.each i).vertex,
    (in_rest (state_of j) R v (subst (λ (xs : ClaimRows). In (named xs) v) (sym q.twice) i)).1,
  )

  pub few : number + length R ≤ length g
  few = let h = sum_fits g j q.board.lawful R rest_distinct rest_unsettled in omega (arith, h, q.board.number_is)

  -- once the rest is settled
  module _ (r1 : Regions) (first : ClaimRows) (is : first ≡ R) (same : (v : ℕ) → open_before r1 first v ≡ members r.unsettled v) where
    pub open_subgame : IsSubgame g (open_before r1 R)
    open_subgame =
        let same_here = subst (λ (xs : ClaimRows). (v : ℕ) → open_before r1 xs v ≡ members r.unsettled v) is same in
        subst (λ (U : VertexSet). IsSubgame g U) (sym (fun_ext same_here)) board_subgame

    -- where it was all that was unsettled, nothing is left
    pub none_left : ((v : ℕ) → In (named first) v → members r1.unsettled v ≡ false) → {rows n : ℕ} → rows ≡ length R → n ≡ length g
        → nat_eq (number + rows) n ≡ true → (v : ℕ) → members r1.unsettled v ≡ false
    none_left apart {rows} {n} length_is size all v = false_from_ne_true (members r1.unsettled v) (λ t.
        (let was : members r.unsettled v ≡ true = sym (same v) ∙ or_left (members r1.unsettled v) (named first v) t in
        let is_open : unsettled g (state_of j) v ≡ true = ap (λ (U : VertexSet). U v) (sym opened) ∙ was in
        let parts = and_parts (nat_lt v (length g)) (is_unsettled (state_of j v)) is_open in
        let sum : number_settled j + length R ≡ length g = omega (arith, eqb-true (number + rows) n all, length_is, size, q.board.number_is) in
        let n = all_named g j q.board.lawful R rest_distinct rest_unsettled sum v (ltb-true v (length g) parts.0) parts.1 in
        let f = apart v (ap (λ (xs : ClaimRows). named xs v) is ∙ n) in cc (t, f)))

  module _ {r2 : Regions} {rows : ClaimRows} (grown : HasGrown g p r r2 R rows) where
    module _ (e : Entry) (has : HasRows e p R rows) where
      enters : Enters g j p R (drop (length R) rows) e
      enters = search (rules, q.board.game, q.board.lawful, q.good, q.twice, opened, grown.attraction, has.claimed, has.rows_are, grown.parts)

      pub entry_answers : Answers g (state_of j) p R e
      entry_answers = answered g j p R (drop (length R) rows) e enters

      pub entry_fits : number + length e.rows ≤ length g
      entry_fits = let n = number_fits g j p R (drop (length R) rows) e enters in omega (arith, q.board.number_is)

      pub board_entered : (n : ℕ) → n ≡ length e.rows → IsBoard g (j ++ e ∷ []) r2 (number + n)
      board_entered n size = record {
        game = q.board.game;
        limits = q.board.limits;
        lawful = lawful_more g j p R (drop (length R) rows) e enters;
        regions = grown.regions;
        state = λ v. search (rules, fun_ext q.board.state, has.rows_are, grown.tells, q.board.state, enters, state_push);
        number_is = (let m = number_more g j p R (drop (length R) rows) e enters in omega (arith, q.board.number_is));
      }

    pub grown_fits : number + length rows ≤ length g
    grown_fits = entry_fits (record { worker = 0; player = p; claimed = length R; rows = rows }) (record { player = refl; claimed = refl; rows_are = refl })

-- at the start of a growth there is capacity for a row of each vertex
pub HasWritten-start : (g : Graph) (r : Regions) (rows : ClaimRows) (spare : ℕ) → AreRegions g r → rows ≡ [] → length g ≤ spare
    → HasWritten g r rows spare
HasWritten-start g r rows spare regions none size = subst (λ (xs : ClaimRows). HasWritten g r xs spare) (sym none) (record {
  regions = regions;
  apart = λ v n. absurd (let h : false ≡ true = n in cc h);
  fits = omega (arith, size, regions.mask_size, count_by-le-length (λ b. b) r.unsettled);
})

-- a greater capacity suffices
pub HasWritten-more : (g : Graph) (r : Regions) (rows : ClaimRows) (n m : ℕ) → n ≤ m → HasWritten g r rows n → HasWritten g r rows m
HasWritten-more g r rows n m l growing = search (rules, growing.regions, growing.apart, growing.fits)

-- the claim's rows are settled, and then what they attract
module _ (g : Graph) (p : Player) (r1 r2 : Regions) (R rows : ClaimRows) (grows : WritesInTurn g p r1 R r2 rows) where
  front : take (length R) rows ≡ R
  front = grows.extends.more.front (length R) (omega arith) ∙ take-length R

  turns : LeadFrom g p (open_before r1 R) (length R) rows
  turns = grows.extends.turns (length R) (omega arith) (lead_none g p (open_before r1 R) R)

  pub has_grown : (r : Regions) (first : ClaimRows) → first ≡ R → ((v : ℕ) → open_before r1 first v ≡ members r.unsettled v)
      → ((v : ℕ) → table_state r1.table.items v ≡ state_with (table_state r.table.items) p first v) → AreRegions g r2
      → AttractsNoFurther g p (open_before r1 R) (named rows) (named rows) → HasGrown g p r r2 R rows
  has_grown r first is same written regions done =
      let same_here = subst (λ (xs : ClaimRows). (v : ℕ) → open_before r1 xs v ≡ members r.unsettled v) is same in
      let written_here = subst (λ (xs : ClaimRows). (v : ℕ) → table_state r1.table.items v ≡ state_with (table_state r.table.items) p xs v) is written in
      record {
        regions = regions;
        attraction = subst (λ (U : VertexSet). IsAttraction g p U (named R) (drop (length R) rows)) (fun_ext same_here)
            (grown_attraction g p (open_before r1 R) R rows front turns done);
        parts = grown_rows g p (open_before r1 R) R rows front turns done;
        tells = grows.tells (table_state r.table.items) written_here;
      }
