-- A claim that was a dominion once may be posted as long as something of it is open.
use Rattle.pg_board.proofs.Common.{rules, ◌≡◌, ℕ, ◌<◌, Bool, true, false, ◌||◌, ◌⊎◌, [], ◌∷◌, ◌++◌, length, take, drop, refl, ◌∙◌, ap, subst, nat_lt}
use Rattle.pg_board.proofs.Common.{if◌then◌else◌, Contains, false_from_ne_true, and_parts, or_cases, or_left, or_right, take-append-drop, Player, Even, Odd}
use Rattle.pg_board.proofs.Common.{opponent, Graph, In, no_vertices, union, Choices, kept, KeptEdge, Wins, ClosedWalk-weaker, wins_disjoint, grown_region}
use Rattle.pg_board.proofs.Common.{ClaimRows, named, choice_in, named_right, kept_same, is_winner, State, settled, choices, is_unsettled, rest_of, IsGoodOn}
use Rattle.pg_board.proofs.Common.{IsDominion, IsLawfulState, Journal, state_of, IsLawful, IsDominionAfter}
use Rattle.pg_game.proofs.GrownRegions.{Grows}
use Rattle.pg_board.proofs.RestIsGood.{in_rest, named_rest}
use Rattle.pg_board.proofs.Numbers.{lawful_now}
use Rattle.pg_board.proofs.PushedEntry.{open_unsettled, settled_shut, neither_open}

pub state_append : (xs ys : Journal) (v : ℕ) → state_of (xs ++ ys) v ≡ (if is_unsettled (state_of xs v) then state_of ys v else state_of xs v)
state_append [] ys v = refl
state_append (x ∷ xs) ys v = search (rules, state_append xs ys v)

-- what is settled stays settled
pub stays_settled : (xs ys : Journal) (p : Player) (v : ℕ) → In (settled (state_of xs) p) v → In (settled (state_of (xs ++ ys)) p) v
stays_settled xs ys p v i = ap (is_winner p) (state_append xs ys v ∙ rw (settled_shut p (state_of xs v) i) refl) ∙ i

pub disjoint_for : (g : Graph) (p : Player) (v : ℕ) → Wins g p v → Wins g (opponent p) v → ⊥
disjoint_for g Even v a b = wins_disjoint g v a b
disjoint_for g Odd v a b = wins_disjoint g v b a

-- where a player wins on a state, with the claim
module _ (g : Graph) (st : State) (lawful : IsLawfulState g st) (p : Player) (rows : ClaimRows) (d : IsDominion g st p rows) where
  abbrev both_choices : Choices
  both_choices v = if named rows v then choice_in rows v else choices st v

  claim_open : (v : ℕ) → In (named rows) v → is_unsettled (st v) ≡ true
  claim_open v i = (and_parts (nat_lt v (length g)) (is_unsettled (st v)) (d.vertices v i)).1

  as_claim : (v w : ℕ) → In (named rows) v → Contains (kept g p both_choices v) w → KeptEdge g p (named rows) (choice_in rows) v w
  as_claim v w i m = let e : both_choices v ≡ choice_in rows v = rw i refl in kept_same g p (named rows) (choice_in rows) both_choices v w e i m

  grows : Grows g p (settled st p) (named rows) no_vertices (choices st) both_choices (λ v. 0)
  grows = record {
    old = lawful.regions p;
    rest = λ v i. (and_parts (nat_lt v (length g)) (is_unsettled (st v)) (d.vertices v i)).0;
    attracted = λ v i. absurd (cc i);
    rest_choices = λ v i o. search (rules, (named_right g p rows v d.sound.shape.right.each i).own, named_right, d.sound.shape.right.each);
    attracted_choices = λ v i o. absurd (cc i);
    rest_closed = λ v w i m. or_cases (named rows w) (settled st p w) (d.closed v w (as_claim v w i m));
    attracted_falls = λ v w i m. absurd (cc i);
    rest_good = λ walk c. search (rules, d.sound.good, ClosedWalk-weaker, as_claim);
    keeps_old = λ v i. search (rules, false_from_ne_true, claim_open, settled_shut);
    rest_new = λ v i. open_unsettled p (st v) (claim_open v i);
    attracted_new = λ v i. absurd (cc i);
  }

  pub dominion_wins : (v : ℕ) → In (named rows) v → Wins g p v
  dominion_wins v i = record {
    vertices = union (settled st p) (union (named rows) no_vertices);
    choices = both_choices;
    region = grown_region g p (settled st p) (named rows) no_vertices (choices st) both_choices (λ v. 0) grows;
    inside = or_right (settled st p v) (named rows v || false) (or_left (named rows v) false i);
  }

module _ (g : Graph) (journal : Journal) (lawful : IsLawful g journal) (k : ℕ) (p : Player) (rows : ClaimRows) (d : IsDominionAfter g journal k p rows) where
  abbrev now : State
  now = state_of journal

  still : (q : Player) (v : ℕ) → In (settled (state_of (take k journal)) q) v → In (settled now q) v
  still q v i = subst (λ xs. In (settled (state_of xs) q) v) (take-append-drop k journal) (stays_settled (take k journal) (drop k journal) q v i)

  pub never_lost : (v : ℕ) → In (named rows) v → settled now (opponent p) v ≡ false
  never_lost v i = false_from_ne_true (settled now (opponent p) v) (λ a.
      disjoint_for g p v (dominion_wins g (state_of (take k journal)) (lawful.states k d.0) p rows d.1 v i) (record {
        vertices = settled now (opponent p);
        choices = choices now;
        region = (lawful_now g journal lawful).regions (opponent p);
        inside = a;
      }))

  -- a vertex of the claim that is not open is the player's
  pub ours_or_open : (v : ℕ) → In (named rows) v → (b : Bool) → is_unsettled (now v) ≡ b → In (named (rest_of now rows)) v ⊎ In (settled now p) v
  ours_or_open v i true o = search (rules, named_rest)
  ours_or_open v i false o = search (rules, never_lost, neither_open)

  pub stays_closed : (v w : ℕ) → KeptEdge g p (named (rest_of now rows)) (choice_in rows) v w → In (union (named (rest_of now rows)) (settled now p)) w
  stays_closed v w (i, m) = search (rules, or_cases, d.1.closed, in_rest, ours_or_open, or_left, or_right, still)

  pub dominion_good : 0 < length (rest_of now rows) → IsGoodOn g now p rows
  dominion_good some = search (rules, d.1.sound, never_lost, stays_closed)
