-- The rest of a claim is a claim that is as good.
use Rattle.pg_board.proofs.Common.{rules, ◌≡◌, ℕ, true, ◌&&◌, [], ◌∷◌, refl, sym, ◌∙◌, subst, eqb-true, and_parts, and-false, All-from_recursion}
use Rattle.pg_board.proofs.Common.{recursion_from_All, Player, Graph, In, union, KeptEdge, ClosedWalk-weaker, ClaimRows, named, choice_in, AreRight, kept_same}
use Rattle.pg_board.proofs.Common.{vertices, State, is_unsettled, rest_of, settled, IsGoodOn}
use Rattle.std.specs.Prelude.{filter}
use Rattle.std.proofs.lemmas.List.Kept.{IsStrictlyIncreasing-filter}
use Rattle.std.proofs.lemmas.List.Elements.{All-filter}

open_rows : (st : State) (rows : ClaimRows) → vertices (rest_of st rows) ≡ filter (λ v. is_unsettled (st v)) (vertices rows)
open_rows st [] = refl
open_rows st (r ∷ rows) = search (rules, open_rows st rows)

-- the rest names the open vertices of the claim
pub named_rest : (st : State) (rows : ClaimRows) (v : ℕ) → named (rest_of st rows) v ≡ (named rows v && is_unsettled (st v))
named_rest st [] v = refl
named_rest st (r ∷ rows) v = search (rules, named_rest st rows v, eqb-true, and-false)

pub in_rest : (st : State) (rows : ClaimRows) (v : ℕ) → In (named (rest_of st rows)) v → In (named rows) v × (is_unsettled (st v) ≡ true)
in_rest st rows v i = and_parts (named rows v) (is_unsettled (st v)) (sym (named_rest st rows v) ∙ i)

-- and gives them the claim's choices
pub choice_rest : (st : State) (rows : ClaimRows) (v : ℕ) → is_unsettled (st v) ≡ true → choice_in (rest_of st rows) v ≡ choice_in rows v
choice_rest st [] v o = refl
choice_rest st (r ∷ rows) v o = search (rules, choice_rest st rows v o, eqb-true)

-- a kept edge of the claim from its rest is one of the rest
pub kept_of_rest : (g : Graph) (p : Player) (st : State) (rows : ClaimRows) (v w : ℕ) → KeptEdge g p (named (rest_of st rows)) (choice_in rows) v w
    → KeptEdge g p (named (rest_of st rows)) (choice_in (rest_of st rows)) v w
kept_of_rest g p st rows v w (i, m) = search (rules, (in_rest st rows v i).1, kept_same, choice_rest, in_rest)

-- and conversely
pub kept_rest : (g : Graph) (p : Player) (st : State) (rows : ClaimRows) (v w : ℕ)
    → KeptEdge g p (named (rest_of st rows)) (choice_in (rest_of st rows)) v w → KeptEdge g p (named (rest_of st rows)) (choice_in rows) v w
kept_rest g p st rows v w (i, m) = search (rules, (in_rest st rows v i).1, kept_same, choice_rest, in_rest)

pub rest_twice : (st : State) (rows : ClaimRows) → rest_of st (rest_of st rows) ≡ rest_of st rows
rest_twice st [] = refl
rest_twice st (r ∷ rows) = search (rules, rest_twice st rows)

pub rest_right : (g : Graph) (p : Player) (st : State) (rows : ClaimRows) → AreRight g p rows → AreRight g p (rest_of st rows)
rest_right g p st rows a = search (rules, recursion_from_All, All-filter, All-from_recursion, a.each, open_rows, IsStrictlyIncreasing-filter, a.rising)

-- where a claim may be posted, so may its rest as a claim of its own
pub rest_is_good : (g : Graph) (st : State) (p : Player) (rows : ClaimRows) → IsGoodOn g st p rows → IsGoodOn g st p (rest_of st rows)
rest_is_good g st p rows h = record {
  sound = record {
    shape = search (rules, h.not_stale, rest_right, h.sound.shape.right);
    good =
        λ walk c. h.sound.good walk (ClosedWalk-weaker (KeptEdge g p (named (rest_of st rows)) (choice_in (rest_of st rows)))
        (KeptEdge g p (named rows) (choice_in rows))
        (λ v w k. let k' = kept_rest g p st rows v w k in ((in_rest st rows v k'.0).0, k'.1)) walk c);
  };
  not_lost = λ v i. h.not_lost v (in_rest st rows v i).0;
  not_stale = rw (rest_twice st rows) h.not_stale;
  closed = λ v w k.
      let e = rest_twice st rows in
      let k1 : KeptEdge g p (named (rest_of st rows)) (choice_in (rest_of st rows)) v w =
      subst (λ xs. KeptEdge g p (named xs) (choice_in (rest_of st rows)) v w) e k in
      subst (λ xs. In (union (named xs) (settled st p)) w) (sym e) (h.closed v w (kept_rest g p st rows v w k1));
}
