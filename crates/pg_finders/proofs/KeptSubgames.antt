-- A subgame whose opponent takes a part: what the tops that are left attract, and what is still won of the rest.
use Rattle.pg_finders.proofs.Common.{◌≡◌, ℕ, false, inl, inr, sym, subst, fun_ext, and-true, Some, cases_Bool, Player, opponent, Graph, HasEdge}
use Rattle.pg_finders.proofs.Common.{owner_of, VertexSet, In, Within, no_vertices, without, IsSubgame, Choices, KeptEdge, ClosedWalk-weaker, Winners}
use Rattle.pg_finders.proofs.Common.{WinsOn, IsSolvedTo, IsAttracted, IsBegun, false_from_ne_true}
use Rattle.pg_finders.proofs.Sets.{no_both, only, minus, back}
use Rattle.pg_finders.proofs.SolvedSubgames.{left_is_subgame, back_equal, IsAttracted-subst, solved_but}

-- I is begun and A is its attractor. The opponent attracts B in I, and U is what is left of I. The player attracts C to the tops that are left,
-- in what is left of A.
module _ {g : Graph} {I T L : VertexSet} {p : Player} {won : Winners} {s : Choices} (begun : IsBegun g I T L p won s) {W B : VertexSet} {t : Choices}
    {rank : ℕ → ℕ} (lost : IsAttracted g (opponent p) I W B t rank) {C : VertexSet} {t' : Choices} {rank' : ℕ → ℕ}
    (more : IsAttracted g p (without (without I L) B) (without T B) C t' rank') where
  abbrev A : VertexSet
  A = without I L

  abbrev U : VertexSet
  U = without I B

  abbrev V : VertexSet
  V = without A B

  part_left : (v : ℕ) → In V v → In U v
  part_left v i = (let b = only (A v) (B v) i in minus (only (I v) (L v) b.0).0 b.1)

  in_part : (v : ℕ) → In A v → In U v → In V v
  in_part v a i = minus a (only (I v) (B v) i).1

  pub taken_before : (v : ℕ) → In C v → In A v
  taken_before v i = (only (A v) (B v) (more.inside v i)).0

  not_target : (v : ℕ) → In C v → without T B v ≡ false → T v ≡ false
  not_target v i n = elim (cases_Bool (T v)) [
    | inr m ↦ m
    | inl y ↦ absurd (no_both (minus y (only (A v) (B v) (more.inside v i)).1) n)
  ]

  -- a vertex of U out of A does not lead into A alone
  out_of_part : (v : ℕ) → In U v → owner_of g v ≡ opponent p → ((w : ℕ) → HasEdge g v w → In U w → In C w) → In A v
  out_of_part v u o f =
      let i = only (I v) (B v) u in
      begun.attracted.forced v i.0 o (λ w e j. elim (cases_Bool (B w)) [
        | inl y ↦ absurd (no_both (lost.own v w i.0 o e y) i.1)
        | inr n ↦ taken_before w (f w e (minus j n))
      ])

  -- so C is what the player attracts to them in all of U
  pub attracted_again : IsAttracted g p U (without T B) C t' rank'
  attracted_again = record {
    inside = λ v i. part_left v (more.inside v i);
    target = more.target;
    own = λ v w u o e c. (let i = only (I v) (B v) u in
        more.own v w (in_part v (begun.attracted.own v w i.0 o e (taken_before w c)) u) o e c);
    forced = λ v u o f. more.forced v (in_part v (out_of_part v u o f) u) o (λ w e j. f w e (part_left w j));
    leads = more.leads;
    pushed = λ v w c n o e u. (let a = begun.attracted.pushed v w (taken_before v c) (not_target v c n) o e (only (I w) (B w) u).0 in
        more.pushed v w c n o e (in_part w a.0 u));
  }

  pub subgame_again : IsSubgame g U
  subgame_again = left_is_subgame begun.subgame lost

  abbrev L' : VertexSet
  L' = without U C

  pub left_again : IsSubgame g L'
  left_again = left_is_subgame subgame_again attracted_again

  -- U is begun
  pub begun_again : {won' : Winners} → ((v : ℕ) → In (without T B) v → owner_of g v ≡ p → (w : ℕ) × (t' v ≡ Some w) × HasEdge g v w × In U w)
      → ((v : ℕ) → In C v → won' v ≡ p) → (t : ℕ) × In (without T B) t → IsBegun g U (without T B) L' p won' t'
  begun_again chosen his some = record {
    subgame = subgame_again;
    within = λ v i. (only (U v) (C v) i).0;
    rank = rank';
    parity = λ x i. begun.parity x (only (T x) (B x) i).0;
    below = λ x v i u n. (let j = only (I v) (B v) u in begun.below x v (only (T x) (B x) i).0 j.0 (false_from_ne_true (T v) (λ y. no_both (minus y j.1) n)));
    attracted = IsAttracted-subst (λ v. sym (back_equal (U v) (C v) (attracted_again.inside v))) attracted_again;
    chosen = chosen;
    his = λ v i. his v (back (U v) (C v) i);
    some = some;
  }

-- What the player won of L he still wins in R: those of X, whose choices stay there, and the opponent's edges that stay in R.
pub still_held : {g : Graph} {L R W X : VertexSet} {p : Player} {s : Choices} → WinsOn g L p W s → Within X W → Within X R
    → ((v w : ℕ) → In X v → owner_of g v ≡ p → s v ≡ Some w → In X w)
    → ((v w : ℕ) → In X v → owner_of g v ≡ opponent p → HasEdge g v w → In R w → In X w) → WinsOn g R p X s
still_held {g} {X = X} {p = p} {s = s} h within inside choices closed = record {
  within = inside;
  choices = λ v i o. (let c = h.choices v (within v i) o in (c.0, c.1, c.2, choices v c.0 i o c.1));
  closed = closed;
  good = λ walk c. h.good walk (ClosedWalk-weaker (KeptEdge g p X s) (KeptEdge g p _ s) (λ v w e. (within v e.0, e.1)) walk c);
}

-- and all that he attracts to it in R is his
pub still_solved : {g : Graph} {R X Y : VertexSet} {p : Player} {won : Winners} {s t : Choices} {rank : ℕ → ℕ} → WinsOn g R p X s
    → IsAttracted g p R X Y t rank → ((v : ℕ) → In X v → t v ≡ s v) → ((v : ℕ) → In Y v → won v ≡ p) → IsSolvedTo g R (without R Y) won t
still_solved {g} {R} {X} {Y} {p} {won} {s} {t} {rank} h a keeps his =
    solved_but g p R no_vertices X Y won s t rank (λ v w i o e j. cc j)
    (subst (λ Z. WinsOn g Z p X s) (fun_ext (λ v. sym (and-true (R v)))) h) a keeps his
