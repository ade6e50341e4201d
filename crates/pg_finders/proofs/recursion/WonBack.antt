-- What a player wins back where a subgame waits again: what he attracts of the active vertices to what he has still won. None of that is free.
use Rattle.pg_finders.proofs.Common.{◌≡◌, ℕ, ◌≤◌, ◌&&◌, ◌||◌, not, inl, inr, List, [], ◌++◌, length, refl, sym, ◌∙◌, ap}
use Rattle.pg_finders.proofs.Common.{subst, append-nil, fun_ext, arith}
use Rattle.pg_finders.proofs.Common.{Player, opponent, Graph, VertexSet, In, Within, union, without, listed, settled_of}
use Rattle.pg_finders.proofs.Common.{active_of, HasTaken, AttractsNoFurther, false, or_cases}
use Rattle.std.proofs.Math.Bool.{or-false}
use Rattle.std.proofs.lemmas.List.{drop_all}
use Rattle.pg_finders.specs.declared.recursion.partition.Partition.{Partition}
use Rattle.pg_finders.specs.declared.recursion.settled.Tail.{Tail}
use Rattle.pg_finders.specs.private.recursion.Settled.{since}
use Rattle.pg_finders.specs.private.recursion.Partition.{free_of, IsPartition, AttractsFree}
use Rattle.pg_finders.specs.private.recursion.GoingBack.{WinsBack}
use Rattle.pg_finders.proofs.Sets.{no_both}
use Rattle.pg_finders.proofs.recursion.ListsAsSets.{in_drop, in_prefix, in_rest}
use Rattle.pg_finders.proofs.recursion.AttractionSteps.{grown_none}
use Rattle.pg_finders.proofs.recursion.FreeVertices.{free_is}

-- nothing is attracted to nothing
pub wins_nothing : (g : Graph) (t : Tail) (x : Partition) → length (settled_of x.settled t.player) ≤ t.from → WinsBack g t x x
wins_nothing g t x l = record {
  more = [];
  grown = subst (λ ys. HasTaken g t.player (active_of x.subgame) x.subgame.plan (since t x.settled) (active_of x.subgame) x.subgame.plan ys)
      (sym (append-nil (since t x.settled))) grown_none;
  done = inl (drop_all t.from (settled_of x.settled t.player) l, refl);
  own = sym (append-nil (settled_of x.settled t.player));
  other = refl;
}

-- the tail `none` begins at the end of the player's list, so no settled vertex is free
module _ {n : ℕ} {x : Partition} (none : Tail) (partition : IsPartition n x) (from : none.from ≡ length (settled_of x.settled none.player)) where
  pub no_rest : since none x.settled ≡ []
  no_rest = drop_all none.from (settled_of x.settled none.player) (omega (arith, from))

  pub free_here : (v : ℕ) → free_of none x v ≡ active_of x.subgame v
  free_here v = free_is none partition v ∙ (ap (λ xs. active_of x.subgame v || listed xs v) no_rest ∙ or-false (active_of x.subgame v))

  pub settled_apart : (t : Tail) (v : ℕ) → In (listed (since t x.settled)) v → free_of none x v ≡ false
  settled_apart t v i = free_here v ∙ partition.apart t.player v (in_drop t.from (settled_of x.settled t.player) v i)

  -- where all active vertices are listed, he attracts no other one
  pub at_most_listed : (g : Graph) (p : Player) (D list : List ℕ) → Within (active_of x.subgame) (listed list)
      → AttractsNoFurther g p (union (free_of none x) (listed D)) (listed D) (listed (D ++ list))
  at_most_listed g p D list within = record { own = λ v w u n o e. absurd (never v u n); other = λ v u n o. absurd (never v u n) }
    where
      never : (v : ℕ) → In (union (free_of none x) (listed D)) v → listed (D ++ list) v ≡ false → ⊥
      never v u n = elim (or_cases (free_of none x v) (listed D v) u) [
        | inl f ↦ no_both (in_rest D list v (within v (sym (free_here v) ∙ f))) n
        | inr d ↦ no_both (in_prefix D list v d) n
      ]

  -- so what he has attracted of what was free, he has attracted of what was active
  module _ {g : Graph} {t : Tail} {z : Partition} {list : List ℕ} (his : t.player ≡ none.player) (a : AttractsFree g none t x z list) where
    abbrev A : VertexSet
    A = active_of x.subgame

    abbrev D : List ℕ
    D = since t x.settled

    free_are : free_of none x ≡ A
    free_are = fun_ext free_here

    left_are : without (free_of none x) (listed list) ≡ active_of z.subgame
    left_are = fun_ext (λ v. ap (λ b. b && not (listed list v)) (free_here v) ∙ sym (a.active v))

    pub won_back : WinsBack g t x z
    won_back = record {
      more = list;
      grown = subst (λ Z. HasTaken g t.player A x.subgame.plan D Z z.subgame.plan (D ++ list)) left_are
          (subst (λ Z. HasTaken g t.player Z x.subgame.plan D (without (free_of none x) (listed list)) z.subgame.plan (D ++ list)) free_are a.grown);
      done = inr (subst (λ Z. AttractsNoFurther g t.player (union Z (listed D)) (listed (D ++ list)) (listed (D ++ list))) free_are a.done);
      own = a.settled;
      other = subst (λ q. settled_of z.settled (opponent q) ≡ settled_of x.settled (opponent q)) (sym his) (a.own his);
    }
