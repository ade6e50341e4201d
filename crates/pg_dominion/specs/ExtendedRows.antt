-- Rows that grow: each new row leads to earlier ones. They grow by no step, or by one step after another.
use mathlib.Core.Path.{fun_ext}
use Rattle.std.proofs.Common.{refl, sym, ◌∙◌, subst, arith}
use Rattle.std.specs.Prelude.{ℕ, ◌≡◌, ◌≤◌, ◌∷◌, ◌++◌, length, take, Option}
use Rattle.pg_game.specs.declared.player.Player.{Player}
use Rattle.pg_game.specs.Graph.{Graph}
use Rattle.pg_game.specs.VertexSet.{VertexSet, union}
use Rattle.pg_dominion.specs.Claim.{ClaimRows, named}
use Rattle.pg_dominion.specs.Attraction.{IsAttractedRow}

-- the newer list begins with the older
pub record Continues (old new : ClaimRows) : Type 0 where
  pub longer : length old ≤ length new
  pub front : (n : ℕ) → n ≤ length old → take n new ≡ take n old

-- from the place n on each row leads to earlier ones
abbrev pub LeadFrom : Graph → Player → VertexSet → ℕ → ClaimRows → Type 0
LeadFrom g p U n rows = (before after : ClaimRows) (r : ℕ × Option ℕ) → rows ≡ before ++ r ∷ after → n ≤ length before → IsAttractedRow g p U (named before) r

-- what is free, with rows before, and later: each new row leads to earlier ones
pub record Extends (g : Graph) (p : Player) (free : VertexSet) (rows : ClaimRows) (free' : VertexSet) (rows' : ClaimRows) : Type 0 where
  pub same : (v : ℕ) → union free' (named rows') v ≡ union free (named rows) v
  pub more : Continues rows rows'
  pub turns : (n : ℕ) → n ≤ length rows → LeadFrom g p (union free (named rows)) n rows → LeadFrom g p (union free (named rows)) n rows'

pub extends_same : (g : Graph) (p : Player) (free : VertexSet) (rows : ClaimRows) → Extends g p free rows free rows
extends_same g p free rows = record {
  same = λ v. refl;
  more = record { longer = omega arith; front = λ n l. refl };
  turns = λ n l turns. turns;
}

pub extends_then : (g : Graph) (p : Player) (a b c : VertexSet) (xs ys zs : ClaimRows) → Extends g p a xs b ys → Extends g p b ys c zs → Extends g p a xs c zs
extends_then g p a b c xs ys zs h k = record {
  same = λ v. k.same v ∙ h.same v;
  more = record {
    longer = omega (arith, h.more.longer, k.more.longer);
    front = λ n l. k.more.front n (omega (arith, l, h.more.longer)) ∙ h.more.front n l;
  };
  turns = λ n l turns. subst (λ (U : VertexSet). LeadFrom g p U n zs) (fun_ext h.same)
      (k.turns n (omega (arith, l, h.more.longer)) (subst (λ (U : VertexSet). LeadFrom g p U n ys) (sym (fun_ext h.same)) (h.turns n l turns)));
}
