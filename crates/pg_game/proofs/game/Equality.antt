-- Equality of games, part by part.
use Rattle.pg_game.proofs.Common.{◌≡◌, ℕ, Bool, true, false, ◌&&◌, List, refl, sym, ◌∙◌, ap, rules, eqb-true, eq-eqb, not-false}
use Rattle.pg_game.proofs.Common.{Player, Even, Odd, Graph, Vertex, graph_of, AreParts}
use Rattle.std.specs.Prelude.{nat_eq, not}
use Rattle.std.specs.Bool.{Decides}
use Rattle.std.specs.Cmp.Lexicographic.{pointwise, pointwise_decides}
use Rattle.std.proofs.lemmas.Bool.{and_parts, and_from}
use Rattle.pg_game.specs.Player.{digit_of}
use Rattle.pg_game.specs.Same.{same_vertex, same_graph}
use Rattle.pg_game.proofs.game.Parts as part

same_digit : (p q : Player) → digit_of p ≡ digit_of q → p ≡ q
same_digit x0 x1 e = search (rules)

pub number_decides : (x y : ℕ) → Decides (nat_eq x y) (x ≡ y)
number_decides x y = (eqb-true x y, eq-eqb x y)

pub numbers_decide : (xs ys : List ℕ) → Decides (pointwise nat_eq xs ys) (xs ≡ ys)
numbers_decide xs ys = pointwise_decides number_decides xs ys

module _ (x y : Vertex) where
  abbrev owners : Bool
  owners = nat_eq (digit_of x.owner) (digit_of y.owner)

  abbrev rows : Bool
  rows = pointwise nat_eq x.successors y.successors

  abbrev priorities : Bool
  priorities = nat_eq x.priority y.priority

  vertices_decide : Decides (same_vertex x y) (x ≡ y)
  vertices_decide = (
    λ t.
        let a = and_parts (nat_eq x.id y.id) (priorities && (owners && rows)) t in
        let b = and_parts priorities (owners && rows) a.1 in
        let c = and_parts owners rows b.1 in
        let id = eqb-true x.id y.id a.0 in
        let priority = eqb-true x.priority y.priority b.0 in
        let owner = same_digit x.owner y.owner (eqb-true (digit_of x.owner) (digit_of y.owner) c.0) in
        let successors = (numbers_decide x.successors y.successors).0 c.1 in
        λ i. record { id = id i; priority = priority i; owner = owner i; successors = successors i },
    λ e.
        and_from (nat_eq x.id y.id) (priorities && (owners && rows)) (eq-eqb x.id y.id (ap (λ (z : Vertex). z.id) e))
        (and_from priorities (owners && rows) (eq-eqb x.priority y.priority (ap (λ (z : Vertex). z.priority) e))
        (and_from owners rows (eq-eqb (digit_of x.owner) (digit_of y.owner) (ap (λ (z : Vertex). digit_of z.owner) e))
        ((numbers_decide x.successors y.successors).1 (ap (λ (z : Vertex). z.successors) e)))),
  )

-- the test of equality is equality
pub graphs_decide : (g h : Graph) → Decides (same_graph g h) (g ≡ h)
graphs_decide g h = pointwise_decides vertices_decide g h

pub record AreSameParts (ids ps ids' ps' : List ℕ) (os os' : List Player) (rows rows' : List (List ℕ)) : Type 0 where
  pub same_ids : ids ≡ ids'
  pub same_priorities : ps ≡ ps'
  pub same_owners : os ≡ os'
  pub same_rows : rows ≡ rows'

-- games are equal exactly where their parts are
pub same_parts : {ids ps ids' ps' : List ℕ} {os os' : List Player} {rows rows' : List (List ℕ)} {g h : Graph} → AreParts ids ps os rows
    → AreParts ids' ps' os' rows' →
    graph_of ids ps os rows ≡ g → graph_of ids' ps' os' rows' ≡ h → g ≡ h → AreSameParts ids ps ids' ps' os os' rows rows'
same_parts a b is is' e = record {
  same_ids = sym (part.ids_are a (is ∙ e)) ∙ part.ids_are b is';
  same_priorities = sym (part.priorities_are a (is ∙ e)) ∙ part.priorities_are b is';
  same_owners = sym (part.owners_are a (is ∙ e)) ∙ part.owners_are b is';
  same_rows = sym (part.rows_are a (is ∙ e)) ∙ part.rows_are b is';
}

pub player_decides : (t : Player → Player → Bool) → t Even Even ≡ true → t Even Odd ≡ false → t Odd Even ≡ false → t Odd Odd ≡ true
    → (p q : Player) → Decides (t p q) (p ≡ q)
player_decides t both unlike unlike' same Even Even = (λ _. refl, λ _. both)
player_decides t both unlike unlike' same Even Odd = (λ h. absurd (cc (h, unlike)), λ e. absurd (cc e))
player_decides t both unlike unlike' same Odd Even = (λ h. absurd (cc (h, unlike')), λ e. absurd (cc e))
player_decides t both unlike unlike' same Odd Odd = (λ _. refl, λ _. same)

-- what `!=` of lists says, where the test of items is equality
module _ {X : Type 0} (t : X → X → Bool) (decides : (x y : X) → Decides (t x y) (x ≡ y)) (xs ys : List X) (r : Bool)
    (is : r ≡ not (pointwise t xs ys)) where
  pub differ : r ≡ true → xs ≡ ys → ⊥
  differ said e = let q : r ≡ false = is ∙ ap not ((pointwise_decides decides xs ys).1 e) in cc (said, q)

  pub agree : r ≡ false → xs ≡ ys
  agree said = (pointwise_decides decides xs ys).0 (not-false (pointwise t xs ys) (sym is ∙ said))
