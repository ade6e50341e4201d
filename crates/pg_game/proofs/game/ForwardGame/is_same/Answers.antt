use Rattle.pg_game.proofs.Common.{rules, ◌≡◌, true, false, refl, sym, ◌∙◌, graph_of}
use Rattle.std.specs.Prelude.{nat_eq}
use Rattle.pg_game.proofs.game.Equality.{same_parts, number_decides, player_decides, differ, agree}
use Rattle.pg_game.proofs.game.ForwardGame.is_same.Goals as goal

pub returns-then-not-same_identifiers : goal.returns-then-not-same_identifiers
returns-then-not-same_identifiers c = (
  λ t. absurd (cc t),
  λ e.
      let p = same_parts c.self.invariant.parts c.other.invariant.parts c.self.view_is c.other.view_is e in
      let y : c.is_same-same_identifiers.result ≡ true = c.is_same-same_identifiers.ensures.1 p.same_ids in
      let n : c.is_same-same_identifiers.result ≡ false = search rules in
      absurd (cc (y, n)),
)

pub returns-then-priorities_differ : goal.returns-then-priorities_differ
returns-then-priorities_differ c = (
  λ t. absurd (cc t),
  λ e.
      let p = same_parts c.self.invariant.parts c.other.invariant.parts c.self.view_is c.other.view_is e in
      absurd (differ nat_eq number_decides _ _ _ c.ne-priorities_differ.ensures c.if-priorities_differ.true (c.as_slice-priorities.ensures.value ∙ (p.same_priorities ∙ sym c.as_slice-other_priorities.ensures.value))),
)

pub returns-then-owners_differ : goal.returns-then-owners_differ
returns-then-owners_differ c = (
  λ t. absurd (cc t),
  λ e.
      let p = same_parts c.self.invariant.parts c.other.invariant.parts c.self.view_is c.other.view_is e in
      absurd (differ _ (player_decides _ refl refl refl refl) _ _ _ c.ne-owners_differ.ensures c.if-owners_differ.true
      (c.as_slice-owners.ensures.value ∙ (p.same_owners ∙ sym c.as_slice-other_owners.ensures.value))),
)

pub returns : goal.returns
returns c =
    let s = c.self.inside in
    let o = c.other.inside in
    let same : c.is_same-same_identifiers.result ≡ true = search rules in
    let ids : s.identifiers ≡ o.identifiers = c.is_same-same_identifiers.ensures.0 same in
    let ps : s.priorities.items ≡ o.priorities.items =
    sym c.as_slice-priorities.ensures.value ∙ (agree nat_eq number_decides _ _ _ c.ne-priorities_differ.ensures c.if-priorities_differ.false ∙ c.as_slice-other_priorities.ensures.value) in
    let os : s.owners.items ≡ o.owners.items =
    sym c.as_slice-owners.ensures.value
    ∙ (agree _ (player_decides _ refl refl refl refl) _ _ _ c.ne-owners_differ.ensures c.if-owners_differ.false ∙ c.as_slice-other_owners.ensures.value) in (
      λ t. let rows = c.is_same.ensures.0 t in sym c.self.view_is ∙ ((λ i. graph_of (ids i) (ps i) (os i) (rows i)) ∙ c.other.view_is),
      λ e. c.is_same.ensures.1 (same_parts c.self.invariant.parts c.other.invariant.parts c.self.view_is c.other.view_is e).same_rows,
    )
