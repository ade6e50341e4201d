use Rattle.pg_game.proofs.Common.{rules, ◌≤◌, sym, ◌∙◌, arith, get_or_read, edges, max_edges, ◌≡◌, ℕ, ◌<◌, ◌↔◌, List, length, get_or, refl, ap, subst, None}
use Rattle.pg_game.proofs.Common.{Some, Contains, IsPermutation, IsPermutation-sym, Contains-permutation, IsStrictlyIncreasing, get_or_default, Player, Spec}
use Rattle.pg_game.proofs.Common.{ids_of, first_outside, Bool, false, cases_lt, first_unspecified, first_unknown, AreParts, AreNamed, AreResolvedSpecs, row_at}
use Rattle.pg_game.proofs.Common.{specs_from}
use Rattle.pg_game.proofs.Sound.{unknown_named, rows_sound, none_unknown}
use Rattle.pg_game.proofs.SpecificationLists.{length_is}
use Rattle.std.specs.Prelude.{IsTrue}
use Rattle.pg_game.proofs.builder.FirstUnknown.{to_specified, outside_is, unknown_here, unknown_before}
use Rattle.pg_game.proofs.adjacency.NamedRanges.{all_places}
use Rattle.pg_game.proofs.builder.GameBuilder.resolved.Goals as goal
use Rattle.pg_game.proofs.SpecificationLists as taken

module _ {ids ps : List ℕ} {os : List Player} {rows : List (List ℕ)} (a : AreParts ids ps os rows) {ss : List Spec} (is : specs_from ids ps os rows ≡ ss)
    {identifiers : List ℕ} (moved : IsPermutation (ids_of ss) identifiers) where
  n : length ss ≡ length rows
  n = taken.length_is a is ∙ sym a.successors

  row_of : (v : ℕ) (d : Spec) → v < length ss → (get_or ss v d).successors ≡ row_at rows v
  row_of v d l = ap (λ (s : Spec). s.successors) (taken.spec_is a is v d l)

  -- the first row with an identifier that has no resolve names the first successor that is not specified
  unknown_at : (v i : ℕ) → v < length rows → first_outside identifiers (row_at rows v) ≡ Some i →
      ((u : ℕ) → u < v → first_outside identifiers (row_at rows u) ≡ None) → first_unknown ss ss ≡ Some (get_or ids v 0, i)
  unknown_at v i l e before =
      let m : v < length ss = omega (arith, l, n) in
      let s = taken.spec_in a v in
      unknown_before ss v (omega (arith, m)) (λ u d k.
      let o : u < length ss = omega (arith, k, m) in
      ap (λ (xs : List ℕ). first_unspecified ss xs) (row_of u d o) ∙ (sym (outside_is ss identifiers (row_at rows u) moved) ∙ before u k))
      ∙ unknown_here ss v s m (sym (taken.spec_is a is v s m)) i (sym (outside_is ss identifiers (row_at rows v) moved) ∙ e)

  -- where each identifier has a resolve, each successor is specified
  all_known : (new : List (List ℕ)) → ((v : ℕ) → v < length rows → AreNamed identifiers (row_at rows v) (row_at new v)) → first_unknown ss ss ≡ None
  all_known new each = none_unknown ss ss (λ s (v, l, e) i m.
      let row : s.successors ≡ row_at rows v = sym (ap (λ (t : Spec). t.successors) e) ∙ row_of v s l in
      let k = subst (λ (xs : List ℕ). Contains xs i) row m in
      let p = (each v (omega (arith, l, n))).each k.0 k.1 in
      let at = p.1 ∙ (get_or_default (row_at rows v) k.0 0 i k.1 ∙ k.2) in
      let w = get_or (row_at new v) k.0 0 in
      let in_names : Contains identifiers i = (w, p.0, get_or_default identifiers w i 0 p.0 ∙ at) in
      to_specified ss i (Contains-permutation identifiers (ids_of ss) i (IsPermutation-sym (ids_of ss) identifiers moved) in_names))

  parts_resolved : (new : List (List ℕ)) → length new ≡ length rows → AreParts ids ps os new
  parts_resolved new e = record { priorities = a.priorities; owners = a.owners; successors = e ∙ a.successors }

  resolved_specs : (new rising : List (List ℕ)) → length rising ≡ length rows →
      ((v : ℕ) → v < length rows → AreNamed identifiers (row_at rows v) (row_at new v)) → ((v : ℕ) → v < length rows → IsStrictlyIncreasing (row_at rising v)) →
      ((v w : ℕ) → v < length rows → Contains (row_at new v) w ↔ Contains (row_at rising v) w) → AreResolvedSpecs identifiers ss (specs_from ids ps os rising)
  resolved_specs new rising size each up same =
      let b : AreParts ids ps os rising = parts_resolved rising size in
      record {
        size = taken.length_specs b ∙ sym (taken.length_is a is);
        each = λ v d l.
            (let k : v < length rows = omega (arith, l, n) in
            rw (taken.spec_is a is v d l, taken.spec_at b v d (omega (arith, k, a.successors)))
            record { id = refl; priority = refl; owner = refl; successors = all_places (each v k) (up v k) (λ w. same v w k) });
      }

few_edges : (b : Bool) (specs : List Spec) → (IsTrue b ↔ (max_edges < edges specs)) → b ≡ false → edges specs ≤ max_edges
few_edges b specs h f = search (rules, cases_lt)

pub resolve-requires : goal.resolve-requires
resolve-requires c = omega (arith, length_is c.self.invariant c.self.view_is, c.self.invariant.successors, c.requires.few)

pub returns-in-Some-resolve-clause-fault : goal.returns-in-Some-resolve-clause-fault
returns-in-Some-resolve-clause-fault c = search (
  rules,
  few_edges,
  unknown_at,
  get_or_read,
  unknown_named,
  c.in-Some-resolve.ensures.missing,
  c.in-Some-resolve.v,
  c.args.self,
  c.in_ok-has_too_many_edges.ensures,
  c.if-branch.false,
  c.self.invariant,
  c.self.view_is,
  c.requires.identifiers,
  c.in-Some-resolve.successor,
  c.self.inside.ids.items,
  c.self.invariant.successors,
  c.index.ensures,
  c.in_default.ensures,
)

pub with_rising_rows-requires : goal.with_rising_rows-requires
with_rising_rows-requires c = omega (arith, c.resolve.ensures.size, length_is c.self.invariant c.self.view_is, c.self.invariant.successors, c.requires.few)

pub returns-clause-resolved : goal.returns-clause-resolved
returns-clause-resolved c =
    let n = c.resolve.ensures.size in
    rw c.of_parts.ensures (resolved_specs c.self.invariant c.self.view_is c.requires.identifiers c.resolve.new.self c.in_ok-rows.rows
    (c.in_ok-rows.ensures.size ∙ n) c.in_default-resolve.ensures.resolved
    (λ v l. c.in_ok-rows.ensures.rising v (omega (arith, l, n))) (λ v w l. c.in_ok-rows.ensures.same v w (omega (arith, l, n))))

pub returns-clause-sound : goal.returns-clause-sound
returns-clause-sound c =
    let le : edges c.args.self ≤ max_edges = few_edges _ c.args.self c.in_ok-has_too_many_edges.ensures c.if-branch.false in
    rows_sound c.args.self (sym c.in_default.ensures) le (all_known c.self.invariant c.self.view_is c.requires.identifiers
    c.resolve.new.self c.in_default-resolve.ensures.resolved)
