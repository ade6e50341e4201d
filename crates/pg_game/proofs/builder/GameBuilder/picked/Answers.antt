use Rattle.pg_game.proofs.Common.{rules}
use Rattle.pg_game.proofs.Common.{◌≡◌, ℕ, ◌<◌, [], ◌∷◌, ◌++◌, List, length, take, map, get_or, sym, ◌∙◌, ap, arith, get_or_read, take_all, take_more, map_push}
use Rattle.pg_game.proofs.Common.{Even, Spec, specs_from}
use Rattle.pg_game.proofs.SpecificationLists.{place_within, spec_at, spec_of}
use Rattle.pg_game.proofs.builder.GameBuilder.picked.Goals as goal

pub row-row-requires : goal.row-row-requires
row-row-requires c =
    let l = place_within c.self.invariant c.self.view_is _ (c.requires c.lines.line-index (0, 0) c.lines-test.true) in
    omega (arith, l, c.self.invariant.successors)

pub index-id-requires : goal.index-id-requires
index-id-requires c = search (rules, place_within, c.self.invariant, c.self.view_is, c.requires, c.lines.line-index, c.lines-test.true, c.self.inside.ids.ok.0)

pub index-priority-requires : goal.index-priority-requires
index-priority-requires c =
    let l = place_within c.self.invariant c.self.view_is _ (c.requires c.lines.line-index (0, 0) c.lines-test.true) in
    omega (arith, l, c.self.invariant.priorities, c.self.inside.priorities.ok.0)

pub index-owner-requires : goal.index-owner-requires
index-owner-requires c =
    let l = place_within c.self.invariant c.self.view_is _ (c.requires c.lines.line-index (0, 0) c.lines-test.true) in
    omega (arith, l, c.self.invariant.owners, c.self.inside.owners.ok.0)

pub lines-preserved : goal.lines-preserved
lines-preserved c = λ d.
    let s = c.self.inside in
    let parts = c.self.invariant in
    let lines = c.args.lines.now in
    let k = c.lines.line-index in
    let v = (get_or lines k (0, 0)).1 in
    let within : v < length s.ids.items = place_within parts c.self.view_is v (c.requires k (0, 0) c.lines-test.true) in
    let f = λ (line : ℕ × ℕ). get_or (specs_from s.ids.items s.priorities.items s.owners.items s.rows) line.1 d in
    let id : c.index-id.result.now ≡ get_or s.ids.items v 0 = get_or_read s.ids.items v _ within c.index-id.ensures 0 in
    let priority : c.index-priority.result.now ≡ get_or s.priorities.items v 0 =
    get_or_read s.priorities.items v _ (omega (arith, within, parts.priorities)) c.index-priority.ensures 0 in
    let owner : c.index-owner.result.now ≡ get_or s.owners.items v Even =
    get_or_read s.owners.items v _ (omega (arith, within, parts.owners)) c.index-owner.ensures Even in
    let row : c.row-row.result.now ≡ get_or s.rows v [] = c.row-row.ensures.row in
    let spec = (λ i. spec_of (id i) (priority i) (owner i) (row i)) ∙ sym (spec_at parts v d within) in
    let more = ap (λ (ls : List (ℕ × ℕ)). map f ls) (take_more lines k (0, 0) c.lines-test.true) ∙ map_push f (take k lines) (get_or lines k (0, 0)) in
    let before : c.lines.specs ≡ map f (take k lines) = c.lines.invariant d in
    c.in_ok-push.ensures.pushed ∙ ((λ i. before i ++ spec i ∷ []) ∙ sym more)

pub returns : goal.returns
returns c = λ d.
    let s = c.self.inside in
    let lines = c.args.lines.now in
    let f = λ (line : ℕ × ℕ). get_or (specs_from s.ids.items s.priorities.items s.owners.items s.rows) line.1 d in
    c.lines.invariant d
    ∙ (ap (λ (ls : List (ℕ × ℕ)). map f ls) (take_all c.lines.line-index lines c.lines-test.false)
    ∙ ap (λ (xs : List Spec). map (λ (line : ℕ × ℕ). get_or xs line.1 d) lines) c.self.view_is)
