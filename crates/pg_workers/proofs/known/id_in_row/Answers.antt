use Rattle.pg_workers.proofs.Common.{rules, arith, ◌≡◌, ◌<◌, ◌∙◌, ℕ, true, length, ap, sym, Some, slice_get, known_of, known_choice, own_choices}
use Rattle.pg_workers.proofs.Common.{rows_below}
use Rattle.std.specs.Prelude.{Option, option_map}
use Rattle.pg_game.specs.Graph.{id_of}
use Rattle.pg_workers.proofs.known.SetRows.{row_of_vertex}
use Rattle.pg_workers.proofs.known.id_in_row.Goals as goal

pub returns-then-before-row : goal.returns-then-before-row
returns-then-before-row c =
    let g = c.args.game.now in
    let known = c.args.known.now.rows in
    let p = c.args.player in
    let member : known_of known p c.loop-v.v ≡ true = search rules in
    let inside : c.loop-v.v < length g = omega arith in
    let place : c.args.row ≡ length (rows_below (known_of known p) (own_choices g p (known_choice known)) c.loop-v.v) = omega arith in
    let row = row_of_vertex (known_of known p) (own_choices g p (known_choice known)) (length g) c.loop-v.v inside member in
    ap (λ (i : ℕ). option_map (λ (r : ℕ × Option ℕ). id_of g r.0)
    (slice_get (rows_below (known_of known p) (own_choices g p (known_choice known)) (length g)) i)) place
    ∙ ap (λ (o : Option (ℕ × Option ℕ)). option_map (λ (r : ℕ × Option ℕ). id_of g r.0) o) row
    ∙ ap (λ (id : ℕ). Some id) (sym c.id.ensures)
