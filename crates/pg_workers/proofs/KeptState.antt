-- What was settled keeps its winner and its choice: on a board that settles all the rest, in its solution's rows, and through an office.
use Rattle.std.proofs.Common.{◌≡◌, ◌++◌, ℕ, ◌<◌, Ok, Err, Some, None, Option, Result, drop, length, refl, sym, ap, ◌∙◌, subst, ltb-true, slice_get, IfOk}
use Rattle.std.proofs.lemmas.List.{take-append-drop}
use Rattle.std.specs.Prelude.{IfSome}
use Rattle.pg_game.specs.declared.player.Player.{Player}
use Rattle.pg_game.specs.VertexSet.{In}
use Rattle.pg_game.proofs.Players.{is_same}
use Rattle.pg_text.specs.Known.{is_winner}
use Rattle.pg_text.specs.Solution.{SolutionRows}
use Rattle.pg_text.specs.declared.solution_text.Solution.{Solution}
use Rattle.pg_board.specs.BoardRecord.{BoardRecord}
use Rattle.pg_board.specs.State.{settled}
use Rattle.pg_board.specs.Journal.{Journal, state_of, IsLawful, BeginsWith}
use Rattle.pg_board.specs.Board.{IsSolutionOf}
use Rattle.pg_board.specs.Full.{AreStateRows}
use Rattle.pg_board.specs.Finish.{IsContinued}
use Rattle.pg_board.proofs.Dominion.{state_append}
use Rattle.pg_board.proofs.Numbers.{lawful_now}
use Rattle.pg_board.proofs.OwnEntries.{keeps_state}

-- in a journal that begins with these entries
pub keeps_first : (entries journal : Journal) (v : ℕ) (row : Player × Option ℕ) → BeginsWith entries journal → state_of entries v ≡ Some row
    → state_of journal v ≡ Some row
keeps_first entries journal v row begins is =
    let rest : Journal = drop (length entries) journal in
    let whole : entries ++ rest ≡ journal =
    subst (λ (first : Journal). first ++ rest ≡ journal) begins (take-append-drop (length entries) journal) in
    ap (λ (j : Journal). state_of j v) (sym whole) ∙ state_append entries rest v ∙ rw is refl

-- in the rows of a later state, too
pub keeps_in_rows : (old new : BoardRecord) (rows : SolutionRows) → IsContinued old new → IsLawful new.graph new.journal
    → AreStateRows new.graph (state_of new.journal) rows → (v : ℕ) (row : Player × Option ℕ) → state_of old.journal v ≡ Some row → slice_get rows v ≡ Some row
keeps_in_rows old new rows more lawful are v row is =
    let now : state_of new.journal v ≡ Some row = keeps_state old new v row more is in
    let won : In (settled (state_of new.journal) row.0) v = ap (is_winner row.0) now ∙ is_same row.0 row.0 refl in
    let below : v < length new.graph = ltb-true v (length new.graph) (((lawful_now new.graph new.journal lawful).regions row.0).vertices v won) in
    are.each v below ∙ now

pub keeps_settled : {E : Type 0} (old new : BoardRecord) (r : Result (Option Solution) E) → IsContinued old new → IsLawful new.graph new.journal
    → IfOk r (IsSolutionOf new)
    → IfOk r (λ found. IfSome found (λ s. (v : ℕ) (row : Player × Option ℕ) → state_of old.journal v ≡ Some row → slice_get s.rows v ≡ Some row))
keeps_settled old new (Err e) more lawful h = h
keeps_settled old new (Ok None) more lawful h = tt
keeps_settled old new (Ok (Some s)) more lawful h = keeps_in_rows old new s.rows more lawful h.state
