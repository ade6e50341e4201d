use Rattle.pg_board.proofs.Common.{◌≡◌, ◌+◌, [], ◌∷◌, ◌++◌, length, refl, sym, ap, subst, arith, rules, IsDistinct, ClaimRows, Entry, vertices}
use Rattle.pg_board.proofs.Common.{Journal, IsBoard, ◌∙◌}
use Rattle.std.specs.Prelude.{nat_eq}
use Rattle.pg_board.proofs.contents.EntryOfRest.{IsEntering, HasGrown, HasRows, open_subgame, rest_distinct, rest_within, entry_answers, grown_fits, board_entered}
use Rattle.pg_board.proofs.contents.EntryOfRest.{has_grown, HasWritten-more, few, none_left}
use Rattle.pg_board.proofs.contents.Contents.enter.Goals.{After-len-claimed, After-len-settled, After-push_reserved}
use Rattle.pg_board.proofs.contents.Contents.enter.Goals as goal

-- what is required, said of the fields
entering : (c : After-len-claimed)
    → IsEntering c.args.game.now c.args.self.now.entries.items c.args.self.now.regions c.args.self.now.number c.args.player c.args.rows.items
entering c = record {
  board = c.requires.board;
  good = c.requires.good;
  twice = c.requires.unsettled;
}

grown : (c : After-len-settled)
    → HasGrown c.args.game.now c.args.player c.args.self.now.regions c.attract.new.self c.args.rows.items c.attract.new.rows.items
grown c =
    let settled = c.write_rows.ensures in let attracted = c.attract.ensures in
    has_grown c.args.game.now c.args.player c.write_rows.new.self c.attract.new.self c.args.rows.items c.attract.new.rows.items attracted.grows
    c.args.self.now.regions c.as_slice.result.now c.as_slice.ensures.value settled.same settled.written attracted.growing.regions attracted.done

-- the number of the rows
size_is : (c : After-len-settled) → length c.shrink_to_fit.new.self.items ≡ length c.attract.new.rows.items
size_is c = ap (λ (xs : ClaimRows). length xs) c.shrink_to_fit.ensures.items

abbrev entry : After-push_reserved → Entry
entry c = record { worker = c.args.worker; player = c.args.player; claimed = c.len-claimed.result; rows = c.new.result }

has_rows : (c : After-push_reserved) → HasRows (entry c) c.args.player c.args.rows.items c.attract.new.rows.items
has_rows c = search (rules, c.len-claimed.ensures, c.args.rows.ok.0, c.new.ensures, c.shrink_to_fit.ensures.items)

settled_is : (c : After-push_reserved) → c.len-settled.result ≡ length c.new.result
settled_is c =
    let copied : length c.new.result ≡ length c.shrink_to_fit.new.self.items = ap (λ (xs : ClaimRows). length xs) c.new.ensures in
    omega (arith, copied, c.len-settled.ensures, c.shrink_to_fit.new.self.ok.0)

pub attract-requires-clause-growing : goal.attract-requires-clause-growing
attract-requires-clause-growing c = search (rules, c.requires.spare, c.as_slice.ensures.value, HasWritten-more, c.write_rows.ensures.growing)

pub write_rows-requires-clause-unsettled : goal.write_rows-requires-clause-unsettled
write_rows-requires-clause-unsettled c =
    search (rules, entering, c.as_slice.ensures.value, rest_within, entering (goal.at.write_rows-requires-clause-unsettled c).After-len-claimed)

pub write_rows-requires-clause-distinct : goal.write_rows-requires-clause-distinct
write_rows-requires-clause-distinct c =
    subst (λ (xs : ClaimRows). IsDistinct nat_eq (vertices xs)) (sym c.as_slice.ensures.value)
    (rest_distinct (entering (goal.at.write_rows-requires-clause-distinct c).After-len-claimed))

pub attract-requires-clause-subgame : goal.attract-requires-clause-subgame
attract-requires-clause-subgame c =
    open_subgame (entering (goal.at.attract-requires-clause-subgame c).After-len-claimed) c.write_rows.new.self c.as_slice.result.now
    c.as_slice.ensures.value c.write_rows.ensures.same

pub overflow_cast-claimed : goal.overflow_cast-claimed
overflow_cast-claimed c =
    let fits = few (entering (goal.at.overflow_cast-claimed c).After-len-claimed) in
    omega (arith, fits, c.requires.board.limits.vertices, c.len-claimed.ensures, c.args.rows.ok.0)

pub overflow_cast-settled : goal.overflow_cast-settled
overflow_cast-settled c =
    let at = goal.at.overflow_cast-settled c in let fits = grown_fits (entering at.After-len-claimed) (grown at.After-len-settled) in
    omega (arith, fits, size_is at.After-len-settled, c.requires.board.limits.vertices, c.len-settled.ensures, c.shrink_to_fit.new.self.ok.0)

pub overflow_add-self : goal.overflow_add-self
overflow_add-self c =
    let at = goal.at.overflow_add-self c in let fits = grown_fits (entering at.After-len-claimed) (grown at.After-len-settled) in
    omega (arith, fits, size_is at.After-len-settled, c.requires.board.limits.vertices, c.len-settled.ensures, c.shrink_to_fit.new.self.ok.0)

pub returns-clause-board : goal.returns-clause-board
returns-clause-board c =
    let at = goal.at.returns-clause-board c in let b = c.args.self.now in let e = entry at.After-push_reserved in
    let entered = board_entered (entering at.After-len-claimed) (grown at.After-len-settled) e (has_rows at.After-push_reserved) c.len-settled.result
    (settled_is at.After-push_reserved) in
    let journal : c.push_reserved.new.self.items ≡ b.entries.items ++ e ∷ [] = search rules in
    subst (λ (j : Journal). IsBoard c.args.game.now j c.attract.new.self (b.number + c.len-settled.result)) (sym journal) entered

pub returns-clause-added : goal.returns-clause-added
returns-clause-added c =
    let at = goal.at.returns-clause-added c in let e = entry at.After-push_reserved in
    record {
      entry = e;
      journal = search rules;
      answers = entry_answers (entering at.After-len-claimed) (grown at.After-len-settled) e (has_rows at.After-push_reserved);
      by_worker = refl;
      number = omega (arith, c.len-entry.ensures, c.args.self.now.entries.ok.0);
      claimed = refl;
      settled = settled_is at.After-push_reserved;
    }

pub overflow_add-is_full : goal.overflow_add-is_full
overflow_add-is_full c =
    let fits = few (entering (goal.at.overflow_add-is_full c).After-len-claimed) in
    omega (arith, fits, c.requires.board.limits.vertices, c.len-claimed.ensures, c.args.rows.ok.0)

pub attract-requires-clause-full : goal.attract-requires-clause-full
attract-requires-clause-full c =
    none_left (entering (goal.at.attract-requires-clause-full c).After-len-claimed) c.write_rows.new.self c.as_slice.result.now
    c.as_slice.ensures.value c.write_rows.ensures.same c.write_rows.ensures.growing.apart (c.len-claimed.ensures ∙ c.args.rows.ok.0)
    c.len-n.ensures.number
