use Rattle.std.proofs.Common.{rules}
use Rattle.pg_board.proofs.Common.{◌≡◌, length, ◌∙◌, ap, arith, slice_get, state_of, AreStateRows}
use Rattle.pg_text.specs.Solution.{SolutionRows}
use Rattle.pg_board.proofs.contents.FullJournals.{exact_solution}
use Rattle.pg_board.proofs.contents.Contents.solution.Goals as goal

pub returns : goal.returns
returns c =
    let b = c.args.self.now in let i = c.requires in
    let size : length c.new.result ≡ length c.in_ok-rows.rows.items = ap (λ (xs : SolutionRows). length xs) c.new.ensures in
    let are : AreStateRows c.args.game.now (state_of b.entries.items) c.new.result = record {
      size = size ∙ (c.in_ok-rows.ensures.size ∙ i.regions.size);
      each = λ v l. ap (λ (xs : SolutionRows). slice_get xs v) c.new.ensures ∙ (c.in_ok-rows.ensures.each v (omega (arith, i.regions.size)) ∙ i.state v);
    } in
    record {
      full = search rules;
      solution = exact_solution c.args.game.now b.entries.items i.lawful c.new.result are;
      state = are;
    }

pub rows-requires : goal.rows-requires
rows-requires c = search rules
