use Rattle.pg_board.proofs.Common.{refl, ◌≡◌, ◌≤◌, ◌+◌, ap, sym, subst, length, arith, rules}
use Rattle.pg_board.specs.Slices.{slices_left, most_steps}
use Rattle.pg_board.specs.private.Stage.{IsStageOf}
use Rattle.pg_board.specs.declared.advance.Stage.{Stage}
use Rattle.pg_board.specs.Work.{total_of}
use Rattle.pg_board.proofs.OwnEntries.{same_continued}
use Rattle.pg_board.proofs.Slices.{begun_nearer, begun_taken, further_nearer, further_taken, few_left, charged_all, charged_last, no_refused_search, full_shut}
use Rattle.pg_board.proofs.board.Board.advance.Goals as goal

pub returns-then-is_full-clause-continued : goal.returns-then-is_full-clause-continued
returns-then-is_full-clause-continued c = same_continued _ _ refl

pub returns-then-is_full-clause-last : goal.returns-then-is_full-clause-last
returns-then-is_full-clause-last c = λ full v o. absurd (full_shut _ _ v full o)

pub returns-in_ok-recursion-in-Search-2-clause-nearer : goal.returns-in_ok-recursion-in-Search-2-clause-nearer
returns-in_ok-recursion-in-Search-2-clause-nearer c =
    begun_nearer _ _ _ _ _ _ _ c.in-Search-2.is c.in_ok-recursion-in-Search-2.ensures.few c.post_steps.ensures.nearer

pub returns-in_ok-recursion-in-Search-2-clause-taken : goal.returns-in_ok-recursion-in-Search-2-clause-taken
returns-in_ok-recursion-in-Search-2-clause-taken c =
    begun_taken _ _ _ _ _ _ _ c.in-Search-2.is c.in_ok-recursion-in-Search-2.ensures.few c.post_steps.ensures.nearer _

pub returns-in_ok-recursion-in-Search-2-clause-charged : goal.returns-in_ok-recursion-in-Search-2-clause-charged
returns-in_ok-recursion-in-Search-2-clause-charged c =
    let total : total_of 4 (length c.args.self.now.graph) ≡ c.total.result = search rules in
    let last : total_of 4 (length c.args.self.now.graph) ≤ c.in-Search.number + 1 = omega (arith, total, c.if-number-total.false) in
    charged_all c.args.self.now.graph (most_steps c.args.self.now.graph) _ c.args.steps.now _ _ c.post_steps.result (few_left _ _ c.in-Search.number c.in-Search.is last) c.post_steps.ensures.spent

pub returns-in_ok-recursion-in-Search-2-clause-last : goal.returns-in_ok-recursion-in-Search-2-clause-last
returns-in_ok-recursion-in-Search-2-clause-last c =
    let total : total_of 4 (length c.args.self.now.graph) ≡ c.total.result = search rules in
    let last : total_of 4 (length c.args.self.now.graph) ≤ c.in-Search.number + 1 = omega (arith, total, c.if-number-total.false) in
    charged_last (most_steps c.args.self.now.graph) _ c.args.steps.now _ _ _ c.post_steps.result (few_left _ _ c.in-Search.number c.in-Search.is last) c.post_steps.ensures.last

pub returns-in-Recursion-clause-nearer : goal.returns-in-Recursion-clause-nearer
returns-in-Recursion-clause-nearer c =
    further_nearer c.args.self.now.graph c.args.stage c.in-Recursion.recursion.remaining c.args.steps.now _ c.post_steps-in-Recursion.result
    (ap (slices_left c.args.self.now.graph) c.in-Recursion.is) c.post_steps-in-Recursion.ensures.nearer

pub returns-in-Recursion-clause-taken : goal.returns-in-Recursion-clause-taken
returns-in-Recursion-clause-taken c =
    further_taken c.args.self.now.graph c.args.stage c.in-Recursion.recursion.remaining c.args.steps.now _ _ c.post_steps-in-Recursion.result
    (ap (slices_left c.args.self.now.graph) c.in-Recursion.is) c.post_steps-in-Recursion.ensures.nearer

pub returns-in-Recursion-clause-charged : goal.returns-in-Recursion-clause-charged
returns-in-Recursion-clause-charged c =
    let g = c.args.self.now.graph in
    let run = subst (λ (x : Stage). IsStageOf g c.args.self.now.journal x) c.in-Recursion.is c.requires.stage in
    let few : slices_left g c.args.stage ≤ 1 + most_steps g =
    subst (λ (x : Stage). slices_left g x ≤ 1 + most_steps g) (sym c.in-Recursion.is) (omega (arith, run.few)) in
    charged_all g (most_steps g) _ c.args.steps.now _ _ c.post_steps-in-Recursion.result few c.post_steps-in-Recursion.ensures.spent

pub returns-in-Recursion-clause-last : goal.returns-in-Recursion-clause-last
returns-in-Recursion-clause-last c =
    let g = c.args.self.now.graph in
    let run = subst (λ (x : Stage). IsStageOf g c.args.self.now.journal x) c.in-Recursion.is c.requires.stage in
    let few : slices_left g c.args.stage ≤ 1 + most_steps g =
    subst (λ (x : Stage). slices_left g x ≤ 1 + most_steps g) (sym c.in-Recursion.is) (omega (arith, run.few)) in
    charged_last (most_steps g) _ c.args.steps.now _ _ _ c.post_steps-in-Recursion.result few c.post_steps-in-Recursion.ensures.last

pub returns-in_ok-recursion-in-Search-2-clause-refused : goal.returns-in_ok-recursion-in-Search-2-clause-refused
returns-in_ok-recursion-in-Search-2-clause-refused c =
    let total : total_of 4 (length c.args.self.now.graph) ≡ c.total.result = search rules in
    let last : total_of 4 (length c.args.self.now.graph) ≤ c.in-Search.number + 1 = omega (arith, total, c.if-number-total.false) in
    no_refused_search (most_steps c.args.self.now.graph) _ _ c.post_steps.result (few_left _ _ c.in-Search.number c.in-Search.is last)

pub returns-in-Recursion-clause-refused : goal.returns-in-Recursion-clause-refused
returns-in-Recursion-clause-refused c =
    let g = c.args.self.now.graph in
    let run = subst (λ (x : Stage). IsStageOf g c.args.self.now.journal x) c.in-Recursion.is c.requires.stage in
    let few : slices_left g c.args.stage ≤ 1 + most_steps g =
    subst (λ (x : Stage). slices_left g x ≤ 1 + most_steps g) (sym c.in-Recursion.is) (omega (arith, run.few)) in
    no_refused_search (most_steps g) _ _ c.post_steps-in-Recursion.result few
