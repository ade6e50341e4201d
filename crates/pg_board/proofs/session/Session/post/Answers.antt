use Rattle.std.specs.Arc.{arc_value}
use Rattle.pg_board.proofs.Common.{rules, ◌≡◌, subst, Result, Posted, Refusal, BoardRecord}
use Rattle.pg_board.specs.Post.{IsPostAnswer}
use Rattle.pg_board.proofs.session.Session.post.Goals as goal

pub returns-clause-answer : goal.returns-clause-answer
returns-clause-answer c =
    let old = c.args.self.now.board in let worker = c.args.worker in let claim = c.args.claim.now in let r = c.post-answer.result in
    let new : BoardRecord = record { graph = arc_value c.self.inside.game; journal = c.detach.result.entries.items } in
    let before : c.attach-board.result ≡ old = search rules in
    let after : c.post-answer.new.self ≡ new = search rules in
    subst (λ (answer : Result Posted Refusal). IsPostAnswer old new worker claim answer) c.in_ok-posted.was
    (subst (λ (y : BoardRecord). IsPostAnswer old y worker claim r) after
    (subst (λ (x : BoardRecord). IsPostAnswer x c.post-answer.new.self worker claim r) before c.post-answer.ensures))
