use Rattle.pgboard.proofs.Common.{rules, inr, err_from_is_err_and}
use Rattle.pgboard.proofs.solve.KnownTexts.{IsTaken, solved_from, unsolved_from, unsolved_alone, by_source, no_game_fault, not_read}
use Rattle.pgboard.proofs.verify.JoinedFaults.{err_again}
use Rattle.pgboard.proofs.solve.run_solve.Goals.{in-Some+in_ok-known-in-Some, in-None}
use Rattle.pgboard.proofs.solve.run_solve.Goals as goal

pub returns-in_err-game-clause-reads : goal.returns-in_err-game-clause-reads
returns-in_err-game-clause-reads g c =
    by_source c.args.known _ (λ is. rw is (search (rules, c.in_err-game.ensures))) (λ source is. rw is (search (rules, c.in_err-game.ensures)))

pub returns-in_err-known-in-Some-clause-reads : goal.returns-in_err-known-in-Some-clause-reads
returns-in_err-known-in-Some-clause-reads g c =
    let p = err_from_is_err_and c.from_residual-in_err-known-in-Some.result c.from_residual-in_err-known-in-Some.ensures.1 in
    rw (c.in-Some.is, p.1, p.2) record {
      no_game_failure = λ _. c.in_ok-game.ensures.reads.no_failure (λ is. cc is);
      no_second_failure = λ none. c.in_err-known-in-Some.ensures.reads.no_failure (λ is. none (err_again _ _ is));
      order = inr (c.in_ok-game.game, c.in_ok-game.ensures.game, c.in_ok-game.ensures.reads.no_failure (λ is. cc is));
      unread = λ is. absurd (no_game_fault _ _ _ c.in_err-known-in-Some.ensures.fault is);
      failed = λ is. inr (c.in_ok-game.game, c.in_ok-game.ensures.game, c.in_err-known-in-Some.ensures.reads.failed (err_again _ _ is));
    }

pub returns-in_err-solution-clause-reads : goal.returns-in_err-solution-clause-reads
returns-in_err-solution-clause-reads g c =
    let p = err_from_is_err_and c.from_residual-in_err-solution.result c.from_residual-in_err-solution.ensures.1 in
    let taken : IsTaken g.K.Source.left c.in_ok-game.game c.args.known c.match-known.known2.rows = elim c.match-known.branch [
      | in-Some+in_ok-known-in-Some w ↦ rw (w.in-Some.is, w.known2-is) w.in_ok-known-in-Some.ensures.known
      | in-None w ↦ rw (w.in-None.is, w.known2-is) w.nothing_known-known.ensures
    ] in
    let reason = unsolved_from {K = g.row.K.Denot} g.K.Source.left c.args.known _ _ taken c.in_ok-game.ensures.is_game _ c.in_err-solution.ensures.fault in
    rw (p.1, p.2) record {
      no_game_failure = λ _. c.in_ok-game.ensures.reads.no_failure (λ is. cc is);
      no_second_failure = λ _. elim c.match-known.branch [
        | in-Some+in_ok-known-in-Some w ↦ rw w.in-Some.is (search (rules, w.known-is, w.known_from.ensures.reads.no_failure, w.in_ok-known-in-Some.ensures))
        | in-None w ↦ rw w.in-None.is tt
      ];
      order = inr (c.in_ok-game.game, c.in_ok-game.ensures.game, c.in_ok-game.ensures.reads.no_failure (λ is. cc is));
      unread = λ is. absurd (no_game_fault _ _ _ reason is);
      failed = λ is. absurd (not_read _ _ _ c.in_err-solution.ensures.fault is);
    }

pub returns-in_err-solution-clause-fault : goal.returns-in_err-solution-clause-fault
returns-in_err-solution-clause-fault g c =
    let p = err_from_is_err_and c.from_residual-in_err-solution.result c.from_residual-in_err-solution.ensures.1 in
    let taken : IsTaken g.K.Source.left c.in_ok-game.game c.args.known c.match-known.known2.rows = elim c.match-known.branch [
      | in-Some+in_ok-known-in-Some w ↦ rw (w.in-Some.is, w.known2-is) w.in_ok-known-in-Some.ensures.known
      | in-None w ↦ rw (w.in-None.is, w.known2-is) w.nothing_known-known.ensures
    ] in
    let reason = unsolved_from {K = g.row.K.Denot} g.K.Source.left c.args.known _ _ taken c.in_ok-game.ensures.is_game _ c.in_err-solution.ensures.fault in
    rw (p.1, p.2) (inr (inr (c.in_ok-game.game, c.in_ok-game.ensures.game, reason)))

pub returns-in_err-solution-clause-alone : goal.returns-in_err-solution-clause-alone
returns-in_err-solution-clause-alone g c =
    let p = err_from_is_err_and c.from_residual-in_err-solution.result c.from_residual-in_err-solution.ensures.1 in
    let taken : IsTaken g.K.Source.left c.in_ok-game.game c.args.known c.match-known.known2.rows = elim c.match-known.branch [
      | in-Some+in_ok-known-in-Some w ↦ rw (w.in-Some.is, w.known2-is) w.in_ok-known-in-Some.ensures.known
      | in-None w ↦ rw (w.in-None.is, w.known2-is) w.nothing_known-known.ensures
    ] in
    rw (p.1, p.2)
    (λ none. inr (unsolved_alone {K = g.row.K.Denot} g.K.Source.left c.args.known _ _ taken c.in_ok-game.ensures.is_game _ c.in_err-solution.ensures.fault none _))

pub returns-in_err-text-clause-reads : goal.returns-in_err-text-clause-reads
returns-in_err-text-clause-reads g c =
    let p = err_from_is_err_and c.from_residual-in_err-text.result c.from_residual-in_err-text.ensures.1 in
    rw (p.1, p.2) record {
      no_game_failure = λ _. c.in_ok-game.ensures.reads.no_failure (λ is. cc is);
      no_second_failure = λ _. elim c.match-known.branch [
        | in-Some+in_ok-known-in-Some w ↦ rw w.in-Some.is (search (rules, w.known-is, w.known_from.ensures.reads.no_failure, w.in_ok-known-in-Some.ensures))
        | in-None w ↦ rw w.in-None.is tt
      ];
      order = inr (c.in_ok-game.game, c.in_ok-game.ensures.game, c.in_ok-game.ensures.reads.no_failure (λ is. cc is));
      unread = λ is. absurd is;
      failed = λ is. absurd (cc is);
    }

pub returns-clause-reads : goal.returns-clause-reads
returns-clause-reads g c = record {
  no_game_failure = λ _. c.in_ok-game.ensures.reads.no_failure (λ is. cc is);
  no_second_failure = λ _. elim c.match-known.branch [
    | in-Some+in_ok-known-in-Some w ↦ rw w.in-Some.is (search (rules, w.known-is, w.known_from.ensures.reads.no_failure, w.in_ok-known-in-Some.ensures))
    | in-None w ↦ rw w.in-None.is tt
  ];
  order = inr (c.in_ok-game.game, c.in_ok-game.ensures.game, c.in_ok-game.ensures.reads.no_failure (λ is. cc is));
  unread = search (rules, c.write_all.ensures);
  failed = search (rules, c.write_all.ensures);
}

pub returns-clause-writes : goal.returns-clause-writes
returns-clause-writes g c =
    let taken : IsTaken g.K.Source.left c.in_ok-game.game c.args.known c.match-known.known2.rows = elim c.match-known.branch [
      | in-Some+in_ok-known-in-Some w ↦ rw (w.in-Some.is, w.known2-is) w.in_ok-known-in-Some.ensures.known
      | in-None w ↦ rw (w.in-None.is, w.known2-is) w.nothing_known-known.ensures
    ] in
    let made = solved_from {K = g.row.K.Denot} g.K.Source.left c.args.known _ _ taken c.in_ok-game.ensures.is_game
    (g.I.Source.left c.args.input.now) c.args.options.now.winners c.in_ok-text.text.items c.in_ok-game.ensures.game
    c.in_ok-solution.ensures.outcome.regions (c.in_ok-text.ensures _ c.in_ok-solution.ensures.outcome.kept) in
    search (rules, made, c.as_slice.ensures.value, c.write_all.ensures)
