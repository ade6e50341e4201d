use Rattle.pgboard_c.proofs.Common.{rules, refl, subst, arith, ◌≡◌, Some}
use Rattle.std.specs.Prelude.{slice_get, List}
use Rattle.std.proofs.lemmas.Option.{slice_get_read}
use Rattle.pg_dominion.specs.Claim.{ClaimRows}
use Rattle.pg_board.specs.declared.journal.Entry.{Entry}
use Rattle.pgboard_c.specs.Entries.{IsEntry, AreEntryRows, entry_lists}
use Rattle.pgboard_c.proofs.board.write_entry.Goals as goal

pub returns : goal.returns
returns c =
    let s = c.args.session.now in
    let a = c.args in
    let e = c.index-entries-number.result in
    let entry : IsEntry s.board a.number (entry_lists a.entry.now a.vertices.now a.choices.now) _ = record {
      entry = e;
      found = subst (λ (es : List Entry). slice_get es a.number ≡ Some e) c.entries-entries.ensures
          (slice_get_read c.entries-entries.result.now _ a.number e refl (omega (arith, c.if-number-entries.false)) c.index-entries-number.is);
      worker = search rules;
      player = search rules;
      claimed = search rules;
      rows = search rules;
      written = subst (λ (rows : ClaimRows). AreEntryRows rows a.vertices.now a.choices.now c.write_rows.new.vertices c.write_rows.new.choices)
          c.as_slice-rows.ensures c.write_rows.ensures;
      fit = search rules;
    } in
    (s, s, refl, refl, (refl, entry))
