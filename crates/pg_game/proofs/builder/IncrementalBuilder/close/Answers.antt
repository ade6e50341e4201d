use Rattle.pg_game.proofs.Common.{rules, ◌≡◌, ◌++◌, ◌∷◌, [], length, drop, ap, ◌∙◌, arith, ℕ, ◌+◌, List, take, sym, length-append, take-length, rows_of, IsCompressed}
use Rattle.pg_game.proofs.Common.{Player, specs_from}
use Rattle.pg_game.specs.private.Opened.{IsOpened}
use Rattle.pg_game.proofs.SpecificationLists.{spec_of}
use Rattle.pg_game.proofs.builder.PushedParts.{specs_more, parts_more}
use Rattle.std.proofs.lemmas.List.{take-append-drop}
use Rattle.pg_game.specs.Opened.{whole_rows}
use Rattle.pg_game.proofs.Rows.{rows_of-push, IsCompressed-push}
use Rattle.pg_game.proofs.builder.IncrementalBuilder.close.Goals as goal

-- all targets, and those of whole rows with those of the open one
all_are : (targets : List ℕ) (closed : ℕ) → take (length targets) targets ≡ take closed targets ++ drop closed targets
all_are targets closed = take-length targets ∙ sym (take-append-drop closed targets)

size_is : (targets : List ℕ) (closed : ℕ) → length targets ≡ length (take closed targets) + length (drop closed targets)
size_is targets closed = ap (λ (xs : List ℕ). length xs) (sym (take-append-drop closed targets)) ∙ length-append (take closed targets) (drop closed targets)

module _ (offsets targets : List ℕ) (closed : ℕ) (c : IsCompressed offsets (take closed targets)) where
  rows_closed : whole_rows (offsets ++ length targets ∷ []) (length targets) targets ≡ whole_rows offsets closed targets ++ drop closed targets ∷ []
  rows_closed =
      ap (λ (xs : List ℕ). rows_of (offsets ++ length targets ∷ []) xs) (all_are targets closed)
      ∙ rows_of-push (drop closed targets) (length targets) c (size_is targets closed)

  compressed_closed : IsCompressed (offsets ++ length targets ∷ []) (take (length targets) targets)
  compressed_closed = rw (all_are targets closed) (IsCompressed-push (drop closed targets) (length targets) c (size_is targets closed))

module _ {ids ps : List ℕ} {os : List Player} {offsets targets : List ℕ} {closed : ℕ} (c : IsOpened ids ps os offsets closed targets) (i p : ℕ) (o : Player) where
  is_closed : IsOpened (ids ++ i ∷ []) (ps ++ p ∷ []) (os ++ o ∷ []) (offsets ++ length targets ∷ []) (length targets) targets
  is_closed = record {
    compressed = compressed_closed offsets targets closed c.compressed;
    within = omega arith;
    parts = rw (rows_closed offsets targets closed c.compressed) (parts_more c.parts i p o (drop closed targets));
  }

  specs_closed : specs_from (ids ++ i ∷ []) (ps ++ p ∷ []) (os ++ o ∷ []) (whole_rows (offsets ++ length targets ∷ []) (length targets) targets)
      ≡ specs_from ids ps os (whole_rows offsets closed targets) ++ spec_of i p o (drop closed targets) ∷ []
  specs_closed = rw (rows_closed offsets targets closed c.compressed) (specs_more c.parts i p o (drop closed targets))

pub invariant_of-self-2 : goal.invariant_of-self-2
invariant_of-self-2 c = search (rules, is_closed, c.args.id, c.args.priority, c.args.owner, c.self.invariant, c.len-end.ensures)

pub returns-clause-specs : goal.returns-clause-specs
returns-clause-specs c = search (rules, specs_closed, c.args.id, c.args.priority, c.args.owner, c.self.invariant, c.self.view_is, c.len-end.ensures)
