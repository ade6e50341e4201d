-- The written text of a game, or of winners and choices, reads as these and as nothing else.
use Rattle.pg_text.proofs.Common.{◌≡◌, ℕ, zero, suc, ◌+◌, ◌<◌, false, not, List, [], ◌∷◌, length, map, get_or, refl, sym, ◌∙◌, ap, subst, arith, rules, ◌==◌}
use Rattle.pg_text.proofs.Common.{Option, Some, None, option_map, slice_get, AllByRecursion, Contains, list_any, eqb-true, eq-eqb, false_from_ne_true}
use Rattle.pg_text.proofs.Common.{length-map, get_or-map, list_any_at, slice_get-get_or, get_or_from_slice_get, Player, Even, Spec, digit_of, Graph, Vertex}
use Rattle.pg_text.proofs.Common.{IsGame, id_of, vertex_at, no_vertex, first_repeated, first_fault, Placed, tokens_of, IsGameText, spec_of}
use Rattle.pg_text.proofs.Common.{IsSolutionText, SolutionRows, AreSolutionRows, greatest_id, written_game, written_solution, AreLinesOf}
use Rattle.pg_text.proofs.Common.{first_stranger, first_twice, first_missing, has_line, number_in, row_of_line, IsNamed}
use Rattle.std.specs.List.Sorted.{IsStrictlyIncreasing}
use Rattle.std.proofs.lemmas.List.{same_lists}
use Rattle.std.proofs.lemmas.Map.Keys.{sorted_from_strictly_increasing, below_from_sorted}
use Rattle.pg_game.specs.Specification.{IsGameOf}
use Rattle.pg_text.specs.SolutionLines.{AreRowsOf}
use Rattle.pg_text.specs.Laws.{WrittenGameReads, WrittenSolutionReads, WrittenGameIsText, WrittenSolutionIsText}
use Rattle.pg_game.proofs.UniqueGame.{spec_at, specs_of, described_game, one_described, described_sound}
use Rattle.pg_text.proofs.laws.UniqueTokens.{one_spelling}
use Rattle.pg_text.proofs.laws.UniqueGameLines.{one_reading}
use Rattle.pg_text.proofs.OneSolutionFault.{one_lines}
use Rattle.pg_text.proofs.solution_text.Identifiers.{number_at, stranger-append}
use Rattle.pg_text.proofs.solution_text.VertexTable.{IsChoice, player_back, find_none, row_is, at_home}
use Rattle.pg_text.proofs.writing.WrittenTexts.{line_of, row_line, row_lines, written_lines, written_grammar, written_owners, spells_game, spells_solution}
use Rattle.pg_game.proofs.AllElements.{all_at, all_from_places}
use Rattle.pg_text.proofs.writing.WrittenTexts.{small_winners, written_game_spells, written_solution_spells}
use Rattle.pg_text.specs.SolutionText as solutions

-- the written lines specify what describes the game
spec_back : (g : Graph) (x : Vertex) → spec_of (line_of g x) ≡ spec_at g x
spec_back g x = ap (λ p. record { id = x.id; priority = x.priority; owner = p; successors = map (λ w. id_of g w) x.successors }) (sym (player_back x.owner))

specs_back : (g : Graph) (xs : List Vertex) → map spec_of (map (λ x. line_of g x) xs) ≡ map (λ x. spec_at g x) xs
specs_back g [] = refl
specs_back g (x ∷ xs) =
    ap (λ (s : Spec). s ∷ map spec_of (map (λ x. line_of g x) xs)) (spec_back g x) ∙ ap (λ (ss : List Spec). spec_at g x ∷ ss) (specs_back g xs)

pub written_game_reads : WrittenGameReads
written_game_reads g i =
    let (ps, s, e) = spells_game g i in
    let grammar = written_grammar g i (tokens_of ps) e in
    let back : map spec_of (written_lines g) ≡ specs_of g = specs_back g g in
    record {
      lines = written_lines g;
      spells = (ps, s, grammar);
      one_text = λ others (us, z, o).
          let f = one_spelling 0 (written_game g) ps us s z in
          one_reading (tokens_of us) others (written_lines g) o (subst (λ (ts : List Placed). IsGameText (tokens_of ts) (written_lines g)) f grammar);
      owners = written_owners g i;
      game = subst (λ specs. IsGameOf specs g) (sym back) (described_game g i);
      one_game = λ h o. one_described g i h (subst (λ specs. IsGameOf specs h) back o);
    }

-- the row of a place that has none
no_row : Player × Option ℕ
no_row = (Even, None)

no_line : solutions.WrittenSolutionLine
no_line = record { id = 0; winner = 0; choice = None }

length-row_lines : (g : Graph) (xs : List Vertex) (rows : SolutionRows) → length rows ≡ length xs → length (row_lines g xs rows) ≡ length xs
length-row_lines g [] rows e = refl
length-row_lines g (x ∷ xs) [] e = absurd (omega arith)
length-row_lines g (x ∷ xs) (r ∷ rows) e = let k = length-row_lines g xs rows (omega arith) in omega arith

row_line_at : (g : Graph) (xs : List Vertex) (rows : SolutionRows) (k : ℕ) (x : Vertex) (r : Player × Option ℕ) (d : solutions.WrittenSolutionLine)
    → length rows ≡ length xs → k < length xs → get_or (row_lines g xs rows) k d ≡ row_line g (get_or xs k x) (get_or rows k r)
row_line_at g [] rows k x r d e l = absurd (omega arith)
row_line_at g (y ∷ ys) [] k x r d e l = absurd (omega arith)
row_line_at g (y ∷ ys) (q ∷ rows) zero x r d e l = refl
row_line_at g (y ∷ ys) (q ∷ rows) (suc k) x r d e l = row_line_at g ys rows k x r d (omega arith) (omega arith)

row_line-ids : (g : Graph) (xs : List Vertex) (rows : SolutionRows) → length rows ≡ length xs → map (λ l. l.id) (row_lines g xs rows) ≡ map (λ x. x.id) xs
row_line-ids g [] rows e = refl
row_line-ids g (x ∷ xs) [] e = absurd (omega arith)
row_line-ids g (x ∷ xs) (r ∷ rows) e = ap (λ (is : List ℕ). x.id ∷ is) (row_line-ids g xs rows (omega arith))

-- what rises has nothing twice
rising_once : (earlier ns : List ℕ) → IsStrictlyIncreasing ns → ((k : ℕ) → k < length ns → list_any (λ m. m == get_or ns k 0) earlier ≡ false)
    → first_repeated earlier ns ≡ None
rising_once earlier [] up f = refl
rising_once earlier (n ∷ ns) up f =
    let e : list_any (λ m. m == n) earlier ≡ false = f 0 (omega arith) in
    let sorted = sorted_from_strictly_increasing (n ∷ ns) up in
    rw e (rising_once (n ∷ earlier) ns (λ k l. below_from_sorted (n ∷ ns) (suc k) (suc (k + 1)) 0 sorted (omega arith) (omega arith)) (λ k l.
    let b : n < get_or ns k 0 = below_from_sorted (n ∷ ns) 0 (suc k) 0 sorted (omega arith) (omega arith) in
    let d : (n == get_or ns k 0) ≡ false =
    false_from_ne_true (n == get_or ns k 0) (λ t. let q : n ≡ get_or ns k 0 = eqb-true n (get_or ns k 0) t in omega arith) in
    rw d (f (suc k) (omega arith))))

none_home : (g : Graph) (lines : List solutions.WrittenSolutionLine) → AllByRecursion (λ l. first_stranger g (l ∷ []) ≡ None) lines
    → first_stranger g lines ≡ None
none_home g [] a = refl
none_home g (l ∷ lines) a = let h = a.0 in let t = none_home g lines a.1 in stranger-append g (l ∷ []) lines ∙ rw (h, t) refl

module _ (g : Graph) (rows : SolutionRows) (i : IsGame g) (are : AreSolutionRows g rows) where
  choice_at : (v : ℕ) → v < length g → IsChoice g (option_map (λ w. id_of g w) (get_or rows v no_row).1) (get_or rows v no_row).1
  choice_at v l = search (rules, no_row, are.size, all_at, are.choices)

  named : (v : ℕ) → v < length g → IsNamed g (id_of g v) v
  named v l = record { vertex = l; id_is = refl }

  stands_at : (v : ℕ) (d : solutions.WrittenSolutionLine) → v < length g → get_or (row_lines g g rows) v d ≡ row_line g (vertex_at g v) (get_or rows v no_row)
  stands_at v d l = row_line_at g g rows v no_vertex no_row d are.size l

  no_strangers : first_stranger g (row_lines g g rows) ≡ None
  no_strangers =
      let n = length-row_lines g g rows are.size in
      none_home g (row_lines g g rows) (all_from_places (λ l. first_stranger g (l ∷ []) ≡ None) no_line (row_lines g g rows) (λ v l.
      let h : v < length g = omega arith in
      subst (λ (x : solutions.WrittenSolutionLine). first_stranger g (x ∷ []) ≡ None) (sym (stands_at v no_line h))
      (at_home g (id_of g v) v (digit_of (get_or rows v no_row).0) (option_map (λ w. id_of g w) (get_or rows v no_row).1) (get_or rows v no_row).1
      (named v h) (choice_at v h))))

  once : first_twice (row_lines g g rows) ≡ None
  once = ap (first_repeated []) (row_line-ids g g rows are.size) ∙ rising_once [] (map (λ x. x.id) g) i.ids (λ k l. refl)

  complete : first_missing g (row_lines g g rows) ≡ None
  complete =
      let n = length-row_lines g g rows are.size in
      let k : length (map (λ x. x.id) g) ≡ length g = length-map g (λ x. x.id) in
      find_none (λ id. not (has_line (row_lines g g rows) id)) (map (λ x. x.id) g) (λ v l.
      let h : v < length g = omega arith in
      let e : get_or (map (λ x. x.id) g) v 0 ≡ id_of g v = get_or-map (λ x. x.id) g v no_vertex 0 h in
      let f : (get_or (row_lines g g rows) v no_line).id ≡ get_or (map (λ x. x.id) g) v 0 =
      ap (λ (x : solutions.WrittenSolutionLine). x.id) (stands_at v no_line h) ∙ sym e in
      ap not (list_any_at (λ x. x.id == get_or (map (λ x. x.id) g) v 0) (row_lines g g rows) v no_line (omega arith)
      (eq-eqb (get_or (row_lines g g rows) v no_line).id (get_or (map (λ x. x.id) g) v 0) f)))

  row_back : (v : ℕ) → v < length g → get_or rows v no_row ≡ row_of_line g (row_line g (vertex_at g v) (get_or rows v no_row))
  row_back v l = row_is g (id_of g v) (get_or rows v no_row).0 (option_map (λ w. id_of g w) (get_or rows v no_row).1) (get_or rows v no_row).1 i (choice_at v l)

  says : AreRowsOf g (row_lines g g rows) rows
  says = search (rules, are.size, length-row_lines, row_line, no_row, stands_at, number_at, named, slice_get-get_or, row_back)

  no_others : (others : SolutionRows) → AreRowsOf g (row_lines g g rows) others → others ≡ rows
  no_others others o = same_lists others rows (o.size ∙ sym are.size) (λ k d l.
      let n = length-row_lines g g rows are.size in
      let m = o.size in
      let h : k < length g = omega arith in
      let x : solutions.WrittenSolutionLine = row_line g (vertex_at g k) (get_or rows k no_row) in
      let at : number_in g (id_of g k) ≡ k = number_at g (id_of g k) k i (named k h) in
      let c : Contains (row_lines g g rows) x = (k, omega arith, stands_at k x h) in
      let a : slice_get others k ≡ Some (row_of_line g x) = subst (λ v. slice_get others v ≡ Some (row_of_line g x)) at (o.each x c) in
      let b : slice_get rows k ≡ Some (row_of_line g x) = subst (λ v. slice_get rows v ≡ Some (row_of_line g x)) at (says.each x c) in
      get_or_from_slice_get others k (row_of_line g x) d a ∙ sym (get_or_from_slice_get rows k (row_of_line g x) d b))

  are_lines : AreLinesOf g (row_lines g g rows) rows
  are_lines = record { no_stranger = no_strangers; once = once; complete = complete; says = says }

pub written_solution_reads : WrittenSolutionReads
written_solution_reads g rows i are =
    let (ps, s, e) = spells_solution g rows in
    let lines : List solutions.WrittenSolutionLine = row_lines g g rows in
    let grammar : IsSolutionText (tokens_of ps) lines = (Some (greatest_id g), e) in
    record {
      lines = lines;
      spells = (ps, s, grammar);
      one_text = λ others (us, z, o).
          let f = one_spelling 0 (written_solution g rows) ps us s z in
          one_lines (tokens_of us) others lines o (subst (λ (ts : List Placed). IsSolutionText (tokens_of ts) lines) f grammar);
      winners = small_winners g g rows;
      says = are_lines g rows i are;
      one_solution = λ others o. no_others g rows i are others o.says;
    }

pub written_game_is_text : WrittenGameIsText
written_game_is_text g i w =
    let back : map spec_of (written_lines g) ≡ specs_of g = specs_back g g in
    record {
      lines = written_lines g;
      spelled = written_game_spells g i w;
      says = subst (λ specs. IsGameOf specs g) (sym back) (described_game g i);
      no_fault = ap first_fault back ∙ described_sound g i w;
    }

pub written_solution_is_text : WrittenSolutionIsText
written_solution_is_text g rows i w are = record { lines = row_lines g g rows; spelled = written_solution_spells g rows i w are; says = are_lines g rows i are }
