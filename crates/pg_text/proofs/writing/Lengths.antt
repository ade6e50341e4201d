-- How long written texts are, within the limits of games.
use Rattle.pg_text.proofs.Common.{ℕ, ◌+◌, ◌*◌, ◌<◌, ◌≤◌, List, [], ◌∷◌, ◌++◌, length, map, arith, length-append, numeral, rules, Option, None, IfSome}
use Rattle.pg_text.proofs.Common.{codes, flat_map, AllByRecursion, join_with_byte, Player, digit_of, Graph, Vertex, IsGame, id_of, no_vertex, max_number}
use Rattle.pg_text.proofs.Common.{IsWithinLimits, SolutionRows, AreSolutionRows, greatest_id, written_vertex, written_game, written_choice, written_rows}
use Rattle.pg_text.proofs.Common.{written_solution, written_winners, ◌≡◌, drop, drop_more, successors_of}
use Rattle.std.specs.Prelude.{sum_by}
use Rattle.std.proofs.Math.Nat.{mul-le-mul_right}
use Rattle.std.proofs.lemmas.List.Concat.{flat_map-cons}
use Rattle.std.proofs.lemmas.List.Sums.{sum_by-cons}
use Rattle.pg_game.specs.Specification.{max_vertices}
use Rattle.pg_text.specs.Lengths.{most_digits, greatest_header, greatest_game_text, greatest_winners_text, greatest_solution_text}
use Rattle.pg_text.proofs.Numerals.{length-numeral, numeral_spells}
use Rattle.pg_text.proofs.writing.WrittenTexts.{HasNumbers, have_numbers, last_id}
use Rattle.pg_game.proofs.AllElements.{all_from_places, all_imply}

-- a number within the limit
short_number : (n : ℕ) → n ≤ max_number → length (numeral n) ≤ most_digits
short_number n l = length-numeral most_digits n (omega arith) (omega arith)

-- numbers separated by commas, and one comma more
short_list : (g : Graph) (w : ℕ) (ws : List ℕ) → AllByRecursion (λ n. n ≤ max_number) (map (λ u. id_of g u) (w ∷ ws))
    → length (join_with_byte 44 (map (λ u. numeral (id_of g u)) (w ∷ ws))) + 1 ≤ length (w ∷ ws) * (most_digits + 1)
short_list g w [] a = omega (arith, short_number (id_of g w) a.0)
short_list g w (u ∷ us) a = search (rules, short_list g u us a.1, length-append, short_number)

-- the line of a vertex with these successors
short_line : (g : Graph) (x : Vertex) (ws : List ℕ) → x.id ≤ max_number → x.priority ≤ max_number → 0 < length (map (λ w. id_of g w) ws)
    → AllByRecursion (λ n. n ≤ max_number) (map (λ w. id_of g w) ws)
    → length (numeral x.id ++ (32 ∷ numeral x.priority
    ++ (32 ∷ numeral (digit_of x.owner) ++ (32 ∷ join_with_byte 44 (map (λ w. numeral (id_of g w)) ws) ++ codes ";\n"))))
    ≤ 25 + length ws * (most_digits + 1)
short_line g x [] i p h a = absurd (omega arith)
short_line g x (w ∷ ws) i p h a = search (rules, short_list, length-append, x.owner, x.priority, x.id, short_number, length-numeral)

short_lines : (g : Graph) (xs : List Vertex) → AllByRecursion (λ x. HasNumbers (λ n. n ≤ max_number) g x) xs
    → length (flat_map (written_vertex g) xs) ≤ length xs * 25 + sum_by (λ x. length x.successors) xs * (most_digits + 1)
short_lines g [] a = omega arith
short_lines g (x ∷ xs) a =
    let one : length (written_vertex g x) ≤ 25 + length x.successors * (most_digits + 1) =
    short_line g x x.successors a.0.id a.0.priority a.0.some a.0.successors in
    let more = short_lines g xs a.1 in
    let s = sum_by-cons (λ (y : Vertex). length y.successors) x xs in
    let l = length-append (written_vertex g x) (flat_map (written_vertex g) xs) in
    rw flat_map-cons (rw l (rw s (omega arith)))

short_header : (word : List ℕ) (n : ℕ) (rest : List ℕ) → n ≤ max_number
    → length (word ++ (numeral n ++ (codes ";\n" ++ rest))) ≤ greatest_header word + length rest
short_header word n rest l = search (rules, length-append, short_number)

module _ (g : Graph) (i : IsGame g) (w : IsWithinLimits g) where
  pub short_game : length (written_game g) ≤ greatest_game_text
  short_game =
      let h = short_header (codes "parity ") (greatest_id g) (flat_map (written_vertex g) g) (last_id (λ n. n ≤ max_number) g i w.ids) in
      let l = short_lines g g (have_numbers (λ n. n ≤ max_number) g i w.ids w.numbers) in
      let n = w.vertices in
      let e = w.edges in
      omega arith

  -- rows whose choices are at most so long
  short_rows : (long : ℕ) (xs : List Vertex) (rows : SolutionRows) → AllByRecursion (λ x. x.id ≤ max_number) xs
      → AllByRecursion (λ r. length (written_choice g r.1) ≤ long) rows
      → length (written_rows g xs rows) ≤ length xs * (most_digits + 4 + long)
  short_rows long [] rows a b = omega arith
  short_rows long (x ∷ xs) [] a b = omega arith
  short_rows long (x ∷ xs) (r ∷ rows) a b = search (rules, short_rows long xs rows a.1 b.1, length-append, x.id, short_number, length-numeral)

  -- a text of rows whose choices are at most so long
  short_text : (long : ℕ) (rows : SolutionRows) → AllByRecursion (λ r. length (written_choice g r.1) ≤ long) rows
      → length (written_solution g rows) ≤ greatest_header (codes "paritysol ") + max_vertices * (most_digits + 4 + long)
  short_text long rows a =
      let h = short_header (codes "paritysol ") (greatest_id g) (written_rows g g rows) (last_id (λ n. n ≤ max_number) g i w.ids) in
      let l = short_rows long g rows (all_from_places (λ x. x.id ≤ max_number) no_vertex g w.ids) a in
      let m = mul-le-mul_right {m = length g} {n = max_vertices} (most_digits + 4 + long) w.vertices in
      omega arith

  pub short_solution : (rows : SolutionRows) → AreSolutionRows g rows → length (written_solution g rows) ≤ greatest_solution_text
  short_solution rows are =
      let t = short_text (1 + most_digits) rows (all_imply (λ r. IfSome r.1 (λ v. v < length g))
      (λ r. length (written_choice g r.1) ≤ 1 + most_digits) rows (λ r h. search (rules, short_number)) are.choices) in
      omega arith

  pub short_winners : (rows : SolutionRows) → length (written_winners g rows) ≤ greatest_winners_text
  short_winners rows =
      let t = short_text 0 (map (λ r. (r.0, None)) rows) (no_choices rows) in
      omega arith
    where
      no_choices : (rows : SolutionRows) → AllByRecursion (λ (r : Player × Option ℕ). length (written_choice g r.1) ≤ 0)
          (map (λ (r : Player × Option ℕ). (r.0, None)) rows)
      no_choices [] = tt
      no_choices (r ∷ rows) = (omega arith, no_choices rows)

some_digits : (n : ℕ) → 0 < length (numeral n)
some_digits n = (numeral_spells n).0

long_list : (g : Graph) (w : ℕ) (ws : List ℕ)
    → 2 * length (w ∷ ws) ≤ length (join_with_byte 44 (map (λ u. numeral (id_of g u)) (w ∷ ws))) + 1
long_list g w [] = omega (arith, some_digits (id_of g w))
long_list g w (u ∷ us) = search (rules, long_list g u us, length-append, some_digits)

-- the line of a vertex with these successors has at least so many bytes
long_parts : (g : Graph) (x : Vertex) (ws : List ℕ) → 0 < length ws
    → 7 + 2 * length ws
    ≤ length (numeral x.id ++ (32 ∷ numeral x.priority
    ++ (32 ∷ numeral (digit_of x.owner) ++ (32 ∷ join_with_byte 44 (map (λ w. numeral (id_of g w)) ws) ++ codes ";\n"))))
long_parts g x [] h = absurd (omega arith)
long_parts g x (w ∷ ws) h = search (rules, long_list, length-append, x.owner, x.priority, x.id, some_digits)

pub long_line : (g : Graph) (x : Vertex) → 0 < length x.successors → 7 + 2 * length x.successors ≤ length (written_vertex g x)
long_line g x h = long_parts g x x.successors h

-- one line more of a game
pub long_lines : (g : Graph) (v : ℕ) → v < length g → 0 < length (successors_of g v)
    → 7 + 2 * length (successors_of g v) + length (flat_map (written_vertex g) (drop (v + 1) g)) ≤ length (flat_map (written_vertex g) (drop v g))
long_lines g v l h = search (rules, long_line, length-append, drop_more, flat_map-cons)

long_rows : (g : Graph) (xs : List Vertex) (rows : SolutionRows) → length rows ≡ length xs → 5 * length xs ≤ length (written_rows g xs rows)
long_rows g [] rows e = omega arith
long_rows g (x ∷ xs) [] e = absurd (omega arith)
long_rows g (x ∷ xs) (r ∷ rows) e = search (rules, long_rows g xs rows (omega arith), length-append, some_digits)

pub long_solution : (g : Graph) (rows : SolutionRows) → length rows ≡ length g → 13 + 5 * length g ≤ length (written_solution g rows)
long_solution g rows e = search (rules, length-append, some_digits, long_rows)
