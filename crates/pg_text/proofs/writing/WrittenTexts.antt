-- The written text of a game or of a solution spells one text.
use Rattle.pg_text.proofs.Common.{◌≡◌, ℕ, ◌+◌, ◌-◌, ◌<◌, ◌≤◌, get_or, true, List, [], ◌∷◌, ◌++◌, length, map, refl, sym, ap, subst, arith}
use Rattle.pg_text.proofs.Common.{append_assoc, numeral, rules, flat_map, codes, option_map, IfSome, AllByRecursion, join_with_byte, le-leb}
use Rattle.pg_text.proofs.Common.{length-map, Player, digit_of, Graph, Vertex, id_of, owner_of, IsGame, no_vertex, successors_of, Token, Number}
use Rattle.pg_text.proofs.Common.{Word, Comma, Semicolon, IsSpelling, IsWhole, Placed, tokens_of, Begins, Spells, is_blank, is_digit, is_letter, AllAre}
use Rattle.pg_text.proofs.Common.{EndsRun, placed, max_number, IsWithinLimits, fits, AllFit, SpellsGame, SpellsSolution, IsGameText, separated}
use Rattle.pg_text.proofs.Common.{SolutionRows, AreSolutionRows, greatest_id, written_vertex, written_game, written_choice, written_rows, written_solution}
use Rattle.std.proofs.Common.{Option, Some, None}
use Rattle.pg_text.proofs.solution_text.TokenSteps.{owner_small}
use Rattle.pg_game.proofs.AllElements.{all-append, all_from_places, all_imply, all-map}
use Rattle.pg_game.specs.Graph.{priority_of}
use Rattle.pg_text.proofs.Numerals.{numeral_spells}
use Rattle.pg_text.proofs.laws.UniqueGameLines.{further, separated-first}
use Rattle.pg_text.proofs.writing.NumberLists.{join_first}
use Rattle.pg_text.specs.GameText as games
use Rattle.pg_text.specs.SolutionText as solutions

-- from any place on, the text spells these tokens
pub record SpellsTokens (text : List ℕ) (ts : List Token) : Type 0 where
  pub from : (place : ℕ) → (ps : List Placed) × Spells place text ps × (tokens_of ps ≡ ts)

spells_nothing : SpellsTokens [] []
spells_nothing = record { from = λ place. ([], tt, refl) }

-- a blank before
blank_before : (b : ℕ) (place : ℕ) (text : List ℕ) (ps : List Placed) → is_blank b ≡ true → Spells (place + 1) text ps → Spells place (b ∷ text) ps
blank_before b place text [] h s = (h, s)
blank_before b place text (p ∷ ps) h (blanks, body, rest, g, s) = (
  b ∷ blanks,
  body,
  rest,
  record {
    split = ap (λ xs. b ∷ xs) g.split;
    blank = (h, g.blank);
    placed = let e = g.placed in omega arith;
    spelled = g.spelled;
    whole = g.whole;
  },
  subst (λ n. Spells n rest ps) (omega arith) s,
)

spells_blank : {text : List ℕ} {ts : List Token} (b : ℕ) → is_blank b ≡ true → SpellsTokens text ts → SpellsTokens (b ∷ text) ts
spells_blank {text = text} b h s = record { from = λ place. let (ps, t, e) = s.from (place + 1) in (ps, blank_before b place text ps h t, e) }

-- a token before
spells_token : {rest : List ℕ} {ts : List Token} (t : Token) (body : List ℕ) → IsSpelling t body → SpellsTokens rest ts → IsWhole t rest
    → SpellsTokens (body ++ rest) (t ∷ ts)
spells_token {rest = rest} t body h s w = record {
  from = λ place.
      let (ps, u, e) = s.from (place + length body) in
      let first : Begins place (body ++ rest) (placed t place) [] body rest =
      record { split = refl; blank = tt; placed = omega arith; spelled = h; whole = w } in
      (placed t place ∷ ps, ([], body, rest, first, subst (λ n. Spells n rest ps) (omega arith) u), ap (λ us. t ∷ us) e);
}

spells_number : {rest : List ℕ} {ts : List Token} (n : ℕ) → SpellsTokens rest ts → EndsRun is_digit rest
    → SpellsTokens (numeral n ++ rest) (Number n ∷ ts)
spells_number n s w = spells_token (Number n) (numeral n) (numeral_spells n) s w

-- a semicolon and the end of the line
spells_end : {rest : List ℕ} {ts : List Token} → SpellsTokens rest ts → SpellsTokens (59 ∷ 10 ∷ rest) (Semicolon ∷ ts)
spells_end s = spells_token Semicolon (59 ∷ []) refl (spells_blank 10 refl s) tt

-- the header
spells_header : {rest : List ℕ} {ts : List Token} (word : List ℕ) (n : ℕ) → 0 < length word → AllAre is_letter word → SpellsTokens rest ts
    → SpellsTokens (word ++ (32 ∷ (numeral n ++ (59 ∷ 10 ∷ rest)))) (Word word ∷ Number n ∷ Semicolon ∷ ts)
spells_header word n l a s = spells_token (Word word) word (l, a, refl) (spells_blank 32 refl (spells_number n (spells_end s) refl)) refl

-- numbers, each after a comma
abbrev behind_commas : List ℕ → List ℕ
behind_commas ns = flat_map (λ n. 44 ∷ numeral n) ns

list_ends : (ns : List ℕ) (rest : List ℕ) → EndsRun is_digit rest → EndsRun is_digit (behind_commas ns ++ rest)
list_ends [] rest w = w
list_ends (n ∷ ns) rest w = refl

spells_further : {rest : List ℕ} {ts : List Token} (ns : List ℕ) → SpellsTokens rest ts → EndsRun is_digit rest
    → SpellsTokens (behind_commas ns ++ rest) (further ns ++ ts)
spells_further [] s w = s
spells_further {rest = rest} {ts = ts} (n ∷ ns) s w =
    let e : behind_commas (n ∷ ns) ++ rest ≡ 44 ∷ (numeral n ++ (behind_commas ns ++ rest)) = append_assoc (44 ∷ numeral n) (behind_commas ns) rest in
    let f = spells_number n (spells_further ns s w) (list_ends ns rest w) in
    subst (λ (xs : List ℕ). SpellsTokens xs (Comma ∷ Number n ∷ (further ns ++ ts))) (sym e) (spells_token Comma (44 ∷ []) refl f tt)

-- numbers separated by commas
spells_list : {rest : List ℕ} {ts : List Token} (ns : List ℕ) → 0 < length ns → SpellsTokens rest ts → EndsRun is_digit rest
    → SpellsTokens (join_with_byte 44 (map numeral ns) ++ rest) (separated ns ++ ts)
spells_list [] h s w = absurd (omega arith)
spells_list {rest = rest} {ts = ts} (n ∷ ns) h s w =
    search (rules, join_first, append_assoc, further, separated-first, spells_number, spells_further, list_ends)

-- the line that the written text has for a vertex
abbrev pub line_of : Graph → Vertex → games.WrittenGameLine
line_of g x = record { id = x.id; priority = x.priority; owner = digit_of x.owner; successors = map (λ w. id_of g w) x.successors; name = None }

abbrev pub written_lines : Graph → List games.WrittenGameLine
written_lines g = map (λ x. line_of g x) g

-- its line names a successor
abbrev HasSuccessors : Graph → Vertex → Type 0
HasSuccessors g x = 0 < length (map (λ w. id_of g w) x.successors)

-- the numbers of its line are such, and it has a successor
pub record HasNumbers (P : ℕ → Type 0) (g : Graph) (x : Vertex) : Type 0 where
  pub id : P x.id
  pub priority : P x.priority
  pub successors : AllByRecursion P (map (λ w. id_of g w) x.successors)
  pub some : HasSuccessors g x

map-twice : (g : Graph) (ws : List ℕ) → map (λ w. numeral (id_of g w)) ws ≡ map numeral (map (λ w. id_of g w) ws)
map-twice g [] = refl
map-twice g (w ∷ ws) = ap (λ xs. numeral (id_of g w) ∷ xs) (map-twice g ws)

spells_line : {rest : List ℕ} {ts : List Token} (g : Graph) (x : Vertex) → HasSuccessors g x → SpellsTokens rest ts
    → SpellsTokens (written_vertex g x ++ rest) (games.game_line_tokens (line_of g x) ++ ts)
spells_line {rest = rest} {ts = ts} g x h s = search (
  rules,
  map-twice,
  append_assoc,
  spells_blank,
  spells_list,
  spells_end,
  spells_number,
  x.owner,
  x.successors,
  x.id,
  x.priority,
  games.game_line_tokens,
)

spells_lines : (g : Graph) (xs : List Vertex) → AllByRecursion (HasSuccessors g) xs
    → SpellsTokens (flat_map (written_vertex g) xs) (flat_map games.game_line_tokens (map (λ x. line_of g x) xs))
spells_lines g [] a = spells_nothing
spells_lines g (x ∷ xs) a = spells_line g x a.0 (spells_lines g xs a.1)

have_successors : (g : Graph) → IsGame g → AllByRecursion (HasSuccessors g) g
have_successors g i = all_from_places (HasSuccessors g) no_vertex g (λ v l.
    let n = length-map (successors_of g v) (λ w. id_of g w) in
    let h = (i.successors v l).nonempty in
    omega arith)

-- what holds of all identifiers and priorities
pub have_numbers : (P : ℕ → Type 0) (g : Graph) → IsGame g → ((v : ℕ) → v < length g → P (id_of g v)) → ((v : ℕ) → v < length g → P (priority_of g v))
    → AllByRecursion (λ x. HasNumbers P g x) g
have_numbers P g i ids priorities = all_from_places (λ x. HasNumbers P g x) no_vertex g (λ v l.
    let s = i.successors v l in
    let ws : List ℕ = successors_of g v in
    record {
      id = ids v l;
      priority = priorities v l;
      successors = all-map (λ u. id_of g u) P ws (all_from_places (λ u. P (id_of g u)) 0 ws (λ k h. ids (get_or ws k 0) (s.below k h)));
      some = let n = length-map ws (λ w. id_of g w) in let h = s.nonempty in omega arith;
    })

pub last_id : (P : ℕ → Type 0) (g : Graph) → IsGame g → ((v : ℕ) → v < length g → P (id_of g v)) → P (greatest_id g)
last_id P g i ids = let h = i.nonempty in ids (length g - 1) (omega arith)

-- the written text of a game spells its own lines, whose owners are 0 and 1
module _ (g : Graph) (i : IsGame g) where
  abbrev pub written_tokens : List Token
  written_tokens = games.game_tokens (Some (greatest_id g)) None (written_lines g)

  pub spells_game : (ps : List Placed) × Spells 0 (written_game g) ps × (tokens_of ps ≡ written_tokens)
  spells_game =
      let lines = spells_lines g g (have_successors g i) in
      (spells_header (codes "parity") (greatest_id g) (omega arith) (refl, (refl, (refl, (refl, (refl, (refl, tt)))))) lines).from 0

  pub written_grammar : (ts : List Token) → ts ≡ written_tokens → IsGameText ts (written_lines g)
  written_grammar ts e = search (rules, length-map, all-map, have_successors, i.nonempty)

  pub written_owners : AllByRecursion (λ l. l.owner < 2) (written_lines g)
  written_owners = all-map (λ x. line_of g x) (λ l. l.owner < 2) g (all_from_places (λ x. digit_of x.owner < 2) no_vertex g (λ v l. owner_small (owner_of g v)))

-- the line that the written text has for a row
abbrev pub row_line : Graph → Vertex → Player × Option ℕ → solutions.WrittenSolutionLine
row_line g x r = record { id = x.id; winner = digit_of r.0; choice = option_map (λ w. id_of g w) r.1 }

abbrev pub row_lines : Graph → List Vertex → SolutionRows → List solutions.WrittenSolutionLine
row_lines g [] rows = []
row_lines g (x ∷ xs) [] = []
row_lines g (x ∷ xs) (r ∷ rows) = row_line g x r ∷ row_lines g xs rows

-- a row's choice, where there is one, has such an identifier
abbrev pub HasChoice : (ℕ → Type 0) → Graph → Player × Option ℕ → Type 0
HasChoice P g r = IfSome r.1 (λ w. P (id_of g w))

-- after a winner, the rest of a row
spells_choice : {rest : List ℕ} {ts : List Token} (g : Graph) (c : Option ℕ) → SpellsTokens rest ts
    → SpellsTokens (written_choice g c ++ (59 ∷ 10 ∷ rest)) ((solutions.choice_tokens (option_map (λ w. id_of g w) c) ++ Semicolon ∷ []) ++ ts)
spells_choice g x1 s = grind (arith, spells_end, spells_blank, spells_number)

spells_row : {rest : List ℕ} {ts : List Token} (g : Graph) (x : Vertex) (r : Player × Option ℕ) → SpellsTokens rest ts
    → SpellsTokens (numeral x.id ++ (32 ∷ numeral (digit_of r.0) ++ (written_choice g r.1 ++ (codes ";\n" ++ rest))))
    (solutions.solution_line_tokens (row_line g x r) ++ ts)
spells_row {rest = rest} g x r s = search (rules, spells_number, spells_choice, x.id, spells_blank)

spells_rows : (g : Graph) (xs : List Vertex) (rows : SolutionRows)
    → SpellsTokens (written_rows g xs rows) (flat_map solutions.solution_line_tokens (row_lines g xs rows))
spells_rows g [] rows = spells_nothing
spells_rows g (x ∷ xs) [] = spells_nothing
spells_rows g (x ∷ xs) (r ∷ rows) = spells_row g x r (spells_rows g xs rows)

-- the written text of winners and choices spells their own lines
pub spells_solution : (g : Graph) (rows : SolutionRows)
    → (ps : List Placed) × Spells 0 (written_solution g rows) ps × (tokens_of ps ≡ solutions.solution_tokens (Some (greatest_id g)) (row_lines g g rows))
spells_solution g rows =
    let lines = spells_rows g g rows in
    let letters : AllAre is_letter (codes "paritysol") = (refl, (refl, (refl, (refl, (refl, (refl, (refl, (refl, (refl, tt))))))))) in
    (spells_header (codes "paritysol") (greatest_id g) (omega arith) letters lines).from 0

fits_number : (n : ℕ) → n ≤ max_number → fits (Number n) ≡ true
fits_number n h = le-leb n max_number h

fits_separated : (ns : List ℕ) → AllByRecursion (λ n. n ≤ max_number) ns → AllFit (separated ns)
fits_separated [] a = tt
fits_separated (n ∷ []) a = (fits_number n a.0, tt)
fits_separated (n ∷ m ∷ ns) a = (fits_number n a.0, (refl, fits_separated (m ∷ ns) a.1))

fits_lines : (g : Graph) (xs : List Vertex) → AllByRecursion (λ x. HasNumbers (λ n. n ≤ max_number) g x) xs
    → AllFit (flat_map games.game_line_tokens (map (λ x. line_of g x) xs))
fits_lines g [] a = tt
fits_lines g (x ∷ xs) a = search (rules, fits_lines g xs a.1, all-append, fits_separated, fits_number, games.game_line_tokens)

-- the written text of a game spells a game text of its own lines
pub written_game_spells : (g : Graph) → IsGame g → IsWithinLimits g → SpellsGame (written_game g) (written_lines g)
written_game_spells g i w =
    let (ps, s, e) = spells_game g i in
    let last = fits_number (greatest_id g) (last_id (λ n. n ≤ max_number) g i w.ids) in
    record {
      tokens = ps;
      spelled = s;
      grammar = written_grammar g i (tokens_of ps) e;
      numbers = subst AllFit (sym e) (refl, (last, (refl, fits_lines g g (have_numbers (λ n. n ≤ max_number) g i w.ids w.numbers))));
      owners = written_owners g i;
    }

fits_rows : (g : Graph) (xs : List Vertex) (rows : SolutionRows) → AllByRecursion (λ x. x.id ≤ max_number) xs
    → AllByRecursion (HasChoice (λ n. n ≤ max_number) g) rows
    → AllFit (flat_map solutions.solution_line_tokens (row_lines g xs rows))
fits_rows g [] rows a b = tt
fits_rows g (x ∷ xs) [] a b = tt
fits_rows g (x ∷ xs) (r ∷ rows) a b = search (rules, fits_rows g xs rows a.1 b.1, all-append, fits_number, x.id)

pub small_winners : (g : Graph) (xs : List Vertex) (rows : SolutionRows) → AllByRecursion (λ l. l.winner < 2) (row_lines g xs rows)
small_winners g [] rows = tt
small_winners g (x ∷ xs) [] = tt
small_winners g (x ∷ xs) (r ∷ rows) = (owner_small r.0, small_winners g xs rows)

-- the written text of winners and choices spells a solution text of their own lines
pub written_solution_spells : (g : Graph) (rows : SolutionRows) → IsGame g → IsWithinLimits g → AreSolutionRows g rows
    → SpellsSolution (written_solution g rows) (row_lines g g rows)
written_solution_spells g rows i w are =
    let (ps, s, e) = spells_solution g rows in
    let last = fits_number (greatest_id g) (last_id (λ n. n ≤ max_number) g i w.ids) in
    let ids = all_from_places (λ x. x.id ≤ max_number) no_vertex g w.ids in
    record {
      tokens = ps;
      spelled = s;
      grammar = (Some (greatest_id g), e);
      numbers = subst AllFit (sym e) (refl, (last, (refl, fits_rows g g rows ids (search (rules, all_imply, are.choices)))));
      winners = small_winners g g rows;
    }
