-- The table of a game's vertices, one line of a solution text after another.
use Rattle.pg_text.proofs.Common.{◌≡◌, ℕ, zero, suc, ◌+◌, ◌<◌, Bool, true, false, not, inl, inr, List, [], ◌∷◌, ◌++◌, length, map, take, drop, get_or, set}
use Rattle.pg_text.proofs.Common.{refl, sym, ◌∙◌, ap, subst, arith, rules, ◌==◌, if◌then◌else◌, Option, Some, None, find, slice_get, option_or, Contains}
use Rattle.pg_text.proofs.Common.{list_any, eqb-true, eq-eqb, false_from_ne_true, map-append, get_or-map, length-map, take-append-drop, slice_get-get_or}
use Rattle.pg_text.proofs.Common.{list_any_at, Player, Even, digit_of, Graph, IsGame, id_of, no_vertex, first_repeated, members, SolutionTextFault}
use Rattle.pg_text.proofs.Common.{SolutionLine, WrittenSolutionLine, SolutionRows, AreLinesOf, first_stranger, first_twice, first_missing, has_line}
use Rattle.pg_text.proofs.Common.{row_of_line, HoldsLines, IsNamed, IsLookUpFaultOf, line_of}
use Rattle.std.proofs.Common.{◌||◌, length-set, get_or-set_same, get_or-set_other}
use Rattle.std.proofs.lemmas.List.{take-map, take_more}
use Rattle.std.proofs.lemmas.List.Elements.{Contains-push_cases}
use Rattle.std.proofs.lemmas.List.Folds.{list_any-append}
use Rattle.std.proofs.Math.Bool.{or-false, or-true}
use Rattle.pg_game.proofs.Masks.{members-set}
use Rattle.pg_text.specs.private.SolutionTable.{IsStrangerOf}
use Rattle.pg_text.proofs.solution_text.Identifiers.{number_at, named_is, stranger-append, line_named}
use Rattle.pg_text.specs.declared.fault.SolutionTextFault.TheVariants as fault
use Rattle.pg_game.specs.Player.{of_digit}

abbrev among : List ℕ → ℕ → Bool
among ns n = list_any (λ m. m == n) ns

-- one more number at the end of a list: what is repeated first
repeated-push : (earlier ns : List ℕ) (n : ℕ)
    → first_repeated earlier (ns ++ n ∷ []) ≡ option_or (first_repeated earlier ns) (if among earlier n || among ns n then Some n else None)
repeated-push earlier [] n = rw or-false refl
repeated-push earlier (x ∷ ns) n = search (rules, repeated-push (x ∷ earlier) ns n)

any-ids : (lines : List WrittenSolutionLine) (n : ℕ) → among (map (λ l. l.id) lines) n ≡ has_line lines n
any-ids [] n = refl
any-ids (l ∷ lines) n = ap (λ b. (l.id == n) || b) (any-ids lines n)

-- one more line: which identifier has two first
pub twice-push : (lines : List WrittenSolutionLine) (l : WrittenSolutionLine)
    → first_twice (lines ++ l ∷ []) ≡ option_or (first_twice lines) (if has_line lines l.id then Some l.id else None)
twice-push lines l = search (rules, map-append, repeated-push, any-ids)

pub has_line-push : (lines : List WrittenSolutionLine) (l : WrittenSolutionLine) (id : ℕ) → has_line (lines ++ l ∷ []) id ≡ (has_line lines id || (l.id == id))
has_line-push lines l id = list_any-append (λ x. x.id == id) lines (l ∷ []) ∙ ap (λ b. has_line lines id || b) (or-false (l.id == id))

-- a line is found by its identifier
pub has_line_at : (lines : List WrittenSolutionLine) (l : WrittenSolutionLine) → Contains lines l → has_line lines l.id ≡ true
has_line_at lines l (k, h, e) = search (rules, list_any_at, eq-eqb)

module _ {g : Graph} {lines : List WrittenSolutionLine} {rows : SolutionRows} {said : List Bool} {twice : Option ℕ} (h : HoldsLines g lines rows said twice)
    (l : WrittenSolutionLine) (v : ℕ) (n : IsNamed g l.id v) (home : first_stranger g (l ∷ []) ≡ None) where
  still_none : first_stranger g (lines ++ l ∷ []) ≡ None
  still_none = stranger-append g lines (l ∷ []) ∙ rw (h.no_stranger, home) refl

  -- two vertices with one identifier are one
  same_vertex : (u : ℕ) → u < length g → id_of g u ≡ l.id → u ≡ v
  same_vertex u lu e = sym (number_at g l.id u h.game (record { vertex = lu; id_is = e })) ∙ number_at g l.id v h.game n

  mark_is : members said v ≡ has_line lines l.id
  mark_is = h.marked v n.vertex ∙ ap (has_line lines) n.id_is

  -- which identifier has two lines, by whether this one's has an earlier one
  abbrev more : Bool → Option ℕ
  more b = option_or (first_twice lines) (if b then Some l.id else None)

  -- a line of a vertex that has one already
  pub holds_again : members said v ≡ true → HoldsLines g (lines ++ l ∷ []) rows said (option_or twice (Some l.id))
  holds_again t = search (rules, mark_is, h.game, h.size, h.marks, still_none, h.first, twice-push, h.marked, has_line-push, eqb-true, or-false)

  -- the first line of a vertex
  pub holds_more : members said v ≡ false → HoldsLines g (lines ++ l ∷ []) (set rows v (row_of_line g l)) (set said v true) twice
  holds_more t =
      let none : has_line lines l.id ≡ false = sym mark_is ∙ t in
      let lv : v < length said = let e = h.marks in let k = n.vertex in omega arith in
      let lr : v < length rows = let e = h.size in let k = n.vertex in omega arith in
      record {
        game = h.game;
        size = length-set rows v (row_of_line g l) ∙ h.size;
        marks = length-set said v true ∙ h.marks;
        no_stranger = still_none;
        first = h.first ∙ sym (twice-push lines l ∙ ap more none ∙ or_nothing (first_twice lines));
        marked = λ u lu. members-set said v lv u ∙ (marks_are u lu (l.id == id_of g u) refl ∙ sym (has_line-push lines l (id_of g u)));
        says = λ e u lu k m is. elim (Contains-push_cases lines l k m) [
          | inl m ↦ get_or-set_other rows v u (row_of_line g l) (Even, None) (λ q.
              let a : has_line lines l.id ≡ true = subst (λ i. has_line lines i ≡ true) (is ∙ (ap (id_of g) q ∙ n.id_is)) (has_line_at lines k m) in
              cc (a, none)) ∙ h.says e u lu k m is
          | inr q ↦ (let w : u ≡ v = same_vertex u lu (sym is ∙ ap (λ (x : WrittenSolutionLine). x.id) (sym q)) in
              rw w (get_or-set_same rows v (row_of_line g l) (Even, None) lr ∙ ap (row_of_line g) q))
        ];
      }
    where
      or_nothing : (o : Option ℕ) → option_or o None ≡ o
      or_nothing None = refl
      or_nothing (Some x) = refl

      marks_are : (u : ℕ) → u < length g → (b : Bool) → (l.id == id_of g u) ≡ b
          → (members said u || (v == u)) ≡ (has_line lines (id_of g u) || (l.id == id_of g u))
      marks_are u lu true e =
          let q : l.id ≡ id_of g u = eqb-true l.id (id_of g u) e in
          let w : u ≡ v = same_vertex u lu (sym q) in
          let f : (v == u) ≡ true = eq-eqb v u (sym w) in
          rw (e, f, or-true, or-true) refl
      marks_are u lu false e =
          let f : (v == u) ≡ false = false_from_ne_true (v == u) (λ s.
          let k : (l.id == id_of g u) ≡ true = eq-eqb l.id (id_of g u) (sym n.id_is ∙ ap (id_of g) (eqb-true v u s)) in
          cc (k, e)) in
          rw (e, f, or-false, or-false) (h.marked u lu)

-- the first number that passes a test, by its place
find_at : (p : ℕ → Bool) (xs : List ℕ) (v : ℕ) → v < length xs → p (get_or xs v 0) ≡ true → ((u : ℕ) → u < v → p (get_or xs u 0) ≡ false)
    → find p xs ≡ Some (get_or xs v 0)
find_at p [] v l t f = absurd (omega arith)
find_at p (x ∷ xs) zero l t f = rw t refl
find_at p (x ∷ xs) (suc v) l t f = let e : p x ≡ false = f 0 (omega arith) in rw e (find_at p xs v (omega arith) t (λ u h. f (suc u) (omega arith)))

pub find_none : (p : ℕ → Bool) (xs : List ℕ) → ((u : ℕ) → u < length xs → p (get_or xs u 0) ≡ false) → find p xs ≡ None
find_none p [] f = refl
find_none p (x ∷ xs) f = let e : p x ≡ false = f 0 (omega arith) in rw e (find_none p xs (λ u h. f (suc u) (omega arith)))

module _ {g : Graph} {lines : List WrittenSolutionLine} {rows : SolutionRows} {said : List Bool} {twice : Option ℕ} (h : HoldsLines g lines rows said twice)
    (none : twice ≡ None) where
  once : first_twice lines ≡ None
  once = sym h.first ∙ none

  unmarked : (u : ℕ) (b : Bool) → u < length g → members said u ≡ b → not (has_line lines (get_or (map (λ x. x.id) g) u 0)) ≡ not b
  unmarked u b l e = ap (λ i. not (has_line lines i)) (get_or-map (λ x. x.id) g u no_vertex 0 l) ∙ ap not (sym (h.marked u l) ∙ e)

  -- the first vertex without a line
  pub is_missing : (v : ℕ) → v < length g → members said v ≡ false → ((u : ℕ) → u < v → members said u ≡ true)
      → (first_stranger g lines ≡ None) × (first_twice lines ≡ None) × (first_missing g lines ≡ Some (id_of g v))
  is_missing v l e before =
      let k : length (map (λ x. x.id) g) ≡ length g = length-map g (λ x. x.id) in (
        h.no_stranger,
        once,
        find_at (λ i. not (has_line lines i)) (map (λ x. x.id) g) v (omega arith) (unmarked v false l e) (λ u d. unmarked u true (omega arith) (before u d))
            ∙ ap (λ i. Some i) (get_or-map (λ x. x.id) g v no_vertex 0 l),
      )

  -- a line for each vertex
  pub say_rows : ((u : ℕ) → u < length g → members said u ≡ true) → AreLinesOf g lines rows
  say_rows all =
      let k : length (map (λ x. x.id) g) ≡ length g = length-map g (λ x. x.id) in
      record {
        no_stranger = h.no_stranger;
        once = once;
        complete = find_none (λ i. not (has_line lines i)) (map (λ x. x.id) g) (λ u d. unmarked u true (omega arith) (all u (omega arith)));
        says = record {
          size = h.size;
          each = λ l m.
              let (v, n) = line_named g lines l h.no_stranger m in
              let lr : v < length rows = let e = h.size in let d = n.vertex in omega arith in
              subst (λ i. slice_get rows i ≡ Some (row_of_line g l)) (sym (number_at g l.id v h.game n))
              (slice_get-get_or rows v (Even, None) lr ∙ ap (λ r. Some r) (h.says none v n.vertex l m (sym n.id_is)));
        };
      }

-- the vertex of a line's choice
abbrev pub IsChoice : Graph → Option ℕ → Option ℕ → Type 0
IsChoice g None None = Unit {0}
IsChoice g (Some id) (Some v) = IsNamed g id v
IsChoice g None (Some v) = ⊥
IsChoice g (Some id) None = ⊥

pub player_back : (p : Player) → p ≡ of_digit (digit_of p)
player_back x0 = search (rules)

-- a line whose identifiers are the game's says its row, and is no stranger
pub row_is : (g : Graph) (id : ℕ) (winner : Player) (c w : Option ℕ) → IsGame g → IsChoice g c w
    → (winner, w) ≡ row_of_line g (record { id = id; winner = digit_of winner; choice = c })
row_is g id winner x3 x4 i k = search (rules, player_back, number_at)

pub at_home : (g : Graph) (id v winner : ℕ) (c w : Option ℕ) → IsNamed g id v → IsChoice g c w
    → first_stranger g (record { id = id; winner = winner; choice = c } ∷ []) ≡ None
at_home g id v winner x4 x5 n k = search (rules, named_is)

-- the next line of those that were read
pub next_line : (ls : List SolutionLine) (i : ℕ) (d : SolutionLine) → i < length ls
    → take (i + 1) (map line_of ls) ≡ take i (map line_of ls) ++ line_of (get_or ls i d) ∷ []
next_line ls i d l =
    take-map line_of (i + 1) ls
    ∙ (ap (map line_of) (take_more ls i d l)
    ∙ (map-append line_of (take i ls) (get_or ls i d ∷ [])
    ∙ ap (λ (xs : List WrittenSolutionLine). xs ++ line_of (get_or ls i d) ∷ []) (sym (take-map line_of i ls))))

-- a stranger's line ends the reading
pub is_stranger : (g : Graph) (ls : List SolutionLine) (i : ℕ) (d : SolutionLine) (e : SolutionTextFault) → i < length ls
    → first_stranger g (take i (map line_of ls)) ≡ None → IsStrangerOf g (line_of (get_or ls i d)) e → IsLookUpFaultOf g (map line_of ls) e
is_stranger g ls i d (fault.Stranger id) l none s =
    let lines : List WrittenSolutionLine = map line_of ls in
    let more : List WrittenSolutionLine = drop (i + 1) lines in
    ap (first_stranger g) (sym (take-append-drop (i + 1) lines))
    ∙ (stranger-append g (take (i + 1) lines) more
    ∙ (ap (λ xs. option_or (first_stranger g xs) (first_stranger g more)) (next_line ls i d l)
    ∙ (ap (λ (o : Option ℕ). option_or o (first_stranger g more)) (stranger-append g (take i lines) (line_of (get_or ls i d) ∷ []))
    ∙ rw (none, s) refl)))
is_stranger g ls i d _ l none s = absurd s
