-- A text has at most one fault as a solution of a game, and none where it is a solution's.
use Rattle.pg_text.proofs.Common.{◌≡◌, ℕ, zero, suc, ◌<◌, ◌⊎◌, inl, inr, List, [], ◌∷◌, ◌++◌, refl, sym, ◌∙◌, ap, subst, arith, rules, Option, Some, None}
use Rattle.pg_text.proofs.Common.{append-nil, Graph, SolutionTextFault, Stranger, Token, Placed, tokens_of, Spells, Semicolon, flat_map, codes, length, append_assoc, ◌≤◌}
use Rattle.pg_text.proofs.Common.{AllFit, IsPlayerFault, WrittenSolutionLine, solution_tokens, IsSolutionText, BeginsSolutionText, IsBeforeWinner}
use Rattle.pg_text.proofs.Common.{first_stranger, first_twice, first_missing, SpellsSolution, IsSomeSolutionText}
use Rattle.pg_text.specs.declared.fault.SolutionTextFault.TheVariants.{Lexical, Syntax, Number, Winner, Twice, Missing, Memory}
use Rattle.pg_text.specs.GameText.{headed}
use Rattle.pg_text.specs.SolutionText.{choice_tokens, solution_line_tokens}
use Rattle.pg_text.specs.private.SolutionReads.{AreWinners}
use Rattle.pg_text.specs.Reading.{IsSolutionFaultOf}
use Rattle.pg_text.specs.Laws.{OneSolutionFault, SolutionTextOrFault}
use Rattle.pg_text.proofs.laws.UniqueTokens.{one_spelling}
use Rattle.pg_text.proofs.laws.FaultOrTokens.{lexical_once, lexical_or_tokens}
use Rattle.pg_text.proofs.laws.ExclusiveFaults.{tokens_at, player_once, syntax_once, syntax_or_grammar, number_once, number_or_fit, solution_prefix, solution_begins}
use Rattle.pg_text.proofs.laws.FaultKinds.{one_fault_of, no_fault}
use Rattle.pg_text.proofs.laws.UniqueLines.{Avoids, behind_head, no_word, lines_once, player_small}
use Rattle.pg_text.specs.Token as token

same_choice : (c d : Option ℕ) (xs ys : List Token) → (choice_tokens c ++ Semicolon ∷ []) ++ xs ≡ (choice_tokens d ++ Semicolon ∷ []) ++ ys → (c ≡ d) × (xs ≡ ys)
same_choice None None xs ys e = (refl, cc e)
same_choice (Some n) (Some m) xs ys e = (cc e, cc e)
same_choice None (Some m) xs ys e = absurd (cc e)
same_choice (Some n) None xs ys e = absurd (cc e)

first : (l : WrittenSolutionLine) → (n : ℕ) × (ts : List Token) × (solution_line_tokens l ≡ token.Number n ∷ ts)
first l = (l.id, token.Number l.winner ∷ (choice_tokens l.choice ++ Semicolon ∷ []), refl)

front : (a b : WrittenSolutionLine) (xs ys : List Token) → solution_line_tokens a ++ xs ≡ solution_line_tokens b ++ ys → (a ≡ b) × (xs ≡ ys)
front a b xs ys e =
    let (c, r) = same_choice a.choice b.choice xs ys (cc e) in
    let line : ℕ → ℕ → Option ℕ → WrittenSolutionLine = λ i w d. record { id = i; winner = w; choice = d } in
    let f : line a.id a.winner a.choice ≡ line b.id b.winner b.choice = cc (e, c) in
    (f, r)

behind : (h k : Option ℕ) (ks ls : List WrittenSolutionLine) (xs ys : List Token) → Avoids (codes "paritysol") xs → Avoids (codes "paritysol") ys
    → headed (codes "paritysol") h ++ (flat_map solution_line_tokens ks ++ xs) ≡ headed (codes "paritysol") k ++ (flat_map solution_line_tokens ls ++ ys)
    → flat_map solution_line_tokens ks ++ xs ≡ flat_map solution_line_tokens ls ++ ys
behind h k ks ls xs ys a b e =
    behind_head (codes "paritysol") h k (flat_map solution_line_tokens ks ++ xs) (flat_map solution_line_tokens ls ++ ys)
    (no_word solution_line_tokens first front (codes "paritysol") ks xs a) (no_word solution_line_tokens first front (codes "paritysol") ls ys b) e

-- tokens are a solution text of at most one list of lines
pub one_lines : (ts : List Token) (ls ks : List WrittenSolutionLine) → IsSolutionText ts ls → IsSolutionText ts ks → ls ≡ ks
one_lines ts ls ks (h, i) (k, j) =
    let e : headed (codes "paritysol") h ++ (flat_map solution_line_tokens ls ++ []) ≡ headed (codes "paritysol") k ++ (flat_map solution_line_tokens ks ++ []) =
    search (rules, append-nil, i, j) in
    let f = behind h k ls ks [] [] (λ us g. cc g) (λ us g. cc g) e in
    lines_once solution_line_tokens first front ls ks (sym (append-nil (flat_map solution_line_tokens ls)) ∙ (f ∙ append-nil (flat_map solution_line_tokens ks)))

-- a winner inside lines whose winners are 0 and 1, and what follows them, is 0 or 1
inner_winner : (xs m : List Token) (n : ℕ) (k : Option ℕ) (ls : List WrittenSolutionLine) (more : List Token) → IsBeforeWinner xs → AreWinners ls
    → length more ≤ 1 → Avoids (codes "paritysol") more → xs ++ token.Number n ∷ m ≡ solution_tokens k ls ++ more → n < 2
inner_winner xs m n k ls more x won short a e =
    let stem : List Token = token.Number x.id ∷ [] in
    let f : headed (codes "paritysol") x.header ++ (flat_map solution_line_tokens x.earlier ++ (stem ++ token.Number n ∷ m))
    ≡ headed (codes "paritysol") k ++ (flat_map solution_line_tokens ls ++ more) = search (rules, append_assoc, x.tokens) in
    player_small solution_line_tokens first front (λ l. l.winner) stem m n (λ l us g. cc g) (λ l. omega arith) more short x.earlier ls
    (behind x.header k x.earlier ls (stem ++ token.Number n ∷ m) more (λ us g. cc g) a f) won

later_winner : (xs ys m : List Token) (n : ℕ) → IsBeforeWinner xs → IsBeforeWinner ys → ys ≡ xs ++ token.Number n ∷ m → n < 2
later_winner xs ys m n a y e =
    inner_winner xs m n y.header y.earlier (token.Number y.id ∷ []) a y.winners (omega arith) (λ us g. cc g) (sym e ∙ y.tokens)

winner_once : (text : List ℕ) (a b : ℕ) → IsPlayerFault IsSomeSolutionText IsBeforeWinner text a
    → IsPlayerFault IsSomeSolutionText IsBeforeWinner text b → a ≡ b
winner_once = player_once BeginsSolutionText IsSomeSolutionText IsBeforeWinner solution_prefix solution_begins (λ xs ys m n a b c. later_winner xs ys m n a b)

-- a wrong winner is in no text whose winners are 0 and 1
winner_or_lines : (text : List ℕ) (a : ℕ) (us : List Placed) (lines : List WrittenSolutionLine) → IsPlayerFault IsSomeSolutionText IsBeforeWinner text a
    → Spells 0 text us → IsSolutionText (tokens_of us) lines → AreWinners lines → ⊥
winner_or_lines text a us lines x z (h, w) o =
    let q = x.first in
    let d : tokens_of us ≡ tokens_of q.before ++ token.Number q.number ∷ tokens_of q.after =
    ap tokens_of (one_spelling 0 text us x.tokens z x.spelled ∙ q.split) ∙ tokens_at q.before q.after q.token q.number q.number_is in
    let e = sym d ∙ (w ∙ sym (append-nil (solution_tokens h lines))) in
    let l = inner_winner (tokens_of q.before) (tokens_of q.after) q.number h lines [] q.expected o (omega arith) (λ us g. cc g) e in
    omega (arith, l, q.wrong)

lines_of : (text : List ℕ) (ls ks : List WrittenSolutionLine) → SpellsSolution text ls → SpellsSolution text ks → ls ≡ ks
lines_of text ls ks a b =
    let o = one_spelling 0 text a.tokens b.tokens a.spelled b.spelled in
    one_lines (tokens_of a.tokens) ls ks a.grammar (subst (λ ts. IsSolutionText (tokens_of ts) ks) (sym o) b.grammar)

-- two answers on the same lines
differ : (text : List ℕ) (ls ks : List WrittenSolutionLine) (x : ℕ) (what : List WrittenSolutionLine → Option ℕ) → SpellsSolution text ls
    → SpellsSolution text ks
    → what ls ≡ Some x → what ks ≡ None → ⊥
differ text ls ks x what s z a b = let k : Some x ≡ None = sym a ∙ (ap what (lines_of text ls ks s z) ∙ b) in cc k

agree : (text : List ℕ) (ls ks : List WrittenSolutionLine) (x y : ℕ) (what : List WrittenSolutionLine → Option ℕ) → SpellsSolution text ls
    → SpellsSolution text ks
    → what ls ≡ Some x → what ks ≡ Some y → x ≡ y
agree text ls ks x y what s z a b = let k : Some x ≡ Some y = sym a ∙ (ap what (lines_of text ls ks s z) ∙ b) in cc k

-- the stages of reading: tokens, grammar, numbers, winners, strangers, lines given twice, and missing ones
abbrev stage : SolutionTextFault → ℕ
stage Memory = 0
stage (Lexical x) = 0
stage (Syntax x) = 1
stage (Number x) = 2
stage (Winner x) = 3
stage (Stranger x) = 4
stage (Twice x) = 5
stage (Missing x) = 6

abbrev Passed : Graph → List ℕ → ℕ → Type 0
Passed g text zero = Unit {0}
Passed g text (suc zero) = (ts : List Placed) × Spells 0 text ts
Passed g text (suc (suc zero)) = (ts : List Placed) × Spells 0 text ts × IsSomeSolutionText (tokens_of ts)
Passed g text (suc (suc (suc zero))) = (ts : List Placed) × Spells 0 text ts × IsSomeSolutionText (tokens_of ts) × AllFit (tokens_of ts)
Passed g text (suc (suc (suc (suc zero)))) = (ls : List WrittenSolutionLine) × SpellsSolution text ls
Passed g text (suc (suc (suc (suc (suc zero))))) = (ls : List WrittenSolutionLine) × SpellsSolution text ls × (first_stranger g ls ≡ None)
Passed g text (suc (suc (suc (suc (suc (suc zero)))))) =
    (ls : List WrittenSolutionLine) × SpellsSolution text ls × (first_stranger g ls ≡ None) × (first_twice ls ≡ None)
Passed g text n =
    (ls : List WrittenSolutionLine) × SpellsSolution text ls × (first_stranger g ls ≡ None) × (first_twice ls ≡ None) × (first_missing g ls ≡ None)

before : (g : Graph) (text : List ℕ) (n : ℕ) → Passed g text (suc n) → Passed g text n
before g text zero p = tt
before g text (suc zero) (ts, s, i) = (ts, s)
before g text (suc (suc zero)) (ts, s, i, f) = (ts, s, i)
before g text (suc (suc (suc zero))) (ls, s) = (s.tokens, s.spelled, (ls, s.grammar), s.numbers)
before g text (suc (suc (suc (suc zero)))) (ls, s, r) = (ls, s)
before g text (suc (suc (suc (suc (suc zero))))) (ls, s, r, t) = (ls, s, r)
before g text (suc (suc (suc (suc (suc (suc zero)))))) (ls, s, r, t, m) = (ls, s, r, t)
before g text _ p = p

passed : (g : Graph) (text : List ℕ) (e : SolutionTextFault) → IsSolutionFaultOf g text e → Passed g text (stage e)
passed g text x2 r = search (rules)

stopped : (g : Graph) (text : List ℕ) (e : SolutionTextFault) → IsSolutionFaultOf g text e → Passed g text (suc (stage e)) → e ≡ Memory
stopped g text Memory a p = refl
stopped g text (Lexical x) a (ts, s) = absurd (lexical_or_tokens text x ts a s)
stopped g text (Syntax x) a (ts, s, i) = absurd (syntax_or_grammar BeginsSolutionText IsSomeSolutionText solution_prefix solution_begins text x ts a s i)
stopped g text (Number x) a (ts, s, i, f) = absurd (number_or_fit IsSomeSolutionText text x ts a s f)
stopped g text (Winner x) a (ls, s) = absurd (winner_or_lines text x s.tokens ls a s.spelled s.grammar s.winners)
stopped g text (Stranger x) (ks, z, q) (ls, s, n) = absurd (differ text ks ls x (first_stranger g) z s q n)
stopped g text (Twice x) (ks, z, n1, q) (ls, s, n, t) = absurd (differ text ks ls x first_twice z s q t)
stopped g text (Missing x) (ks, z, n1, n2, q) (ls, s, n, t, m) = absurd (differ text ks ls x (first_missing g) z s q m)

-- two faults of one stage
same : (g : Graph) (text : List ℕ) (e f : SolutionTextFault) → stage e ≡ stage f → IsSolutionFaultOf g text e → IsSolutionFaultOf g text f
    → (e ≡ Memory) ⊎ ((f ≡ Memory) ⊎ (e ≡ f))
same g text Memory f i a b = inl refl
same g text e Memory i a b = inr (inl refl)
same g text (Lexical x) (Lexical y) i a b = inr (inr (ap Lexical (lexical_once text x y a b)))
same g text (Syntax x) (Syntax y) i a b = inr (inr (ap Syntax (syntax_once BeginsSolutionText IsSomeSolutionText solution_prefix text x y a b)))
same g text (Number x) (Number y) i a b = inr (inr (ap Number (number_once IsSomeSolutionText text x y a b)))
same g text (Winner x) (Winner y) i a b = inr (inr (ap Winner (winner_once text x y a b)))
same g text (Stranger x) (Stranger y) i (ls, s, r) (ks, z, q) = inr (inr (ap Stranger (agree text ls ks x y (first_stranger g) s z r q)))
same g text (Twice x) (Twice y) i (ls, s, n, r) (ks, z, m, q) = inr (inr (ap Twice (agree text ls ks x y first_twice s z r q)))
same g text (Missing x) (Missing y) i (ls, s, n1, n2, r) (ks, z, m1, m2, q) = inr (inr (ap Missing (agree text ls ks x y (first_missing g) s z r q)))
same g text _ _ i a b = absurd (omega (arith, i))

pub one_solution_fault : OneSolutionFault
one_solution_fault g text =
    one_fault_of (Passed g text) (before g text) Memory stage (IsSolutionFaultOf g text) (passed g text) (stopped g text) (same g text)

pub solution_text_or_fault : SolutionTextOrFault
solution_text_or_fault g text rows e t b =
    search (rules, t.lines, t.spelled, t.says.no_stranger, t.says.once, t.says.complete, no_fault, before, passed, stopped)
