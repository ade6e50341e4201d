-- What is known of a solution text goes on, a token at a time.
use Rattle.pg_text.proofs.Common.{◌≡◌, ℕ, zero, suc, ◌<◌, ◌≤◌, Bool, true, List, [], ◌∷◌, ◌++◌, refl, sym, ◌∙◌, ap, subst, arith, rules, map, flat_map}
use Rattle.pg_text.proofs.Common.{append_assoc, append-nil, IfSome, Player, digit_of, SolutionLine, Token, TokenKind, kind_of, Number, Word, Semicolon}
use Rattle.pg_game.specs.Player.{of_digit}
use Rattle.pg_text.proofs.Common.{WrittenSolutionLine, solution_tokens, IsSolutionText, IsBeforeWinner, BeginsSolutionText, IsSomeSolutionText, line_of, ◌⊎◌, inl, inr}
use Rattle.std.proofs.Common.{Option, Some, None}
use Rattle.std.proofs.lemmas.Grind.{flat_map-append}
use Rattle.pg_text.specs.SolutionText.{solution_line_tokens}
use Rattle.pg_text.specs.declared.reader.State.{State}
use Rattle.pg_text.specs.declared.lexer.TokenKind.TheVariants as kind
use Rattle.pg_text.specs.declared.reader.State.TheVariants.{Start, HeadWord, HeadNumber, Headed, Ready, Id, Player as Winner, Vertex}
use Rattle.pg_text.specs.private.SolutionReads.{AreWinners, begun, Leads, Agrees, SaysLines}
use Rattle.pg_text.specs.private.Machine.{number_of, run, Read, Stops}
use Rattle.pg_text.specs.private.Tables.{solution_table as table}
use Rattle.pg_text.proofs.laws.ExclusiveFaults.{solution_begins}
use Rattle.pg_text.proofs.reader.Machine.{lines_after, word_cases, pushed, leads_in, goes_on, stops_at}

-- the line begun, after a token that leads to the state
abbrev part_after : State → Token → WrittenSolutionLine → WrittenSolutionLine
part_after Id t l = record l { id = number_of t }
part_after Winner t l = record l { winner = number_of t; choice = None }
part_after Vertex t l = record l { choice = Some (number_of t) }
part_after s t l = l

-- every text leads to a state where it may end
run-line : (l : WrittenSolutionLine) (more : List Token) → run table (Some Ready) (solution_line_tokens l ++ more) ≡ run table (Some Ready) more
run-line l more = go l.choice
  where
    go : (c : Option ℕ) → run table (Some Ready) (solution_line_tokens (record l { choice = c }) ++ more) ≡ run table (Some Ready) more
    go None = refl
    go (Some n) = refl

run-lines : (lines : List WrittenSolutionLine) → run table (Some Ready) (flat_map solution_line_tokens lines) ≡ Some Ready
run-lines [] = refl
run-lines (l ∷ lines) = run-line l (flat_map solution_line_tokens lines) ∙ run-lines lines

abbrev IsLast : State → Type 0
IsLast s = (s ≡ Start) ⊎ ((s ≡ Headed) ⊎ (s ≡ Ready))

run-text : (h : Option ℕ) (lines : List WrittenSolutionLine) → (s : State) × (run table (Some Start) (solution_tokens h lines) ≡ Some s) × IsLast s
run-text None [] = (Start, refl, inl refl)
run-text (Some n) [] = (Headed, refl, inr (inl refl))
run-text None (l ∷ lines) = (Ready, run-lines (l ∷ lines), inr (inr refl))
run-text (Some n) (l ∷ lines) = (Ready, run-lines (l ∷ lines), inr (inr refl))

accepts : (ts : List Token) → IsSomeSolutionText ts → (s : State) × (run table (Some Start) ts ≡ Some s) × IsLast s
accepts ts (lines, (h, e)) = let (s, r, last) = run-text h lines in (s, ap (run table (Some Start)) e ∙ r, last)

-- one more line
closed : {ts : List Token} (done : List Token) (lines : List WrittenSolutionLine) (l : WrittenSolutionLine) → IsSolutionText done lines
    → ts ≡ done ++ solution_line_tokens l → IsSolutionText ts (lines ++ l ∷ [])
closed done lines l (h, w) e = (h, e ∙ search (rules, h, w, flat_map-append, append-nil, append_assoc))

-- one more token
pub leads_on : (from : State) (t : Token) (ts : List Token) (lines : List WrittenSolutionLine) (l : WrittenSolutionLine) → Leads from ts lines l
    → IfSome (table from (kind_of t)) (λ to. Leads to (ts ++ t ∷ []) (lines_after to l lines) (part_after to t l))
leads_on Start (Number n) ts lines l h = (ts, (None, rw h.1 h.0), tt, refl)
leads_on HeadWord (Number n) ts lines l h = (n, ap (λ us. us ++ Number n ∷ []) h.0, h.1)
leads_on HeadNumber Semicolon ts lines l h = (Some h.0, rw h.2 (ap (λ us. us ++ Semicolon ∷ []) h.1))
leads_on Headed (Number n) ts lines l h = (ts, h, tt, refl)
leads_on Ready (Number n) ts lines l h = (ts, h, tt, refl)
leads_on Id (Number n) ts lines l (done, w, b, e) = (done, w, refl, pushed done (begun Id l) (Number n) e)
leads_on Winner (Number n) ts lines l (done, w, b, e) = (done, w, tt, pushed done (begun Winner l) (Number n) e ∙ search (rules, b))
leads_on Winner Semicolon ts lines l (done, w, b, e) = closed done lines l w (pushed done (begun Winner l) Semicolon e)
leads_on Vertex Semicolon ts lines l (done, w, b, e) = closed done lines l w (pushed done (begun Vertex l) Semicolon e)
leads_on Start (Word w) ts lines l h =
    word_cases w (λ x. IfSome (table Start x) (λ to. Leads to (ts ++ Word w ∷ []) (lines_after to l lines) (part_after to (Word w) l)))
    (λ e. tt) (λ e. (cc (e, h.0), h.1)) (λ e. tt) tt
leads_on _ _ ts lines l h = search (rules)

-- a text can go on from every state
begins_line : {ts done : List Token} (lines : List WrittenSolutionLine) (l : WrittenSolutionLine) (b more : List Token) → IsSolutionText done lines
    → ts ≡ done ++ b → b ++ more ≡ solution_line_tokens l → BeginsSolutionText ts
begins_line {done = done} lines l b more w e f =
    (more, lines ++ l ∷ [], closed done lines l w (ap (λ us. us ++ more) e ∙ (append_assoc done b more ∙ ap (λ us. done ++ us) f)))

begins : (s : State) (ts : List Token) (lines : List WrittenSolutionLine) (l : WrittenSolutionLine) → Leads s ts lines l → BeginsSolutionText ts
begins Start ts lines l h = solution_begins ts ([], (None, h.0))
begins HeadWord ts lines l h = (Number 0 ∷ Semicolon ∷ [], [], (Some 0, ap (λ us. us ++ Number 0 ∷ Semicolon ∷ []) h.0))
begins HeadNumber ts lines l h = (Semicolon ∷ [], [], (Some h.0, ap (λ us. us ++ Semicolon ∷ []) h.1))
begins Headed ts lines l h = solution_begins ts (lines, h)
begins Ready ts lines l h = solution_begins ts (lines, h)
begins Id ts lines l (done, w, b, e) =
    begins_line lines (record { id = l.id; winner = 0; choice = None }) (begun Id l) (Number 0 ∷ Semicolon ∷ []) w e refl
begins Winner ts lines l (done, w, b, e) = begins_line lines l (begun Winner l) (Semicolon ∷ []) w e refl
begins Vertex ts lines l (done, w, b, e) = begins_line lines l (begun Vertex l) (Semicolon ∷ []) w e refl
begins _ ts lines l h = absurd h.2

pub other_kind : (s : State) (k : TokenKind) → ((n : ℕ) → k ≡ kind.Number n → ⊥) → (k ≡ kind.Paritysol → ⊥) → (k ≡ kind.Semicolon → ⊥) → table s k ≡ None
other_kind x0 x1 a b c = search (rules)

winner_next : (s : State) (k : TokenKind) → table s k ≡ Some Winner → s ≡ Id
winner_next x0 x1 e = search (rules)

digit_is : (n : ℕ) → n ≤ 1 → digit_of (of_digit n) ≡ n
digit_is zero h = refl
digit_is (suc zero) h = refl
digit_is (suc (suc n)) h = absurd (omega arith)

pub owner_small : (p : Player) → digit_of p < 2
owner_small x0 = search (rules)

pub are_winners : (lines : List SolutionLine) → AreWinners (map line_of lines)
are_winners [] = tt
are_winners (l ∷ lines) = (owner_small l.winner, are_winners lines)

-- a winner, where it is 0 or 1
pub winner_is : {n value : ℕ} → value ≡ n → value < 2 → digit_of (of_digit value) ≡ n
winner_is {n} {value} e h = digit_is value (omega (arith, h)) ∙ e

module _ {sound : Bool} {ts : List Token} {s : State} {Holds : List WrittenSolutionLine → WrittenSolutionLine → Type 0}
    (k : Read table Leads sound ts s Holds) where
  text_begins : BeginsSolutionText ts
  text_begins = begins s ts k.lines k.part k.leads

  pub stops : (t : Token) → table s (kind_of t) ≡ None → Stops BeginsSolutionText ts t
  stops t e =
      stops_at k {Begins = BeginsSolutionText} {IsText = IsSomeSolutionText} (λ us (more, lines, i). (more, (lines, i)))
      (λ us i. let (q, r, last) = accepts us i in (q, r)) t e text_begins

  pub on : (t : Token) {to : State} (q : State) {Later : List WrittenSolutionLine → WrittenSolutionLine → Type 0} → to ≡ q → table s (kind_of t) ≡ Some to
      → (sound ≡ true → Holds k.lines k.part → Later (lines_after q k.part k.lines) (part_after q t k.part)) → Read table Leads sound (ts ++ t ∷ []) to Later
  on t q is e a = goes_on k part_after leads_on t q is e a

  text_in : IsLast s → IsSolutionText ts k.lines
  text_in (inl e) = let h = leads_in k e in (None, rw h.1 h.0)
  text_in (inr (inl e)) = leads_in k e
  text_in (inr (inr e)) = leads_in k e

  pub complete : IsLast s → IsSomeSolutionText ts
  complete e = (k.lines, text_in e)

  last : IsSomeSolutionText ts → IsLast s
  last i = let (q, r, l) = accepts ts i in let e : Some q ≡ Some s = sym r ∙ k.ran in subst IsLast (cc e) l

  pub not_complete : (IsLast s → ⊥) → BeginsSolutionText ts × (IsSomeSolutionText ts → ⊥)
  not_complete n = (text_begins, λ i. n (last i))

  pub says : {held : List WrittenSolutionLine} → sound ≡ true → (Holds k.lines k.part → held ≡ k.lines) → AreWinners held → IsSomeSolutionText ts
      → SaysLines ts held
  says u a winners i = record { grammar = subst (λ ls. IsSolutionText ts ls) (sym (a (k.agrees u))) (text_in (last i)); winners = winners }

  pub before_winner : (j : TokenKind) → AreWinners k.lines → table s j ≡ Some Winner → IsBeforeWinner ts
  before_winner j winners e =
      let (done, (h, w), b, f) = leads_in k (winner_next s j e) in
      record { header = h; earlier = k.lines; id = k.part.id; winners = winners; tokens = f ∙ ap (λ us. us ++ begun Id k.part) w }

pub reads_none : (held : List WrittenSolutionLine) (id winner : ℕ) (choice : Option ℕ) → held ≡ [] → id ≡ 0 → winner ≡ 0 → choice ≡ None
    → Read table Leads true [] Start (λ lines l. Agrees lines l held id winner choice)
reads_none held id winner choice e a b c = record {
  lines = [];
  part = record { id = 0; winner = 0; choice = None };
  ran = refl;
  leads = (refl, refl);
  agrees = λ u. record { lines_are = e; id_is = a; winner_is = b; choice_is = c };
}
