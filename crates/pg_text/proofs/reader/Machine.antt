-- The machine that reads tokens, for every table.
use Rattle.pg_text.proofs.Common.{◌≡◌, ℕ, ◌<◌, Bool, true, false, List, [], ◌∷◌, ◌++◌, refl, sym, ◌∙◌, ap, append_assoc, codes, bytes_eq, bytes_eq-Decides, subst, IfSome, Token, Word, TokenKind, kind_of, value_in}
use Rattle.std.specs.Prelude.{cond}
use Rattle.std.specs.Bool.{Decides}
use Rattle.std.proofs.Common.{Option, Some, None}
use Rattle.pg_text.specs.declared.reader.State.{State}
use Rattle.pg_text.specs.declared.reader.State.TheVariants.{Start, Ready, Player}
use Rattle.pg_text.specs.declared.lexer.TokenKind.TheVariants as kind
use Rattle.pg_text.specs.private.Lexeme.{clipped, word_kind}
use Rattle.pg_text.specs.private.Machine.{Table, number_of, run, Read, Stops, Enters}

-- the whole lines, after a token that leads to the state
abbrev pub lines_after : {L : Type 0} → State → L → List L → List L
lines_after Ready l lines = lines ++ l ∷ []
lines_after s l lines = lines

module _ (letters : List ℕ) (P : TokenKind → Type 0) where
  decided : (word : List ℕ) (x y : TokenKind) → (letters ≡ word → P x) → P y → P (cond (bytes_eq letters word) x y)
  decided word x y f g = go (bytes_eq letters word) (bytes_eq-Decides letters word)
    where
      go : (b : Bool) → Decides b (letters ≡ word) → P (cond b x y)
      go true d = f (d.0 refl)
      go false d = g

  -- what holds of each kind of a word holds of that of the letters
  pub word_cases : (letters ≡ codes "parity" → P kind.Parity) → (letters ≡ codes "paritysol" → P kind.Paritysol)
      → (letters ≡ codes "start" → P kind.Start) → P kind.OtherWord → P (word_kind letters)
  word_cases a b c d =
      let last = cond (bytes_eq letters (codes "start")) kind.Start kind.OtherWord in
      decided (codes "parity") kind.Parity (cond (bytes_eq letters (codes "paritysol")) kind.Paritysol last) a
      (decided (codes "paritysol") kind.Paritysol last b (decided (codes "start") kind.Start kind.OtherWord c d))

-- the value that is read
pub value_read : (t : Token) → value_in (kind_of t) ≡ clipped (number_of t)
value_read (Word letters) = word_cases letters (λ k. value_in k ≡ 0) (λ e. refl) (λ e. refl) (λ e. refl) refl
value_read x0 = refl

-- one token more, after some that end with others
pub pushed : {ts : List Token} (done b : List Token) (t : Token) → ts ≡ done ++ b → ts ++ t ∷ [] ≡ done ++ (b ++ t ∷ [])
pushed done b t e = ap (λ us. us ++ t ∷ []) e ∙ append_assoc done b (t ∷ [])

run-append : (table : Table) (s : Option State) (ts us : List Token) → run table s (ts ++ us) ≡ run table (run table s ts) us
run-append table None ts us = refl
run-append table (Some s) [] us = refl
run-append table (Some s) (t ∷ ts) us = run-append table (table s (kind_of t)) ts us

module _ {L : Type 0} {table : Table} {Leads : State → List Token → List L → L → Type 0} {sound : Bool} {ts : List Token} {s : State}
    {Agrees : List L → L → Type 0} (k : Read table Leads sound ts s Agrees) where
  ran-push : {o : Option State} (t : Token) → table s (kind_of t) ≡ o → run table (Some Start) (ts ++ t ∷ []) ≡ run table o []
  ran-push t f = run-append table (Some Start) ts (t ∷ []) ∙ (ap (λ q. run table q (t ∷ [])) k.ran ∙ ap (λ q. run table q []) f)

  pub leads_in : {q : State} → s ≡ q → Leads q ts k.lines k.part
  leads_in e = subst (λ (r : State). Leads r ts k.lines k.part) e k.leads

  -- one more token, where the table has a state for it
  pub goes_on : (after : State → Token → L → L)
      → ((from : State) (t : Token) (ts : List Token) (lines : List L) (l : L) → Leads from ts lines l
      → IfSome (table from (kind_of t)) (λ to. Leads to (ts ++ t ∷ []) (lines_after to l lines) (after to t l)))
      → (t : Token) {to : State} (q : State) {Agrees' : List L → L → Type 0} → to ≡ q → table s (kind_of t) ≡ Some to
      → (sound ≡ true → Agrees k.lines k.part → Agrees' (lines_after q k.part k.lines) (after q t k.part)) → Read table Leads sound (ts ++ t ∷ []) to Agrees'
  goes_on after leads_on t {to} q {Agrees'} is e a =
      let f : table s (kind_of t) ≡ Some q = e ∙ ap (λ r. Some r) is in
      let h = leads_on s t ts k.lines k.part k.leads in
      subst (λ (r : State). Read table Leads sound (ts ++ t ∷ []) r Agrees') (sym is) (record {
        lines = lines_after q k.part k.lines;
        part = after q t k.part;
        ran = ran-push t f;
        leads = rw f at h;
        agrees = λ u. a u (k.agrees u);
      })

  -- a token for which the table has none begins no text, where every text leads to a state
  pub stops_at : {Begins IsText : List Token → Type 0} → ((ts : List Token) → Begins ts → (more : List Token) × IsText (ts ++ more))
      → ((ts : List Token) → IsText ts → (q : State) × (run table (Some Start) ts ≡ Some q)) → (t : Token) → table s (kind_of t) ≡ None → Begins ts
      → Stops Begins ts t
  stops_at begun accepts t f b = record {
    begins = b;
    stops = λ c.
        let (more, i) = begun (ts ++ t ∷ []) c in
        let (q, g) = accepts ((ts ++ t ∷ []) ++ more) i in
        let h : None ≡ Some q = sym (run-append table (Some Start) (ts ++ t ∷ []) more ∙ ap (λ r. run table r more) (ran-push t f)) ∙ g in
        cc h;
  }

-- no player may come where another state follows
pub entered : {R : Type 0} {Reads : Bool → List Token → State → R → Type 0} {IsBefore : List Token → Type 0} {sound : Bool} {ts : List Token} {t : Token}
    {to : State} {new : R} {value : ℕ} → (to ≡ Player → ⊥)
    → ((sound ≡ true → (value ≡ number_of t) × (to ≡ Player → value < 2)) → Reads sound (ts ++ t ∷ []) to new)
    → Enters Reads IsBefore sound ts t to new value
entered n r = record { reads = r; before = λ u p. absurd (n p) }
