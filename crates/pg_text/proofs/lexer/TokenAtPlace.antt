-- The token at a place, from runs of bytes.
use Rattle.pg_text.proofs.Common.{◌≡◌, ℕ, ◌+◌, ◌-◌, ◌<◌, ◌≤◌, zero, suc, Bool, true, false, List, [], ◌∷◌, ◌++◌, length, drop, take, get_or, refl, sym, ◌∙◌, ap}
use Rattle.pg_text.proofs.Common.{subst, arith, ◌⊎◌, append_assoc, length-append, rules, Some, eqb-true, false_from_ne_true, drop_more, take-append-drop}
use Rattle.pg_text.proofs.Common.{TokenKind, Token, Number, Word, Name, IsSpelling, IsWhole, is_blank, is_digit, value_of, is_letter, is_no_quote}
use Rattle.pg_text.proofs.Common.{begins_token, AllAre, EndsRun, IsRun, IsToken, IsNoToken, IsLexemeOf}
use Rattle.std.proofs.Common.{length-drop}
use Rattle.memchr.specs.Find.{IsFirstByte, is_byte}
use Rattle.std.specs.Prelude.{not, ◌≢◌}
use Rattle.std.proofs.lemmas.Bool.{ne_eqb}
use Rattle.std.proofs.lemmas.List.{take_all, drop-drop, length-take-le, take_at}
use Rattle.pg_text.specs.Bytes.{is_quote}
use Rattle.pg_text.specs.private.Lexeme.{word_kind, IsWholeNumber}
use Rattle.pg_text.proofs.lexer.ByteRuns.{AllAre-append}
use Rattle.pg_text.proofs.reader.Machine.{word_cases}
use Rattle.pg_text.specs.declared.lexer.TokenKind.TheVariants as kind

module _ (text : List ℕ) (from : ℕ) (inside : from < length text) where
  -- a body that begins here is a token
  from_body : (t : Token) (to : ℕ) (body : List ℕ) → drop from text ≡ body ++ drop to text → to ≡ from + length body → IsSpelling t body
      → IsWhole t (drop to text) → IsToken text from from to t
  from_body t to body e n s w = grind (arith)

  -- a token of one byte
  pub byte_at : (t : Token) {b : ℕ} → get_or text from 0 ≡ b → IsSpelling t (b ∷ []) → IsWhole t (drop (from + 1) text) → IsToken text from from (from + 1) t
  byte_at t {b} e s w = from_body t (from + 1) (b ∷ []) (drop_more text from 0 inside ∙ ap (λ a. a ∷ drop (from + 1) text) e) refl s w

  pub number_at : {to value : ℕ} → IsWholeNumber text from to value → is_digit (get_or text from 0) ≡ true
      → IsLexemeOf (kind.Number value) text from from to
  number_at {to} n d =
      let (run, r, e) = n.run in
      let i = from_body (Number (value_of run)) to run r.split r.end (search (rules, drop_more), r.passes, refl) n.ends in
      (Number (value_of run), i, ap (λ v. kind.Number v) e)

  pub word_at : (to : ℕ) (run : List ℕ) → IsRun is_letter text from to run → is_letter (get_or text from 0) ≡ true → EndsRun is_letter (drop to text)
      → IsToken text from from to (Word run)
  word_at to run r p e = from_body (Word run) to run r.split r.end (search (rules, drop_more), r.passes, refl) e

  pub nothing_at : is_blank (get_or text from 0) ≡ false
      → ((begins_token (get_or text from 0) ≡ false) ⊎ ((get_or text from 0 ≡ 34) × AllAre is_no_quote (drop (from + 1) text))) → IsNoToken text from from
  nothing_at s w = record {
    blanks = [];
    byte = get_or text from 0;
    after = drop (from + 1) text;
    split = drop_more text from 0 inside;
    blank = tt;
    placed = omega arith;
    solid = s;
    wrong = w;
  }

  pub name_at : (inner : List ℕ) (to : ℕ) → get_or text from 0 ≡ 34 → AllAre is_no_quote inner → drop (from + 1) text ≡ inner ++ 34 ∷ drop to text
      → to ≡ from + length inner + 2 → IsToken text from from to (Name inner)
  name_at inner to q p e n = search (rules, from_body, drop_more, append_assoc, length-append)

-- a word is a lexeme of its kind
pub word_lexeme : {text : List ℕ} {at from to : ℕ} (letters : List ℕ) → IsToken text at from to (Word letters)
    → IsLexemeOf (word_kind letters) text at from to
word_lexeme {text} {at} {from} {to} letters i =
    word_cases letters (λ k. k ≡ word_kind letters → IsLexemeOf k text at from to) (λ e f. (Word letters, i, f)) (λ e f. (Word letters, i, f))
    (λ e f. (Word letters, i, f)) (λ f. (Word letters, i, f)) refl

-- no quote among the first bytes
pub plain_front : (hay : List ℕ) (k : ℕ) → ((j : ℕ) → j < k → is_quote (get_or hay j 0) ≡ true → ⊥) → AllAre is_no_quote (take k hay)
plain_front [] zero none = tt
plain_front [] (suc k) none = tt
plain_front (b ∷ hay) zero none = tt
plain_front (b ∷ hay) (suc k) none =
    (ap not (false_from_ne_true (is_quote b) (λ e. none 0 (omega arith) e)), plain_front hay k (λ j h. none (suc j) (omega arith)))

pub plain_all : (hay : List ℕ) → ((j : ℕ) → j < length hay → is_quote (get_or hay j 0) ≡ true → ⊥) → AllAre is_no_quote hay
plain_all hay none = subst (AllAre is_no_quote) (take_all (length hay) hay (omega arith)) (plain_front hay (length hay) none)

-- the bytes up to the first quote
pub quote_split : (text : List ℕ) (start k : ℕ) → k < length (drop start text) → is_quote (get_or (drop start text) k 0) ≡ true
    → drop start text ≡ take k (drop start text) ++ 34 ∷ drop (start + k + 1) text
quote_split text start k h q = search (rules, drop_more, eqb-true, drop-drop, take-append-drop)

-- a token after blanks
pub token_past : (text : List ℕ) (at from end to : ℕ) (run : List ℕ) (t : Token) → IsRun is_blank text at from run → IsToken text from end to t
    → IsToken text at end to t
token_past text at from end to run t r i = record {
  blanks = run ++ i.blanks;
  body = i.body;
  begins = record {
    split = r.split ∙ (ap (λ xs. run ++ xs) i.begins.split ∙ sym (append_assoc run i.blanks (i.body ++ drop to text)));
    blank = AllAre-append is_blank run i.blanks r.passes i.begins.blank;
    placed = let f = length-append run i.blanks in let p = i.begins.placed in let q = r.end in omega arith;
    spelled = i.begins.spelled;
    whole = i.begins.whole;
  };
  end = let f = length-append run i.blanks in let p = i.end in let q = r.end in omega arith;
}

pub lexeme_past : (k : TokenKind) (text : List ℕ) (at from end to : ℕ) (run : List ℕ) → IsRun is_blank text at from run → IsLexemeOf k text from end to
    → IsLexemeOf k text at end to
lexeme_past kind.End text at from end to run r i = subst (AllAre is_blank) (sym r.split) (AllAre-append is_blank run (drop from text) r.passes i)
lexeme_past kind.Invalid text at from end to run r i = record {
  blanks = run ++ i.blanks;
  byte = i.byte;
  after = i.after;
  split = r.split ∙ (ap (λ xs. run ++ xs) i.split ∙ sym (append_assoc run i.blanks (i.byte ∷ i.after)));
  blank = AllAre-append is_blank run i.blanks r.passes i.blank;
  placed = let f = length-append run i.blanks in let p = i.placed in let q = r.end in omega arith;
  solid = i.solid;
  wrong = i.wrong;
}
lexeme_past k text at from end to run r (t, i, e) = (t, token_past text at from end to run t r i, e)

-- it ends after the place, and within the text
pub token_ahead : (text : List ℕ) (at from to : ℕ) (t : Token) → IsToken text at from to t → (at < to) × (at ≤ length text → to ≤ length text)
token_ahead text at from to t i =
    let n : 0 < length i.body = search rules in
    let e = i.end in (
      omega arith,
      λ h.
          let f : length (drop at text) ≡ length (i.blanks ++ (i.body ++ drop to text)) = ap length i.begins.split in
          let g = length-append i.blanks (i.body ++ drop to text) in
          let k = length-append i.body (drop to text) in
          let p = length-drop at text in
          let q = length-drop to text in
          omega arith,
    )

-- a name, from the first quote after its first
pub name_found : (text hay : List ℕ) (from more : ℕ) → from < length text → get_or text from 0 ≡ 34 → hay ≡ drop (from + 1) text
    → IsFirstByte (is_byte 34) hay (Some more) → (x : List ℕ) × IsToken text from from (from + more + 2) (Name x)
name_found text hay from more h q e f =
    let g : IsFirstByte (is_byte 34) (drop (from + 1) text) (Some more) = subst (λ xs. IsFirstByte (is_byte 34) xs (Some more)) e f in
    let l : more < length (drop (from + 1) text) = g.0.high in
    let n : length (take more (drop (from + 1) text)) ≡ more = length-take-le more (drop (from + 1) text) (omega arith) in (
      take more (drop (from + 1) text),
      name_at text from h (take more (drop (from + 1) text)) (from + more + 2) q
          (plain_front (drop (from + 1) text) more (λ j k t. g.0.before j (omega arith) k t))
          (quote_split text (from + 1) more l g.1 ∙ ap (λ m. take more (drop (from + 1) text) ++ 34 ∷ drop m text) (omega arith))
          (omega arith),
    )

-- a byte that is none of those that begin a token
pub begins_none : (b : ℕ) → is_digit b ≡ false → is_letter b ≡ false → b ≢ 34 → b ≢ 44 → b ≢ 59 → begins_token b ≡ false
begins_none b d l q c s = search (rules, ne_eqb)

-- the bytes between the places are the run
pub run_bytes : {test : ℕ → Bool} {text : List ℕ} {from to : ℕ} {run : List ℕ} → IsRun test text from to run → take (to - from) (drop from text) ≡ run
run_bytes {text = text} {from} {to} {run} r =
    ap (take (to - from)) r.split ∙ take_at run (drop to text) (to - from) (let q = r.end in omega arith)
