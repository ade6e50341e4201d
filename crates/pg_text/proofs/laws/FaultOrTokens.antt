-- Each text is at fault in one place or spells tokens, and not both.
use Rattle.pg_text.proofs.Common.{◌≡◌, ℕ, zero, suc, ◌+◌, ◌≤◌, ◌<◌, Bool, true, false, ◌⊎◌, inl, inr, List, [], ◌∷◌, ◌++◌, length, refl, sym, ◌∙◌, ap, subst}
use Rattle.pg_text.proofs.Common.{arith, append_assoc, length-append, rules, ◌==◌, nat_tests, append-nil, Token, Number, Word, Name, Comma, Semicolon}
use Rattle.pg_text.proofs.Common.{IsSpelling, IsWhole, Placed, Begins, Spells, is_blank, is_digit, is_letter, is_no_quote, begins_token, AllAre, EndsRun}
use Rattle.pg_text.proofs.Common.{value_of, IsLexicalFault}
use Rattle.pg_text.specs.Laws.{TokensOrLexical}
use Rattle.pg_text.proofs.laws.UniqueTokens.{run_unique, byte_kind, kind_of, head, one_front, not_blank}

abbrev pub Wrong : ℕ → List ℕ → Type 0
Wrong b after = (begins_token b ≡ false) ⊎ ((b ≡ 34) × AllAre is_no_quote after)

-- a byte that begins a token is not wrong
no_quote_in : (inner more : List ℕ) → AllAre is_no_quote (inner ++ 34 ∷ more) → ⊥
no_quote_in [] more a = cc a.0
no_quote_in (x ∷ xs) more a = no_quote_in xs more a.1

kind_begins : (b : ℕ) → byte_kind b < 5 → begins_token b ≡ true
kind_begins b h = grind (arith, nat_tests)

quote_name : (t : Token) → kind_of t ≡ 2 → (inner : List ℕ) × (t ≡ Name inner)
quote_name x0 e = search (rules)

-- no token begins where a byte is wrong
no_token : (t : Token) (b : ℕ) (after body rest : List ℕ) → Wrong b after → IsSpelling t body → b ∷ after ≡ body ++ rest → ⊥
no_token t b after body rest (inl f) s e =
    let h = head t body rest s in
    let k : b ≡ h.0 = cc (e, h.2) in
    let m : byte_kind b ≡ kind_of t = ap byte_kind k ∙ h.3 in
    let x : begins_token b ≡ true = kind_begins b (subst (λ n. n < 5) (sym m) (search rules)) in
    cc (x, f)
no_token t b after body rest (inr (q, a)) s e =
    let h = head t body rest s in
    let k : b ≡ h.0 = cc (e, h.2) in
    let m : byte_kind 34 ≡ kind_of t = ap byte_kind (sym q ∙ k) ∙ h.3 in
    let n = quote_name t (sym m) in
    let s' : IsSpelling (Name n.0) body = subst (λ x. IsSpelling x body) n.1 s in
    let f : b ∷ after ≡ 34 ∷ ((n.0 ++ 34 ∷ []) ++ rest) = e ∙ ap (λ xs. xs ++ rest) s'.1 in
    let g : after ≡ n.0 ++ (34 ∷ rest) = let i : after ≡ (n.0 ++ 34 ∷ []) ++ rest = cc f in i ∙ append_assoc n.0 (34 ∷ []) rest in
    no_quote_in n.0 rest (subst (AllAre is_no_quote) g a)

extend : (place : ℕ) (text : List ℕ) (t : Placed) (bl bo re after : List ℕ) (b : ℕ) (before : List ℕ) → Wrong b after
    → Begins place before t bl bo re → text ≡ before ++ b ∷ after → Begins place text t bl bo (re ++ b ∷ after)
extend place text t bl bo re after b before w h e = search (rules, h.split, append_assoc, h.blank, h.placed, h.spelled, nat_tests, t.token, h.whole)

-- a text with a wrong byte after tokens spells no tokens
stuck : (place : ℕ) (text before after : List ℕ) (b : ℕ) (ts us : List Placed) → Spells place before ts → is_blank b ≡ false
    → Wrong b after → text ≡ before ++ b ∷ after → Spells place text us → ⊥
stuck place text before after b [] [] s f w e z =
    let r = run_unique is_blank text before [] (b ∷ after) z s tt f (append-nil text ∙ e) in
    cc r.1
stuck place text before after b [] (u ∷ us) s f w e (cl, co, se, c, q) =
    let k = head u.token co se c.spelled in
    let r = run_unique is_blank before cl (b ∷ after) (co ++ se) s c.blank f (rw k.2 k.4) (sym e ∙ c.split) in
    no_token u.token b after co se w c.spelled r.1
stuck place text before after b (t ∷ ts) [] (bl, bo, re, h, r) f w e z =
    let x = extend place text t bl bo re after b before w h e in
    not_blank t.token text bl bo (re ++ b ∷ after) z x.blank x.spelled x.split
stuck place text before after b (t ∷ ts) (u ∷ us) (bl, bo, re, h, r) f w e (cl, co, se, c, q) =
    let o = one_front place text t u bl bo (re ++ b ∷ after) cl co se (extend place text t bl bo re after b before w h e) c in
    let n : place + length cl + length co ≡ place + length bl + length bo = cc (o.1, o.2) in
    let q' : Spells (place + length bl + length bo) se us = subst (λ m. Spells m se us) n q in
    stuck (place + length bl + length bo) se re after b ts us r f w (sym o.3) q'

-- two wrong bytes after tokens are the same
same_wrong : (place : ℕ) (text b1 a1 b2 a2 : List ℕ) (x y : ℕ) (ts us : List Placed) → Spells place b1 ts → Spells place b2 us
    → is_blank x ≡ false → is_blank y ≡ false → Wrong x a1 → Wrong y a2 → text ≡ b1 ++ x ∷ a1 → text ≡ b2 ++ y ∷ a2 → b1 ≡ b2
same_wrong place text b1 a1 b2 a2 x y [] [] s z f g w v e d = (run_unique is_blank b1 b2 (x ∷ a1) (y ∷ a2) s z f g (sym e ∙ d)).0
same_wrong place text b1 a1 b2 a2 x y [] (u ∷ us) s (cl, co, se, c, q) f g w v e d =
    let k = head u.token co (se ++ y ∷ a2) c.spelled in
    let r = run_unique is_blank b1 cl (x ∷ a1) (co ++ (se ++ y ∷ a2)) s c.blank f (rw k.2 k.4) (sym e ∙ (extend place text u cl co se a2 y b2 v c d).split) in
    absurd (no_token u.token x a1 co (se ++ y ∷ a2) w c.spelled r.1)
same_wrong place text b1 a1 b2 a2 x y (t ∷ ts) [] (bl, bo, re, h, r) z f g w v e d =
    let k = head t.token bo (re ++ x ∷ a1) h.spelled in
    let m = run_unique is_blank b2 bl (y ∷ a2) (bo ++ (re ++ x ∷ a1)) z h.blank g (rw k.2 k.4) (sym d ∙ (extend place text t bl bo re a1 x b1 w h e).split) in
    absurd (no_token t.token y a2 bo (re ++ x ∷ a1) v h.spelled m.1)
same_wrong place text b1 a1 b2 a2 x y (t ∷ ts) (u ∷ us) (bl, bo, re, h, r) (cl, co, se, c, q) f g w v e d =
    let c' = extend place text u cl co se a2 y b2 v c d in
    let o = one_front place text t u bl bo (re ++ x ∷ a1) cl co (se ++ y ∷ a2) (extend place text t bl bo re a1 x b1 w h e) c' in
    let n : place + length cl + length co ≡ place + length bl + length bo = cc (o.1, o.2) in
    let q' : Spells (place + length bl + length bo) se us = subst (λ m. Spells m se us) n q in
    let i : re ≡ se = same_wrong (place + length bl + length bo) (re ++ x ∷ a1) re a1 se a2 x y ts us r q' f g w v refl o.3 in
    h.split ∙ (cc (o.1, o.2, i) ∙ sym c.split)

pub lexical_once : (text : List ℕ) (a b : ℕ) → IsLexicalFault text a → IsLexicalFault text b → a ≡ b
lexical_once text a b f g =
    let e : f.before ≡ g.before =
    same_wrong 0 text f.before f.after g.before g.after f.byte g.byte f.tokens g.tokens f.spelled g.spelled f.solid g.solid f.wrong g.wrong f.split
    g.split in
    f.placed ∙ (ap length e ∙ sym g.placed)

pub lexical_or_tokens : (text : List ℕ) (a : ℕ) (ts : List Placed) → IsLexicalFault text a → Spells 0 text ts → ⊥
lexical_or_tokens text a ts f s = stuck 0 text f.before f.after f.byte f.tokens ts f.spelled f.solid f.wrong f.split s

-- a text spells tokens or has a wrong byte
pub record Stop (place : ℕ) (text : List ℕ) : Type 0 where
  pub before : List ℕ
  pub byte : ℕ
  pub after : List ℕ
  pub tokens : List Placed
  pub split : text ≡ before ++ byte ∷ after
  pub spelled : Spells place before tokens
  pub solid : is_blank byte ≡ false
  pub wrong : Wrong byte after

abbrev pub Lexed : ℕ → List ℕ → Type 0
Lexed place text = ((ts : List Placed) × Spells place text ts) ⊎ Stop place text

abbrev Run : (ℕ → Bool) → List ℕ → Type 0
Run test text = (xs ys : List ℕ) × (text ≡ xs ++ ys) × AllAre test xs × EndsRun test ys

run_cons : (test : ℕ → Bool) (x : ℕ) (xs : List ℕ) (b : Bool) → test x ≡ b → Run test xs → Run test (x ∷ xs)
run_cons test x xs true e (f, r, s, a, n) = (x ∷ f, r, ap (λ l. x ∷ l) s, (e, a), n)
run_cons test x xs false e r = ([], x ∷ xs, refl, tt, e)

run_of : (test : ℕ → Bool) (xs : List ℕ) → Run test xs
run_of test [] = ([], [], refl, tt, tt)
run_of test (x ∷ xs) = run_cons test x xs (test x) refl (run_of test xs)

-- a token at the front, and what follows it
token_first : (place : ℕ) (text bl bo ys : List ℕ) (t : Token) → text ≡ bl ++ (bo ++ ys) → AllAre is_blank bl → IsSpelling t bo → IsWhole t ys
    → Lexed (place + length bl + length bo) ys → Lexed place text
token_first place text bl bo ys t e a s w (inl (ts, z)) =
    inl (record { token = t; place = place + length bl } ∷ ts, (bl, bo, ys, record { split = e; blank = a; placed = refl; spelled = s; whole = w }, z))
token_first place text bl bo ys t e a s w (inr st) = inr (record {
  before = bl ++ (bo ++ st.before);
  byte = st.byte;
  after = st.after;
  tokens = record { token = t; place = place + length bl } ∷ st.tokens;
  split = e ∙ (ap (λ l. bl ++ (bo ++ l)) st.split ∙
      (ap (λ l. bl ++ l) (sym (append_assoc bo st.before (st.byte ∷ st.after))) ∙ sym (append_assoc bl (bo ++ st.before) (st.byte ∷ st.after))));
  spelled = (
    bl,
    bo,
    st.before,
    record {
      split =
          refl;
      blank = a;
      placed = refl;
      spelled = s;
      whole = search rules;
    },
    st.spelled,
  );
  solid = st.solid;
  wrong = st.wrong;
})

stop_here : (place : ℕ) (text bl after : List ℕ) (b : ℕ) → text ≡ bl ++ b ∷ after → AllAre is_blank bl → is_blank b ≡ false → Wrong b after → Lexed place text
stop_here place text bl after b e a f w = inr (record { before = bl; byte = b; after = after; tokens = []; split = e; spelled = a; solid = f; wrong = w })

plain_not : (b : ℕ) → is_no_quote b ≡ false → b ≡ 34
plain_not b h = grind (arith, nat_tests)

abbrev Rec : ℕ → Type 0
Rec n = (place : ℕ) (ys : List ℕ) → length ys ≤ n → Lexed place ys

eq_is : (b n : ℕ) → (b == n) ≡ true → b ≡ n
eq_is b n h = grind (arith, nat_tests)

module _ (n place : ℕ) (text bl rest : List ℕ) (b : ℕ) (h : length text ≤ suc n) (e : text ≡ bl ++ b ∷ rest) (a : AllAre is_blank bl) (rec : Rec n) where
  -- a token of the byte and some that follow
  with_token : (t : Token) (xs ys : List ℕ) → rest ≡ xs ++ ys → IsSpelling t (b ∷ xs) → IsWhole t ys → Lexed place text
  with_token t xs ys s k w =
      let e' : text ≡ bl ++ ((b ∷ xs) ++ ys) = e ∙ ap (λ l. bl ++ b ∷ l) s in
      let later = rec (place + length bl + length (b ∷ xs)) ys (omega (arith, ap length e', length-append bl ((b ∷ xs) ++ ys), length-append (b ∷ xs) ys)) in
      token_first place text bl (b ∷ xs) ys t e' a k w later

  from_digits : is_digit b ≡ true → Run is_digit rest → Lexed place text
  from_digits d (xs, ys, s, k, end) = with_token (Number (value_of (b ∷ xs))) xs ys s (omega arith, (d, k), refl) end

  from_letters : is_letter b ≡ true → Run is_letter rest → Lexed place text
  from_letters d (xs, ys, s, k, end) = with_token (Word (b ∷ xs)) xs ys s (omega arith, (d, k), refl) end

  from_quote : b ≡ 34 → Run is_no_quote rest → Lexed place text
  from_quote q (xs, [], s, k, end) = stop_here place text bl rest b e a (rw q refl) (inr (q, subst (AllAre is_no_quote) (sym (append-nil xs) ∙ sym s) k))
  from_quote q (xs, y ∷ ys, s, k, end) =
      let s' : rest ≡ (xs ++ 34 ∷ []) ++ ys = s ∙ (ap (λ z. xs ++ z ∷ ys) (plain_not y end) ∙ sym (append_assoc xs (34 ∷ []) ys)) in
      with_token (Name xs) (xs ++ 34 ∷ []) ys s' (k, ap (λ z. z ∷ (xs ++ 34 ∷ [])) q) tt

  from_byte : is_blank b ≡ false → (d l q c s : Bool) → is_digit b ≡ d → is_letter b ≡ l → (b == 34) ≡ q → (b == 44) ≡ c → (b == 59) ≡ s → Lexed place text
  from_byte f true l q c s ed el eq ec es = from_digits ed (run_of is_digit rest)
  from_byte f false true q c s ed el eq ec es = from_letters el (run_of is_letter rest)
  from_byte f false false true c s ed el eq ec es = from_quote (eq_is b 34 eq) (run_of is_no_quote rest)
  from_byte f false false false true s ed el eq ec es = with_token Comma [] rest refl (ap (λ z. z ∷ []) (eq_is b 44 ec)) tt
  from_byte f false false false false true ed el eq ec es = with_token Semicolon [] rest refl (ap (λ z. z ∷ []) (eq_is b 59 es)) tt
  from_byte f false false false false false ed el eq ec es = stop_here place text bl rest b e a f (inl (grind (arith, nat_tests)))

from_blanks : (n place : ℕ) (text : List ℕ) → length text ≤ suc n → Rec n → Run is_blank text → Lexed place text
from_blanks n place text h rec (xs, [], s, k, end) = inl ([], subst (AllAre is_blank) (sym (append-nil xs) ∙ sym s) k)
from_blanks n place text h rec (xs, b ∷ ys, s, k, end) =
    from_byte n place text xs ys b h s k rec end (is_digit b) (is_letter b) (b == 34) (b == 44) (b == 59) refl refl refl refl refl

lexed : (n place : ℕ) (text : List ℕ) → length text ≤ n → Lexed place text
lexed zero place [] h = inl ([], tt)
lexed zero place (x ∷ xs) h = absurd (omega arith)
lexed (suc n) place text h = from_blanks n place text h (lexed n) (run_of is_blank text)

-- every text spells tokens or has a lexical fault
pub tokens_or_lexical : TokensOrLexical
tokens_or_lexical text = elim (lexed (length text) 0 text (omega arith)) [
  | inl z ↦ inl z
  | inr st ↦ inr (
    length st.before,
    record {
      before = st.before;
      byte = st.byte;
      after = st.after;
      tokens = st.tokens;
      split = st.split;
      placed = refl;
      spelled = st.spelled;
      solid = st.solid;
      wrong = st.wrong;
    },
  )
]
