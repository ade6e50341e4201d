-- A text spells at most one list of tokens.
use Rattle.pg_text.proofs.Common.{◌≡◌, ℕ, ◌+◌, Bool, true, false, List, [], ◌∷◌, ◌++◌, length, refl, sym, ◌∙◌, ap, subst, arith, append_assoc, rules, ◌==◌}
use Rattle.pg_text.proofs.Common.{if◌then◌else◌, nat_tests, append-nil, Token, Number, Word, Name, Comma, Semicolon, IsSpelling, IsWhole, Placed, Begins}
use Rattle.pg_text.proofs.Common.{Spells, is_blank, is_digit, is_letter, is_no_quote, AllAre, EndsRun}

-- where a run of passing bytes ends is determined
pub run_unique : (test : ℕ → Bool) (xs ys u v : List ℕ) → AllAre test xs → AllAre test ys → EndsRun test u → EndsRun test v → xs ++ u ≡ ys ++ v
    → (xs ≡ ys) × (u ≡ v)
run_unique test [] [] u v a b c d e = (refl, e)
run_unique test [] (y ∷ ys) u v a b c d e = absurd (let f : test y ≡ false = subst (EndsRun test) e c in cc (f, b.0))
run_unique test (x ∷ xs) [] u v a b c d e = absurd (let f : test x ≡ false = subst (EndsRun test) (sym e) d in cc (f, a.0))
run_unique test (x ∷ xs) (y ∷ ys) u v a b c d e =
    let h : xs ++ u ≡ ys ++ v = cc e in
    let k : x ≡ y = cc e in
    let r = run_unique test xs ys u v a.1 b.1 c d h in
    (cc (k, r.0), r.1)

-- which token a byte begins
abbrev pub byte_kind : ℕ → ℕ
byte_kind b = if is_digit b then 0 else (if is_letter b then 1 else (if b == 34 then 2 else (if b == 44 then 3 else (if b == 59 then 4 else 5))))

abbrev pub kind_of : Token → ℕ
kind_of (Number n) = 0
kind_of (Word letters) = 1
kind_of (Name inner) = 2
kind_of Comma = 3
kind_of Semicolon = 4

pub digit_solid : (b : ℕ) → is_digit b ≡ true → is_blank b ≡ false
digit_solid b h = grind (arith, nat_tests)

pub letter_solid : (b : ℕ) → is_letter b ≡ true → is_blank b ≡ false
letter_solid b h = grind (arith, nat_tests)

pub letter_no_digit : (b : ℕ) → is_letter b ≡ true → is_digit b ≡ false
letter_no_digit b h = grind (arith, nat_tests)

-- the first byte tells the token's kind and is no blank, whatever follows
abbrev pub Head : Token → List ℕ → List ℕ → Type 0
Head t body rest = (b : ℕ) × (more : List ℕ) × (body ++ rest ≡ b ∷ more) × (byte_kind b ≡ kind_of t) × (is_blank b ≡ false)

pub head : (t : Token) (body rest : List ℕ) → IsSpelling t body → Head t body rest
head (Number n) [] rest s = absurd (omega (arith, s.0))
head (Number n) (b ∷ bs) rest s = (b, bs ++ rest, refl, rw s.1.0 refl, digit_solid b s.1.0)
head (Word letters) [] rest s = absurd (omega (arith, s.0))
head (Word letters) (b ∷ bs) rest s = (b, bs ++ rest, refl, rw (letter_no_digit b s.1.0, s.1.0) refl, letter_solid b s.1.0)
head (Name inner) body rest s = (34, (inner ++ 34 ∷ []) ++ rest, ap (λ xs. xs ++ rest) s.1, refl, refl)
head Comma body rest s = (44, rest, ap (λ xs. xs ++ rest) s, refl, refl)
head Semicolon body rest s = (59, rest, ap (λ xs. xs ++ rest) s, refl, refl)

abbrev pub Same : Token → Token → List ℕ → List ℕ → List ℕ → List ℕ → Type 0
Same t u bs cs r q = (t ≡ u) × (bs ≡ cs) × (r ≡ q)

-- tokens of one kind at the front of one text are the same
pub same : (t u : Token) (bs cs r q : List ℕ) → kind_of t ≡ kind_of u → IsSpelling t bs → IsSpelling u cs → IsWhole t r → IsWhole u q → bs ++ r ≡ cs ++ q
    → Same t u bs cs r q
same (Number n) (Number m) bs cs r q k s z w x e = search (rules, run_unique)
same (Word n) (Word m) bs cs r q k s z w x e = search (rules, run_unique)
same (Name n) (Name m) bs cs r q k s z w x e =
    let f : 34 ∷ ((n ++ 34 ∷ []) ++ r) ≡ 34 ∷ ((m ++ 34 ∷ []) ++ q) = (sym (ap (λ xs. xs ++ r) s.1) ∙ e) ∙ ap (λ xs. xs ++ q) z.1 in
    let h : (n ++ 34 ∷ []) ++ r ≡ (m ++ 34 ∷ []) ++ q = cc f in
    let i : n ++ (34 ∷ r) ≡ m ++ (34 ∷ q) = (sym (append_assoc n (34 ∷ []) r) ∙ h) ∙ append_assoc m (34 ∷ []) q in
    let j = run_unique is_no_quote n m (34 ∷ r) (34 ∷ q) s.0 z.0 refl refl i in
    let e' : r ≡ q = cc j.1 in
    (ap Name j.0, s.1 ∙ (ap (λ inner. 34 ∷ (inner ++ 34 ∷ [])) j.0 ∙ sym z.1), e')
same Comma Comma bs cs r q k s z w x e = let f : 44 ∷ r ≡ 44 ∷ q = (sym (ap (λ xs. xs ++ r) s) ∙ e) ∙ ap (λ xs. xs ++ q) z in (refl, s ∙ sym z, cc f)
same Semicolon Semicolon bs cs r q k s z w x e = let f : 59 ∷ r ≡ 59 ∷ q = (sym (ap (λ xs. xs ++ r) s) ∙ e) ∙ ap (λ xs. xs ++ q) z in (refl, s ∙ sym z, cc f)
same _ _ bs cs r q k s z w x e = absurd (omega arith)

-- blanks, and then a token, are not blanks alone
pub not_blank : (t : Token) (text blanks body rest : List ℕ) → AllAre is_blank text → AllAre is_blank blanks → IsSpelling t body
    → text ≡ blanks ++ (body ++ rest) → ⊥
not_blank t text blanks body rest a b s e =
    let h = head t body rest s in
    let r = run_unique is_blank text blanks [] (body ++ rest) a b tt (rw h.2 h.4) (append-nil text ∙ e) in
    cc (r.1, h.2)

-- the first token of a text is determined
pub one_front : (place : ℕ) (text : List ℕ) (t u : Placed) (bl bo re cl co se : List ℕ) → Begins place text t bl bo re → Begins place text u cl co se
    → (t ≡ u) × (bl ≡ cl) × (bo ≡ co) × (re ≡ se)
one_front place text t u bl bo re cl co se b c =
    let h = head t.token bo re b.spelled in
    let k = head u.token co se c.spelled in
    let r = run_unique is_blank bl cl (bo ++ re) (co ++ se) b.blank c.blank (rw h.2 h.4) (rw k.2 k.4) (sym b.split ∙ c.split) in
    let f : h.0 ≡ k.0 = cc (r.1, h.2, k.2) in
    let m = same t.token u.token bo co re se (sym h.3 ∙ (ap byte_kind f ∙ k.3)) b.spelled c.spelled b.whole c.whole r.1 in
    let p : t.place ≡ u.place = b.placed ∙ (ap (λ xs. place + length xs) r.0 ∙ sym c.placed) in
    (ap2 m.0 p, r.0, m.1, m.2)
  where
    ap2 : t.token ≡ u.token → t.place ≡ u.place → t ≡ u
    ap2 a b = ap (λ (x : Token). record { token = x; place = t.place }) a ∙ ap (λ (n : ℕ). record { token = u.token; place = n }) b

pub one_spelling : (place : ℕ) (text : List ℕ) (ts us : List Placed) → Spells place text ts → Spells place text us → ts ≡ us
one_spelling place text [] [] a b = refl
one_spelling place text [] (u ∷ us) a (bl, bo, re, b, r) = absurd (not_blank u.token text bl bo re a b.blank b.spelled b.split)
one_spelling place text (t ∷ ts) [] (bl, bo, re, b, r) a = absurd (not_blank t.token text bl bo re a b.blank b.spelled b.split)
one_spelling place text (t ∷ ts) (u ∷ us) (bl, bo, re, b, r) (cl, co, se, c, q) =
    let f = one_front place text t u bl bo re cl co se b c in
    let n : place + length cl + length co ≡ place + length bl + length bo = cc (f.1, f.2) in
    let q' : Spells (place + length bl + length bo) re us =
    subst (λ m. Spells m re us) n (subst (λ xs. Spells (place + length cl + length co) xs us) (sym f.3) q) in
    cc (f.0, one_spelling (place + length bl + length bo) re ts us r q')
