-- Tokens that follow one another.
use Rattle.pg_text.proofs.Common.{◌≡◌, ℕ, ◌+◌, List, [], ◌∷◌, ◌++◌, length, drop, refl, sym, ◌∙◌, ap, subst, arith, append_assoc, length-append, rules}
use Rattle.pg_text.proofs.Common.{TokenKind, Token, IsWhole, Placed, Begins, Spells, is_blank, AllAre, IsLexicalFault, placed, IsToken, IsNoToken}
use Rattle.pg_text.proofs.Common.{IsLexemeOf, kind_of, ReadsTo, IsBadFrom, append-nil}
use Rattle.pg_text.specs.private.Lexeme.{IsNextLexeme}
use Rattle.pg_text.specs.declared.lexer.Lexeme.{Lexeme}
use Rattle.pg_text.specs.declared.lexer.TokenKind.TheVariants as kind

pub reaches_more : (text : List ℕ) (at mid from to : ℕ) (ts : List Placed) (t : Token) → ReadsTo text at ts mid → IsToken text mid from to t
    → ReadsTo text at (ts ++ placed t from ∷ []) to
reaches_more text at mid from to [] t r i = (to, subst (λ m. IsToken text m from to t) r i, refl)
reaches_more text at mid from to (u ∷ ts) t (m, j, r) i = (m, j, reaches_more text m mid from to ts t r i)

pub reaches_all : (text : List ℕ) (at mid to : ℕ) (ts us : List Placed) → ReadsTo text at ts mid → ReadsTo text mid us to → ReadsTo text at (ts ++ us) to
reaches_all text at mid to [] us r s = subst (λ m. ReadsTo text m us to) r s
reaches_all text at mid to (t ∷ ts) us (m, i, r) s = (m, i, reaches_all text m mid to ts us r s)

-- what spells the rest makes a spelling of all
pub reaches_spells : (text : List ℕ) (at to : ℕ) (ts us : List Placed) → ReadsTo text at ts to → Spells to (drop to text) us
    → Spells at (drop at text) (ts ++ us)
reaches_spells text at to [] us r s = subst (λ m. Spells m (drop m text) us) r s
reaches_spells text at to (t ∷ ts) us (m, i, r) s = search (rules, reaches_spells text m to ts us r s, i.blanks, i.body, i.begins, i.end)

-- tokens up to a place spell the text up to there, and up to the end of blanks that follow
abbrev Cut : List ℕ → ℕ → List Placed → List ℕ → ℕ → Type 0
Cut text at ts back end = (front : List ℕ) × (drop at text ≡ front ++ back) × Spells at front ts × (at + length front ≡ end)

pub reaches_cut : (text : List ℕ) (at stop : ℕ) (ts : List Placed) (blanks back : List ℕ) → ReadsTo text at ts stop → drop stop text ≡ blanks ++ back
    → AllAre is_blank blanks → Cut text at ts back (stop + length blanks)
reaches_cut text at stop [] blanks back r e b = (blanks, subst (λ m. drop m text ≡ blanks ++ back) r e, b, omega arith)
reaches_cut text at stop (t ∷ ts) blanks back (m, i, r) e b =
    let rest = reaches_cut text m stop ts blanks back r e b in
    let front : List ℕ = i.blanks ++ (i.body ++ rest.0) in
    let split : drop at text ≡ front ++ back =
    i.begins.split ∙ (ap (λ xs. i.blanks ++ (i.body ++ xs)) rest.1
    ∙ (ap (λ xs. i.blanks ++ xs) (sym (append_assoc i.body rest.0 back)) ∙ sym (append_assoc i.blanks (i.body ++ rest.0) back))) in
    let whole : IsWhole t.token rest.0 = search rules in
    let begins : Begins at front t i.blanks i.body rest.0 =
    record { split = refl; blank = i.begins.blank; placed = i.begins.placed; spelled = i.begins.spelled; whole = whole } in (
      front,
      split,
      (i.blanks, i.body, rest.0, begins, subst (λ n. Spells n rest.0 ts) i.end rest.2),
      (let p = length-append i.blanks (i.body ++ rest.0) in let q = length-append i.body rest.0 in let f = i.end in let g = rest.3 in omega arith),
    )

pub lexical_fault : (text : List ℕ) (ts : List Placed) (stop bad : ℕ) → ReadsTo text 0 ts stop → IsNoToken text stop bad → IsLexicalFault text bad
lexical_fault text ts stop bad r n = search (rules, reaches_cut, n.blanks, n.byte, n.after, n.split, n.blank, n.placed, n.solid, n.wrong)

pub later_fault : (text : List ℕ) (ts : List Placed) (at bad : ℕ) → ReadsTo text 0 ts at → IsBadFrom text at bad → IsLexicalFault text bad
later_fault text ts at bad r (us, stop, s, n) = lexical_fault text (ts ++ us) stop bad (reaches_all text 0 at stop ts us r s) n

-- a lexeme that is neither the end nor a fault is a token
pub lexeme_token : (k : TokenKind) (text : List ℕ) (at from to : ℕ) → IsLexemeOf k text at from to → (k ≡ kind.Invalid → ⊥) → (k ≡ kind.End → ⊥)
    → (t : Token) × IsToken text at from to t × (k ≡ kind_of t)
lexeme_token x0 text at from to i b d = search (rules)

-- where only blanks follow
pub reaches_end : (text : List ℕ) (at to : ℕ) (ts : List Placed) → ReadsTo text at ts to → AllAre is_blank (drop to text) → Spells at (drop at text) ts
reaches_end text at to ts r b = subst (λ us. Spells at (drop at text) us) (append-nil ts) (reaches_spells text at to ts [] r b)

-- what a lexeme of this kind says
pub of_kind : (k : TokenKind) (text : List ℕ) (at : ℕ) (p : Lexeme) → p.kind ≡ k → IsNextLexeme text at p → IsLexemeOf k text at p.from p.to
of_kind k text at p e n = subst (λ (j : TokenKind). IsLexemeOf j text at p.from p.to) e n
