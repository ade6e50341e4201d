-- The predicates of the grammar's faults determine the place, and exclude one another.
use Rattle.pg_text.proofs.Common.{◌≡◌, ℕ, ◌<◌, true, ◌⊎◌, inl, inr, List, [], ◌∷◌, ◌++◌, refl, sym, ◌∙◌, ap, subst, append_assoc, rules, append-nil, Token}
use Rattle.pg_text.proofs.Common.{Number, Placed, tokens_of, Spells, IsSyntaxFault, IsNumberFault, IsPlayerFault, AllFit, fits, IsGameText, BeginsGameText}
use Rattle.pg_text.proofs.Common.{IsSolutionText, BeginsSolutionText, IsSomeGameText, IsSomeSolutionText}
use Rattle.pg_text.proofs.laws.UniqueTokens.{one_spelling}

-- of two places in one list one is before the other, or they are the same
abbrev pub Places : List Placed → List Placed → Placed → Placed → Type 0
Places b1 b2 t1 t2 = (t1 ≡ t2) ⊎ (((m : List Placed) × (b2 ≡ b1 ++ t1 ∷ m)) ⊎ ((m : List Placed) × (b1 ≡ b2 ++ t2 ∷ m)))

pub places : (b1 b2 a1 a2 : List Placed) (t1 t2 : Placed) → b1 ++ t1 ∷ a1 ≡ b2 ++ t2 ∷ a2 → Places b1 b2 t1 t2
places [] [] a1 a2 t1 t2 e = inl (cc e)
places [] (x ∷ xs) a1 a2 t1 t2 e = let k : t1 ≡ x = cc e in inr (inl (xs, ap (λ z. z ∷ xs) (sym k)))
places (x ∷ xs) [] a1 a2 t1 t2 e = let k : x ≡ t2 = cc e in inr (inr (xs, ap (λ z. z ∷ xs) k))
places (x ∷ xs) (y ∷ ys) a1 a2 t1 t2 e =
    let k : x ≡ y = cc e in
    let f : xs ++ t1 ∷ a1 ≡ ys ++ t2 ∷ a2 = cc e in
    elim (places xs ys a1 a2 t1 t2 f) [
      | inl q ↦ inl q
      | inr (inl (m, q)) ↦ inr (inl (m, cc (k, q)))
      | inr (inr (m, q)) ↦ inr (inr (m, cc (k, q)))
    ]

pub tokens_append : (xs ys : List Placed) → tokens_of (xs ++ ys) ≡ tokens_of xs ++ tokens_of ys
tokens_append [] ys = refl
tokens_append (x ∷ xs) ys = ap (λ l. x.token ∷ l) (tokens_append xs ys)

pub tokens_at : (before after : List Placed) (t : Placed) (n : ℕ) → t.token ≡ Number n
    → tokens_of (before ++ t ∷ after) ≡ tokens_of before ++ Number n ∷ tokens_of after
tokens_at before after t n e = tokens_append before (t ∷ after) ∙ ap (λ x. tokens_of before ++ x ∷ tokens_of after) e

shift : (xs : List Token) (t : Token) (ms : List Token) → xs ++ t ∷ ms ≡ (xs ++ t ∷ []) ++ ms
shift xs t ms = sym (append_assoc xs (t ∷ []) ms)

abbrev pub PrefixClosed : (List Token → Type 0) → Type 0
PrefixClosed B = (xs ys : List Token) → B (xs ++ ys) → B xs

pub game_prefix : PrefixClosed BeginsGameText
game_prefix xs ys (more, lines, g) = (ys ++ more, lines, subst (λ l. IsGameText l lines) (append_assoc xs ys more) g)

pub solution_prefix : PrefixClosed BeginsSolutionText
solution_prefix xs ys (more, lines, g) = (ys ++ more, lines, subst (λ l. IsSolutionText l lines) (append_assoc xs ys more) g)

pub game_begins : (ts : List Token) → IsSomeGameText ts → BeginsGameText ts
game_begins ts (lines, g) = ([], lines, subst (λ l. IsGameText l lines) (sym (append-nil ts)) g)

pub solution_begins : (ts : List Token) → IsSomeSolutionText ts → BeginsSolutionText ts
solution_begins ts (lines, g) = ([], lines, subst (λ l. IsSolutionText l lines) (sym (append-nil ts)) g)

module _ (B I : List Token → Type 0) (closed : PrefixClosed B) where
  front : (before m : List Placed) (t : Placed) → B (tokens_of (before ++ t ∷ m)) → B (tokens_of before ++ t.token ∷ [])
  front before m t b = search (rules, t.token, tokens_append, shift)

  pub syntax_once : (text : List ℕ) (a b : ℕ) → IsSyntaxFault B I text a → IsSyntaxFault B I text b → a ≡ b
  syntax_once text a b x3 x4 = search (rules, one_spelling, places, front)

  pub syntax_or_grammar : ((ts : List Token) → I ts → B ts) → (text : List ℕ) (a : ℕ) (us : List Placed) → IsSyntaxFault B I text a → Spells 0 text us
      → I (tokens_of us) → ⊥
  syntax_or_grammar i text a us x4 z g = search (rules, one_spelling, front)

fit_at : (b m : List Placed) (t : Placed) → AllFit (tokens_of (b ++ t ∷ m)) → fits t.token ≡ true
fit_at [] m t a = a.0
fit_at (x ∷ xs) m t a = fit_at xs m t a.1

pub number_once : (I : List Token → Type 0) (text : List ℕ) (a b : ℕ) → IsNumberFault I text a → IsNumberFault I text b → a ≡ b
number_once I text a b x y = search (rules, one_spelling, places, x.first.token.token, fit_at, y.first.token.token)

pub number_or_fit : (I : List Token → Type 0) (text : List ℕ) (a : ℕ) (us : List Placed) → IsNumberFault I text a → Spells 0 text us → AllFit (tokens_of us) → ⊥
number_or_fit I text a us x z f = search (rules, one_spelling, x.first.token.token, fit_at)

-- where a number after an earlier player's place is below 2, the place of the first that is not is determined
pub player_once : (B I IsBefore : List Token → Type 0) → PrefixClosed B → ((ts : List Token) → I ts → B ts)
    → ((xs ys m : List Token) (n : ℕ) → IsBefore xs → IsBefore ys → B ys → ys ≡ xs ++ Number n ∷ m → n < 2)
    → (text : List ℕ) (a b : ℕ) → IsPlayerFault I IsBefore text a → IsPlayerFault I IsBefore text b → a ≡ b
player_once B I IsBefore closed begins small text a b x y = search (rules, tokens_append, places, one_spelling, tokens_at)
