-- Tokens are those of at most one list of lines, where the tokens of a line determine it and what follows it.
use Rattle.pg_text.proofs.Common.{◌≡◌, ℕ, ◌<◌, ◌≤◌, List, [], ◌∷◌, ◌++◌, length, refl, sym, ◌∙◌, ap, subst, arith, append_assoc, length-append, flat_map}
use Rattle.pg_text.proofs.Common.{AllByRecursion, Token, Number, Word}
use Rattle.std.proofs.Common.{Option, Some, None}
use Rattle.pg_text.specs.GameText.{headed}

-- these tokens do not begin with the word
abbrev pub Avoids : List ℕ → List Token → Type 0
Avoids word ts = (us : List Token) → ts ≡ Word word ∷ us → ⊥

pub behind_head : (word : List ℕ) (h k : Option ℕ) (xs ys : List Token) → Avoids word xs → Avoids word ys → headed word h ++ xs ≡ headed word k ++ ys → xs ≡ ys
behind_head word None None xs ys a b e = e
behind_head word None (Some m) xs ys a b e = absurd (a _ e)
behind_head word (Some n) None xs ys a b e = absurd (b _ (sym e))
behind_head word (Some n) (Some m) xs ys a b e = cc e

module _ {L : Type 0} (tokens : L → List Token) (first : (l : L) → (n : ℕ) × (ts : List Token) × (tokens l ≡ Number n ∷ ts))
    (front : (a b : L) (xs ys : List Token) → tokens a ++ xs ≡ tokens b ++ ys → (a ≡ b) × (xs ≡ ys)) where
  pub no_word : (word : List ℕ) (lines : List L) (more : List Token) → Avoids word more → Avoids word (flat_map tokens lines ++ more)
  no_word word [] more a = a
  no_word word (l ∷ lines) more a = λ us e. let (n, ts, f) = first l in let g = rw f at e in cc g

  pub lines_once : (ks ls : List L) → flat_map tokens ks ≡ flat_map tokens ls → ks ≡ ls
  lines_once [] [] e = refl
  lines_once [] (l ∷ ls) e = let (n, ts, f) = first l in let g = rw f at e in absurd (cc g)
  lines_once (k ∷ ks) [] e = let (n, ts, f) = first k in let g = rw f at e in absurd (cc g)
  lines_once (k ∷ ks) (l ∷ ls) e = let (f, g) = front k l (flat_map tokens ks) (flat_map tokens ls) e in cc (f, lines_once ks ls g)

  -- a number after a stem is the player of a line where lines go on, and those are 0 and 1
  pub player_small : (player : L → ℕ) (stem m : List Token) (n : ℕ) → ((l : L) (us : List Token) → stem ++ Number n ∷ m ≡ tokens l ++ us → n ≡ player l)
      → ((l : L) → length stem < length (tokens l)) → (more : List Token) → length more ≤ length stem → (ks ls : List L)
      → flat_map tokens ks ++ (stem ++ Number n ∷ m) ≡ flat_map tokens ls ++ more → AllByRecursion (λ l. player l < 2) ls → n < 2
  player_small player stem m n at long more short [] [] e o =
      let f = ap length e in let g = length-append stem (Number n ∷ m) in absurd (omega arith)
  player_small player stem m n at long more short [] (l ∷ ls) e o =
      subst (λ i. i < 2) (sym (at l (flat_map tokens ls ++ more) (e ∙ append_assoc (tokens l) (flat_map tokens ls) more))) o.0
  player_small player stem m n at long more short (k ∷ ks) [] e o =
      let f = ap length e in
      let g = length-append (tokens k ++ flat_map tokens ks) (stem ++ Number n ∷ m) in
      let h = length-append (tokens k) (flat_map tokens ks) in
      let i = long k in
      absurd (omega arith)
  player_small player stem m n at long more short (k ∷ ks) (l ∷ ls) e o =
      let f = sym (append_assoc (tokens k) (flat_map tokens ks) (stem ++ Number n ∷ m)) ∙ (e ∙ append_assoc (tokens l) (flat_map tokens ls) more) in
      let g = front k l (flat_map tokens ks ++ (stem ++ Number n ∷ m)) (flat_map tokens ls ++ more) f in
      player_small player stem m n at long more short ks ls g.1 o.1
