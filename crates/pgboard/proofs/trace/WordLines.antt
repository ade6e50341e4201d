-- Lines of words between single spaces, written word by word.
use Rattle.pgboard.proofs.Common.{rules, ◌≡◌, ℕ, List, [], ◌∷◌, ◌++◌, refl, sym, ◌∙◌, ap, append_assoc, join_with_byte, trace_line}

-- each word after a space, and then the end
abbrev spaced : List (List ℕ) → List ℕ → List ℕ
spaced [] end = end
spaced (w ∷ ws) end = 32 ∷ (w ++ spaced ws end)

joined : (w : List ℕ) (ws : List (List ℕ)) (end : List ℕ) → join_with_byte 32 (w ∷ ws) ++ end ≡ w ++ spaced ws end
joined w [] end = refl
joined w (x ∷ xs) end = append_assoc w (32 ∷ join_with_byte 32 (x ∷ xs)) end ∙ ap (λ t. w ++ 32 ∷ t) (joined x xs end)

spaced_more : (ws : List (List ℕ)) (x end : List ℕ) → spaced (ws ++ x ∷ []) end ≡ spaced ws (32 ∷ (x ++ end))
spaced_more [] x end = refl
spaced_more (w ∷ ws) x end = ap (λ t. 32 ∷ (w ++ t)) (spaced_more ws x end)

-- after what was there comes a line's first word, and the next ones
pub record Begins (o w : List ℕ) (ws : List (List ℕ)) (r : List ℕ) : Type 0 where
  pub is : (end : List ℕ) → r ++ end ≡ o ++ (w ++ spaced ws end)

pub first : {o w r : List ℕ} → r ≡ o ++ w → Begins o w [] r
first {o} {w} h = record { is = λ end. ap (λ t. t ++ end) h ∙ append_assoc o w end }

pub next : {o w : List ℕ} {ws : List (List ℕ)} {r s : List ℕ} (x : List ℕ) → Begins o w ws r → s ≡ r ++ 32 ∷ x → Begins o w (ws ++ x ∷ []) s
next {o} {w} {ws} {r} x b h = search (rules, append_assoc, spaced_more)

pub last : {o w : List ℕ} {ws : List (List ℕ)} {r s : List ℕ} → Begins o w ws r → s ≡ r ++ 10 ∷ [] → s ≡ o ++ trace_line (w ∷ ws)
last {o} {w} {ws} b h = h ∙ b.is (10 ∷ []) ∙ ap (λ t. o ++ t) (sym (joined w ws (10 ∷ [])))
