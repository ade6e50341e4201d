-- Which identifiers a game has, and which vertex each of them names.
use Rattle.pg_text.proofs.Common.{◌≡◌, ℕ, zero, suc, ◌+◌, ◌<◌, Bool, true, false, List, [], ◌∷◌, ◌++◌, length, map, get_or, refl, sym, ◌∙◌, ap, subst, arith}
use Rattle.pg_text.proofs.Common.{rules, ◌==◌, if◌then◌else◌, nat_lt, Option, Some, None, IfSome, option_map, option_or, Contains, list_any, eqb-true, eq-eqb}
use Rattle.pg_text.proofs.Common.{get_or-map, length-map, list_any_at, Graph, IsGame, id_of, no_vertex, WrittenSolutionLine, is_id}
use Rattle.pg_text.proofs.Common.{number_in, first_stranger, IsNamed}
use Rattle.std.specs.Prelude.{count_by}
use Rattle.std.proofs.lemmas.Bool.{true_from_ne_false}
use Rattle.std.proofs.lemmas.Grind.{flat_map-append}
use Rattle.std.proofs.lemmas.List.Folds.{find-append, fold-map}
use Rattle.pg_game.proofs.Different.{smaller_before}

-- where a test passes
pub some_at : {X : Type 0} (p : X → Bool) (xs : List X) (d : X) → list_any p xs ≡ true → (i : ℕ) × (i < length xs) × (p (get_or xs i d) ≡ true)
some_at p [] d e = absurd (cc e)
some_at {X = X} p (x ∷ xs) d e = go (p x) refl (some_at p xs d)
  where
    go : (b : Bool) → p x ≡ b → (list_any p xs ≡ true → (i : ℕ) × (i < length xs) × (p (get_or xs i d) ≡ true))
        → (i : ℕ) × (i < length (x ∷ xs)) × (p (get_or (x ∷ xs) i d) ≡ true)
    go true f h = (zero, omega arith, f)
    go false f h = let m : list_any p xs ≡ true = rw f at e in let q = h m in (suc q.0, omega (arith, q.1), q.2)

-- the vertex with an identifier
pub named_is : (g : Graph) (id v : ℕ) → IsNamed g id v → is_id g id ≡ true
named_is g id v n = list_any_at (λ x. x.id == id) g v no_vertex n.vertex (eq-eqb (id_of g v) id n.id_is)

pub named_at : (g : Graph) (id : ℕ) → is_id g id ≡ true → (v : ℕ) × IsNamed g id v
named_at g id t = let (v, l, e) = some_at (λ x. x.id == id) g no_vertex t in (v, record { vertex = l; id_is = eqb-true (id_of g v) id e })

count-ids : (g : Graph) (id : ℕ) → count_by (λ n. nat_lt n id) (map (λ x. x.id) g) ≡ number_in g id
count-ids g id = fold-map (λ a n. a + (if nat_lt n id then 1 else 0)) (λ x. x.id) 0 g

-- an identifier names its vertex
pub number_at : (g : Graph) (id v : ℕ) → IsGame g → IsNamed g id v → number_in g id ≡ v
number_at g id v i n =
    let ids : List ℕ = map (λ x. x.id) g in
    let e : get_or ids v 0 ≡ id = get_or-map (λ x. x.id) g v no_vertex 0 n.vertex ∙ n.id_is in
    let l : v < length ids = let k : length ids ≡ length g = length-map g (λ x. x.id) in let h = n.vertex in omega arith in
    sym (count-ids g id) ∙ (ap (λ k. count_by (λ x. nat_lt x k) ids) (sym e) ∙ smaller_before ids v i.ids l)

-- strangers of more lines
pub stranger-append : (g : Graph) (xs ys : List WrittenSolutionLine) → first_stranger g (xs ++ ys) ≡ option_or (first_stranger g xs) (first_stranger g ys)
stranger-append g xs ys = search (rules, flat_map-append, find-append)

none_parts : (a b : Option ℕ) → option_or a b ≡ None → (a ≡ None) × (b ≡ None)
none_parts x0 b h = search (rules)

-- where no line names a stranger, none of them does
home_at : (g : Graph) (lines : List WrittenSolutionLine) (k : ℕ) (d : WrittenSolutionLine) → first_stranger g lines ≡ None → k < length lines
    → first_stranger g (get_or lines k d ∷ []) ≡ None
home_at g [] k d e l = absurd (omega arith)
home_at g (x ∷ xs) zero d e l = (none_parts (first_stranger g (x ∷ [])) (first_stranger g xs) (sym (stranger-append g (x ∷ []) xs) ∙ e)).0
home_at g (x ∷ xs) (suc k) d e l =
    let h = none_parts (first_stranger g (x ∷ [])) (first_stranger g xs) (sym (stranger-append g (x ∷ []) xs) ∙ e) in
    home_at g xs k d h.1 (omega arith)

-- the identifiers of a line that names no stranger
home_id : (g : Graph) (id winner : ℕ) (c : Option ℕ) → first_stranger g (record { id = id; winner = winner; choice = c } ∷ []) ≡ None → is_id g id ≡ true
home_id g id winner c e = true_from_ne_false (is_id g id) (λ f. let k : Some id ≡ None = rw f at e in cc k)

pub line_home : (g : Graph) (lines : List WrittenSolutionLine) (l : WrittenSolutionLine) → first_stranger g lines ≡ None → Contains lines l
    → first_stranger g (l ∷ []) ≡ None
line_home g lines l e (k, h, is) = subst (λ (x : WrittenSolutionLine). first_stranger g (x ∷ []) ≡ None) is (home_at g lines k l e h)

pub line_named : (g : Graph) (lines : List WrittenSolutionLine) (l : WrittenSolutionLine) → first_stranger g lines ≡ None → Contains lines l
    → (v : ℕ) × IsNamed g l.id v
line_named g lines l e m = named_at g l.id (home_id g l.id l.winner l.choice (line_home g lines l e m))

pub choice_below : (g : Graph) (l : WrittenSolutionLine) → IsGame g → first_stranger g (l ∷ []) ≡ None
    → IfSome (option_map (λ i. number_in g i) l.choice) (λ w. w < length g)
choice_below g l i e = go l.choice (search (rules, home_id, true_from_ne_false))
  where
    go : (c : Option ℕ) → IfSome c (λ k. is_id g k ≡ true) → IfSome (option_map (λ k. number_in g k) c) (λ w. w < length g)
    go None h = tt
    go (Some k) h = let (v, n) = named_at g k h in subst (λ w. w < length g) (sym (number_at g k v i n)) n.vertex
