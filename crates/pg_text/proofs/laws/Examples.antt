-- Examples, for the reader of the definitions: nothing is proved from these.
use Rattle.pg_text.proofs.Common.{◌≡◌, ℕ, zero, suc, ◌+◌, ◌<◌, ◌≤◌, List, [], ◌∷◌, ◌++◌, ◌^◌, ◌∙◌, length}
use Rattle.pg_text.proofs.Common.{refl, sym, ap, subst, arith, numeral, rules, Some, None, codes, Contains}
use Rattle.pg_text.proofs.Common.{Even, Graph, HasEdge, NoneHas, written_game, written_solution, SolutionRows, winner_of, IsSolution, LacksChoice, HasBadChoice}
use Rattle.pg_text.proofs.Common.{Leaves, IsOnBadWalk}
use Rattle.std.proofs.Common.{◌/◌, ◌%◌, ◌*◌, add-one, replicate}
use Rattle.std.proofs.Math.Nat.{one-le-pow, pow-succ'}
use Rattle.std.proofs.lemmas.List.{replicate_more}
use Rattle.pg_text.proofs.Numerals.{one_digit, more_digits}
use Rattle.pg_game.specs.declared.player.Player.TheVariants.{Odd}
use Rattle.pg_game.specs.Least.{IsLeast}
use Rattle.pg_game.proofs.Members.{Contains-head, Contains-one}
use Rattle.pg_text.proofs.Verdict.{solution_from_no_fault, won}

-- 0 2 0 0,1; 1 1 1 1;
abbrev two : Graph
two =
    record { id = 0; priority = 2; owner = Even; successors = 0 ∷ 1 ∷ [] }
    ∷ record { id = 1; priority = 1; owner = Odd; successors = 1 ∷ [] } ∷ []

-- 0 0 0; 1 1 1;
abbrev both_win : SolutionRows
both_win = (Even, Some 0) ∷ (Odd, Some 1) ∷ []

two_edges : (v w : ℕ) → v < length two → HasEdge two v w → w < length two
two_edges zero w l m = search (rules)
two_edges (suc zero) w l m = let e = Contains-one 1 w m in omega arith
two_edges (suc (suc v)) w l m = absurd (omega arith)

two_lacks : NoneHas (LacksChoice two both_win)
two_lacks zero h = cc h.2
two_lacks (suc zero) h = cc h.2
two_lacks (suc (suc v)) h = omega (arith, h.0)

two_bad : NoneHas (HasBadChoice two both_win)
two_bad zero (l, o, (w, e, n)) = let f : 0 ≡ w = cc e in n (subst (Contains (0 ∷ 1 ∷ [])) f (Contains-head 0 (1 ∷ [])))
two_bad (suc zero) (l, o, (w, e, n)) = let f : 1 ≡ w = cc e in n (subst (Contains (1 ∷ [])) f (Contains-head 1 []))
two_bad (suc (suc v)) (l, o, r) = omega (arith, l)

two_leaves : (v w : ℕ) → Leaves two both_win v w → ⊥
two_leaves zero w ((i, m), n) = n (ap (winner_of both_win) (sym (Contains-one 0 w m)))
two_leaves (suc zero) w ((i, m), n) = n (ap (winner_of both_win) (sym (Contains-one 1 w m)))
two_leaves (suc (suc v)) w ((i, m), n) = omega (arith, (won two both_win refl Even (suc (suc v)) i).0)

two_walks : NoneHas (IsOnBadWalk two both_win)
two_walks zero (vs, c, e, b) = cc b
two_walks (suc zero) (vs, c, e, b) = cc b
two_walks (suc (suc v)) ([], c, e, b) = cc (c.0)
two_walks (suc (suc v)) (w ∷ ws, c, e, b) = cc (c.0.0)

-- an example: a solution of the game
pub two_solved : IsSolution two both_win
two_solved = solution_from_no_fault two both_win refl two_edges two_lacks two_bad two_leaves two_walks

-- 0 6 1 4,2; 4 5 1 0; 1 8 1 2,4,3; 3 6 0 4,2; 2 7 0 3,1,0,4;
abbrev five : Graph
five =
    record { id = 0; priority = 6; owner = Odd; successors = 2 ∷ 4 ∷ [] }
    ∷ record { id = 1; priority = 8; owner = Odd; successors = 2 ∷ 3 ∷ 4 ∷ [] }
    ∷ record { id = 2; priority = 7; owner = Even; successors = 0 ∷ 1 ∷ 3 ∷ 4 ∷ [] }
    ∷ record { id = 3; priority = 6; owner = Even; successors = 2 ∷ 4 ∷ [] }
    ∷ record { id = 4; priority = 5; owner = Odd; successors = 0 ∷ [] } ∷ []

-- 0 0; 1 0; 2 0 0; 3 0 4; 4 0;
abbrev wrong : SolutionRows
wrong = (Even, None) ∷ (Even, None) ∷ (Even, Some 0) ∷ (Even, Some 4) ∷ (Even, None) ∷ []

-- an example: the walk 0, 2, 0 has greatest priority 7, and 2 is the least such vertex
pub five_fails : IsLeast (IsOnBadWalk five wrong) 2
five_fails = record { has = (0 ∷ [], ((refl, Contains-head 0 []), (refl, Contains-head 2 (4 ∷ []))), refl, refl); least = least }
  where
    least : (u : ℕ) → IsOnBadWalk five wrong u → 2 ≤ u
    least zero (vs, c, e, b) = absurd (cc b)
    least (suc zero) (vs, c, e, b) = absurd (cc b)
    least (suc (suc u)) h = omega arith

-- an example: the written text of the game
pub written_five : written_game five ≡ codes "parity 4;\n0 6 1 2,4;\n1 8 1 2,3,4;\n2 7 0 0,1,3,4;\n3 6 0 2,4;\n4 5 1 0;\n"
unfolding numeral
written_five = refl

-- an example: the written text of the solution
pub written_two : written_solution two both_win ≡ codes "paritysol 1;\n0 0 0;\n1 1 1;\n"
unfolding numeral
written_two = refl

-- one more zero
ten_times : (n : ℕ) → 0 < n → numeral (10 * n) ≡ numeral n ++ 48 ∷ []
ten_times n h =
    let e : 10 * n / 10 ≡ n = omega arith in
    let z : 10 * n % 10 ≡ 0 = omega arith in
    more_digits (10 * n) (omega arith) ∙ ap (λ (m : ℕ). numeral m ++ (48 + 10 * n % 10) ∷ []) e
    ∙ ap (λ (d : ℕ). numeral n ++ (48 + d) ∷ []) z

-- an example: numbers of any length are written, ten to the k by 1 and k zeros
pub written_wide : (k : ℕ) → numeral (10 ^ k) ≡ 49 ∷ replicate k 48
written_wide zero = one_digit 1 (omega arith)
written_wide (suc k) =
    ap numeral (pow-succ' 10 k) ∙ ten_times (10 ^ k) (omega (arith, one-le-pow k 10 (omega arith))) ∙ ap (λ (ds : List ℕ). ds ++ 48 ∷ []) (written_wide k)
    ∙ ap (λ (ds : List ℕ). 49 ∷ ds) (replicate_more k 48) ∙ ap (λ (n : ℕ). 49 ∷ replicate n 48) (add-one k)
