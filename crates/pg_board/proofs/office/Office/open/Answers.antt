use Rattle.pg_board.proofs.Common.{◌≡◌, ℕ, suc, ◌-◌, ◌≤◌, ◌∷◌, sym, ◌∙◌, ap, arith, number_settled}
use Rattle.std.proofs.Common.{replicate}
use Rattle.std.proofs.lemmas.Result.{IfOk-weaker}
use Rattle.pg_board.proofs.office.Office.open.Goals as goal

-- one more of the same in front
in_front : {A : Type 0} (n : ℕ) (x : A) → 1 ≤ n → x ∷ replicate (n - 1) x ≡ replicate n x
in_front n x h = let e : n ≡ suc (n - 1) = omega arith in ap (λ k. replicate k x) (sym e)

pub returns-clause-shares : goal.returns-clause-shares
returns-clause-shares g c =
    let e : number_settled c.in_ok-board.board.journal ≡ 0 = ap number_settled c.in_ok-board.ensures.journal in
    IfOk-weaker c.open_with.result _ _
    (λ o h. h ∙ (ap (λ n. n ∷ replicate (c.args.seats - 1) 0) e ∙ in_front c.args.seats 0 c.requires.seats.0)) c.open_with.ensures.shares
