use Rattle.pgboard.proofs.Common.{◌≡◌, ℕ, List, ◌++◌, ap, ◌∙◌, append_assoc, numeral, codes}
use Rattle.pgboard.proofs.verify.put_fault.Goals as goal

-- two additions, one after the other
added : (a b c xs ys zs : List ℕ) → b ≡ a ++ xs → c ≡ b ++ (ys ++ zs) → c ≡ a ++ ((xs ++ ys) ++ zs)
added a b c xs ys zs p q = q ∙ ap (λ l. l ++ (ys ++ zs)) p ∙ simp append_assoc

pub returns-in_ok-put_named-in-Leaves : goal.returns-in_ok-put_named-in-Leaves
returns-in_ok-put_named-in-Leaves c =
    rw c.in-Leaves.is (added c.args.line.now.items c.put_number.new.out.items _ (numeral c.in-Leaves.v) (codes " leaves to ")
    (numeral c.in-Leaves.w) c.in_ok-put_number-in-Leaves.ensures.added c.in_ok-put_named-in-Leaves.ensures)
