-- Why a run on one joined text gives no verdict, from the parts of the text.
use Rattle.pgboard.proofs.Common.{rules, ◌≡◌, ◌≤◌, ◌⊎◌, ⊎_elim, ℕ, List, length, Option, IfSome, Err, IsErrOf, ap, ◌∙◌, subst, Graph, max_text, IsTextOf}
use Rattle.pgboard.proofs.Common.{RunFault, game_part, solution_part, IsJudged, JudgingFailed, IsRefusedGame, IsRefusedSolution}
use Rattle.pgboard.proofs.Common.{IsVerdictOn}
use Rattle.pgboard.specs.declared.verify.Verdict.{Verdict}
use Rattle.pgboard.specs.declared.fault.RunFault.TheVariants as fault

-- what holds of the text that was read holds of the text that the source had
pub of_known : (known : Option (List ℕ)) (text : List ℕ) (P : List ℕ → Type 0) → IfSome known (λ bytes. text ≡ bytes) → P text → IfSome known P
of_known known text P e h = search rules

-- the same error of another type of result
pub err_again : {A B : Type 0} (e f : RunFault) → IsErrOf {T = A} (Err e) f → IsErrOf {T = B} (Err e) f
err_again {B = B} e f h = cc

abbrev Failed : RunFault → List ℕ → Type 0
Failed e text = JudgingFailed (game_part text) (solution_part text) (length text) e

refused_game : (text : List ℕ) (e : RunFault) → length text ≤ max_text → IsRefusedGame (game_part text) e → Failed e text
refused_game text e le h = search rules

refused_solution : (text : List ℕ) (g : Graph) (e : RunFault) → length text ≤ max_text → IsTextOf (game_part text) g
    → IsRefusedSolution g (solution_part text) e → Failed e text
refused_solution text g e le is h = search rules

-- a text that was read, the slice of it, and the slice's parts
pub record IsJoinedText (known : Option (List ℕ)) (text slice game solution : List ℕ) : Type 0 where
  pub read : IfSome known (λ bytes. text ≡ bytes)
  pub within : length text ≤ max_text
  pub whole : slice ≡ text
  pub first : game ≡ game_part slice
  pub second : solution ≡ solution_part slice

pub joined_text : (known : Option (List ℕ)) {text slice game solution : List ℕ} → IfSome known (λ bytes. text ≡ bytes) → length text ≤ max_text
    → slice ≡ text → game ≡ game_part slice → solution ≡ solution_part slice → IsJoinedText known text slice game solution
joined_text known read within whole first second = record { read = read; within = within; whole = whole; first = first; second = second }

module _ {known : Option (List ℕ)} {text slice game solution : List ℕ} (t : IsJoinedText known text slice game solution) where
  before : game ≡ game_part text
  before = t.first ∙ ap game_part t.whole

  after : solution ≡ solution_part text
  after = t.second ∙ ap solution_part t.whole

  pub no_game : (e : RunFault) → IsRefusedGame game e → IfSome known (Failed e)
  no_game e h = of_known known text (Failed e) t.read (refused_game text e t.within (subst (λ l. IsRefusedGame l e) before h))

  module _ (g : Graph) (is : IsTextOf game g) where
    spelled : IsTextOf (game_part text) g
    spelled = subst (λ l. IsTextOf l g) before is

    pub no_solution_of : (e : RunFault) → IsRefusedSolution g solution e → IfSome known (Failed e)
    no_solution_of e h = of_known known text (Failed e) t.read (refused_solution text g e t.within spelled (subst (λ l. IsRefusedSolution g l e) after h))

    judged : (verdict : Verdict) → IsVerdictOn g solution verdict → IsJudged (game_part text) (solution_part text) verdict
    judged verdict h = search rules

    pub no_output : (verdict : Verdict) (e : RunFault) → IsVerdictOn g solution verdict → (e ≡ fault.Write) ⊎ (e ≡ fault.Memory)
        → IfSome known (Failed e)
    no_output verdict e h only = search (rules, of_known, ⊎_elim, judged)

    -- the text was judged, and it is within the limit
    pub judged_within : (verdict : Verdict) → IsVerdictOn g solution verdict
        → IfSome known (λ bytes. (length bytes ≤ max_text) × IsJudged (game_part bytes) (solution_part bytes) verdict)
    judged_within verdict h = search rules
