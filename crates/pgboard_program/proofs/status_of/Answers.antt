use Rattle.std.proofs.Common.{◌≡◌, ◌⊎◌, inl, inr, ℕ, sym, subst}
use Rattle.std.specs.Prelude.{Result, Ok, Err, IfOk, IfErr}
use Rattle.pgboard.specs.declared.fault.RunFault.{RunFault}
use Rattle.pgboard.specs.Status.{status_of}
use Rattle.pgboard_program.proofs.status_of.Goals as goal

ended_by : (r : Result ℕ RunFault) (status : ℕ) (P : ℕ → Type 0) (F : RunFault → Type 0) → IfOk r P → IfErr r F → IfOk r (λ s. status ≡ s)
    → IfErr r (λ f. status ≡ status_of f) → P status ⊎ ((f : RunFault) × F f × (status ≡ status_of f))
ended_by (Ok s) status P F output fault same other = inl (subst P (sym same) output)
ended_by (Err f) status P F output fault same other = inr (f, fault, other)

pub returns-in-Ok-clause-run : goal.returns-in-Ok-clause-run
returns-in-Ok-clause-run g c =
    rw c.in-Ok.is
    (ended_by c.run_on_files.result c.ended.result _ _ c.run_on_files.ensures.status c.run_on_files.ensures.fault c.ended.ensures.status c.ended.ensures.fault)
