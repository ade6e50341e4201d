-- An error of a run, as one of what was asked for: the results have different types.
use Rattle.pgboard.proofs.Common.{ℕ, List, Option, Err}
use Rattle.pgboard.proofs.verify.JoinedFaults.{err_again}
use Rattle.pgboard.specs.Run.{ReadsInTurn, Writes}
use Rattle.pgboard.specs.declared.fault.RunFault.{RunFault}
use Rattle.pgboard.specs.declared.fault.RunFault.TheVariants as fault

pub writes_err : {A B : Type 0} {P : A → List ℕ → Type 0} {Q : B → List ℕ → Type 0} {e : RunFault} {old new : Option (List ℕ)} {failures later : ℕ}
    → ((a : A) (text : List ℕ) → P a text → (b : B) × Q b text) → Writes P (Err e) old new failures later → Writes Q (Err e) old new failures later
writes_err {e} of w = record {
  written = tt;
  cut =
      λ is. let cut = w.cut (err_again e fault.Write is) in
      let output = of cut.answer cut.text cut.output in
      record { answer = output.0; text = cut.text; output = output.1; prefix = cut.prefix };
  nothing = w.nothing;
  no_failure = λ none. w.no_failure (λ is. none (err_again e fault.Write is));
  failed = λ is. w.failed (err_again e fault.Write is);
}

pub turns_err : {A B : Type 0} {e : RunFault} {game : Option (List ℕ)} {old new : ℕ} {Unread Unfailed Failed : Type 0}
    → ReadsInTurn {A = A} (Err e) game old new Unread Unfailed Failed → ReadsInTurn {A = B} (Err e) game old new Unread Unfailed Failed
turns_err {e} r = record {
  no_game_failure = λ none. r.no_game_failure (λ is. none (err_again e fault.Read is));
  no_second_failure = λ none. r.no_second_failure (λ is. none (err_again e fault.Read is));
  order = r.order;
  unread = r.unread;
  failed = λ is. r.failed (err_again e fault.Read is);
}
