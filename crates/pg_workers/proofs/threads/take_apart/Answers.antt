use Rattle.pg_workers.proofs.Common.{rules, ◌≡◌, List, [], ◌∷◌, ◌++◌, All, Vec, Global, map, sym, ap, ◌∙◌, arith, map-append, ReportRow, HeldTicket, IsDrawnRow}
use Rattle.std.proofs.lemmas.List.Elements.{All-push}
use Rattle.pg_workers.proofs.threads.take_apart.Goals as goal

pushed_all : {X : Type 0} (P : X → Type 0) (xs new : List X) (x : X) → All P xs → P x → new ≡ xs ++ x ∷ [] → All P new
pushed_all P xs new x all one is = rw is (All-push P xs x all one)

pushed_map : {X Y : Type 0} (f : X → Y) (xs new : List X) (ys later : List Y) (x : X) (y : Y) → map f xs ≡ ys → f x ≡ y
    → new ≡ xs ++ x ∷ [] → later ≡ ys ++ y ∷ [] → map f new ≡ later
pushed_map f xs new ys later x y are is pushed more =
    ap (map f) pushed ∙ map-append f xs (x ∷ []) ∙ ap (λ l. l ++ f x ∷ []) are ∙ ap (λ z. ys ++ z ∷ []) is ∙ sym more

pub loop-worker-preserved : goal.loop-worker-preserved
loop-worker-preserved g c =
    let i = c.loop-worker.invariant in let worker = c.in-Some.worker in
    let popped = c.in-Some.ensures.cases in
    record {
      shares = omega arith;
      tickets = omega arith;
      rows = omega arith;
      spare_shares = omega arith;
      spare_tickets = omega arith;
      spare_rows = omega arith;
      amounts = pushed_map _ _ _ _ _ worker.rows _ i.amounts (sym worker.settled) (search rules) (search rules);
      of_jobs = pushed_all (λ (t : HeldTicket). t.series ≡ g.J.RunJobs.series) _ _ worker.ticket i.of_jobs worker.of_jobs (search rules);
      numbers = pushed_map _ _ _ _ _ worker.rows _ i.numbers worker.numbers (search rules) (search (rules, map-append));
      done = pushed_all (λ (rs : Vec ReportRow Global). All (IsDrawnRow g.J.RunJobs.workers) rs.items) _ _ worker.rows i.done worker.done (search rules);
    }
