use Rattle.pg_workers.proofs.Common.{arith, common_steps, rules, vec_len}
use Rattle.pg_workers.proofs.Counts.{numbers_more}
use Rattle.pg_workers.proofs.threads.new_workers.Goals as goal

pub loop-share-preserved : goal.loop-share-preserved
loop-share-preserved g c =
    let numbers = numbers_more (λ w. w.number) c.loop-share.workers.items c.push_reserved.new.self.items _ (vec_len c.loop-share.workers) (vec_len c.push_reserved.new.self)
    c.loop-share.invariant.numbers c.push_reserved.ensures.items (search rules) c.push_reserved.ensures.len in record {
      all = grind (arith, common_steps);
      shares = grind (arith, common_steps);
      tickets = grind (arith, common_steps);
      capacity = grind (arith, common_steps);
      numbers = numbers;
    }
