use Rattle.pg_finders.proofs.Common.{◌≡◌, ℕ, zero, suc, ◌+◌, ◌-◌, ◌<◌, ◌≤◌, ◌++◌, List, [], ◌∷◌, length, sym, ◌∙◌, ap, arith, rules, range_with_len}
use Rattle.std.specs.Prelude.{slice_index}
use Rattle.std.proofs.lemmas.List.FromFn.{length-range_with_len, get_or-range_with_len}
use Rattle.pg_finders.proofs.finder.batch.Goals as goal

-- one more number of a range
range_more : (a n : ℕ) → range_with_len a (n + 1) ≡ range_with_len a n ++ (a + n) ∷ []
range_more a zero = let e : a ≡ a + 0 = omega arith in ap (λ (x : ℕ). x ∷ []) e
range_more a (suc n) = search (rules, range_more (a + 1) n)

range_below : (a m n : ℕ) (xs : List ℕ) → xs ≡ range_with_len a m → a + m ≤ n → (k : ℕ) → k < length xs → slice_index xs k < n
range_below a m n xs e l k h = search (rules, length-range_with_len, get_or-range_with_len)

pub loop-v-preserved : goal.loop-v-preserved
loop-v-preserved c =
    let first = c.args.first in
    let v = c.loop-v.v in
    let more : v + 1 - first ≡ (v - first) + 1 = omega (arith, c.loop-v.auto.v) in
    let next : first + (v - first) ≡ v = omega (arith, c.loop-v.auto.v) in
    let seeds : c.push.new.self.items ≡ range_with_len first (v + 1 - first) =
    c.in_ok-push.ensures.items
    ∙ (ap (λ (xs : List ℕ). xs ++ v ∷ []) c.loop-v.invariant.seeds
    ∙ (ap (λ (x : ℕ). range_with_len first (v - first) ++ x ∷ []) (sym next)
    ∙ (sym (range_more first (v - first)) ∙ ap (range_with_len first) (sym more))))
    in
    record {
      seeds = seeds;
      below = range_below first (v + 1 - first) c.args.n c.push.new.self.items seeds (omega (arith, c.loop-v.auto.v, c.loop-v-test.true, c.min-end.ensures));
    }
