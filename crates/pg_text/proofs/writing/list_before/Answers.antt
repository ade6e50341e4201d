use Rattle.pg_text.proofs.Common.{◌≡◌, ◌∙◌, ◌-◌, ◌++◌, ◌∷◌, ap, arith, List, ℕ, numeral, drop, get_or, id_of, append_assoc, rules, drop_more}
use Rattle.std.proofs.Common.{flat_map}
use Rattle.pg_text.proofs.writing.NumberLists.{list_whole, same_front}
use Rattle.pg_text.proofs.writing.list_before.Goals as goal

pub vertices-preserved : goal.vertices-preserved
vertices-preserved c =
    let f : ℕ → List ℕ = λ w. numeral (id_of c.args.game.now w) in
    let i = c.vertices.invariant in
    let number = c.number_before-at.ensures in
    let comma = c.byte_before-at.ensures in
    record {
      some = omega arith;
      within = omega arith;
      capacity = let n = number.near in let p = comma.place in omega arith;
      near = let n = number.near in let p = comma.place in omega arith;
      before = let n = number.before in let p = comma.place in omega arith;
      size = comma.line.size ∙ (number.size ∙ i.size);
      written = comma.line.written ∙ (ap (λ xs. 44 ∷ xs)
          (number.written ∙ (ap (λ n. numeral n ++ drop c.vertices.at c.vertices.line) c.id.ensures
          ∙ ap (λ xs. f (get_or c.args.vertices.now (c.vertices.left - 1) 0) ++ xs) i.written))
          ∙ (search (rules, drop_more, append_assoc)));
      kept = same_front c.byte_before-at.result c.number_before-at.result _ _ _ (omega (arith, comma.place)) comma.line.kept
          (same_front c.number_before-at.result c.vertices.at _ _ _ number.before number.kept i.kept);
    }

pub returns : goal.returns
returns c =
    let f : ℕ → List ℕ = λ w. numeral (id_of c.args.game.now w) in
    let i = c.vertices.invariant in
    let number = c.number_before.ensures in
    let one : c.vertices.left ≡ 1 = omega arith in
    record {
      written = number.written ∙ (ap (λ n. numeral n ++ drop c.vertices.at c.vertices.line) c.id-first.ensures
          ∙ (ap (λ xs. f (get_or c.args.vertices.now 0 0) ++ xs) i.written
          ∙ (ap (λ n. f (get_or c.args.vertices.now 0 0) ++ (flat_map (λ w. 44 ∷ f w) (drop n c.args.vertices.now) ++ drop c.args.end c.args.line.now)) one
          ∙ list_whole f c.args.vertices.now (drop c.args.end c.args.line.now) c.requires.some)));
      near = let n = number.near in omega arith;
      before = let n = number.before in omega arith;
      kept = same_front c.number_before.result c.vertices.at _ _ _ number.before number.kept i.kept;
      size = number.size ∙ i.size;
    }
