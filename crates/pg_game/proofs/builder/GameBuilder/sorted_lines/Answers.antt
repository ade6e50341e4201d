use Rattle.pg_game.proofs.Common.{◌≡◌, ℕ, rules}
use Rattle.std.proofs.lemmas.List.Sorted.{IsNonDecreasingBy-from_sort_by_key}
use Rattle.pg_game.proofs.SpecificationLists.{length_is, ids_is}
use Rattle.pg_game.proofs.builder.GameBuilder.sorted_lines.Goals as goal

pub numbered-requires : goal.numbered-requires
numbered-requires c = search (rules, length_is, c.as_slice.ensures.value, c.self.invariant, c.self.view_is, c.requires)

pub returns : goal.returns
returns c =
    let e : c.as_slice.result.now ≡ c.self.inside.ids.items = c.as_slice.ensures.value in
    rw (ids_is c.self.invariant c.self.view_is) record {
      paired = record {
        before = c.in_ok-lines.lines.items;
        size = rw e at c.in_ok-lines.ensures.size;
        each = rw e at c.in_ok-lines.ensures.each;
        moved = c.sort_unstable_by_key.ensures.permutation;
      };
      rising = IsNonDecreasingBy-from_sort_by_key (λ (line : ℕ × ℕ). line.0) c.sort_unstable_by_key.new.self.items c.sort_unstable_by_key.ensures.sorted
          (λ a r q k. search rules);
    }
