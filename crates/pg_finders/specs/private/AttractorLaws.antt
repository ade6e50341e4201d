-- The laws of `AttractorState` for the recursion's partition: free vertices are taken by no step, or by one step after another. An `impl` finds
-- the proofs of its laws in `specs` alone.
use Rattle.std.proofs.Common.{◌≡◌, ℕ, false, List, refl, sym, ◌∙◌, subst}
use Rattle.pg_game.specs.declared.player.Player.{Player}
use Rattle.pg_game.specs.Graph.{Graph}
use Rattle.pg_finders.specs.declared.recursion.partition.Partition.{Partition}
use Rattle.pg_finders.specs.private.recursion.Partition.{free_of, FitsPartition, HasFewerFree, KeepsBehind, KeepsFree}
use Rattle.pg_finders.specs.declared.recursion.settled.Tail.{Tail}
use Rattle.std.specs.Prelude.{length, min}
use Rattle.std.proofs.Common.{arith}

pub fewer_same : (t : Tail) (x : Partition) → HasFewerFree t x x
fewer_same t x = record { other = refl; own = refl; active = λ v i. i; rest = λ v i. i; free = λ v n. n }

pub fewer_then : {t : Tail} {x y z : Partition} → HasFewerFree t x y → HasFewerFree t y z → HasFewerFree t x z
fewer_then a b = record {
  other = b.other ∙ a.other;
  own = b.own ∙ a.own;
  active = λ v i. a.active v (b.active v i);
  rest = λ v i. a.rest v (b.rest v i);
  free = λ v n. b.free v (a.free v n);
}

pub partition_sized : (g : Graph) (x : Partition) (list : List ℕ) → FitsPartition (length g) x.free x list
    → min (length x.subgame.active) (length x.settled.places.items) ≡ length g
partition_sized g x list a = omega (arith, a.partition.sizes.active, a.partition.placed.size)

pub keeps_same : (g : Graph) (p : Player) (x : Partition) (list : List ℕ) → KeepsFree g p x list x list
keeps_same g p x list = (refl, fewer_same x.free x, λ first apart before old prefix h. h)

pub keeps_then : (g : Graph) (p : Player) (x y z : Partition) (xs ys zs : List ℕ) → KeepsFree g p x xs y ys → KeepsFree g p y ys z zs → KeepsFree g p x xs z zs
keeps_then g p x y z xs ys zs a b = (
  b.0 ∙ a.0,
  fewer_then a.1 (subst (λ t. HasFewerFree t y z) a.0 b.1),
  λ first apart before old prefix h.
      subst (λ t. KeepsBehind g p first t y ys z zs) a.0 (b.2 first (λ v i. subst (λ t. free_of t y v ≡ false) (sym a.0) (a.1.free v (apart v i))))
      before old prefix (a.2 first apart before old prefix h),
)
