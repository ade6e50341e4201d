-- The settled vertices: a list for each player, with a table of the places of their numbers, as in a sparse set.
use Rattle.std.specs.Prelude.{ℕ, ◌≡◌, ◌<◌, ◌==◌, ◌&&◌, ◌^◌, not, Bool, List, length, slice_index_or, All, ◌-◌, take, drop}
use Rattle.std.proofs.Common.{nat_lt}
use Rattle.pg_game.specs.declared.player.Player.{Player}
use Rattle.pg_game.specs.declared.player.Player.TheVariants.{Even, Odd}
use Rattle.pg_finders.specs.private.recursion.Subgame.{Apart, listed}
use Rattle.pg_game.specs.VertexSet.{In}
use Rattle.pg_finders.specs.declared.recursion.settled.Settled.{Settled}
use Rattle.pg_finders.specs.declared.recursion.settled.Tail.{Tail}

-- the table has the place of each number of the list
abbrev pub HasPlaces : List ℕ → List ℕ → Type 0
HasPlaces places xs = (k : ℕ) → k < length xs → slice_index_or places (slice_index_or xs k 0) 0 ≡ k

-- whether the number is listed at its place in the table, from a place on
abbrev pub is_listed_from : List ℕ → List ℕ → ℕ → ℕ → Bool
is_listed_from places xs from v = (nat_lt (slice_index_or places v 0) (length xs) && not (nat_lt (slice_index_or places v 0) from))
    && (slice_index_or xs (slice_index_or places v 0) 0 == v)

-- a list for each player, of numbers below n, with one table for both; each place has 32 bits
pub record ArePlaced (n : ℕ) (places : List ℕ) (lists : Player → List ℕ) : Type 0 where
  pub size : length places ≡ n
  pub few : n < 2 ^ 32
  pub below : (p : Player) → All (λ v. v < n) (lists p)
  pub table : (p : Player) → HasPlaces places (lists p)
  pub players : Apart (lists Even) (lists Odd)

-- a list of vertices for each player
abbrev pub SettledLists : Type 0
SettledLists = Player → List ℕ

abbrev pub settled_of : Settled → SettledLists
settled_of x Even = x.even.items
settled_of x Odd = x.odd.items

-- the vertices of the tail
abbrev pub since : Tail → Settled → List ℕ
since t x = drop t.from (settled_of x t.player)

-- the vertices are below n, and the table has their places
abbrev pub IsPlaced : ℕ → Settled → Type 0
IsPlaced n x = ArePlaced n x.places.items (settled_of x)

-- the list is without the vertex: what is before a place from which on it is listed is as it was, and from there on only the vertex is gone
pub record IsWithout (v : ℕ) (old new : List ℕ) : Type 0 where
  pub len : length new ≡ length old - 1
  pub before : (k : ℕ) → In (listed (drop k old)) v → take k new ≡ take k old
  pub from : (k w : ℕ) → In (listed (drop k old)) v → listed (drop k new) w ≡ (listed (drop k old) w && not (v == w))
