-- Where the recursion goes back, since the opponent has won something in the rest of a subgame; and the frame that is pushed for it.
use Rattle.std.specs.Prelude.{ℕ, ◌≡◌, ◌≤◌, ◌+◌, ◌-◌, ◌⊎◌, false, Some, List, [], ◌∷◌, ◌++◌, length, take, drop}
use Rattle.pg_game.specs.declared.player.Player.{Player}
use Rattle.pg_game.specs.declared.player.Player.TheVariants.{Even, Odd}
use Rattle.pg_game.specs.Player.{opponent}
use Rattle.pg_game.specs.Graph.{Graph, HasEdge, owner_of}
use Rattle.pg_game.specs.VertexSet.{VertexSet, In, Within, union, without}
use Rattle.pg_finders.specs.declared.recursion.Frame.{Frame}
use Rattle.pg_finders.specs.declared.recursion.Solver.{Solver}
use Rattle.pg_finders.specs.declared.recursion.settled.Tail.{Tail}
use Rattle.pg_finders.specs.declared.recursion.partition.Partition.{Partition}
use Rattle.pg_finders.specs.declared.recursion.subgame.Plan.{Plan}
use Rattle.pg_dominion.specs.AttractorState.{AttractsNoFurther}
use Rattle.pg_finders.specs.private.Solved.{IsAttracted}
use Rattle.pg_finders.specs.private.recursion.Subgame.{listed, Once, Apart, winners_of, choices_of, SameAt, SameOutside, active_of}
use Rattle.pg_finders.specs.private.recursion.Solver.{Level, count_at, tail_at, level_at}
use Rattle.pg_finders.specs.private.recursion.Order.{AreVertices}
use Rattle.pg_finders.specs.private.recursion.Partition.{IsPartition, AttractsFree, place, HasTaken}
use Rattle.pg_finders.specs.private.recursion.Settled.{SettledLists, settled_of, since}

-- what the frame has set aside, of all that is, and the greatest of it
abbrev pub aside_of : Frame → List ℕ → List ℕ
aside_of f xs = take (f.set_aside_upto - f.set_aside_from) (drop f.set_aside_from xs)

abbrev pub greatest_of : Frame → List ℕ → List ℕ
greatest_of f xs = take (f.tops_upto - f.set_aside_from) (drop f.set_aside_from xs)

-- what was set aside is active again; in the rest of the level its player has won the one tail, and the opponent the other
pub record IsReopened (n : ℕ) (level : Level) (aside lost won : List ℕ) (t u : Tail) (old : Plan) (x : Partition) : Type 0 where
  pub partition : IsPartition n x
  pub player : t.player ≡ level.player
  pub other : u.player ≡ opponent level.player
  pub has_won : since t x.settled ≡ won
  pub has_lost : since u x.settled ≡ lost
  pub active : (v : ℕ) → active_of x.subgame v ≡ listed aside v
  pub plan : x.subgame.plan ≡ old

-- In the rest of the level the opponent had won `lost` and the player `won`. The opponent has `taken` what he attracts, so B is lost ++ taken. The
-- first k of those set `aside` are the greatest that are left, and they attract the others (A'); of what he had won the player has `kept` some (X);
-- all else is active.
pub record IsShrunk (g : Graph) (level : Level) (lost won : List ℕ) (old : Plan) (taken aside : List ℕ) (k : ℕ) (kept : List ℕ) (active : VertexSet)
    (new : Plan) : Type 0 where
  pub rank : ℕ → ℕ
  pub attracted : IsAttracted g (opponent level.player) level.inside (listed lost) (listed (lost ++ taken)) (choices_of new) rank
  pub taken_once : Once taken
  pub taken_apart : Apart lost taken
  pub taken_his : (v : ℕ) → In (listed taken) v → winners_of new v ≡ opponent level.player
  -- (among A \ B, which is enough: what is attracted in U \ B is there, as KeptSubgames proves)
  pub again : IsAttracted g level.player (without (without level.inside level.left) (listed (lost ++ taken))) (without level.tops (listed (lost ++ taken)))
      (listed aside) (choices_of new) (place aside)
  pub few : k ≤ length aside
  pub tops : (v : ℕ) → listed (take k aside) v ≡ without level.tops (listed (lost ++ taken)) v
  pub chosen : (v : ℕ) → In (listed (take k aside)) v → owner_of g v ≡ level.player
      → (w : ℕ) × (choices_of new v ≡ Some w) × HasEdge g v w × In (without level.inside (listed (lost ++ taken))) w
  pub aside_once : Once aside
  pub aside_his : (v : ℕ) → In (listed aside) v → winners_of new v ≡ level.player
  pub kept_was : Within (listed kept) (without (listed won) (listed (lost ++ taken)))
  pub rests : (v w : ℕ) → In (listed kept) v → HasEdge g v w → (owner_of g v ≡ opponent level.player) ⊎ (choices_of new v ≡ Some w)
      → (active w ≡ false) × (listed taken w ≡ false)
  pub active_is : (v : ℕ) → active v ≡ without (without (without level.inside (listed (lost ++ taken))) (listed aside)) (listed kept) v
  pub outside : SameOutside level.inside old new
  pub same_lost : (v : ℕ) → In (listed lost) v → SameAt old new v
  pub same_kept : (v : ℕ) → In (listed kept) v → SameAt old new v

-- only the partition and the list have changed
pub record KeepsLists (x x' : Solver) : Type 0 where
  pub frames : x'.frames ≡ x.frames
  pub set_aside : x'.set_aside ≡ x.set_aside
  pub order : x'.order ≡ x.order
  pub opened : x'.opened ≡ x.opened
  pub size : x'.size ≡ x.size

-- the opponent has taken what he attracts of what is free, once the frame's level is reopened
pub record Loses (g : Graph) (U : VertexSet) (f : Frame) (x x' : Solver) : Type 0 where
  pub freed : Partition
  pub reopened : IsReopened (length g) (level_at U (settled_of x.partition.settled) x.set_aside.items f) (aside_of f x.set_aside.items)
      (since (tail_at f (opponent f.player)) x.partition.settled) (since (tail_at f f.player) x.partition.settled) (tail_at f f.player)
      (tail_at f (opponent f.player)) x.partition.subgame.plan freed
  pub settled : freed.settled ≡ x.partition.settled
  pub attracts : AttractsFree g (tail_at f f.player) (tail_at f (opponent f.player)) freed x'.partition x'.list.items
  pub partition : IsPartition (length g) x'.partition
  pub kept : KeepsLists x x'

-- the solver has done so with the level of the frame
pub record Shrinks (g : Graph) (U : VertexSet) (f : Frame) (x x' : Solver) (k : ℕ) : Type 0 where
  pub taken : List ℕ
  pub shrunk : IsShrunk g (level_at U (settled_of x.partition.settled) x.set_aside.items f)
      (since (tail_at f (opponent f.player)) x.partition.settled) (since (tail_at f f.player) x.partition.settled) x.partition.subgame.plan taken x'.list.items k
      (since (tail_at f f.player) x'.partition.settled) (active_of x'.partition.subgame) x'.partition.subgame.plan
  pub lost : settled_of x'.partition.settled (opponent f.player) ≡ settled_of x.partition.settled (opponent f.player) ++ taken
  pub before : take (count_at f f.player) (settled_of x'.partition.settled f.player) ≡ take (count_at f f.player) (settled_of x.partition.settled f.player)
  pub partition : IsPartition (length g) x'.partition
  pub opened_right : AreVertices g x'.opened.items
  pub opened_once : Once x'.opened.items
  pub opened_all : Within (active_of x'.partition.subgame) (listed x'.opened.items)
  pub set_aside : x'.set_aside.items ≡ take f.set_aside_from x.set_aside.items
  pub frames : x.frames.items ≡ x'.frames.items ++ f ∷ []
  pub order : x'.order ≡ x.order
  pub size : x'.size ≡ x.size

-- the frame of a subgame whose attractor is listed, the first k the greatest, after those that are set aside
abbrev pub frame_of : Player → ℕ → ℕ → ℕ → Solver → Frame
frame_of p k even odd x = record {
  player = p;
  even = even;
  odd = odd;
  set_aside_from = length x.set_aside.items;
  tops_upto = length x.set_aside.items + k;
  set_aside_upto = length (x.set_aside.items ++ x.list.items);
}

-- the listed vertices are set aside, and their subgame waits
pub record PushesFrame (p : Player) (k even odd : ℕ) (x x' : Solver) : Type 0 where
  pub frames : x'.frames.items ≡ x.frames.items ++ frame_of p k even odd x ∷ []
  pub set_aside : x'.set_aside.items ≡ x.set_aside.items ++ x.list.items
  pub partition : x'.partition ≡ x.partition
  pub order : x'.order ≡ x.order
  pub opened : x'.opened ≡ x.opened
  pub size : x'.size ≡ x.size

-- of the frame's player those that were settled when the subgame was begun, of the other one all that are settled
abbrev pub count_again : Frame → SettledLists → Player → Player → ℕ
count_again f settled Even Even = f.even
count_again f settled Even Odd = length (settled Odd)
count_again f settled Odd Even = length (settled Even)
count_again f settled Odd Odd = f.odd

-- nothing has changed if no vertex is the greatest
abbrev pub PushesFrameAgain : Frame → ℕ → Solver → Solver → Type 0
PushesFrameAgain f k x x' = ((k ≡ 0) × (x' ≡ x))
    ⊎ ((1 ≤ k) × PushesFrame f.player k (count_again f (settled_of x.partition.settled) f.player Even) (count_again f (settled_of x.partition.settled) f.player Odd)
    x x')

-- the tail's player has attracted active vertices to it, unless it is empty
pub record WinsBack (g : Graph) (t : Tail) (x x' : Partition) : Type 0 where
  pub more : List ℕ
  pub grown : HasTaken g t.player (active_of x.subgame) x.subgame.plan (since t x.settled) (active_of x'.subgame) x'.subgame.plan (since t x.settled ++ more)
  pub done : ((since t x.settled ≡ []) × (more ≡ []))
      ⊎ AttractsNoFurther g t.player (union (active_of x.subgame) (listed (since t x.settled))) (listed (since t x.settled ++ more))
      (listed (since t x.settled ++ more))
  pub own : settled_of x'.settled t.player ≡ settled_of x.settled t.player ++ more
  pub other : settled_of x'.settled (opponent t.player) ≡ settled_of x.settled (opponent t.player)
