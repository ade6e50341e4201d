-- The solver in its loop: the subgames that wait, in lists that they share, and the steps that are left.
use Rattle.std.specs.Prelude.{List, [], ◌∷◌, ℕ, ◌≡◌, ◌≤◌, ◌&&◌, ◌||◌, not, length, take, drop, map, ◌+◌, ◌-◌, ◌<◌, Bool, false, ◌++◌, Option, None, Some, IsSome, IfSome}
use Rattle.pg_game.specs.declared.player.Player.{Player}
use Rattle.pg_game.specs.Graph.{Graph}
use Rattle.pg_game.specs.VertexSet.{VertexSet, In, members, how_many}
use Rattle.pg_game.specs.Kept.{Choices}
use Rattle.pg_finders.specs.private.Solved.{Winners, IsSolvedTo, IsBegun}
use Rattle.pg_game.specs.declared.player.Player.TheVariants.{Even, Odd}
use Rattle.pg_finders.specs.declared.recursion.Frame.{Frame}
use Rattle.pg_finders.specs.private.recursion.Subgame.{listed, Once, Apart, winners_of, choices_of, active_of, HasSizes}
use Rattle.pg_finders.specs.private.recursion.Settled.{SettledLists, settled_of, IsPlaced}
use Rattle.pg_finders.specs.declared.recursion.settled.Tail.{Tail}
use Rattle.pg_game.specs.Subgame.{IsSubgame}
use Rattle.pg_finders.specs.declared.recursion.Solver.{Solver}
use Rattle.pg_finders.specs.Steps.{work}
use Rattle.pg_finders.specs.private.recursion.Order.{IsOrder}

-- a subgame that is begun: its vertices, the greatest of them, the rest, the player of the greatest priority
pub record Level : Type 0 where
  pub inside : VertexSet
  pub tops : VertexSet
  pub left : VertexSet
  pub player : Player

-- U is solved up to the first level's subgame, the rest of each level up to the next one's subgame, and the rest of the last up to R
abbrev pub AreLevels : Graph → VertexSet → List Level → VertexSet → Winners → Choices → Type 0
AreLevels g U [] R won s = IsSolvedTo g U R won s
AreLevels g U (f ∷ fs) R won s = IsSolvedTo g U f.inside won s × IsBegun g f.inside f.tops f.left f.player won s × AreLevels g f.left fs R won s

-- the vertices of the lists
abbrev pub gone : SettledLists → List ℕ → VertexSet
gone settled set_aside v = (listed (settled Even) v || listed (settled Odd) v) || listed set_aside v

-- the vertices of the set that are in no list
abbrev pub part : VertexSet → SettledLists → List ℕ → VertexSet
part U settled set_aside v = U v && not (gone settled set_aside v)

-- how many were settled for the player when the subgame was begun
abbrev pub count_at : Frame → Player → ℕ
count_at f Even = f.even
count_at f Odd = f.odd

-- what was settled for the player since
abbrev pub tail_at : Frame → Player → Tail
tail_at f p = record { player = p; from = count_at f p }

abbrev pub prefix : Frame → SettledLists → SettledLists
prefix f settled p = take (count_at f p) (settled p)

-- the level that waits at this place
abbrev pub level_at : VertexSet → SettledLists → List ℕ → Frame → Level
level_at U settled set_aside f = record {
  inside = part U (prefix f settled) (take f.set_aside_from set_aside);
  tops = listed (drop f.set_aside_from (take f.tops_upto set_aside));
  left = part U (prefix f settled) (take f.set_aside_upto set_aside);
  player = f.player;
}

-- the attractors follow one another from the first place to the last, and the numbers settled do not fall, from i to n
abbrev pub Linked : (Player → ℕ) → (Player → ℕ) → ℕ → List Frame → ℕ → Type 0
Linked i n first [] last = ((p : Player) → i p ≤ n p) × (first ≡ last)
Linked i n first (f ∷ fs) last = ((p : Player) → i p ≤ count_at f p) × (f.set_aside_from ≡ first) × ((f.set_aside_from ≤ f.tops_upto) × (f.tops_upto ≤ f.set_aside_upto)) × Linked (count_at f) n f.set_aside_upto fs last

-- no vertex is listed twice
pub record AreApart (settled : SettledLists) (set_aside : List ℕ) : Type 0 where
  pub settled_once : (p : Player) → Once (settled p)
  pub aside_once : Once set_aside
  pub players : Apart (settled Even) (settled Odd)
  pub aside_apart : (p : Player) → Apart (settled p) set_aside

-- the run of the loop: what is active, what is settled, what is set aside, and where subgames wait
pub record AreOpenLevels (g : Graph) (U active : VertexSet) (settled : SettledLists) (set_aside : List ℕ) (frames : List Frame) (won : Winners)
    (s : Choices) : Type 0 where
  pub linked : Linked (λ p. 0) (λ p. length (settled p)) 0 frames (length set_aside)
  pub apart : AreApart settled set_aside
  pub listed_inside : (v : ℕ) → In (gone settled set_aside) v → In U v
  pub active_is : (v : ℕ) → active v ≡ part U settled set_aside v
  pub his : (p : Player) (v : ℕ) → In (listed (settled p)) v → won v ≡ p
  pub waits : AreLevels g U (map (level_at U settled set_aside) frames) active won s

-- the solver is under way in the mask
pub record IsSolverState (g : Graph) (inside : List Bool) (solver : Solver) : Type 0 where
  pub inside_length : length inside ≡ length g
  pub whole : solver.size ≡ how_many inside
  pub sizes : HasSizes (length g) solver.partition.subgame
  pub subgame : IsSubgame g (active_of solver.partition.subgame)
  pub order : IsOrder g (active_of solver.partition.subgame) solver.order
  pub placed : IsPlaced (length g) solver.partition.settled
  pub open_levels : AreOpenLevels g (members inside) (active_of solver.partition.subgame) (settled_of solver.partition.settled) solver.set_aside.items
      solver.frames.items (winners_of solver.partition.subgame.plan) (choices_of solver.partition.subgame.plan)

-- it is at the end of the subgame that waits last, which is the frame's: no vertex is active
pub record IsAtEnd (g : Graph) (inside : List Bool) (solver : Solver) (frame : Frame) : Type 0 where
  pub running : IsSolverState g inside solver
  pub before : List Frame
  pub last : solver.frames.items ≡ before ++ frame ∷ []
  pub none : (v : ℕ) → active_of solver.partition.subgame v ≡ false

-- the number of vertices of the lists
abbrev pub how_many_gone : SettledLists → List ℕ → ℕ
how_many_gone settled set_aside = length (settled Even) + length (settled Odd) + length set_aside

-- the steps that are left after one; without a limit there is still none
abbrev pub after_step : Option ℕ → Option ℕ
after_step None = None
after_step (Some n) = Some (n - 1)

-- not more steps are left than before, and still no limit where there was none
abbrev pub AreFewer : Option ℕ → Option ℕ → Type 0
AreFewer None left = left ≡ None
AreFewer (Some n) left = IfSome left (λ m. m ≤ n) × IsSome left

-- fewer steps are left than before, where there is a limit
abbrev pub HasStepped : Option ℕ → Option ℕ → Type 0
HasStepped None left = Unit {0}
HasStepped (Some n) left = IfSome left (λ m. m < n) × IsSome left

-- where a vertex is inside, one is active: a step remains to be taken
abbrev pub HasMore : List Bool → Solver → Type 0
HasMore inside x = (v : ℕ) → In (members inside) v → (u : ℕ) × In (active_of x.partition.subgame) u

-- the number of steps that are left; 0 without a limit
abbrev pub number_left : Option ℕ → ℕ
number_left None = 0
number_left (Some n) = n

-- one more step was needed than were left: all of these are taken, and the solver is still under way
pub record HasStopped (g : Graph) (inside : List Bool) (left left' : Option ℕ) (x x' : Solver) : Type 0 where
  pub running : IsSolverState g inside x'
  pub none_left : left' ≡ Some 0
  pub more : (v : ℕ) × In (active_of x'.partition.subgame) v
  pub spent : work g inside x' + number_left left ≤ work g inside x
