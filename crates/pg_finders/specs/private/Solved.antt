-- The winners of a subgame's vertices, and their choices (Zielonka 1998).
use Rattle.std.specs.Prelude.{ℕ, ◌≡◌, ◌<◌, ◌≤◌, ◌&&◌, false, Option, Some, None}
use Rattle.pg_game.specs.declared.player.Player.{Player}
use Rattle.pg_game.specs.Player.{opponent, same_player, of_parity}
use Rattle.pg_game.specs.Graph.{Graph, HasEdge, owner_of, priority_of}
use Rattle.pg_game.specs.VertexSet.{VertexSet, In, Within, without}
use Rattle.pg_game.specs.Subgame.{IsSubgame}
use Rattle.pg_game.specs.Kept.{Choices}
use Rattle.pg_game.specs.Region.{OnlyGoodWalks}

abbrev pub Winners : Type 0
Winners = ℕ → Player

-- the vertices of the set that the player wins
abbrev pub won_inside : VertexSet → Winners → Player → VertexSet
won_inside U won p v = U v && same_player (won v) p

-- the player wins on X inside U: his choices stay in X, the opponent cannot leave X inside U, and closed walks are good
pub record WinsOn (g : Graph) (U : VertexSet) (p : Player) (X : VertexSet) (s : Choices) : Type 0 where
  pub within : Within X U
  pub choices : (v : ℕ) → In X v → owner_of g v ≡ p → (w : ℕ) × (s v ≡ Some w) × HasEdge g v w × In X w
  pub closed : (v w : ℕ) → In X v → owner_of g v ≡ opponent p → HasEdge g v w → In U w → In X w
  pub good : OnlyGoodWalks g p X s

-- each player wins inside U on his vertices
abbrev pub IsSolvedInside : Graph → VertexSet → Winners → Choices → Type 0
IsSolvedInside g U won s = (p : Player) → WinsOn g U p (won_inside U won p) s

-- the same outside R: each player wins on his vertices there, and no vertex of R has an edge to vertices that its owner wins there
pub record IsSolvedTo (g : Graph) (U R : VertexSet) (won : Winners) (s : Choices) : Type 0 where
  pub rest : Within R U
  pub holds : (p : Player) → WinsOn g U p (won_inside (without U R) won p) s
  pub away : (v w : ℕ) → In R v → HasEdge g v w → In (without U R) w → won w ≡ opponent (owner_of g v)

-- A is what the player attracts to T in U: it attracts nothing more, and where A is not T the choices lead to smaller ranks
pub record IsAttracted (g : Graph) (p : Player) (U T A : VertexSet) (s : Choices) (rank : ℕ → ℕ) : Type 0 where
  pub inside : Within A U
  pub target : Within T A
  pub own : (v w : ℕ) → In U v → owner_of g v ≡ p → HasEdge g v w → In A w → In A v
  pub forced : (v : ℕ) → In U v → owner_of g v ≡ opponent p → ((w : ℕ) → HasEdge g v w → In U w → In A w) → In A v
  pub leads : (v : ℕ) → In A v → T v ≡ false → owner_of g v ≡ p → (w : ℕ) × (s v ≡ Some w) × HasEdge g v w × In A w × (rank w < rank v)
  pub pushed : (v w : ℕ) → In A v → T v ≡ false → owner_of g v ≡ opponent p → HasEdge g v w → In U w → In A w × (rank w < rank v)

-- U is begun: the target T attracts for the player, and L is the rest of U; the targets have his parity, and all other vertices of U are less
pub record IsBegun (g : Graph) (U T L : VertexSet) (p : Player) (won : Winners) (s : Choices) : Type 0 where
  pub subgame : IsSubgame g U
  pub within : Within L U
  pub rank : ℕ → ℕ
  pub parity : (t : ℕ) → In T t → of_parity (priority_of g t) ≡ p
  pub below : (t v : ℕ) → In T t → In U v → T v ≡ false → priority_of g v < priority_of g t
  pub attracted : IsAttracted g p U T (without U L) s rank
  pub chosen : (v : ℕ) → In T v → owner_of g v ≡ p → (w : ℕ) × (s v ≡ Some w) × HasEdge g v w × In U w
  pub his : (v : ℕ) → In (without U L) v → won v ≡ p
  pub some : (t : ℕ) × In T t

-- among the vertices of U below i the greatest priority; none where there are no such vertices
abbrev pub IsTop : Graph → VertexSet → ℕ → Option ℕ → Type 0
IsTop g U i None = (v : ℕ) → v < i → U v ≡ false
IsTop g U i (Some d) = ((v : ℕ) × (v < i) × In U v × (priority_of g v ≡ d)) × ((v : ℕ) → v < i → In U v → priority_of g v ≤ d)
