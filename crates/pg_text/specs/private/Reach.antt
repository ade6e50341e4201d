-- The tokens of a text up to a place, as the private lexer and readers know them.
use Rattle.std.specs.Prelude.{ℕ, ◌≡◌, List, [], ◌∷◌, drop}
use Rattle.pg_text.specs.Token.{Placed, Spells}
use Rattle.pg_text.specs.private.Lexeme.{IsToken, IsNoToken}

-- these tokens are in the text one after another, from one place to another
abbrev pub ReadsTo : List ℕ → ℕ → List Placed → ℕ → Type 0
ReadsTo text at [] to = to ≡ at
ReadsTo text at (t ∷ ts) to = (mid : ℕ) × IsToken text at t.place mid t.token × ReadsTo text mid ts to

-- the text spells tokens from the place to its end
abbrev pub SpellsRest : List ℕ → ℕ → Type 0
SpellsRest text at = (ts : List Placed) × Spells at (drop at text) ts

-- after some tokens from the place on, a byte begins no token, or a quote is not closed
abbrev pub IsBadFrom : List ℕ → ℕ → ℕ → Type 0
IsBadFrom text at bad = (ts : List Placed) × (stop : ℕ) × ReadsTo text at ts stop × IsNoToken text stop bad
