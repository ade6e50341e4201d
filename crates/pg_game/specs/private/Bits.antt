-- The words that hold a set.
use Rattle.std.specs.Prelude.{◌≡◌, ℕ, ◌<◌, ◌≤◌, ◌^◌, List, length, false}
use Rattle.std.specs.Int.{div_ceil}
use Rattle.pg_game.specs.Bits.{bit_of}

-- as many words as n bits need, with no further bit set
pub record FitBits (words : List ℕ) (n : ℕ) : Type 0 where
  pub short : n < 2 ^ 32
  pub size : length words ≡ div_ceil n 64
  pub none : (v : ℕ) → n ≤ v → bit_of words v ≡ false

-- the same, which a proof has to unfold, since it is among the facts of each call that drops a mask
unfoldable pub AreWords : List ℕ → ℕ → Type 0
AreWords words n = FitBits words n
