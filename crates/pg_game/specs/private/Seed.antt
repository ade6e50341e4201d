-- The seed of the hashers of identifiers: a hash of all of them.
use Rattle.std.specs.Prelude.{ℕ, List, fold}
use Rattle.std.specs.Hash.{u64}
use Rattle.std.specs.Hash.DefaultHasher as sip
use Rattle.std.specs.Hash.FoldHasher as folding
use Rattle.std.specs.declared.hash.DefaultHasher.{DefaultHasher}
use Rattle.std.specs.declared.hash.FoldHasher.{FoldHasher}

-- a hasher that has read these identifiers, in their order
abbrev pub read_all : List ℕ → DefaultHasher
read_all ids = fold (λ s id. fold sip.write s (u64 id)) sip.initial ids

-- a hasher that has read their hash
abbrev pub seeded_by : List ℕ → FoldHasher
seeded_by ids = fold folding.write folding.initial (u64 (sip.finish (read_all ids)))
