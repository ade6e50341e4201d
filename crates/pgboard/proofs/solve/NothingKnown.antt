-- Where nothing is known, no known set is refused, and none attracts a vertex.
use Rattle.pgboard.proofs.Common.{◌≡◌, ℕ, zero, suc, false, [], ◌∷◌, length, refl, sym, arith, None, Even}
use Rattle.pgboard.proofs.Common.{replicate, Player, Odd, Graph, IsGame, Refusal}
use Rattle.pgboard.proofs.Common.{Contains-head, KnownRows, known_at, known_of, IsKnownRegion, HasCount}
use Rattle.pgboard.proofs.Common.{List, Contains, IsAttractedToKnown, IsKnownSize, IsSolveFault, RunFault, State}
use Rattle.std.proofs.Common.{◌↔◌}
use Rattle.pg_workers.proofs.KnownSets.{empty_region, none_attracted}
use Rattle.pg_workers.specs.KnownRegions.{KeepsKnown}
use Rattle.pg_workers.specs.declared.known.SolveFault.TheVariants as solving
use Rattle.pgboard.specs.declared.fault.RunFault.TheVariants as fault
use Rattle.pgboard.specs.private.Run.{IsNotSolved}

nothing_at : (n v : ℕ) → known_at (replicate n None) v ≡ None
nothing_at zero v = refl
nothing_at (suc n) zero = refl
nothing_at (suc n) (suc v) = nothing_at n v

no_size : (P : ℕ → Type 0) (n : ℕ) → ((v : ℕ) → P v → ⊥) → HasCount P n → n ≡ 0
no_size P n none count = go count.numbers count.all count.size
  where
    go : (vs : List ℕ) → ((v : ℕ) → Contains vs v ↔ P v) → length vs ≡ n → n ≡ 0
    go [] all size = sym size
    go (v ∷ vs) all size = absurd (none v ((all v).0 (Contains-head v vs)))

-- rows that say nothing keep nothing
pub nothing_kept : (g : Graph) (n : ℕ) (st : State) → KeepsKnown g (replicate n None) st
nothing_kept g n st p v i = absurd (let h = rw (nothing_at n v) at i in cc h)

-- rows that say nothing are regions, as no rows are
pub nothing_regions : (g : Graph) → IsGame g → (p : Player) → IsKnownRegion g (replicate (length g) None) p
nothing_regions g game p = empty_region g game (replicate (length g) None) p (λ v. rw (nothing_at (length g) v) refl)

module _ (g : Graph) (game : IsGame g) (known : KnownRows) (nothing : known ≡ []) where
  not_known : (p : Player) (v : ℕ) → known_of known p v ≡ false
  not_known p v = rw nothing refl

  pub never_refused : (p : Player) (e : Refusal) → IsSolveFault g known (solving.Known p e) → ⊥
  never_refused p e post = post.refused.no_region (empty_region g game known p (not_known p))

  -- only refused memory keeps such a game from being solved
  pub only_memory : (e : RunFault) → IsNotSolved g known e → e ≡ fault.Memory
  only_memory fault.Memory h = refl
  only_memory (fault.Known f) (p, reason, refused, names) = absurd (never_refused p reason refused)
  only_memory fault.Read h = absurd h
  only_memory fault.TooLong h = absurd h
  only_memory (fault.Game f) h = absurd h
  only_memory (fault.Solution f) h = absurd h
  only_memory fault.Write h = absurd h

  attracts_nothing : (p : Player) (n : ℕ) → HasCount (IsAttractedToKnown g known p) n → n ≡ 0
  attracts_nothing p n size = no_size (IsAttractedToKnown g known p) n (none_attracted g game known p (not_known p)) size

  pub settles_nothing : (n : ℕ) → IsKnownSize g known n → n ≡ 0
  settles_nothing n known_size =
      let none_of_even = attracts_nothing Even known_size.of_even known_size.even in
      let none_of_odd = attracts_nothing Odd known_size.of_odd known_size.odd in omega arith
