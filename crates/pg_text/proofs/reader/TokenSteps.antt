-- The reader of texts goes on, a token at a time.
use Rattle.pg_text.proofs.Common.{rules}
use Rattle.pg_text.proofs.Common.{◌≡◌, ℕ, Bool, true, false, List, [], ◌∷◌, ◌++◌, refl, sym, subst, arith, ◌<◌, ltb-true, ltb-false}
use Rattle.pg_text.proofs.Common.{Token, Placed, tokens_of, IsLexicalFault, IsSyntaxFault, placed, first_at}
use Rattle.pg_text.proofs.Common.{SpellsRest, IsBadFrom}
use Rattle.std.proofs.Common.{Option, Some, None}
use Rattle.std.specs.Prelude.{◌&&◌}
use Rattle.std.specs.Option.{is_none}
use Rattle.pg_text.specs.declared.reader.State.{State}
use Rattle.pg_text.specs.declared.reader.State.TheVariants.{Player}
use Rattle.pg_text.specs.private.FirstFault.{wrong_in}
use Rattle.pg_text.specs.private.Machine.{number_of, Enters}
use Rattle.pg_text.specs.private.Parsing.{Keeps, IsUnexpected}
use Rattle.pg_text.proofs.laws.ExclusiveFaults.{tokens_append}
use Rattle.pg_text.proofs.reader.TokenRuns.{reaches_more, later_fault}
use Rattle.pg_text.proofs.FirstFaults.{syntax_here, IsTaken, taken_none, taken_large, none_known, first_player-token}

both_none : (a b : Option ℕ) → (is_none a && is_none b) ≡ true → (a ≡ None) × (b ≡ None)
both_none None None e = (refl, refl)
both_none None (Some p) e = absurd (cc e)
both_none (Some p) b e = absurd (cc e)

player_wrong : (s : State) (value : ℕ) → wrong_in s value ≡ true → (s ≡ Player) × (1 < value)
player_wrong x0 value e = search (rules, ltb-true)

player_right : (s : State) (value : ℕ) → wrong_in s value ≡ false → s ≡ Player → value < 2
player_right s value e is = let h = ltb-false 1 value (subst (λ q. wrong_in q value ≡ false) is e) in omega (arith, h)

module _ {R : Type 0} {Reads : Bool → List Token → State → R → Type 0} {IsBefore : List Token → Type 0} {ts : List Placed} {state : State} {old : R}
    {large wrong : Option ℕ} (k : Keeps Reads IsBefore ts state old large wrong)
    (weaker : (sound later : Bool) (ts : List Token) (s : State) (it : R) → (later ≡ true → sound ≡ true) → Reads sound ts s it → Reads later ts s it) where
  -- the token was read
  pub token_kept : {place small : ℕ} {later : Option ℕ} (t : Token) → IsTaken t place large later small → (to : State) (new : R)
      → ((sound : Bool) (us : List Token) → Reads sound us state old → Enters Reads IsBefore sound us t to new small)
      → Keeps Reads IsBefore (ts ++ placed t place ∷ []) to new later (first_at wrong (wrong_in to small) place)
  token_kept {place} {small} {later} t taken to new enters =
      let wrong' = first_at wrong (wrong_in to small) place in
      let sound' = is_none later && is_none wrong' in
      let old_reads : Reads sound' (tokens_of ts) state old = search (rules, weaker, both_none, taken_none, none_known, k.reads) in
      record {
        reads = subst (λ us. Reads sound' us to new) (sym (tokens_append ts (placed t place ∷ []))) ((enters sound' (tokens_of ts) old_reads).reads (λ u.
            let (l, w) = both_none later wrong' u in
            let v = (none_known wrong (wrong_in to small) place w).1 in
            ((taken_none taken l).1, player_right to small v)));
        numbers = taken_large taken ts k.numbers;
        players = λ l.
            let (m, v) = taken_none taken l in
            first_player-token IsBefore ts wrong (wrong_in to small) t place (k.players m)
            (λ b w. (enters true (tokens_of ts) (let r = k.reads in rw (m, w) at r)).before refl (player_wrong to small b).0)
            (λ b. subst (λ n. 1 < n) v (player_wrong to small b).1);
      }

-- a text with a token that is not expected has a later lexical fault, or is at fault there
module _ {BeginsText : List Token → Type 0} {text : List ℕ} {from to : ℕ} (u : IsUnexpected BeginsText text from to) where
  pub unexpected_later : (bad : ℕ) → IsBadFrom text to bad → IsLexicalFault text bad
  unexpected_later bad b =
      later_fault text (u.before ++ placed u.token from ∷ []) to bad (reaches_more text 0 u.at from to u.before u.token u.reached u.stands) b

  pub unexpected_here : (IsText : List Token → Type 0) → SpellsRest text to → IsSyntaxFault BeginsText IsText text from
  unexpected_here IsText s = syntax_here BeginsText IsText text u.before u.at from to u.token u.reached u.stands s u.ends.begins u.ends.stops
