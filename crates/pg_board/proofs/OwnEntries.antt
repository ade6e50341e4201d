-- What a board adds of its own accord, as worker 0: for each player at most one entry, and together they settle all that was left.
use Rattle.pg_board.proofs.Common.{rules, ◌≡◌, ℕ, List, Bool, Option, Some, true, false, ◌<◌, [], ◌∷◌, ◌++◌, length, refl, sym, ◌∙◌, ap, subst, arith}
use Rattle.pg_board.proofs.Common.{fun_ext, length-append, append-nil, append_assoc, map-append, take-append-le, or_cases, or_right, target_attracted}
use Rattle.pg_board.proofs.Common.{VertexSet, Player, Even, Odd, Graph, IsGame, ClaimRows, Claim, IsGoodIn, Entry, Posted, BoardRecord, unsettled}
use Rattle.pg_board.proofs.Common.{is_unsettled, Journal, state_of, IsDominionAfter, IsLawful, IsFull, Adds, Refusal, Err}
use Rattle.std.proofs.Common.{map}
use Rattle.std.specs.Prelude.{filter}
use Rattle.pg_game.proofs.AllElements.{all-append}
use Rattle.pg_finders.specs.Claims.{AreClaims}
use Rattle.pg_board.specs.Finish.{AreOfCaller, IsLater, IsContinued}
use Rattle.pg_board.specs.Post.{SettlesDominion, SettlesUnlessMemory}
use Rattle.pg_board.specs.declared.journal.Refusal.TheVariants as refusal
use Rattle.pg_board.specs.private.Contents.{Settles}
use Rattle.pg_board.proofs.PushedEntry.{settled_shut}
use Rattle.pg_board.proofs.Dominion.{state_append}
use Rattle.pg_board.proofs.Copies.{dominion_now}

-- a claim's vertices are settled once it was posted
pub settles_claim : (old new : BoardRecord) (p : Player) (rows : ClaimRows) → SettlesDominion old new p rows → Settles new.journal p rows
settles_claim old new p rows s = search (rules, target_attracted, or_right)

-- further entries change nothing of what came before
dominion_later : (g : Graph) (journal added : Journal) (k : ℕ) (p : Player) (rows : ClaimRows) → IsDominionAfter g journal k p rows
    → IsDominionAfter g (journal ++ added) k p rows
dominion_later g journal added k p rows h0 = grind (arith, length-append, take-append-le)

pub stays_shut : (journal added : Journal) (v : ℕ) → is_unsettled (state_of journal v) ≡ false → is_unsettled (state_of (journal ++ added) v) ≡ false
stays_shut journal added v h = ap is_unsettled (state_append journal added v ∙ rw h refl) ∙ h

-- where two claims share out what was unsettled, all is settled once both were posted
full_after : (g : Graph) (journal first second : Journal) (U : VertexSet) (even odd : Claim) → ((v : ℕ) → U v ≡ unsettled g (state_of journal) v)
    → AreClaims g U even odd → Settles (journal ++ first) even.player even.rows → Settles (journal ++ first ++ second) odd.player odd.rows
    → IsFull g (state_of (journal ++ first ++ second))
full_after g journal first second U even odd is claims a b = grind (arith, stays_shut, or_cases, settled_shut)

-- where both claims were posted, nothing is left
pub all_settled : (old mid new : BoardRecord) (ps qs : List Player) (even odd : Claim) → IsLater ps old mid → IsLater qs mid new
    → AreClaims old.graph (unsettled old.graph (state_of old.journal)) even odd → Settles mid.journal even.player even.rows
    → Settles new.journal odd.player odd.rows → IsFull new.graph (state_of new.journal)
all_settled old mid new ps qs even odd first second claims a b =
    let j : new.journal ≡ old.journal ++ first.added ++ second.added = second.journal ∙ ap (λ (x : Journal). x ++ second.added) first.journal in
    let full = full_after old.graph old.journal first.added second.added (unsettled old.graph (state_of old.journal)) even odd (λ v. refl) claims
    (subst (λ (x : Journal). Settles x even.player even.rows) first.journal a) (subst (λ (x : Journal). Settles x odd.player odd.rows) j b) in
    search rules

-- the claims of a copy share out the unsettled part
pub shared_out : (x : BoardRecord) (h : Graph) (U : VertexSet) (even odd : Claim) → h ≡ x.graph → ((v : ℕ) → U v ≡ unsettled x.graph (state_of x.journal) v)
    → AreClaims h U even odd → AreClaims x.graph (unsettled x.graph (state_of x.journal)) even odd
shared_out x h U even odd graph mask claims =
    subst (λ (g : Graph). AreClaims g (unsettled x.graph (state_of x.journal)) even odd) graph
    (subst (λ (S : VertexSet). AreClaims h S even odd) (fun_ext mask) claims)

-- two claims that share out the unsettled part are dominions, and Odd's still is after further entries
module _ (g : Graph) (j : Journal) (game : IsGame g) (lawful : IsLawful g j) (even odd : Claim)
    (claims : AreClaims g (unsettled g (state_of j)) even odd) where
  abbrev Good : Player → ClaimRows → Type 0
  Good p rows = IsGoodIn g (unsettled g (state_of j)) p rows

  pub even_due : 0 < length even.rows → (k : ℕ) × IsDominionAfter g j k even.player even.rows
  even_due some = (
    length j,
    dominion_now g game j lawful even.player even.rows
        (subst (λ (p : Player). Good p even.rows) (sym claims.even_player) (claims.even_good some)),
  )

  pub odd_due : (added now : Journal) → now ≡ j ++ added → 0 < length odd.rows → (k : ℕ) × IsDominionAfter g now k odd.player odd.rows
  odd_due added now is some = (
    length j,
    subst (λ (x : Journal). IsDominionAfter g x (length j) odd.player odd.rows) (sym is)
        (dominion_later g j added (length j) odd.player odd.rows (dominion_now g game j lawful odd.player odd.rows
        (subst (λ (p : Player). Good p odd.rows) (sym claims.odd_player) (claims.odd_good some)))),
  )

-- one entry for the player
one_of_caller : (e : Entry) (p : Player) → e.worker ≡ 0 → e.player ≡ p → AreOfCaller (p ∷ []) (e ∷ [])
one_of_caller e p worker player = record { worker = search rules; posted = λ _. true; order = ap (λ (q : Player). q ∷ []) player }

none_of : (ps : List Player) → [] ≡ filter (λ (_ : Player). false) ps
none_of [] = refl
none_of (p ∷ ps) = none_of ps

abbrev for_each : Bool → Bool → Player → Bool
for_each even odd Even = even
for_each even odd Odd = odd

those : (even odd : Bool) → filter (λ (_ : Player). even) (Even ∷ []) ++ filter (λ (_ : Player). odd) (Odd ∷ []) ≡ filter (for_each even odd) (Even ∷ Odd ∷ [])
those true true = refl
those true false = refl
those false true = refl
those false false = refl

-- Even's entries and then Odd's
pub both_of_caller : (xs ys : Journal) → AreOfCaller (Even ∷ []) xs → AreOfCaller (Odd ∷ []) ys → AreOfCaller (Even ∷ Odd ∷ []) (xs ++ ys)
both_of_caller xs ys a b = record {
  worker = all-append (λ (e : Entry). e.worker ≡ 0) xs ys a.worker b.worker;
  posted = for_each (a.posted Even) (b.posted Odd);
  order =
      map-append (λ (e : Entry). e.player) xs ys ∙ ap (λ (l : List Player). l ++ map (λ (e : Entry). e.player) ys) a.order ∙ ap
      (λ (l : List Player). filter a.posted (Even ∷ []) ++ l) b.order ∙ those (a.posted Even) (b.posted Odd);
}

pub one_later : (old new : BoardRecord) (claim : Claim) (posted : Posted) → new.graph ≡ old.graph → Adds old new 0 claim posted
    → IsLater (claim.player ∷ []) old new
one_later old new claim posted same adds = record {
  graph = same;
  added = adds.entry ∷ [];
  journal = adds.journal;
  few = omega arith;
  by_caller = one_of_caller adds.entry claim.player adds.by_worker adds.answers.player;
}

pub none_later : (old new : BoardRecord) (ps : List Player) → new ≡ old → IsLater ps old new
none_later old new ps same = record {
  graph = ap (λ (x : BoardRecord). x.graph) same;
  added = [];
  journal = ap (λ (x : BoardRecord). x.journal) same ∙ sym (append-nil old.journal);
  few = omega arith;
  by_caller = record { worker = search rules; posted = λ _. false; order = none_of ps };
}

pub both_later : (old mid new : BoardRecord) (g : Graph) (U : VertexSet) (even odd : Claim) → AreClaims g U even odd → IsLater (even.player ∷ []) old mid
    → IsLater (odd.player ∷ []) mid new → IsLater (Even ∷ Odd ∷ []) old new
both_later old mid new g U even odd claims first second = record {
  graph = second.graph ∙ first.graph;
  added = first.added ++ second.added;
  journal = second.journal ∙ ap (λ (j : Journal). j ++ second.added) first.journal ∙ append_assoc old.journal first.added second.added;
  few = let l = length-append first.added second.added in let a = first.few in let b = second.few in omega arith;
  by_caller =
      both_of_caller first.added second.added (subst (λ (p : Player). AreOfCaller (p ∷ []) first.added) claims.even_player first.by_caller)
      (subst (λ (p : Player). AreOfCaller (p ∷ []) second.added) claims.odd_player second.by_caller);
}

-- entries of worker 0 that follow one another
pub continued : {ps : List Player} {old new : BoardRecord} → IsLater ps old new → IsContinued old new
continued l = record { graph = l.graph; added = l.added; journal = l.journal; worker = l.by_caller.worker }

pub same_continued : (old new : BoardRecord) → new ≡ old → IsContinued old new
same_continued old new same = record {
  graph = ap (λ (x : BoardRecord). x.graph) same;
  added = [];
  journal = ap (λ (x : BoardRecord). x.journal) same ∙ sym (append-nil old.journal);
  worker = search rules;
}

pub then_continued : (old mid new : BoardRecord) → IsContinued old mid → IsContinued mid new → IsContinued old new
then_continued old mid new first second = record {
  graph = second.graph ∙ first.graph;
  added = first.added ++ second.added;
  journal = second.journal ∙ ap (λ (j : Journal). j ++ second.added) first.journal ∙ append_assoc old.journal first.added second.added;
  worker = all-append (λ (e : Entry). e.worker ≡ 0) first.added second.added first.worker second.worker;
}

-- what was settled keeps its winner and its choice
pub keeps_state : (old new : BoardRecord) (v : ℕ) (r : Player × Option ℕ) → IsContinued old new → state_of old.journal v ≡ Some r
    → state_of new.journal v ≡ Some r
keeps_state old new v r more is =
    ap (λ (j : Journal). state_of j v) more.journal ∙ state_append old.journal more.added v ∙ rw is refl

-- where a claim that was a dominion is refused, and not for memory, it was settled before
pub dropped_settles : (old new : BoardRecord) (p : Player) (rows : ClaimRows) (e : Refusal) → SettlesUnlessMemory old new p rows (Err e)
    → (e ≡ refusal.Memory → ⊥) → Settles new.journal p rows
dropped_settles old new p rows (refusal.Claim fault) s some = settles_claim old new p rows s
dropped_settles old new p rows (refusal.Foreign v) s some = settles_claim old new p rows s
dropped_settles old new p rows (refusal.Lost v) s some = settles_claim old new p rows s
dropped_settles old new p rows refusal.Stale s some = settles_claim old new p rows s
dropped_settles old new p rows (refusal.Open v w) s some = settles_claim old new p rows s
dropped_settles old new p rows refusal.Memory s some = absurd (some refl)

pub settles_none : (j : Journal) (p : Player) (rows : ClaimRows) → length rows ≡ 0 → Settles j p rows
settles_none j p [] none v i = absurd (cc i)
settles_none j p (r ∷ rows) none v i = absurd (omega (arith, none))
