-- What a board answers to a claim. One that was a dominion after some entries is posted, or it is stale: it is refused for no other reason.
use Rattle.pg_board.proofs.Common.{rules, ◌≡◌, ℕ, ◌+◌, ◌||◌, ◌↔◌, inl, inr, [], ◌∷◌, length, take, refl, sym, ◌∙◌, ap, subst, arith, Err, Result, drop, fun_ext}
use Rattle.pg_board.proofs.Common.{take-append-drop, or-false, Player, opponent, Graph, IsGame, VertexSet, In, all_vertices, union, Attractor, is_same, Claim}
use Rattle.pg_board.proofs.Common.{ClaimRows, named, choice_in, AreRight, IsClaimFault, Posted, Refusal, Regions, IsBoard, settled, rest_of}
use Rattle.pg_board.proofs.Common.{IsGoodOn, Journal, state_of, IsLawful, IsDominionAfter, Posts, BoardRecord, Adds, AnswersDominion, SettlesUnlessMemory, Refuses}
use Rattle.std.proofs.Common.{Ok, length-take, IfOk, IfErr, OnErr}
use Rattle.pg_game.proofs.Rotate.{none_from_good}
use Rattle.pg_dominion.specs.declared.claim.ClaimFault.{ClaimFault}
use Rattle.pg_dominion.specs.Claim.{HasShape, IsFirstWrongRow}
use Rattle.pg_dominion.specs.Checked.{CheckedClaim, claim_of, AgreesWithGame}
use Rattle.pg_dominion.proofs.Shape.{AreRight-front}
use Rattle.pg_board.specs.Refusal.{IsOfState}
use Rattle.pg_board.specs.Post.{SettlesDominion, IsPostAnswer, IsSettleAnswer}
use Rattle.pg_board.proofs.PushedEntry.{IsAdded, theirs}
use Rattle.pg_board.proofs.Lawful.{lawful_push}
use Rattle.pg_board.proofs.RestIsGood.{kept_rest}
use Rattle.pg_board.proofs.Dominion.{never_lost, stays_closed}
use Rattle.pg_board.proofs.laws.AnyOrder.{Target, order}
use Rattle.pg_dominion.specs.declared.claim.ClaimFault.TheVariants as claim_fault
use Rattle.pg_board.specs.declared.journal.Refusal.TheVariants as refusal

shape_is_right : (g : Graph) (p : Player) (rows : ClaimRows) (i : ℕ) → HasShape g p rows → IsFirstWrongRow g p rows i → ⊥
shape_is_right g p rows i shape (inl (e, z)) = let n = shape.nonempty in let l : length rows ≡ 0 = ap (λ (xs : ClaimRows). length xs) e in omega arith
shape_is_right g p rows i shape (inr (l, a, wrong)) = wrong (AreRight-front g p (take (i + 1) rows) (drop (i + 1) rows)
    (subst (λ (xs : ClaimRows). AreRight g p xs) (sym (take-append-drop (i + 1) rows)) shape.right))

-- what a board answers to the claim, and what it then is
pub record IsAnswered (x new : BoardRecord) (worker : ℕ) (claim : Claim) (result : Result Posted Refusal) : Type 0 where
  pub game : new.graph ≡ x.graph
  pub posted : IfOk result (λ posted. IsGoodOn x.graph (state_of x.journal) claim.player claim.rows × Adds x new worker claim posted)
  pub refused : IfErr result (λ e. Refuses x.graph (state_of x.journal) claim.player claim.rows e)
  pub unchanged : OnErr result (new ≡ x)

-- a lawful journal of a game, as each board keeps it
pub record IsLawfulRecord (x : BoardRecord) : Type 0 where
  pub game : IsGame x.graph
  pub lawful : IsLawful x.graph x.journal

pub lawful_record : {x : BoardRecord} {g : Graph} {j : Journal} {r : Regions} {number : ℕ} → record { graph = g; journal = j } ≡ x
    → IsBoard g j r number → IsLawfulRecord x
lawful_record view board = subst IsLawfulRecord view (record { game = board.game; lawful = board.lawful })

added_by : {x new : BoardRecord} {worker : ℕ} {claim : Claim} {posted : Posted} → IsLawfulRecord x → IsGoodOn x.graph (state_of x.journal) claim.player claim.rows
    → (a : Adds x new worker claim posted) → IsAdded x.graph x.journal claim.player claim.rows a.entry
added_by holds good a = record { game = holds.game; lawful = holds.lawful; posted = good; answers = a.answers }

module _ (x : BoardRecord) (holds : IsLawfulRecord x) (claim : Claim) (k : ℕ) (d : IsDominionAfter x.graph x.journal k claim.player claim.rows) where
  abbrev g : Graph
  g = x.graph

  abbrev old : Journal
  old = x.journal

  abbrev p : Player
  p = claim.player

  abbrev rows : ClaimRows
  rows = claim.rows

  no_fault : (fault : ClaimFault) → IsClaimFault g p rows fault → (fault ≡ claim_fault.Memory → ⊥) → ⊥
  no_fault (claim_fault.Shape i) h n = shape_is_right g p rows i d.1.sound.shape h
  no_fault (claim_fault.Cycle v) h n = none_from_good g p (named rows) (choice_in rows) d.1.sound.good v h.1.has
  no_fault claim_fault.Memory h n = n refl

  target_is : Target p old (claim ∷ []) ≡ union (settled (state_of old) p) (named rows)
  target_is = fun_ext (λ v. ap (λ b. settled (state_of old) p v || b) (rw (is_same p p refl) (or-false (named rows v))))

  own : (new : Journal) → Posts g old (claim ∷ []) new → (v : ℕ)
      → In (settled (state_of new) p) v ↔ Attractor g p (all_vertices g) (union (settled (state_of old) p) (named rows)) v
  own new posts v = subst (λ (T : VertexSet). In (settled (state_of new) p) v ↔ Attractor g p (all_vertices g) T v) target_is
      ((order g holds.game old new (claim ∷ []) holds.lawful ((k, d), tt) posts).1 p v)

  settles_posted : (new : BoardRecord) (worker : ℕ) (posted : Posted) → IsGoodOn g (state_of old) p rows → Adds x new worker claim posted
      → SettlesDominion x new p rows
  settles_posted new worker posted good a = record {
    own = own new.journal (inr (a.entry, good.not_stale, a.answers, a.journal));
    other = λ v. ap (λ (j : Journal). settled (state_of j) (opponent p) v) a.journal
        ∙ ap (λ (X : VertexSet). X v) (theirs (added_by holds good a));
  }

  claimed_size : (worker : ℕ) (new : BoardRecord) (posted : Posted) → Adds x new worker claim posted → posted.claimed ≡ length (rest_of (state_of old) rows)
  claimed_size worker new posted a = search (rules, a.entry.claimed, a.answers.rest, a.answers.claimed, a.claimed, length-take)

  old_copy : (new : BoardRecord) (worker : ℕ) (result : Result Posted Refusal) → IsAnswered x new worker claim result
      → AnswersDominion (state_of old) rows result × SettlesUnlessMemory x new p rows result
  old_copy new worker (Ok posted) h = (claimed_size worker new posted h.posted.1, settles_posted new worker posted h.posted.0 h.posted.1)
  old_copy new worker (Err refusal.Memory) h = (tt, tt)
  old_copy new worker (Err refusal.Stale) h = search (rules, h.refused.2, h.unchanged, own)
  old_copy new worker (Err (refusal.Claim fault)) h = absurd (no_fault fault h.refused.0 h.refused.1)
  old_copy new worker (Err (refusal.Foreign v)) h = absurd h.refused
  old_copy new worker (Err (refusal.Lost v)) h = search (rules, h.refused.1.has, never_lost, holds.lawful, h.refused.1.has.0, h.refused.1.has.1)
  old_copy new worker (Err (refusal.Open v w)) h =
      absurd (let e = h.refused.2.edge in let i = stays_closed g old holds.lawful k p rows d v w (kept_rest g p (state_of old) rows v w e.0) in let o = e.1 in cc (i, o))

-- the journal is lawful after a post
lawful_after : {x new : BoardRecord} {worker : ℕ} {claim : Claim} (result : Result Posted Refusal) → IsLawfulRecord x → IsAnswered x new worker claim result
    → IsLawful new.graph new.journal
lawful_after (Ok posted) holds h = rw (h.game, h.posted.1.journal) (lawful_push (added_by holds h.posted.0 h.posted.1))
lawful_after (Err e) holds h = subst (λ (y : BoardRecord). IsLawful y.graph y.journal) (sym h.unchanged) holds.lawful

pub post_answer : (x new : BoardRecord) (worker : ℕ) (claim : Claim) (result : Result Posted Refusal) → IsLawfulRecord x → IsAnswered x new worker claim result
    → IsPostAnswer x new worker claim result
post_answer x new worker claim result holds h = record {
  lawful = lawful_after result holds h;
  game = h.game;
  posted = h.posted;
  refused = h.refused;
  unchanged = h.unchanged;
  old_copies = λ k d. old_copy x holds claim k d new worker result h;
}

-- the answer of a board that is as before
pub refusal_answer : (x : BoardRecord) (worker : ℕ) (claim : Claim) (e : Refusal) → IsLawfulRecord x
    → Refuses x.graph (state_of x.journal) claim.player claim.rows e → IsPostAnswer x x worker claim (Err e)
refusal_answer x worker claim e holds h = post_answer x x worker claim (Err e) holds (record { game = refl; posted = tt; refused = h; unchanged = refl })

-- the answer to a checked claim that agrees with the game
pub settle_answer : (x new : BoardRecord) (worker : ℕ) (c : CheckedClaim) (result : Result Posted Refusal) → AgreesWithGame x.graph c.player c.rows
    → IfErr result IsOfState → IsPostAnswer x new worker (claim_of c) result → IsSettleAnswer x new worker c result
settle_answer x new worker c (Ok posted) a s h = record { agrees = a; of_state = s; answer = h }
settle_answer x new worker c (Err (refusal.Claim fault)) a s h = absurd s
settle_answer x new worker c (Err (refusal.Foreign v)) a s h = absurd s
settle_answer x new worker c (Err (refusal.Lost v)) a s h = record { agrees = a; of_state = s; answer = h }
settle_answer x new worker c (Err refusal.Stale) a s h = record { agrees = a; of_state = s; answer = h }
settle_answer x new worker c (Err (refusal.Open v w)) a s h = record { agrees = a; of_state = s; answer = h }
settle_answer x new worker c (Err refusal.Memory) a s h = record { agrees = a; of_state = s; answer = h }
