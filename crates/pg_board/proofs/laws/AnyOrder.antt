-- The order in which claims that were dominions are posted has no effect on the regions.
use Rattle.pg_board.proofs.Common.{rules, ◌≡◌, ℕ, ◌<◌, ◌≤◌, true, false, ◌↔◌, inl, inr, List, [], ◌∷◌, ◌++◌, length, refl, sym, ◌∙◌, subst, arith}
use Rattle.pg_board.proofs.Common.{if◌then◌else◌, take-append-le, or_cases, or_left, or_right, or-false, Player, same_player, Graph, IsGame}
use Rattle.pg_board.proofs.Common.{VertexSet, In, Within, all_vertices, no_vertices, union, Attractor, target_attracted, Attractor-idempotent, own_or_other}
use Rattle.pg_board.proofs.Common.{same_is, is_same, Claim, named, Entry, settled, is_unsettled, rest_of, IsDominion, Journal, state_of, claimed_rows, Answers}
use Rattle.pg_board.proofs.Common.{IsLawful, IsDominionAfter, Posts}
use Rattle.pg_game.proofs.Attract.{Attractor-monotone}
use Rattle.pg_board.specs.Order.{claimed_by, WereDominions}
use Rattle.pg_board.proofs.RestIsGood.{in_rest}
use Rattle.pg_board.proofs.Numbers.{lawful_now}
use Rattle.pg_board.proofs.PushedEntry.{IsAdded, ours_named, theirs}
use Rattle.pg_board.proofs.Lawful.{lawful_push, length-snoc}
use Rattle.pg_board.proofs.Dominion.{dominion_good, ours_or_open, stays_settled}

-- the vertices of one claim, where it is the player's
abbrev pub of_claim : Player → Claim → VertexSet
of_claim q c = if same_player c.player q then named c.rows else no_vertices

abbrev pub Target : Player → Journal → List Claim → VertexSet
Target q old claims = union (settled (state_of old) q) (claimed_by q claims)

abbrev WasDominion : Graph → Journal → Claim → Type 0
WasDominion g old c = (k : ℕ) × IsDominionAfter g old k c.player c.rows

-- a claim that was a dominion, of which something is open, and the entry that answers it
record IsPosted (g : Graph) (old : Journal) (c : Claim) (e : Entry) : Type 0 where
  lawful : IsLawful g old
  was : WasDominion g old c
  some_open : 0 < length (rest_of (state_of old) c.rows)
  answers : Answers g (state_of old) c.player c.rows e

-- a longer journal has the same front
still_dominion : (g : Graph) (old : Journal) (e : Entry) (c : Claim) → WasDominion g old c → WasDominion g (old ++ e ∷ []) c
still_dominion g old e c (k, (l, d)) = (
  k,
  (
    subst (λ n. k ≤ n) (sym (length-snoc old e)) (omega arith),
    subst (λ xs. IsDominion g (state_of xs) c.player c.rows) (sym (take-append-le k old (e ∷ []) l)) d,
  ),
)

still_dominions : (g : Graph) (old : Journal) (e : Entry) (cs : List Claim) → WereDominions g old cs → WereDominions g (old ++ e ∷ []) cs
still_dominions g old e [] h = tt
still_dominions g old e (c ∷ cs) h = (still_dominion g old e c h.0, still_dominions g old e cs h.1)

in_settled : (q : Player) (old : Journal) (cs : List Claim) (v : ℕ) → In (settled (state_of old) q) v → In (Target q old cs) v
in_settled q old cs v i = or_left (settled (state_of old) q v) (claimed_by q cs v) i

in_claims : (q : Player) (old : Journal) (cs : List Claim) (v : ℕ) → In (claimed_by q cs) v → In (Target q old cs) v
in_claims q old cs v i = or_right (settled (state_of old) q v) (claimed_by q cs v) i

in_later : (q : Player) (old : Journal) (c : Claim) (cs : List Claim) (v : ℕ) → In (claimed_by q cs) v → In (Target q old (c ∷ cs)) v
in_later q old c cs v i = in_claims q old (c ∷ cs) v (or_right (of_claim q c v) (claimed_by q cs v) i)

-- a set into which the settled vertices and those of the claims lie has the target
from_target : (q : Player) (old : Journal) (c : Claim) (cs : List Claim) (S : VertexSet) → Within (settled (state_of old) q) S → Within (of_claim q c) S
    → Within (claimed_by q cs) S → Within (Target q old (c ∷ cs)) S
from_target q old c cs S a b d v i = search (rules, or_cases)

-- each set lies in what the other attracts, so both attract the same
abbrev SameAttractor : Graph → Player → VertexSet → VertexSet → Type 0
SameAttractor g q T T' = (v : ℕ) → Attractor g q (all_vertices g) T v ↔ Attractor g q (all_vertices g) T' v

same_attractor : (g : Graph) (q : Player) (T T' : VertexSet) → ((v : ℕ) → In T v → Attractor g q (all_vertices g) T' v)
    → ((v : ℕ) → In T' v → Attractor g q (all_vertices g) T v) → SameAttractor g q T T'
same_attractor g q T T' a b v = (Attractor-idempotent g q (all_vertices g) T' T a v, Attractor-idempotent g q (all_vertices g) T T' b v)

module _ (g : Graph) (game : IsGame g) where
  -- a claim of which nothing is open adds nothing to the target
  stale_target : (q : Player) (old : Journal) (lawful : IsLawful g old) (c : Claim) (cs : List Claim) → WasDominion g old c
      → rest_of (state_of old) c.rows ≡ [] → SameAttractor g q (Target q old cs) (Target q old (c ∷ cs))
  stale_target q old lawful c cs (k, d) none = same_attractor g q (Target q old cs) (Target q old (c ∷ cs))
      (λ v i. target_attracted g q (all_vertices g) (Target q old (c ∷ cs)) v (elim (or_cases (settled (state_of old) q v) (claimed_by q cs v) i) [
        | inl a ↦ in_settled q old (c ∷ cs) v a
        | inr a ↦ in_later q old c cs v a
      ]))
      (λ v i. target_attracted g q (all_vertices g) (Target q old cs) v
      (from_target q old c cs (Target q old cs) (in_settled q old cs) (λ x a. in_settled q old cs x (stale_vertex x a)) (in_claims q old cs) v i))
    where
      stale_vertex : (v : ℕ) → In (of_claim q c) v → In (settled (state_of old) q) v
      stale_vertex v b =
          let o : (c.player ≡ q) × In (named c.rows) v = search (rules, same_is) in
          elim (ours_or_open g old lawful k c.player c.rows d v o.1 (is_unsettled (state_of old v)) refl) [
            | inl r ↦ absurd (let n : false ≡ true = rw none at r in cc n)
            | inr s ↦ subst (λ x. In (settled (state_of old) x) v) o.0 s
          ]

  -- a claim that was posted moves from the target's claims to its settled vertices, with what it attracts
  module _ (q : Player) (old : Journal) (c : Claim) (cs : List Claim) (e : Entry) (h : IsPosted g old c e) where
    abbrev longer : Journal
    longer = old ++ e ∷ []

    abbrev p : Player
    p = c.player

    -- what the player had, and the rest
    abbrev Start : VertexSet
    Start = union (settled (state_of old) p) (named (claimed_rows e))

    added : IsAdded g old p c.rows e
    added = record { game = game; lawful = h.lawful; posted = dominion_good g old h.lawful h.was.0 p c.rows h.was.1 h.some_open; answers = h.answers }

    into : (v : ℕ) → p ≡ q → In Start v → In (Target q old (c ∷ cs)) v
    into v same i = search (rules, or_cases, in_settled, in_rest, h.answers.rest, is_same, in_claims, or_left)

    from_settled : (v : ℕ) → In (settled (state_of longer) q) v → Attractor g q (all_vertices g) (Target q old (c ∷ cs)) v
    from_settled v a = elim (own_or_other q p) [
      | inl same ↦
          (let b = (h.answers.exact v).0 (subst (λ X. In X v) (ours_named added) (rw same at a)) in
          Attractor-monotone g q (all_vertices g) Start (Target q old (c ∷ cs)) (λ x i. into x (sym same) i) v (rw same b))
      | inr same ↦
          (let b : In (settled (state_of old) q) v = rw same (subst (λ X. In X v) (theirs added) (rw same at a)) in
          target_attracted g q (all_vertices g) (Target q old (c ∷ cs)) v (in_settled q old (c ∷ cs) v b))
    ]

    of_posted : (v : ℕ) → In (of_claim q c) v → In (settled (state_of longer) q) v
    of_posted v b =
        let o : (c.player ≡ q) × In (named c.rows) v = search (rules, same_is) in
        elim (ours_or_open g old h.lawful h.was.0 p c.rows h.was.1 v o.1 (is_unsettled (state_of old v)) refl) [
          | inl r ↦
              (let t : In Start v = or_right (settled (state_of old) p v) (named (claimed_rows e) v) (subst (λ xs. In (named xs) v) (sym h.answers.rest) r) in
              let i = (h.answers.exact v).1 (target_attracted g p (all_vertices g) Start v t) in
              subst (λ x. In (settled (state_of longer) x) v) o.0 (subst (λ X. In X v) (sym (ours_named added)) i))
          | inr s ↦ stays_settled old (e ∷ []) q v (subst (λ x. In (settled (state_of old) x) v) o.0 s)
        ]

    posted_target : SameAttractor g q (Target q longer cs) (Target q old (c ∷ cs))
    posted_target = same_attractor g q (Target q longer cs) (Target q old (c ∷ cs))
        (λ v i. elim (or_cases (settled (state_of longer) q v) (claimed_by q cs v) i) [
          | inl a ↦ from_settled v a
          | inr a ↦ target_attracted g q (all_vertices g) (Target q old (c ∷ cs)) v (in_later q old c cs v a)
        ])
        (λ v i. target_attracted g q (all_vertices g) (Target q longer cs) v (from_target q old c cs (Target q longer cs)
        (λ x a. in_settled q longer cs x (stays_settled old (e ∷ []) q x a)) (λ x a. in_settled q longer cs x (of_posted x a)) (in_claims q longer cs) v i))

  abbrev Result : Journal → Journal → List Claim → Type 0
  Result old new claims =
      IsLawful g new × ((q : Player) (v : ℕ) → In (settled (state_of new) q) v ↔ Attractor g q (all_vertices g) (Target q old claims) v)

  both_ways : {A B C : Type 0} → (A ↔ B) → (B ↔ C) → (A ↔ C)
  both_ways a b = (λ x. b.0 (a.0 x), λ z. a.1 (b.1 z))

  pub order : (old new : Journal) (claims : List Claim) → IsLawful g old → WereDominions g old claims → Posts g old claims new → Result old new claims
  order old new [] lawful were same = (
    subst (IsLawful g) (sym same) lawful,
    λ q v. (
      λ i. target_attracted g q (all_vertices g) (Target q old []) v (in_settled q old [] v (subst (λ xs. In (settled (state_of xs) q) v) same i)),
      λ a. subst (λ xs. In (settled (state_of xs) q) v) (sym same) ((lawful_now g old lawful).attracted q v
          (Attractor-monotone g q (all_vertices g) (Target q old []) (settled (state_of old) q)
          (λ x i. sym (or-false (settled (state_of old) q x)) ∙ i) v a)),
    ),
  )
  order old new (c ∷ cs) lawful were (inl (none, more)) =
      let r = order old new cs lawful were.1 more in
      (r.0, λ q v. both_ways (r.1 q v) (stale_target q old lawful c cs were.0 none v))
  order old new (c ∷ cs) lawful were (inr (e, some_open, answers, more)) =
      let h : IsPosted g old c e = record { lawful = lawful; was = were.0; some_open = some_open; answers = answers } in
      let r = order (old ++ e ∷ []) new cs (lawful_push (added c.player old c cs e h)) (still_dominions g old e cs were.1) more in
      (r.0, λ q v. both_ways (r.1 q v) (posted_target q old c cs e h v))
