-- A claim that is good in what a journal leaves unsettled is a dominion after it.
use Rattle.pg_board.proofs.Common.{rules, ◌≡◌, ℕ, inl, inr, length, ltb-true, ◌∙◌, ap, Some, take-length, or_left, or_right, Player, Graph, IsGame, edge_inside}
use Rattle.pg_board.proofs.Common.{In, union, KeptEdge, named_right, ClaimRows, named, choice_in, IsGoodIn, choice_leads, State, settled, unsettled}
use Rattle.pg_board.proofs.Common.{IsLawfulState, Journal, state_of, IsLawful, IsDominionAfter}
use Rattle.pg_finders.proofs.SolvedSubgames.{kept_leads}
use Rattle.pg_board.proofs.Numbers.{lawful_now}
use Rattle.pg_board.proofs.WholeAttractor.{part_of, not_to_other, all_of}

module _ (g : Graph) (game : IsGame g) (st : State) (lawful : IsLawfulState g st) (p : Player) (rows : ClaimRows)
    (good : IsGoodIn g (unsettled g st) p rows) where
  closed : (v w : ℕ) → KeptEdge g p (named rows) (choice_in rows) v w → In (union (named rows) (settled st p)) w
  closed v w (i, m) = elim (kept_leads g p (choice_in rows) v w m) [
    | inl (o, n) ↦
        (let c = (named_right g p rows v good.sound.shape.right.each i).own o in
        let e : choice_in rows v ≡ Some w = c.1 ∙ ap (λ x. Some x) (choice_leads (choice_in rows v) c.0 w c.1 n) in
        or_left (named rows w) (settled st p w) (good.closed v w (i, m) (good.choices v w i e)))
    | inr (o, n) ↦
        (let u = good.vertices v i in
        elim (part_of g game st lawful p w (edge_inside g game v w (ltb-true v (length g) (all_of g game st lawful p v u)) n)) [
          | inl a ↦ elim a [
            | inl b ↦ or_right (named rows w) (settled st p w) b
            | inr b ↦ absurd (not_to_other g game st lawful p v w u o n b)
          ]
          | inr b ↦ or_left (named rows w) (settled st p w) (good.closed v w (i, m) b)
        ])
  ]

pub dominion_now : (g : Graph) → IsGame g → (j : Journal) → IsLawful g j → (p : Player) (rows : ClaimRows)
    → IsGoodIn g (unsettled g (state_of j)) p rows → IsDominionAfter g j (length j) p rows
dominion_now g game j lawful p rows good = search (rules, take-length, lawful_now, good.sound, good.vertices, closed)
