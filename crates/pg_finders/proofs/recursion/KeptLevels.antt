-- More of the active part is settled for a player, while the same subgames wait; and a subgame that waits again, without what its opponent
-- took: it is finished, begun again, and what its player still wins of its rest is settled.
use Rattle.pg_finders.proofs.Common.{◌≡◌, ℕ, ◌+◌, ◌-◌, ◌<◌, ◌≤◌, false, ◌&&◌, ◌||◌, not, ◌⊎◌, inl, inr, List, [], ◌∷◌, ◌++◌, length, take, refl, sym}
use Rattle.pg_finders.proofs.Common.{◌∙◌, ap, subst, arith, length-append, append-nil, take-append-le, false_from_ne_true, Player, Even, Odd, opponent}
use Rattle.pg_finders.proofs.Common.{Graph, VertexSet, In, without, Choices, Frame, Winners, IsSolvedTo, AreLevels, listed, Once, SettledLists, gone, part}
use Rattle.pg_finders.proofs.Common.{level_at, AreApart, AreOpenLevels, map, steps, steps_left}
use Rattle.std.proofs.Math.Bool.{or-false}
use Rattle.pg_finders.proofs.Sets.{minus_more, no_both}
use Rattle.pg_finders.proofs.recursion.ListsAsSets.{listed-append, prefix_or_rest, once_join, apart_from}
use Rattle.pg_finders.proofs.recursion.WaitingLevels.{Agree, waits_on}
use Rattle.pg_finders.proofs.Steps.{steps_grow}
use Rattle.pg_finders.proofs.recursion.SharedLists.{pick, picked, pick_apart, pick_either, gone_settled, gone_aside, gone_cases, part_of, linked_more, levels_same}
use Rattle.pg_finders.proofs.recursion.StepBounds.{work_begin, work_finish}

-- the player's list gets more of the active vertices, once each, and the active part is solved up to the others
pub record SettlesMore (g : Graph) (p : Player) (A A' : VertexSet) (settled settled' : SettledLists) (own : List ℕ) (won won' : Winners)
    (s s' : Choices) : Type 0 where
  pub own_is : settled' p ≡ settled p ++ own
  pub other_is : settled' (opponent p) ≡ settled (opponent p)
  pub once : Once own
  pub were_active : (v : ℕ) → In (listed own) v → In A v
  pub active_is : (v : ℕ) → A' v ≡ without A (listed own) v
  pub his : (v : ℕ) → In (listed own) v → won' v ≡ p
  pub same : Agree A won won' s s'
  pub solved : IsSolvedTo g A A' won' s'

module _ {g : Graph} {U A A' : VertexSet} {settled settled' : SettledLists} {set_aside own : List ℕ} {frames : List Frame} {p : Player} {won won' : Winners}
    {s s' : Choices} (h : AreOpenLevels g U A settled set_aside frames won s) (t : SettlesMore g p A A' settled settled' own won won' s s') where
  abbrev taken : SettledLists
  taken = pick p own []

  is : (q : Player) → settled' q ≡ settled q ++ taken q
  is = picked (λ q xs. settled' q ≡ settled q ++ xs) p own [] t.own_is (t.other_is ∙ sym (append-nil (settled (opponent p))))

  were : (q : Player) (v : ℕ) → In (listed (taken q)) v → In A v
  were = picked (λ q xs. (v : ℕ) → In (listed xs) v → In A v) p own [] t.were_active (λ v i. absurd (cc i))

  once : (q : Player) → Once (taken q)
  once = picked (λ q xs. Once xs) p own [] t.once tt

  fresh : (v : ℕ) → In A v → In U v × ((q : Player) → listed (settled q) v ≡ false) × (listed set_aside v ≡ false)
  fresh v i = part_of U settled set_aside v (sym (h.active_is v) ∙ i)

  parts : (q : Player) (v : ℕ) → In (listed (settled' q)) v → In (listed (settled q)) v ⊎ In (listed (taken q)) v
  parts q v i = prefix_or_rest (settled q) (taken q) v (subst (λ xs. In (listed xs) v) (is q) i)

  active_now : (v : ℕ) → A' v ≡ part U settled' set_aside v
  active_now v =
      t.active_is v ∙ (ap (λ b. A v && not b) (sym (or-false (listed own v)) ∙ sym (pick_either p own [] v))
      ∙ (ap (λ b. b && not (listed (taken Even) v || listed (taken Odd) v)) (h.active_is v)
      ∙ (minus_more (U v) (listed (settled Even) v) (listed (settled Odd) v) (listed set_aside v) (listed (taken Even) v) (listed (taken Odd) v)
      ∙ (ap (λ b. U v && not ((b || (listed (settled Odd) v || listed (taken Odd) v)) || listed set_aside v))
      (sym (listed-append (settled Even) (taken Even) v) ∙ ap (λ xs. listed xs v) (sym (is Even)))
      ∙ ap (λ b. U v && not ((listed (settled' Even) v || b) || listed set_aside v))
      (sym (listed-append (settled Odd) (taken Odd) v) ∙ ap (λ xs. listed xs v) (sym (is Odd)))))))

  pub longer : (q : Player) → length (settled q) ≤ length (settled' q)
  longer q = (let a = ap length (is q) in omega (arith, a, length-append (settled q) (taken q)))

  stops_same : map (level_at U settled' set_aside) frames ≡ map (level_at U settled set_aside) frames
  stops_same = levels_same U settled set_aside settled' set_aside (λ q. 0) (λ q. length (settled q)) 0 (length set_aside) frames h.linked
      (λ q k l. ap (take k) (is q) ∙ take-append-le k (settled q) (taken q) l) (λ k l. refl)

  apart_now : AreApart settled' set_aside
  apart_now = record {
    settled_once = λ q. subst Once (sym (is q)) (once_join (settled q) (taken q) (h.apart.settled_once q) (once q)
        (apart_from (settled q) (taken q) (λ v i j. no_both i ((fresh v (were q v j)).1 q))));
    aside_once = h.apart.aside_once;
    players = apart_from (settled' Even) (settled' Odd) (λ v i j. elim (parts Even v i) [
      | inl x ↦ elim (parts Odd v j) [
        | inl y ↦ no_both y (h.apart.players v x)
        | inr y ↦ no_both x ((fresh v (were Odd v y)).1 Even)
      ]
      | inr x ↦ elim (parts Odd v j) [
        | inl y ↦ no_both y ((fresh v (were Even v x)).1 Odd)
        | inr y ↦ no_both y (pick_apart p own [] (λ u k. refl) v x)
      ]
    ]);
    aside_apart = λ q. apart_from (settled' q) set_aside (λ v i j. elim (parts q v i) [
      | inl x ↦ no_both j (h.apart.aside_apart q v x)
      | inr x ↦ no_both j (fresh v (were q v x)).2
    ]);
  }

  listed_now : (v : ℕ) → In (gone settled' set_aside) v → In U v
  listed_now v i = elim (gone_cases settled' set_aside v i) [
    | inl (q, y) ↦ elim (parts q v y) [
      | inl x ↦ h.listed_inside v (gone_settled settled set_aside q v x)
      | inr x ↦ (fresh v (were q v x)).0
    ]
    | inr y ↦ h.listed_inside v (gone_aside settled set_aside v y)
  ]

  pub open_levels_settle : AreOpenLevels g U A' settled' set_aside frames won' s'
  open_levels_settle = record {
    linked = linked_more (λ q. 0) (λ q. length (settled q)) (λ q. length (settled' q)) 0 frames (length set_aside) longer h.linked;
    apart = apart_now;
    listed_inside = listed_now;
    active_is = active_now;
    his = λ q v i. elim (parts q v i) [
      | inl x ↦ (t.same v (false_from_ne_true (A v) (λ y. no_both x ((fresh v y).1 q)))).0 ∙ h.his q v x
      | inr x ↦ (picked (λ r xs. (u : ℕ) → In (listed xs) u → won' u ≡ r) p own [] t.his (λ u k. absurd (cc k))) q v x
    ];
    waits = subst (λ levels. AreLevels g U levels A' won' s') (sym stops_same)
        (waits_on g U (map (level_at U settled set_aside) frames) A A' won won' s s' h.waits t.same t.solved);
  }

-- the steps fall where the recursion goes back: m vertices are gone before, i once it is finished, j once it is begun again, and k in the end
pub work_go_back : (d n m i j k : ℕ) (frames : List Frame) (f f' : Frame) → length frames < d → f.even + f.odd + f.set_aside_from < i
    → f'.even + f'.odd + f'.set_aside_from ≡ i → i < j → j ≤ k → k ≤ n
    → steps (d - length (frames ++ f' ∷ [])) (n - k) + steps_left d n (frames ++ f' ∷ [])
    < steps (d - length (frames ++ f ∷ [])) (n - m) + steps_left d n (frames ++ f ∷ [])
work_go_back d n m i j k frames f f' some a b c e h =
    let x = work_finish d n m i frames f a (omega (arith, c, e, h)) in
    let y = work_begin d n i j frames f' some b c (omega (arith, e, h)) in
    let deep = d - length (frames ++ f' ∷ []) in
    let z = steps_grow deep deep (n - k) (n - j) (omega arith) (omega (arith, e)) in
    omega (arith, x, y, z)

-- and where no top is left
pub work_drop : (d n m i k : ℕ) (frames : List Frame) (f : Frame) → f.even + f.odd + f.set_aside_from < i → i ≤ k → k ≤ n
    → steps (d - length frames) (n - k) + steps_left d n frames < steps (d - length (frames ++ f ∷ [])) (n - m) + steps_left d n (frames ++ f ∷ [])
work_drop d n m i k frames f a c e = work_finish d n m k frames f (omega (arith, a, c)) e
