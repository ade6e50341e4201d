-- The levels where the recursion goes back: what its opponent has taken is settled, the rest waits again, and what its player still wins is settled.
use Rattle.pg_finders.proofs.Common.{◌≡◌, ◌≢◌, ℕ, ◌+◌, ◌-◌, ◌<◌, Bool, false, ◌&&◌, not, ◌⊎◌, inl, inr, List, [], ◌∷◌, ◌++◌, length, take, drop}
use Rattle.pg_finders.proofs.Common.{refl, sym, ◌∙◌, ap, subst, arith, append_assoc, length-append, fun_ext, append-nil, ◌==◌, eq-eqb, or_left, or_right, or_cases}
use Rattle.pg_finders.proofs.Common.{and-true, cases_Bool, false_from_ne_true, Player, Even, Odd, opponent, Graph, HasEdge, owner_of, VertexSet, In, members, union, without}
use Rattle.pg_finders.proofs.Common.{IsSubgame, own_or_other, Some, Plan, Frame, listed, Once, SettledLists, winners_of, choices_of, SameAt, how_many, IsBegun, IsSolvedInside, IsSolvedTo}
use Rattle.pg_finders.proofs.Common.{IsAttracted, won_inside, WinsOn, place, HasTaken, AttractsNoFurther, count_at, prefix, level_at, AreOpenLevels, gone, how_many_gone, priority_count, steps, steps_left}
use Rattle.pg_finders.proofs.Common.{both_ways}
use Rattle.std.proofs.Common.{length-drop, length-take}
use Rattle.std.proofs.lemmas.List.{append_cancel_left}
use Rattle.pg_finders.specs.private.recursion.GoingBack.{IsShrunk}
use Rattle.pg_finders.proofs.Sets.{not_both, no_both, only, minus, minus_both}
use Rattle.pg_finders.proofs.recursion.ListsAsSets.{listed-append, in_prefix, prefix_or_rest, in_take, in_drop, once_join, once_drop, apart_from, listed_get}
use Rattle.pg_finders.proofs.SolvedSubgames.{solved_none, IsSolvedTo-subst, IsSubgame-subst, IsAttracted-same, part_lost, left_is_subgame}
use Rattle.pg_finders.proofs.KeptSubgames.{attracted_again, subgame_again, left_again, begun_again, still_held, still_solved}
use Rattle.pg_finders.proofs.recursion.AttractionSteps.{grown_attracted}
use Rattle.pg_finders.proofs.recursion.SharedLists.{cut, pick}
use Rattle.pg_finders.proofs.recursion.LoopSteps.{Finishes, Begins, lists_fit, counts_fit, last_begun, since_inside, since_left, left_solved, won_since, finish_more}
use Rattle.pg_finders.proofs.recursion.LoopSteps.{open_levels_begin, begins_deeper, open_levels_finish}
use Rattle.pg_finders.proofs.recursion.KeptLevels.{SettlesMore, open_levels_settle, longer, work_go_back, work_drop}

pick_own : (p : Player) (xs ys : List ℕ) → pick p xs ys p ≡ xs
pick_own Even xs ys = refl
pick_own Odd xs ys = refl

pick_other : (p : Player) (xs ys : List ℕ) → pick p xs ys (opponent p) ≡ ys
pick_other Even xs ys = refl
pick_other Odd xs ys = refl

-- what is known of the last subgame where the recursion goes back: what its opponent has taken, what is set aside, what its player keeps and wins back
pub record Resumes (g : Graph) (U : VertexSet) (frames : List Frame) (f : Frame) (active : VertexSet) (settled : SettledLists) (set_aside : List ℕ) (old : Plan)
    (taken aside : List ℕ) (k : ℕ) (kept : List ℕ) (A : VertexSet) (mid : Plan) (more : List ℕ) (Q : VertexSet) (settled' : SettledLists) (new : Plan) : Type 0 where
  pub run : AreOpenLevels g U active settled set_aside (frames ++ f ∷ []) (winners_of old) (choices_of old)
  pub none : (v : ℕ) → active v ≡ false
  pub some : length (settled (opponent f.player)) ≢ count_at f (opponent f.player)
  pub shrunk : IsShrunk g (level_at U settled set_aside f) (drop (count_at f (opponent f.player)) (settled (opponent f.player)))
      (drop (count_at f f.player) (settled f.player)) old taken aside k kept A mid
  pub kept_once : Once kept
  pub own : settled' f.player ≡ (take (count_at f f.player) (settled f.player) ++ kept) ++ more
  pub other : settled' (opponent f.player) ≡ settled (opponent f.player) ++ taken
  pub grown : HasTaken g f.player A mid kept Q new (kept ++ more)
  pub done : ((kept ≡ []) × (more ≡ [])) ⊎ AttractsNoFurther g f.player (union A (listed kept)) (listed (kept ++ more)) (listed (kept ++ more))

module _ {g : Graph} {U : VertexSet} {frames : List Frame} {f : Frame} {active : VertexSet} {settled : SettledLists} {set_aside : List ℕ} {old : Plan}
    {taken aside : List ℕ} {k : ℕ} {kept : List ℕ} {A : VertexSet} {mid : Plan} {more : List ℕ} {Q : VertexSet} {settled' : SettledLists} {new : Plan}
    (h : Resumes g U frames f active settled set_aside old taken aside k kept A mid more Q settled' new) where
  abbrev p : Player
  p = f.player

  abbrev q : Player
  q = opponent f.player

  abbrev I : VertexSet
  I = (level_at U settled set_aside f).inside

  abbrev T : VertexSet
  T = (level_at U settled set_aside f).tops

  abbrev L : VertexSet
  L = (level_at U settled set_aside f).left

  abbrev since : SettledLists
  since r = drop (count_at f r) (settled r)

  -- what the opponent has of the subgame, what is left of it, and the rest of that
  abbrev B : List ℕ
  B = since q ++ taken

  abbrev J : VertexSet
  J = without I (listed B)

  abbrev R : VertexSet
  R = without J (listed aside)

  -- the settled lists where the subgame is finished
  abbrev pub between : SettledLists
  between r = prefix f settled r ++ pick p [] B r

  abbrev pub left_aside : List ℕ
  left_aside = take f.set_aside_from set_aside

  abbrev Y : List ℕ
  Y = kept ++ more

  begun : IsBegun g I T L p (winners_of old) (choices_of old)
  begun = last_begun frames f h.run

  solved : IsSolvedInside g L (winners_of old) (choices_of old)
  solved = left_solved frames f h.run h.none

  won_is : (r : Player) (v : ℕ) → won_inside L (winners_of old) r v ≡ listed (since r) v
  won_is r v = won_since frames f h.run h.none r v

  -- where an active vertex is
  active_rest : (v : ℕ) → In A v → In R v × (listed kept v ≡ false)
  active_rest v i = only (R v) (listed kept v) (sym (h.shrunk.active_is v) ∙ i)

  rest_parts : (v : ℕ) → In R v → In I v × (listed B v ≡ false) × (listed aside v ≡ false)
  rest_parts v i = (let a = only (J v) (listed aside v) i in let b = only (I v) (listed B v) a.0 in (b.0, b.1, a.1))

  late : (v : ℕ) → A v ≡ false → SameAt mid new v
  late v n = h.grown.same v n

  lost_out : (v : ℕ) → In (listed B) v → A v ≡ false
  lost_out v i = false_from_ne_true (A v) (λ y. no_both i (rest_parts v (active_rest v y).0).1)

  aside_out : (v : ℕ) → In (listed aside) v → A v ≡ false
  aside_out v i = false_from_ne_true (A v) (λ y. no_both i (rest_parts v (active_rest v y).0).2)

  kept_out : (v : ℕ) → In (listed kept) v → A v ≡ false
  kept_out v i = false_from_ne_true (A v) (λ y. no_both i (active_rest v y).1)

  lost_won : (v : ℕ) → In (listed B) v → winners_of new v ≡ q
  lost_won v i = (late v (lost_out v i)).0 ∙ elim (prefix_or_rest (since q) taken v i) [
    | inl y ↦ (h.shrunk.same_lost v y).0 ∙ h.run.his q v (in_drop (count_at f q) (settled q) v y)
    | inr y ↦ h.shrunk.taken_his v y
  ]

  attracted : IsAttracted g q I (listed (since q)) (listed B) (choices_of new) h.shrunk.rank
  attracted = IsAttracted-same (λ v i. (late v (lost_out v i)).1) h.shrunk.attracted

  gained : IsAttracted g q I (won_inside L (winners_of old) q) (listed B) (choices_of new) h.shrunk.rank
  gained = subst (λ Z. IsAttracted g q I Z (listed B) (choices_of new) h.shrunk.rank) (fun_ext (λ v. sym (won_is q v))) attracted

  own_between : between p ≡ prefix f settled p
  own_between = ap (λ xs. prefix f settled p ++ xs) (pick_own p [] B) ∙ append-nil (prefix f settled p)

  other_between : between q ≡ prefix f settled q ++ B
  other_between = ap (λ xs. prefix f settled q ++ xs) (pick_other p [] B)

  pub own_length : length (between p) ≡ count_at f p
  own_length = (let a = counts_fit frames f h.run p in
      ap length own_between ∙ omega (arith, a, length-take (count_at f p) (settled p)))

  pub other_same : between q ≡ settled q ++ taken
  other_same = other_between ∙ (sym (append_assoc (prefix f settled q) (since q) taken) ∙ ap (λ xs. xs ++ taken) (sym (cut f settled q)))

  outside : (v : ℕ) → I v ≡ false → SameAt old new v
  outside v n =
      let a = h.shrunk.outside v n in
      let b = late v (false_from_ne_true (A v) (λ y. no_both (rest_parts v (active_rest v y).0).0 n)) in
      (b.0 ∙ a.0, b.1 ∙ a.1)

  -- first the subgame is finished
  finishes : Finishes g p I J (prefix f settled) between [] B (winners_of old) (winners_of new) (choices_of old) (choices_of new)
  finishes = record {
    own_is = own_between ∙ sym (append-nil (prefix f settled p));
    other_is = other_between;
    own_within = λ v i. absurd (cc i);
    other_within = attracted.inside;
    own_once = tt;
    other_once = once_join (since q) taken (once_drop (count_at f q) (settled q) (h.run.apart.settled_once q)) h.shrunk.taken_once h.shrunk.taken_apart;
    apart = λ v i. absurd (cc i);
    left = λ v. refl;
    own_won = λ v i. absurd (cc i);
    other_won = lost_won;
    same = outside;
    solved = part_lost begun (listed B) (winners_of new) (choices_of new) h.shrunk.rank solved gained
        (λ v i. (let j : In (listed (since q)) v = sym (won_is q v) ∙ i in
        (late v (lost_out v (in_prefix (since q) taken v j))).1 ∙ (h.shrunk.same_lost v j).1)) lost_won;
  }

  finished : AreOpenLevels g U J between left_aside frames (winners_of new) (choices_of new)
  finished = open_levels_finish frames f h.run finishes

  some_lost : 0 < length B
  some_lost = (let a = counts_fit frames f h.run q in omega (arith, a, h.some, length-drop (count_at f q) (settled q), length-append (since q) taken))

  finished_more : f.even + f.odd + f.set_aside_from < how_many_gone between left_aside
  finished_more = finish_more frames f h.run finishes (omega (arith, some_lost))

  again : IsAttracted g p (without (without I L) (listed B)) (without T (listed B)) (listed aside) (choices_of new) (place aside)
  again = IsAttracted-same (λ v i. (late v (aside_out v i)).1) h.shrunk.again

  aside_now : IsAttracted g p J (without T (listed B)) (listed aside) (choices_of new) (place aside)
  aside_now = attracted_again begun attracted again

  rest_subgame : IsSubgame g R
  rest_subgame = left_again begun attracted again

  -- then it is begun again
  begun_now : (t : ℕ) × In (listed (take k aside)) t → IsBegun g J (listed (take k aside)) R p (winners_of new) (choices_of new)
  begun_now some = subst (λ Z. IsBegun g J Z R p (winners_of new) (choices_of new)) (fun_ext (λ v. sym (h.shrunk.tops v)))
      (begun_again begun attracted again
      (λ v i o. (let j : In (listed (take k aside)) v = h.shrunk.tops v ∙ i in let c = h.shrunk.chosen v j o in
      (c.0, (late v (aside_out v (in_take k aside v j))).1 ∙ c.1, c.2, c.3)))
      (λ v i. (late v (aside_out v i)).0 ∙ h.shrunk.aside_his v i) (some.0, sym (h.shrunk.tops some.0) ∙ some.1))

  -- what is kept is in the rest
  kept_parts : (v : ℕ) → In (listed kept) v → In (listed (since p)) v × (listed B v ≡ false)
  kept_parts v i = only (listed (since p) v) (listed B v) (h.shrunk.kept_was v i)

  kept_rest : (v : ℕ) → In (listed kept) v → In R v
  kept_rest v i =
      let c = kept_parts v i in
      minus (minus (since_inside frames f h.run p v c.0) c.1) (false_from_ne_true (listed aside v) (λ y.
      no_both (since_left frames f h.run p v c.0) (only (I v) (L v) (only (without I L v) (listed B v) (again.inside v y)).0).1))

  rest_cases : (v : ℕ) → In R v → In A v ⊎ In (listed kept) v
  rest_cases v i = elim (cases_Bool (listed kept v)) [
    | inl y ↦ inr y
    | inr n ↦ inl (h.shrunk.active_is v ∙ minus i n)
  ]

  rest_union : (v : ℕ) → union A (listed kept) v ≡ R v
  rest_union v = both_ways (union A (listed kept) v) (R v)
      (λ i. elim (or_cases (A v) (listed kept v) i) [ inl y ↦ (active_rest v y).0 | inr y ↦ kept_rest v y ])
      (λ i. elim (rest_cases v i) [ inl y ↦ or_left (A v) (listed kept v) y | inr y ↦ or_right (A v) (listed kept v) y ])

  held : WinsOn g R p (listed kept) (choices_of old)
  held = still_held (solved p) (λ v i. won_is p v ∙ (kept_parts v i).0) kept_rest
      (λ v w i o e. (let c = (solved p).choices v (won_is p v ∙ (kept_parts v i).0) o in
      let same : c.0 ≡ w = same_some c.0 w (sym c.1 ∙ e) in
      subst (λ u. In (listed kept) u) same (chosen_kept v c.0 i o ((h.shrunk.same_kept v i).1 ∙ c.1) c.2 (sym (won_is p c.0) ∙ c.3))))
      (λ v w i o e u. elim (rest_cases w u) [
        | inl y ↦ absurd (no_both y (h.shrunk.rests v w i e (inl o)).0)
        | inr y ↦ y
      ])
    where
      same_some : (a b : ℕ) → Some a ≡ Some b → a ≡ b
      same_some a b e = cc e

      chosen_kept : (v w : ℕ) → In (listed kept) v → owner_of g v ≡ p → choices_of mid v ≡ Some w → HasEdge g v w → In (listed (since p)) w → In (listed kept) w
      chosen_kept v w i o s e j =
          let out = h.shrunk.rests v w i e (inr s) in
          let free : listed B w ≡ false = false_from_ne_true (listed B w) (λ y. elim (prefix_or_rest (since q) taken w y) [
            | inl z ↦ not_both (winners_of old w) p (h.run.his p w (in_drop (count_at f p) (settled p) w j)) (h.run.his q w (in_drop (count_at f q) (settled q) w z))
            | inr z ↦ no_both z out.1
          ]) in
          let aside_free : listed aside w ≡ false = false_from_ne_true (listed aside w) (λ y.
          no_both (since_left frames f h.run p w j) (only (I w) (L w) (only (without I L w) (listed B w) (again.inside w y)).0).1) in
          elim (rest_cases w (minus (minus (since_inside frames f h.run p w j) free) aside_free)) [
            | inl y ↦ absurd (no_both y out.0)
            | inr y ↦ y
          ]

  more_is : more ≡ h.grown.more
  more_is = append_cancel_left kept more h.grown.more h.grown.list_is

  kept_won : (v : ℕ) → In (listed kept) v → winners_of new v ≡ p
  kept_won v i = (late v (kept_out v i)).0 ∙ ((h.shrunk.same_kept v i).0 ∙ h.run.his p v (in_drop (count_at f p) (settled p) v (kept_parts v i).0))

  won_now : (v : ℕ) → In (listed Y) v → winners_of new v ≡ p
  won_now v i = elim (prefix_or_rest kept more v i) [
    | inl y ↦ kept_won v y
    | inr y ↦ back_won v y
  ]
    where
      back_won : (v : ℕ) → In (listed more) v → winners_of new v ≡ p
      back_won v i = h.grown.his v (subst (λ xs. In (listed xs) v) more_is i)

  left_now : (v : ℕ) → Q v ≡ without R (listed Y) v
  left_now v =
      h.grown.active_is v ∙ (ap (λ xs. A v && not (listed xs v)) (sym more_is)
      ∙ (ap (λ b. b && not (listed more v)) (h.shrunk.active_is v)
      ∙ (minus_both (R v) (listed kept v) (listed more v) ∙ ap (λ b. R v && not b) (sym (listed-append kept more v)))))

  -- the player attracts them to what he keeps, unless that is nothing
  back : ((kept ≡ []) × (more ≡ [])) ⊎ IsAttracted g p R (listed kept) (listed Y) (choices_of new) (place Y)
  back = elim h.done [
    | inl none ↦ inl none
    | inr d ↦ inr (subst (λ Z. IsAttracted g p Z (listed kept) (listed Y) (choices_of new) (place Y)) (fun_ext rest_union) (grown_attracted h.grown d))
  ]

  nothing : (kept ≡ []) × (more ≡ []) → (v : ℕ) → without R (listed Y) v ≡ R v
  nothing e v = ap (λ xs. R v && not (listed xs v)) (ap (λ xs. xs ++ more) e.0 ∙ e.1) ∙ and-true (R v)

  -- so the rest is solved up to what is active
  solved_now : IsSolvedTo g R Q (winners_of new) (choices_of new)
  solved_now = IsSolvedTo-subst (λ v. sym (left_now v)) (elim back [
    | inl e ↦ IsSolvedTo-subst (λ v. sym (nothing e v)) solved_none
    | inr a ↦ still_solved held a (λ v i. (late v (kept_out v i)).1 ∙ (h.shrunk.same_kept v i).1) won_now
  ])

  pub resumed_subgame : IsSubgame g Q
  resumed_subgame = IsSubgame-subst (λ v. sym (left_now v)) (elim back [
    | inl e ↦ IsSubgame-subst (λ v. sym (nothing e v)) rest_subgame
    | inr a ↦ left_is_subgame rest_subgame a
  ])

  settles : SettlesMore g p R Q between settled' Y (winners_of new) (winners_of new) (choices_of new) (choices_of new)
  settles = record {
    own_is = h.own ∙ (append_assoc (prefix f settled p) kept more ∙ ap (λ xs. xs ++ Y) (sym own_between));
    other_is = h.other ∙ (ap (λ xs. xs ++ taken) (cut f settled q) ∙ (append_assoc (prefix f settled q) (since q) taken ∙ sym other_between));
    once = once_join kept more h.kept_once (subst Once (sym more_is) h.grown.once) (apart_from kept more (λ v i j.
        no_both (h.grown.were_active v (subst (λ xs. In (listed xs) v) more_is j)) (kept_out v i)));
    were_active = λ v i. elim (prefix_or_rest kept more v i) [
      | inl y ↦ kept_rest v y
      | inr y ↦ (active_rest v (h.grown.were_active v (subst (λ xs. In (listed xs) v) more_is y))).0
    ];
    active_is = left_now;
    his = won_now;
    same = λ v n. (refl, refl);
    solved = solved_now;
  }

  -- Some top is left, and the subgame waits again.
  module _ (f' : Frame) (player : f'.player ≡ p) (counts : (r : Player) → count_at f' r ≡ length (between r)) (from : f'.set_aside_from ≡ length left_aside)
      (tops : f'.tops_upto ≡ f'.set_aside_from + k) (upto : f'.set_aside_upto ≡ length (left_aside ++ aside)) (some : 0 < k) where
    some_top : (t : ℕ) × In (listed (take k aside)) t
    some_top = (let l = h.shrunk.few in (_, listed_get (take k aside) 0 0 (omega (arith, l, some, length-take k aside))))

    first : f'.tops_upto - f'.set_aside_from ≡ k
    first = omega (arith, tops)

    begins : Begins g U J R between left_aside aside frames f' (winners_of new) (winners_of new) (choices_of new) (choices_of new)
    begins = record {
      open_levels = finished;
      within = aside_now.inside;
      once = h.shrunk.aside_once;
      left = λ v. refl;
      begun = subst (λ (r : Player). IsBegun g J (listed (take (f'.tops_upto - f'.set_aside_from) aside)) R r (winners_of new) (choices_of new)) (sym player)
          (subst (λ n. IsBegun g J (listed (take n aside)) R p (winners_of new) (choices_of new)) (sym first) (begun_now some_top));
      same = λ v n. (refl, refl);
      counts = counts;
      from = from;
      tops = (let l = h.shrunk.few in (omega (arith, tops), omega (arith, tops, upto, from, l, length-append left_aside aside)));
      upto = upto;
    }

    pub resumed_levels : AreOpenLevels g U Q settled' (left_aside ++ aside) (frames ++ f' ∷ []) (winners_of new) (choices_of new)
    resumed_levels = open_levels_settle (open_levels_begin begins) settles

    pub resumed_fewer : (mask : List Bool) → members mask ≡ U → (m : ℕ) → let d = priority_count g U in let n = how_many mask in
        steps (d - length (frames ++ f' ∷ [])) (n - how_many_gone settled' (left_aside ++ aside)) + steps_left d n (frames ++ f' ∷ [])
        < steps (d - length (frames ++ f ∷ [])) (n - m) + steps_left d n (frames ++ f ∷ [])
    resumed_fewer mask same m =
        let even : f'.even ≡ length (between Even) = counts Even in
        let odd : f'.odd ≡ length (between Odd) = counts Odd in
        let more_even = longer (open_levels_begin begins) settles Even in
        let more_odd = longer (open_levels_begin begins) settles Odd in
        let l = h.shrunk.few in
        work_go_back (priority_count g U) (how_many mask) m (how_many_gone between left_aside) (how_many_gone between (left_aside ++ aside)) (how_many_gone settled' (left_aside ++ aside))
        frames f f' (begins_deeper begins) finished_more (omega (arith, even, odd, from)) (omega (arith, l, some, length-append left_aside aside)) (omega (arith, more_even, more_odd))
        (lists_fit mask resumed_levels.apart (subst (λ Z. (v : ℕ) → In (gone settled' (left_aside ++ aside)) v → In Z v) (sym same) resumed_levels.listed_inside))

  -- No top is left: nothing is set aside.
  module _ (none : k ≡ 0) where
    no_top : (v : ℕ) → without T (listed B) v ≡ false
    no_top v = sym (h.shrunk.tops v) ∙ ap (λ n. listed (take n aside) v) none

    -- what is set aside leads to what was set aside before
    earlier : (v : ℕ) → In (listed aside) v → (w : ℕ) × (place aside w < place aside v)
    earlier v i = elim (own_or_other (owner_of g v) p) [
      | inl o ↦ (let c = again.leads v i (no_top v) o in (c.0, c.4))
      | inr o ↦ (let c = (subgame_again begun attracted again).successor v (aside_now.inside v i) in
          (c.0, (aside_now.pushed v c.0 i (no_top v) o c.1 c.2).1))
    ]

    nothing_aside : aside ≡ []
    nothing_aside = none_first aside (λ v i. earlier v i)
      where
        none_first : (xs : List ℕ) → ((v : ℕ) → In (listed xs) v → (w : ℕ) × (place xs w < place xs v)) → xs ≡ []
        none_first [] e = refl
        none_first (x ∷ xs) e =
            let here : In (listed (x ∷ xs)) x = or_left (x == x) (listed xs x) (eq-eqb x x refl) in
            let first : place (x ∷ xs) x ≡ 0 = rw (eq-eqb x x refl) refl in
            let l = (e x here).1 in
            absurd (omega (arith, l, first))

    rest_all : (v : ℕ) → R v ≡ J v
    rest_all v = ap (λ xs. J v && not (listed xs v)) nothing_aside ∙ and-true (J v)

    dropped : SettlesMore g p J Q between settled' Y (winners_of new) (winners_of new) (choices_of new) (choices_of new)
    dropped = subst (λ Z. SettlesMore g p Z Q between settled' Y (winners_of new) (winners_of new) (choices_of new) (choices_of new)) (fun_ext rest_all) settles

    pub dropped_levels : AreOpenLevels g U Q settled' left_aside frames (winners_of new) (choices_of new)
    dropped_levels = open_levels_settle finished dropped

    pub dropped_fewer : (mask : List Bool) → members mask ≡ U → (m : ℕ) → let d = priority_count g U in let n = how_many mask in
        steps (d - length frames) (n - how_many_gone settled' left_aside) + steps_left d n frames
        < steps (d - length (frames ++ f ∷ [])) (n - m) + steps_left d n (frames ++ f ∷ [])
    dropped_fewer mask same m =
        let more_even = longer finished dropped Even in
        let more_odd = longer finished dropped Odd in
        work_drop (priority_count g U) (how_many mask) m (how_many_gone between left_aside) (how_many_gone settled' left_aside) frames f finished_more
        (omega (arith, more_even, more_odd))
        (lists_fit mask dropped_levels.apart (subst (λ Z. (v : ℕ) → In (gone settled' left_aside) v → In Z v) (sym same) dropped_levels.listed_inside))
