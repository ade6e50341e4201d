-- The steps of the loop over shared lists: a subgame is begun, or the last one that waits is finished.
use Rattle.pg_finders.proofs.Common.{◌≡◌, ◌≢◌, ℕ, ◌+◌, ◌-◌, ◌<◌, ◌≤◌, Bool, false, ◌&&◌, ◌||◌, not, ◌⊎◌, inl, inr, List, [], ◌∷◌, ◌++◌, length, take, drop, map}
use Rattle.pg_finders.proofs.Common.{refl, sym, ◌∙◌, ap, subst, arith, length-append, rules, fun_ext, ◌==◌, eqb-true, or_cases, and_parts, and_from}
use Rattle.pg_finders.proofs.Common.{false_from_ne_true, cases_lt, and-true, map-append, take-append-le, take_all, common_steps, Player, Even, Odd, opponent, Graph}
use Rattle.pg_finders.proofs.Common.{VertexSet, In, members, no_vertices, Choices, same_is, is_same, Frame, Winners, IsSolvedInside, IsSolvedTo, IsBegun}
use Rattle.pg_finders.proofs.Common.{won_inside, Level, AreLevels, listed, Once, Apart, SettledLists, how_many, gone, part, count_at, prefix, level_at, Linked}
use Rattle.pg_finders.proofs.Common.{AreApart, AreOpenLevels, IsAtEnd, how_many_gone, active_of, settled_of, winners_of, choices_of, priority_count}
use Rattle.pg_finders.specs.declared.recursion.Solver.{Solver}
use Rattle.pg_finders.proofs.Common.{vec_len, both_ways}
use Rattle.std.proofs.Common.{Global, Vec}
use Rattle.std.proofs.Common.{length-take, ltb-true}
use Rattle.std.proofs.lemmas.List.{length_push, length-map}
use Rattle.std.proofs.Math.Bool.{or_assoc}
use Rattle.std.proofs.Math.Seq.{take-append_seam, take-append-add, drop-append_seam}
use Rattle.pg_finders.proofs.Sets.{minus, minus_both, minus_more, no_both, unless}
use Rattle.pg_finders.proofs.recursion.ListsAsSets.{listed-append, prefix_or_rest, in_take, in_drop, take_or_drop, once_join, once_take, take_apart, apart_from}
use Rattle.pg_finders.proofs.recursion.ListsAsSets.{once_fits, missing}
use Rattle.pg_finders.proofs.SolvedSubgames.{solved_none, solved_whole, IsSolvedTo-subst}
use Rattle.pg_finders.proofs.recursion.WaitingLevels.{Agree, waits_on, waits_push, waits_pop, waits_count}
use Rattle.pg_finders.proofs.recursion.SharedLists.{pick, picked, pick_apart, pick_either, gone_settled, gone_aside}
use Rattle.pg_finders.proofs.recursion.SharedLists.{gone_cases, gone_none, part_of, in_part, linked_more, linked_push, linked_pop, levels_same}

-- the lists are one list, in which no vertex occurs twice
abbrev all_gone : SettledLists → List ℕ → List ℕ
all_gone settled set_aside = (settled Even ++ settled Odd) ++ set_aside

all_gone_once : (settled : SettledLists) (set_aside : List ℕ) → AreApart settled set_aside → Once (all_gone settled set_aside)
all_gone_once settled set_aside a = search (rules, once_join, a.settled_once, a.players, a.aside_once, prefix_or_rest, a.aside_apart)

all_gone_is : (settled : SettledLists) (set_aside : List ℕ) (v : ℕ) → listed (all_gone settled set_aside) v ≡ gone settled set_aside v
all_gone_is settled set_aside v = listed-append (settled Even ++ settled Odd) set_aside v
    ∙ ap (λ b. b || listed set_aside v) (listed-append (settled Even) (settled Odd) v)

all_gone_length : (settled : SettledLists) (set_aside : List ℕ) → length (all_gone settled set_aside) ≡ how_many_gone settled set_aside
all_gone_length settled set_aside = omega (arith, length-append (settled Even ++ settled Odd) set_aside, length-append (settled Even) (settled Odd))

-- the lists together are no longer than the mask has vertices
pub lists_fit : {settled : SettledLists} {set_aside : List ℕ} (mask : List Bool) → AreApart settled set_aside
    → ((v : ℕ) → In (gone settled set_aside) v → In (members mask) v) → how_many_gone settled set_aside ≤ how_many mask
lists_fit {settled} {set_aside} mask a inside =
    let h = once_fits (all_gone settled set_aside) mask (all_gone_once settled set_aside a) (λ v i. inside v (sym (all_gone_is settled set_aside v) ∙ i)) in
    omega (arith, h, all_gone_length settled set_aside)

-- where the lists are that long, nothing is active
pub none_active : {g : Graph} (mask : List Bool) {active : VertexSet} {settled : SettledLists} {set_aside : List ℕ} {frames : List Frame} {won : Winners}
    {s : Choices} → AreOpenLevels g (members mask) active settled set_aside frames won s → how_many_gone settled set_aside ≡ how_many mask → (v : ℕ) → active v ≡ false
none_active mask {active} {settled} {set_aside} h e v = false_from_ne_true (active v) (λ i.
    (let c = part_of (members mask) settled set_aside v (sym (h.active_is v) ∙ i) in
    let fresh : listed (all_gone settled set_aside) v ≡ false = all_gone_is settled set_aside v ∙ gone_none settled set_aside v c.1 c.2 in
    let fits = once_fits (v ∷ all_gone settled set_aside) mask (fresh, all_gone_once settled set_aside h.apart)
    (λ w m. elim (or_cases (v == w) (listed (all_gone settled set_aside) w) m) [
      | inl y ↦ subst (In (members mask)) (eqb-true v w y) c.0
      | inr y ↦ h.listed_inside w (sym (all_gone_is settled set_aside w) ∙ y)
    ]) in
    omega (arith, fits, e, all_gone_length settled set_aside)))

-- and where they are shorter, a vertex is
pub some_active : {g : Graph} (mask : List Bool) {active : VertexSet} {settled : SettledLists} {set_aside : List ℕ} {frames : List Frame} {won : Winners}
    {s : Choices} → AreOpenLevels g (members mask) active settled set_aside frames won s → how_many_gone settled set_aside ≢ how_many mask → (v : ℕ) × In active v
some_active mask {settled = settled} {set_aside = set_aside} h n =
    let fits = lists_fit mask h.apart h.listed_inside in
    elim (cases_lt (how_many_gone settled set_aside) (how_many mask)) [
      | inl l ↦ (
          let m = missing (all_gone settled set_aside) mask (omega (arith, l, all_gone_length settled set_aside)) in
          (m.0, h.active_is m.0 ∙ minus m.1 (sym (all_gone_is settled set_aside m.0) ∙ m.2)))
      | inr l ↦ absurd (n (omega (arith, l, fits)))
    ]

-- The active part is begun: the vertices that are added to those set aside are its attractor, and the others stay active.
pub record Begins (g : Graph) (U active active' : VertexSet) (settled : SettledLists) (set_aside added : List ℕ) (frames : List Frame) (f : Frame)
    (won won' : Winners) (s s' : Choices) : Type 0 where
  pub open_levels : AreOpenLevels g U active settled set_aside frames won s
  pub within : (v : ℕ) → In (listed added) v → In active v
  pub once : Once added
  pub left : (v : ℕ) → active' v ≡ (active v && not (listed added v))
  pub begun : IsBegun g active (listed (take (f.tops_upto - f.set_aside_from) added)) active' f.player won' s'
  pub same : Agree active won won' s s'
  pub counts : (p : Player) → count_at f p ≡ length (settled p)
  pub from : f.set_aside_from ≡ length set_aside
  pub tops : (f.set_aside_from ≤ f.tops_upto) × (f.tops_upto ≤ f.set_aside_upto)
  pub upto : f.set_aside_upto ≡ length (set_aside ++ added)

module _ {g : Graph} {U active active' : VertexSet} {settled : SettledLists} {set_aside added : List ℕ} {frames : List Frame} {f : Frame} {won won' : Winners}
    {s s' : Choices} (b : Begins g U active active' settled set_aside added frames f won won' s s') where
  out_of_lists : (v : ℕ) → In active v → In U v × ((p : Player) → listed (settled p) v ≡ false) × (listed set_aside v ≡ false)
  out_of_lists v i = part_of U settled set_aside v (sym (b.open_levels.active_is v) ∙ i)

  active_now : (v : ℕ) → active' v ≡ part U settled (set_aside ++ added) v
  active_now v =
      let done = listed (settled Even) v || listed (settled Odd) v in
      b.left v ∙ (ap (λ x. x && not (listed added v)) (b.open_levels.active_is v)
      ∙ (minus_both (U v) (done || listed set_aside v) (listed added v)
      ∙ ap (λ x. U v && not x) (or_assoc done (listed set_aside v) (listed added v) ∙ ap (λ x. done || x) (sym (listed-append set_aside added v)))))

  prefix_now : prefix f settled ≡ settled
  prefix_now = fun_ext (λ p. take_all (count_at f p) (settled p) (let a = b.counts p in omega (arith, a)))

  -- the tops are the first of those that are added
  tops_now : drop f.set_aside_from (take f.tops_upto (set_aside ++ added)) ≡ take (f.tops_upto - f.set_aside_from) added
  tops_now =
      let e : length set_aside + (f.tops_upto - f.set_aside_from) ≡ f.tops_upto = omega (arith, b.from, b.tops.0) in
      ap (drop f.set_aside_from) (ap (λ n. take n (set_aside ++ added)) (sym e) ∙ take-append-add set_aside added (f.tops_upto - f.set_aside_from))
      ∙ (ap (λ n. drop n (set_aside ++ take (f.tops_upto - f.set_aside_from) added)) b.from
      ∙ drop-append_seam set_aside (take (f.tops_upto - f.set_aside_from) added))

  abbrev Tops : VertexSet
  Tops = listed (take (f.tops_upto - f.set_aside_from) added)

  level_now : level_at U settled (set_aside ++ added) f ≡ record { inside = active; tops = Tops; left = active'; player = f.player }
  level_now =
      let begins : take f.set_aside_from (set_aside ++ added) ≡ set_aside =
      take-append-le f.set_aside_from set_aside added (omega (arith, b.from)) ∙ take_all f.set_aside_from set_aside (omega (arith, b.from)) in
      let whole : take f.set_aside_upto (set_aside ++ added) ≡ set_aside ++ added = take_all f.set_aside_upto (set_aside ++ added) (omega (arith, b.upto)) in
      let in_all : part U (prefix f settled) (take f.set_aside_from (set_aside ++ added)) ≡ active =
      ap (λ t. part U t (take f.set_aside_from (set_aside ++ added))) prefix_now ∙ (ap (part U settled) begins ∙ fun_ext (λ v. sym (b.open_levels.active_is v))) in
      let in_left : part U (prefix f settled) (take f.set_aside_upto (set_aside ++ added)) ≡ active' =
      ap (λ t. part U t (take f.set_aside_upto (set_aside ++ added))) prefix_now ∙ (ap (part U settled) whole ∙ fun_ext (λ v. sym (active_now v))) in
      ap (λ X. record {
        inside = X;
        tops = listed (drop f.set_aside_from (take f.tops_upto (set_aside ++ added)));
        left = part U (prefix f settled) (take f.set_aside_upto (set_aside ++ added));
        player = f.player;
      }) in_all
      ∙ (ap (λ xs. record { inside = active; tops = listed xs; left = part U (prefix f settled) (take f.set_aside_upto (set_aside ++ added)); player = f.player }) tops_now
      ∙ ap (λ X. record { inside = active; tops = Tops; left = X; player = f.player }) in_left)

  pub stops_now : map (level_at U settled (set_aside ++ added)) frames ≡ map (level_at U settled set_aside) frames
  stops_now = search (rules, levels_same, b.open_levels.linked, take-append-le)

  levels_now : map (level_at U settled (set_aside ++ added)) (frames ++ f ∷ [])
      ≡ map (level_at U settled set_aside) frames ++ record { inside = active; tops = Tops; left = active'; player = f.player } ∷ []
  levels_now = search (rules, map-append, stops_now, level_now)

  -- the waiting levels and the active part differ in their greatest priorities
  pub begins_deeper : length frames < priority_count g U
  begins_deeper =
      let t = b.begun.some in
      let i = b.begun.attracted.inside t.0 (b.begun.attracted.target t.0 t.1) in
      let c = waits_count g U (map (level_at U settled set_aside) frames) active won s b.open_levels.waits t.0 i
      (ltb-true t.0 (length g) (b.begun.subgame.vertices t.0 i)) in
      omega (arith, c, length-map frames (level_at U settled set_aside))

  pub open_levels_begin : AreOpenLevels g U active' settled (set_aside ++ added) (frames ++ f ∷ []) won' s'
  open_levels_begin = record {
    linked = subst (λ n. Linked (λ p. 0) (λ p. length (settled p)) 0 (frames ++ f ∷ []) n) b.upto
        (linked_push (λ p. 0) (λ p. length (settled p)) 0 frames (length set_aside) f b.open_levels.linked b.from
        b.tops b.counts);
    apart = record {
      settled_once = b.open_levels.apart.settled_once;
      aside_once = once_join set_aside added b.open_levels.apart.aside_once b.once (apart_from set_aside added (λ v i j. no_both i (out_of_lists v (b.within
          v j)).2));
      players = b.open_levels.apart.players;
      aside_apart = λ p. apart_from (settled p) (set_aside ++ added) (λ v i j. elim (prefix_or_rest set_aside added v j) [
        | inl y ↦ no_both y (b.open_levels.apart.aside_apart p v i)
        | inr y ↦ no_both i ((out_of_lists v (b.within v y)).1 p)
      ]);
    };
    listed_inside = λ v i. elim (gone_cases settled (set_aside ++ added) v i) [
      | inl (p, y) ↦ b.open_levels.listed_inside v (gone_settled settled set_aside p v y)
      | inr y ↦ elim (prefix_or_rest set_aside added v y) [
        | inl x ↦ b.open_levels.listed_inside v (gone_aside settled set_aside v x)
        | inr x ↦ (out_of_lists v (b.within v x)).0
      ]
    ];
    active_is = active_now;
    his = λ p v i. (b.same v (false_from_ne_true (active v) (λ y. no_both i ((out_of_lists v y).1 p)))).0 ∙ b.open_levels.his p v i;
    waits = subst (λ levels. AreLevels g U levels active' won' s') (sym levels_now)
        (waits_push g U (map (level_at U settled set_aside) frames) (record { inside = active; tops = Tops; left = active'; player = f.player }) active' won' s'
        (waits_on g U (map (level_at U settled set_aside) frames) active active won won' s s' b.open_levels.waits b.same (solved_none)) b.begun (solved_none));
  }

-- What is taken of a subgame for its player and for the opponent, each after the prefix of his list; the others of it are active.
pub record Finishes (g : Graph) (p : Player) (I active : VertexSet) (before settled : SettledLists) (own other : List ℕ) (won won' : Winners)
    (s s' : Choices) : Type 0 where
  pub own_is : settled p ≡ before p ++ own
  pub other_is : settled (opponent p) ≡ before (opponent p) ++ other
  pub own_within : (v : ℕ) → In (listed own) v → In I v
  pub other_within : (v : ℕ) → In (listed other) v → In I v
  pub own_once : Once own
  pub other_once : Once other
  pub apart : Apart own other
  pub left : (v : ℕ) → active v ≡ (I v && not (listed own v || listed other v))
  pub own_won : (v : ℕ) → In (listed own) v → won' v ≡ p
  pub other_won : (v : ℕ) → In (listed other) v → won' v ≡ opponent p
  pub same : Agree I won won' s s'
  pub solved : IsSolvedTo g I active won' s'

-- The last subgame that waits.
module _ {g : Graph} {U active : VertexSet} {settled : SettledLists} {set_aside : List ℕ} (frames : List Frame) (f : Frame) {won : Winners} {s : Choices}
    (h : AreOpenLevels g U active settled set_aside (frames ++ f ∷ []) won s) where
  abbrev last : Level
  last = level_at U settled set_aside f

  links : Linked (λ p. 0) (count_at f) 0 frames f.set_aside_from × ((f.set_aside_from ≤ f.tops_upto) × (f.tops_upto ≤ f.set_aside_upto)) × ((p : Player)
      → count_at f p ≤ length (settled p)) × (f.set_aside_upto ≡ length set_aside)
  links = linked_pop (λ p. 0) (λ p. length (settled p)) 0 frames (length set_aside) f h.linked

  pub counts_fit : (p : Player) → count_at f p ≤ length (settled p)
  counts_fit = links.2

  popped : AreLevels g U (map (level_at U settled set_aside) frames) last.inside won s × IsBegun g last.inside last.tops last.left f.player won s
      × IsSolvedTo g last.left active won s
  popped = waits_pop g U (map (level_at U settled set_aside) frames) last active won s
      (subst (λ levels. AreLevels g U levels active won s) (map-append (level_at U settled set_aside) frames (f ∷ [])) h.waits)

  pub last_begun : IsBegun g last.inside last.tops last.left f.player won s
  last_begun = popped.1

  abbrev since : SettledLists
  since p = drop (count_at f p) (settled p)

  abbrev aside_since : List ℕ
  aside_since = drop f.set_aside_from set_aside

  -- what was settled or set aside since the subgame was begun is in no prefix
  settled_new : (p : Player) (v : ℕ) → In (listed (since p)) v → ((q : Player) → listed (prefix f settled q) v ≡ false)
  settled_new p v i = search (rules, false_from_ne_true, no_both, take_apart, h.apart.settled_once, h.apart, in_drop, in_take)

  out_of_aside : (v : ℕ) → ((p : Player) × In (listed (settled p)) v) → (k : ℕ) → listed (take k set_aside) v ≡ false
  out_of_aside v (p, i) k = false_from_ne_true (listed (take k set_aside) v) (λ y. no_both (in_take k set_aside v y) (h.apart.aside_apart p v i))

  aside_new : (v : ℕ) → In (listed aside_since) v → ((q : Player) → listed (prefix f settled q) v ≡ false) × (listed (take f.set_aside_from set_aside) v ≡ false)
  aside_new v i = search (rules, false_from_ne_true, no_both, in_drop, f.set_aside_from, h.apart.aside_apart, in_take, take_apart, h.apart.aside_once)

  pub since_inside : (p : Player) (v : ℕ) → In (listed (since p)) v → In last.inside v
  since_inside p v i = search (rules, in_drop, in_part, f.set_aside_from, h.listed_inside, gone_settled, settled_new, out_of_aside)

  pub since_left : (p : Player) (v : ℕ) → In (listed (since p)) v → In last.left v
  since_left p v i = search (rules, in_drop, in_part, f.set_aside_upto, h.listed_inside, gone_settled, settled_new, out_of_aside)

  pub aside_inside : (v : ℕ) → In (listed aside_since) v → In last.inside v
  aside_inside v i = search (rules, aside_new, in_part, f.set_aside_from, h.listed_inside, gone_aside, in_drop)

  -- where nothing is active, the subgame has nothing else, and of these the ones that were settled are left
  module _ (none : (v : ℕ) → active v ≡ false) where
    listed_somewhere : (v : ℕ) → In U v → ((p : Player) × In (listed (settled p)) v) ⊎ In (listed set_aside) v
    listed_somewhere v u = gone_cases settled set_aside v (unless u (sym (h.active_is v) ∙ none v))

    pub inside_cases : (v : ℕ) → In last.inside v → ((p : Player) × In (listed (since p)) v) ⊎ In (listed aside_since) v
    inside_cases v i = search (rules, listed_somewhere, part_of, f.set_aside_from, take_or_drop, no_both)

    pub left_cases : (v : ℕ) → In last.left v → (p : Player) × In (listed (since p)) v
    left_cases v i = elim (listed_somewhere v (part_of U (prefix f settled) (take f.set_aside_upto set_aside) v i).0) [
      | inl (p, y) ↦ elim (take_or_drop (count_at f p) (settled p) v y) [
        | inl x ↦ absurd (no_both x ((part_of U (prefix f settled) (take f.set_aside_upto set_aside) v i).1 p))
        | inr x ↦ (p, x)
      ]
      | inr y ↦ absurd (no_both (subst (λ xs. In (listed xs) v) (sym (take_all f.set_aside_upto set_aside (omega (arith, links.3)))) y)
          (part_of U (prefix f settled) (take f.set_aside_upto set_aside) v i).2)
    ]

    pub left_solved : IsSolvedInside g last.left won s
    left_solved = solved_whole (IsSolvedTo-subst none popped.2)

    -- what a player won of what is left
    pub won_since : (p : Player) (v : ℕ) → won_inside last.left won p v ≡ listed (since p) v
    won_since p v = search (rules, both_ways, and_from, since_left, is_same, h.his, in_drop, and_parts, left_cases, same_is)

  -- It is finished: each list goes back to where it was, and then gets what is taken of the subgame.
  module _ {active' : VertexSet} {settled' : SettledLists} {own other : List ℕ} {won' : Winners} {s' : Choices}
      (t : Finishes g f.player last.inside active' (prefix f settled) settled' own other won won' s s') where
    abbrev taken : SettledLists
    taken = pick f.player own other

    is : (p : Player) → settled' p ≡ prefix f settled p ++ taken p
    is = picked (λ p xs. settled' p ≡ prefix f settled p ++ xs) f.player own other t.own_is t.other_is

    within : (p : Player) (v : ℕ) → In (listed (taken p)) v → In last.inside v
    within = picked (λ p xs. (v : ℕ) → In (listed xs) v → In last.inside v) f.player own other t.own_within t.other_within

    once : (p : Player) → Once (taken p)
    once = picked (λ p xs. Once xs) f.player own other t.own_once t.other_once

    abbrev A : List ℕ
    A = take f.set_aside_from set_aside

    inside_parts : (v : ℕ) → In last.inside v → In U v × ((p : Player) → listed (prefix f settled p) v ≡ false) × (listed A v ≡ false)
    inside_parts v i = part_of U (prefix f settled) A v i

    parts : (p : Player) (v : ℕ) → In (listed (settled' p)) v → In (listed (prefix f settled p)) v ⊎ In (listed (taken p)) v
    parts p v i = prefix_or_rest (prefix f settled p) (taken p) v (subst (λ xs. In (listed xs) v) (is p) i)

    not_inside : (p : Player) (v : ℕ) → In (listed (prefix f settled p)) v → last.inside v ≡ false
    not_inside p v i = false_from_ne_true (last.inside v) (λ y. no_both i ((inside_parts v y).1 p))

    active_finished : (v : ℕ) → active' v ≡ part U settled' A v
    active_finished v =
        t.left v ∙ (ap (λ b. last.inside v && not b) (sym (pick_either f.player own other v))
        ∙ (minus_more (U v) (listed (prefix f settled Even) v) (listed (prefix f settled Odd) v) (listed A v) (listed (taken Even) v) (listed (taken Odd) v)
        ∙ (ap (λ b. U v && not ((b || (listed (prefix f settled Odd) v || listed (taken Odd) v)) || listed A v))
        (sym (listed-append (prefix f settled Even) (taken Even) v) ∙ ap (λ xs. listed xs v) (sym (is Even)))
        ∙ ap (λ b. U v && not ((listed (settled' Even) v || b) || listed A v))
        (sym (listed-append (prefix f settled Odd) (taken Odd) v) ∙ ap (λ xs. listed xs v) (sym (is Odd))))))

    counts : (p : Player) → length (prefix f settled p) ≡ count_at f p
    counts p = (let a = links.2 p in omega (arith, length-take (count_at f p) (settled p), a))

    length_aside : length A ≡ f.set_aside_from
    length_aside = omega (arith, length-take f.set_aside_from set_aside, links.1.0, links.1.1, links.3)

    pub stops_kept : map (level_at U settled' A) frames ≡ map (level_at U settled set_aside) frames
    stops_kept = levels_same U settled set_aside settled' A (λ p. 0) (count_at f) 0 f.set_aside_from frames links.0
        (λ p k l. ap (take k) (is p) ∙ (take-append-le k (prefix f settled p) (taken p) (let a = counts p in omega (arith, l, a))
        ∙ (grind (arith, common_steps))))
        (λ k l. grind (arith, common_steps))

    pub finish_apart : AreApart settled' A
    finish_apart = record {
      settled_once =
          λ p. subst Once (sym (is p)) (once_join (prefix f settled p) (taken p) (once_take (count_at f p) (settled p) (h.apart.settled_once p)) (once p)
          (apart_from (prefix f settled p) (taken p) (λ v i j. no_both i ((inside_parts v (within p v j)).1 p))));
      aside_once = once_take f.set_aside_from set_aside h.apart.aside_once;
      players = apart_from (settled' Even) (settled' Odd) (λ v i j. elim (parts Even v i) [
        | inl x ↦ elim (parts Odd v j) [
          | inl y ↦ no_both (in_take (count_at f Odd) (settled Odd) v y) (h.apart.players v (in_take (count_at f Even) (settled Even) v x))
          | inr y ↦ no_both x ((inside_parts v (within Odd v y)).1 Even)
        ]
        | inr x ↦ elim (parts Odd v j) [
          | inl y ↦ no_both y ((inside_parts v (within Even v x)).1 Odd)
          | inr y ↦ no_both y (pick_apart f.player own other t.apart v x)
        ]
      ]);
      aside_apart = λ p. apart_from (settled' p) A (λ v i j. elim (parts p v i) [
        | inl x ↦ no_both (in_take f.set_aside_from set_aside v j) (h.apart.aside_apart p v (in_take (count_at f p) (settled p) v x))
        | inr x ↦ no_both j (inside_parts v (within p v x)).2
      ]);
    }

    pub finish_inside : (v : ℕ) → In (gone settled' A) v → In U v
    finish_inside v i = search (rules, gone_cases, parts, h.listed_inside, gone_settled, in_take, inside_parts, within, gone_aside, f.set_aside_from)

    pub open_levels_finish : AreOpenLevels g U active' settled' A frames won' s'
    open_levels_finish = record {
      linked = subst (λ n. Linked (λ p. 0) (λ p. length (settled' p)) 0 frames n) (sym length_aside)
          (linked_more (λ p. 0) (count_at f) (λ p. length (settled' p)) 0 frames f.set_aside_from
          (λ p. (let a = ap length (is p) in let b = counts p in omega (arith, a, b, length-append (prefix f settled p) (taken p)))) links.0);
      apart = finish_apart;
      listed_inside = finish_inside;
      active_is = active_finished;
      his = λ p v i. elim (parts p v i) [
        | inl x ↦ (t.same v (not_inside p v x)).0 ∙ h.his p v (in_take (count_at f p) (settled p) v x)
        | inr x ↦ (picked (λ p xs. (v : ℕ) → In (listed xs) v → won' v ≡ p) f.player own other t.own_won t.other_won) p v x
      ];
      waits = subst (λ levels. AreLevels g U levels active' won' s') (sym stops_kept)
          (waits_on g U (map (level_at U settled set_aside) frames) last.inside active' won won' s s' popped.0 t.same t.solved);
    }

    pub finish_more : 0 < length own + length other → f.even + f.odd + f.set_aside_from < how_many_gone settled' A
    finish_more l = search (rules, f.even, f.odd, f.player, length_aside, is, length-append, counts)

-- the levels of a solver at the end of its last one, and that the frame's counts fit
pub end_levels : {g : Graph} {mask : List Bool} {x : Solver} {f : Frame} (h : IsAtEnd g mask x f)
    → AreOpenLevels g (members mask) (active_of x.partition.subgame) (settled_of x.partition.settled) x.set_aside.items (h.before ++ f ∷ [])
    (winners_of x.partition.subgame.plan) (choices_of x.partition.subgame.plan)
end_levels h = rw (← h.last) h.running.open_levels

pub end_counts : {g : Graph} {mask : List Bool} {x : Solver} {f : Frame} → IsAtEnd g mask x f → (p : Player)
    → count_at f p ≤ length (settled_of x.partition.settled p)
end_counts {f = f} h = counts_fit h.before f (end_levels h)

-- the frame is the one that is popped
pub last_popped : (v : Vec Frame Global) (before : List Frame) (f : Frame) {rest : List Frame} → v.items ≡ before ++ f ∷ [] → rest ≡ take (vec_len v - 1) v.items
    → v.items ≡ rest ++ f ∷ []
last_popped v before f {rest} last is =
    let n : vec_len v - 1 ≡ length before = omega (arith, v.ok.0, ap length last, length_push before f) in
    let same : rest ≡ before = is ∙ rw (n, last) (take-append_seam before (f ∷ [])) in
    last ∙ ap (λ fs. fs ++ f ∷ []) (sym same)

-- where nothing is active and nothing waits, all is solved
pub open_levels_done : {g : Graph} {U active : VertexSet} {settled : SettledLists} {set_aside : List ℕ} {frames : List Frame} {won : Winners} {s : Choices}
    → AreOpenLevels g U active settled set_aside frames won s → frames ≡ [] → ((v : ℕ) → active v ≡ no_vertices v) → IsSolvedInside g U won s
open_levels_done {g} {U} {active} {settled} {set_aside} {frames} {won} {s} h e none =
    solved_whole (IsSolvedTo-subst none (subst (λ fs. AreLevels g U (map (level_at U settled set_aside) fs) active won s) e h.waits))

-- where nothing is listed, all of the set is active
pub open_levels_start : {g : Graph} {U active : VertexSet} {settled : SettledLists} {set_aside : List ℕ} {frames : List Frame} {won : Winners} {s : Choices}
    → ((v : ℕ) → active v ≡ U v) → ((p : Player) → settled p ≡ []) → set_aside ≡ [] → frames ≡ [] → AreOpenLevels g U active settled set_aside frames won s
open_levels_start {g} {U} {active} {settled} {set_aside} {frames} {won} {s} e a b c = record {
  linked = rw (c, b) (λ p. (let q = a p in omega arith), refl);
  apart = record {
    settled_once = λ p. subst Once (sym (a p)) tt;
    aside_once = rw b tt;
    players = λ v i. absurd (nothing (settled Even) v (a Even) i);
    aside_apart = λ p v i. absurd (nothing (settled p) v (a p) i);
  };
  listed_inside = λ v i. elim (gone_cases settled set_aside v i) [
    | inl (p, y) ↦ absurd (nothing (settled p) v (a p) y)
    | inr y ↦ absurd (nothing set_aside v b y)
  ];
  active_is = λ v. e v ∙ (sym (and-true (U v)) ∙ ap (λ x. U v && not x)
      (sym (gone_none settled set_aside v (λ p. ap (λ xs. listed xs v) (a p)) (ap (λ xs. listed xs v) b))));
  his = λ p v i. absurd (nothing (settled p) v (a p) i);
  waits = rw c (IsSolvedTo-subst (λ v. sym (e v)) (solved_none));
}
  where
    nothing : (xs : List ℕ) (v : ℕ) → xs ≡ [] → In (listed xs) v → ⊥
    nothing xs v q i = cc (ap (λ ys. listed ys v) q, i)
