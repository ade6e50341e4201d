-- Lists that are shared: what stops in a row say of them, and which levels stay the same.
use Rattle.pg_finders.proofs.Common.{◌≡◌, ℕ, ◌≤◌, false, ◌||◌, ◌⊎◌, List, [], ◌∷◌, ◌++◌, take, map, refl, sym, ◌∙◌, ap, arith, rules, or_cases}
use Rattle.pg_finders.proofs.Common.{or_left, or_right, false_from_ne_true, Player, Even, Odd, opponent, same_player, if◌then◌else◌, VertexSet, In, Frame}
use Rattle.pg_finders.proofs.Common.{listed, Apart, SettledLists, gone, part, count_at, prefix, level_at, Linked, fun_ext, drop, take-append-drop}
use Rattle.std.proofs.Math.Bool.{or_comm}
use Rattle.pg_finders.proofs.Sets.{no_both, minus, only}
use Rattle.pg_finders.proofs.recursion.ListsAsSets.{apart_other}

-- one list for the player, another for the opponent
abbrev pub pick : Player → List ℕ → List ℕ → SettledLists
pick p xs ys q = if same_player q p then xs else ys

-- what holds of each of the two lists holds of each player's
pub picked : (P : Player → List ℕ → Type 0) (p : Player) (xs ys : List ℕ) → P p xs → P (opponent p) ys → (q : Player) → P q (pick p xs ys q)
picked x0 x1 xs ys a b x6 = search (rules)

pub pick_apart : (p : Player) (xs ys : List ℕ) → Apart xs ys → Apart (pick p xs ys Even) (pick p xs ys Odd)
pick_apart x0 xs ys a = search (rules, apart_other)

pub pick_either : (p : Player) (xs ys : List ℕ) (v : ℕ) → (listed (pick p xs ys Even) v || listed (pick p xs ys Odd) v) ≡ (listed xs v || listed ys v)
pick_either x0 xs ys v = search (rules, or_comm)

-- a player's list is what it was when the subgame began, and what came since
pub cut : (f : Frame) (settled : SettledLists) (p : Player) → settled p ≡ prefix f settled p ++ drop (count_at f p) (settled p)
cut f settled p = sym (take-append-drop (count_at f p) (settled p))

pub gone_settled : (settled : SettledLists) (set_aside : List ℕ) (p : Player) (v : ℕ) → In (listed (settled p)) v → In (gone settled set_aside) v
gone_settled settled set_aside Even v i = search (rules, or_left)
gone_settled settled set_aside Odd v i = search (rules, or_left, or_right)

pub gone_aside : (settled : SettledLists) (set_aside : List ℕ) (v : ℕ) → In (listed set_aside) v → In (gone settled set_aside) v
gone_aside settled set_aside v i = or_right (listed (settled Even) v || listed (settled Odd) v) (listed set_aside v) i

pub gone_cases : (settled : SettledLists) (set_aside : List ℕ) (v : ℕ) → In (gone settled set_aside) v
    → ((p : Player) × In (listed (settled p)) v) ⊎ In (listed set_aside) v
gone_cases settled set_aside v i = search (rules, or_cases)

pub gone_none : (settled : SettledLists) (set_aside : List ℕ) (v : ℕ) → ((p : Player) → listed (settled p) v ≡ false) → listed set_aside v ≡ false
    → gone settled set_aside v ≡ false
gone_none settled set_aside v f a = rw (f Even, f Odd, a) refl

pub not_gone : (settled : SettledLists) (set_aside : List ℕ) (v : ℕ) → gone settled set_aside v ≡ false
    → ((p : Player) → listed (settled p) v ≡ false) × (listed set_aside v ≡ false)
not_gone settled set_aside v n = search (rules, gone_settled, gone_aside, false_from_ne_true, no_both)

-- a vertex of the part is in the set and in no list
pub part_of : (U : VertexSet) (settled : SettledLists) (set_aside : List ℕ) (v : ℕ) → In (part U settled set_aside) v
    → In U v × ((p : Player) → listed (settled p) v ≡ false) × (listed set_aside v ≡ false)
part_of U settled set_aside v i = (let a = only (U v) (gone settled set_aside v) i in let b = not_gone settled set_aside v a.1 in (a.0, b.0, b.1))

pub in_part : (U : VertexSet) (settled : SettledLists) (set_aside : List ℕ) (v : ℕ) → In U v → ((p : Player) → listed (settled p) v ≡ false)
    → listed set_aside v ≡ false → In (part U settled set_aside) v
in_part U settled set_aside v u f a = minus u (gone_none settled set_aside v f a)

linked_le : (i n : Player → ℕ) (first : ℕ) (frames : List Frame) (last : ℕ) → Linked i n first frames last → ((p : Player) → i p ≤ n p) × (first ≤ last)
linked_le i n first [] last l = (l.0, omega (arith, l.1))
linked_le i n first (x ∷ xs) last l = (let h = linked_le (count_at x) n x.set_aside_upto xs last l.3 in
    (λ p. (let a = l.0 p in let b = h.0 p in omega (arith, a, b)), omega (arith, l.1, l.2.0, l.2.1, h.1)))

pub linked_more : (i n m : Player → ℕ) (first : ℕ) (frames : List Frame) (last : ℕ) → ((p : Player) → n p ≤ m p) → Linked i n first frames last
    → Linked i m first frames last
linked_more i n m first [] last e l = (λ p. (let a = e p in let b = l.0 p in omega (arith, a, b)), l.1)
linked_more i n m first (x ∷ xs) last e l = (l.0, l.1, l.2, linked_more (count_at x) n m x.set_aside_upto xs last e l.3)

pub linked_push : (i n : Player → ℕ) (first : ℕ) (frames : List Frame) (last : ℕ) (f : Frame) → Linked i n first frames last → f.set_aside_from ≡ last
    → (f.set_aside_from ≤ f.tops_upto) × (f.tops_upto ≤ f.set_aside_upto) → ((p : Player) → count_at f p ≡ n p) → Linked i n first (frames ++ f ∷ []) f.set_aside_upto
linked_push i n first [] last f l a b c = search (rules)
linked_push i n first (x ∷ xs) last f l a b c = (l.0, l.1, l.2, linked_push (count_at x) n x.set_aside_upto xs last f l.3 a b c)

pub linked_pop : (i n : Player → ℕ) (first : ℕ) (frames : List Frame) (last : ℕ) (f : Frame) → Linked i n first (frames ++ f ∷ []) last
    → Linked i (count_at f) first frames f.set_aside_from × ((f.set_aside_from ≤ f.tops_upto) × (f.tops_upto ≤ f.set_aside_upto)) × ((p : Player) → count_at f p ≤ n p) × (f.set_aside_upto ≡ last)
linked_pop i n first [] last f l = ((l.0, sym l.1), l.2, l.3.0, l.3.1)
linked_pop i n first (x ∷ xs) last f l = let h = linked_pop (count_at x) n x.set_aside_upto xs last f l.3 in ((l.0, l.1, l.2, h.0), h.1, h.2, h.3)

-- the levels are the same where the lists agree up to the stops
pub levels_same : (U : VertexSet) (settled : SettledLists) (set_aside : List ℕ) (settled' : SettledLists) (set_aside' : List ℕ) (i n : Player
    → ℕ) (first last : ℕ)
    (frames : List Frame) → Linked i n first frames last → ((p : Player) (k : ℕ) → k ≤ n p → take k (settled' p) ≡ take k (settled p))
    → ((k : ℕ) → k ≤ last → take k set_aside' ≡ take k set_aside) → map (level_at U settled' set_aside') frames ≡ map (level_at U settled set_aside) frames
levels_same U settled set_aside settled' set_aside' i n first last [] l f h = refl
levels_same U settled set_aside settled' set_aside' i n first last (x ∷ xs) l f h =
    let le = linked_le (count_at x) n x.set_aside_upto xs last l.3 in
    let a : prefix x settled' ≡ prefix x settled = fun_ext (λ p. f p (count_at x p) (le.0 p)) in
    let b = h x.set_aside_from (omega (arith, l.2.0, l.2.1, le.1)) in
    let t : drop x.set_aside_from (take x.tops_upto set_aside') ≡ drop x.set_aside_from (take x.tops_upto set_aside) =
    ap (drop x.set_aside_from) (h x.tops_upto (omega (arith, l.2.1, le.1))) in
    let here : level_at U settled' set_aside' x ≡ level_at U settled set_aside x =
    ap (λ s. record {
      inside = part U s (take x.set_aside_from set_aside');
      tops = listed (drop x.set_aside_from (take x.tops_upto set_aside'));
      left = part U s (take x.set_aside_upto set_aside');
      player = x.player;
    }) a
    ∙ (ap (λ xs. record {
      inside = part U (prefix x settled) xs;
      tops = listed (drop x.set_aside_from (take x.tops_upto set_aside'));
      left = part U (prefix x settled) (take x.set_aside_upto set_aside');
      player = x.player;
    }) b
    ∙ (ap (λ xs. record {
      inside = part U (prefix x settled) (take x.set_aside_from set_aside);
      tops = listed xs;
      left = part U (prefix x settled) (take x.set_aside_upto set_aside');
      player = x.player;
    }) t
    ∙ ap (λ xs. record {
      inside = part U (prefix x settled) (take x.set_aside_from set_aside);
      tops = listed (drop x.set_aside_from (take x.tops_upto set_aside));
      left = part U (prefix x settled) xs;
      player = x.player;
    }) (h x.set_aside_upto le.1))) in
    ap (λ y. y ∷ map (level_at U settled' set_aside') xs) here
    ∙ ap (λ ys. level_at U settled set_aside x ∷ ys) (levels_same U settled set_aside settled' set_aside' (count_at x) n x.set_aside_upto last xs l.3 f h)
