-- Each kind of step keeps the rule of the word.
use Rattle.pg_workers.proofs.Common.{rules, ◌≡◌, ℕ, ◌+◌, ◌%◌, ◌^◌, ◌<◌, ◌≤◌, List, [], ◌∷◌, ◌++◌, Bool, length, set, refl, ap, ◌∙◌, subst, ⊎_elim, arith, min}
use Rattle.pg_workers.proofs.Common.{length-append, common_steps, nat_lt, slice_index, MatchBool, sum_by, mod-eq_of_lt, some, some-injective, some-ne-none}
use Rattle.pg_workers.proofs.Common.{get_elem?, Step, opening, Allows, Splits, Joins, times, once_below, drawer, IsDrawer, IsDrawn, Draws, AtSeat, one_less}
use Rattle.pg_workers.proofs.Common.{one_ticket, both_drawers, spent_drawer, sum_by-append}
use Rattle.atomic_table.specs.Table.{State}
use Rattle.atomic_table.proofs.Lists.{at_set, at_snoc}
use Rattle.pg_workers.specs.declared.jobs.Drawer.{Drawer}
use Rattle.pg_workers.proofs.Counts.{sum_by-set_at, sum_by-at, sum_by-le_each, alone, once_more, once_none}

pub begins : (total seats : ℕ) → IsDrawn total seats (opening (0 ∷ []) [] (drawer total seats 0 []))
begins total seats = grind (arith, once_none, some-injective, some-ne-none)

-- the views after a change of one
each_set : (total : ℕ) (views : List Drawer) (id : ℕ) (w : Drawer) → ((i : ℕ) (v : Drawer) → get_elem? views i ≡ some v → IsDrawer total v)
    → IsDrawer total w → (i : ℕ) (v : Drawer) → get_elem? (set views id w) i ≡ some v → IsDrawer total v
each_set total views id w h mine i v e = grind (arith, common_steps, get_elem?, at_set)

-- the word never wraps
pub word_bound : (total seats : ℕ) (s : State (Unit {0}) Drawer) (h : IsDrawn total seats s) → h.word ≤ total + seats
word_bound total seats s h = search (rules, sum_by-le_each)

module _ (total seats id : ℕ) (v : Drawer) (s : State (Unit {0}) Drawer) (h : IsDrawn total seats s) (at : get_elem? s.views id ≡ some v)
    (one_ticket_held : v.tickets ≡ 1) (not_told : v.told_none ≡ 0) where
  same_total : v.total ≡ total
  same_total = (h.each id v at).1 (omega arith)

  abbrev number_drawn : Drawer
  number_drawn = drawer v.total v.tickets v.told_none (v.drawn ++ h.word ∷ [])

  abbrev after : ℕ → Drawer → State (Unit {0}) Drawer
  after n w = record { words = n ∷ []; homes = s.homes; views = set s.views id w }

  draws_number : h.word < total → IsDrawn total seats (after (h.word + 1) number_drawn)
  draws_number lt =
      let w = number_drawn in
      let d = sum_by-set_at (λ (u : Drawer). length u.drawn) s.views id v w at in
      let l = length-append v.drawn (h.word ∷ []) in
      let t = sum_by-set_at (λ (u : Drawer). u.told_none) s.views id v w at in
      let k = sum_by-set_at (λ (u : Drawer). u.tickets) s.views id v w at in
      let m : min total h.word ≡ h.word = omega arith in
      let n : min total (h.word + 1) ≡ h.word + 1 = omega arith in let e = h.each id v at in
      record {
        word = h.word + 1;
        words = refl;
        fair = search (rules, sum_by-set_at, sum_by-append, once_more);
        drawn = omega (arith, d, l, h.drawn, m, n);
        steps = omega (arith, d, l, t, h.steps);
        tickets = omega (arith, k, h.tickets);
        each = each_set total s.views id w h.each (e.0, e.1, (λ z. absurd (omega arith)));
      }

  abbrev told_once : Drawer
  told_once = drawer v.total v.tickets (v.told_none + 1) v.drawn

  draws_none : total ≤ h.word → IsDrawn total seats (after (h.word + 1) told_once)
  draws_none le =
      let w = told_once in
      let d = sum_by-set_at (λ (u : Drawer). length u.drawn) s.views id v w at in
      let t = sum_by-set_at (λ (u : Drawer). u.told_none) s.views id v w at in
      let k = sum_by-set_at (λ (u : Drawer). u.tickets) s.views id v w at in
      let m : min total (h.word + 1) ≡ min total h.word = omega arith in let e = h.each id v at in
      record {
        word = h.word + 1;
        words = refl;
        fair = search (rules, sum_by-set_at);
        drawn = omega (arith, d, h.drawn, m);
        steps = omega (arith, d, t, h.steps);
        tickets = omega (arith, k, h.tickets);
        each = each_set total s.views id w h.each (omega arith, e.1, (λ z. absurd (omega arith)));
      }

  abbrev IsAnswered : Bool → Type 0
  IsAnswered b =
      (w : Drawer) × IsDrawn total seats (after (h.word + 1) w)
      × MatchBool b ((length v.drawn < v.total) × (w ≡ drawer v.total v.tickets v.told_none (v.drawn ++ h.word ∷ [])))
      (w ≡ drawer v.total v.tickets (v.told_none + 1) v.drawn)

  pub tells : (b : Bool) → nat_lt h.word v.total ≡ b → IsAnswered b
  tells b e = grind (arith, same_total, sum_by-at, number_drawn, draws_number, draws_none)

-- a draw by one who has one ticket
pub draws : (total seats slots id : ℕ) (me : AtSeat) (st : Step (Unit {0})) → total + seats < 2 ^ 63 → me.0.tickets ≡ 1 → me.0.told_none ≡ 0
    → Allows (λ s. IsDrawn total seats s) slots id me 0 (λ n. (n + 1) % 2 ^ 64) (Draws st me)
draws total seats slots id me st bound one not_told s h len at small =
    let t = tells total seats id me.0 s h at one not_told (nat_lt h.word me.0.total) refl in
    let w : Drawer = t.0 in let wb = word_bound total seats s h in
    let words : set s.words 0 ((slice_index s.words 0 + 1) % 2 ^ 64) ≡ (h.word + 1) ∷ [] =
    ap (λ (ws : List ℕ). set ws 0 ((slice_index ws 0 + 1) % 2 ^ 64)) h.words ∙ ap (λ (n : ℕ). n ∷ []) (mod-eq_of_lt (omega arith)) in search rules

-- one ticket of several goes to a new seat
pub splits : (total seats id : ℕ) (v : Drawer) → 2 ≤ v.tickets → v.told_none ≡ 0 → v.drawn ≡ []
    → Splits (λ s. IsDrawn total seats s) id v (one_less v) (one_ticket v)
splits total seats id v two not_told empty s h at =
    let l = one_less v in let r = one_ticket v in let vs = set s.views id l in
    let sums : (f : Drawer → ℕ) → sum_by f (vs ++ r ∷ []) + f v ≡ sum_by f s.views + f l + f r =
    λ f. let a = sum_by-append f vs (r ∷ []) in let b = sum_by-set_at f s.views id v l at in omega arith in
    let e = h.each id v at in let same : v.total ≡ total = e.1 (omega arith) in
    record {
      word = h.word;
      words = h.words;
      fair = λ x. let a = sums (λ u. times x u.drawn) in let b = h.fair x in omega arith;
      drawn = let a = sums (λ u. length u.drawn) in let b = h.drawn in omega arith;
      steps = let a = sums (λ u. length u.drawn) in let b = sums (λ u. u.told_none) in let c = h.steps in omega arith;
      tickets = let a = sums (λ u. u.tickets) in let b = h.tickets in omega arith;
      each = λ j u at'.
          ⊎_elim
          (λ was. each_set total s.views id l h.each (omega arith, (λ _. same), (λ _. empty)) j u was)
          (λ (is : r ≡ u). subst (IsDrawer total) is (omega arith, (λ _. same), (λ _. refl)))
          (at_snoc vs r u j at');
    }

-- one who has tickets takes in the tickets of another
pub joins : (total seats id : ℕ) (v : Drawer) (other : ℕ) (w : Drawer) → 0 < v.tickets
    → Joins (λ s. IsDrawn total seats s) id v other w (both_drawers v w) spent_drawer
joins total seats id v other w some_ticket s h at apart there = grind (arith, ⊎_elim, get_elem?, at_set, sum_by-set_at, length-append, sum_by-append)

-- the view has each number below the total that the word has counted
pub record KnowsAll (total : ℕ) (v : Drawer) : Type 0 where
  pub word : ℕ
  pub fair : (x : ℕ) → times x v.drawn ≡ once_below x (min total word)
  pub drawn : length v.drawn ≡ min total word
  pub steps : word ≡ min total word + v.told_none

-- who has every ticket knows every number
pub knows_all : (total seats id : ℕ) (v : Drawer) (s : State (Unit {0}) Drawer) → IsDrawn total seats s → get_elem? s.views id ≡ some v
    → v.tickets ≡ seats → KnowsAll total v
knows_all total seats id v s h at whole = search (rules, s.views, v.tickets, h.tickets, alone, h.each, h.steps, h.drawn, h.word)
