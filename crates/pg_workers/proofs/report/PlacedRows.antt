-- Rows that are put at the places of their jobs.
use Rattle.pg_workers.proofs.Common.{rules, ◌≡◌, ◌≢◌, ℕ, zero, suc, ◌+◌, ◌<◌, ◌≤◌, inl, inr, List, [], ◌∷◌, ◌++◌, Vec, Global, length, map, take, drop, get_or}
use Rattle.pg_workers.proofs.Common.{set, refl, sym, ap, ◌∙◌, subst, arith, length-set, sum_by, slice_get, Some, common_steps, nat_tests, get_or_default, times}
use Rattle.pg_workers.proofs.Common.{take_more, take-append-drop, sum_by-append, sum_by-cons, sum_by-set, sum_by_more, sum_by_more_le, none-some, same_Some}
use Rattle.pg_workers.proofs.Common.{slice_get_within, slice_get-get_or, get_or_from_slice_get, ReportRow, once_below, AreNumbered, IsDrawnRow, IsReport}
use Rattle.pg_workers.proofs.Common.{blank_row, settled_in, AreBlank, AreOfPrefix, AreNotedRows, HasFreePlaces, jobs_in, rows_in, how_many_of_job}
use Rattle.pg_workers.proofs.jobs.DrawnNumbers.{flat_map-push}
use Rattle.pg_workers.proofs.Counts.{sum_by-of_map}
use Rattle.pg_workers.proofs.report.Rows.{at_job, get_set_same, get_set_other, get_append, counted, found_row, rows_of-append, rows_of-rows_in}

-- one row more, of a job of which there was none
pub one_placed : (before now rows : List ReportRow) (r : ReportRow) → AreNotedRows before now rows → how_many_of_job r.job rows ≡ 0
    → r.job < length before → AreNotedRows before (set now r.job r) (rows ++ r ∷ [])
one_placed before now rows r p new lt = record {
  size = length-set now r.job r ∙ p.size;
  placed = λ i x e.
      elim (get_append rows (r ∷ []) i x e) [
        | inl here ↦
            let c = counted rows i x here in
            let apart : x.job ≢ r.job = λ same. let s = ap (λ (j : ℕ). how_many_of_job j rows) same in omega arith in
            get_set_other now r.job x.job r apart ∙ p.placed i x here
        | inr there ↦ last there.0 x there.1
      ];
  others = grind (arith, common_steps, rows_of-append, sum_by-cons, at_job, get_set_other);
}
  where
    here : slice_get (set now r.job r) r.job ≡ Some r
    here = get_set_same now r.job r (let s = p.size in omega arith)

    last : (k : ℕ) (x : ReportRow) → slice_get (r ∷ []) k ≡ Some x → slice_get (set now r.job r) x.job ≡ Some x
    last zero x e = subst (λ (y : ReportRow). slice_get (set now r.job r) y.job ≡ Some y) (same_Some r x e) here
    last (suc k) x e = absurd (none-some x e)

apart_from : (a b : ℕ) → (0 < a → b ≡ 0) → 0 < b → a ≡ 0
apart_from a b h some = search rules

-- rows of other jobs are put into the report that was made
pub then_placed : (before mid after xs ys : List ReportRow) → AreNotedRows before mid xs → AreNotedRows mid after ys
    → ((j : ℕ) → 0 < how_many_of_job j ys → how_many_of_job j xs ≡ 0) → AreNotedRows before after (xs ++ ys)
then_placed before mid after xs ys p q apart = record {
  size = q.size ∙ p.size;
  placed = λ i r e.
      elim (get_append xs ys i r e) [
        | inl here ↦
            q.others r.job (apart_from (how_many_of_job r.job ys) (how_many_of_job r.job xs) (apart r.job) (counted xs i r here)) ∙ p.placed i r here
        | inr there ↦ q.placed there.0 r there.1
      ];
  others = λ j none. let a = rows_of-append j xs ys in q.others j (omega arith) ∙ p.others j (omega arith);
}

-- the row at i is of a job of which none of the rows before it is
next_free : (rows : List ReportRow) (i : ℕ) (r : ReportRow) → i < length rows → r ≡ get_or rows i r → how_many_of_job r.job rows ≤ 1
    → how_many_of_job r.job (take i rows) ≡ 0
next_free rows i r lt is once =
    let whole : how_many_of_job r.job rows ≡ how_many_of_job r.job (take (i + 1) rows) + how_many_of_job r.job (drop (i + 1) rows) =
    ap (how_many_of_job r.job) (sym (take-append-drop (i + 1) rows)) ∙ rows_of-append r.job (take (i + 1) rows) (drop (i + 1) rows) in
    grind (arith, common_steps, take_more, rows_of-append, counted)

-- the row at i, where the report's rows of these jobs were free, after the rows before it were put in their places
pub record IsNext (before now rows : List ReportRow) (i : ℕ) (r : ReportRow) : Type 0 where
  pub places : HasFreePlaces before rows
  pub within : i < length rows
  pub here : r ≡ get_or rows i r
  pub placed : AreNotedRows before now (take i rows)

pub next_row : {before now rows : List ReportRow} (i : ℕ) → HasFreePlaces before rows → i < length rows → AreNotedRows before now (take i rows)
    → IsNext before now rows i (get_or rows i (blank_row 0))
next_row {rows = rows} i places within placed =
    record { places = places; within = within; here = get_or_default rows i (blank_row 0) (get_or rows i (blank_row 0)) within; placed = placed }

module _ {before now rows : List ReportRow} {i : ℕ} {r : ReportRow} (n : IsNext before now rows i r) where
  none_before : how_many_of_job r.job (take i rows) ≡ 0
  none_before = next_free rows i r n.within n.here (n.places.once r.job)

  next_blank : slice_get now r.job ≡ Some (blank_row r.job)
  next_blank =
      n.placed.others r.job none_before ∙ n.places.free r.job (counted rows i r (slice_get-get_or rows i r n.within ∙ ap Some (sym n.here)))

  pub next_place : r.job < length now
  next_place = slice_get_within now r.job (blank_row r.job) next_blank

  pub next_placed : AreNotedRows before (set now r.job r) (take (i + 1) rows)
  next_placed =
      let size = n.placed.size in
      let here = next_place in
      subst (AreNotedRows before (set now r.job r)) (sym (take_more rows i r n.within ∙ ap (λ (x : ReportRow). take i rows ++ x ∷ []) (sym n.here)))
      (one_placed before now (take i rows) r n.placed none_before (omega arith))

  -- what a row settled comes to a place where nothing was settled
  pub next_settled : settled_in now ≡ settled_in before + settled_in (take i rows)
      → settled_in (set now r.job r) ≡ settled_in before + settled_in (take (i + 1) rows)
  next_settled sum =
      let free : (get_or now r.job r).settled ≡ 0 = ap (λ (x : ReportRow). x.settled) (get_or_from_slice_get now r.job (blank_row r.job) r next_blank) in
      search (rules, sum_by-set, next_place, sum_by_more)

below_once : (j n : ℕ) → once_below j n ≤ 1
below_once j n = grind (arith, nat_tests)

-- the rows of the next worker have free places in the report
pub has_places : (n : ℕ) (before now : List ReportRow) (all : List (Vec ReportRow Global)) (i : ℕ) (v : Vec ReportRow Global) → AreBlank before
    → n ≤ length before → AreOfPrefix n (rows_in all) → i < length all → v ≡ get_or all i v → AreNotedRows before now (rows_in (take i all))
    → HasFreePlaces now v.items
has_places n before now all i v blank few prefix lt is p = record {
  once = λ j. let s = share j in let f = prefix j in let o = below_once j n in omega arith;
  free = λ j some.
      let s = share j in let f = prefix j in let o = below_once j n in
      let lt' : j < n = grind (arith, nat_tests) in
      let at = slice_get-get_or before j (blank_row j) (omega arith) in
      p.others j (omega arith) ∙ at ∙ ap Some (blank j (get_or before j (blank_row j)) at);
}
  where
    share : (j : ℕ) → how_many_of_job j (rows_in (take i all)) + how_many_of_job j v.items ≤ how_many_of_job j (rows_in all)
    share j =
        let a = sum_by_more_le (λ (w : Vec ReportRow Global). how_many_of_job j w.items) all i v lt in
        let b = rows_of-rows_in j all in grind (arith, common_steps, rows_of-rows_in)

rows_in-more : (all : List (Vec ReportRow Global)) (i : ℕ) (v : Vec ReportRow Global) → i < length all → v ≡ get_or all i v
    → rows_in (take (i + 1) all) ≡ rows_in (take i all) ++ v.items
rows_in-more all i v lt is = grind (arith, common_steps, flat_map-push)

-- the rows of one worker more
pub more_placed : (n : ℕ) (before now after : List ReportRow) (all : List (Vec ReportRow Global)) (i : ℕ) (v : Vec ReportRow Global)
    → AreOfPrefix n (rows_in all) → i < length all → v ≡ get_or all i v → AreNotedRows before now (rows_in (take i all))
    → AreNotedRows now after v.items → AreNotedRows before after (rows_in (take (i + 1) all))
more_placed n before now after all i v prefix lt is p q =
    subst (AreNotedRows before after) (sym (rows_in-more all i v lt is))
    (then_placed before now after (rows_in (take i all)) v.items p q (λ j some.
    let a = sum_by_more_le (λ (w : Vec ReportRow Global). how_many_of_job j w.items) all i v lt in
    let b = rows_of-rows_in j all in let c = rows_of-rows_in j (take i all) in
    let d : how_many_of_job j (get_or all i v).items ≡ how_many_of_job j v.items = ap (λ (w : Vec ReportRow Global). how_many_of_job j w.items) (sym is) in
    search (rules, below_once)))

pub more_settled : (all : List (Vec ReportRow Global)) (i : ℕ) (v : Vec ReportRow Global) → i < length all → v ≡ get_or all i v
    → settled_in (rows_in (take (i + 1) all)) ≡ settled_in (rows_in (take i all)) + settled_in v.items
more_settled all i v lt is = ap settled_in (rows_in-more all i v lt is) ∙ sum_by-append (λ (r : ReportRow). r.settled) (rows_in (take i all)) v.items

-- the workers' rows are of a prefix of the jobs, since their tickets' numbers are
pub of_front : {T : Type 0} (n : ℕ) (numbers : T → List ℕ) (ts : List T) (all : List (Vec ReportRow Global))
    → ((j : ℕ) → sum_by (λ t. times j (numbers t)) ts ≡ once_below j n) → map (λ (v : Vec ReportRow Global). jobs_in v.items) all ≡ map numbers ts
    → AreOfPrefix n (rows_in all)
of_front n numbers ts all fair same = λ j.
    rows_of-rows_in j all ∙ sym (sum_by-of_map (times j) (λ (v : Vec ReportRow Global). jobs_in v.items) all) ∙ ap (sum_by (times j)) same
    ∙ sum_by-of_map (times j) numbers ts ∙ fair j

-- a row that was placed is still of its place's job
pub placed_numbered : (before after rows : List ReportRow) → AreBlank before → AreNotedRows before after rows → AreNumbered after
placed_numbered before after rows blank p = λ k r e. go k r e (how_many_of_job k rows) refl
  where
    go : (k : ℕ) (r : ReportRow) → slice_get after k ≡ Some r → (m : ℕ) → how_many_of_job k rows ≡ m → r.job ≡ k
    go k r e zero none = ap (λ (x : ReportRow). x.job) (blank k r (sym (p.others k none) ∙ e))
    go k r e (suc m) some =
        let w = found_row k rows (omega arith) in search (rules, same_Some, slice_get)

-- where the workers' rows are of a prefix of the jobs, they are the report of that prefix
pub is_report : (workers n : ℕ) (before after rows : List ReportRow) → AreBlank before → AreNotedRows before after rows → AreOfPrefix n rows
    → ((i : ℕ) (r : ReportRow) → slice_get rows i ≡ Some r → IsDrawnRow workers r) → IsReport workers after
is_report workers n before after rows blank p prefix done = record {
  drawn = n;
  done = λ k r e lt.
      let f = prefix k in let o : once_below k n ≡ 1 = grind (arith, nat_tests) in
      let w = found_row k rows (omega arith) in search (rules, same_Some, slice_get);
  blank = λ k r e le. blank k r (sym (p.others k (prefix k ∙ (grind (arith, nat_tests)))) ∙ e);
}
