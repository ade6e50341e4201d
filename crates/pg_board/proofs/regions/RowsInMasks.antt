-- Rows' vertices that are taken out of a mask, or put into it, one after another.
use Rattle.pg_board.proofs.Common.{◌≡◌, ℕ, ◌+◌, ◌<◌, Bool, true, false, ◌&&◌, ◌||◌, not, List, length, take, set, sym, ◌∙◌, ap, arith, ◌==◌}
use Rattle.pg_board.proofs.Common.{or_assoc, VertexSet, members, union, without, ClaimRows, named, row_at}
use Rattle.std.proofs.Common.{slice_set}
use Rattle.pg_game.proofs.Masks.{members-set}
use Rattle.pg_finders.proofs.Masks.{members-unset}
use Rattle.pg_finders.proofs.Sets.{minus_both}
use Rattle.pg_dominion.proofs.RowsByPlace.{named_more}

pub members_removed : (mask new : List Bool) (X : VertexSet) (rows : ClaimRows) (i : ℕ) → i < length rows → new ≡ slice_set mask (row_at rows i).0 false
    → ((v : ℕ) → members mask v ≡ without X (named (take i rows)) v) → (v : ℕ) → members new v ≡ without X (named (take (i + 1) rows)) v
members_removed mask new X rows i l e h v =
    let r = row_at rows i in
    ap (λ m. members m v) e ∙ (members-unset mask r.0 v ∙ (ap (λ b. b && not (r.0 == v)) (h v) ∙ (minus_both (X v) (named (take i rows) v) (r.0 == v)
    ∙ ap (λ b. X v && not b) (sym (named_more rows i v l)))))

pub members_put : (mask new : List Bool) (X : VertexSet) (rows : ClaimRows) (i : ℕ) {n : ℕ} → i < length rows → (row_at rows i).0 < n → length mask ≡ n
    → new ≡ set mask (row_at rows i).0 true → ((v : ℕ) → members mask v ≡ union X (named (take i rows)) v) → (v : ℕ)
    → members new v ≡ union X (named (take (i + 1) rows)) v
members_put mask new X rows i l below size e h v =
    let r = row_at rows i in
    ap (λ m. members m v) e ∙ (members-set mask r.0 (omega (arith, below, size)) v ∙ (ap (λ b. b || (r.0 == v)) (h v)
    ∙ (or_assoc (X v) (named (take i rows) v) (r.0 == v) ∙ ap (λ b. X v || b) (sym (named_more rows i v l)))))
