-- The parts of a joined text, from the place of its first `%`.
use Rattle.pgboard.proofs.Common.{◌≡◌, ℕ, ◌+◌, ◌==◌, List, [], length, take, drop, Some, None, ap, ◌∙◌, arith, take-length, drop_of_length-le, position_or_len}
use Rattle.pgboard.proofs.Common.{false_from_ne_true, game_part, solution_part}
use Rattle.std.proofs.lemmas.List.Sums.{position_or_len_is}
use Rattle.memchr.specs.Find.{IsFirstByte, is_byte}

place : (text : List ℕ) (k : ℕ) → IsFirstByte (is_byte 37) text (Some k) → position_or_len (λ b. b == 37) text ≡ k
place text k h = position_or_len_is _ text k 0 (omega (arith, h.0.high)) (λ j lt. false_from_ne_true _ (h.0.before j (omega arith) lt)) (λ _. h.1)

no_place : (text : List ℕ) → IsFirstByte (is_byte 37) text None → position_or_len (λ b. b == 37) text ≡ length text
no_place text h = position_or_len_is _ text (length text) 0 (omega arith) (λ j lt. false_from_ne_true _ (h j (omega arith) lt)) (λ lt. absurd (omega arith))

pub game_before : (text : List ℕ) (k : ℕ) → IsFirstByte (is_byte 37) text (Some k) → game_part text ≡ take k text
game_before text k h = ap (λ n. take n text) (place text k h)

pub solution_after : (text : List ℕ) (k : ℕ) → IsFirstByte (is_byte 37) text (Some k) → solution_part text ≡ drop (k + 1) text
solution_after text k h = ap (λ n. drop (n + 1) text) (place text k h)

pub game_alone : (text : List ℕ) → IsFirstByte (is_byte 37) text None → game_part text ≡ text
game_alone text h = ap (λ n. take n text) (no_place text h) ∙ take-length text

pub no_solution : (text : List ℕ) → IsFirstByte (is_byte 37) text None → solution_part text ≡ []
no_solution text h = ap (λ n. drop (n + 1) text) (no_place text h) ∙ drop_of_length-le text (omega arith)
