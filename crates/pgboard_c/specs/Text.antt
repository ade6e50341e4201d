-- The texts for C: a table with one line for each answer. Each has a zero at its end.
use Rattle.std.specs.Prelude.{ℕ, List, codes, if◌then◌else◌, ◌==◌, ◌≡◌, ◌≤◌, ◌<◌, ◌++◌, length, drop}

-- of the answers on boards and on a bound, and of every other number
abbrev pub board_text : ℕ → List ℕ
board_text n =
    if n == 70 then codes "the board is open already\0" else
    if n == 71 then codes "the board is not open\0" else
    if n == 72 then codes "the board has no entry of this number\0" else
    if n == 73 then codes "the board has unsettled vertices\0" else
    if n == 74 then codes "the board has no vertex of this number\0" else
    if n == 80 then codes "the claim's player is neither 0 nor 1\0" else
    if n == 81 then codes "the claim's arrays have different lengths\0" else
    if n == 82 then codes "a row of the claim is wrong\0" else
    if n == 83 then codes "the greatest priority on a closed walk in the claim is the opponent's\0" else
    if n == 84 then codes "a vertex of the claim is settled for the opponent\0" else
    if n == 85 then codes "all vertices of the claim are settled for the player\0" else
    if n == 86 then codes "a kept edge leads out of the claim and of what is settled for the player\0" else
    if n == 90 then codes "the recursion needs more steps than the call allows\0" else
    codes "no answer of this library\0"

-- of the answers on texts, buffers and what is known
abbrev pub reading_text : ℕ → List ℕ
reading_text n =
    if n == 30 then codes "the game's text is longer than 268435456 bytes\0" else
    if n == 31 then codes "the game's text has a byte that begins no token, or a quote that is never closed\0" else
    if n == 32 then codes "the game's text has a token that is not expected, or ends too early\0" else
    if n == 33 then codes "the game's text has a number above 2147483647\0" else
    if n == 34 then codes "the game's text has an owner that is neither 0 nor 1\0" else
    if n == 40 then codes "the solution's text is longer than 268435456 bytes\0" else
    if n == 41 then codes "the solution's text has a byte that begins no token, or a quote that is never closed\0" else
    if n == 42 then codes "the solution's text has a token that is not expected, or ends too early\0" else
    if n == 43 then codes "the solution's text has a number above 2147483647\0" else
    if n == 44 then codes "the solution's text has a winner that is neither 0 nor 1\0" else
    if n == 45 then codes "the solution's text has a vertex that is not in the game\0" else
    if n == 46 then codes "the solution's text has two lines for a vertex\0" else
    if n == 47 then codes "the solution's text has no line for a vertex\0" else
    if n == 50 then codes "the buffer is smaller than the text, or an array than what it is to have\0" else
    if n == 60 then codes "a vertex that its owner is known to win has no choice that is a successor\0" else
    if n == 61 then codes "the greatest priority on a closed walk in what a player is known to win is the other's\0" else
    if n == 62 then codes "Even attracts a vertex that is known for Odd to what is known for Even\0" else
    if n == 63 then codes "a kept edge leads out of what a player is known to win\0" else
    board_text n

abbrev pub answer_text : ℕ → List ℕ
answer_text n =
    if n == 0 then codes "no fault\0" else
    if n == 1 then codes "memory was refused\0" else
    if n == 2 then codes "the arrays of the game do not fit one another\0" else
    if n == 3 then codes "the row of a vertex is no part of the targets\0" else
    if n == 4 then codes "an owner is neither 0 nor 1\0" else
    if n == 5 then codes "a priority is above 2147483647\0" else
    if n == 6 then codes "an array for results does not have one entry for each vertex\0" else
    if n == 7 then codes "a winner is neither 0 nor 1\0" else
    if n == 8 then codes "an array of the solution does not have one entry for each vertex\0" else
    if n == 9 then codes "the size of a struct is not the one that this library takes\0" else
    if n == 10 then codes "the game has no vertex\0" else
    if n == 11 then codes "the game has more than 1048576 vertices\0" else
    if n == 12 then codes "a vertex is specified twice\0" else
    if n == 13 then codes "a vertex has no successor\0" else
    if n == 14 then codes "the game has more than 16777216 edges\0" else
    if n == 15 then codes "a successor is no vertex\0" else
    if n == 20 then codes "the winner owns a vertex and has no choice there\0" else
    if n == 21 then codes "a winner's choice is no successor\0" else
    if n == 22 then codes "a kept edge leads to a vertex that its winner does not win\0" else
    if n == 23 then codes "the greatest priority on a closed walk is the loser's\0" else
    reading_text n

abbrev pub version_text : List ℕ
version_text = codes "0.1.0\0"

-- the text's size is returned; where the text fits it is at the front of the buffer, and the bytes after it are unchanged; else all are
abbrev pub IsCopied : List ℕ → List ℕ → List ℕ → ℕ → Type 0
IsCopied text old new size =
    (size ≡ length text) × (size ≤ length old → new ≡ text ++ drop size old) × (length old < size → new ≡ old)
