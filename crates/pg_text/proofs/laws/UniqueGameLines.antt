-- Tokens are a game text of at most one list of lines, and the place of the first wrong owner is determined.
use Rattle.pg_text.proofs.Common.{◌≡◌, ℕ, ◌<◌, ◌≤◌, List, [], ◌∷◌, ◌++◌, length, refl, sym, ◌∙◌, ap, arith, append_assoc, rules, flat_map, codes}
use Rattle.pg_text.proofs.Common.{append-nil, Token, Number, Comma, Semicolon, Placed, tokens_of, Spells, IsPlayerFault, WrittenGameLine, separated}
use Rattle.pg_text.proofs.Common.{name_tokens, game_line_tokens, game_tokens, IsGameText, BeginsGameText, IsBeforeOwner, IsSomeGameText}
use Rattle.std.proofs.Common.{Option, Some, None}
use Rattle.pg_text.specs.GameText.{headed}
use Rattle.pg_text.specs.private.GameReads.{AreOwners}
use Rattle.pg_text.proofs.laws.UniqueTokens.{one_spelling}
use Rattle.pg_text.proofs.laws.UniqueLines.{Avoids, behind_head, no_word, lines_once, player_small}
use Rattle.pg_text.proofs.laws.ExclusiveFaults.{tokens_at, player_once, game_prefix, game_begins}

abbrev pub line : ℕ → ℕ → ℕ → List ℕ → Option (List ℕ) → WrittenGameLine
line id priority owner successors name = record { id = id; priority = priority; owner = owner; successors = successors; name = name }

abbrev rest : List ℕ → Option (List ℕ) → List Token
rest ws name = separated ws ++ (name_tokens name ++ Semicolon ∷ [])

same_name : (n m : Option (List ℕ)) (xs ys : List Token) → rest [] n ++ xs ≡ rest [] m ++ ys → (n ≡ m) × (xs ≡ ys)
same_name None None xs ys e = (refl, cc e)
same_name (Some b) (Some c) xs ys e = (cc e, cc e)
same_name None (Some c) xs ys e = absurd (cc e)
same_name (Some b) None xs ys e = absurd (cc e)

-- further successors, each after a comma
abbrev pub further : List ℕ → List Token
further ws = flat_map (λ w. Comma ∷ Number w ∷ []) ws

pub separated-first : (w : ℕ) (ws : List ℕ) → separated (w ∷ ws) ≡ Number w ∷ further ws
separated-first w [] = refl
separated-first w (v ∷ vs) = ap (λ ts. Number w ∷ Comma ∷ ts) (separated-first v vs)

same_further : (ws vs : List ℕ) (n m : Option (List ℕ)) (xs ys : List Token)
    → (further ws ++ rest [] n) ++ xs ≡ (further vs ++ rest [] m) ++ ys → (ws ≡ vs) × (n ≡ m) × (xs ≡ ys)
same_further [] [] n m xs ys e = let f = same_name n m xs ys e in (refl, f.0, f.1)
same_further [] (v ∷ vs) None m xs ys e = absurd (cc e)
same_further [] (v ∷ vs) (Some b) m xs ys e = absurd (cc e)
same_further (w ∷ ws) [] n None xs ys e = absurd (cc e)
same_further (w ∷ ws) [] n (Some c) xs ys e = absurd (cc e)
same_further (w ∷ ws) (v ∷ vs) n m xs ys e = let f = same_further ws vs n m xs ys (cc e) in (cc (e, f.0), f.1, f.2)

-- the rest of a line determines it and what follows it
same_rest : (ws vs : List ℕ) (n m : Option (List ℕ)) (xs ys : List Token) → rest ws n ++ xs ≡ rest vs m ++ ys → (ws ≡ vs) × (n ≡ m) × (xs ≡ ys)
same_rest [] [] n m xs ys e = same_further [] [] n m xs ys e
same_rest [] (v ∷ vs) None m xs ys e = let g = rw (separated-first v vs) at e in absurd (cc g)
same_rest [] (v ∷ vs) (Some b) m xs ys e = let g = rw (separated-first v vs) at e in absurd (cc g)
same_rest (w ∷ ws) [] n None xs ys e = let g = rw (separated-first w ws) at e in absurd (cc g)
same_rest (w ∷ ws) [] n (Some c) xs ys e = let g = rw (separated-first w ws) at e in absurd (cc g)
same_rest (w ∷ ws) (v ∷ vs) n m xs ys e =
    let g = rw (separated-first w ws, separated-first v vs) at e in
    let f = same_further ws vs n m xs ys (cc g) in
    (cc (g, f.0), f.1, f.2)

first : (l : WrittenGameLine) → (n : ℕ) × (ts : List Token) × (game_line_tokens l ≡ Number n ∷ ts)
first l = (l.id, Number l.priority ∷ Number l.owner ∷ rest l.successors l.name, refl)

front : (a b : WrittenGameLine) (xs ys : List Token) → game_line_tokens a ++ xs ≡ game_line_tokens b ++ ys → (a ≡ b) × (xs ≡ ys)
front a b xs ys e =
    let (s, n, r) = same_rest a.successors b.successors a.name b.name xs ys (cc e) in
    let f : line a.id a.priority a.owner a.successors a.name ≡ line b.id b.priority b.owner b.successors b.name = cc (e, s, n) in
    (f, r)

avoids_start : (s : Option ℕ) (xs : List Token) → Avoids (codes "parity") xs → Avoids (codes "parity") (headed (codes "start") s ++ xs)
avoids_start None xs a = a
avoids_start (Some n) xs a = λ us e. cc e

behind_heads : (h s k t : Option ℕ) (ks ls : List WrittenGameLine) (xs ys : List Token) → ((word : List ℕ) → Avoids word xs) → ((word : List ℕ) → Avoids word ys)
    → headed (codes "parity") h ++ (headed (codes "start") s ++ (flat_map game_line_tokens ks ++ xs))
    ≡ headed (codes "parity") k ++ (headed (codes "start") t ++ (flat_map game_line_tokens ls ++ ys))
    → flat_map game_line_tokens ks ++ xs ≡ flat_map game_line_tokens ls ++ ys
behind_heads h s k t ks ls xs ys a b e =
    let us : List Token = flat_map game_line_tokens ks ++ xs in
    let vs : List Token = flat_map game_line_tokens ls ++ ys in
    let c = λ (word : List ℕ). no_word game_line_tokens first front word ks xs (a word) in
    let d = λ (word : List ℕ). no_word game_line_tokens first front word ls ys (b word) in
    behind_head (codes "start") s t us vs (c (codes "start")) (d (codes "start"))
    (behind_head (codes "parity") h k (headed (codes "start") s ++ us) (headed (codes "start") t ++ vs) (avoids_start s us (c (codes "parity")))
    (avoids_start t vs (d (codes "parity"))) e)

no_tokens : (word : List ℕ) → Avoids word []
no_tokens word us e = cc e

numbers : (n : ℕ) (ts : List Token) (word : List ℕ) → Avoids word (Number n ∷ ts)
numbers n ts word us e = cc e

-- tokens are a game text of at most one list of lines
pub one_reading : (ts : List Token) (ls ks : List WrittenGameLine) → IsGameText ts ls → IsGameText ts ks → ls ≡ ks
one_reading ts ls ks i j =
    let e : headed (codes "parity") i.header ++ (headed (codes "start") i.start ++ (flat_map game_line_tokens ls ++ []))
    ≡ headed (codes "parity") j.header ++ (headed (codes "start") j.start ++ (flat_map game_line_tokens ks ++ [])) =
    search (rules, append-nil, i.tokens, j.tokens) in
    let f = behind_heads i.header i.start j.header j.start ls ks [] [] no_tokens no_tokens e in
    lines_once game_line_tokens first front ls ks (sym (append-nil (flat_map game_line_tokens ls)) ∙ (f ∙ append-nil (flat_map game_line_tokens ks)))

-- an owner inside lines whose owners are 0 and 1, and what follows them, is 0 or 1
inner_owner : (xs m : List Token) (n : ℕ) (k t : Option ℕ) (ls : List WrittenGameLine) (more : List Token) → IsBeforeOwner xs → AreOwners ls
    → length more ≤ 2 → ((word : List ℕ) → Avoids word more) → xs ++ Number n ∷ m ≡ game_tokens k t ls ++ more → n < 2
inner_owner xs m n k t ls more x owned short a e =
    let stem : List Token = Number x.id ∷ Number x.priority ∷ [] in
    let f : headed (codes "parity") x.header ++ (headed (codes "start") x.start ++ (flat_map game_line_tokens x.earlier ++ (stem ++ Number n ∷ m)))
    ≡ headed (codes "parity") k ++ (headed (codes "start") t ++ (flat_map game_line_tokens ls ++ more)) = search (rules, append_assoc, x.tokens) in
    player_small game_line_tokens first front (λ l. l.owner) stem m n (λ l us g. cc g) (λ l. omega arith) more short x.earlier ls
    (behind_heads x.header x.start k t x.earlier ls (stem ++ Number n ∷ m) more (numbers x.id (Number x.priority ∷ Number n ∷ m)) a f) owned

later_owner : (xs ys m : List Token) (n : ℕ) → IsBeforeOwner xs → IsBeforeOwner ys → BeginsGameText ys → ys ≡ xs ++ Number n ∷ m → n < 2
later_owner xs ys m n a y b e =
    inner_owner xs m n y.header y.start y.earlier (Number y.id ∷ Number y.priority ∷ []) a y.owners (omega arith) (numbers y.id (Number y.priority ∷ []))
    (sym e ∙ y.tokens)

pub owner_once : (text : List ℕ) (a b : ℕ) → IsPlayerFault IsSomeGameText IsBeforeOwner text a → IsPlayerFault IsSomeGameText IsBeforeOwner text b → a ≡ b
owner_once = player_once BeginsGameText IsSomeGameText IsBeforeOwner game_prefix game_begins later_owner

-- a wrong owner is in no text whose owners are 0 and 1
pub owner_or_lines : (text : List ℕ) (a : ℕ) (us : List Placed) (lines : List WrittenGameLine) → IsPlayerFault IsSomeGameText IsBeforeOwner text a
    → Spells 0 text us → IsGameText (tokens_of us) lines → AreOwners lines → ⊥
owner_or_lines text a us lines x z w o =
    let h = x.first in
    let d : tokens_of us ≡ tokens_of h.before ++ Number h.number ∷ tokens_of h.after =
    ap tokens_of (one_spelling 0 text us x.tokens z x.spelled ∙ h.split) ∙ tokens_at h.before h.after h.token h.number h.number_is in
    let e = sym d ∙ (w.tokens ∙ sym (append-nil (game_tokens w.header w.start lines))) in
    let l = inner_owner (tokens_of h.before) (tokens_of h.after) h.number w.header w.start lines [] h.expected o (omega arith) no_tokens e in
    omega (arith, l, h.wrong)
