-- What is written item by item: what stood there, the items before a place, and then the rest.
use Rattle.pgboard.proofs.Common.{rules, ◌≡◌, ℕ, ◌<◌, ◌+◌, List, ◌++◌, length, get_or, drop, append_assoc, flat_map, drop_more, Graph, Entry, Journal}
use Rattle.pgboard.proofs.Common.{entry_text, entries_text}

pub one_more : {X : Type 0} (f : X → List ℕ) (xs : List X) (i : ℕ) (d : X) (out new whole : List ℕ) → i < length xs
    → new ≡ out ++ f (get_or xs i d) → out ++ flat_map f (drop i xs) ≡ whole → new ++ flat_map f (drop (i + 1) xs) ≡ whole
one_more f xs i d out new whole lt written before = search (rules, append_assoc, drop_more)

pub one_entry_more : (g : Graph) (es : Journal) (i : ℕ) (e : Entry) (out new whole : List ℕ) → i < length es → e ≡ get_or es i e
    → new ≡ out ++ entry_text g i e → out ++ entries_text g i (drop i es) ≡ whole → new ++ entries_text g (i + 1) (drop (i + 1) es) ≡ whole
one_entry_more g es i e out new whole lt is written before = search (rules, append_assoc, drop_more)
