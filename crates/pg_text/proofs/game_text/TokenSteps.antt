-- What is known of a game text goes on, a token at a time.
use Rattle.pg_text.proofs.Common.{◌≡◌, ℕ, ◌<◌, Bool, true, List, [], ◌∷◌, ◌++◌, length, refl, sym, ◌∙◌, ap, subst, rules, arith, append_assoc, append-nil}
use Rattle.pg_text.proofs.Common.{codes, map-append, length-append, flat_map, IfSome, Player, Even, Spec, Token, TokenKind, kind_of, Number, Word, Name, Comma, Semicolon}
use Rattle.pg_text.proofs.Common.{WrittenGameLine, separated, name_tokens, game_line_tokens, game_tokens, IsGameText, IsBeforeOwner}
use Rattle.pg_text.proofs.Common.{BeginsGameText, IsSomeGameText}
use Rattle.std.proofs.Common.{Option, Some, None}
use Rattle.std.proofs.lemmas.Grind.{flat_map-append}
use Rattle.pg_game.proofs.SpecificationLists.{spec_of as spec}
use Rattle.pg_text.specs.GameText.{headed}
use Rattle.pg_text.specs.declared.reader.State.{State}
use Rattle.pg_text.specs.declared.lexer.TokenKind.TheVariants as kind
use Rattle.pg_text.specs.declared.reader.State.TheVariants.{Start, HeadWord, HeadNumber, Headed, StartWord, StartNumber, Started, Ready, Id, Priority, Player as Owner}
use Rattle.pg_text.specs.declared.reader.State.TheVariants.{Listing, Vertex, Named}
use Rattle.pg_text.specs.private.GameReads.{AreNonempty, IsWhole, AreOwners, AreLines, begun, Leads, Agrees, SaysSpecs}
use Rattle.pg_text.specs.private.Machine.{number_of, run, Read, Stops}
use Rattle.pg_text.specs.private.Tables.{game_table as table}
use Rattle.pg_game.proofs.AllElements.{all-push}
use Rattle.pg_text.proofs.laws.UniqueGameLines.{line}
use Rattle.pg_text.proofs.laws.ExclusiveFaults.{game_prefix, game_begins}
use Rattle.pg_text.proofs.reader.Machine.{lines_after, word_cases, pushed, leads_in, goes_on, stops_at}

-- the line begun, after a token that leads to the state
abbrev part_after : State → Token → WrittenGameLine → WrittenGameLine
part_after Id t l = record l { id = number_of t }
part_after Priority t l = record l { priority = number_of t }
part_after Owner t l = record l { owner = number_of t; successors = []; name = None }
part_after Vertex t l = record l { successors = l.successors ++ number_of t ∷ [] }
part_after Named (Name bytes) l = record l { name = Some bytes }
part_after Ready t l = record l { successors = []; name = None }
part_after s t l = l

-- every text leads to a state where it may end
run-listing : (w : ℕ) (ws : List ℕ) (more : List Token) → run table (Some Listing) (separated (w ∷ ws) ++ more) ≡ run table (Some Vertex) more
run-listing w [] more = refl
run-listing w (v ∷ vs) more = run-listing v vs more

run-rest : (ws : List ℕ) (name : Option (List ℕ)) (more : List Token) → 0 < length ws
    → run table (Some Owner) ((separated ws ++ (name_tokens name ++ Semicolon ∷ [])) ++ more) ≡ run table (Some Ready) more
run-rest [] name more h = absurd (omega arith)
run-rest (w ∷ []) None more h = refl
run-rest (w ∷ []) (Some b) more h = refl
run-rest (w ∷ v ∷ vs) None more h =
    ap (run table (Some Listing)) (append_assoc (separated (v ∷ vs)) (Semicolon ∷ []) more) ∙ run-listing v vs (Semicolon ∷ more)
run-rest (w ∷ v ∷ vs) (Some b) more h =
    ap (run table (Some Listing)) (append_assoc (separated (v ∷ vs)) (Name b ∷ Semicolon ∷ []) more) ∙ run-listing v vs (Name b ∷ Semicolon ∷ more)

run-lines : (lines : List WrittenGameLine) → AreNonempty lines → run table (Some Ready) (flat_map game_line_tokens lines) ≡ Some Ready
run-lines [] a = refl
run-lines (l ∷ lines) a = run-rest l.successors l.name (flat_map game_line_tokens lines) a.0 ∙ run-lines lines a.1

run-text : (h s : Option ℕ) (lines : List WrittenGameLine) → 0 < length lines → AreNonempty lines
    → run table (Some Start) (game_tokens h s lines) ≡ Some Ready
run-text h s [] n a = absurd (omega arith)
run-text None None (l ∷ lines) n a = run-lines (l ∷ lines) a
run-text None (Some s) (l ∷ lines) n a = run-lines (l ∷ lines) a
run-text (Some h) None (l ∷ lines) n a = run-lines (l ∷ lines) a
run-text (Some h) (Some s) (l ∷ lines) n a = run-lines (l ∷ lines) a

accepts : (ts : List Token) → IsSomeGameText ts → run table (Some Start) ts ≡ Some Ready
accepts ts (lines, i) = ap (run table (Some Start)) i.tokens ∙ run-text i.header i.start lines i.nonempty i.successors

-- one more line
line_more : (done : List Token) (lines : List WrittenGameLine) (l : WrittenGameLine) → IsWhole done lines → 0 < length l.successors
    → IsGameText (done ++ game_line_tokens l) (lines ++ l ∷ [])
line_more done lines l w h = record {
  header = w.header;
  start = w.start;
  tokens = search (rules, w.header, w.start, w.tokens, flat_map-append, append-nil, append_assoc);
  nonempty = let e = length-append lines (l ∷ []) in omega arith;
  successors = all-push (λ k. 0 < length k.successors) lines l w.successors h;
}

separated-push : (ws : List ℕ) (n : ℕ) → 0 < length ws → separated (ws ++ n ∷ []) ≡ separated ws ++ Comma ∷ Number n ∷ []
separated-push [] n h = absurd (omega arith)
separated-push (w ∷ []) n h = refl
separated-push (w ∷ v ∷ vs) n h = ap (λ ts. Number w ∷ Comma ∷ ts) (separated-push (v ∷ vs) n (omega arith))

-- headers are whole
heads : (h s : Option ℕ) {ts : List Token} {lines : List WrittenGameLine} → ts ≡ headed (codes "parity") h ++ (headed (codes "start") s ++ []) → lines ≡ []
    → IsWhole ts lines
heads h s {ts} {lines} e f = record { header = h; start = s; tokens = rw f e; successors = rw f tt }

closed : {ts : List Token} (done : List Token) (lines : List WrittenGameLine) (l : WrittenGameLine) → IsWhole done lines → 0 < length l.successors
    → ts ≡ done ++ game_line_tokens l → IsGameText ts (lines ++ l ∷ [])
closed done lines l w h e = subst (λ us. IsGameText us (lines ++ l ∷ [])) (sym e) (line_more done lines l w h)

-- one more token
pub leads_on : (from : State) (t : Token) (ts : List Token) (lines : List WrittenGameLine) (l : WrittenGameLine) → Leads from ts lines l
    → IfSome (table from (kind_of t)) (λ to. Leads to (ts ++ t ∷ []) (lines_after to l lines) (part_after to t l))
leads_on Start (Number n) ts lines l h = (ts, heads None None h.0 h.1, tt, refl)
leads_on HeadWord (Number n) ts lines l h = (n, ap (λ us. us ++ Number n ∷ []) h.0, h.1)
leads_on HeadNumber Semicolon ts lines l h = (h.0, ap (λ us. us ++ Semicolon ∷ []) h.1, h.2)
leads_on Headed (Number n) ts lines l h = (ts, heads (Some h.0) None h.1 h.2, tt, refl)
leads_on StartWord (Number n) ts lines l h = (h.0, n, pushed (headed (codes "parity") h.0) (Word (codes "start") ∷ []) (Number n) h.1, h.2)
leads_on StartNumber Semicolon ts lines l h =
    heads h.0 (Some h.1) (pushed (headed (codes "parity") h.0) (Word (codes "start") ∷ Number h.1 ∷ []) Semicolon h.2) h.3
leads_on Started (Number n) ts lines l h = (ts, h, tt, refl)
leads_on Ready (Number n) ts lines l h =
    (ts, record { header = h.header; start = h.start; tokens = h.tokens; successors = h.successors }, tt, refl)
leads_on Id (Number n) ts lines l (done, w, b, e) = (done, w, tt, pushed done (begun Id l) (Number n) e)
leads_on Priority (Number n) ts lines l (done, w, b, e) = (done, w, (refl, refl), pushed done (begun Priority l) (Number n) e)
leads_on Owner (Number n) ts lines l (done, w, b, e) = (done, w, (rw b.0 (omega arith), b.1), rw b.0 (pushed done (begun Owner l) (Number n) e))
leads_on Listing (Number n) ts lines l (done, w, b, e) =
    (done, w, (let k = length-append l.successors (n ∷ []) in omega arith, b.1), search (rules, pushed, separated-push, append_assoc))
leads_on Vertex Comma ts lines l (done, w, b, e) = (done, w, b, pushed done (begun Vertex l) Comma e)
leads_on Vertex (Name bytes) ts lines l (done, w, b, e) = (done, w, b.0, pushed done (begun Vertex l) (Name bytes) e)
leads_on Vertex Semicolon ts lines l (done, w, b, e) = closed done lines l w b.0 (pushed done (begun Vertex l) Semicolon e ∙ search (rules, b.1))
leads_on Named Semicolon ts lines l (done, w, b, e) = closed done lines l w b (pushed done (begun Named l) Semicolon e ∙ search (rules, append_assoc))
leads_on Start (Word w) ts lines l h =
    word_cases w (λ x. IfSome (table Start x) (λ to. Leads to (ts ++ Word w ∷ []) (lines_after to l lines) (part_after to (Word w) l)))
    (λ e. (cc (e, h.0), h.1)) (λ e. tt) (λ e. (None, cc (e, h.0), h.1)) tt
leads_on Headed (Word w) ts lines l h =
    word_cases w (λ x. IfSome (table Headed x) (λ to. Leads to (ts ++ Word w ∷ []) (lines_after to l lines) (part_after to (Word w) l)))
    (λ e. tt) (λ e. tt) (λ e. (Some h.0, cc (e, h.1), h.2)) tt
leads_on _ _ ts lines l h = search (rules)

-- a text can go on from every state
begins_line : {ts done : List Token} {lines : List WrittenGameLine} (l : WrittenGameLine) (b more : List Token) → IsWhole done lines → 0 < length l.successors
    → ts ≡ done ++ b → b ++ more ≡ game_line_tokens l → BeginsGameText ts
begins_line {done = done} {lines = lines} l b more w h e f =
    (more, lines ++ l ∷ [], closed done lines l w h (ap (λ us. us ++ more) e ∙ (append_assoc done b more ∙ ap (λ us. done ++ us) f)))

begins_head : (ts : List Token) (h s : Option ℕ) (more : List Token) → ts ++ more ≡ headed (codes "parity") h ++ (headed (codes "start") s ++ [])
    → BeginsGameText ts
begins_head ts h s more e =
    game_prefix ts more (begins_line (line 0 0 0 (0 ∷ []) None) [] (game_line_tokens (line 0 0 0 (0 ∷ []) None)) (heads h s e refl) (omega arith)
    (sym (append-nil (ts ++ more))) refl)

begins : (s : State) (ts : List Token) (lines : List WrittenGameLine) (l : WrittenGameLine) → Leads s ts lines l → BeginsGameText ts
begins Start ts lines l h = begins_head ts None None [] (append-nil ts ∙ h.0)
begins HeadWord ts lines l h = begins_head ts (Some 0) None (Number 0 ∷ Semicolon ∷ []) (ap (λ us. us ++ Number 0 ∷ Semicolon ∷ []) h.0)
begins HeadNumber ts lines l h = begins_head ts (Some h.0) None (Semicolon ∷ []) (ap (λ us. us ++ Semicolon ∷ []) h.1)
begins Headed ts lines l h = begins_head ts (Some h.0) None [] (append-nil ts ∙ h.1)
begins StartWord ts lines l h =
    begins_head ts h.0 (Some 0) (Number 0 ∷ Semicolon ∷ [])
    (ap (λ us. us ++ Number 0 ∷ Semicolon ∷ []) h.1 ∙ append_assoc (headed (codes "parity") h.0) (Word (codes "start") ∷ []) (Number 0 ∷ Semicolon ∷ []))
begins StartNumber ts lines l h =
    begins_head ts h.0 (Some h.1) (Semicolon ∷ [])
    (ap (λ us. us ++ Semicolon ∷ []) h.2 ∙ append_assoc (headed (codes "parity") h.0) (Word (codes "start") ∷ Number h.1 ∷ []) (Semicolon ∷ []))
begins Started ts lines l h = begins_line (line 0 0 0 (0 ∷ []) None) [] (game_line_tokens (line 0 0 0 (0 ∷ []) None)) h (omega arith) (sym (append-nil ts)) refl
begins Ready ts lines l h = game_begins ts (lines, h)
begins Id ts lines l (done, w, b, e) =
    begins_line (line l.id 0 0 (0 ∷ []) None) (begun Id l) (Number 0 ∷ Number 0 ∷ Number 0 ∷ Semicolon ∷ []) w (omega arith) e refl
begins Priority ts lines l (done, w, b, e) =
    begins_line (line l.id l.priority 0 (0 ∷ []) None) (begun Priority l) (Number 0 ∷ Number 0 ∷ Semicolon ∷ []) w (omega arith) e refl
begins Owner ts lines l (done, w, b, e) =
    begins_line (line l.id l.priority l.owner (0 ∷ []) None) (begun Owner l) (Number 0 ∷ Semicolon ∷ []) w (omega arith) e refl
begins Listing ts lines l (done, w, b, e) =
    begins_line (line l.id l.priority l.owner (l.successors ++ 0 ∷ []) None) (begun Listing l) (Number 0 ∷ Semicolon ∷ []) w
    (let k = length-append l.successors (0 ∷ []) in omega arith) e (search (rules, separated-push, append_assoc, b.0))
begins Vertex ts lines l (done, w, b, e) = begins_line l (begun Vertex l) (Semicolon ∷ []) w b.0 e (search (rules, b.1))
begins Named ts lines l (done, w, b, e) = begins_line l (begun Named l) (Semicolon ∷ []) w b e (search (rules, append_assoc))

pub other_kind : (s : State) (k : TokenKind) → ((n : ℕ) → k ≡ kind.Number n → ⊥) → (k ≡ kind.Parity → ⊥) → (k ≡ kind.Start → ⊥) → (k ≡ kind.Name → ⊥)
    → (k ≡ kind.Comma → ⊥) → (k ≡ kind.Semicolon → ⊥) → table s k ≡ None
other_kind x0 x1 a b c d e f = search (rules)

owner_next : (s : State) (k : TokenKind) → table s k ≡ Some Owner → s ≡ Priority
owner_next x0 x1 e = search (rules)

-- a line was closed
pub one_line : {lines : List WrittenGameLine} {l : WrittenGameLine} {specs specs' : List Spec} {id priority : ℕ} {owner : Player} {successors left : List ℕ}
    → specs' ≡ specs ++ spec id priority owner successors ∷ [] → left ≡ [] → Agrees lines l specs id priority owner successors
    → Agrees (lines ++ l ∷ []) (record l { successors = []; name = None }) specs' id priority owner left
one_line {lines} {l} e f a = record {
  lines_are = (
    e ∙ search (rules, map-append, spec, a.lines_are.0, a.id_is, a.priority_is, a.owner_is, a.successors_are),
    all-push (λ k. k.owner < 2) lines l a.lines_are.1 a.small,
  );
  id_is = a.id_is;
  priority_is = a.priority_is;
  owner_is = a.owner_is;
  small = a.small;
  successors_are = f;
}

module _ {sound : Bool} {ts : List Token} {s : State} {Holds : List WrittenGameLine → WrittenGameLine → Type 0} (k : Read table Leads sound ts s Holds) where
  text_begins : BeginsGameText ts
  text_begins = begins s ts k.lines k.part k.leads

  pub stops : (t : Token) → table s (kind_of t) ≡ None → Stops BeginsGameText ts t
  stops t e =
      stops_at k {Begins = BeginsGameText} {IsText = IsSomeGameText} (λ us (more, lines, i). (more, (lines, i))) (λ us i. (Ready, accepts us i)) t e text_begins

  pub on : (t : Token) {to : State} (q : State) {Later : List WrittenGameLine → WrittenGameLine → Type 0} → to ≡ q → table s (kind_of t) ≡ Some to
      → (sound ≡ true → Holds k.lines k.part → Later (lines_after q k.part k.lines) (part_after q t k.part)) → Read table Leads sound (ts ++ t ∷ []) to Later
  on t q is e a = goes_on k part_after leads_on t q is e a

  pub complete : s ≡ Ready → IsSomeGameText ts
  complete e = (k.lines, leads_in k e)

  is_ready : IsSomeGameText ts → s ≡ Ready
  is_ready i = let e : Some s ≡ Some Ready = sym k.ran ∙ accepts ts i in cc e

  pub not_complete : (s ≡ Ready → ⊥) → BeginsGameText ts × (IsSomeGameText ts → ⊥)
  not_complete n = (text_begins, λ i. n (is_ready i))

  pub says : {specs : List Spec} → sound ≡ true → (Holds k.lines k.part → AreLines specs k.lines) → IsSomeGameText ts → SaysSpecs ts specs
  says u a i = (k.lines, leads_in k (is_ready i), a (k.agrees u))

  pub before_owner : (j : TokenKind) → AreOwners k.lines → table s j ≡ Some Owner → IsBeforeOwner ts
  before_owner j o e =
      let (done, w, b, f) = leads_in k (owner_next s j e) in
      record {
        header = w.header;
        start = w.start;
        earlier = k.lines;
        id = k.part.id;
        priority = k.part.priority;
        owners = o;
        tokens = f ∙ ap (λ us. us ++ begun Priority k.part) w.tokens;
      }

pub reads_none : (specs : List Spec) (id priority : ℕ) (owner : Player) (successors : List ℕ) → specs ≡ [] → id ≡ 0 → priority ≡ 0 → owner ≡ Even → successors ≡ []
    → Read table Leads true [] Start (λ lines l. Agrees lines l specs id priority owner successors)
reads_none specs id priority owner successors e a b c d = record {
  lines = [];
  part = line 0 0 0 [] None;
  ran = refl;
  leads = (refl, refl);
  agrees = λ u. record { lines_are = (e, tt); id_is = a; priority_is = b; owner_is = c; small = omega arith; successors_are = d };
}
