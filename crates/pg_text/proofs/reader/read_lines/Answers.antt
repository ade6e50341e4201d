use Rattle.pg_text.proofs.Common.{rules, [], ◌∷◌, ◌++◌, placed}
use Rattle.pg_text.proofs.reader.TokenRuns.{of_kind, lexeme_token, reaches_end, reaches_more, lexical_fault}
use Rattle.pg_text.proofs.reader.read_lines.Goals as goal

pub returns-in-End : goal.returns-in-End
returns-in-End g c = search (rules, c.tokens.invariant, c.finish.ensures, reaches_end, of_kind, c.in-End.is, c.next_token-lexeme.ensures.token)

pub returns-in-Invalid : goal.returns-in-Invalid
returns-in-Invalid g c = search (rules, c.tokens.invariant, lexical_fault, of_kind, c.in-Invalid.is, c.next_token-lexeme.ensures.token)

pub returns-then-not-branch : goal.returns-then-not-branch
returns-then-not-branch g c =
    let (l, ts, r, k) = c.tokens.invariant in
    let p = c.next_token-lexeme.result in
    let (t, i, e) = lexeme_token p.kind c.args.text.now c.tokens.at p.from p.to c.next_token-lexeme.ensures.token c.in_default.not-Invalid c.in_default.not-End in
    let s = c.in_ok-take.ensures t ts e k in
    c.unexpected.ensures (record { before = ts; at = c.tokens.at; token = t; reached = r; stands = i; ends = rw c.if-not-branch.true at s })

pub tokens-preserved : goal.tokens-preserved
tokens-preserved g c =
    let (l, ts, r, k) = c.tokens.invariant in
    let p = c.next_token-lexeme.result in
    let (t, i, e) = lexeme_token p.kind c.args.text.now c.tokens.at p.from p.to c.next_token-lexeme.ensures.token c.in_default.not-Invalid c.in_default.not-End in
    let s = c.in_ok-take.ensures t ts e k in (
      c.next_token-lexeme.ensures.range.within,
      ts ++ placed t p.from ∷ [],
      reaches_more c.args.text.now 0 c.tokens.at p.from p.to ts t r i,
      rw c.if-not-branch.false at s,
    )
