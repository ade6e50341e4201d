use Rattle.pg_finders.proofs.Common.{◌≡◌, [], length, refl, vec_len, arith, rules, nil_from_length}
use Rattle.pg_finders.proofs.loops.SingleDominions.{exactly_loops, chooses_itself, loops_good, no_loops, positive}
use Rattle.pg_finders.proofs.loops.claim_of_loops.Goals as goal

pub returns-then-is_empty : goal.returns-then-is_empty
returns-then-is_empty c =
    let i = c.args.inside.now in
    let e : c.args.rows.items ≡ [] = nil_from_length c.args.rows.items (search rules) in
    no_loops i.graph i.mask c.args.player c.requires.part c.args.rows.items c.requires.rows e

pub returns : goal.returns
returns c =
    let i = c.args.inside.now in
    let p = c.args.player in
    let part = c.requires.part in
    let rows = c.args.rows.items in
    let n = positive (vec_len c.args.rows) (length rows) (cc (c.is_empty.ensures, c.if-is_empty.false)) (omega (arith, c.args.rows.ok.0)) in
    rw (c.new.ensures.player, c.new.ensures.rows) record {
      player = refl;
      vertices = exactly_loops i.graph i.mask p part rows c.requires.rows;
      choices = chooses_itself i.graph i.mask p part rows c.requires.rows;
      good = loops_good i.graph i.mask p part rows c.requires.rows n;
    }
