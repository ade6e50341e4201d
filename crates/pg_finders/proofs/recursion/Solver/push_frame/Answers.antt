use Rattle.pg_finders.proofs.Common.{◌≡◌, ◌++◌, ◌∙◌, ap, refl, arith, length, vec_len}
use Rattle.pg_finders.proofs.recursion.Solver.push_frame.Goals as goal

pub returns : goal.returns
returns c =
    let x = c.args.self.now in
    let a : c.len-set_aside_from.result ≡ vec_len x.set_aside = c.len-set_aside_from.ensures in
    let b : c.len.result ≡ vec_len c.extend_from_slice.new.self = c.len.ensures in
    let items : c.extend_from_slice.new.self.items ≡ x.set_aside.items ++ x.list.items =
    c.in_ok-extend_from_slice.ensures.items ∙ ap (λ xs. x.set_aside.items ++ xs) c.deref.ensures.value in
    let from : c.len-set_aside_from.result ≡ length x.set_aside.items = omega (arith, a, x.set_aside.ok) in
    let upto : c.len.result ≡ length c.extend_from_slice.new.self.items = omega (arith, b, c.extend_from_slice.new.self.ok) in
    record {
      pushes = record {
        frames = rw (from, upto, items) at c.in_ok-push.ensures.items;
        set_aside = items;
        partition = refl;
        order = refl;
        opened = refl;
        size = refl;
      };
    }
