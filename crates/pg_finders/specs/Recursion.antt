-- What a run of the recursion has come to.
use Rattle.pg_finders.specs.Run.{Run}
use Rattle.pg_finders.specs.declared.recursion.Solved.{Solved}
use Rattle.pg_finders.specs.declared.recursion.Advanced.{Advanced}
use Rattle.pg_finders.specs.declared.recursion.Advanced.TheVariants as advanced

abbrev pub IfSolved : Advanced → (Solved → Type 0) → Type 0
IfSolved (advanced.Solved solved) of = of solved
IfSolved (advanced.Running r) of = Unit {0}

abbrev pub IfRunning : Advanced → (Run → Type 0) → Type 0
IfRunning (advanced.Running r) of = of r
IfRunning (advanced.Solved solved) of = Unit {0}
