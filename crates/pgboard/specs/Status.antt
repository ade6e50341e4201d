-- The exit statuses of a run.
use Rattle.std.specs.Prelude.{ℕ}
use Rattle.pgboard.specs.declared.fault.RunFault.{RunFault}
use Rattle.pgboard.specs.declared.fault.RunFault.TheVariants as fault
use Rattle.pgboard.specs.declared.fault.AskedFault.{AskedFault}
use Rattle.pgboard.specs.declared.fault.AskedFault.TheVariants as asked
use Rattle.pgboard.specs.declared.verify.Verdict.{Verdict}
use Rattle.pgboard.specs.declared.verify.Verdict.TheVariants.{Holds, Fails}

-- the solution holds, or it does not
abbrev pub verdict_status : Verdict → ℕ
verdict_status Holds = 0
verdict_status (Fails fault) = 1

-- what is known does not hold, a text was refused, a file was not read or written, or memory was refused
abbrev pub status_of : RunFault → ℕ
status_of (fault.Known f) = 1
status_of fault.TooLong = 3
status_of (fault.Game f) = 3
status_of (fault.Solution f) = 3
status_of fault.Read = 4
status_of fault.Write = 4
status_of fault.Memory = 5

-- the command line was refused, or memory was refused
abbrev pub asked_status_of : AskedFault → ℕ
asked_status_of (asked.Words text) = 2
asked_status_of asked.Memory = 5
