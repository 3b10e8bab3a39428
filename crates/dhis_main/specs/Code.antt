-- The exit codes of the program.
use Rattle.std.specs.Prelude.{ℕ}
use Rattle.dhis_main.specs.declared.status.Outcome.TheVariants as outcome
use Rattle.dhis_main.specs.declared.status.Status.{Status}
use Rattle.dhis_main.specs.declared.status.Status.TheVariants as status

abbrev pub code_of : Status → ℕ
code_of (status.Done outcome.Ok) = 0
code_of (status.Done outcome.Usage) = 2
code_of (status.Done outcome.MetaRefused) = 3
code_of (status.Done outcome.QueryRefused) = 4
code_of status.ReadFault = 5
code_of status.WriteFault = 6
code_of status.Memory = 7
code_of status.ListenFault = 10
code_of (status.Done outcome.DataRefused) = 11
code_of (status.Done outcome.RequestLimit) = 12
code_of (status.Done outcome.Truncated) = 13
code_of (status.Done outcome.WireRefused) = 14
