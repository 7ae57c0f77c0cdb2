-- The exit status of the program for each way in which it ends. The numbers are this profile's.
use Rattle.std.specs.Prelude.{ℕ}
use Rattle.fa_audit.specs.declared.status.Status.{Status}
use Rattle.fa_audit.specs.declared.status.Status.TheVariants.{Legal, Fault, NotShown, Text, CommandLine, Failed, NoOrder, GaveUp}

abbrev pub status_number : Status → ℕ
status_number Legal = 0
status_number Fault = 1
status_number NotShown = 2
status_number Text = 3
status_number CommandLine = 4
status_number Failed = 5
status_number NoOrder = 6
status_number GaveUp = 7
