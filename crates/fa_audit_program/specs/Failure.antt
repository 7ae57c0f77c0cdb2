-- How a program ends that has no answer.
use Rattle.fa_audit_program.specs.declared.failure.Failure.{Failure}
use Rattle.fa_audit_program.specs.declared.failure.Failure.TheVariants.{CommandLine, NotUtf8, NoCall, NoCode, Run}
use Rattle.fa_audit.specs.declared.status.Status.{Status}
use Rattle.fa_audit.specs.declared.status.Status.TheVariants as status

-- a fault of the command line, or of the run
abbrev pub failure_status : Failure → Status
failure_status (CommandLine error) = status.CommandLine
failure_status NotUtf8 = status.CommandLine
failure_status NoCall = status.CommandLine
failure_status (NoCode code) = status.CommandLine
failure_status (Run fault cause) = status.Failed
