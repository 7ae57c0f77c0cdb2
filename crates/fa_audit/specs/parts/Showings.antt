-- Why messages are not shown.
use Rattle.fa_show.specs.declared.error.ShowError.{ShowError}
use Rattle.fa_show.specs.declared.error.ShowError.TheVariants.{Write, Memory}
use Rattle.fa_audit.specs.declared.running.RunFault.{RunFault}
use Rattle.fa_audit.specs.declared.running.RunFault.TheVariants as faults

-- as which fault of a run it is told
abbrev pub show_fault : ShowError → RunFault
show_fault Write = faults.Write
show_fault Memory = faults.Memory
