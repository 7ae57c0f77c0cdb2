use Rattle.std.proofs.Common.{None, subst}
use Rattle.fa_audit.specs.Starts.{IsNoStart}
use Rattle.fa_audit.proofs.CallerLemmas.{fault_coded}
use Rattle.fa_reasons.proofs.picturing.drawn.Goals as goal

pub verdict_text-requires : goal.verdict_text-requires
verdict_text-requires c =
    let bytes = c.args.bytes.now in
    let none = c.in-Err-Fault.ensures.none bytes (c.with_seed-capture.ensures.same bytes c.read_capture.ensures) in
    fault_coded bytes c.in-Err-Fault.at c.in-Err-Fault.code (subst (IsNoStart bytes None) c.in-Err-Fault.field-0-is none)
