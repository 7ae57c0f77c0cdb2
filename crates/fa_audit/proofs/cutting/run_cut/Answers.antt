use Rattle.std.proofs.Common.{rules}
use Rattle.std.proofs.lemmas.Result.{IfErr-weaker, IfOk-weaker}
use Rattle.fa_audit.proofs.CutOrderLemmas.{cut_answered, cut_from, no_cut_coded}
use Rattle.fa_audit.proofs.StoredLemmas.{bytes_stored}
use Rattle.fa_audit.proofs.cutting.run_cut.Goals as goal

pub tell_cut-requires-clause-coded : goal.tell_cut-requires-clause-coded
tell_cut-requires-clause-coded g c =
    IfErr-weaker c.left_of.result _ _ (λ error of. no_cut_coded c.in_ok-stored.stored _ error (of c.in_ok-stored.stored (c.with_seed.ensures.same c.in_ok-stored.stored c.capture.ensures))) c.left_of.ensures.none

pub returns-clause-told : goal.returns-clause-told
returns-clause-told g c =
    let read = bytes_stored _ _ c.with_seed.result c.in_ok-stored.ensures.capture (c.with_seed.ensures.same c.in_ok-stored.stored c.capture.ensures) in
    cut_from c.tell_cut.result _ _ _ _ read.0 c.in_ok-order.order.items c.args.messages c.left_of.result read.1 c.in_ok-order.ensures.bytes (search rules)
    (rw (← c.deref.ensures.value)
    (cut_answered _ _ c.args.messages c.left_of.result (IfOk-weaker c.left_of.result _ _ (λ text of. of read.0 read.2) c.left_of.ensures.text)
    (IfErr-weaker c.left_of.result _ _ (λ error of. of read.0 read.2) c.left_of.ensures.none)))
    c.tell_cut.ensures.told c.tell_cut.ensures.answered
