use Rattle.std.proofs.Common.{sym, subst, ◌∙◌}
use Rattle.std.proofs.lemmas.Bool.{eqb-true, eqb-false}
use Rattle.std.proofs.lemmas.List.{nil_from_length}
use Rattle.std.proofs.lemmas.Result.{err_from_is_err_and}
use Rattle.fa_capture.specs.Walks.{HaveRead}
use Rattle.fa_capture.proofs.ReadingLemmas.{read_whole, read_to_fault}
use Rattle.fa_capture.proofs.walk.Walk.next.Goals as goal

pub returns-then-is_empty-clause-end : goal.returns-then-is_empty-clause-end
returns-then-is_empty-clause-end c none bytes rs read =
    read_whole bytes rs _ (subst (HaveRead bytes rs) (sym c.self.view_is) read) (nil_from_length c.self.inside.left.now (eqb-true _ _ (sym c.is_empty.ensures ∙ c.if-is_empty.true)))

pub returns-in_err-packet-clause-fault : goal.returns-in_err-packet-clause-fault
returns-in_err-packet-clause-fault c =
    let p = err_from_is_err_and c.from_residual.result c.from_residual.ensures.1 in
    rw (p.1, p.2) (λ bytes rs read.
    read_to_fault bytes rs _ c.in_err-packet.field-0.0 (subst (HaveRead bytes rs) (sym c.self.view_is) read) (eqb-false _ _ (sym c.is_empty.ensures ∙ c.if-is_empty.false)) c.in_err-packet.ensures.fault)
