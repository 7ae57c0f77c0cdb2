use Rattle.std.proofs.Common.{◌∙◌}
use Rattle.fa_tree.specs.parts.NamedParts.{named_shown}
use Rattle.fa_tree.proofs.ChangedLemmas.{opendir_left}
use Rattle.fa_ledger.proofs.CallerLemmas.{ok_also}
use Rattle.fa_tree.proofs.stored.Stored.leave.Goals as goal

pub returns-in-Opendir-clause-left : goal.returns-in-Opendir-clause-left
returns-in-Opendir-clause-left c =
    ok_also c.open.result _ _ (λ opened handle.
    rw (c.in-Opendir.is, c.if-opens.true) (opened ∙ opendir_left c.args.self.now (named_shown c.args.named.now handle) c.args.truncates c.in-Opendir.outcome c.args.asked c.args.count))
    c.open.ensures.opened
