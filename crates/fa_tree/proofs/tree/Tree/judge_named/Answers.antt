use Rattle.fa_ledger.specs.Calls.{call_shown}
use Rattle.fa_ledger.specs.Operations.{list_shown}
use Rattle.fa_ledger.specs.SoFar.{listing_so_far}
use Rattle.fa_ledger.proofs.CallerLemmas.{err_also}
use Rattle.fa_tree.specs.parts.NamedParts.{directory_shown}
use Rattle.fa_tree.proofs.ListingStepLemmas.{refused_by, unknown_by}
use Rattle.fa_tree.proofs.tree.Tree.judge_named.Goals as goal

pub returns-in-None-clause-refused : goal.returns-in-None-clause-refused
returns-in-None-clause-refused c = λ wrote.
    unknown_by c.args.self.now (call_shown c.args.call.now) (list_shown c.args.list.now) c.requires.asks wrote
    (listing_so_far c.args.replay.now.list c.args.k) c.in-None.ensures.none

pub returns-in-Some-clause-refused : goal.returns-in-Some-clause-refused
returns-in-Some-clause-refused c =
    err_also c.judge_listing.result _ _ (λ e refused wrote.
    refused_by c.args.self.now (call_shown c.args.call.now) (list_shown c.args.list.now) c.requires.asks wrote (listing_so_far c.args.replay.now.list c.args.k)
    e (directory_shown c.in-Some.at) c.in-Some.ensures.found refused)
    c.judge_listing.ensures.refused
