use Rattle.std.proofs.Common.{refl, rules, tests}
use Rattle.std.proofs.lemmas.Iterator.{cases_from_all}
use Rattle.std.proofs.lemmas.Iterator.Consumers.{YieldsList-from_first}
use Rattle.fa_bodies.specs.Dirents.{dirent_shown}
use Rattle.fa_bodies.specs.Listing.{entries_left}
use Rattle.fa_tree.specs.parts.ListingParts.{IsAllowed}
use Rattle.fa_tree.specs.parts.OpenParts.{open_of}
use Rattle.fa_tree.proofs.ListingLemmas.{HoldsIfJudged, FailsJudged, run_of_judged, allowed_each}
use Rattle.fa_tree.proofs.stored.Stored.all_allowed.Goals as goal

pub returns : goal.returns
returns c =
    let each = IsAllowed c.args.self.now.store (open_of c.args.names.now) in
    allowed_each c.args.self.now.store (open_of c.args.names.now) (entries_left c.args.entries) c.all.result
    (run_of_judged each (entries_left c.args.entries) c.all.result
    (cases_from_all c.all.new.self _ c.all.result (HoldsIfJudged each) (FailsJudged each) c.all.ensures.ran (YieldsList-from_first dirent_shown entries_left (entries_left c.args.entries) refl)
    (λ x q k. search (rules, tests)) (λ x q k. search (rules, tests))))
