use Rattle.std.proofs.Common.{refl, rules, sym, tests, ◌∙◌}
use Rattle.std.proofs.lemmas.Iterator.{cases_from_all}
use Rattle.std.proofs.lemmas.Iterator.Consumers.{YieldsList-from_first}
use Rattle.fa_bodies.specs.Dirents.{dirent_shown}
use Rattle.fa_bodies.specs.Listing.{entries_left}
use Rattle.fa_ledger.proofs.CallerLemmas.{readdir_gives_none}
use Rattle.fa_tree.specs.parts.ListingParts.{IsTypedNow}
use Rattle.fa_tree.proofs.ListingLemmas.{HoldsIfJudged, FailsJudged, bare_all_typed, run_of_judged, all_typed_now}
use Rattle.fa_tree.proofs.stored.Stored.all_typed.Goals as goal

pub returns-then-not-is_plus : goal.returns-then-not-is_plus
returns-then-not-is_plus c = (
  (λ yes. bare_all_typed c.args.self.now.store c.args.directory (entries_left c.args.entries) (readdir_gives_none c.args.entries (sym c.is_plus.ensures ∙ c.if-not-is_plus.true))),
  (λ each. refl),
)

pub returns : goal.returns
returns c =
    let each = IsTypedNow c.args.self.now.store c.args.directory in
    all_typed_now c.args.self.now.store c.args.directory (entries_left c.args.entries) c.all.result
    (run_of_judged each (entries_left c.args.entries) c.all.result
    (cases_from_all c.all.new.self _ c.all.result (HoldsIfJudged each) (FailsJudged each) c.all.ensures.ran (YieldsList-from_first dirent_shown entries_left (entries_left c.args.entries) refl)
    (λ x q k. search (rules, tests)) (λ x q k. search (rules, tests))))
