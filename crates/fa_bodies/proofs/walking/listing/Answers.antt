use Rattle.std.proofs.Common.{length, sym, ap}
use Rattle.std.proofs.lemmas.Bool.{eqb-false}
use Rattle.fa_bodies.proofs.ListingLaws.{whole-ends}
use Rattle.fa_bodies.proofs.walking.listing.Goals as goal

pub returns-else-is_empty-clause-none : goal.returns-else-is_empty-clause-none
returns-else-is_empty-clause-none c ds whole =
    let passed = c.behind_entries-rest.ensures.passed in
    let rest = c.behind_entries-rest.result.now in
    let ended = whole-ends passed.0 ds c.args.plus c.args.bytes.now rest passed.1 c.behind_entries-rest.ensures.ended whole in
    eqb-false (length rest) 0 (sym c.if-is_empty.ensures) (ap length ended)
