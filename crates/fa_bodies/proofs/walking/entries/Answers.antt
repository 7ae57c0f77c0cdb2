use Rattle.std.proofs.Common.{arith}
use Rattle.fa_bodies.proofs.ListingLaws.{holds-one, holds-entries_in, length-entries}
use Rattle.fa_bodies.proofs.WholeLaws.{front-whole, front-holds}
use Rattle.fa_bodies.specs.Listing.{entries_in, entries_left}
use Rattle.fa_bodies.proofs.walking.entries.Goals as goal

pub slice_bounds-known_entries-count : goal.slice_bounds-known_entries-count
slice_bounds-known_entries-count c =
    let passed = c.behind_entries-rest.ensures.passed in
    omega (arith, length-entries passed.0 c.args.plus c.args.bytes.now c.behind_entries-rest.result.now passed.1)

pub known_entries-requires : goal.known_entries-requires
known_entries-requires c =
    let passed = c.behind_entries-rest.ensures.passed in
    ∣ (passed.0, front-whole passed.0 c.args.plus c.args.bytes.now c.behind_entries-rest.result.now passed.1) ∣₁

pub returns-clause-held : goal.returns-clause-held
returns-clause-held c =
    let passed = c.behind_entries-rest.ensures.passed in
    front-holds passed.0 (entries_left c.known_entries.result) c.args.plus c.args.bytes.now c.behind_entries-rest.result.now passed.1 c.behind_entries-rest.ensures.ended
    c.known_entries.ensures

pub returns-clause-computed : goal.returns-clause-computed
returns-clause-computed c =
    holds-one c.args.plus c.args.bytes.now (entries_left c.known_entries.result) (entries_in c.args.plus c.args.bytes.now) (returns-clause-held c)
    (holds-entries_in c.args.plus c.args.bytes.now (λ i. omega (arith, c.type_inv.bytes i)))

pub returns-clause-few : goal.returns-clause-few
returns-clause-few c =
    let held = returns-clause-held c in
    omega (arith, length-entries (entries_left c.known_entries.result) c.args.plus c.args.bytes.now held.0 held.1)
