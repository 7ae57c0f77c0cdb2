use Rattle.std.proofs.Common.{arith, inl}
use Rattle.fa_ledger.proofs.PlaceLemmas.{few_entries}
use Rattle.fa_ledger.proofs.listings.entries_count.Goals as goal

pub count-requires-clause-fits : goal.count-requires-clause-fits
count-requires-clause-fits c = inl (omega (arith, few_entries c.args.listing.plus c.args.listing.bytes.now, c.ranges.listing.0))
