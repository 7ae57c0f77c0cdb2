use Rattle.std.proofs.Common.{None, refl}
use Rattle.fa_ledger.proofs.TableLemmas.{after_write}
use Rattle.fa_ledger.proofs.PlaceLemmas.{places_after}
use Rattle.fa_ledger.proofs.listings.Listings.close.Goals as goal

pub returns : goal.returns
returns c =
    let old = c.args.self.now.by_key.entries in
    places_after c.args.key.now old c.swap_remove.new.self.entries None
    (after_write c.args.key.now old c.swap_remove.new.self.entries None None refl c.swap_remove.ensures.updates.0)
