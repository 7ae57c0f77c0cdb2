use Rattle.std.proofs.Common.{◌∷◌, ◌++◌, [], Bool, ap, sym, ◌∙◌}
use Rattle.std.specs.Prelude.{is_none, is_some, not}
use Rattle.fa_bodies.specs.Dirents.{PlainDirent, dirent_shown}
use Rattle.fa_ledger.specs.parts.ListingParts.{place_of}
use Rattle.fa_ledger.proofs.PlaceLemmas.{none_more}
use Rattle.fa_ledger.proofs.TakingLemmas.{moved_on}
use Rattle.fa_ledger.proofs.listings.Listings.has_new.Goals as goal

pub loop-dirent-preserved : goal.loop-dirent-preserved
loop-dirent-preserved c =
    let front = c.loop-dirent.invariant.2.0 in
    let d = dirent_shown c.in-Some.dirent in
    let whole = moved_on _ front _ _ d c.loop-dirent.invariant.2.1 c.in-Some.ensures.steps in
    let test : PlainDirent → Bool = λ x. is_none (place_of c.args.self.now.by_key.entries c.args.listed.now.key x.off) in
    (tt, tt, (front ++ d ∷ [], whole, none_more test front d c.loop-dirent.invariant.2.2 (ap not (ap is_some (sym c.place.ensures) ∙ c.if-is_none.ensures))))
