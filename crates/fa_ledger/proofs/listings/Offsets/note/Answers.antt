use Rattle.std.proofs.Common.{◌≡◌, ◌∷◌, ◌++◌, [], Bool, true, arith, ap, sym, ◌∙◌}
use Rattle.std.specs.List.{list_any}
use Rattle.std.specs.Map.{lookup}
use Rattle.std.specs.Prelude.{nat_eq, length, is_none}
use Rattle.indexmap.specs.IndexMap.{get}
use Rattle.std.proofs.Common.{length-append}
use Rattle.fa_bodies.specs.Dirents.{PlainDirent, dirent_shown}
use Rattle.fa_bodies.specs.Listing.{entries_left}
use Rattle.fa_ledger.specs.Listings.{count_to}
use Rattle.fa_ledger.proofs.PlaceLemmas.{noted_more, noted_none, any_at}
use Rattle.fa_ledger.proofs.TakingLemmas.{moved_on}
use Rattle.fa_ledger.proofs.listings.Offsets.note.Goals as goal

pub loop-dirent-preserved : goal.loop-dirent-preserved
loop-dirent-preserved c =
    let front = c.loop-dirent.invariant.2.0 in
    let so_far = c.loop-dirent.invariant.2 in
    let d = dirent_shown c.in-Some.dirent in
    let whole = moved_on _ front _ _ d so_far.1 c.in-Some.ensures.steps in
    let shorter = ap length c.in-Some.ensures.steps in (
      tt,
      tt,
      (
        front ++ d ∷ [],
        whole,
        omega (arith, so_far.2, length-append front (d ∷ [])),
        λ new. omega (arith, so_far.3 new, shorter, c.note_one.ensures.room),
        noted_more c.args.asked _ c.args.adrift front d (get nat_eq c.args.self.now.places) (get nat_eq c.loop-dirent.self.places) (get nat_eq c.note_one.new.self.places) (omega (arith, so_far.2)) c.requires.fresh so_far.4 c.note_one.ensures.noted,
      ),
    )

pub note_one-requires : goal.note_one-requires
note_one-requires c = λ none.
    let front = c.loop-dirent.invariant.2.0 in
    let so_far = c.loop-dirent.invariant.2 in
    let d = dirent_shown c.in-Some.dirent in
    let old = c.args.self.now.places in
    let steps = c.in-Some.ensures.steps in
    let whole = so_far.1 ∙ ap (λ ys. front ++ ys) steps in
    let absent = noted_none c.args.asked c.args.adrift (count_to d.off front) (get nat_eq old d.off) (sym (so_far.4 d.off) ∙ none) in
    let test : PlainDirent → Bool = λ x. is_none (lookup (nat_eq x.off) old.entries) in
    let new : list_any test (entries_left c.args.listing) ≡ true = ap (list_any test) whole ∙ any_at test front d _ (ap is_none absent) in
    let shorter = ap length steps in
    omega (arith, so_far.3 new, shorter)
