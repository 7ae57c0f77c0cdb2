use Rattle.std.proofs.Common.{◌∷◌, [], ◌++◌, sym, ap, subst, ◌∙◌, refl, take}
use Rattle.std.specs.Iterator.Adapters.{take_count, take_source}
use Rattle.fa_bodies.specs.Dirents.{dirent_shown}
use Rattle.fa_bodies.specs.Listing.{entries_left}
use Rattle.fa_tree.specs.parts.TallyParts.{Notes}
use Rattle.fa_tree.proofs.SoFarLemmas.{taken_more, taken_all}
use Rattle.fa_tree.proofs.TallyLemmas.{notes_none, notes_more}
use Rattle.fa_tree.proofs.so_far.note_entries.Goals as goal

pub loop-dirent-init : goal.loop-dirent-init
loop-dirent-init c =
    let begins = c.into_iter-dirent-iterator.ensures.into_iter_gives in
    let count = ap take_count begins ∙ c.take-dirent-items.ensures.count in
    let source = ap take_source begins ∙ c.take-dirent-items.ensures.source in
    (tt, tt, ([], (rw (count, source) refl), notes_none c.args.tally.now))

pub loop-dirent-preserved : goal.loop-dirent-preserved
loop-dirent-preserved c =
    let front = c.loop-dirent.invariant.2.0 in
    let d = dirent_shown c.in-Some.dirent in
    let steps = c.in-Some.ensures.steps in (
      tt,
      tt,
      (
        front ++ d ∷ [],
        taken_more _ front _ _ d _ _ c.loop-dirent.invariant.2.1 steps.0 steps.1,
        notes_more c.args.tally.now c.loop-dirent.tally c.note.new.self front d c.loop-dirent.invariant.2.2 c.in_ok-note.ensures.noted,
      ),
    )

pub returns : goal.returns
returns c = record {
  noted =
      let so_far = c.loop-dirent.invariant.2 in
      let all = taken_all (take c.args.count (entries_left c.args.entries)) so_far.0 _ _ so_far.1 (λ some. (c.in-None.ensures.steps some).0) in
      subst (Notes c.args.tally.now c.loop-dirent.tally) (sym all) so_far.2;
}
