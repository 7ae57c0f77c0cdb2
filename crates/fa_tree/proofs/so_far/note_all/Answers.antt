use Rattle.std.proofs.Common.{◌≡◌, ◌+◌, ◌∷◌, [], ◌++◌, length, refl, sym, ap, subst, ◌∙◌, arith}
use Rattle.std.proofs.lemmas.List.{append-nil, length-append}
use Rattle.fa_bodies.specs.Dirents.{dirent_shown}
use Rattle.fa_bodies.specs.Listing.{entries_left}
use Rattle.fa_ledger.proofs.CallerLemmas.{moved_on, few_entries}
use Rattle.fa_tree.specs.parts.TallyParts.{Notes}
use Rattle.fa_tree.proofs.TallyLemmas.{grows_none, grows_on, notes_none, notes_more}
use Rattle.fa_tree.proofs.so_far.note_all.Goals as goal

pub loop-dirent-init : goal.loop-dirent-init
loop-dirent-init c = (tt, tt, ([], ap entries_left (sym c.into_iter-dirent-iterator.ensures.into_iter_gives), refl, grows_none c.args.tally.now, notes_none c.args.tally.now))

pub overflow_add-count : goal.overflow_add-count
overflow_add-count c =
    let so_far = c.loop-dirent.invariant.2 in
    let front = so_far.0 in
    let all : length (entries_left c.args.entries) ≡ length front + length (entries_left c.loop-dirent.dirent-iterator) = ap length so_far.1 ∙ length-append front _ in
    let one = ap length c.in-Some.ensures.steps in
    omega (arith, so_far.2, all, one, few_entries c.args.entries.plus c.args.entries.bytes.now, c.ranges.entries.0)

pub loop-dirent-preserved : goal.loop-dirent-preserved
loop-dirent-preserved c =
    let so_far = c.loop-dirent.invariant.2 in
    let front = so_far.0 in
    let d = dirent_shown c.in-Some.dirent in (
      tt,
      tt,
      (
        front ++ d ∷ [],
        moved_on _ front _ _ d so_far.1 c.in-Some.ensures.steps,
        omega (arith, so_far.2, length-append front (d ∷ [])),
        grows_on c.args.tally.now c.loop-dirent.tally c.note.new.self so_far.3 c.in_ok-note.ensures.grows,
        notes_more c.args.tally.now c.loop-dirent.tally c.note.new.self front d so_far.4 c.in_ok-note.ensures.noted,
      ),
    )

pub returns : goal.returns
returns c =
    let so_far = c.loop-dirent.invariant.2 in
    let all = so_far.1 ∙ ap (λ ds. so_far.0 ++ ds) c.in-None.ensures.steps.0 ∙ append-nil so_far.0 in
    record {
      count = so_far.2 ∙ ap length (sym all);
      noted = subst (Notes c.args.tally.now c.loop-dirent.tally) (sym all) so_far.4;
      grows = so_far.3;
    }
