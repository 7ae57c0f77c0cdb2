use Rattle.std.proofs.Common.{◌++◌, refl}
use Rattle.fa_bodies.specs.Listing.{entries_left}
use Rattle.fa_ledger.specs.SoFar.{listing_so_far}
use Rattle.fa_tree.specs.Directories.{times_listed}
use Rattle.fa_tree.proofs.ReplayLemmas.{tally_after}
use Rattle.fa_tree.proofs.TallyLemmas.{same_names, same_at}
use Rattle.fa_tree.proofs.replay.note_answer.Goals as goal

pub returns : goal.returns
returns c = λ calls answer tally.
    let entries = entries_left c.args.entries in
    let so_far = listing_so_far calls.list c.args.k in
    let noted = c.note_all.new.tally in
    let given = c.give_back.new.self in (
      refl,
      record {
        answer = answer;
        count = c.in_ok-count.ensures.count;
        before = same_at noted given c.reach-before.result c.give_back.ensures.names c.give_back.ensures.again _
            (c.reach-before.ensures noted (λ name. times_listed name so_far) c.in_ok-count.ensures.grows tally);
        tally = same_names noted given c.give_back.ensures.names c.give_back.ensures.again _
            (tally_after c.args.so_far noted so_far entries (so_far ++ entries) refl tally c.in_ok-count.ensures.noted);
      },
    )
