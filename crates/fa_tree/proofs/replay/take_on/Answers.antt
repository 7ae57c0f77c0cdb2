use Rattle.std.proofs.Common.{rules, ◌≡◌}
use Rattle.std.proofs.lemmas.Option.{slice_get_within}
use Rattle.fa_bodies.specs.Listing.{entries_left}
use Rattle.fa_tree.proofs.ListingStepLemmas.{each_ok}
use Rattle.fa_tree.proofs.ReplayLemmas.{kept_at}
use Rattle.fa_tree.proofs.replay.take_on.Goals as goal

pub go_on-requires-clause-there : goal.go_on-requires-clause-there
go_on-requires-clause-there c = slice_get_within c.args.calls.now.list c.args.k c.requires.answer.0 c.requires.answer.1

pub returns-then-at-k : goal.returns-then-at-k
returns-then-at-k c =
    let at : c.args.kept.at ≡ c.args.k = search rules in
    kept_at c.args.calls.now c.args.k (entries_left c.args.entries) c.args.kept at c.requires.answer c.requires.kept

pub returns : goal.returns
returns c = each_ok c.note_answer.result _ _ (λ listing is. is c.args.calls.now c.requires.answer c.in_ok-go_on.ensures) c.note_answer.ensures
