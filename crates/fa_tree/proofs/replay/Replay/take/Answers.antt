use Rattle.std.proofs.Common.{ap, subst, ◌∙◌}
use Rattle.std.specs.Prelude.{slice_get}
use Rattle.std.proofs.lemmas.Option.{slice_get_within}
use Rattle.fa_bodies.specs.Listing.{entries_left}
use Rattle.fa_ledger.specs.declared.calls.Calls.{Calls}
use Rattle.fa_tree.specs.parts.ReplayParts.{IsTallyAt, IsKeptAt}
use Rattle.fa_tree.proofs.ListingStepLemmas.{each_ok}
use Rattle.fa_tree.proofs.replay.Replay.take.Goals as goal

pub tally_anew-requires : goal.tally_anew-requires
tally_anew-requires c =
    let there = ap (λ (calls : Calls). slice_get calls.list c.args.k) c.self.view_is ∙ c.requires.1 in
    slice_get_within c.self.inside.calls.now.list c.args.k c.requires.0 there

pub take_on-requires-clause-answer : goal.take_on-requires-clause-answer
take_on-requires-clause-answer c = (c.requires.0, ap (λ (calls : Calls). slice_get calls.list c.args.k) c.self.view_is ∙ c.requires.1, c.requires.2)

pub returns-in-Some-clause-told : goal.returns-in-Some-clause-told
returns-in-Some-clause-told c =
    each_ok c.take_on.result _ _ (λ listing is. subst (λ (calls : Calls). IsKeptAt calls c.args.k (entries_left c.args.entries) listing) c.self.view_is is) c.take_on.ensures

pub returns-in_ok-tally_anew-in-None-clause-told : goal.returns-in_ok-tally_anew-in-None-clause-told
returns-in_ok-tally_anew-in-None-clause-told c =
    let so_far = c.in_ok-tally_anew-in-None.ensures in
    each_ok c.note_answer.result _ _ (λ listing is. is c.args.self.now c.requires (subst (λ (calls : Calls). IsTallyAt calls c.args.k c.in_ok-tally_anew-in-None.field-0) c.self.view_is so_far)) c.note_answer.ensures
