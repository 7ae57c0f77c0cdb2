use Rattle.std.proofs.Common.{[], ◌∷◌, ◌++◌, ap, ◌∙◌}
use Rattle.std.specs.Map.{values_of}
use Rattle.fa_session.proofs.ParkedLemmas.{own_by_lookup, copy_shown, newest_copied, no_newest_copied, looped, all_copied}
use Rattle.fa_session.proofs.outstanding.Outstanding.to_owned.Goals.{in-Some+in_ok-to_owned+in_ok-push, in_default}
use Rattle.fa_session.proofs.outstanding.Outstanding.to_owned.Goals as goal

pub returns : goal.returns
returns c =
    let own = own_by_lookup c.self.inside.earlier.entries c.len.ensures.unique c.self.invariant.own in
    let begun = c.into_iter-waiting-iterator.ensures.into_iter_gives ∙ c.values-waiting-items.ensures.rest in
    let all = looped c.match-self.owned.items c.loop-waiting.owned.items (values_of c.self.inside.earlier.entries) _ c.loop-waiting.waiting-iterator begun c.in-None.ensures.steps.0 c.loop-waiting.invariant in
    elim c.match-self.branch [
      | in-Some+in_ok-to_owned+in_ok-push w ↦
          let copy = w.in_ok-to_owned.field-0 in
          let one = ap (λ (v : _). v.items) w.owned-is ∙ w.in_ok-push.ensures.items ∙ ap (λ xs. xs ++ copy ∷ []) c.in_ok-owned.ensures.items in
          let shown = copy_shown w.in-Some.newest copy w.in_ok-to_owned.ensures.at w.in_ok-to_owned.ensures.unique w.in_ok-to_owned.ensures.request in
          all_copied c.self.inside c.args.self.now c.match-self.owned.items c.loop-waiting.owned.items c.self.view_is own
          (newest_copied c.self.inside.newest w.in-Some.newest copy c.match-self.owned.items w.in-Some.is one shown) all
      | in_default w ↦
          let none = ap (λ v. v.items) w.owned-is ∙ c.in_ok-owned.ensures.items in
          all_copied c.self.inside c.args.self.now c.match-self.owned.items c.loop-waiting.owned.items c.self.view_is own
          (no_newest_copied c.self.inside.newest c.match-self.owned.items w.in_default.is none) all
    ]
