use Rattle.std.proofs.Common.{◌≡◌, Some, None, length, get_or, sym, ap, ◌∙◌, rules, arith}
use Rattle.fa_store.specs.parts.PageParts.{has_far, far_page}
use Rattle.fa_store.proofs.PageLemmas.{far_there, far_absent, far_updated, set_grown}
use Rattle.fa_store.proofs.far_pages.FarPages.store.Goals as goal

pub returns-in-Some-clause-grown : goal.returns-in-Some-clause-grown
returns-in-Some-clause-grown c =
    let found : has_far c.self.inside.pages.entries c.args.place ≡ Some c.in-Some.page.now = search rules in
    let there = far_there c.self.inside.pages.entries c.args.place c.in-Some.page.now found in
    let written = (c.get_mut.follows.holds c.store.new.self).3 (search rules) in
    let put = far_updated _ c.self.inside.pages.entries c.args.place (Some c.store.new.self) written.0 in
    rw (sym c.self.view_is)
    (set_grown _ (far_page c.self.inside.pages.entries) c.args.place c.store.new.self put
    (λ i. c.store.ensures.same i ∙ ap (λ p. get_or p i 0) (sym there)) (rw there c.store.ensures.kept))

pub returns-in-Some-clause-stored : goal.returns-in-Some-clause-stored
returns-in-Some-clause-stored c =
    let written = (c.get_mut.follows.holds c.store.new.self).3 (search rules) in
    let put = far_updated _ c.self.inside.pages.entries c.args.place (Some c.store.new.self) written.0 in
    rw put.here c.store.ensures.stored

pub returns-clause-grown : goal.returns-clause-grown
returns-clause-grown c =
    let none : has_far c.self.inside.pages.entries c.args.place ≡ None = search rules in
    let absent = far_absent c.self.inside.pages.entries c.args.place none in
    let few : length (far_page c.self.inside.pages.entries c.args.place) ≡ 0 = ap length absent in
    let updates = rw c.get_mut.follows.holds-at-none at c.in_ok-insert.ensures.updates in
    let put = far_updated c.insert.new.self.entries c.self.inside.pages.entries c.args.place (Some c.store-2.new.self) updates.0 in
    rw (sym c.self.view_is)
    (set_grown _ (far_page c.self.inside.pages.entries) c.args.place c.store-2.new.self put
    (λ i. c.store-2.ensures.same i ∙ ap (λ p. get_or p i 0) (c.new-page.ensures ∙ sym absent))
    (omega arith))

pub returns-clause-stored : goal.returns-clause-stored
returns-clause-stored c =
    let updates = rw c.get_mut.follows.holds-at-none at c.in_ok-insert.ensures.updates in
    let put = far_updated c.insert.new.self.entries c.self.inside.pages.entries c.args.place (Some c.store-2.new.self) updates.0 in
    rw put.here c.in_ok-store.ensures.stored
