use Rattle.std.proofs.Common.{◌≡◌, Some, None, [], get_or, sym, ap, ◌∙◌, rules}
use Rattle.fa_store.specs.parts.PageParts.{has_far, far_page}
use Rattle.fa_store.proofs.PageLemmas.{far_there, far_updated, set_same}
use Rattle.fa_store.proofs.far_pages.FarPages.give_back_page.Goals as goal

pub returns-then-is_empty : goal.returns-then-is_empty
returns-then-is_empty c place at =
    let found : has_far c.self.inside.pages.entries c.args.place ≡ Some c.in-Some.page.now = search rules in
    let there = far_there c.self.inside.pages.entries c.args.place c.in-Some.page.now found in
    let written = (c.get_mut.follows.holds c.give_back.new.self).3 (search rules) in
    let put = far_updated _ c.self.inside.pages.entries c.args.place (Some c.give_back.new.self) written.0 in
    let same = set_same _ (far_page c.self.inside.pages.entries) c.args.place c.give_back.new.self put
    (λ i. c.give_back.ensures i ∙ ap (λ p. get_or p i 0) (sym there)) in
    let none : c.give_back.new.self ≡ [] = search rules in
    let taken = far_updated c.remove.new.self.entries _ c.args.place None c.remove.ensures.updates.0 in
    let gone = set_same _ _ c.args.place [] taken (λ i. ap (λ p. get_or p i 0) (sym (put.here ∙ none))) in
    let now : c.match-remove.self ≡ c.remove.new.self.entries = search rules in
    rw (now, sym c.self.view_is) (gone place at ∙ same place at)

pub returns-else-is_empty : goal.returns-else-is_empty
returns-else-is_empty c =
    let found : has_far c.self.inside.pages.entries c.args.place ≡ Some c.in-Some.page.now = search rules in
    let there = far_there c.self.inside.pages.entries c.args.place c.in-Some.page.now found in
    let written = (c.get_mut.follows.holds c.give_back.new.self).3 (search rules) in
    let put = far_updated _ c.self.inside.pages.entries c.args.place (Some c.give_back.new.self) written.0 in
    rw (sym c.self.view_is)
    (set_same _ (far_page c.self.inside.pages.entries) c.args.place c.give_back.new.self put
    (λ i. c.give_back.ensures i ∙ ap (λ p. get_or p i 0) (sym there)))
