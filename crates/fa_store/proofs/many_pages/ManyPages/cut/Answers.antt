use Rattle.std.proofs.Common.{◌≡◌, ◌<◌, ◌≤◌, [], length, set, refl, sym, ◌∙◌, arith}
use Rattle.std.proofs.lemmas.List.{get_or_default}
use Rattle.fa_store.specs.parts.PageParts.{PagesShown, page_of}
use Rattle.fa_store.proofs.PageLemmas.{page_near, page_far, near_set, far_set}
use Rattle.fa_store.proofs.many_pages.ManyPages.cut.Goals as goal

pub returns-then-place-len : goal.returns-then-place-len
returns-then-place-len c =
    let before : PagesShown = record { near = c.self.inside.near.items; far = c.self.inside.far } in
    let now : PagesShown = record { near = set c.self.inside.near.items c.args.place c.cut.new.self; far = c.self.inside.far } in
    let within : c.args.place < length c.self.inside.near.items = omega (arith, c.len.ensures, c.if-place-len.true) in
    let there : c.index_mut-page.result.now ≡ page_of before c.args.place =
    c.index_mut-page.ensures.value ∙ (get_or_default c.self.inside.near.items c.args.place c.index_mut-page.result.now [] within ∙ sym (page_near before c.args.place within)) in
    rw (sym c.self.view_is, sym there, sym c.cut.ensures)
    (near_set now before c.args.place c.cut.new.self within refl refl)

pub returns-else-place-len : goal.returns-else-place-len
returns-else-place-len c =
    let before : PagesShown = record { near = c.self.inside.near.items; far = c.self.inside.far } in
    let now : PagesShown = record { near = c.self.inside.near.items; far = c.cut-else-place-len.new.self } in
    let past : length c.self.inside.near.items ≤ c.args.place = omega (arith, c.len.ensures, c.if-place-len.false) in
    rw (sym c.self.view_is, page_far before c.args.place past)
    (far_set now before c.args.place _ past refl c.cut-else-place-len.ensures)
