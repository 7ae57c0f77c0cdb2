use Rattle.std.proofs.Common.{◌<◌, ◌≤◌, length, sym, ◌∙◌, arith}
use Rattle.fa_store.specs.parts.PageParts.{PagesShown}
use Rattle.fa_store.proofs.PageLemmas.{page_near, page_far, near_found}
use Rattle.fa_store.proofs.many_pages.ManyPages.get.Goals as goal

pub returns-then-place-len : goal.returns-then-place-len
returns-then-place-len c =
    let pages : PagesShown = record { near = c.self.inside.near.items; far = c.self.inside.far } in
    let within : c.args.place < length c.self.inside.near.items = omega (arith, c.len.ensures, c.if-place-len.true) in
    let found = rw c.deref.ensures.value at c.get.ensures.lookup in
    rw (sym c.self.view_is, page_near pages c.args.place within) (near_found c.self.inside.near.items c.args.place c.get.result found)

pub returns-else-place-len : goal.returns-else-place-len
returns-else-place-len c =
    let pages : PagesShown = record { near = c.self.inside.near.items; far = c.self.inside.far } in
    let past : length c.self.inside.near.items ≤ c.args.place = omega (arith, c.len.ensures, c.if-place-len.false) in
    rw (sym c.self.view_is) (c.get-else-place-len.ensures ∙ sym (page_far pages c.args.place past))
