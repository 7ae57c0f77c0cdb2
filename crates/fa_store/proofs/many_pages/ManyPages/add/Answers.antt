use Rattle.std.proofs.Common.{◌≤◌, ◌<◌, ℕ, ◌≡◌, [], length, refl, sym, arith}
use Rattle.fa_store.specs.parts.PageParts.{PagesShown, far_page}
use Rattle.fa_store.proofs.PageLemmas.{longer_same}
use Rattle.fa_store.proofs.many_pages.ManyPages.add.Goals as goal

pub returns : goal.returns
returns c =
    let before : PagesShown = record { near = c.self.inside.near.items; far = c.self.inside.far } in
    let now : PagesShown = record { near = c.add_pages.new.pages.items; far = c.self.inside.far } in
    let free : (k : ℕ) → length before.near ≤ k → k < length now.near → far_page before.far k ≡ [] =
    λ k new within. c.free_before-free.ensures k (omega (arith, c.add_pages.ensures.few, new, within)) in
    rw (sym c.self.view_is) (longer_same now before refl c.add_pages.ensures.kept c.add_pages.ensures.same free)
