use Rattle.std.proofs.Common.{◌≡◌, ◌<◌, ◌≤◌, [], length, set, get_or, refl, sym, ap, ◌∙◌, arith}
use Rattle.std.proofs.lemmas.List.{get_or_default}
use Rattle.fa_store.specs.parts.PageParts.{PagesShown, page_of}
use Rattle.fa_store.proofs.PageLemmas.{page_near, page_far, near_set, set_grown, far_grown}
use Rattle.fa_store.proofs.many_pages.ManyPages.store.Goals as goal

pub returns-then-place-len-clause-grown : goal.returns-then-place-len-clause-grown
returns-then-place-len-clause-grown c =
    let before : PagesShown = record { near = c.self.inside.near.items; far = c.self.inside.far } in
    let now : PagesShown = record { near = set c.self.inside.near.items c.args.place c.store.new.self; far = c.self.inside.far } in
    let within : c.args.place < length c.self.inside.near.items = omega (arith, c.len.ensures, c.if-place-len.true) in
    let there : c.index_mut-page.result.now ≡ page_of before c.args.place =
    c.index_mut-page.ensures.value ∙ (get_or_default c.self.inside.near.items c.args.place c.index_mut-page.result.now [] within ∙ sym (page_near before c.args.place within)) in
    let put = near_set now before c.args.place c.store.new.self within refl refl in
    let long : length c.index_mut-page.result.now ≡ length (page_of before c.args.place) = ap length there in
    rw (sym c.self.view_is)
    (set_grown (page_of now) (page_of before) c.args.place c.store.new.self put
    (λ i. c.store.ensures.same i ∙ ap (λ p. get_or p i 0) there) (omega (arith, c.store.ensures.kept)))

pub returns-then-place-len-clause-stored : goal.returns-then-place-len-clause-stored
returns-then-place-len-clause-stored c =
    let before : PagesShown = record { near = c.self.inside.near.items; far = c.self.inside.far } in
    let now : PagesShown = record { near = set c.self.inside.near.items c.args.place c.store.new.self; far = c.self.inside.far } in
    let within : c.args.place < length c.self.inside.near.items = omega (arith, c.len.ensures, c.if-place-len.true) in
    let put = near_set now before c.args.place c.store.new.self within refl refl in
    rw put.here c.store.ensures.stored

pub returns-clause-grown : goal.returns-clause-grown
returns-clause-grown c =
    let before : PagesShown = record { near = c.self.inside.near.items; far = c.self.inside.far } in
    let now : PagesShown = record { near = c.self.inside.near.items; far = c.store-2.new.self } in
    let past : length c.self.inside.near.items ≤ c.args.place = omega (arith, c.len.ensures, c.if-place-len.false) in
    rw (sym c.self.view_is) (far_grown now before c.args.place past refl c.store-2.ensures.grown)

pub returns-clause-stored : goal.returns-clause-stored
returns-clause-stored c =
    let now : PagesShown = record { near = c.self.inside.near.items; far = c.store-2.new.self } in
    let past : length c.self.inside.near.items ≤ c.args.place = omega (arith, c.len.ensures, c.if-place-len.false) in
    rw (page_far now c.args.place past) c.store-2.ensures.stored
