use Rattle.std.proofs.Common.{◌≡◌, ◌+◌, ◌≤◌, length, sym, ap, ◌∙◌, rules}
use Rattle.fa_store.specs.parts.PageParts.{only_page, page_of, with_part}
use Rattle.fa_store.proofs.PageLemmas.{only_here, only_others, only_set, set_none, part_none}
use Rattle.fa_store.proofs.pages.Pages.put.Goals as goal
use Rattle.fa_store.proofs.pages.Pages.put.Goals.{in-One+then-place-eq0, in-One+else-place-eq0, in-Many}

pub put-requires : goal.put-requires
put-requires c =
    let before : only_page c.in-One.page ≡ c.args.self.now = search rules in
    rw (sym before, c.if-place-eq0.true, only_here c.in-One.page) at c.requires

pub returns : goal.returns
returns c = elim c.match-self.branch [
  | in-One+then-place-eq0 w ↦
      let before : only_page w.in-One.page ≡ c.args.self.now = search rules in
      rw (w.self-inside-is, sym before, w.if-place-eq0.true, only_here w.in-One.page, sym w.put.ensures) (only_set w.in-One.page w.put.new.self)
  | in-One+else-place-eq0 w ↦
      let before : only_page w.in-One.page ≡ c.args.self.now = search rules in
      let absent = only_others w.in-One.page c.args.place w.if-place-eq0.false in
      let nothing : c.args.at + length c.args.part.now ≤ length (page_of (only_page w.in-One.page) c.args.place) = rw before c.requires in
      let fits : c.args.at + length c.args.part.now ≤ 0 = rw absent at nothing in
      rw (w.self-inside-is, before)
      (set_none (page_of c.args.self.now) c.args.place _
      (rw (sym before) (ap (λ page. with_part page c.args.at c.args.part.now) absent ∙ (part_none c.args.at c.args.part.now fits ∙ sym absent))))
  | in-Many w ↦
      let before : w.deref_mut.result.now ≡ c.args.self.now = search rules in
      rw (w.self-inside-is, sym before) w.put-in-Many.ensures
]
