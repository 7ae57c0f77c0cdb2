use Rattle.std.proofs.Common.{◌≡◌, ◌+◌, ◌≤◌, Some, None, length, sym, ap, ◌∙◌, rules}
use Rattle.fa_store.specs.parts.PageParts.{has_far, far_page, with_part}
use Rattle.fa_store.proofs.PageLemmas.{far_there, far_absent, far_updated, set_none, part_none}
use Rattle.fa_store.proofs.far_pages.FarPages.put.Goals as goal
use Rattle.fa_store.proofs.far_pages.FarPages.put.Goals.{in-Some, in_default}

pub put-requires : goal.put-requires
put-requires c =
    let there : has_far c.args.self.now c.args.place ≡ Some c.in-Some.page.now = search rules in
    rw (far_there c.args.self.now c.args.place c.in-Some.page.now there) at c.requires

pub returns : goal.returns
returns c = rw (sym c.self.view_is) (elim c.match-get_mut.branch [
  | in-Some w ↦
      let there : has_far c.self.inside.pages.entries c.args.place ≡ Some w.in-Some.page.now = search rules in
      let written = (c.get_mut.follows.holds w.put.new.self).3 (search rules) in
      rw (w.self-inside-is, far_there c.self.inside.pages.entries c.args.place w.in-Some.page.now there, sym w.put.ensures)
      (far_updated _ c.self.inside.pages.entries c.args.place (Some w.put.new.self) written.0)
  | in_default w ↦
      let none : has_far c.self.inside.pages.entries c.args.place ≡ None = search rules in
      let absent = far_absent c.self.inside.pages.entries c.args.place none in
      let nothing : c.args.at + length c.args.part.now ≤ length (far_page c.self.inside.pages.entries c.args.place) = rw c.self.view_is c.requires in
      let fits : c.args.at + length c.args.part.now ≤ 0 = rw absent at nothing in
      rw (w.self-inside-is, c.get_mut.follows.holds-at-none)
      (set_none (far_page c.self.inside.pages.entries) c.args.place _
      (ap (λ page. with_part page c.args.at c.args.part.now) absent ∙ (part_none c.args.at c.args.part.now fits ∙ sym absent)))
])
