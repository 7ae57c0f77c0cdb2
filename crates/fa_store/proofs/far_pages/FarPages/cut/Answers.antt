use Rattle.std.proofs.Common.{◌≡◌, Some, None, take, sym, ap, ◌∙◌, rules}
use Rattle.fa_store.specs.parts.PageParts.{has_far, far_page}
use Rattle.fa_store.proofs.PageLemmas.{far_there, far_absent, far_updated, set_none, take_none}
use Rattle.fa_store.proofs.far_pages.FarPages.cut.Goals as goal
use Rattle.fa_store.proofs.far_pages.FarPages.cut.Goals.{in-Some, in_default}

pub returns : goal.returns
returns c = rw (sym c.self.view_is) (elim c.match-get_mut.branch [
  | in-Some w ↦
      let there : has_far c.self.inside.pages.entries c.args.place ≡ Some w.in-Some.page.now = search rules in
      let written = (c.get_mut.follows.holds w.cut.new.self).3 (search rules) in
      rw (w.self-inside-is, far_there c.self.inside.pages.entries c.args.place w.in-Some.page.now there, sym w.cut.ensures)
      (far_updated _ c.self.inside.pages.entries c.args.place (Some w.cut.new.self) written.0)
  | in_default w ↦
      let none : has_far c.self.inside.pages.entries c.args.place ≡ None = search rules in
      let absent = far_absent c.self.inside.pages.entries c.args.place none in
      rw (w.self-inside-is, c.get_mut.follows.holds-at-none)
      (set_none (far_page c.self.inside.pages.entries) c.args.place _ (ap (take c.args.size) absent ∙ (take_none c.args.size ∙ sym absent)))
])
