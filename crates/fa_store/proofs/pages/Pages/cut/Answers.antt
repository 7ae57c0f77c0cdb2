use Rattle.std.proofs.Common.{◌≡◌, take, sym, ap, ◌∙◌, rules}
use Rattle.fa_store.specs.parts.PageParts.{only_page, page_of}
use Rattle.fa_store.proofs.PageLemmas.{only_here, only_others, only_set, set_none, take_none}
use Rattle.fa_store.proofs.pages.Pages.cut.Goals as goal
use Rattle.fa_store.proofs.pages.Pages.cut.Goals.{in-One+then-place-eq0, in-One+else-place-eq0, in-Many}

pub returns : goal.returns
returns c = elim c.match-self.branch [
  | in-One+then-place-eq0 w ↦
      let before : only_page w.in-One.page ≡ c.args.self.now = search rules in
      rw (w.self-inside-is, sym before, w.if-place-eq0.true, only_here w.in-One.page, sym w.cut.ensures) (only_set w.in-One.page w.cut.new.self)
  | in-One+else-place-eq0 w ↦
      let before : only_page w.in-One.page ≡ c.args.self.now = search rules in
      let absent = only_others w.in-One.page c.args.place w.if-place-eq0.false in
      rw (w.self-inside-is, before)
      (set_none (page_of c.args.self.now) c.args.place _
      (rw (sym before) (ap (take c.args.size) absent ∙ (take_none c.args.size ∙ sym absent))))
  | in-Many w ↦
      let before : w.deref_mut.result.now ≡ c.args.self.now = search rules in
      rw (w.self-inside-is, sym before) w.cut-in-Many.ensures
]
