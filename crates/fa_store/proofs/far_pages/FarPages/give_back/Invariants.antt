use Rattle.fa_store.specs.parts.PageParts.{far_page, SameBytes}
use Rattle.fa_store.proofs.far_pages.FarPages.give_back.Given as goal

abbrev pub invariant-loop-place : goal.invariant-loop-place
invariant-loop-place l = SameBytes (far_page l.self) (far_page l.fn.self)
