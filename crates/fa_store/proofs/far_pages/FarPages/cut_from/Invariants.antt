use Rattle.std.proofs.Common.{◌≡◌, ℕ, ◌<◌, length}
use Rattle.fa_store.specs.parts.PageParts.{far_page}
use Rattle.fa_store.proofs.far_pages.FarPages.cut_from.Given as goal

abbrev pub invariant-loop-self : goal.invariant-loop-self
invariant-loop-self l = (k : ℕ) → k < l.place → far_page l.self k ≡ far_page l.fn.self k

abbrev pub decreases-loop-self : goal.decreases-loop-self
decreases-loop-self l = length l.self
