use Rattle.std.proofs.Common.{◌≡◌, sym, ap, rules, arith}
use Rattle.fa_store.specs.parts.PageParts.{page_of}
use Rattle.fa_store.proofs.PageLemmas.{only_others, near_kept}
use Rattle.fa_store.proofs.pages.Pages.cut_far.Goals as goal
use Rattle.fa_store.proofs.pages.Pages.cut_far.Goals.{in-One, in-Many}

pub returns-clause-cut : goal.returns-clause-cut
returns-clause-cut c k far from = elim c.match-self.branch [
  | in-One w ↦
      rw (w.self-inside-is, w.in-One.is)
      (only_others w.in-One.field-0 k (λ first. omega (arith, rw (w.self-inside-is, w.in-One.is) at far, first)))
  | in-Many w ↦ rw w.self-inside-is (w.cut_far.ensures.cut k (rw w.self-inside-is at far) from)
]

pub returns-clause-near : goal.returns-clause-near
returns-clause-near c k near = elim c.match-self.branch [
  | in-One w ↦ rw w.self-inside-is (ap (λ pages. page_of pages k) c.self.view_is)
  | in-Many w ↦
      let before : w.deref_mut.result.now ≡ c.args.self.now = search rules in
      rw (w.self-inside-is, sym before)
      (near_kept w.cut_far.new.self w.deref_mut.result.now w.cut_far.ensures.near k (rw w.self-inside-is at near))
]
