use Rattle.std.proofs.Common.{◌/◌, inl, inr, ◌∙◌, arith}
use Rattle.std.proofs.lemmas.Bool.{cases_lt}
use Rattle.fa_store.specs.parts.PageParts.{page_of}
use Rattle.fa_store.proofs.ContentsLemmas.{IsCutThere, cut_there, cut_front, cut_ready, emptied_others, emptied}
use Rattle.fa_store.proofs.contents.cut.Goals as goal

pub loop-at-init : goal.loop-at-init
loop-at-init c =
    let cut : IsCutThere (page_of c.cut.new.self) (page_of c.args.pages.now) c.args.size = cut_there _ _ c.args.size c.cut.ensures in
    record {
      from = omega arith;
      in_front = cut_front c.cut_far.new.self (page_of c.cut.new.self) (page_of c.args.pages.now) c.args.size c.div_ceil.result cut c.div_ceil.ensures
          c.cut_far.ensures.kept;
      behind = cut_ready c.cut_far.new.self (page_of c.cut.new.self) (page_of c.args.pages.now) c.args.size c.div_ceil.result cut c.div_ceil.ensures
          c.cut_far.ensures.kept c.cut_far.ensures.near c.cut_far.ensures.cut c.args.len c.div_ceil-2.result c.min-end.result c.requires
          c.div_ceil-2.ensures (rw c.near_len.ensures at c.min-end.ensures);
    }

pub loop-at-preserved : goal.loop-at-preserved
loop-at-preserved c =
    let before = c.loop-at.invariant in
    record {
      from = omega (arith, before.from);
      in_front = λ i front.
          emptied_others (page_of c.cut-in-loop-at.new.self) (page_of c.loop-at.pages) c.loop-at.at c.cut-in-loop-at.ensures i (omega (arith, before.from))
          ∙ before.in_front i front;
      behind = emptied (page_of c.cut-in-loop-at.new.self) (page_of c.loop-at.pages) c.loop-at.at c.cut-in-loop-at.ensures c.args.size c.min-end.result before.behind;
    }

pub returns : goal.returns
returns c = record {
  in_front = c.loop-at.invariant.in_front;
  behind = λ i back. c.loop-at.invariant.behind i back (elim (cases_lt (i / 4096) c.loop-at.at) [
    | inl front ↦ inl front
    | inr past ↦ inr (omega arith)
  ]);
}
