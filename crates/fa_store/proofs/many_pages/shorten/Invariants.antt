use Rattle.std.specs.Vec.{vec_len}
use Rattle.fa_store.specs.parts.PageParts.{page_of, SameBytes}
use Rattle.fa_store.proofs.many_pages.shorten.Given as goal

abbrev pub invariant-loop-near : goal.invariant-loop-near
invariant-loop-near l = SameBytes (page_of (record { near = l.near.items; far = l.far })) (page_of (record { near = l.fn.near.items; far = l.far }))

abbrev pub decreases-loop-near : goal.decreases-loop-near
decreases-loop-near l = vec_len l.near
