use Rattle.std.proofs.Common.{ℕ, ◌+◌, ◌≤◌, ◌<◌, List, ◌++◌, length, take, ap, ◌∙◌, arith}
use Rattle.fa_capture.proofs.PullLemmas.{cut_behind, front_stays, piece_pulled, count_within}
use Rattle.std.proofs.lemmas.List.Elements.{All-from_get_or}
use Rattle.fa_capture.proofs.feed.pull_in.Goals as goal

pub returns-clause-taken : goal.returns-clause-taken
returns-clause-taken g c =
    let into = c.pull-pull.new.into in
    let within : c.len-len.result ≤ length c.deref_mut.result.now = omega (arith, c.deref_mut.ensures.len, c.in_ok-resize.ensures.len) in
    let bound : c.count.result ≤ length into = rw c.count.ensures (count_within c.pull-pull.result into c.pull-pull.ensures.bound) in
    let room : c.len-len.result + c.count.result ≤ c.resize.new.self.len = omega (arith, c.deref_mut.ensures.len, c.in_ok-resize.ensures.len, c.pull-pull.auto.into, bound) in
    let some : 0 < length into = omega (arith, c.deref_mut.ensures.len, c.in_ok-resize.ensures.len, c.pull-pull.auto.into) in
    let front = front_stays c.make_room.new.bytes.items c.deref_mut.result.now _ c.len-len.result c.args.most (omega arith) (c.deref_mut.ensures.value ∙ c.in_ok-resize.ensures.items) ∙ c.make_room.ensures in (
      take c.count.result into,
      rw c.count.ensures (piece_pulled _ _ c.pull-pull.result into some c.pull-pull.ensures.bound c.pull-pull.ensures.bytes),
      c.truncate.ensures.items ∙ cut_behind _ _ _ _ _ _ _ within bound room ∙ ap (λ (l : List ℕ). l ++ take c.count.result into) front,
    )

pub returns-clause-bytes : goal.returns-clause-bytes
returns-clause-bytes g c = All-from_get_or (λ (b : ℕ). b < 256) c.truncate.new.self.items 0 (λ i within. c.type_inv.bytes i 0 within)
