use Rattle.std.proofs.Common.{◌≡◌, ◌≤◌, ℕ, get_or, length}
use Rattle.std.specs.Vec.{vec_len}
use Rattle.fa_store.proofs.page.drop_zeros.Given as goal

abbrev pub invariant-loop-bytes : goal.invariant-loop-bytes
invariant-loop-bytes l = record {
  same : (i : ℕ) → get_or l.bytes.items i 0 ≡ get_or l.fn.bytes.items i 0;
  fewer : length l.bytes.items ≤ length l.fn.bytes.items;
}

abbrev pub decreases-loop-bytes : goal.decreases-loop-bytes
decreases-loop-bytes l = vec_len l.bytes
