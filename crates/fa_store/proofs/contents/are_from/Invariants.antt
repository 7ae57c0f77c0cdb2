use Rattle.std.proofs.Common.{◌≡◌, ℕ, ◌+◌, ◌-◌, ◌<◌, ◌≤◌, length, get_or}
use Rattle.fa_store.specs.parts.PageParts.{page_of, byte_at}
use Rattle.fa_store.proofs.contents.are_from.Given as goal

abbrev pub invariant-loop-done : goal.invariant-loop-done
invariant-loop-done l = record {
  within : l.done ≤ length l.bytes;
  same : (i : ℕ) → i < l.done → get_or l.bytes i 0 ≡ byte_at (page_of l.pages) (l.start + i);
}

abbrev pub decreases-loop-done : goal.decreases-loop-done
decreases-loop-done l = length l.bytes - l.done
