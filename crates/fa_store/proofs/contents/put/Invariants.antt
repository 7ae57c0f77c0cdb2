use Rattle.std.proofs.Common.{◌-◌, ◌≤◌, ◌+◌, length}
use Rattle.fa_store.specs.parts.PageParts.{page_of, AreWritten, IsStored}
use Rattle.fa_store.proofs.contents.put.Given as goal

abbrev pub invariant-loop-done : goal.invariant-loop-done
invariant-loop-done l = record {
  within : l.done ≤ length l.bytes;
  stored : IsStored (page_of l.pages) l.start (l.start + length l.bytes);
  written : AreWritten (page_of l.pages) (page_of l.fn.pages) l.start l.bytes l.done;
}

abbrev pub decreases-loop-done : goal.decreases-loop-done
decreases-loop-done l = length l.bytes - l.done
