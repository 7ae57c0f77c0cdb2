use Rattle.std.proofs.Common.{◌≡◌, ◌<◌, ◌-◌, List, ◌++◌, length}
use Rattle.fa_bodies.specs.Dirents.{PlainDirent}
use Rattle.fa_ledger.specs.SoFar.{listing_so_far}
use Rattle.fa_tree.specs.parts.TallyParts.{Notes}
use Rattle.fa_tree.proofs.SoFarLemmas.{left_so_far}
use Rattle.fa_tree.proofs.so_far.note_so_far.Given as goal

-- these entries are noted, and those that are left stand before them
abbrev pub invariant-loop-round : goal.invariant-loop-round
invariant-loop-round l = record {
  within : l.place < length l.calls.list;
  noted : List PlainDirent;
  whole : left_so_far (l.k - l._round) l.calls.list l.place ++ noted ≡ listing_so_far l.calls.list l.k;
  notes : Notes l.fn.tally l.tally noted;
}
