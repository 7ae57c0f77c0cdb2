-- A ledger as a value.
use Rattle.std.specs.Prelude.{ℕ, Bool, List}
use Rattle.fa_ledger.specs.declared.handles.Handle.{Handle}
use Rattle.fa_ledger.specs.declared.key.Key.{Key}
use Rattle.fa_ledger.specs.declared.listings.Place.{Place}
use Rattle.fa_ledger.specs.declared.nodes.Lookups.{Lookups}
use Rattle.fa_ledger.specs.Calls.{PlainCall}

-- How many messages came; whether success of OPEN with O_TRUNC empties a file, since FUSE_ATOMIC_O_TRUNC (fuse.h) was
-- negotiated; the nodes that are known but for the root, by rising ids; the keys that are open, in the order of their
-- table, which says nothing; for a key that is open, of each offset that an answer on its handle has an entry with, the last such answer;
-- and the calls. The orders of offsets say nothing, nor does a key that stands there without any.
pub record PlainLedger : Type 0 where
  pub messages : ℕ
  pub truncating : Bool
  pub nodes : List (ℕ × Lookups)
  pub handles : List (Key × Handle)
  pub listed : List (Key × List (ℕ × Place))
  pub calls : List PlainCall
