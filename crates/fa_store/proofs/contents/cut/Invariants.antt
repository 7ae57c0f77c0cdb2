use Rattle.std.proofs.Common.{◌≡◌, ℕ, ◌-◌, ◌<◌, ◌≤◌, ◌/◌, ◌⊎◌}
use Rattle.fa_store.specs.parts.PageParts.{page_of, byte_at}
use Rattle.fa_store.proofs.contents.cut.Given as goal

abbrev pub invariant-loop-at : goal.invariant-loop-at
invariant-loop-at l = record {
  from : l.size / 4096 < l.at;
  in_front : (i : ℕ) → i < l.size → byte_at (page_of l.pages) i ≡ byte_at (page_of l.fn.pages) i;
  behind : (i : ℕ) → l.size ≤ i → (i / 4096 < l.at) ⊎ (l.end ≤ i / 4096) → byte_at (page_of l.pages) i ≡ 0;
}

abbrev pub decreases-loop-at : goal.decreases-loop-at
decreases-loop-at l = l.end - l.at
