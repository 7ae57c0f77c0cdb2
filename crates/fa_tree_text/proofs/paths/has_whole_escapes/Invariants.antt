use Rattle.std.proofs.Common.{◌≡◌, ◌+◌, ◌<◌, ℕ, slice_index}
use Rattle.percent_encoding.specs.Percent.{percent_sign}
use Rattle.fa_tree_text.specs.Paths.{HasHexDigit}
use Rattle.fa_tree_text.proofs.paths.has_whole_escapes.Given as goal

abbrev pub invariant-loop-place : goal.invariant-loop-place
invariant-loop-place l = (k : ℕ) → k < l.place → slice_index l.spelled k ≡ percent_sign → HasHexDigit l.spelled (k + 1) × HasHexDigit l.spelled (k + 2)
