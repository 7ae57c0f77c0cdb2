-- Where columns lie, in tenths of a unit.
use Rattle.std.specs.Prelude.{◌≤◌, ◌+◌, ◌-◌, ◌*◌, ◌/◌, ℕ}
use Rattle.fa_picture.specs.declared.band.Extent.{Extent}
use Rattle.fa_picture.specs.declared.layout.TheConstants.{COLUMN, SIDE, INSET}

-- the middle of a message's column, on the axis of message numbers
abbrev pub column_middle : ℕ → ℕ
column_middle n = n * COLUMN + COLUMN / 2

-- the left side of a message's column, in a band that begins with another message
abbrev pub column_left : ℕ → ℕ → ℕ
column_left first n = SIDE + (n - first) * COLUMN

-- a bar covers the column of this message, but for what is left free at each side
pub record IsCovered (bar : Extent) (first n : ℕ) : Type 0 where
  pub from_left : bar.left ≤ column_left first n + INSET
  pub to_right : column_left first (n + 1) ≤ bar.right + INSET
