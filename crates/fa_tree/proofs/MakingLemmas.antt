-- The types of new files.
use Rattle.std.proofs.Common.{◌≡◌, ◌≢◌, ℕ, false, refl, arith}
use Rattle.std.specs.Prelude.{◌==◌}
use Rattle.std.proofs.lemmas.Bool.Decides.{nat_tests}
use Rattle.fa_bodies.specs.declared.mode.Kind.{Kind}
use Rattle.fa_bodies.specs.declared.mode.Kind.TheVariants.{Fifo, CharDevice, BlockDevice, Regular, Socket}
use Rattle.fa_bodies.specs.declared.mode.Mode.{Mode}
use Rattle.fa_bodies.specs.Modes.{mode_bits, type_bits, type_number}
use Rattle.fa_tree.specs.Making.{node_kind}

-- two numbers that differ are told apart
pub apart : (m n : ℕ) → m ≢ n → (m == n) ≡ false
apart m n other = grind (arith, nat_tests)

-- a mode that tells no type makes a regular file
pub none_is_regular : (mode : Mode) → ((t : Kind) → type_bits (mode_bits mode) ≢ type_number t) → Regular ≡ node_kind mode
none_is_regular mode none =
    let bits = type_bits (mode_bits mode) in
    rw (apart bits (type_number Fifo) (none Fifo), apart bits (type_number CharDevice) (none CharDevice), apart bits (type_number BlockDevice) (none BlockDevice), apart bits (type_number Socket) (none Socket)) refl
