-- Records one after the other, and the messages that they are of.
use Rattle.std.specs.Prelude.{◌≡◌, ℕ, ◌≤◌, List, length, All}
use Rattle.std.specs.List.{flat_map}
use Rattle.fa_capture.specs.declared.format.Format.{Format}
use Rattle.fa_capture.specs.declared.limits.TheConstants.{MAX_MESSAGE_BYTES}
use Rattle.fa_capture.specs.Message.{Recorded}
use Rattle.fa_capture.specs.Framing.{IsTime, record_spelling}

-- the bytes are the records of these messages, one after the other
pub record AreSpelledBy (format : Format) (bytes : List ℕ) (rs : List Recorded) : Type 0 where
  pub times : All (λ r. IsTime format r.time) rs
  pub short : All (λ r. length r.message.bytes ≤ MAX_MESSAGE_BYTES) rs
  pub spelled : bytes ≡ flat_map (record_spelling format) rs

-- The records that bytes are, with the fact that they are. There is at most one such list (`SpelledRecords-prop`).
abbrev pub SpelledRecords : Format → List ℕ → Type 0
SpelledRecords format bytes = (rs : List Recorded) × ∥ AreSpelledBy format bytes rs ∥₁

-- the bytes are the records of some messages
abbrev pub AreSpelled : Format → List ℕ → Type 0
AreSpelled format bytes = ∥ ((rs : List Recorded) × AreSpelledBy format bytes rs) ∥₁
