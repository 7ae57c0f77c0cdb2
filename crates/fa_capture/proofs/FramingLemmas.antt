-- Numbers that were read are spelled by their bytes, and no bytes begin as captures in two formats do.
use Rattle.std.proofs.Common.{◌≡◌, ℕ, ◌+◌, ◌<◌, inl, inr, List, ◌++◌, length, take, drop, get_or, refl, sym, ap, ◌∙◌, arith}
use Rattle.std.specs.Int.{w32, w64, to_le_bytes, from_le_bytes}
use Rattle.std.proofs.Math.ListN.{get_or-eq_default}
use Rattle.std.proofs.lemmas.Bool.{cases_lt}
use Rattle.std.proofs.lemmas.List.{get_or-take, length-take, take-append-drop}
use Rattle.std.proofs.lemmas.Nat.{le_bytes_4, le_bytes_8}
use Rattle.fa_capture.specs.declared.format.Format.{Format}
use Rattle.fa_capture.specs.declared.format.Format.TheVariants.{Plain, Timed}
use Rattle.fa_capture.specs.Framing.{magic}
pub use Rattle.fa_capture.specs.parts.RecordsLaws.{one_front, Fits, same_records, next_record, record_size}

-- no bytes begin as captures in two formats do
pub one_format : (f g : Format) (x y : List ℕ) → magic f ++ x ≡ magic g ++ y → f ≡ g
one_format Plain Plain x y e = refl
one_format Timed Timed x y e = refl
one_format Plain Timed x y e = absurd (omega (arith, ap (λ (l : List ℕ). get_or l 7 0) e))
one_format Timed Plain x y e = absurd (omega (arith, ap (λ (l : List ℕ). get_or l 7 0) e))

-- each number of a list is one of a byte
abbrev pub AreSmall : List ℕ → Type 0
AreSmall bytes = (i : ℕ) → get_or bytes i 0 < 256

small_front : (n : ℕ) (bytes : List ℕ) → AreSmall bytes → AreSmall (take n bytes)
small_front n bytes small i =
    elim (cases_lt i n) [
      | inl within ↦ rw (get_or-take n bytes i 0 within) (small i)
      | inr behind ↦ rw (get_or-eq_default (take n bytes) 0 {n = i} (omega (arith, length-take n bytes, behind))) (omega arith)
    ]

-- a number that was read of the first four bytes is spelled by them
pub spelled_4 : (bytes front behind : List ℕ) (n : ℕ) → AreSmall bytes → front ≡ take 4 bytes → behind ≡ drop 4 bytes → length behind + 4 ≡ length bytes
    → n ≡ from_le_bytes w32 front → bytes ≡ to_le_bytes w32 n ++ behind
spelled_4 bytes front behind n small is rest long value =
    let four : length (take 4 bytes) ≡ 4 = omega (arith, length-take 4 bytes, long) in
    let spelled : to_le_bytes w32 n ≡ take 4 bytes = le_bytes_4 (take 4 bytes) n four (small_front 4 bytes small) (value ∙ ap (from_le_bytes w32) is) in
    sym (take-append-drop 4 bytes) ∙ ap (λ (x : List ℕ). x ++ drop 4 bytes) (sym spelled) ∙ ap (λ (x : List ℕ). to_le_bytes w32 n ++ x) (sym rest)

-- and one of the first eight
pub spelled_8 : (bytes front behind : List ℕ) (n : ℕ) → AreSmall bytes → front ≡ take 8 bytes → behind ≡ drop 8 bytes → length behind + 8 ≡ length bytes
    → n ≡ from_le_bytes w64 front → bytes ≡ to_le_bytes w64 n ++ behind
spelled_8 bytes front behind n small is rest long value =
    let eight : length (take 8 bytes) ≡ 8 = omega (arith, length-take 8 bytes, long) in
    let spelled : to_le_bytes w64 n ≡ take 8 bytes = le_bytes_8 (take 8 bytes) n eight (small_front 8 bytes small) (value ∙ ap (from_le_bytes w64) is) in
    sym (take-append-drop 8 bytes) ∙ ap (λ (x : List ℕ). x ++ drop 8 bytes) (sym spelled) ∙ ap (λ (x : List ℕ). to_le_bytes w64 n ++ x) (sym rest)
