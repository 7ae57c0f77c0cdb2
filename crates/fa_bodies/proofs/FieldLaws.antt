-- Fields are read as they are spelled, and bytes have one reading.
use Rattle.std.proofs.Common.{◌≡◌, ◌≢◌, ℕ, ◌+◌, ◌^◌, ◌<◌, ◌≤◌, List, [], ◌∷◌, ◌++◌, length, get_or, take, drop, All, append_assoc, refl, sym, ap, ◌∙◌, arith, inl, inr}
use Rattle.std.specs.Prelude.{ℤ}
use Rattle.std.specs.Int.{w32, w64, cast_unsigned, cast_signed, from_le_bytes}
use Rattle.std.specs.Int.RustNames.{FitsSigned}
use Rattle.std.proofs.lemmas.Bool.{cases_lt}
use Rattle.std.proofs.lemmas.List.{take-append-drop, length-append, length-take, get_or-take, get_or_past}
use Rattle.std.proofs.lemmas.Nat.{le_bytes_4, le_bytes_8, from_le_bytes-to_le_bytes_4, from_le_bytes-to_le_bytes_8}
use Rattle.std.proofs.lemmas.Int.{to_z-of_z}
use Rattle.std.proofs.Math.Facts.{Fits-of_z}
use Rattle.std.proofs.lemmas.List.Elements.{All-tail}
use Rattle.fa_capture.proofs.CallerLemmas.{one_front}
use Rattle.byteorder.specs.Endian.{little_number}
use Rattle.fa_bodies.specs.Names.{HasNoZero, IsNameByte}
use Rattle.fa_bodies.specs.Fields.{Field, BeginsWith, byte_count, le32, le64}
use Rattle.fa_bodies.specs.Fields.Field.{U32, U64, I32, Unread, Name, Target}

-- ---- single fields

abbrev pub IsBytes : List ℕ → Type 0
IsBytes bytes = (i : ℕ) → get_or bytes i 0 < 256

IsBytes-take : (n : ℕ) (bytes : List ℕ) → IsBytes bytes → IsBytes (take n bytes)
IsBytes-take n bytes h i =
    elim (cases_lt i n) [
      | inl lt ↦ rw (get_or-take n bytes i 0 lt) (h i)
      | inr le ↦ rw (get_or_past (take n bytes) i 0 (omega (arith, length-take n bytes))) (omega arith)
    ]

pub length-le32 : (n : ℕ) → length (le32 n) ≡ 4
unfolding le32
length-le32 n = refl

pub length-le64 : (n : ℕ) → length (le64 n) ≡ 8
unfolding le64
length-le64 n = refl

-- the number in the first bytes is spelled by them
pub u32_parts : (bytes : List ℕ) (n : ℕ) → IsBytes bytes → 4 ≤ length bytes → n ≡ little_number 4 (take 4 bytes) → bytes ≡ le32 n ++ drop 4 bytes
unfolding le32
u32_parts bytes n fits len e =
    let size : length (take 4 bytes) ≡ 4 = omega (arith, length-take 4 bytes) in
    let value : n ≡ from_le_bytes w32 (take 4 bytes) = omega (arith, e) in
    let front = le_bytes_4 (take 4 bytes) n size (IsBytes-take 4 bytes fits) value in
    sym (take-append-drop 4 bytes) ∙ ap (λ (x : List ℕ). x ++ drop 4 bytes) (sym front)

pub u64_parts : (bytes : List ℕ) (n : ℕ) → IsBytes bytes → 8 ≤ length bytes → n ≡ little_number 8 (take 8 bytes) → bytes ≡ le64 n ++ drop 8 bytes
unfolding le64
u64_parts bytes n fits len e =
    let size : length (take 8 bytes) ≡ 8 = omega (arith, length-take 8 bytes) in
    let value : n ≡ from_le_bytes w64 (take 8 bytes) = omega (arith, e) in
    let front = le_bytes_8 (take 8 bytes) n size (IsBytes-take 8 bytes fits) value in
    sym (take-append-drop 8 bytes) ∙ ap (λ (x : List ℕ). x ++ drop 8 bytes) (sym front)

-- two numbers with one spelling are one
pub le32-one : (m n : ℕ) → m < 2 ^ 32 → n < 2 ^ 32 → le32 m ≡ le32 n → m ≡ n
unfolding le32
le32-one m n p q e = sym (from_le_bytes-to_le_bytes_4 m p) ∙ ap (from_le_bytes w32) e ∙ from_le_bytes-to_le_bytes_4 n q

pub le64-one : (m n : ℕ) → m < 2 ^ 64 → n < 2 ^ 64 → le64 m ≡ le64 n → m ≡ n
unfolding le64
le64-one m n p q e = sym (from_le_bytes-to_le_bytes_8 m p) ∙ ap (from_le_bytes w64) e ∙ from_le_bytes-to_le_bytes_8 n q

pub signed-one : (x y : ℤ) → FitsSigned w32 x → FitsSigned w32 y → le32 (cast_unsigned w32 x) ≡ le32 (cast_unsigned w32 y) → x ≡ y
signed-one x y p q e =
    let below_x = Fits-of_z {w = w32} {z = x} p in
    let below_y = Fits-of_z {w = w32} {z = y} q in
    let bits = le32-one (cast_unsigned w32 x) (cast_unsigned w32 y) (omega arith) (omega arith) e in
    sym (to_z-of_z w32 x p) ∙ ap (cast_signed w32) bits ∙ to_z-of_z w32 y q

-- ---- several fields

-- bytes without a zero byte end at the first one
pub ended-one : (x y a b : List ℕ) → HasNoZero x → HasNoZero y → x ++ 0 ∷ a ≡ y ++ 0 ∷ b → (x ≡ y) × (a ≡ b)
ended-one [] [] a b p q e = (refl, cc)
ended-one [] (d ∷ y) a b p q e = let first : d ≡ 0 = cc in absurd (q 0 0 (omega arith) first)
ended-one (c ∷ x) [] a b p q e = let first : c ≡ 0 = cc in absurd (p 0 0 (omega arith) first)
ended-one (c ∷ x) (d ∷ y) a b p q e =
    let first : c ≡ d = cc in
    let later : x ++ 0 ∷ a ≡ y ++ 0 ∷ b = cc in
    let others = ended-one x y a b (All-tail (λ n. n ≢ 0) c x p) (All-tail (λ n. n ≢ 0) d y q) later in
    (rw (first, others.0) refl, others.1)

-- a list with a zero byte in it has one
pub zero-inside : (x a : List ℕ) → HasNoZero (x ++ 0 ∷ a) → ⊥
zero-inside [] a h = h 0 0 (omega arith) refl
zero-inside (c ∷ x) a h = zero-inside x a (All-tail (λ n. n ≢ 0) c (x ++ 0 ∷ a) h)

-- a name has no zero byte
pub name-no-zero : (name : List ℕ) → All IsNameByte name → HasNoZero name
name-no-zero name each k d less = (each k d less).0

-- the same fields, with values of their own
abbrev pub Alike : List Field → List Field → Type 0
Alike [] [] = Unit {0}
Alike (U32 m ∷ fs) (U32 n ∷ gs) = Alike fs gs
Alike (U64 m ∷ fs) (U64 n ∷ gs) = Alike fs gs
Alike (I32 x ∷ fs) (I32 y ∷ gs) = Alike fs gs
Alike (Unread j ∷ fs) (Unread k ∷ gs) = (j ≡ k) × Alike fs gs
Alike (Name x ∷ fs) (Name y ∷ gs) = Alike fs gs
Alike (Target x ∷ fs) (Target y ∷ gs) = Alike fs gs
Alike _ _ = ⊥

-- bytes have one reading by the same fields
pub fields-one : (fs gs : List Field) (bytes r s : List ℕ) → Alike fs gs → BeginsWith bytes fs r → BeginsWith bytes gs s → (fs ≡ gs) × (r ≡ s)
fields-one [] [] bytes r s alike p q = (refl, sym p ∙ q)
fields-one (U32 m ∷ fs) (U32 n ∷ gs) bytes r s alike p q =
    let parts = one_front (le32 m) (le32 n) p.1 q.1 (length-le32 m ∙ sym (length-le32 n)) (sym p.2 ∙ q.2) in
    let value : m ≡ n = le32-one m n p.0 q.0 parts.0 in
    let moved : BeginsWith p.1 gs s = rw parts.1 q.3 in
    let others = fields-one fs gs p.1 r s alike p.3 moved in
    (rw (value, others.0) refl, others.1)
fields-one (U64 m ∷ fs) (U64 n ∷ gs) bytes r s alike p q =
    let parts = one_front (le64 m) (le64 n) p.1 q.1 (length-le64 m ∙ sym (length-le64 n)) (sym p.2 ∙ q.2) in
    let value : m ≡ n = le64-one m n p.0 q.0 parts.0 in
    let moved : BeginsWith p.1 gs s = rw parts.1 q.3 in
    let others = fields-one fs gs p.1 r s alike p.3 moved in
    (rw (value, others.0) refl, others.1)
fields-one (I32 x ∷ fs) (I32 y ∷ gs) bytes r s alike p q =
    let parts = one_front (le32 (cast_unsigned w32 x)) (le32 (cast_unsigned w32 y)) p.1 q.1 (length-le32 (cast_unsigned w32 x) ∙ sym (length-le32 (cast_unsigned w32 y))) (sym p.2 ∙ q.2) in
    let value : x ≡ y = signed-one x y p.0 q.0 parts.0 in
    let moved : BeginsWith p.1 gs s = rw parts.1 q.3 in
    let others = fields-one fs gs p.1 r s alike p.3 moved in
    (rw (value, others.0) refl, others.1)
fields-one (Unread j ∷ fs) (Unread k ∷ gs) bytes r s alike p q =
    let parts = one_front p.0 q.0 p.1 q.1 (p.2 ∙ alike.0 ∙ sym q.2) (sym p.3 ∙ q.3) in
    let moved : BeginsWith p.1 gs s = rw parts.1 q.4 in
    let others = fields-one fs gs p.1 r s alike.1 p.4 moved in
    (rw (alike.0, others.0) refl, others.1)
fields-one (Name x ∷ fs) (Name y ∷ gs) bytes r s alike p q =
    let parts = ended-one x y p.1 q.1 (name-no-zero x p.0.filename.each_byte) (name-no-zero y q.0.filename.each_byte) (sym p.2 ∙ q.2) in
    let value : x ≡ y = parts.0 in
    let moved : BeginsWith p.1 gs s = rw parts.1 q.3 in
    let others = fields-one fs gs p.1 r s alike p.3 moved in
    (rw (value, others.0) refl, others.1)
fields-one (Target x ∷ fs) (Target y ∷ gs) bytes r s alike p q =
    let parts = ended-one x y p.1 q.1 p.0.1 q.0.1 (sym p.2 ∙ q.2) in
    let value : x ≡ y = parts.0 in
    let moved : BeginsWith p.1 gs s = rw parts.1 q.3 in
    let others = fields-one fs gs p.1 r s alike p.3 moved in
    (rw (value, others.0) refl, others.1)
fields-one fs gs bytes r s alike p q = absurd alike

pub length-fields : (fs : List Field) (bytes rest : List ℕ) → BeginsWith bytes fs rest → length bytes ≡ byte_count fs + length rest
length-fields [] bytes rest p = rw p (omega arith)
length-fields (U32 n ∷ fs) bytes rest p = omega (arith, ap length p.2, length-append (le32 n) p.1, length-le32 n, length-fields fs p.1 rest p.3)
length-fields (U64 n ∷ fs) bytes rest p = omega (arith, ap length p.2, length-append (le64 n) p.1, length-le64 n, length-fields fs p.1 rest p.3)
length-fields (I32 z ∷ fs) bytes rest p = omega (arith, ap length p.2, length-append (le32 (cast_unsigned w32 z)) p.1, length-le32 (cast_unsigned w32 z), length-fields fs p.1 rest p.3)
length-fields (Unread k ∷ fs) bytes rest p = omega (arith, ap length p.3, length-append p.0 p.1, p.2, length-fields fs p.1 rest p.4)
length-fields (Name x ∷ fs) bytes rest p = omega (arith, ap length p.2, length-append x (0 ∷ p.1), length-fields fs p.1 rest p.3)
length-fields (Target x ∷ fs) bytes rest p = omega (arith, ap length p.2, length-append x (0 ∷ p.1), length-fields fs p.1 rest p.3)

-- ---- one part after the other

-- what follows the first fields begins with the others
pub parts_of : (fs gs : List Field) (bytes rest : List ℕ) → BeginsWith bytes (fs ++ gs) rest → (between : List ℕ) × BeginsWith bytes fs between × BeginsWith between gs rest
parts_of [] gs bytes rest p = (bytes, refl, p)
parts_of (U32 n ∷ fs) gs bytes rest p = let q = parts_of fs gs p.1 rest p.3 in (q.0, (p.0, p.1, p.2, q.1), q.2)
parts_of (U64 n ∷ fs) gs bytes rest p = let q = parts_of fs gs p.1 rest p.3 in (q.0, (p.0, p.1, p.2, q.1), q.2)
parts_of (I32 z ∷ fs) gs bytes rest p = let q = parts_of fs gs p.1 rest p.3 in (q.0, (p.0, p.1, p.2, q.1), q.2)
parts_of (Unread k ∷ fs) gs bytes rest p = let q = parts_of fs gs p.1 rest p.4 in (q.0, (p.0, p.1, p.2, p.3, q.1), q.2)
parts_of (Name x ∷ fs) gs bytes rest p = let q = parts_of fs gs p.1 rest p.3 in (q.0, (p.0, p.1, p.2, q.1), q.2)
parts_of (Target x ∷ fs) gs bytes rest p = let q = parts_of fs gs p.1 rest p.3 in (q.0, (p.0, p.1, p.2, q.1), q.2)

-- fields, and behind them others
pub then_fields : (fs gs : List Field) (bytes between rest : List ℕ) → BeginsWith bytes fs between → BeginsWith between gs rest → BeginsWith bytes (fs ++ gs) rest
then_fields [] gs bytes between rest p q = rw p q
then_fields (U32 n ∷ fs) gs bytes between rest p q = (p.0, p.1, p.2, then_fields fs gs p.1 between rest p.3 q)
then_fields (U64 n ∷ fs) gs bytes between rest p q = (p.0, p.1, p.2, then_fields fs gs p.1 between rest p.3 q)
then_fields (I32 z ∷ fs) gs bytes between rest p q = (p.0, p.1, p.2, then_fields fs gs p.1 between rest p.3 q)
then_fields (Unread k ∷ fs) gs bytes between rest p q = (p.0, p.1, p.2, p.3, then_fields fs gs p.1 between rest p.4 q)
then_fields (Name x ∷ fs) gs bytes between rest p q = (p.0, p.1, p.2, then_fields fs gs p.1 between rest p.3 q)
then_fields (Target x ∷ fs) gs bytes between rest p q = (p.0, p.1, p.2, then_fields fs gs p.1 between rest p.3 q)

-- what stands behind fields that were read begins with the fields that follow
pub behind : (fs hs gs : List Field) (bytes between rest : List ℕ) → Alike hs fs → BeginsWith bytes hs between → BeginsWith bytes (fs ++ gs) rest → (hs ≡ fs) × BeginsWith between gs rest
behind fs hs gs bytes between rest alike p q =
    let parts = parts_of fs gs bytes rest q in
    let one = fields-one hs fs bytes between parts.0 alike p parts.1 in
    (one.0, rw one.1 parts.2)

-- fields stand in so many bytes, and the rest behind them
pub front-of : (fs : List Field) (bytes rest : List ℕ) → BeginsWith bytes fs rest → (front : List ℕ) × (length front ≡ byte_count fs) × (bytes ≡ front ++ rest)
front-of [] bytes rest p = ([], refl, p)
front-of (U32 n ∷ fs) bytes rest p =
    let q = front-of fs p.1 rest p.3 in (le32 n ++ q.0, omega (arith, length-append (le32 n) q.0, length-le32 n, q.1), p.2 ∙ ap (λ (x : List ℕ). le32 n ++ x) q.2 ∙ sym (append_assoc (le32 n) q.0 rest))
front-of (U64 n ∷ fs) bytes rest p =
    let q = front-of fs p.1 rest p.3 in (le64 n ++ q.0, omega (arith, length-append (le64 n) q.0, length-le64 n, q.1), p.2 ∙ ap (λ (x : List ℕ). le64 n ++ x) q.2 ∙ sym (append_assoc (le64 n) q.0 rest))
front-of (I32 z ∷ fs) bytes rest p =
    let word = le32 (cast_unsigned w32 z) in
    let q = front-of fs p.1 rest p.3 in (word ++ q.0, omega (arith, length-append word q.0, length-le32 (cast_unsigned w32 z), q.1), p.2 ∙ ap (λ (x : List ℕ). word ++ x) q.2 ∙ sym (append_assoc word q.0 rest))
front-of (Unread k ∷ fs) bytes rest p =
    let q = front-of fs p.1 rest p.4 in (p.0 ++ q.0, omega (arith, length-append p.0 q.0, p.2, q.1), p.3 ∙ ap (λ (x : List ℕ). p.0 ++ x) q.2 ∙ sym (append_assoc p.0 q.0 rest))
front-of (Name x ∷ fs) bytes rest p =
    let q = front-of fs p.1 rest p.3 in (x ++ 0 ∷ q.0, omega (arith, length-append x (0 ∷ q.0), q.1), p.2 ∙ ap (λ (y : List ℕ). x ++ 0 ∷ y) q.2 ∙ sym (append_assoc x (0 ∷ q.0) rest))
front-of (Target x ∷ fs) bytes rest p =
    let q = front-of fs p.1 rest p.3 in (x ++ 0 ∷ q.0, omega (arith, length-append x (0 ∷ q.0), q.1), p.2 ∙ ap (λ (y : List ℕ). x ++ 0 ∷ y) q.2 ∙ sym (append_assoc x (0 ∷ q.0) rest))

-- what stands behind fields of one size is one
pub rest-one : (fs gs : List Field) (bytes r s : List ℕ) → byte_count fs ≡ byte_count gs → BeginsWith bytes fs r → BeginsWith bytes gs s → r ≡ s
rest-one fs gs bytes r s sized p q =
    let x = front-of fs bytes r p in
    let y = front-of gs bytes s q in
    (one_front x.0 y.0 r s (x.1 ∙ sized ∙ sym y.1) (sym x.2 ∙ y.2)).1
