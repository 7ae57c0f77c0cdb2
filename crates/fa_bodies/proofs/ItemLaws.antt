-- Bytes hold one list of items, and which it is.
use Rattle.std.proofs.Common.{subst, ◌≡◌, ℕ, zero, suc, ◌+◌, ◌*◌, ◌/◌, ◌^◌, ◌<◌, ◌≤◌, List, [], ◌∷◌, ◌++◌, length, get_or, take, drop, All, refl, sym, ap, ◌∙◌, arith, inl, inr}
use Rattle.std.proofs.lemmas.Bool.{cases_lt}
use Rattle.std.specs.Int.{w64, from_le_bytes}
use Rattle.std.proofs.lemmas.List.{nil_from_length, take_at, drop_at, length-drop, get_or-take, get_or-drop, get_or_past, drop-drop}
use Rattle.std.proofs.lemmas.Nat.{from_le_bytes-to_le_bytes_8}
use Rattle.fa_bodies.specs.Fields.{BeginsWith, le64}
use Rattle.fa_bodies.specs.ForgetOnes.{AreItems, HoldsItems}
use Rattle.fa_bodies.specs.Structs.{forget_one}
use Rattle.fa_bodies.specs.Items.{item_in, first_items, items_in}
use Rattle.fa_bodies.proofs.FieldLaws.{IsBytes, u64_parts, length-le64, length-fields}

-- a number is read from its spelling, and the bytes behind it follow
pub u64_in-le64 : (n : ℕ) (bytes after : List ℕ) → n < 2 ^ 64 → bytes ≡ le64 n ++ after → from_le_bytes w64 (take 8 bytes) ≡ n
unfolding le64
u64_in-le64 n bytes after fits e =
    ap (λ (x : List ℕ). from_le_bytes w64 (take 8 x)) e ∙ ap (from_le_bytes w64) (take_at (le64 n) after 8 (length-le64 n)) ∙ from_le_bytes-to_le_bytes_8 n fits

pub after-le64 : (n : ℕ) (bytes after : List ℕ) → bytes ≡ le64 n ++ after → drop 8 bytes ≡ after
after-le64 n bytes after e = ap (drop 8) e ∙ drop_at (le64 n) after 8 (length-le64 n)

-- a byte among the first of bytes
pub byte_in : (n : ℕ) (bytes : List ℕ) → IsBytes bytes → (i : ℕ) → i < n → get_or (take n bytes) i 0 < 256
byte_in n bytes fits i less = rw (get_or-take n bytes i 0 less) (fits i)

-- any eight bytes are a number
pub u64_begins : (bytes : List ℕ) → IsBytes bytes → 8 ≤ length bytes → (from_le_bytes w64 (take 8 bytes) < 2 ^ 64) × (bytes ≡ le64 (from_le_bytes w64 (take 8 bytes)) ++ drop 8 bytes)
u64_begins bytes fits len =
    let at = byte_in 8 bytes fits in (
      omega (arith, at 0 (omega arith), at 1 (omega arith), at 2 (omega arith), at 3 (omega arith), at 4 (omega arith), at 5 (omega arith), at 6 (omega arith), at 7 (omega arith)),
      u64_parts bytes (from_le_bytes w64 (take 8 bytes)) fits len (omega arith),
    )

-- what stands behind some bytes is bytes
pub IsBytes-drop : (n : ℕ) (bytes : List ℕ) → IsBytes bytes → IsBytes (drop n bytes)
IsBytes-drop n bytes fits i = rw (get_or-drop n bytes i 0) (fits (n + i))

-- where each byte is below 256, so is what is read past the end
pub each-IsBytes : (bytes : List ℕ) → All (λ b. b < 256) bytes → IsBytes bytes
each-IsBytes bytes each i =
    elim (cases_lt i (length bytes)) [
      | inl lt ↦ each i 0 lt
      | inr le ↦ rw (get_or_past bytes i 0 le) (omega arith)
    ]

-- ---- one item

-- 16 bytes begin with an item
pub item-begins : (bytes : List ℕ) → IsBytes bytes → 16 ≤ length bytes → BeginsWith bytes (forget_one (item_in bytes).0 (item_in bytes).1) (drop 16 bytes)
unfolding item_in
item-begins bytes fits len =
    let first = u64_begins bytes fits (omega arith) in
    let second = u64_begins (drop 8 bytes) (IsBytes-drop 8 bytes fits) (omega (arith, length-drop 8 bytes)) in
    (first.0, drop 8 bytes, first.1, (second.0, drop 8 (drop 8 bytes), second.1, drop-drop 8 8 bytes))

-- which item it is
pub item_in-begins : (item : ℕ × ℕ) (bytes rest : List ℕ) → BeginsWith bytes (forget_one item.0 item.1) rest → item_in bytes ≡ item
unfolding item_in
item_in-begins item bytes rest p =
    let first : from_le_bytes w64 (take 8 bytes) ≡ item.0 = u64_in-le64 item.0 bytes p.1 p.0 p.2 in
    let second : from_le_bytes w64 (take 8 (drop 8 bytes)) ≡ item.1 = rw (after-le64 item.0 bytes p.1 p.2) (u64_in-le64 item.1 p.1 p.3.1 p.3.0 p.3.2) in
    let parts : (from_le_bytes w64 (take 8 bytes), from_le_bytes w64 (take 8 (drop 8 bytes))) ≡ (item.0, item.1) = rw (first, second) refl in
    parts

-- and what stands behind it
pub drop-item : (item : ℕ × ℕ) (bytes rest : List ℕ) → BeginsWith bytes (forget_one item.0 item.1) rest → drop 16 bytes ≡ rest
drop-item item bytes rest p = sym (drop-drop 8 8 bytes) ∙ ap (drop 8) (after-le64 item.0 bytes p.1 p.2) ∙ after-le64 item.1 p.1 p.3.1 p.3.2 ∙ p.3.3

-- bytes begin with at most one item
pub item-one : (a b : ℕ × ℕ) (bytes r s : List ℕ) → BeginsWith bytes (forget_one a.0 a.1) r → BeginsWith bytes (forget_one b.0 b.1) s → (a ≡ b) × (r ≡ s)
item-one a b bytes r s p q =
    (sym (item_in-begins a bytes r p) ∙ item_in-begins b bytes s q, sym (drop-item a bytes r p) ∙ drop-item b bytes s q)

-- ---- the list of items

-- behind the first item stand the others
pub items_in-begins : (item : ℕ × ℕ) (bytes rest : List ℕ) → BeginsWith bytes (forget_one item.0 item.1) rest → items_in bytes ≡ item ∷ items_in rest
unfolding items_in first_items
items_in-begins item bytes rest p =
    let count : length bytes / 16 ≡ suc (length rest / 16) = omega (arith, length-fields (forget_one item.0 item.1) bytes rest p) in
    rw (count, item_in-begins item bytes rest p, drop-item item bytes rest p) refl

-- fewer than 16 bytes hold no item
pub items_in-short : (bytes : List ℕ) → length bytes < 16 → items_in bytes ≡ []
unfolding items_in first_items
items_in-short bytes short =
    let none : length bytes / 16 ≡ 0 = omega arith in
    rw none refl

are_first : (count : ℕ) (bytes : List ℕ) → IsBytes bytes → 16 * count ≤ length bytes → (rest : List ℕ) × AreItems bytes (first_items count bytes) rest × (length rest + 16 * count ≡ length bytes)
unfolding first_items
are_first zero bytes fits len = (bytes, refl, omega arith)
are_first (suc count) bytes fits len =
    let others = are_first count (drop 16 bytes) (IsBytes-drop 16 bytes fits) (omega (arith, length-drop 16 bytes)) in
    (others.0, (drop 16 bytes, item-begins bytes fits (omega arith), others.1), omega (arith, length-drop 16 bytes, others.2))

-- the items that bytes hold
pub holds-items_in : (bytes : List ℕ) → IsBytes bytes → HoldsItems bytes (items_in bytes)
unfolding items_in
holds-items_in bytes fits =
    let found = are_first (length bytes / 16) bytes fits (omega arith) in
    (found.0, found.1, omega (arith, found.2))

-- a list of items that bytes hold is the one that is computed
pub items_in-holds : (items : List (ℕ × ℕ)) (bytes : List ℕ) → HoldsItems bytes items → items_in bytes ≡ items
items_in-holds [] bytes (rest, e, short) = items_in-short bytes (rw e short)
items_in-holds (item ∷ items) bytes (rest, p, short) =
    items_in-begins item bytes p.0 p.1 ∙ ap (λ (x : List (ℕ × ℕ)). item ∷ x) (items_in-holds items p.0 (rest, p.2, short))

-- bytes hold at most one list of items
pub items-one : (bytes : List ℕ) (a b : List (ℕ × ℕ)) → HoldsItems bytes a → HoldsItems bytes b → a ≡ b
items-one bytes a b p q = sym (items_in-holds a bytes p) ∙ items_in-holds b bytes q

-- each item has 16 bytes
pub length-items : (items : List (ℕ × ℕ)) (bytes rest : List ℕ) → AreItems bytes items rest → length bytes ≡ 16 * length items + length rest
length-items [] bytes rest p = omega (arith, ap length p)
length-items (item ∷ items) bytes rest p =
    omega (arith, length-fields (forget_one item.0 item.1) bytes p.0 p.1, length-items items p.0 rest p.2)

-- bytes with room for so many items hold so many
pub counted-items : (count : ℕ) (bytes : List ℕ) (items : List (ℕ × ℕ)) → length bytes ≡ 16 * count → HoldsItems bytes items → (length items ≡ count) × AreItems bytes items []
counted-items count bytes items long held =
    let whole = length-items items bytes held.0 held.1 in
    let nothing : held.0 ≡ [] = nil_from_length held.0 (omega (arith, long, whole, held.2)) in
    (omega (arith, long, whole, held.2), subst (λ (rest : List ℕ). AreItems bytes items rest) nothing held.1)
