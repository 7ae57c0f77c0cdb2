-- What structs say that are read when they are asked for.
use Rattle.std.proofs.Common.{◌≡◌, ℕ, ◌<◌, ◌≤◌, ◌^◌, List, [], ◌∷◌, ◌++◌, length, take, drop, refl, sym, ap, ◌∙◌, subst, arith}
use Rattle.std.specs.Int.{w32, from_le_bytes}
use Rattle.std.proofs.lemmas.List.{take_at, drop_at, length-drop, drop-drop, nil_from_length}
use Rattle.std.proofs.lemmas.Nat.{from_le_bytes-to_le_bytes_4}
use Rattle.fa_bodies.specs.declared.attributes.AttrOut.{AttrOut}
use Rattle.fa_bodies.specs.declared.attributes.Attributes.{Attributes}
use Rattle.fa_bodies.specs.declared.entry.EntryOut.{EntryOut}
use Rattle.fa_bodies.specs.declared.flags.FattrFlags.{FattrFlags}
use Rattle.fa_bodies.specs.declared.mode.Mode.{Mode}
use Rattle.fa_bodies.specs.declared.setattr.SetattrIn.{SetattrIn}
use Rattle.fa_bodies.specs.Fields.{Field, BeginsWith, IsSpelled, le32, le64}
use Rattle.fa_bodies.specs.Fields.Field.{U32, U64, Unread}
use Rattle.fa_bodies.specs.Structs.{attr, attr_out, entry_out, setattr_in}
use Rattle.fa_bodies.specs.Listing.{u32_in, u64_in, attributes_in, entry_out_in}
use Rattle.fa_bodies.specs.Views.{attr_out_in, setattr_in_in}
use Rattle.fa_bodies.proofs.FieldLaws.{IsBytes, then_fields, length-le32}
use Rattle.fa_bodies.proofs.StructLaws.{entry-one, attr-one, attr_out-one, setattr_in-one}
use Rattle.fa_bodies.proofs.ItemLaws.{IsBytes-drop, u64_in-le64}
use Rattle.fa_bodies.proofs.ListingLaws.{values_at, values-begin, attributes_begin, entry_out_begins}

-- any 104 bytes are an attr_out
attr_out_begins : (bytes : List ℕ) → IsBytes bytes → 104 ≤ length bytes → BeginsWith bytes (attr_out (attr_out_in bytes)) (drop 104 bytes)
unfolding attr_out_in
attr_out_begins bytes fits len =
    let numbers : List Field = U64 0 ∷ U32 0 ∷ Unread 4 ∷ [] in
    let behind = attributes_begin (drop 16 bytes) (IsBytes-drop 16 bytes fits) (omega (arith, length-drop 16 bytes)) in
    let rest : BeginsWith (drop 16 bytes) (attr (attributes_in (drop 16 bytes))) (drop 104 bytes) = rw (drop-drop 88 16 bytes) at behind in
    then_fields (values_at 0 numbers bytes) (attr (attributes_in (drop 16 bytes))) bytes (drop 16 bytes) (drop 104 bytes) (values-begin numbers 0 16 bytes tt fits refl (omega arith)) rest

-- any 88 bytes are a setattr_in
setattr_in_begins : (bytes : List ℕ) → IsBytes bytes → 88 ≤ length bytes → BeginsWith bytes (setattr_in (setattr_in_in bytes)) (drop 88 bytes)
unfolding setattr_in_in
setattr_in_begins bytes fits len = values-begin (setattr_in (setattr_in_in bytes)) 0 88 bytes tt fits refl len

-- what was read of bytes is what they say
pub entry_read : (e : EntryOut) (bytes rest : List ℕ) → IsBytes bytes → 128 ≤ length bytes → BeginsWith bytes (entry_out e) rest → e ≡ entry_out_in bytes
entry_read e bytes rest fits len is = entry-one e (entry_out_in bytes) bytes rest (drop 128 bytes) is (entry_out_begins bytes fits len)

pub attr_read : (a : AttrOut) (bytes rest : List ℕ) → IsBytes bytes → 104 ≤ length bytes → BeginsWith bytes (attr_out a) rest → a ≡ attr_out_in bytes
attr_read a bytes rest fits len is = attr_out-one a (attr_out_in bytes) bytes rest (drop 104 bytes) is (attr_out_begins bytes fits len)

pub attributes_read : (a : Attributes) (bytes rest : List ℕ) → IsBytes bytes → 88 ≤ length bytes → BeginsWith bytes (attr a) rest → a ≡ attributes_in bytes
attributes_read a bytes rest fits len is = attr-one a (attributes_in bytes) bytes rest (drop 88 bytes) is (attributes_begin bytes fits len)

pub setattr_read : (s : SetattrIn) (bytes rest : List ℕ) → IsBytes bytes → 88 ≤ length bytes → BeginsWith bytes (setattr_in s) rest → s ≡ setattr_in_in bytes
setattr_read s bytes rest fits len is = setattr_in-one s (setattr_in_in bytes) bytes rest (drop 88 bytes) is (setattr_in_begins bytes fits len)

-- bytes that are as many as a struct has are one as a whole, and others are none

-- nothing stands behind all of them
ends : (n : ℕ) (bytes : List ℕ) → length bytes ≡ n → drop n bytes ≡ []
ends n bytes long = nil_from_length (drop n bytes) (omega (arith, length-drop n bytes, long))

pub entry_whole : (bytes : List ℕ) → IsBytes bytes → length bytes ≡ 128 → IsSpelled bytes (entry_out (entry_out_in bytes))
entry_whole bytes fits long =
    subst (λ (r : List ℕ). BeginsWith bytes (entry_out (entry_out_in bytes)) r) (ends 128 bytes long) (entry_out_begins bytes fits (omega (arith, long)))

pub attr_whole : (bytes : List ℕ) → IsBytes bytes → length bytes ≡ 104 → IsSpelled bytes (attr_out (attr_out_in bytes))
attr_whole bytes fits long =
    subst (λ (r : List ℕ). BeginsWith bytes (attr_out (attr_out_in bytes)) r) (ends 104 bytes long) (attr_out_begins bytes fits (omega (arith, long)))

pub setattr_whole : (bytes : List ℕ) → IsBytes bytes → length bytes ≡ 88 → IsSpelled bytes (setattr_in (setattr_in_in bytes))
setattr_whole bytes fits long =
    subst (λ (r : List ℕ). BeginsWith bytes (setattr_in (setattr_in_in bytes)) r) (ends 88 bytes long) (setattr_in_begins bytes fits (omega (arith, long)))

-- single fields at the front of bytes

pub u64_said : (n : ℕ) (bytes after : List ℕ) → n < 2 ^ 64 → bytes ≡ le64 n ++ after → n ≡ u64_in bytes
u64_said n bytes after below is = sym (u64_in-le64 n bytes after below is)

pub u32_said : (n : ℕ) (bytes after : List ℕ) → n < 2 ^ 32 → bytes ≡ le32 n ++ after → n ≡ u32_in bytes
unfolding le32
u32_said n bytes after below is =
    sym (ap (λ (x : List ℕ). from_le_bytes w32 (take 4 x)) is ∙ ap (from_le_bytes w32) (take_at (le32 n) after 4 (length-le32 n)) ∙ from_le_bytes-to_le_bytes_4 n below)

-- what stands behind skipped bytes
pub behind_skipped : (n : ℕ) (bytes rest : List ℕ) → ((skipped : List ℕ) × (length skipped ≡ n) × (bytes ≡ skipped ++ rest)) → drop n bytes ≡ rest
behind_skipped n bytes rest is = ap (drop n) is.2 ∙ drop_at is.0 rest n is.1

-- where single fields stand
pub nodeid_in : (bytes : List ℕ) → (entry_out_in bytes).nodeid ≡ u64_in bytes
unfolding entry_out_in
nodeid_in bytes = refl

pub entry_attributes_in : (bytes : List ℕ) → (entry_out_in bytes).attr ≡ attributes_in (drop 40 bytes)
unfolding entry_out_in
entry_attributes_in bytes = refl

pub attr_attributes_in : (bytes : List ℕ) → (attr_out_in bytes).attr ≡ attributes_in (drop 16 bytes)
unfolding attr_out_in
attr_attributes_in bytes = refl

pub file_size_in : (bytes : List ℕ) → (attributes_in bytes).size ≡ u64_in (drop 8 bytes)
unfolding attributes_in
file_size_in bytes = refl

pub file_mode_in : (bytes : List ℕ) → (attributes_in bytes).mode.0 ≡ u32_in (drop 60 bytes)
unfolding attributes_in
file_mode_in bytes = refl

pub nlink_in : (bytes : List ℕ) → (attributes_in bytes).nlink ≡ u32_in (drop 64 bytes)
unfolding attributes_in
nlink_in bytes = refl

pub valid_in : (bytes : List ℕ) → (setattr_in_in bytes).valid.0 ≡ u32_in bytes
unfolding setattr_in_in
valid_in bytes = refl

pub fh_in : (bytes : List ℕ) → (setattr_in_in bytes).fh ≡ u64_in (drop 8 bytes)
unfolding setattr_in_in
fh_in bytes = refl

pub size_in : (bytes : List ℕ) → (setattr_in_in bytes).size ≡ u64_in (drop 16 bytes)
unfolding setattr_in_in
size_in bytes = refl

pub mode_in : (bytes : List ℕ) → (setattr_in_in bytes).mode.0 ≡ u32_in (drop 68 bytes)
unfolding setattr_in_in
mode_in bytes = refl

-- flags and modes are known by their bits
abbrev fattr_of : ℕ → FattrFlags
fattr_of bits = record { 0 = bits }

pub fattr-one : (a b : FattrFlags) → a.0 ≡ b.0 → a ≡ b
fattr-one a b is = ap fattr_of is

abbrev mode_of : ℕ → Mode
mode_of bits = record { 0 = bits }

pub mode-one : (a b : Mode) → a.0 ≡ b.0 → a ≡ b
mode-one a b is = ap mode_of is
