-- Bytes hold one list of directory entries, and which it is.
use Rattle.std.proofs.Common.{◌≡◌, ◌==◌, ℕ, zero, suc, ◌+◌, ◌-◌, ◌*◌, ◌%◌, ◌^◌, ◌<◌, ◌≤◌, Bool, true, false, not, ◌&&◌, nat_le, get_or, List, [], ◌∷◌, ◌++◌, length, take, drop, Option, Some, None, refl, sym, ap, ◌∙◌, arith, append_assoc}
use Rattle.std.specs.Prelude.{MatchOption}
use Rattle.std.specs.List.{list_all}
use Rattle.std.specs.Option.{option_map_or}
use Rattle.fa_bodies.specs.Names.{IsNameByte}
use Rattle.std.specs.Int.{w32, cast_unsigned}
use Rattle.std.proofs.lemmas.List.{take_at, drop_at, length-append, length-drop, drop-drop, length-take-le, take-append-drop}
use Rattle.std.proofs.lemmas.Bool.{and_parts, and_from, not-true, eqb-false, ne_eqb, leb-true, leb-false, le-leb, cond_both, true≢false, false≢true}
use Rattle.std.proofs.lemmas.List.Sums.{AllPass-from_list_all, list_all-from_AllPass}
use Rattle.fa_capture.proofs.CallerLemmas.{one_front}
use Rattle.fa_bodies.specs.declared.dirent.DirentHead.{DirentHead}
use Rattle.fa_bodies.specs.declared.entry.EntryOut.{EntryOut}
use Rattle.fa_bodies.specs.declared.names.TheConstants.{MAX_NAME}
use Rattle.fa_bodies.specs.Fields.{Field, BeginsWith, byte_count, le32, le64}
use Rattle.fa_bodies.specs.Fields.Field.{U32, U64, I32, Unread, Name, Target}
use Rattle.fa_bodies.specs.Structs.{dirent_head, attr, entry_out}
use Rattle.fa_bodies.specs.Names.{IsFilename}
use Rattle.fa_bodies.specs.Dirents.{PlainDirent, HasEntry, IsPaddedName, IsDirent, AreEntries, HasNoDirent, HoldsEntries}
use Rattle.fa_bodies.specs.Listing.{u32_in, u64_in, attributes_in, entry_out_in, is_listed_name, padded, first_dirent, first_entry, first_entries, entries_in}
use Rattle.fa_bodies.proofs.FieldLaws.{IsBytes, u32_parts, length-fields, fields-one, then_fields}
use Rattle.fa_bodies.proofs.StructLaws.{entry-one}
use Rattle.fa_bodies.proofs.ItemLaws.{byte_in, u64_begins, IsBytes-drop}

-- ---- numbers

-- any four bytes are a number
pub u32_begins : (bytes : List ℕ) → IsBytes bytes → 4 ≤ length bytes → (u32_in bytes < 2 ^ 32) × (bytes ≡ le32 (u32_in bytes) ++ drop 4 bytes)
u32_begins bytes fits len =
    let at = byte_in 4 bytes fits in (
      omega (arith, at 0 (omega arith), at 1 (omega arith), at 2 (omega arith), at 3 (omega arith)),
      u32_parts bytes (u32_in bytes) fits len (omega arith),
    )

-- ---- fields at the front of bytes

-- numbers and unread bytes, but no names
abbrev pub IsNumbers : List Field → Type 0
IsNumbers [] = Unit {0}
IsNumbers (U32 n ∷ fields) = IsNumbers fields
IsNumbers (U64 n ∷ fields) = IsNumbers fields
IsNumbers (Unread count ∷ fields) = IsNumbers fields
IsNumbers _ = ⊥

-- the fields with the values that stand in the bytes from a place on
abbrev pub values_at : ℕ → List Field → List ℕ → List Field
values_at k [] bytes = []
values_at k (U32 n ∷ fields) bytes = U32 (u32_in (drop k bytes)) ∷ values_at (k + 4) fields bytes
values_at k (U64 n ∷ fields) bytes = U64 (u64_in (drop k bytes)) ∷ values_at (k + 8) fields bytes
values_at k (Unread count ∷ fields) bytes = Unread count ∷ values_at (k + count) fields bytes
values_at k (other ∷ fields) bytes = other ∷ values_at k fields bytes

-- long enough bytes begin with the fields
pub values-begin : (fs : List Field) (k end : ℕ) (bytes : List ℕ) → IsNumbers fs → IsBytes bytes → k + byte_count fs ≡ end → end ≤ length bytes → BeginsWith (drop k bytes) (values_at k fs bytes) (drop end bytes)
values-begin [] k end bytes numbers fits is_end len = ap (λ (n : ℕ). drop n bytes) (omega arith)
values-begin (U32 n ∷ fs) k end bytes numbers fits is_end len =
    let here = u32_begins (drop k bytes) (IsBytes-drop k bytes fits) (omega (arith, length-drop k bytes)) in
    (here.0, drop 4 (drop k bytes), here.1, rw (drop-drop 4 k bytes) (values-begin fs (k + 4) end bytes numbers fits (omega arith) len))
values-begin (U64 n ∷ fs) k end bytes numbers fits is_end len =
    let here = u64_begins (drop k bytes) (IsBytes-drop k bytes fits) (omega (arith, length-drop k bytes)) in
    (here.0, drop 8 (drop k bytes), here.1, rw (drop-drop 8 k bytes) (values-begin fs (k + 8) end bytes numbers fits (omega arith) len))
values-begin (Unread count ∷ fs) k end bytes numbers fits is_end len =
    let room : count ≤ length (drop k bytes) = omega (arith, length-drop k bytes) in (
      take count (drop k bytes),
      drop count (drop k bytes),
      length-take-le count (drop k bytes) room,
      sym (take-append-drop count (drop k bytes)),
      rw (drop-drop count k bytes) (values-begin fs (k + count) end bytes numbers fits (omega arith) len),
    )
values-begin (I32 z ∷ fs) k end bytes numbers fits is_end len = absurd numbers
values-begin (Name x ∷ fs) k end bytes numbers fits is_end len = absurd numbers
values-begin (Target x ∷ fs) k end bytes numbers fits is_end len = absurd numbers

-- any 88 bytes are attributes
pub attributes_begin : (bytes : List ℕ) → IsBytes bytes → 88 ≤ length bytes → BeginsWith bytes (attr (attributes_in bytes)) (drop 88 bytes)
unfolding attributes_in
attributes_begin bytes fits len = values-begin (attr (attributes_in bytes)) 0 88 bytes tt fits refl len

-- any 128 bytes are an entry_out
pub entry_out_begins : (bytes : List ℕ) → IsBytes bytes → 128 ≤ length bytes → BeginsWith bytes (entry_out (entry_out_in bytes)) (drop 128 bytes)
unfolding entry_out_in
entry_out_begins bytes fits len =
    let numbers : List Field = U64 0 ∷ U64 0 ∷ U64 0 ∷ U64 0 ∷ U32 0 ∷ U32 0 ∷ [] in
    let behind = attributes_begin (drop 40 bytes) (IsBytes-drop 40 bytes fits) (omega (arith, length-drop 40 bytes)) in
    let rest : BeginsWith (drop 40 bytes) (attr (attributes_in (drop 40 bytes))) (drop 128 bytes) = rw (drop-drop 88 40 bytes) at behind in
    then_fields (values_at 0 numbers bytes) (attr (attributes_in (drop 40 bytes))) bytes (drop 40 bytes) (drop 128 bytes) (values-begin numbers 0 40 bytes tt fits refl (omega arith)) rest

-- any 24 bytes are the head of a directory entry
head_begins : (bytes : List ℕ) → IsBytes bytes → 24 ≤ length bytes → BeginsWith bytes (dirent_head (u64_in bytes) (u64_in (drop 8 bytes)) (u32_in (drop 16 bytes)) (u32_in (drop 20 bytes))) (drop 24 bytes)
head_begins bytes fits len = values-begin (dirent_head 0 0 0 0) 0 24 bytes tt fits refl len

-- ---- bytes have one reading

pub HasEntry-one : (plus : Bool) (bytes : List ℕ) (a b : Option EntryOut) (r s : List ℕ) → HasEntry plus bytes a r → HasEntry plus bytes b s → (a ≡ b) × (r ≡ s)
HasEntry-one true bytes (Some a) (Some b) r s p q =
    (ap Some (entry-one a b bytes r s p q), (fields-one (entry_out a) (entry_out b) bytes r s (refl, tt) p q).1)
HasEntry-one true bytes (Some a) None r s p q = absurd q
HasEntry-one true bytes None b r s p q = absurd p
HasEntry-one false bytes (Some a) b r s p q = absurd p
HasEntry-one false bytes None (Some b) r s p q = absurd q
HasEntry-one false bytes None None r s p q = (refl, sym p ∙ q)

-- the head of a directory entry
pub head-one : (i o n k i' o' n' k' : ℕ) (bytes r s : List ℕ) → BeginsWith bytes (dirent_head i o n k) r → BeginsWith bytes (dirent_head i' o' n' k') s → (i ≡ i') × (o ≡ o') × (n ≡ n') × (k ≡ k') × (r ≡ s)
head-one i o n k i' o' n' k' bytes r s p q =
    let one = fields-one (dirent_head i o n k) (dirent_head i' o' n' k') bytes r s tt p q in
    let same : U64 i ∷ U64 o ∷ U32 n ∷ U32 k ∷ [] ≡ U64 i' ∷ U64 o' ∷ U32 n' ∷ U32 k' ∷ [] = one.0 in
    (cc, cc, cc, cc, one.1)

-- names of one length, with their padding
name-one : (bytes x y r s : List ℕ) → length x ≡ length y → IsPaddedName bytes x r → IsPaddedName bytes y s → (x ≡ y) × (r ≡ s)
name-one bytes x y r s len p q =
    let e : x ++ (p.padding ++ r) ≡ y ++ (q.padding ++ s) = sym (append_assoc x p.padding r) ∙ sym p.spelled ∙ q.spelled ∙ append_assoc y q.padding s in
    let names = one_front x y (p.padding ++ r) (q.padding ++ s) len e in
    let pads : length p.padding ≡ length q.padding = omega (arith, p.aligned, p.least, q.aligned, q.least, len) in
    (names.0, (one_front p.padding q.padding r s pads names.1).1)

-- a directory entry
pub dirent-one : (plus : Bool) (bytes : List ℕ) (a b : PlainDirent) (r s : List ℕ) → IsDirent plus bytes a r → IsDirent plus bytes b s → (a ≡ b) × (r ≡ s)
dirent-one plus bytes a b r s p q =
    let entries = HasEntry-one plus bytes a.entry b.entry p.behind_entry q.behind_entry p.entry q.entry in
    let q_head : BeginsWith p.behind_entry (dirent_head b.ino b.off (length b.name) b.kind) q.behind_head = rw entries.1 q.head in
    let heads = head-one a.ino a.off (length a.name) a.kind b.ino b.off (length b.name) b.kind p.behind_entry p.behind_head q.behind_head p.head q_head in
    let q_name : IsPaddedName p.behind_head b.name s = rw heads.4 q.name in
    let names = name-one p.behind_head a.name b.name r s heads.2 p.name q_name in
    let same : ◌≡◌ {A = PlainDirent} (record { ino = a.ino; off = a.off; kind = a.kind; name = a.name; entry = a.entry }) (record { ino = b.ino; off = b.off; kind = b.kind; name = b.name; entry = b.entry }) = rw (heads.0, heads.1, heads.3, names.0, entries.0) refl in
    (same, names.1)

-- a list of directory entries that ends before what is none
pub entries-one : (ds es : List PlainDirent) (plus : Bool) (bytes r s : List ℕ) → AreEntries plus bytes ds r → HasNoDirent plus r → AreEntries plus bytes es s → HasNoDirent plus s → (ds ≡ es) × (r ≡ s)
entries-one [] [] plus bytes r s p ended q none = (refl, sym p ∙ q)
entries-one [] (e ∷ es) plus bytes r s p ended q none = absurd (ended e q.0 (rw (sym p) q.1))
entries-one (d ∷ ds) [] plus bytes r s p ended q none = absurd (none d p.0 (rw (sym q) p.1))
entries-one (d ∷ ds) (e ∷ es) plus bytes r s p ended q none =
    let first = dirent-one plus bytes d e p.0 q.0 p.1 q.1 in
    let others = entries-one ds es plus p.0 r s p.2 ended (rw first.1 q.2) none in
    (rw (first.0, others.0) refl, others.1)

-- bytes hold at most one list of entries
pub holds-one : (plus : Bool) (bytes : List ℕ) (a b : List PlainDirent) → HoldsEntries plus bytes a → HoldsEntries plus bytes b → a ≡ b
holds-one plus bytes a b p q = (entries-one a b plus bytes p.0 q.0 p.1 p.2 q.1 q.2).0

-- ---- parts of a directory entry that are not there

-- without an entry_out there is nothing that READDIRPLUS puts before an entry
pub no-entry_out : (plus : Bool) (bytes : List ℕ) → plus ≡ true → ((e : EntryOut) (rest : List ℕ) → BeginsWith bytes (entry_out e) rest → ⊥) → (entry : Option EntryOut) (rest : List ℕ) → HasEntry plus bytes entry rest → ⊥
no-entry_out true bytes is none (Some entry) rest p = none entry rest p
no-entry_out true bytes is none None rest p = p
no-entry_out false bytes is none entry rest p = absurd (false≢true is)

-- and with one there is
pub with-entry_out : (plus : Bool) (bytes : List ℕ) (e : EntryOut) (rest : List ℕ) → plus ≡ true → BeginsWith bytes (entry_out e) rest → HasEntry plus bytes (Some e) rest
with-entry_out true bytes e rest is p = p
with-entry_out false bytes e rest is p = absurd (false≢true is)

-- without a head there is no entry
pub no-head : (plus : Bool) (bytes behind : List ℕ) (entry : Option EntryOut) → HasEntry plus bytes entry behind → ((h : DirentHead) (rest : List ℕ) → BeginsWith behind (dirent_head h.ino h.off h.namelen h.kind) rest → ⊥) → HasNoDirent plus bytes
no-head plus bytes behind entry has none d rest p =
    let one = HasEntry-one plus bytes entry d.entry behind p.behind_entry has p.entry in
    none (record { ino = d.ino; off = d.off; namelen = length d.name; kind = d.kind }) p.behind_head (rw one.1 p.head)

-- without a name there is no entry
pub no-name : (plus : Bool) (bytes behind after : List ℕ) (entry : Option EntryOut) (h : DirentHead) → HasEntry plus bytes entry behind → BeginsWith behind (dirent_head h.ino h.off h.namelen h.kind) after → ((name rest : List ℕ) → length name ≡ h.namelen → IsPaddedName after name rest → ⊥) → HasNoDirent plus bytes
no-name plus bytes behind after entry h has head none d rest p =
    let one = HasEntry-one plus bytes entry d.entry behind p.behind_entry has p.entry in
    let p_head : BeginsWith behind (dirent_head d.ino d.off (length d.name) d.kind) p.behind_head = rw one.1 p.head in
    let heads = head-one h.ino h.off h.namelen h.kind d.ino d.off (length d.name) d.kind behind after p.behind_head head p_head in
    none d.name rest (sym heads.2) (rw heads.4 p.name)

-- all parts are an entry
pub whole-dirent : (plus : Bool) (bytes behind after name rest : List ℕ) (entry : Option EntryOut) (h : DirentHead) → HasEntry plus bytes entry behind → BeginsWith behind (dirent_head h.ino h.off h.namelen h.kind) after → length name ≡ h.namelen → IsPaddedName after name rest → IsDirent plus bytes (record { ino = h.ino; off = h.off; kind = h.kind; name = name; entry = entry }) rest
whole-dirent plus bytes behind after name rest entry h has head counted padded_name =
    record { behind_entry = behind; behind_head = after; entry = has; head = rw counted head; name = padded_name }

-- ---- what stands behind is shorter, and bytes

behind-bytes : (front rest : List ℕ) → IsBytes (front ++ rest) → IsBytes rest
behind-bytes front rest fits = rw (sym (drop_at front rest (length front) refl)) (IsBytes-drop (length front) (front ++ rest) fits)

fields-bytes : (fs : List Field) (bytes rest : List ℕ) → BeginsWith bytes fs rest → IsBytes bytes → IsBytes rest
fields-bytes [] bytes rest p fits = rw (sym p) fits
fields-bytes (U32 n ∷ fs) bytes rest p fits = fields-bytes fs p.1 rest p.3 (behind-bytes (le32 n) p.1 (rw (sym p.2) fits))
fields-bytes (U64 n ∷ fs) bytes rest p fits = fields-bytes fs p.1 rest p.3 (behind-bytes (le64 n) p.1 (rw (sym p.2) fits))
fields-bytes (I32 z ∷ fs) bytes rest p fits = fields-bytes fs p.1 rest p.3 (behind-bytes (le32 (cast_unsigned w32 z)) p.1 (rw (sym p.2) fits))
fields-bytes (Unread count ∷ fs) bytes rest p fits = fields-bytes fs p.1 rest p.4 (behind-bytes p.0 p.1 (rw (sym p.3) fits))
fields-bytes (Name x ∷ fs) bytes rest p fits = fields-bytes fs p.1 rest p.3 (behind-bytes (x ++ 0 ∷ []) p.1 (rw (append_assoc x (0 ∷ []) p.1, sym p.2) fits))
fields-bytes (Target x ∷ fs) bytes rest p fits = fields-bytes fs p.1 rest p.3 (behind-bytes (x ++ 0 ∷ []) p.1 (rw (append_assoc x (0 ∷ []) p.1, sym p.2) fits))

HasEntry-bytes : (plus : Bool) (bytes : List ℕ) (entry : Option EntryOut) (rest : List ℕ) → HasEntry plus bytes entry rest → IsBytes bytes → IsBytes rest
HasEntry-bytes true bytes (Some entry) rest p fits = fields-bytes (entry_out entry) bytes rest p fits
HasEntry-bytes true bytes None rest p fits = absurd p
HasEntry-bytes false bytes (Some entry) rest p fits = absurd p
HasEntry-bytes false bytes None rest p fits = rw (sym p) fits

pub dirent-bytes : (plus : Bool) (bytes : List ℕ) (d : PlainDirent) (rest : List ℕ) → IsDirent plus bytes d rest → IsBytes bytes → IsBytes rest
dirent-bytes plus bytes d rest p fits =
    let behind_entry = HasEntry-bytes plus bytes d.entry p.behind_entry p.entry fits in
    let behind_head = fields-bytes (dirent_head d.ino d.off (length d.name) d.kind) p.behind_entry p.behind_head p.head behind_entry in
    behind-bytes (d.name ++ p.name.padding) rest (rw (sym p.name.spelled) behind_head)

length-HasEntry : (plus : Bool) (bytes : List ℕ) (entry : Option EntryOut) (rest : List ℕ) → HasEntry plus bytes entry rest → length rest ≤ length bytes
length-HasEntry true bytes (Some entry) rest p = omega (arith, length-fields (entry_out entry) bytes rest p)
length-HasEntry true bytes None rest p = absurd p
length-HasEntry false bytes (Some entry) rest p = absurd p
length-HasEntry false bytes None rest p = omega (arith, ap length p)

pub entry_room : (bytes : List ℕ) (entry : Option EntryOut) (rest : List ℕ) → HasEntry true bytes entry rest → 128 ≤ length bytes
entry_room bytes (Some entry) rest p = omega (arith, length-fields (entry_out entry) bytes rest p)
entry_room bytes None rest p = absurd p

-- an entry has 32 bytes or more
pub dirent-shorter : (plus : Bool) (bytes : List ℕ) (d : PlainDirent) (rest : List ℕ) → IsDirent plus bytes d rest → 32 + length rest ≤ length bytes
dirent-shorter plus bytes d rest p =
    omega (
      arith,
      length-HasEntry plus bytes d.entry p.behind_entry p.entry,
      length-fields (dirent_head d.ino d.off (length d.name) d.kind) p.behind_entry p.behind_head p.head,
      ap length p.name.spelled,
      length-append (d.name ++ p.name.padding) rest,
      length-append d.name p.name.padding,
      p.name.aligned,
      p.name.filename.not_empty,
    )

pub length-entries : (ds : List PlainDirent) (plus : Bool) (bytes rest : List ℕ) → AreEntries plus bytes ds rest → 32 * length ds + length rest ≤ length bytes
length-entries [] plus bytes rest p = omega (arith, ap length p)
length-entries (d ∷ ds) plus bytes rest p =
    omega (arith, dirent-shorter plus bytes d p.0 p.1, length-entries ds plus p.0 rest p.2)

-- no entry stands in no bytes
pub none-in_nil : (plus : Bool) → HasNoDirent plus []
none-in_nil plus d rest p = absurd (omega (arith, dirent-shorter plus [] d rest p))

-- ---- the test of a name

name_byte-from : (b : ℕ) → (not (b == 0) && not (b == 47)) ≡ true → IsNameByte b
name_byte-from b e =
    let parts = and_parts (not (b == 0)) (not (b == 47)) e in
    (eqb-false b 0 (not-true (b == 0) parts.0), eqb-false b 47 (not-true (b == 47) parts.1))

name_byte-test : (b : ℕ) → IsNameByte b → (not (b == 0) && not (b == 47)) ≡ true
name_byte-test b p =
    and_from (not (b == 0)) (not (b == 47)) (ap not (ne_eqb b 0 p.0)) (ap not (ne_eqb b 47 p.1))

listed-from : (name : List ℕ) → is_listed_name name ≡ true → IsFilename name
listed-from name e =
    let outer = and_parts (nat_le 1 (length name) && nat_le (length name) MAX_NAME) (list_all (λ b. not (b == 0) && not (b == 47)) name) e in
    let inner = and_parts (nat_le 1 (length name)) (nat_le (length name) MAX_NAME) outer.0 in
    let bytes = AllPass-from_list_all (λ b. not (b == 0) && not (b == 47)) name outer.1 in
    record {
      not_empty = leb-true 1 (length name) inner.0;
      not_too_long = leb-true (length name) MAX_NAME inner.1;
      each_byte = λ k d less. name_byte-from (get_or name k d) (bytes k d less);
    }

listed-test : (name : List ℕ) → IsFilename name → is_listed_name name ≡ true
listed-test name p =
    and_from (nat_le 1 (length name) && nat_le (length name) MAX_NAME) (list_all (λ b. not (b == 0) && not (b == 47)) name)
    (and_from (nat_le 1 (length name)) (nat_le (length name) MAX_NAME) (le-leb 1 (length name) p.not_empty) (le-leb (length name) MAX_NAME p.not_too_long))
    (list_all-from_AllPass (λ b. not (b == 0) && not (b == 47)) name (λ k d less. name_byte-test (get_or name k d) (p.each_byte k d less)))

-- ---- the entry that is computed

-- a dirent behind its entry_out
record IsBare (bytes : List ℕ) (d : PlainDirent) (rest : List ℕ) : Type 0 where
  pub behind_head : List ℕ
  pub head : BeginsWith bytes (dirent_head d.ino d.off (length d.name) d.kind) behind_head
  pub name : IsPaddedName behind_head d.name rest

-- a name and its padding, cut out of bytes
cut_name : (n : ℕ) (bytes : List ℕ) → padded n ≤ length bytes → IsFilename (take n bytes) → IsPaddedName bytes (take n bytes) (drop (padded n) bytes)
cut_name n bytes room rule =
    let pad = (8 - n % 8) % 8 in
    let behind : pad ≤ length (drop n bytes) = omega (arith, length-drop n bytes) in
    let size_name : length (take n bytes) ≡ n = length-take-le n bytes (omega arith) in
    let size_pad : length (take pad (drop n bytes)) ≡ pad = length-take-le pad (drop n bytes) behind in
    let split : drop n bytes ≡ take pad (drop n bytes) ++ drop (n + pad) bytes = sym (take-append-drop pad (drop n bytes)) ∙ ap (λ (x : List ℕ). take pad (drop n bytes) ++ x) (drop-drop pad n bytes) in
    record {
      padding = take pad (drop n bytes);
      spelled =
          sym (take-append-drop n bytes) ∙ ap (λ (x : List ℕ). take n bytes ++ x) split
          ∙ sym (append_assoc (take n bytes) (take pad (drop n bytes)) (drop (n + pad) bytes));
      filename = rule;
      aligned = rw (size_name, size_pad) (omega arith);
      least = rw size_pad (omega arith);
    }

-- where a dirent stands its test holds
bare-test : (bytes : List ℕ) (d : PlainDirent) (rest : List ℕ) → IsBytes bytes → IsBare bytes d rest → (nat_le (24 + padded (u32_in (drop 16 bytes))) (length bytes) && is_listed_name (take (u32_in (drop 16 bytes)) (drop 24 bytes))) ≡ true
bare-test bytes d rest fits p =
    let n = u32_in (drop 16 bytes) in
    let long = length-fields (dirent_head d.ino d.off (length d.name) d.kind) bytes p.behind_head p.head in
    let heads = head-one (u64_in bytes) (u64_in (drop 8 bytes)) n (u32_in (drop 20 bytes)) d.ino d.off (length d.name) d.kind bytes (drop 24 bytes) p.behind_head (head_begins bytes fits (omega (arith, long))) p.head in
    let spelled : p.behind_head ≡ d.name ++ (p.name.padding ++ rest) = p.name.spelled ∙ append_assoc d.name p.name.padding rest in
    let pad : (8 - length d.name % 8) % 8 ≡ length p.name.padding = omega (arith, p.name.aligned, p.name.least) in
    let inside : length p.behind_head ≡ length d.name + (length p.name.padding + length rest) = ap length spelled ∙ length-append d.name (p.name.padding ++ rest) ∙ ap (λ (k : ℕ). length d.name + k) (length-append p.name.padding rest) in
    let room : 24 + padded (length d.name) ≤ length bytes = omega (arith, long, inside, pad) in
    let name : take n (drop 24 bytes) ≡ d.name = rw (heads.2, heads.4) (ap (take (length d.name)) spelled ∙ take_at d.name (p.name.padding ++ rest) (length d.name) refl) in
    and_from (nat_le (24 + padded n) (length bytes)) (is_listed_name (take n (drop 24 bytes)))
    (le-leb (24 + padded n) (length bytes) (rw heads.2 room))
    (rw name (listed-test d.name p.name.filename))

-- a dirent is computed where one is
first_dirent-tells : (entry : Option EntryOut) (bytes : List ℕ) → IsBytes bytes → MatchOption (first_dirent entry bytes) ((d : PlainDirent) (rest : List ℕ) → IsBare bytes d rest → ⊥) (λ r. (r.0.entry ≡ entry) × IsBare bytes r.0 r.1)
unfolding first_dirent
first_dirent-tells entry bytes fits =
    let n = u32_in (drop 16 bytes) in
    let whole = 24 + padded n in
    let name = take n (drop 24 bytes) in
    cond_both (nat_le whole (length bytes) && is_listed_name name) _ None
    (λ o. MatchOption o ((d : PlainDirent) (rest : List ℕ) → IsBare bytes d rest → ⊥) (λ r. (r.0.entry ≡ entry) × IsBare bytes r.0 r.1))
    (λ yes.
    let parts = and_parts (nat_le whole (length bytes)) (is_listed_name name) yes in
    let room : whole ≤ length bytes = leb-true whole (length bytes) parts.0 in
    let size_name : length name ≡ n = length-take-le n (drop 24 bytes) (omega (arith, length-drop 24 bytes)) in
    let cut : IsPaddedName (drop 24 bytes) name (drop (padded n) (drop 24 bytes)) = cut_name n (drop 24 bytes) (omega (arith, length-drop 24 bytes)) (listed-from name parts.1) in
    (refl, record { behind_head = drop 24 bytes; head = rw size_name (head_begins bytes fits (omega arith)); name = rw (sym (drop-drop (padded n) 24 bytes)) cut }))
    (λ none d rest p. true≢false (sym (bare-test bytes d rest fits p) ∙ none))

-- what is told of an option, in other words
told : {X : Type 0} (o : Option X) (P Q : Type 0) (R S : X → Type 0) → (P → Q) → ((x : X) → R x → S x) → MatchOption o P R → MatchOption o Q S
told (Some x) P Q R S none some h = some x h
told None P Q R S none some h = none h

nothing_before : (bytes : List ℕ) (entry : Option EntryOut) (rest : List ℕ) → HasEntry false bytes entry rest → bytes ≡ rest
nothing_before bytes (Some entry) rest p = absurd p
nothing_before bytes None rest p = p

-- an entry is computed where one is
first_entry-tells : (plus : Bool) (bytes : List ℕ) → IsBytes bytes → MatchOption (first_entry plus bytes) (HasNoDirent plus bytes) (λ r. IsDirent plus bytes r.0 r.1)
unfolding first_entry
first_entry-tells false bytes fits =
    told (first_dirent None bytes) ((d : PlainDirent) (rest : List ℕ) → IsBare bytes d rest → ⊥) (HasNoDirent false bytes)
    (λ r. (r.0.entry ≡ None) × IsBare bytes r.0 r.1) (λ r. IsDirent false bytes r.0 r.1)
    (λ none d rest p. none d rest (record { behind_head = p.behind_head; head = rw (nothing_before bytes d.entry p.behind_entry p.entry) p.head; name = p.name }))
    (λ r p. record { behind_entry = bytes; behind_head = p.1.behind_head; entry = rw p.0 refl; head = p.1.head; name = p.1.name })
    (first_dirent-tells None bytes fits)
first_entry-tells true bytes fits =
    cond_both (nat_le 128 (length bytes)) (first_dirent (Some (entry_out_in bytes)) (drop 128 bytes)) None
    (λ o. MatchOption o (HasNoDirent true bytes) (λ r. IsDirent true bytes r.0 r.1))
    (λ yes.
    let has : HasEntry true bytes (Some (entry_out_in bytes)) (drop 128 bytes) = entry_out_begins bytes fits (leb-true 128 (length bytes) yes) in
    told (first_dirent (Some (entry_out_in bytes)) (drop 128 bytes)) ((d : PlainDirent) (rest : List ℕ) → IsBare (drop 128 bytes) d rest → ⊥) (HasNoDirent true bytes)
    (λ r. (r.0.entry ≡ Some (entry_out_in bytes)) × IsBare (drop 128 bytes) r.0 r.1) (λ r. IsDirent true bytes r.0 r.1)
    (λ none d rest p.
    let one = HasEntry-one true bytes (Some (entry_out_in bytes)) d.entry (drop 128 bytes) p.behind_entry has p.entry in
    none d rest (record { behind_head = p.behind_head; head = rw one.1 p.head; name = p.name }))
    (λ r p. record { behind_entry = drop 128 bytes; behind_head = p.1.behind_head; entry = rw p.0 has; head = p.1.head; name = p.1.name })
    (first_dirent-tells (Some (entry_out_in bytes)) (drop 128 bytes) (IsBytes-drop 128 bytes fits)))
    (λ short d rest p. absurd (omega (arith, entry_room bytes d.entry p.behind_entry p.entry, leb-false 128 (length bytes) short)))

-- ---- the list that is computed

-- the first entry, and those behind it
then_entries : (plus : Bool) (bytes : List ℕ) (behind : List ℕ → List PlainDirent) (first : Option (PlainDirent × List ℕ)) → MatchOption first (HasNoDirent plus bytes) (λ r. IsDirent plus bytes r.0 r.1) → ((d : PlainDirent) (rest : List ℕ) → IsDirent plus bytes d rest → HoldsEntries plus rest (behind rest)) → HoldsEntries plus bytes (option_map_or (λ found. found.0 ∷ behind found.1) first [])
then_entries plus bytes behind (Some (d, rest)) p others =
    let q = others d rest p in
    (q.0, (rest, p, q.1), q.2)
then_entries plus bytes behind None p others = (bytes, refl, p)

holds-first_entries : (count : ℕ) (plus : Bool) (bytes : List ℕ) → IsBytes bytes → length bytes ≤ count → HoldsEntries plus bytes (first_entries count plus bytes)
unfolding first_entries
holds-first_entries zero plus bytes fits len =
    (bytes, refl, λ d rest p. absurd (omega (arith, dirent-shorter plus bytes d rest p)))
holds-first_entries (suc count) plus bytes fits len =
    then_entries plus bytes (first_entries count plus) (first_entry plus bytes) (first_entry-tells plus bytes fits)
    (λ d rest p. holds-first_entries count plus rest (dirent-bytes plus bytes d rest p fits) (omega (arith, dirent-shorter plus bytes d rest p)))

-- the entries that bytes hold
pub holds-entries_in : (plus : Bool) (bytes : List ℕ) → IsBytes bytes → HoldsEntries plus bytes (entries_in plus bytes)
unfolding entries_in
holds-entries_in plus bytes fits = holds-first_entries (length bytes) plus bytes fits (omega arith)

-- behind the first entry stand the others
pub entries_in-begins : (plus : Bool) (d : PlainDirent) (bytes rest : List ℕ) → IsBytes bytes → IsDirent plus bytes d rest → entries_in plus bytes ≡ d ∷ entries_in plus rest
entries_in-begins plus d bytes rest fits p =
    let others = holds-entries_in plus rest (dirent-bytes plus bytes d rest p fits) in
    holds-one plus bytes (entries_in plus bytes) (d ∷ entries_in plus rest) (holds-entries_in plus bytes fits) (others.0, (rest, p, others.1), others.2)

-- ---- a walk over whole bytes

-- entries, and one more behind them
pub are-more : (ds : List PlainDirent) (d : PlainDirent) (plus : Bool) (bytes rest after : List ℕ) → AreEntries plus bytes ds rest → IsDirent plus rest d after → AreEntries plus bytes (ds ++ d ∷ []) after
are-more [] d plus bytes rest after p q = (after, rw p q, refl)
are-more (e ∷ ds) d plus bytes rest after p q = (p.0, p.1, are-more ds d plus p.0 rest after p.2 q)

-- a walk that ends before something has no whole list
pub whole-ends : (ds es : List PlainDirent) (plus : Bool) (bytes rest : List ℕ) → AreEntries plus bytes ds rest → HasNoDirent plus rest → AreEntries plus bytes es [] → rest ≡ []
whole-ends ds es plus bytes rest p none q = (entries-one ds es plus bytes rest [] p none q (none-in_nil plus)).1

-- whole entries are those that the bytes hold
pub whole-entries : (plus : Bool) (bytes : List ℕ) (ds : List PlainDirent) → AreEntries plus bytes ds [] → HoldsEntries plus bytes ds
whole-entries plus bytes ds are = ([], are, none-in_nil plus)
