-- Bytes that are directory entries as a whole: what is read of them without a test, and how they are cut out of longer ones.
use Rattle.std.proofs.Common.{◌≡◌, ℕ, ◌+◌, ◌-◌, ◌%◌, ◌≤◌, Bool, true, false, List, [], ◌∷◌, ◌++◌, length, take, Option, Some, None, refl, sym, ap, ◌∙◌, subst, arith, append_assoc}
use Rattle.std.proofs.Math.Logic.{∥∥₁_elim}
use Rattle.std.proofs.Props.{props}
use Rattle.std.proofs.lemmas.Bool.{false≢true}
use Rattle.std.proofs.lemmas.List.{nil_from_length, length-append, take_at}
use Rattle.std.specs.Int.{w32, cast_unsigned}
use Rattle.fa_capture.proofs.CallerLemmas.{one_front}
use Rattle.fa_bodies.specs.declared.dirent.DirentHead.{DirentHead}
use Rattle.fa_bodies.specs.declared.entry.EntryOut.{EntryOut}
use Rattle.fa_bodies.specs.Fields.{Field, BeginsWith, le32, le64}
use Rattle.fa_bodies.specs.Fields.Field.{U32, U64, I32, Unread, Name, Target}
use Rattle.fa_bodies.specs.Structs.{dirent_head, entry_out}
use Rattle.fa_bodies.specs.Dirents.{PlainDirent, HasEntry, IsPaddedName, IsDirent, AreEntries, HasNoDirent, HoldsEntries}
use Rattle.fa_bodies.specs.Listing.{entries_in, first_entries}
use Rattle.fa_bodies.proofs.FieldLaws.{IsBytes, length-fields}
use Rattle.fa_bodies.proofs.ListingLaws.{HasEntry-one, head-one, dirent-one, holds-one, whole-dirent, entry_room, holds-entries_in, entries_in-begins, whole-ends, whole-entries}

-- ---- entries that are known to be there

-- the entries that are computed are all of them
pub whole-known : (plus : Bool) (bytes : List ℕ) → IsBytes bytes → ∥ ((ds : List PlainDirent) × AreEntries plus bytes ds []) ∥₁ → AreEntries plus bytes (entries_in plus bytes) []
whole-known plus bytes fits known =
    let held = holds-entries_in plus bytes fits in
    let nothing : length held.0 ≡ 0 = ∥∥₁_elim known (hlevel props) (λ x. ap length (whole-ends (entries_in plus bytes) x.0 plus bytes held.0 held.1 held.2 x.1)) in
    subst (λ (rest : List ℕ). AreEntries plus bytes (entries_in plus bytes) rest) (nil_from_length held.0 nothing) held.1

-- the first of them, and that others stand behind it
first-of : (ds : List PlainDirent) (plus : Bool) (bytes : List ℕ) → 1 ≤ length bytes → AreEntries plus bytes ds [] → (d : PlainDirent) × (after : List ℕ) × IsDirent plus bytes d after × ((others : List PlainDirent) × AreEntries plus after others [])
first-of [] plus bytes some p = absurd (omega (arith, ap length p))
first-of (d ∷ ds) plus bytes some p = (d, p.0, p.1, (ds, p.2))

-- a READDIRPLUS has room for what it puts before an entry
plus_room : (plus : Bool) (bytes : List ℕ) (entry : Option EntryOut) (rest : List ℕ) → plus ≡ true → HasEntry plus bytes entry rest → 128 ≤ length bytes
plus_room true bytes entry rest is p = entry_room bytes entry rest p
plus_room false bytes entry rest is p = absurd (false≢true is)

module _ (plus : Bool) (bytes : List ℕ) (fits : IsBytes bytes) (known : ∥ ((ds : List PlainDirent) × AreEntries plus bytes ds []) ∥₁) (some : 1 ≤ length bytes) where
  first : (d : PlainDirent) × (after : List ℕ) × IsDirent plus bytes d after × ((others : List PlainDirent) × AreEntries plus after others [])
  first = first-of (entries_in plus bytes) plus bytes some (whole-known plus bytes fits known)

  -- what stands before it
  pub known_entry_room : plus ≡ true → 128 ≤ length bytes
  known_entry_room is = plus_room plus bytes first.0.entry first.2.behind_entry is first.2.entry

  module _ (behind : List ℕ) (entry : Option EntryOut) (has : HasEntry plus bytes entry behind) where
    behind_is : behind ≡ first.2.behind_entry
    behind_is = (HasEntry-one plus bytes entry first.0.entry behind first.2.behind_entry has first.2.entry).1

    -- its head
    pub known_head_room : 24 ≤ length behind
    known_head_room =
        omega (arith, ap length behind_is, length-fields (dirent_head first.0.ino first.0.off (length first.0.name) first.0.kind) first.2.behind_entry first.2.behind_head first.2.head)

    module _ (h : DirentHead) (after : List ℕ) (head : BeginsWith behind (dirent_head h.ino h.off h.namelen h.kind) after) where
      named : (name : List ℕ) × (rest : List ℕ) × (length name ≡ h.namelen) × IsPaddedName after name rest
      named =
          let here : BeginsWith behind (dirent_head first.0.ino first.0.off (length first.0.name) first.0.kind) first.2.behind_head = rw behind_is first.2.head in
          let heads = head-one h.ino h.off h.namelen h.kind first.0.ino first.0.off (length first.0.name) first.0.kind behind after first.2.behind_head head here in
          (first.0.name, first.1, sym heads.2, rw heads.4 first.2.name)

      parts : length after ≡ length named.0 + length named.3.padding + length named.1
      parts =
          omega (arith, ap length named.3.spelled, length-append (named.0 ++ named.3.padding) named.1, length-append named.0 named.3.padding)

      -- its name
      pub known_name_room : h.namelen ≤ length after
      known_name_room = omega (arith, parts, named.2)

      module _ (name behind_name : List ℕ) (cut : after ≡ name ++ behind_name) (counted : length name ≡ h.namelen) where
        -- the padding behind that
        pub known_padding_room : (8 - length name % 8) % 8 ≤ length behind_name
        known_padding_room =
            omega (arith, parts, named.2, counted, ap length cut, length-append name behind_name, named.3.aligned, named.3.least)

        -- these are the first entry, and others stand behind it
        pub known_dirent : (padding rest : List ℕ) → behind_name ≡ padding ++ rest → length padding ≡ (8 - length name % 8) % 8 → (entries_in plus bytes ≡ record { ino = h.ino; off = h.off; kind = h.kind; name = name; entry = entry } ∷ entries_in plus rest) × ∥ ((ds : List PlainDirent) × AreEntries plus rest ds []) ∥₁
        known_dirent padding rest cut_padding padded =
            let spelled : name ++ behind_name ≡ named.0 ++ (named.3.padding ++ named.1) = sym cut ∙ named.3.spelled ∙ append_assoc named.0 named.3.padding named.1 in
            let same : name ≡ named.0 = (one_front name named.0 behind_name (named.3.padding ++ named.1) (counted ∙ sym named.2) spelled).0 in
            let padded_name : IsPaddedName after name rest =
            record {
              padding = padding;
              spelled = cut ∙ ap (λ (x : List ℕ). name ++ x) cut_padding ∙ sym (append_assoc name padding rest);
              filename = rw same named.3.filename;
              aligned = omega (arith, padded);
              least = omega (arith, padded);
            } in
            let read : PlainDirent = record { ino = h.ino; off = h.off; kind = h.kind; name = name; entry = entry } in
            let is : IsDirent plus bytes read rest = whole-dirent plus bytes behind after name rest entry h has head counted padded_name in
            let one = dirent-one plus bytes read first.0 rest first.1 is first.2 in
            (entries_in-begins plus read bytes rest fits is, ∣ (first.3.0, rw one.1 first.3.1) ∣₁)

-- no bytes hold no entry
pub entries_in-nil : (plus : Bool) (bytes : List ℕ) → bytes ≡ [] → entries_in plus bytes ≡ []
unfolding entries_in first_entries
entries_in-nil plus bytes is = rw is refl

-- ---- entries that are cut off before other bytes

-- what stands behind fields may be anything
fields-cut : (fs : List Field) (bytes rest : List ℕ) → BeginsWith bytes fs rest → (front : List ℕ) × (bytes ≡ front ++ rest) × ((tail : List ℕ) → BeginsWith (front ++ tail) fs tail)
fields-cut [] bytes rest p = ([], p, λ tail. refl)
fields-cut (U32 n ∷ fs) bytes rest p =
    let others = fields-cut fs p.1 rest p.3 in (
      le32 n ++ others.0,
      p.2 ∙ ap (λ (x : List ℕ). le32 n ++ x) others.1 ∙ sym (append_assoc (le32 n) others.0 rest),
      λ tail. (p.0, others.0 ++ tail, append_assoc (le32 n) others.0 tail, others.2 tail),
    )
fields-cut (U64 n ∷ fs) bytes rest p =
    let others = fields-cut fs p.1 rest p.3 in (
      le64 n ++ others.0,
      p.2 ∙ ap (λ (x : List ℕ). le64 n ++ x) others.1 ∙ sym (append_assoc (le64 n) others.0 rest),
      λ tail. (p.0, others.0 ++ tail, append_assoc (le64 n) others.0 tail, others.2 tail),
    )
fields-cut (I32 z ∷ fs) bytes rest p =
    let bits = le32 (cast_unsigned w32 z) in
    let others = fields-cut fs p.1 rest p.3 in (
      bits ++ others.0,
      p.2 ∙ ap (λ (x : List ℕ). bits ++ x) others.1 ∙ sym (append_assoc bits others.0 rest),
      λ tail. (p.0, others.0 ++ tail, append_assoc bits others.0 tail, others.2 tail),
    )
fields-cut (Unread count ∷ fs) bytes rest p =
    let others = fields-cut fs p.1 rest p.4 in (
      p.0 ++ others.0,
      p.3 ∙ ap (λ (x : List ℕ). p.0 ++ x) others.1 ∙ sym (append_assoc p.0 others.0 rest),
      λ tail. (p.0, others.0 ++ tail, p.2, append_assoc p.0 others.0 tail, others.2 tail),
    )
fields-cut (Name name ∷ fs) bytes rest p =
    let others = fields-cut fs p.1 rest p.3 in (
      name ++ 0 ∷ others.0,
      p.2 ∙ ap (λ (x : List ℕ). name ++ 0 ∷ x) others.1 ∙ sym (append_assoc name (0 ∷ others.0) rest),
      λ tail. (p.0, others.0 ++ tail, append_assoc name (0 ∷ others.0) tail, others.2 tail),
    )
fields-cut (Target target ∷ fs) bytes rest p =
    let others = fields-cut fs p.1 rest p.3 in (
      target ++ 0 ∷ others.0,
      p.2 ∙ ap (λ (x : List ℕ). target ++ 0 ∷ x) others.1 ∙ sym (append_assoc target (0 ∷ others.0) rest),
      λ tail. (p.0, others.0 ++ tail, append_assoc target (0 ∷ others.0) tail, others.2 tail),
    )

entry-cut : (plus : Bool) (bytes : List ℕ) (entry : Option EntryOut) (rest : List ℕ) → HasEntry plus bytes entry rest → (front : List ℕ) × (bytes ≡ front ++ rest) × ((tail : List ℕ) → HasEntry plus (front ++ tail) entry tail)
entry-cut true bytes (Some entry) rest p = fields-cut (entry_out entry) bytes rest p
entry-cut true bytes None rest p = absurd p
entry-cut false bytes (Some entry) rest p = absurd p
entry-cut false bytes None rest p = ([], p, λ tail. refl)

-- nor does a directory entry tell what stands behind it
dirent-cut : (plus : Bool) (bytes : List ℕ) (d : PlainDirent) (rest : List ℕ) → IsDirent plus bytes d rest → (front : List ℕ) × (bytes ≡ front ++ rest) × ((tail : List ℕ) → IsDirent plus (front ++ tail) d tail)
dirent-cut plus bytes d rest p =
    let before = entry-cut plus bytes d.entry p.behind_entry p.entry in
    let head = fields-cut (dirent_head d.ino d.off (length d.name) d.kind) p.behind_entry p.behind_head p.head in
    let name = d.name ++ p.name.padding in
    let spread : (tail : List ℕ) → (before.0 ++ (head.0 ++ name)) ++ tail ≡ before.0 ++ (head.0 ++ (name ++ tail)) = λ tail. append_assoc before.0 (head.0 ++ name) tail ∙ ap (λ (x : List ℕ). before.0 ++ x) (append_assoc head.0 name tail) in (
      before.0 ++ (head.0 ++ name),
      before.1 ∙ ap (λ (x : List ℕ). before.0 ++ x) (head.1 ∙ ap (λ (x : List ℕ). head.0 ++ x) p.name.spelled) ∙ sym (spread rest),
      λ tail.
          record {
            behind_entry = head.0 ++ (name ++ tail);
            behind_head = name ++ tail;
            entry = rw (spread tail) (before.2 (head.0 ++ (name ++ tail)));
            head = head.2 (name ++ tail);
            name = record { padding = p.name.padding; spelled = refl; filename = p.name.filename; aligned = p.name.aligned; least = p.name.least };
          },
    )

entries-cut : (ds : List PlainDirent) (plus : Bool) (bytes rest : List ℕ) → AreEntries plus bytes ds rest → (front : List ℕ) × (bytes ≡ front ++ rest) × AreEntries plus front ds []
entries-cut [] plus bytes rest p = ([], p, refl)
entries-cut (d ∷ ds) plus bytes rest p =
    let first = dirent-cut plus bytes d p.0 p.1 in
    let others = entries-cut ds plus p.0 rest p.2 in (
      first.0 ++ others.0,
      first.1 ∙ ap (λ (x : List ℕ). first.0 ++ x) others.1 ∙ sym (append_assoc first.0 others.0 rest),
      (others.0, first.2 others.0, others.2),
    )

-- the bytes before what stands behind entries are these as a whole
pub front-whole : (ds : List PlainDirent) (plus : Bool) (bytes rest : List ℕ) → AreEntries plus bytes ds rest → AreEntries plus (take (length bytes - length rest) bytes) ds []
front-whole ds plus bytes rest p =
    let x = entries-cut ds plus bytes rest p in
    let n = length bytes - length rest in
    let long : length x.0 ≡ n = omega (arith, ap length x.1, length-append x.0 rest) in
    let same : take n bytes ≡ x.0 = ap (take n) x.1 ∙ take_at x.0 rest n long in
    subst (λ (front : List ℕ). AreEntries plus front ds []) (sym same) x.2

-- and whatever entries these are, they are those that the bytes hold
pub front-holds : (ds es : List PlainDirent) (plus : Bool) (bytes rest : List ℕ) → AreEntries plus bytes ds rest → HasNoDirent plus rest → AreEntries plus (take (length bytes - length rest) bytes) es [] → HoldsEntries plus bytes es
front-holds ds es plus bytes rest p none q =
    let front = take (length bytes - length rest) bytes in
    let same : ds ≡ es = holds-one plus front ds es (whole-entries plus front ds (front-whole ds plus bytes rest p)) (whole-entries plus front es q) in
    (rest, subst (λ (x : List PlainDirent). AreEntries plus bytes x rest) same p, none)
