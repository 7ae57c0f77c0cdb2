-- The bytes of a file as they are read and written, and the pages that they are in.
use Rattle.std.proofs.Common.{◌≡◌, ◌↔◌, ℕ, ◌+◌, ◌-◌, ◌<◌, ◌≤◌, ◌/◌, ◌%◌, ◌⊎◌, ◌==◌, true, false, List, [], ◌++◌, length, replicate, take, drop, get_or, slice_get, min, max, Some, None, inl, inr, refl, sym, ap, ◌∙◌, arith, zero-add, length-append}
use Rattle.std.proofs.lemmas.List.{length-take, take-append-drop, length-replicate, length-drop, get_or-take, get_or-drop, get_or_past, get_or-replicate, get_or_append_left, get_or-append_right, ext_get_or}
use Rattle.std.proofs.lemmas.List.FromFn.{length-map-range_with_len, get_or-map-range_with_len}
use Rattle.std.proofs.lemmas.Option.{slice_get-get_or, slice_get_past}
use Rattle.std.proofs.lemmas.Bool.{cases_lt, cases_eq}
use Rattle.std.proofs.lemmas.Bool.Decides.{nat_tests}
use Rattle.fa_store.specs.Contents.{IsReadAs, filled, readable, resized, written}
use Rattle.fa_store.specs.parts.PageParts.{PagesShown, only_page, page_of, IsPart, with_part, page_at, byte_at, bytes_of, IsZeroFrom, SameBytes, IsStored, AreFrom, AreWritten, IsSet, IsGrown}
use Rattle.fa_store.proofs.PageLemmas.{only_here, only_others}

-- ---- the bytes in pages

pub length-bytes_of : (pages : ℕ → List ℕ) (len : ℕ) → length (bytes_of pages len) ≡ len
unfolding bytes_of
length-bytes_of pages len = length-map-range_with_len (λ i. byte_at pages i) 0 len

get_or-bytes_of : (pages : ℕ → List ℕ) (len i : ℕ) → i < len → get_or (bytes_of pages len) i 0 ≡ byte_at pages i
unfolding bytes_of
get_or-bytes_of pages len i within = get_or-map-range_with_len (λ k. byte_at pages k) 0 len i i 0 within (zero-add i)

-- any byte at all, where what is behind the end are zeros
bytes_at : (pages : ℕ → List ℕ) (len : ℕ) → IsZeroFrom pages len → (i : ℕ) → get_or (bytes_of pages len) i 0 ≡ byte_at pages i
bytes_at pages len zeros i = elim (cases_lt i len) [
  | inl within ↦ get_or-bytes_of pages len i within
  | inr behind ↦
      let size = length-bytes_of pages len in
      get_or_past (bytes_of pages len) i 0 (omega arith) ∙ sym (zeros i behind)
]

-- bytes that are the pages', one by one
bytes_are : (pages : ℕ → List ℕ) (len : ℕ) (bytes : List ℕ) → length bytes ≡ len
    → ((i : ℕ) → i < len → get_or bytes i 0 ≡ byte_at pages i) → bytes_of pages len ≡ bytes
bytes_are pages len bytes size each =
    let all = length-bytes_of pages len in
    ext_get_or 0 (bytes_of pages len) bytes (all ∙ sym size)
    (λ i within. let here : i < len = omega arith in get_or-bytes_of pages len i here ∙ sym (each i here))

pub byte_same : (now before : ℕ → List ℕ) → SameBytes now before → (i : ℕ) → byte_at now i ≡ byte_at before i
unfolding byte_at page_at
byte_same now before same i = same (i / 4096) (i % 4096)

pub bytes_same : (now before : ℕ → List ℕ) (len : ℕ) → SameBytes now before → bytes_of now len ≡ bytes_of before len
bytes_same now before len same =
    bytes_are now len (bytes_of before len) (length-bytes_of before len) (λ i within. get_or-bytes_of before len i within ∙ sym (byte_same now before same i))

-- ---- pages

pub bytes_none : (pages : ℕ → List ℕ) → bytes_of pages 0 ≡ []
unfolding bytes_of
bytes_none pages = refl

-- bytes in one page
page_in : (pages : ℕ → List ℕ) (i k : ℕ) → i / 4096 ≡ k → page_at pages i ≡ pages k
unfolding page_at
page_in pages i k here = ap pages here

page_same : (pages : ℕ → List ℕ) (i k : ℕ) → i / 4096 ≡ k / 4096 → page_at pages i ≡ page_at pages k
unfolding page_at
page_same pages i k same = ap pages same

byte_in : (pages : ℕ → List ℕ) (page : List ℕ) (i : ℕ) → page_at pages i ≡ page → byte_at pages i ≡ get_or page (i % 4096) 0
unfolding byte_at
byte_in pages page i is = ap (λ p. get_or p (i % 4096) 0) is

-- a byte of a page that is as it was
byte_kept : (now before : ℕ → List ℕ) (i : ℕ) → now (i / 4096) ≡ before (i / 4096) → byte_at now i ≡ byte_at before i
unfolding byte_at page_at
byte_kept now before i same = ap (λ p. get_or p (i % 4096) 0) same

-- a byte of a page that stores nothing
byte_past : (pages : ℕ → List ℕ) (i : ℕ) → pages (i / 4096) ≡ [] → byte_at pages i ≡ 0
byte_past pages i none = byte_in pages [] i (page_in pages i (i / 4096) refl ∙ none)

-- one page: what it stores, and zeros behind
module _ (pages : PagesShown) (page : List ℕ) (is : pages ≡ only_page page) (fits : length page ≤ 4096) where
  pub zero_behind : IsZeroFrom (page_of pages) (length page)
  zero_behind i behind = rw is (elim (cases_eq (i / 4096) 0) [
    | inl here ↦
        byte_in (page_of (only_page page)) page i (page_in (page_of (only_page page)) i 0 here ∙ only_here page)
        ∙ get_or_past page (i % 4096) 0 (omega arith)
    | inr other ↦ byte_past (page_of (only_page page)) i (only_others page (i / 4096) other)
  ])

  byte_of_one : (i : ℕ) → i < length page → get_or page i 0 ≡ byte_at (page_of pages) i
  byte_of_one i within =
      let first : i / 4096 ≡ 0 = omega arith in
      let same : i % 4096 ≡ i = omega arith in
      rw is (sym (byte_in (page_of (only_page page)) page i (page_in (page_of (only_page page)) i 0 first ∙ only_here page) ∙ ap (λ k. get_or page k 0) same))

  pub bytes_of_one : bytes_of (page_of pages) (length page) ≡ page
  bytes_of_one = bytes_are (page_of pages) (length page) page refl byte_of_one

-- one page, that stores nothing
pub byte_none : (pages : PagesShown) → pages ≡ only_page [] → (i : ℕ) → byte_at (page_of pages) i ≡ 0
byte_none pages none i = zero_behind pages [] none (omega arith) i (omega arith)

-- a page that is set, and the others
module _ (now before : ℕ → List ℕ) (k : ℕ) (page : List ℕ) (put : IsSet now before k page) where
  page_here : (i : ℕ) → i / 4096 ≡ k → page_at now i ≡ page
  page_here i here = page_in now i k here ∙ put.here

  page_other : (i : ℕ) → (i / 4096 ≡ k → ⊥) → page_at now i ≡ page_at before i
  unfolding page_at
  page_other i other = put.others (i / 4096) other

  byte_here : (i : ℕ) → i / 4096 ≡ k → byte_at now i ≡ get_or page (i % 4096) 0
  byte_here i here = byte_in now page i (page_here i here)

  byte_other : (i : ℕ) → (i / 4096 ≡ k → ⊥) → byte_at now i ≡ byte_at before i
  byte_other i other = byte_kept now before i (put.others (i / 4096) other)

-- ---- a page that stores more

-- a page that stores more, with the same bytes
module _ (now before : ℕ → List ℕ) (at : ℕ) (grown : IsGrown now before (at / 4096)) where
  -- what was stored is stored still
  pub still_stored : (i : ℕ) → i % 4096 < length (page_at before i) → i % 4096 < length (page_at now i)
  unfolding page_at
  still_stored i stored = elim (cases_eq (i / 4096) (at / 4096)) [
    | inl here ↦
        let kept = grown.kept in
        let was : length (before (i / 4096)) ≡ length (before (at / 4096)) = ap (λ k. length (before k)) here in
        let is : length (now (i / 4096)) ≡ length (now (at / 4096)) = ap (λ k. length (now k)) here in
        omega arith
    | inr other ↦ rw (grown.others (i / 4096) other) stored
  ]

-- what a page has to store now is stored
pub now_stored : (now : ℕ → List ℕ) (at count : ℕ) → count ≤ 4096 - at % 4096 → at % 4096 + count ≤ length (now (at / 4096)) → IsStored now at (at + count)
unfolding page_at
now_stored now at count fits long i from below =
    let here : i / 4096 ≡ at / 4096 = omega arith in
    let is : length (now (i / 4096)) ≡ length (now (at / 4096)) = ap (λ k. length (now k)) here in
    omega arith

-- stored up to a place, and from it on
pub stored_more : (pages : ℕ → List ℕ) (start at end : ℕ) → IsStored pages start at → IsStored pages at end → IsStored pages start end
stored_more pages start at end before behind i from below = elim (cases_lt i at) [
  | inl front ↦ before i from front
  | inr back ↦ behind i back below
]

-- ---- bytes that are put into a page

module _ (page part : List ℕ) (at : ℕ) (fits : at + length part ≤ length page) where
  length-with_part : length (with_part page at part) ≡ length page
  length-with_part =
      rw (length-append (take at page) (part ++ drop (at + length part) page), length-append part (drop (at + length part) page), length-take at page, length-drop (at + length part) page) (omega arith)

  part_front : (i : ℕ) → i < at → get_or (with_part page at part) i 0 ≡ get_or page i 0
  part_front i front =
      let size : length (take at page) ≡ at = length-take at page ∙ omega arith in
      get_or_append_left (take at page) (part ++ drop (at + length part) page) 0 i (omega arith) ∙ get_or-take at page i 0 front

  part_behind : (i : ℕ) → at ≤ i → get_or (with_part page at part) i 0 ≡ get_or (part ++ drop (at + length part) page) (i - at) 0
  part_behind i from =
      let size : length (take at page) ≡ at = length-take at page ∙ omega arith in
      get_or-append_right (take at page) (part ++ drop (at + length part) page) at i 0 size from

  part_inside : (i : ℕ) → at ≤ i → i < at + length part → get_or (with_part page at part) i 0 ≡ get_or part (i - at) 0
  part_inside i from below = part_behind i from ∙ get_or_append_left part (drop (at + length part) page) 0 (i - at) (omega arith)

  part_back : (i : ℕ) → at + length part ≤ i → get_or (with_part page at part) i 0 ≡ get_or page i 0
  part_back i back =
      let sum : (at + length part) + ((i - at) - length part) ≡ i = omega arith in
      part_behind i (omega arith)
      ∙ (get_or-append_right part (drop (at + length part) page) (length part) (i - at) 0 refl (omega arith)
      ∙ (get_or-drop (at + length part) page ((i - at) - length part) 0 ∙ ap (λ k. get_or page k 0) sum))

-- the part of the bytes that goes into one page
pub length-piece : (bytes : List ℕ) (done count : ℕ) → done + count ≤ length bytes → length (take (done + count - done) (drop done bytes)) ≡ count
length-piece bytes done count fits = rw (length-take (done + count - done) (drop done bytes), length-drop done bytes) (omega arith)

get_or-piece : (bytes : List ℕ) (done count i : ℕ) → i < count → get_or (take (done + count - done) (drop done bytes)) i 0 ≡ get_or bytes (done + i) 0
get_or-piece bytes done count i within = get_or-take (done + count - done) (drop done bytes) i 0 (omega arith) ∙ get_or-drop done bytes i 0

-- one page more that is written
module _ (now mid before : ℕ → List ℕ) (part : List ℕ) (start : ℕ) (bytes : List ℕ) (done count : ℕ)
    (put : IsSet now mid ((start + done) / 4096) (with_part (mid ((start + done) / 4096)) ((start + done) % 4096) part))
    (piece : part ≡ take (done + count - done) (drop done bytes)) (fits : done + count ≤ length bytes) (one : count ≤ 4096 - (start + done) % 4096)
    (stored : (start + done) % 4096 + count ≤ length (mid ((start + done) / 4096))) where
  abbrev page : List ℕ
  page = mid ((start + done) / 4096)

  part_count : length part ≡ count
  part_count = ap length piece ∙ length-piece bytes done count fits

  part_fits : (start + done) % 4096 + length part ≤ length page
  part_fits = rw part_count stored

  pub piece_stored : (i : ℕ) → i % 4096 < length (page_at mid i) → i % 4096 < length (page_at now i)
  piece_stored i here = elim (cases_eq (i / 4096) ((start + done) / 4096)) [
    | inl same ↦
        let was : length (page_at mid i) ≡ length page = ap length (page_in mid i ((start + done) / 4096) same) in
        let is : length (page_at now i) ≡ length page =
        ap length (page_here now mid ((start + done) / 4096) _ put i same) ∙ length-with_part page part ((start + done) % 4096) part_fits in
        omega arith
    | inr other ↦ rw (page_other now mid ((start + done) / 4096) _ put i other) here
  ]

  -- a byte that is not written
  piece_others : (i : ℕ) → (i < start + done) ⊎ (start + (done + count) ≤ i) → byte_at now i ≡ byte_at mid i
  piece_others i out = elim (cases_eq (i / 4096) ((start + done) / 4096)) [
    | inl here ↦
        let was : byte_at mid i ≡ get_or page (i % 4096) 0 = byte_in mid page i (page_in mid i ((start + done) / 4096) here) in
        let size = part_count in
        let kept : get_or (with_part page ((start + done) % 4096) part) (i % 4096) 0 ≡ get_or page (i % 4096) 0 = elim out [
          | inl front ↦ part_front page part ((start + done) % 4096) part_fits (i % 4096) (omega arith)
          | inr back ↦ part_back page part ((start + done) % 4096) part_fits (i % 4096) (omega arith)
        ] in
        byte_here now mid ((start + done) / 4096) _ put i here ∙ (kept ∙ sym was)
    | inr other ↦ byte_other now mid ((start + done) / 4096) _ put i other
  ]

  -- one that is
  piece_inside : (i : ℕ) → done ≤ i → i < done + count → byte_at now (start + i) ≡ get_or bytes i 0
  piece_inside i from below =
      let here : (start + i) / 4096 ≡ (start + done) / 4096 = omega arith in
      let place : (start + i) % 4096 - (start + done) % 4096 ≡ i - done = omega arith in
      let sum : done + (i - done) ≡ i = omega arith in
      let size = part_count in
      byte_here now mid ((start + done) / 4096) _ put (start + i) here
      ∙ (part_inside page part ((start + done) % 4096) part_fits ((start + i) % 4096) (omega arith) (omega arith)
      ∙ (ap (λ k. get_or part k 0) place
      ∙ (ap (λ l. get_or l (i - done) 0) piece ∙ (get_or-piece bytes done count (i - done) (omega arith) ∙ ap (λ k. get_or bytes k 0) sum))))

  pub piece_written : AreWritten mid before start bytes done → AreWritten now before start bytes (done + count)
  piece_written so_far = record {
    in_front = λ i front. piece_others i (inl (omega arith)) ∙ so_far.in_front i front;
    inside = λ i below. elim (cases_lt i done) [
      | inl earlier ↦ piece_others (start + i) (inl (omega arith)) ∙ so_far.inside i earlier
      | inr now_written ↦ piece_inside i now_written below
    ];
    behind = λ i back. piece_others i (inr back) ∙ so_far.behind i (omega arith);
  }

-- ---- bytes that are compared

-- one page more that is compared
module _ (pages : ℕ → List ℕ) (part : List ℕ) (start : ℕ) (bytes : List ℕ) (done count : ℕ)
    (piece : part ≡ take (done + count - done) (drop done bytes)) (fits : done + count ≤ length bytes) (one : count ≤ 4096 - (start + done) % 4096) where
  -- a byte of the page
  piece_byte : (i : ℕ) → i < count → byte_at pages (start + (done + i)) ≡ get_or (page_at pages (start + done)) ((start + done) % 4096 + i) 0
  piece_byte i below =
      let here : (start + (done + i)) / 4096 ≡ (start + done) / 4096 = omega arith in
      let place : (start + (done + i)) % 4096 ≡ (start + done) % 4096 + i = omega arith in
      byte_in pages (page_at pages (start + done)) (start + (done + i)) (page_same pages (start + (done + i)) (start + done) here)
      ∙ ap (λ k. get_or (page_at pages (start + done)) k 0) place

  pub piece_same : IsPart (page_at pages (start + done)) ((start + done) % 4096) part → ((i : ℕ) → i < done → get_or bytes i 0 ≡ byte_at pages (start + i))
      → (i : ℕ) → i < done + count → get_or bytes i 0 ≡ byte_at pages (start + i)
  piece_same same so_far i below = elim (cases_lt i done) [
    | inl earlier ↦ so_far i earlier
    | inr now_same ↦
        let sum : done + (i - done) ≡ i = omega arith in
        let size : length part ≡ count = ap length piece ∙ length-piece bytes done count fits in
        sym (ap (λ k. get_or bytes k 0) sum)
        ∙ (sym (get_or-piece bytes done count (i - done) (omega arith))
        ∙ (sym (ap (λ l. get_or l (i - done) 0) piece)
        ∙ (same (i - done) (omega arith)
        ∙ (sym (piece_byte (i - done) (omega arith)) ∙ ap (λ k. byte_at pages (start + k)) sum))))
  ]

  pub piece_from : AreFrom pages start bytes → IsPart (page_at pages (start + done)) ((start + done) % 4096) part
  piece_from all i below =
      let size : length part ≡ count = ap length piece ∙ length-piece bytes done count fits in
      ap (λ l. get_or l i 0) piece ∙ (get_or-piece bytes done count i (omega arith) ∙ (all (done + i) (omega arith) ∙ piece_byte i (omega arith)))

-- ---- bytes that are cut

-- pages of which that of this place was cut there
pub record IsCutThere (now before : ℕ → List ℕ) (size : ℕ) : Type 0 where
  pub in_front : (i : ℕ) → i < size → byte_at now i ≡ byte_at before i
  pub there : (i : ℕ) → size ≤ i → i / 4096 ≡ size / 4096 → byte_at now i ≡ 0
  pub others : (i : ℕ) → (i / 4096 ≡ size / 4096 → ⊥) → byte_at now i ≡ byte_at before i

pub cut_there : (now before : ℕ → List ℕ) (size : ℕ) → IsSet now before (size / 4096) (take (size % 4096) (before (size / 4096)))
    → IsCutThere now before size
cut_there now before size put = record {
  in_front = λ i front. elim (cases_eq (i / 4096) (size / 4096)) [
    | inl here ↦
        byte_here now before (size / 4096) _ put i here
        ∙ (get_or-take (size % 4096) (before (size / 4096)) (i % 4096) 0 (omega arith)
        ∙ sym (byte_in before (before (size / 4096)) i (page_in before i (size / 4096) here)))
    | inr other ↦ byte_other now before (size / 4096) _ put i other
  ];
  there = λ i back here.
      let short = length-take (size % 4096) (before (size / 4096)) in
      byte_here now before (size / 4096) _ put i here ∙ get_or_past (take (size % 4096) (before (size / 4096))) (i % 4096) 0 (omega arith);
  others = λ i other. byte_other now before (size / 4096) _ put i other;
}

-- then the far ones from the next whole page on were taken away
module _ (now : PagesShown) (mid before : ℕ → List ℕ) (size from : ℕ) (cut : IsCutThere mid before size)
    (is : from ≡ size / 4096 + min 1 (size % 4096)) (kept : (k : ℕ) → k < from → page_of now k ≡ mid k) where
  pub cut_front : (i : ℕ) → i < size → byte_at (page_of now) i ≡ byte_at before i
  cut_front i front = byte_kept (page_of now) mid i (kept (i / 4096) (omega (arith, is, front))) ∙ cut.in_front i front

  -- what is not in a page of the list that is walked behind it is cut
  pub cut_ready : ((k : ℕ) → k < length now.near → page_of now k ≡ mid k) → ((k : ℕ) → length now.near ≤ k → from ≤ k → page_of now k ≡ [])
      → (len count end : ℕ) → IsZeroFrom before len → count ≡ len / 4096 + min 1 (len % 4096) → end ≡ min count (length now.near)
      → (i : ℕ) → size ≤ i → (i / 4096 < size / 4096 + 1) ⊎ (end ≤ i / 4096) → byte_at (page_of now) i ≡ 0
  cut_ready near far len count end zeros enough few i back out = elim (cases_lt (i / 4096) (length now.near)) [
    | inl close ↦ byte_kept (page_of now) mid i (near (i / 4096) close) ∙ elim (cases_eq (i / 4096) (size / 4096)) [
      | inl here ↦ cut.there i back here
      | inr other ↦
          let behind : len ≤ i = elim (cases_lt i len) [
            | inl below ↦ absurd (elim out [ inl last ↦ other (omega arith) | inr past ↦ omega arith ])
            | inr behind ↦ behind
          ] in
          cut.others i other ∙ zeros i behind
    ]
    | inr away ↦ elim (cases_lt (i / 4096) from) [
      | inl last ↦
          let here : i / 4096 ≡ size / 4096 = omega (arith, is, back, last) in
          byte_kept (page_of now) mid i (kept (i / 4096) last) ∙ cut.there i back here
      | inr later ↦ byte_past (page_of now) i (far (i / 4096) away later)
    ]
  ]

-- one page more that stores nothing
module _ (now before : ℕ → List ℕ) (at : ℕ) (put : IsSet now before at []) where
  pub emptied_others : (i : ℕ) → i / 4096 < at → byte_at now i ≡ byte_at before i
  emptied_others i front = byte_other now before at [] put i (λ here. omega arith)

  pub emptied : (size end : ℕ) → ((i : ℕ) → size ≤ i → (i / 4096 < at) ⊎ (end ≤ i / 4096) → byte_at before i ≡ 0)
      → (i : ℕ) → size ≤ i → (i / 4096 < at + 1) ⊎ (end ≤ i / 4096) → byte_at now i ≡ 0
  emptied size end so_far i back out = elim (cases_eq (i / 4096) at) [
    | inl here ↦ byte_here now before at [] put i here
    | inr other ↦
        byte_other now before at [] put i other
        ∙ so_far i back (elim out [ inl front ↦ inl (omega arith) | inr past ↦ inr past ])
  ]

-- ---- bytes that are read, written and cut, one by one

-- a byte of those that are filled with zeros
get_or-filled : (bytes : List ℕ) (size i : ℕ) → get_or (filled bytes size) i 0 ≡ get_or bytes i 0
get_or-filled bytes size i = elim (cases_lt i (length bytes)) [
  | inl within ↦ get_or_append_left bytes (replicate (size - length bytes) 0) 0 i within
  | inr behind ↦
      get_or-append_right bytes (replicate (size - length bytes) 0) (length bytes) i 0 refl behind
      ∙ (zeros (size - length bytes) (i - length bytes) ∙ sym (get_or_past bytes i 0 behind))
] where
  zeros : (n k : ℕ) → get_or {A = ℕ} (replicate n 0) k 0 ≡ 0
  zeros n k = elim (cases_lt k n) [
    | inl within ↦ get_or-replicate n k 0 0 within
    | inr past ↦ let all : length (replicate {A = ℕ} n 0) ≡ n = length-replicate n 0 in get_or_past (replicate n 0) k 0 (omega arith)
  ]

length-filled : (bytes : List ℕ) (size : ℕ) → length (filled bytes size) ≡ length bytes + (size - length bytes)
length-filled bytes size = length-append bytes (replicate (size - length bytes) 0) ∙ ap (λ n. length bytes + n) (length-replicate (size - length bytes) 0)

-- bytes in pages that are cut or filled
pub resized_is : (pages : ℕ → List ℕ) (len : ℕ) (before : ℕ → List ℕ) (size : ℕ) → IsZeroFrom before len
    → ((i : ℕ) → i < size → byte_at pages i ≡ byte_at before i) → bytes_of pages size ≡ resized (bytes_of before len) size
resized_is pages len before size zeros same =
    let long = length-filled (bytes_of before len) size in
    let cut : length (resized (bytes_of before len) size) ≡ size = length-take size (filled (bytes_of before len) size) ∙ omega arith in
    bytes_are pages size (resized (bytes_of before len) size) cut
    (λ i within.
    get_or-take size (filled (bytes_of before len) size) i 0 within
    ∙ (get_or-filled (bytes_of before len) size i ∙ (bytes_at before len zeros i ∙ sym (same i within))))

-- bytes that are written
module _ (bytes payload : List ℕ) (offset : ℕ) (some : (length payload == 0) ≡ false) where
  written_parts : written bytes offset payload ≡ take offset (filled bytes offset) ++ (payload ++ drop (offset + length payload) bytes)
  written_parts = rw some refl

  front_long : length (take offset (filled bytes offset)) ≡ offset
  front_long =
      let long = length-filled bytes offset in
      length-take offset (filled bytes offset) ∙ omega arith

  length-written : (n : ℕ) → n ≡ length bytes → length (written bytes offset payload) ≡ max n (offset + length payload)
  length-written n is =
      let all = length-append (take offset (filled bytes offset)) (payload ++ drop (offset + length payload) bytes) in
      let more = length-append payload (drop (offset + length payload) bytes) in
      let rest = length-drop (offset + length payload) bytes in
      let front = front_long in
      ap length written_parts ∙ omega arith

  written_front : (i : ℕ) → i < offset → get_or (written bytes offset payload) i 0 ≡ get_or bytes i 0
  written_front i front =
      let long = front_long in
      ap (λ l. get_or l i 0) written_parts
      ∙ (get_or_append_left (take offset (filled bytes offset)) (payload ++ drop (offset + length payload) bytes) 0 i (omega arith)
      ∙ (get_or-take offset (filled bytes offset) i 0 front ∙ get_or-filled bytes offset i))

  written_from : (i : ℕ) → offset ≤ i → get_or (written bytes offset payload) i 0 ≡ get_or (payload ++ drop (offset + length payload) bytes) (i - offset) 0
  written_from i from =
      ap (λ l. get_or l i 0) written_parts
      ∙ get_or-append_right (take offset (filled bytes offset)) (payload ++ drop (offset + length payload) bytes) offset i 0 front_long from

  written_inside : (i : ℕ) → offset ≤ i → i < offset + length payload → get_or (written bytes offset payload) i 0 ≡ get_or payload (i - offset) 0
  written_inside i from below = written_from i from ∙ get_or_append_left payload (drop (offset + length payload) bytes) 0 (i - offset) (omega arith)

  written_back : (i : ℕ) → offset + length payload ≤ i → get_or (written bytes offset payload) i 0 ≡ get_or bytes i 0
  written_back i back =
      let sum : (offset + length payload) + ((i - offset) - length payload) ≡ i = omega arith in
      written_from i (omega arith)
      ∙ (get_or-append_right payload (drop (offset + length payload) bytes) (length payload) (i - offset) 0 refl (omega arith)
      ∙ (get_or-drop (offset + length payload) bytes ((i - offset) - length payload) 0 ∙ ap (λ k. get_or bytes k 0) sum))

-- bytes in pages that are written
module _ (now before : ℕ → List ℕ) (len : ℕ) (payload : List ℕ) (offset : ℕ) (some : (length payload == 0) ≡ false) (zeros : IsZeroFrom before len)
    (put : AreWritten now before offset payload (length payload)) where
  pub written_is : bytes_of now (max len (offset + length payload)) ≡ written (bytes_of before len) offset payload
  written_is =
      bytes_are now (max len (offset + length payload)) (written (bytes_of before len) offset payload)
      (length-written (bytes_of before len) payload offset some len (sym (length-bytes_of before len)))
      (λ i within. elim (cases_lt i offset) [
        | inl front ↦ written_front (bytes_of before len) payload offset some i front ∙ (bytes_at before len zeros i ∙ sym (put.in_front i front))
        | inr from ↦ elim (cases_lt i (offset + length payload)) [
          | inl inside ↦
              let sum : offset + (i - offset) ≡ i = omega arith in
              written_inside (bytes_of before len) payload offset some i from inside
              ∙ (sym (put.inside (i - offset) (omega arith)) ∙ ap (λ k. byte_at now k) sum)
          | inr back ↦ written_back (bytes_of before len) payload offset some i back ∙ (bytes_at before len zeros i ∙ sym (put.behind i back))
        ]
      ])

-- bytes that are read
module _ (pages : ℕ → List ℕ) (len offset size start asked : ℕ) (given : List ℕ)
    (from : start ≡ min len offset) (most : asked ≡ min (len - start) size) where
  length-readable : length (readable (bytes_of pages len) offset size) ≡ asked
  length-readable =
      let all = length-bytes_of pages len in
      let rest = length-drop offset (bytes_of pages len) in
      length-take size (drop offset (bytes_of pages len)) ∙ omega arith

  get_or-readable : (i : ℕ) → i < asked → get_or (readable (bytes_of pages len) offset size) i 0 ≡ byte_at pages (start + i)
  get_or-readable i within =
      let same : offset ≡ start = omega arith in
      get_or-take size (drop offset (bytes_of pages len)) i 0 (omega arith)
      ∙ (get_or-drop offset (bytes_of pages len) i 0
      ∙ (get_or-bytes_of pages len (offset + i) (omega arith) ∙ ap (λ k. byte_at pages (k + i)) same))

  -- all of them
  pub read_all : (length given ≡ asked) × AreFrom pages start given ↔ IsReadAs false (readable (bytes_of pages len) offset size) given
  read_all =
      let all = length-readable in (
        (λ are. ext_get_or 0 given (readable (bytes_of pages len) offset size) (are.0 ∙ sym all)
            (λ i within. are.1 i within ∙ sym (get_or-readable i (omega (arith, are.0))))),
        (λ same.
            let size_2 : length given ≡ asked = ap length same ∙ all in
            (size_2, λ i within. ap (λ l. get_or l i 0) same ∙ get_or-readable i (omega arith))),
      )

  -- a front of them
  pub read_front : (length given ≤ asked) × AreFrom pages start given ↔ IsReadAs true (readable (bytes_of pages len) offset size) given
  read_front =
      let all = length-readable in (
        (λ are.
            let short : length given ≤ asked = are.0 in
            let size_2 : length (take (length given) (readable (bytes_of pages len) offset size)) ≡ length given =
            length-take (length given) (readable (bytes_of pages len) offset size) ∙ omega arith in
            let front : given ≡ take (length given) (readable (bytes_of pages len) offset size) =
            ext_get_or 0 given (take (length given) (readable (bytes_of pages len) offset size)) (sym size_2)
            (λ i within. are.1 i within ∙ (sym (get_or-readable i (omega arith)) ∙ sym (get_or-take (length given) (readable (bytes_of pages len) offset size) i 0 within))) in (
              drop (length given) (readable (bytes_of pages len) offset size),
              sym (ap (λ l. l ++ drop (length given) (readable (bytes_of pages len) offset size)) front
                  ∙ take-append-drop (length given) (readable (bytes_of pages len) offset size)),
            )),
        (λ is.
            let sum : length given + length is.0 ≡ asked = sym (length-append given is.0) ∙ (sym (ap length is.1) ∙ all) in (
              omega arith,
              λ i within.
                  sym (get_or_append_left given is.0 0 i within) ∙ (sym (ap (λ l. get_or l i 0) is.1) ∙ get_or-readable i (omega arith)),
            )),
      )

-- bytes that are the pages'
pub all_are : (pages : ℕ → List ℕ) (len : ℕ) (bytes : List ℕ) → (length bytes ≡ len) × AreFrom pages 0 bytes ↔ (bytes ≡ bytes_of pages len)
all_are pages len bytes = (
  (λ are. sym (bytes_are pages len bytes are.0 (λ i within. are.1 i (omega (arith, are.0)) ∙ ap (λ k. byte_at pages k) (zero-add i)))),
  (λ same.
      let all = length-bytes_of pages len in
      let size : length bytes ≡ len = ap length same ∙ all in
      (size, λ i within. ap (λ l. get_or l i 0) same ∙ (get_or-bytes_of pages len i (omega arith) ∙ ap (λ k. byte_at pages k) (sym (zero-add i))))),
)

-- the bytes of the first page, and the others written behind them
pub written_rest : (bytes : List ℕ) (count : ℕ) → count ≡ min (length bytes) 4096 → written (take count bytes) 4096 (drop count bytes) ≡ bytes
written_rest bytes count is =
    let front : length (take count bytes) ≡ count = length-take count bytes ∙ omega arith in
    let rest : length (drop count bytes) ≡ length bytes - count = length-drop count bytes in
    elim (cases_lt 4096 (length bytes)) [
      | inl long ↦
          let some : (length (drop count bytes) == 0) ≡ false = grind (arith, nat_tests) in
          let all : length (written (take count bytes) 4096 (drop count bytes)) ≡ length bytes =
          length-written (take count bytes) (drop count bytes) 4096 some count (sym front) ∙ omega arith in
          ext_get_or 0 (written (take count bytes) 4096 (drop count bytes)) bytes all
          (λ i within. elim (cases_lt i 4096) [
            | inl first ↦ written_front (take count bytes) (drop count bytes) 4096 some i first ∙ get_or-take count bytes i 0 (omega arith)
            | inr behind ↦
                let sum : count + (i - 4096) ≡ i = omega arith in
                written_inside (take count bytes) (drop count bytes) 4096 some i behind (omega arith)
                ∙ (get_or-drop count bytes (i - 4096) 0 ∙ ap (λ k. get_or bytes k 0) sum)
          ])
      | inr short ↦
          let none : (length (drop count bytes) == 0) ≡ true = grind (arith, nat_tests) in
          rw none (ext_get_or 0 (take count bytes) bytes (front ∙ omega arith) (λ i within. get_or-take count bytes i 0 (omega arith)))
    ]

-- the page of a byte
pub page_there : (pages : ℕ → List ℕ) (at : ℕ) → page_at pages at ≡ pages (at / 4096)
unfolding page_at
page_there pages at = refl

-- a page stores what is stored of it
pub room_of_page : (pages : ℕ → List ℕ) (page : List ℕ) (start end at count : ℕ) → IsStored pages start end → start ≤ at → 0 < count → at + count ≤ end
    → count ≤ 4096 - at % 4096 → page_at pages at ≡ page → at % 4096 + count ≤ length page
room_of_page pages page start end at count stored from some below one is =
    let here : (at + count - 1) / 4096 ≡ at / 4096 = omega arith in
    let place : (at + count - 1) % 4096 ≡ at % 4096 + count - 1 = omega arith in
    let there : (at + count - 1) % 4096 < length (page_at pages (at + count - 1)) = stored (at + count - 1) (omega arith) (omega arith) in
    let size : length (page_at pages (at + count - 1)) ≡ length page = ap length (page_same pages (at + count - 1) at here ∙ is) in
    omega arith

pub written_over : (now mid before : ℕ → List ℕ) (start : ℕ) (bytes : List ℕ) (done : ℕ) → AreWritten now mid start bytes done → SameBytes mid before
    → AreWritten now before start bytes done
written_over now mid before start bytes done put same = record {
  in_front = λ i front. put.in_front i front ∙ byte_same mid before same i;
  inside = put.inside;
  behind = λ i back. put.behind i back ∙ byte_same mid before same i;
}

-- ---- one byte

-- a byte that is there is that of its page
pub byte_found : (pages : ℕ → List ℕ) (len i : ℕ) → i < len → slice_get (bytes_of pages len) i ≡ Some (get_or (pages (i / 4096)) (i % 4096) 0)
unfolding bytes_of byte_at page_at
byte_found pages len i within =
    let long = length-map-range_with_len (λ k. byte_at pages k) 0 len in
    let here : i < length (bytes_of pages len) = omega (arith, long) in
    slice_get-get_or (bytes_of pages len) i 0 here ∙ ap Some (get_or-map-range_with_len (λ k. byte_at pages k) 0 len i i 0 within (zero-add i))

-- and behind the end there is none
pub byte_not_found : (pages : ℕ → List ℕ) (len i : ℕ) → len ≤ i → slice_get (bytes_of pages len) i ≡ None
unfolding bytes_of
byte_not_found pages len i past =
    let long = length-map-range_with_len (λ k. byte_at pages k) 0 len in
    slice_get_past (bytes_of pages len) i (omega (arith, long))
