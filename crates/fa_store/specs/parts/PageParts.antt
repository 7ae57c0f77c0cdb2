-- The bytes of a file in pages: each stores its first bytes, and those that it does not store are zeros.
use Rattle.std.specs.Prelude.{◌≡◌, ℕ, ◌+◌, ◌<◌, ◌≤◌, ◌/◌, ◌%◌, nat_lt, cond, List, [], ◌∷◌, ◌++◌, get_or, length, take, drop, map, Option}
use Rattle.std.specs.List.{range_with_len}
use Rattle.std.specs.Map.{lookup}
use Rattle.std.specs.Option.{unwrap_or}
use Rattle.std.specs.Ordering.{nat_cmp}
use Rattle.std.specs.BTreeMap.{is_at}

-- ---- which pages there are

-- those at the beginning of a file, one after the other, and those behind them that are there, by their places
pub record PagesShown : Type 0 where
  pub near : List (List ℕ)
  pub far : List (ℕ × List ℕ)

-- one page by itself
abbrev pub only_page : List ℕ → PagesShown
only_page page = record { near = page ∷ []; far = [] }

-- the page at a place, if it is there
abbrev pub has_far : (far : List (ℕ × List ℕ)) → (place : ℕ) → Option (List ℕ)
has_far far place = lookup (is_at (nat_cmp place)) far

-- what it stores
unfoldable pub far_page : (far : List (ℕ × List ℕ)) → (place : ℕ) → List ℕ
far_page far place = unwrap_or (has_far far place) []

-- what the page at a place stores: one of the list, or behind the list a far one
unfoldable pub page_of : PagesShown → (place : ℕ) → List ℕ
page_of pages place = cond (nat_lt place (length pages.near)) (get_or pages.near place []) (far_page pages.far place)

-- ---- what pages store, by their places

-- the bytes of a page from this place on are these
abbrev pub IsPart : (page : List ℕ) → (at : ℕ) → List ℕ → Type 0
IsPart page at part = (i : ℕ) → i < length part → get_or part i 0 ≡ get_or page (at + i) 0

-- a page after these bytes were put into it at this place
abbrev pub with_part : (page : List ℕ) → (at : ℕ) → List ℕ → List ℕ
with_part page at part = take at page ++ (part ++ drop (at + length part) page)

-- the page that this byte is in
unfoldable pub page_at : (pages : ℕ → List ℕ) → (i : ℕ) → List ℕ
page_at pages i = pages (i / 4096)

-- this byte
unfoldable pub byte_at : (pages : ℕ → List ℕ) → (i : ℕ) → ℕ
byte_at pages i = get_or (page_at pages i) (i % 4096) 0

-- the first bytes, so many
unfoldable pub bytes_of : (pages : ℕ → List ℕ) → (len : ℕ) → List ℕ
bytes_of pages len = map (λ i. byte_at pages i) (range_with_len 0 len)

-- no byte from this place on is other than zero
abbrev pub IsZeroFrom : (pages : ℕ → List ℕ) → (len : ℕ) → Type 0
IsZeroFrom pages len = (i : ℕ) → len ≤ i → byte_at pages i ≡ 0

-- the same bytes, whichever are stored
abbrev pub SameBytes : (now before : ℕ → List ℕ) → Type 0
SameBytes now before = (place at : ℕ) → get_or (now place) at 0 ≡ get_or (before place) at 0

-- the bytes from one place up to another are stored
abbrev pub IsStored : (pages : ℕ → List ℕ) → (start end : ℕ) → Type 0
IsStored pages start end = (i : ℕ) → start ≤ i → i < end → i % 4096 < length (page_at pages i)

-- the bytes from this place on are these
abbrev pub AreFrom : (pages : ℕ → List ℕ) → (start : ℕ) → List ℕ → Type 0
AreFrom pages start bytes = (i : ℕ) → i < length bytes → get_or bytes i 0 ≡ byte_at pages (start + i)

-- pages after so many of these bytes were put into them from this place on
pub record AreWritten (now before : ℕ → List ℕ) (start : ℕ) (bytes : List ℕ) (done : ℕ) : Type 0 where
  pub in_front : (i : ℕ) → i < start → byte_at now i ≡ byte_at before i
  pub inside : (i : ℕ) → i < done → byte_at now (start + i) ≡ get_or bytes i 0
  pub behind : (i : ℕ) → start + done ≤ i → byte_at now i ≡ byte_at before i

-- pages that were cut at this place
pub record AreCut (now before : ℕ → List ℕ) (size : ℕ) : Type 0 where
  pub in_front : (i : ℕ) → i < size → byte_at now i ≡ byte_at before i
  pub behind : IsZeroFrom now size

-- pages in which this one stands at this place
pub record IsSet (now before : ℕ → List ℕ) (place : ℕ) (page : List ℕ) : Type 0 where
  pub here : now place ≡ page
  pub others : (k : ℕ) → (k ≡ place → ⊥) → now k ≡ before k

-- pages of which the one at this place has the same bytes, and stores as many at least
pub record IsGrown (now before : ℕ → List ℕ) (place : ℕ) : Type 0 where
  pub same : (i : ℕ) → get_or (now place) i 0 ≡ get_or (before place) i 0
  pub kept : length (before place) ≤ length (now place)
  pub others : (k : ℕ) → (k ≡ place → ⊥) → now k ≡ before k
