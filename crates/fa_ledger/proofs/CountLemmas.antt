-- A count up to an offset is that up to and with the first entry that has it.
use Rattle.std.proofs.Common.{◌≡◌, ℕ, zero, suc, ◌<◌, true, false, List, [], ◌∷◌, Some, None, refl, sym, ap, subst, ◌∙◌, arith}
use Rattle.std.specs.Prelude.{◌==◌, ◌≢◌, if◌then◌else◌, slice_get, option_map}
use Rattle.std.proofs.lemmas.Bool.Decides.{nat_tests}
use Rattle.std.proofs.lemmas.Option.{same_Some}
use Rattle.fa_bodies.specs.Dirents.{PlainDirent}
use Rattle.fa_ledger.specs.Listings.{count_to, IsFirstWith}
use Rattle.fa_ledger.specs.Laws.{CountIsFirst}

-- ---- the first entry of some

-- an entry that has the offset is the first with it, before any others
first_here : (offset : ℕ) (d : PlainDirent) (ds : List PlainDirent) → d.off ≡ offset → IsFirstWith offset (d ∷ ds) 0
first_here offset d ds has = record { entry = d; there = refl; has = has; first = λ i x below there. absurd (omega (arith, below)) }

-- behind an entry that has not the offset, the first with it stays the first
first_behind : (offset : ℕ) (d : PlainDirent) (ds : List PlainDirent) (n : ℕ) → d.off ≢ offset → IsFirstWith offset ds n → IsFirstWith offset (d ∷ ds) (suc n)
first_behind offset d ds n other is =
    let all : (i : ℕ) (x : PlainDirent) → i < suc n → slice_get (d ∷ ds) i ≡ Some x → x.off ≢ offset = λ i x below.
    elim i as (λ i. i < suc n → slice_get (d ∷ ds) i ≡ Some x → x.off ≢ offset) [
      | zero ↦ λ here there. subst (λ (y : PlainDirent). y.off ≢ offset) (same_Some d x there) other
      | suc j ↦ λ here there. is.first j x (omega (arith, here)) there
    ] below in
    record { entry = is.entry; there = is.there; has = is.has; first = all }

-- an entry with the offset that is the first, but not at the front, is the first of the rest
first_further : (offset : ℕ) (d : PlainDirent) (ds : List PlainDirent) (n : ℕ) → IsFirstWith offset (d ∷ ds) (suc n) → IsFirstWith offset ds n
first_further offset d ds n is = record {
  entry = is.entry;
  there = is.there;
  has = is.has;
  first = λ i x below there. is.first (suc i) x (omega (arith, below)) there;
}

-- ---- counts

-- a count is that of an entry, the first with the offset
count_first : (offset : ℕ) (ds : List PlainDirent) (k : ℕ) → count_to offset ds ≡ Some k → (n : ℕ) × (k ≡ suc n) × IsFirstWith offset ds n
count_first offset [] k is = absurd cc
count_first offset (d ∷ ds) k is =
    elim (d.off == offset) as (λ b. (d.off == offset) ≡ b → (if b then Some 1 else option_map (λ n. suc n) (count_to offset ds)) ≡ Some k → (n : ℕ) × (k ≡ suc n) × IsFirstWith offset (d ∷ ds) n) [
      | true ↦ λ test counts.
          let has : d.off ≡ offset = grind (arith, nat_tests, test) in
          (0, sym (same_Some 1 k counts), first_here offset d ds has)
      | false ↦ λ test counts.
          let other : d.off ≢ offset = grind (arith, nat_tests, test) in
          elim (count_to offset ds) as (λ t. count_to offset ds ≡ t → option_map (λ n. suc n) t ≡ Some k → (n : ℕ) × (k ≡ suc n) × IsFirstWith offset (d ∷ ds) n) [
            | None ↦ λ none clash. absurd cc
            | Some j ↦ λ some more.
                let found = count_first offset ds j some in
                (suc found.0, sym (same_Some (suc j) k more) ∙ ap (λ n. suc n) found.1, first_behind offset d ds found.0 other found.2)
          ] refl counts
    ] refl is

-- the first entry with the offset has its count
first_counted : (offset : ℕ) (ds : List PlainDirent) (n : ℕ) → IsFirstWith offset ds n → count_to offset ds ≡ Some (suc n)
first_counted offset [] n is = let clash : None ≡ Some is.entry = is.there in absurd cc
first_counted offset (d ∷ ds) zero is =
    let here : d ≡ is.entry = same_Some d is.entry is.there in
    let has : d.off ≡ offset = ap (λ (x : PlainDirent). x.off) here ∙ is.has in
    let test : (d.off == offset) ≡ true = grind (arith, nat_tests, has) in
    rw test refl
first_counted offset (d ∷ ds) (suc n) is =
    let other : d.off ≢ offset = is.first 0 d (omega arith) refl in
    let test : (d.off == offset) ≡ false = grind (arith, nat_tests, other) in
    rw (test, first_counted offset ds n (first_further offset d ds n is)) refl

pub count_is_first : CountIsFirst
count_is_first offset ds count = (
  count_first offset ds count,
  λ found. first_counted offset ds found.0 found.2 ∙ ap (λ n. Some n) (sym found.1),
)
