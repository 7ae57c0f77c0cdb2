-- The order of places.
use Rattle.std.proofs.Common.{◌≡◌, ℕ, Bool, true, List, ◌++◌, refl, sym, ap, ◌∙◌}
use Rattle.std.specs.Prelude.{◌&&◌, IsTrue, nat_eq}
use Rattle.std.specs.Ordering.{nat_cmp, ordering_then, eq_by_cmp}
use Rattle.std.specs.declared.cmp.Ordering.{Ordering}
use Rattle.std.specs.declared.cmp.Ordering.TheVariants.{Less, Equal, Greater}
use Rattle.std.specs.Cmp.{IsTotalOrder, IsEquivalence, total, then_po, then_agrees, partial_order_from_total, on_total, tied_then, unsigned_ties, Equal-is, eq_by_cmp_equiv}
use Rattle.std.specs.Cmp.Lexicographic.{nat_list_cmp_total, pointwise, lists_ties}
use Rattle.std.specs.FinMap.{IsAntisymmetric, nat_cmp-IsAntisymmetric, slice_cmp-IsAntisymmetric}
use Rattle.std.specs.Hash.{HashWrites}
use Rattle.fa_tree.specs.contracts.id.FileIdPartialEq.TheImpl as derived
use Rattle.fa_tree.specs.contracts.id.FileIdHash.TheImpl as hashed
use Rattle.fa_tree.specs.State.{Place, file_cmp, file_eq, place_cmp, name_cmp}
use Rattle.fa_tree.specs.parts.NameFed.{name_fed}
use Rattle.fa_tree.specs.parts.FileIdLaws.{file_cmp_total, files_apart, file_ties}

-- names are told apart
pub names_apart : IsAntisymmetric name_cmp
names_apart = slice_cmp-IsAntisymmetric nat_cmp-IsAntisymmetric

directories_total : IsTotalOrder (λ (a : Place) (b : Place). file_cmp a.0 b.0)
directories_total = on_total (λ p. p.0) file_cmp_total

names_total : IsTotalOrder (λ (a : Place) (b : Place). name_cmp a.1 b.1)
names_total = on_total (λ p. p.1) nat_list_cmp_total

-- places are in a total order
pub place_cmp_total : IsTotalOrder place_cmp
place_cmp_total =
    total (then_po (partial_order_from_total directories_total) (partial_order_from_total names_total))
    (then_agrees (λ x y. refl) (λ x y. refl))

-- one test at each place is two tests
pub place_tests : (a b : Place) → eq_by_cmp place_cmp a b ≡ (file_eq a.0 b.0 && eq_by_cmp name_cmp a.1 b.1)
place_tests a b = sym (tied_then (file_cmp a.0 b.0) (name_cmp a.1 b.1))

-- places are told apart
pub places_apart : IsAntisymmetric place_cmp
places_apart a b is =
    by (file_cmp a.0 b.0) refl is
  where
    by : (r : Ordering) → file_cmp a.0 b.0 ≡ r → ordering_then r (name_cmp a.1 b.1) ≡ Equal → a ≡ b
    by Less test is = absurd (let clash : Less ≡ Equal = is in cc)
    by Equal test is = λ i. (files_apart a.0 b.0 test i, names_apart a.1 b.1 is i)
    by Greater test is = absurd (let clash : Greater ≡ Equal = is in cc)

-- a place that passes the test of another is it
pub same_place : (a b : Place) → IsTrue (eq_by_cmp place_cmp a b) → a ≡ b
same_place a b is = places_apart a b ((Equal-is (place_cmp a b)).0 is)

pub place_equiv : IsEquivalence (eq_by_cmp place_cmp)
place_equiv = eq_by_cmp_equiv place_cmp_total

-- the equality of names, byte by byte
pub names_alike : (a b : List ℕ) → pointwise nat_eq a b ≡ eq_by_cmp name_cmp a b
names_alike a b = lists_ties nat_cmp unsigned_ties a b

-- the test of a place is the derived equality of its parts
pub place_test : (a b : Place) → eq_by_cmp place_cmp a b ≡ (derived.eq-value.it a.0 b.0 && pointwise nat_eq a.1 b.1)
place_test a b = place_tests a b ∙ (λ i. file_ties a.0 b.0 i && sym (names_alike a.1 b.1) i)

-- a place that another passes the test of has the tests of that one
pub alike_test : (place a b : Place) → IsTrue (eq_by_cmp place_cmp place a) → eq_by_cmp place_cmp place b ≡ (derived.eq-value.it a.0 b.0 && pointwise nat_eq a.1 b.1)
alike_test place a b is = place_equiv.congr place a b is ∙ place_test a b

-- a directory that is another, and a name that is another, or not
pub place_in : (a b : Place) (one : Bool) → derived.eq-value.it a.0 b.0 ≡ true → one ≡ pointwise nat_eq a.1 b.1 → one ≡ eq_by_cmp place_cmp a b
place_in a b one directory name = name ∙ sym (place_test a b ∙ ap (λ t. t && pointwise nat_eq a.1 b.1) directory)

-- ---- what a place feeds a hasher: its directory, and its name
abbrev pub place_fed : Place → HashWrites
place_fed place = hashed.hash_input-value.it place.0 ++ name_fed place.1

-- places whose parts are equal feed alike
pub fed_alike : (a b : Place) → IsTrue (derived.eq-value.it a.0 b.0 && pointwise nat_eq a.1 b.1) → place_fed a ≡ place_fed b
fed_alike a b equal = ap place_fed (same_place a b (place_test a b ∙ equal))
