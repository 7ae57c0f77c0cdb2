-- What files are known by: their order, and the test that tells them apart.
use Rattle.std.proofs.Common.{◌≡◌, Bool, true, false, refl, sym, ap, ◌∙◌, arith}
use Rattle.std.specs.Prelude.{◌≢◌}
use Rattle.std.proofs.lemmas.Cmp.{then_total, nat_cmp_total, eq_by_cmp_equiv}
use Rattle.std.specs.Cmp.{IsTotalOrder, IsEquivalence, on_total, tied_itself, unsigned_tied, Equal-is}
use Rattle.std.specs.Ordering.{nat_cmp, ordering_then, is_eq}
use Rattle.std.specs.declared.cmp.Ordering.{Ordering}
use Rattle.std.specs.declared.cmp.Ordering.TheVariants.{Less, Equal, Greater}
use Rattle.std.specs.FinMap.{IsAntisymmetric, nat_cmp-IsAntisymmetric}
use Rattle.fa_tree.specs.declared.id.FileId.{FileId}
use Rattle.fa_tree.specs.declared.id.FileId.TheVariants.{Root, Added, Made}
use Rattle.fa_tree.specs.contracts.id.FileIdPartialEq.TheImpl as derived
use Rattle.fa_tree.specs.State.{file_pair, file_cmp, file_eq, file_number}

-- ---- the order

pub file_cmp_total : IsTotalOrder file_cmp
file_cmp_total = then_total (on_total (λ (f : FileId). (file_pair f).0) nat_cmp_total) (on_total (λ (f : FileId). (file_pair f).1) nat_cmp_total)

-- parts that tie each for itself
both_tie : (r s : Ordering) → ordering_then r s ≡ Equal → (r ≡ Equal) × (s ≡ Equal)
both_tie Less s tie = absurd cc
both_tie Equal s tie = (refl, tie)
both_tie Greater s tie = absurd cc

-- files with one pair are one file
one_pair : (a b : FileId) → (file_pair a).0 ≡ (file_pair b).0 → (file_pair a).1 ≡ (file_pair b).1 → a ≡ b
one_pair Root Root kind number = refl
one_pair Root (Added m) kind number = absurd (omega (arith, kind))
one_pair Root (Made q) kind number = absurd (omega (arith, kind))
one_pair (Added n) Root kind number = absurd (omega (arith, kind))
one_pair (Added n) (Added m) kind number = ap (λ k. Added k) number
one_pair (Added n) (Made q) kind number = absurd (omega (arith, kind))
one_pair (Made p) Root kind number = absurd (omega (arith, kind))
one_pair (Made p) (Added m) kind number = absurd (omega (arith, kind))
one_pair (Made p) (Made q) kind number = ap (λ k. Made k) number

-- files are told apart
pub files_apart : IsAntisymmetric file_cmp
files_apart a b tie =
    let both = both_tie (nat_cmp (file_pair a).0 (file_pair b).0) (nat_cmp (file_pair a).1 (file_pair b).1) tie in
    one_pair a b (nat_cmp-IsAntisymmetric (file_pair a).0 (file_pair b).0 both.0) (nat_cmp-IsAntisymmetric (file_pair a).1 (file_pair b).1 both.1)

-- ---- the test

pub file_equiv : IsEquivalence file_eq
file_equiv = eq_by_cmp_equiv file_cmp_total

-- what passes the test is one file
pub same_file : (a b : FileId) → file_eq a b ≡ true → a ≡ b
same_file a b is = files_apart a b ((Equal-is (file_cmp a b)).0 is)

-- each file passes its own test
pub file_self : (a : FileId) → file_eq a a ≡ true
file_self a = ap is_eq (tied_itself file_cmp_total a)

pub file_tested : (a b : FileId) → a ≡ b → file_eq a b ≡ true
file_tested a b is = rw is (file_self b)

pub other_file : (a b : FileId) → file_eq a b ≡ false → a ≢ b
other_file a b test is = absurd (let clash : true ≡ false = sym (file_tested a b is) ∙ test in cc)

-- and what is another file does not
pub tested_apart : (a b : FileId) → a ≢ b → file_eq a b ≡ false
tested_apart a b apart = by (file_eq a b) refl
  where
    by : (test : Bool) → file_eq a b ≡ test → file_eq a b ≡ false
    by true is = absurd (apart (same_file a b is))
    by false is = is

-- the derived equality is this test
pub file_ties : (a b : FileId) → file_eq a b ≡ derived.eq-value.it a b
file_ties Root Root = refl
file_ties Root (Added m) = refl
file_ties Root (Made q) = refl
file_ties (Added n) Root = refl
file_ties (Added n) (Added m) = unsigned_tied n m
file_ties (Added n) (Made q) = refl
file_ties (Made p) Root = refl
file_ties (Made p) (Added m) = refl
file_ties (Made p) (Made q) = unsigned_tied p q

-- so what the derived equality finds equal is one file, and each is equal to itself
pub same_equal : (a b : FileId) → derived.eq-value.it a b ≡ true → a ≡ b
same_equal a b is = same_file a b (file_ties a b ∙ is)

pub equal_tested : (a b : FileId) → a ≡ b → derived.eq-value.it a b ≡ true
equal_tested a b is = sym (file_ties a b) ∙ file_tested a b is

-- ---- the number that a file feeds a hasher

-- no two files have one number
pub number_apart : (a b : FileId) → file_number a ≡ file_number b → a ≡ b
number_apart Root Root same = refl
number_apart Root (Added m) same = absurd (omega (arith, same))
number_apart Root (Made q) same = absurd (omega (arith, same))
number_apart (Added n) Root same = absurd (omega (arith, same))
number_apart (Added n) (Added m) same = let one : n ≡ m = omega (arith, same) in ap (λ k. Added k) one
number_apart (Added n) (Made q) same = absurd (omega (arith, same))
number_apart (Made p) Root same = absurd (omega (arith, same))
number_apart (Made p) (Added m) same = absurd (omega (arith, same))
number_apart (Made p) (Made q) same = let one : p ≡ q = omega (arith, same) in ap (λ k. Made k) one
