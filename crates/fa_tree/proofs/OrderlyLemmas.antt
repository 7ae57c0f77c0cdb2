-- Names that were listed once, or at all, and what that says of a listing.
use Rattle.std.proofs.Common.{◌≡◌, ℕ, zero, suc, ◌<◌, ◌≤◌, Bool, true, false, cond, List, [], ◌∷◌, ◌++◌, Option, None, Some, Bor, refl, sym, ap, subst, ◌∙◌, arith}
use Rattle.std.specs.Prelude.{◌↔◌, Contains, not, is_some, IsTrue, IsFalse, IfSome, IfNone}
use Rattle.std.specs.Bool.{MatchBool}
use Rattle.std.specs.Cmp.Lexicographic.{bytes_decides}
use Rattle.std.specs.Fn.{Shared, FnReturnsAt}
use Rattle.std.specs.FinMap.{get}
use Rattle.std.specs.Str.{bytes_eq}
use Rattle.std.proofs.lemmas.List.Sums.{sum_by-cons, get_or-le-sum_by}
use Rattle.std.proofs.lemmas.List.{append-nil}
use Rattle.fa_bodies.specs.Dirents.{PlainDirent}
use Rattle.fa_tree.specs.declared.id.FileId.{FileId}
use Rattle.fa_tree.specs.Directories.{times_listed, room_for_any, IsOrderly}
use Rattle.fa_tree.specs.State.{OpenDirectory}

-- what is told of each answer of a closure, at a value
pub told_at : {F T R : Type 0} {g : Shared F (Bor T × Unit {0}) R} {f : F} {x : T} {r : R} → FnReturnsAt g f x r
    → (Says : T → R → Type 0) → ((p : Bor T) (r : R) → g.post f (p, tt) r → Says p.now r) → Says x r
told_at returned Says tells = subst (λ y. Says y _) returned.shows (tells returned.shown _ returned.says.met)

-- ---- how often a name is listed

-- how often one entry lists a name
abbrev times_if : Bool → ℕ
times_if same = cond same 1 0

module _ (name : List ℕ) where
  -- a name that is listed is an entry's
  pub listed_by : (ds : List PlainDirent) → 1 ≤ times_listed name ds → (d : PlainDirent) × Contains ds d × (d.name ≡ name)
  listed_by [] once = absurd (omega (arith, once))
  listed_by (d ∷ ds) once = by (bytes_eq d.name name) refl (listed_by ds)
    where
      by : (same : Bool) → bytes_eq d.name name ≡ same → (1 ≤ times_listed name ds → (e : PlainDirent) × Contains ds e × (e.name ≡ name))
          → (e : PlainDirent) × Contains (d ∷ ds) e × (e.name ≡ name)
      by true is later = (d, (0, omega arith, refl), (bytes_decides d.name name).0 is)
      by false is later =
          let all = sum_by-cons (λ (e : PlainDirent). times_if (bytes_eq e.name name)) d ds in
          let first = ap times_if is in
          let rest = later (omega (arith, once, all, first)) in
          (rest.0, (suc rest.1.0, omega (arith, rest.1.1), rest.1.2), rest.2)

  -- and the name of an entry is listed
  pub lists_its_name : (ds : List PlainDirent) (d : PlainDirent) → Contains ds d → d.name ≡ name → 1 ≤ times_listed name ds
  lists_its_name ds d there own =
      let count : PlainDirent → ℕ = λ e. times_if (bytes_eq e.name name) in
      let one = ap count there.2 ∙ ap times_if ((bytes_decides d.name name).1 own) in
      omega (arith, get_or-le-sum_by count ds there.0 d there.1, one)

-- ---- names that stayed

at_most_once : (n : ℕ) → (1 < n → ⊥) → n ≤ 1
at_most_once zero bound = omega arith
at_most_once (suc zero) bound = omega arith
at_most_once (suc (suc n)) bound = absurd (bound (omega arith))

module _ (h : OpenDirectory) where
  -- each name that stayed was listed so often at most, or at least
  abbrev pub NoneTwice : (times : List ℕ → ℕ) → Type 0
  NoneTwice times = (name : List ℕ) (file : FileId) → get h.stayed name ≡ Some file → times name ≤ 1

  abbrev pub AllListed : (times : List ℕ → ℕ) → Type 0
  AllListed times = (name : List ℕ) (file : FileId) → get h.stayed name ≡ Some file → 1 ≤ times name

  -- what a closure answers of each name
  module _ {F : Type 0} (g : Shared F (Bor (List ℕ) × Unit {0}) Bool) (f : F) (times : List ℕ → ℕ) where
    -- no name that stayed was listed twice, where it answers whether a name did not stay
    pub twice_or_not : (r : Bool)
        → MatchBool r ((name : List ℕ) → 1 < times name → FnReturnsAt g f name true) ((name : List ℕ) × (1 < times name) × FnReturnsAt g f name false)
        → ((p : Bor (List ℕ)) (b : Bool) → g.post f (p, tt) b → is_some (get h.stayed p.now) ≡ not b) → IsTrue r ↔ NoneTwice times
    twice_or_not true none tells = ((λ t. each), (λ all. refl))
      where
        each : NoneTwice times
        each name file stayed =
            at_most_once (times name) (λ more.
            let other = told_at (none name more) (λ name b. is_some (get h.stayed name) ≡ not b) tells in
            let found = ap is_some stayed in
            cc)
    twice_or_not false twice tells = (
      (λ t. absurd cc),
      (λ all. absurd (by (get h.stayed twice.0) refl (told_at twice.2 (λ name b. is_some (get h.stayed name) ≡ not b) tells) all)),
    )
      where
        by : (found : Option FileId) → get h.stayed twice.0 ≡ found → is_some found ≡ true → NoneTwice times → ⊥
        by None was is all = cc
        by (Some file) was is all = omega (arith, all twice.0 file was, twice.1)

    -- all names that stayed were listed, where none is found of which it answers that it was not
    pub listed_or_found : (found : Option (Bor (List ℕ))) (r : Bool) → is_some found ≡ not r
        → IfSome found (λ name. (file : FileId) × (get h.stayed name.now ≡ Some file) × FnReturnsAt g f name.now true)
        → IfNone found ((name : List ℕ) (file : FileId) → get h.stayed name ≡ Some file → FnReturnsAt g f name false)
        → ((p : Bor (List ℕ)) (b : Bool) → g.post f (p, tt) b → IsFalse b ↔ (1 ≤ times p.now)) → IsTrue r ↔ AllListed times
    listed_or_found None true is some none tells = (
      (λ t name file stayed. (told_at (none name file stayed) (λ name b. IsFalse b ↔ (1 ≤ times name)) tells).0 refl),
      (λ each. refl),
    )
    listed_or_found None false is some none tells = absurd cc
    listed_or_found (Some name) true is some none tells = absurd cc
    listed_or_found (Some name) false is some none tells = (
      (λ t. absurd cc),
      (λ each. absurd (let no : true ≡ false = (told_at some.2 (λ name b. IsFalse b ↔ (1 ≤ times name)) tells).1 (each name.now some.0 some.1) in cc)),
    )

-- ---- orderly listings

module _ (h : OpenDirectory) (so_far entries : List PlainDirent) (size : ℕ) where
  -- how often a name is listed, so far and by these entries together
  abbrev pub times_in_all : List ℕ → ℕ
  times_in_all name = times_listed name (so_far ++ entries)

  -- all that stayed is listed, if this is the end
  abbrev pub IsWhole : Type 0
  IsWhole = entries ≡ [] → room_for_any ≤ size → AllListed h times_in_all

  -- at the end nothing is listed but what was listed so far
  at_end : entries ≡ [] → (name : List ℕ) → times_in_all name ≡ times_listed name so_far
  at_end none name = ap (λ ds. times_listed name (so_far ++ ds)) none ∙ ap (times_listed name) (append-nil so_far)

  orderly : NoneTwice h times_in_all → IsWhole → IsOrderly h so_far entries size
  orderly once whole = record {
    once = once;
    whole = λ none room name file stayed. listed_by name so_far (let listed = whole none room name file stayed in omega (arith, listed, at_end none name));
  }

  whole_of : IsOrderly h so_far entries size → IsWhole
  whole_of is none room name file stayed =
      let d = is.whole none room name file stayed in
      omega (arith, lists_its_name name so_far d.0 d.1 d.2, at_end none name)

  -- what stayed is listed twice: it is not orderly
  pub not_once : (once : Bool) → once ≡ false → IsTrue once ↔ NoneTwice h times_in_all → IsTrue once ↔ IsOrderly h so_far entries size
  not_once once fails twice = ((λ t. absurd (let clash : true ≡ false = sym t ∙ fails in cc)), (λ is. twice.1 is.once))

  -- none is: it is orderly where it is whole
  pub once_and : (whole : Bool) → IsTrue true ↔ NoneTwice h times_in_all → IsTrue whole ↔ IsWhole → IsTrue whole ↔ IsOrderly h so_far entries size
  once_and whole once is = ((λ t. orderly (once.0 refl) (is.0 t)), (λ so. is.1 (whole_of so)))
