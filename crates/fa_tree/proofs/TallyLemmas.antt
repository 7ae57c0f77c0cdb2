-- What a tally tells once a name was noted, and once entries were.
use Rattle.std.proofs.Common.{◌≡◌, ℕ, zero, suc, ◌+◌, ◌<◌, Bool, true, false, cond, List, [], ◌∷◌, ◌++◌, length, take, refl, sym, ap, subst, ◌∙◌, arith, append_assoc}
use Rattle.std.specs.Prelude.{◌↔◌, ◌≤◌, get_or, not, IsTrue}
use Rattle.std.specs.Bool.{MatchBool}
use Rattle.std.specs.Cmp.Lexicographic.{bytes_decides}
use Rattle.std.specs.List.{AllWithin, HoldsAt}
use Rattle.std.specs.Str.{bytes_eq}
use Rattle.std.proofs.lemmas.List.{append-nil}
use Rattle.std.proofs.lemmas.List.Folds.{Any-from_list_any, list_any_at}
use Rattle.std.proofs.lemmas.List.Sums.{sum_by-append, sum_by_push}
use Rattle.std.proofs.lemmas.Option.{get_or_from_slice_get}
use Rattle.fa_bodies.specs.Dirents.{PlainDirent}
use Rattle.fa_ledger.proofs.CallerLemmas.{element_at}
use Rattle.fa_tree.specs.declared.tally.Listed.{Listed}
use Rattle.fa_tree.specs.declared.tally.Reach.{Reach}
use Rattle.fa_tree.specs.declared.tally.Tally.{Tally}
use Rattle.fa_tree.specs.Directories.{times_listed}
use Rattle.fa_tree.specs.parts.TallyParts.{was_listed, was_repeated, is_among, AreNamesListed, Tallies, TalliesAt, Grows, Notes}

-- ---- one name more

-- names among which one is put stand among them, and no others
abbrev pub IsPut : (name : List ℕ) → (old new : List Listed) → Type 0
IsPut name old new = (other : List ℕ) → is_among new other ≡ cond (bytes_eq name other) true (is_among old other)

pub is_put : (name : List ℕ) (old new : List Listed)
    → ((listed : Listed) → is_among new listed.name.now ≡ cond (bytes_eq name listed.name.now) true (is_among old listed.name.now)) → IsPut name old new
is_put name old new wrote other = wrote (record { name = record { ref_ptr = (0, 0); now = other } })

-- what is put in says whether it was there
pub was_there : (fresh there : Bool) → fresh ≡ not there → fresh ≡ false → there ≡ true
was_there fresh true is old = refl
was_there fresh false is old = absurd cc

pub was_not_there : (fresh there : Bool) → fresh ≡ not there → fresh ≡ true → there ≡ false
was_not_there fresh true is new = absurd cc
was_not_there fresh false is new = refl

-- so often is a name listed once it is noted again
abbrev pub once_more : (name : List ℕ) → (times : List ℕ → ℕ) → List ℕ → ℕ
once_more name times other = times other + cond (bytes_eq name other) 1 0

-- a name that was not listed is listed now
now_listed : (n : ℕ) → was_listed (n + 1) ≡ true
now_listed zero = refl
now_listed (suc n) = let next : suc n + 1 ≡ suc (n + 1) = omega arith in ap was_listed next

-- and is not listed more than once
first_alone : (n : ℕ) → was_listed n ≡ false → was_repeated (n + 1) ≡ was_repeated n
first_alone zero never = refl
first_alone (suc n) never = absurd cc

-- one that was listed is
now_repeated : (n : ℕ) → was_listed n ≡ true → was_repeated (n + 1) ≡ true
now_repeated zero was = absurd cc
now_repeated (suc n) was = let next : suc n + 1 ≡ suc (suc n) = omega arith in ap was_repeated next

none_more : (n : ℕ) → n + 0 ≡ n
none_more n = omega arith

module _ (name : List ℕ) (times : List ℕ → ℕ) where
  -- the names that were listed, with the one that is listed now
  listed_now : (old new : List Listed) → IsPut name old new → ((other : List ℕ) → is_among old other ≡ was_listed (times other))
      → (other : List ℕ) → is_among new other ≡ was_listed (once_more name times other)
  listed_now old new put are other = put other ∙ by (bytes_eq name other) (are other)
    where
      by : (same : Bool) → is_among old other ≡ was_listed (times other) → cond same true (is_among old other) ≡ was_listed (times other + cond same 1 0)
      by true is = sym (now_listed (times other))
      by false is = is ∙ ap was_listed (sym (none_more (times other)))

  -- a name that is listed for the first time
  pub listed_first : (old new again : List Listed) → is_among old name ≡ false → IsPut name old new → AreNamesListed old again times → AreNamesListed new again (once_more name times)
  listed_first old new again never put are = record {
    listed = listed_now old new put are.listed;
    repeated = λ other. are.repeated other ∙ by other (bytes_eq name other) refl;
  }
    where
      by : (other : List ℕ) (same : Bool) → bytes_eq name other ≡ same → was_repeated (times other) ≡ was_repeated (times other + cond same 1 0)
      by other true is = sym (first_alone (times other) (sym (are.listed other) ∙ ap (is_among old) (sym ((bytes_decides name other).0 is)) ∙ never))
      by other false is = ap was_repeated (sym (none_more (times other)))

  -- and one that is listed again
  pub listed_again : (old new again repeated : List Listed) → is_among old name ≡ true → new ≡ old → IsPut name again repeated → AreNamesListed old again times
      → AreNamesListed new repeated (once_more name times)
  listed_again old new again repeated was same put are = record {
    listed = λ other. ap (λ names. is_among names other) same ∙ are.listed other ∙ stays other (bytes_eq name other) refl;
    repeated = λ other. put other ∙ by other (bytes_eq name other) refl;
  }
    where
      is_listed : (other : List ℕ) → bytes_eq name other ≡ true → was_listed (times other) ≡ true
      is_listed other is = sym (are.listed other) ∙ ap (is_among old) (sym ((bytes_decides name other).0 is)) ∙ was

      stays : (other : List ℕ) (same : Bool) → bytes_eq name other ≡ same → was_listed (times other) ≡ was_listed (times other + cond same 1 0)
      stays other true is = is_listed other is ∙ sym (now_listed (times other))
      stays other false is = ap was_listed (sym (none_more (times other)))

      by : (other : List ℕ) (same : Bool) → bytes_eq name other ≡ same → cond same true (is_among again other) ≡ was_repeated (times other + cond same 1 0)
      by other true is = sym (now_repeated (times other) (is_listed other is))
      by other false is = are.repeated other ∙ ap was_repeated (sym (none_more (times other)))

-- ---- a tally of the same names

pub same_names : (old new : Tally) → new.names.keys ≡ old.names.keys → new.again.keys ≡ old.again.keys → (times : List ℕ → ℕ) → Tallies old times → Tallies new times
same_names old new names again times are =
    subst (λ (xs : List Listed). AreNamesListed xs new.again.keys times) (sym names) (subst (λ (xs : List Listed). AreNamesListed old.names.keys xs times) (sym again) are)

pub same_at : (old new : Tally) (reach : Reach) → new.names.keys ≡ old.names.keys → new.again.keys ≡ old.again.keys → (times : List ℕ → ℕ) → TalliesAt old reach times → TalliesAt new reach times
same_at old new reach names again times are =
    subst (λ (xs : List Listed). AreNamesListed (take reach.names xs) (take reach.again new.again.keys) times) (sym names)
    (subst (λ (xs : List Listed). AreNamesListed (take reach.names old.names.keys) (take reach.again xs) times) (sym again) are)

-- ---- how far a tally reached

pub grows_none : (tally : Tally) → Grows tally tally
grows_none tally = record { names = ([], sym (append-nil tally.names.keys)); again = ([], sym (append-nil tally.again.keys)) }

grown_on : {X : Type 0} (xs ys zs : List X) → (more : List X) × (ys ≡ xs ++ more) → (more : List X) × (zs ≡ ys ++ more) → (more : List X) × (zs ≡ xs ++ more)
grown_on xs ys zs first next = (first.0 ++ next.0, next.1 ∙ ap (λ l. l ++ next.0) first.1 ∙ append_assoc xs first.0 next.0)

pub grows_on : (old now new : Tally) → Grows old now → Grows now new → Grows old new
grows_on old now new first next = record {
  names = grown_on old.names.keys now.names.keys new.names.keys first.names next.names;
  again = grown_on old.again.keys now.again.keys new.again.keys first.again next.again;
}

front_of : {X : Type 0} (xs more : List X) → take (length xs) (xs ++ more) ≡ xs
front_of [] [] = refl
front_of [] (y ∷ more) = refl
front_of (x ∷ xs) more = ap (λ l. x ∷ l) (front_of xs more)

front_is : {X : Type 0} (xs ys : List X) (n : ℕ) → n ≡ length xs → (more : List X) × (ys ≡ xs ++ more) → take n ys ≡ xs
front_is xs ys n len grown = ap (λ m. take m ys) len ∙ ap (take (length xs)) grown.1 ∙ front_of xs grown.0

-- what a tally told when it reached so far, it told so
pub told_before : (old new : Tally) (reach : Reach) → reach.names ≡ length old.names.keys → reach.again ≡ length old.again.keys → Grows old new
    → (times : List ℕ → ℕ) → Tallies old times → TalliesAt new reach times
told_before old new reach names again grown times are =
    subst (λ (xs : List Listed). AreNamesListed xs (take reach.again new.again.keys) times) (sym (front_is old.names.keys new.names.keys reach.names names grown.names))
    (subst (λ (xs : List Listed). AreNamesListed old.names.keys xs times) (sym (front_is old.again.keys new.again.keys reach.again again grown.again)) are)

-- names that were listed as often
pub tallies_so : (tally : Tally) (times so : List ℕ → ℕ) → ((name : List ℕ) → times name ≡ so name) → Tallies tally times → Tallies tally so
tallies_so tally times so same are = record {
  listed = λ name. are.listed name ∙ ap was_listed (same name);
  repeated = λ name. are.repeated name ∙ ap was_repeated (same name);
}

-- ---- entries

-- no entry
pub notes_none : (tally : Tally) → Notes tally tally []
notes_none tally times = tallies_so tally times _ (λ name. let none : times name ≡ times name + 0 = omega arith in none)

-- one entry more
pub notes_more : (old now new : Tally) (front : List PlainDirent) (d : PlainDirent) → Notes old now front
    → ((times : List ℕ → ℕ) → Tallies now times → Tallies new (λ other. times other + cond (bytes_eq d.name other) 1 0))
    → Notes old new (front ++ d ∷ [])
notes_more old now new front d notes noted times are =
    tallies_so new _ _ (λ name.
    let more = sum_by_push (λ (e : PlainDirent). cond (bytes_eq e.name name) 1 0) front d in
    let both : times name + times_listed name front + cond (bytes_eq d.name name) 1 0 ≡ times name + times_listed name (front ++ d ∷ []) = omega (arith, more) in
    both)
    (noted (λ other. times other + times_listed other front) (notes times are))

-- entries after others, which stand behind them
pub notes_both : (old now new : Tally) (behind front : List PlainDirent) → Notes old now behind → Notes now new front → Notes old new (front ++ behind)
notes_both old now new behind front first later times are =
    tallies_so new _ _ (λ name.
    let all = sum_by-append (λ (e : PlainDirent). cond (bytes_eq e.name name) 1 0) front behind in
    let both : times name + times_listed name behind + times_listed name front ≡ times name + times_listed name (front ++ behind) = omega (arith, all) in
    both)
    (later (λ other. times other + times_listed other behind) (first times are))

-- ---- names that were listed more than once

more_than_once : (n : ℕ) → was_repeated n ≡ true → 1 < n
more_than_once zero is = absurd cc
more_than_once (suc zero) is = absurd cc
more_than_once (suc (suc n)) is = omega arith

once_repeated : (n : ℕ) → 1 < n → was_repeated n ≡ true
once_repeated zero more = absurd (omega (arith, more))
once_repeated (suc zero) more = absurd (omega (arith, more))
once_repeated (suc (suc n)) more = refl

-- what was listed was so at least once
pub at_least_once : (n : ℕ) (was : Bool) → was ≡ was_listed n → IsTrue was ↔ (1 ≤ n)
at_least_once zero was is = ((λ t. absurd (let no : true ≡ false = sym t ∙ is in cc)), (λ once. absurd (omega (arith, once))))
at_least_once (suc n) was is = ((λ t. omega arith), (λ once. is))

module _ (tally : Tally) (times : List ℕ → ℕ) (are : Tallies tally times) (Holds Fails : List ℕ → Type 0) where
  abbrev names : List Listed
  names = tally.again.keys

  abbrev Passes : Listed → Type 0
  Passes listed = Holds listed.name.now

  abbrev Stops : Listed → Type 0
  Stops listed = Fails listed.name.now

  -- what each of them passes holds of each such name
  each_holds : AllWithin Passes names 0 (length names) → (name : List ℕ) → 1 < times name → Holds name
  each_holds all name more =
      let found = Any-from_list_any (λ listed. bytes_eq name listed.name.now) names (are.repeated name ∙ once_repeated (times name) more) in
      let same : name ≡ found.1.name.now = (bytes_decides name found.1.name.now).0 found.4 in
      let passes : Passes found.1 = subst Passes found.3 (all found.0 found.1 (omega arith) found.2) in
      subst Holds (sym same) passes

  -- one that stops is such a name
  one_fails : (k : ℕ) × (k < length names) × HoldsAt Stops names k → (name : List ℕ) × (1 < times name) × Fails name
  one_fails at =
      let listed = element_at names at.0 at.1 in
      let is : get_or names at.0 listed.0 ≡ listed.0 = get_or_from_slice_get names at.0 listed.0 listed.0 listed.1 in
      let stops : Stops listed.0 = subst Stops is (at.2 listed.0) in
      let name = listed.0.name.now in
      let own : bytes_eq name (get_or names at.0 listed.0).name.now ≡ true = ap (λ (x : Listed). bytes_eq name x.name.now) is ∙ (bytes_decides name name).1 refl in
      let among = list_any_at (λ other. bytes_eq name other.name.now) names at.0 listed.0 at.1 own in
      (name, more_than_once (times name) (sym (are.repeated name) ∙ among), stops)

  pub repeated_all : (r : Bool)
      → MatchBool r (AllWithin Passes names 0 (length names)) ((k : ℕ) × (k < length names) × HoldsAt Stops names k)
      → MatchBool r ((name : List ℕ) → 1 < times name → Holds name) ((name : List ℕ) × (1 < times name) × Fails name)
  repeated_all true all = each_holds all
  repeated_all false some = one_fails some
