-- For which file an answer gives a name, and whether it may.
use Rattle.std.proofs.Common.{◌≡◌, ℕ, ◌<◌, ◌≤◌, zero, suc, Bool, List, [], ◌∷◌, length, slice_get, Option, None, Some, refl, sym, ap, subst, ◌∙◌, arith}
use Rattle.std.specs.Prelude.{◌↔◌, IsTrue, Contains}
use Rattle.std.proofs.lemmas.Option.{get_or_from_slice_get, slice_get_read}
use Rattle.std.specs.FinMap.{FinMap, get}
use Rattle.fa_ledger.specs.declared.name.NodeName.{NodeName}
use Rattle.fa_ledger.specs.Operations.{PlainAction}
use Rattle.fa_ledger.specs.Operations.PlainOperation.{Acts}
use Rattle.fa_tree.specs.declared.id.FileId.{FileId}
use Rattle.fa_tree.specs.contracts.id.FileIdPartialEq.TheImpl as derived
use Rattle.fa_tree.specs.State.{TreeState, node_cmp}
use Rattle.fa_tree.specs.Resolved.{Resolved}
use Rattle.fa_tree.specs.Bindings.{AreBound, bound}
use Rattle.fa_tree.specs.Operations.{action_rule, action_said, changed}
use Rattle.fa_tree.specs.parts.FileIdLaws.{same_equal, equal_tested}
use Rattle.fa_tree.specs.parts.FactParts.{AreFilesGiven}
use Rattle.fa_tree.proofs.NodeLemmas.{AreSeen}

-- ---- the file that an answer gives

-- what is told of it in a state is told in the same state
pub still_told : (t u : TreeState) → t ≡ u → (x : Resolved) (truncates direct : Bool) (a : PlainAction) (count : ℕ) (file : Option FileId)
    → ((action_rule t.store x a).needs → AreFilesGiven (action_said t.store (changed t.store x truncates (Acts a) count) x direct a).files file)
    → (action_rule u.store x a).needs → AreFilesGiven (action_said u.store (changed u.store x truncates (Acts a) count) x direct a).files file
still_told t u same x truncates direct a count file told =
    subst (λ (v : TreeState). (action_rule v.store x a).needs → AreFilesGiven (action_said v.store (changed v.store x truncates (Acts a) count) x direct a).files file) same told

-- ---- names with their files

-- no file, no name
pub bound_to_none : (names : List NodeName) → bound names [] ≡ []
bound_to_none [] = refl
bound_to_none (name ∷ names) = refl

-- nor where it is looked up in vain
bound_in_vain : (names : List NodeName) → bound names (None ∷ []) ≡ []
bound_in_vain [] = refl
bound_in_vain (name ∷ names) = bound_to_none names

-- one file goes with the first name
bound_to_one : (names : List NodeName) (name : NodeName) (file : FileId) → slice_get names 0 ≡ Some name → bound names (Some file ∷ []) ≡ (name, file) ∷ []
bound_to_one [] name file is = absurd cc
bound_to_one (first ∷ names) name file is =
    let same : first ≡ name = cc in
    ap (λ rest. (first, file) ∷ rest) (bound_to_none names) ∙ ap (λ n. (n, file) ∷ []) same

-- where no file is given, no name is
pub given_in_vain : (names : List NodeName) (files : List (Option FileId)) → AreFilesGiven files None → bound names files ≡ []
given_in_vain names [] is = bound_to_none names
given_in_vain names (one ∷ files) is =
    ap (λ (fs : List (Option FileId)). bound names fs) (λ i. sym is.0 i ∷ is.1 i) ∙ bound_in_vain names

-- nor where the answer has none
pub given_no_name : (names : List NodeName) (files : List (Option FileId)) → slice_get names 0 ≡ None → bound names files ≡ []
given_no_name [] files none = refl
given_no_name (name ∷ names) files none = absurd cc

-- the file that is given goes with the first name
pub given_for_one : (names : List NodeName) (files : List (Option FileId)) (name : NodeName) (file : FileId) → AreFilesGiven files (Some file) → slice_get names 0 ≡ Some name
    → bound names files ≡ (name, file) ∷ []
given_for_one names [] name file is first = absurd cc
given_for_one names (one ∷ files) name file is first =
    ap (λ (fs : List (Option FileId)). bound names fs) (λ i. sym is.0 i ∷ is.1 i) ∙ bound_to_one names name file first

-- ---- whether a name may be given

-- what is in a list of one is that one
only_one : (one other : NodeName × FileId) → Contains (one ∷ []) other → other ≡ one
only_one one other (zero, less, is) = sym is
only_one one other (suc k, less, is) = absurd (omega (arith, less))

-- a name may be given for the file that it stands for, if it stands for one
may_be_given : (nodes : FinMap node_cmp FileId) (name : NodeName) (file : FileId) → ((other : FileId) → get nodes name ≡ Some other → file ≡ other)
    → AreBound nodes ((name, file) ∷ [])
may_be_given nodes name file same = record {
  known = λ n f other there is.
      let own = only_one (name, file) (n, f) there in
      ap (λ (p : NodeName × FileId). p.1) own ∙ same other (subst (λ (p : NodeName × FileId). get nodes p.0 ≡ Some other) own is);
  one = λ n f other there also.
      ap (λ (p : NodeName × FileId). p.1) (only_one (name, file) (n, f) there ∙ sym (only_one (name, file) (n, other) also));
}

-- whether the file that a name stands for is the one for which it is given
pub may_be_bound : (nodes : FinMap node_cmp FileId) (name : NodeName) (file other : FileId) (told : Bool) → get nodes name ≡ Some other → told ≡ derived.eq-value.it other file
    → IsTrue told ↔ AreBound nodes ((name, file) ∷ [])
may_be_bound nodes name file other told is equal = (
  λ t. may_be_given nodes name file (λ o found. sym (same_equal other file (sym equal ∙ t)) ∙ (let both : Some other ≡ Some o = sym is ∙ found in cc)),
  λ may. equal ∙ equal_tested other file (sym (may.known name file other (0, omega (arith), refl) is)),
)

-- ---- whether names may be given

-- what stands in a list is in it, and the other way round
stands_in : (given : List (NodeName × FileId)) (p : NodeName × FileId) → Contains given p → (k : ℕ) × (k < length given) × (slice_get given k ≡ Some p)
stands_in given p (k, less, is) = (k, less, slice_get_read given (length given) k p refl less (sym is))

is_in : (given : List (NodeName × FileId)) (k : ℕ) (p : NodeName × FileId) → k < length given → slice_get given k ≡ Some p → Contains given p
is_in given k p less is = (k, less, get_or_from_slice_get given k p p is)

-- names that a table has all of may be given
pub all_may_be : (nodes seen : FinMap node_cmp FileId) (given : List (NodeName × FileId)) (i : ℕ) → length given ≤ i → AreSeen nodes seen given i → AreBound nodes given
all_may_be nodes seen given i past are = record {
  known = λ name file other within stands.
      let there = stands_in given (name, file) within in
      let less = there.1 in
      are.known there.0 (name, file) (omega arith) there.2 other stands;
  one = λ name file other within also.
      let there = stands_in given (name, file) within in
      let again = stands_in given (name, other) also in
      let less = there.1 in
      let later = again.1 in
      let both = sym (are.found there.0 (name, file) (omega arith) there.2) ∙ are.found again.0 (name, other) (omega arith) again.2 in
      cc;
}

-- one of names that may be given may be
pub one_may_be : (nodes : FinMap node_cmp FileId) (given : List (NodeName × FileId)) (i : ℕ) (one : NodeName × FileId) → i < length given → slice_get given i ≡ Some one
    → AreBound nodes given → (other : FileId) → get nodes one.0 ≡ Some other → one.1 ≡ other
one_may_be nodes given i one less there may other stands = may.known one.0 one.1 other (is_in given i one less there) stands

-- and does not contradict those before it
pub one_may_follow : (nodes seen : FinMap node_cmp FileId) (given : List (NodeName × FileId)) (i : ℕ) (one : NodeName × FileId) → i < length given → slice_get given i ≡ Some one
    → AreSeen nodes seen given i → AreBound nodes given → (other : FileId) → get seen one.0 ≡ Some other → one.1 ≡ other
one_may_follow nodes seen given i one less there are may other stands =
    let was = are.only one.0 other stands in
    let before = was.1 in
    may.one one.0 one.1 other (is_in given i one less there) (is_in given was.0 (one.0, other) (omega arith) was.2)
