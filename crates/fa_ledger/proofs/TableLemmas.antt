-- What a table has after a write, in the words of the steps.
use Rattle.std.proofs.Common.{◌≡◌, ℕ, Bool, true, false, cond, List, Option, None, Some, Result, Ok, Err, refl, sym, ◌∙◌, arith}
use Rattle.std.specs.Prelude.{◌==◌, ◌&&◌, nat_eq, IsOk, OnOk, OnErr, IfErr}
use Rattle.std.proofs.lemmas.Bool.Decides.{nat_tests}
use Rattle.std.specs.Map.{lookup}
use Rattle.fa_capture.proofs.CallerLemmas.{found_alike}
use Rattle.fa_ledger.specs.contracts.key.KeyPartialEq.TheImpl as derived
use Rattle.fa_ledger.specs.contracts.key.HandleKindPartialEq.TheImpl as derived_kind
use Rattle.fa_ledger.specs.contracts.name.NodeNamePartialEq.TheImpl as derived_name
use Rattle.fa_ledger.specs.declared.handles.Handle.{Handle}
use Rattle.fa_ledger.specs.declared.key.HandleKind.{HandleKind}
use Rattle.fa_ledger.specs.declared.key.HandleKind.TheVariants.{File, Directory}
use Rattle.fa_ledger.specs.declared.key.Key.{Key}
use Rattle.fa_ledger.specs.declared.name.NodeName.{NodeName}
use Rattle.fa_ledger.specs.declared.name.NodeName.TheVariants.{Root, Given}
use Rattle.fa_ledger.specs.Keys.{key_eq, name_eq, kind_eq}
use Rattle.fa_ledger.specs.parts.Steps.{closed_once}

-- an insertion that fails only where this holds, and where this holds does not fail
pub inserted : {A E : Type 0} (r : Result A E) (Absent : Type 0) → OnErr r Absent → (Absent → IsOk r) → IsOk r
inserted (Ok v) Absent fails room = refl
inserted (Err e) Absent fails room = room fails

-- what an insertion that did not fail ensures
pub wrote_ok : {A E : Type 0} (r : Result A E) (Wrote : Type 0) (v : A) → r ≡ Ok v → OnOk r Wrote → Wrote
wrote_ok (Ok v) Wrote w is wrote = wrote
wrote_ok (Err e) Wrote w is wrote = absurd cc

-- ---- the derived equality of keys is that of the definitions

numbers_alike : (m n : ℕ) → nat_eq m n ≡ (m == n)
numbers_alike m n = grind (arith, nat_tests)

names_alike : (a b : NodeName) → derived_name.eq-value.it a b ≡ name_eq a b
names_alike Root Root = refl
names_alike Root (Given by id) = refl
names_alike (Given by id) Root = refl
names_alike (Given by id) (Given since other) = rw (numbers_alike id other, numbers_alike by since) refl

kinds_alike : (a b : HandleKind) → derived_kind.eq-value.it a b ≡ kind_eq a b
kinds_alike File File = refl
kinds_alike File Directory = refl
kinds_alike Directory File = refl
kinds_alike Directory Directory = refl

both_ways : (a b c : Bool) → (a && (b && c)) ≡ (a && b && c)
both_ways true b c = refl
both_ways false b c = refl

keys_alike : (a b : Key) → derived.eq-value.it a b ≡ key_eq a b
keys_alike a b =
    rw (names_alike a.node b.node, numbers_alike a.fh b.fh, kinds_alike a.kind b.kind)
    (both_ways (name_eq a.node b.node) (a.fh == b.fh) (kind_eq a.kind b.kind))

-- what a table has at a key
pub at_key : {V : Type 0} (key : Key) (es : List (Key × V)) → lookup (derived.eq-value.it key) es ≡ lookup (key_eq key) es
at_key key es = found_alike (derived.eq-value.it key) (key_eq key) es (keys_alike key)

-- what a table has at each key after a write at one
pub after_write : {V : Type 0} (key : Key) (old new : List (Key × V)) (w x : Option V) → w ≡ x
    → ((other : Key) → lookup (derived.eq-value.it other) new ≡ cond (derived.eq-value.it key other) w (lookup (derived.eq-value.it other) old))
    → (other : Key) → lookup (key_eq other) new ≡ cond (key_eq key other) x (lookup (key_eq other) old)
after_write key old new w x same wrote other =
    sym (at_key other new) ∙ wrote other ∙ (rw (keys_alike key other, at_key other old, same) refl)

-- nothing is left of a key that is not open
pub nothing_closed : (x : Option Handle) (h : Handle) → x ≡ None → closed_once x ≡ Some h → ⊥
nothing_closed None h none some = absurd cc
nothing_closed (Some x) h none some = absurd cc

-- ---- results

-- what holds either way holds at an error
pub either_way : {A E : Type 0} (r : Result A E) {P : Type 0} → P → OnErr r P
either_way (Ok v) holds = tt
either_way (Err e) holds = holds

-- what a result ensures ensures what follows from it
pub ok_also : {A E : Type 0} (r : Result A E) (P Q : Type 0) → (P → Q) → OnOk r P → OnOk r Q
ok_also (Ok v) P Q so holds = so holds
ok_also (Err e) P Q so holds = tt

pub err_also : {A E : Type 0} (r : Result A E) (P Q : E → Type 0) → ((e : E) → P e → Q e) → IfErr r P → IfErr r Q
err_also (Ok v) P Q so holds = tt
err_also (Err e) P Q so holds = so e holds
