-- What was judged of an action that did not fail, and of one that did, is judged of what came of it.
use Rattle.std.proofs.Common.{◌≡◌, ℕ, ℤ, Bool, List, [], ◌∷◌, refl, sym, ap, subst, ◌∙◌, inl, inr, arith}
use Rattle.std.specs.FinMap.{FinMap}
use Rattle.fa_capture.specs.Checks.{AllHold, FirstFailure}
use Rattle.fa_capture.specs.declared.codes.TheConstants.{SUCCESS_NOT_ALLOWED, ERROR_WITHOUT_CAUSE, ATTRIBUTES, NODE_ID_OF_ANOTHER, BYTES_READ, LISTING}
use Rattle.fa_ledger.specs.declared.operation.Outcome.{Outcome}
use Rattle.fa_ledger.specs.declared.operation.Outcome.TheVariants.{Fails, Succeeds, Unanswered}
use Rattle.fa_bodies.specs.Dirents.{PlainDirent}
use Rattle.fa_ledger.specs.declared.name.NodeName.{NodeName}
use Rattle.fa_ledger.specs.Calls.{PlainCall}
use Rattle.fa_ledger.specs.Operations.{PlainAction, PlainOperation, action_ended, bare, ended}
use Rattle.fa_ledger.specs.Operations.PlainOperation.{Lists, Acts}
use Rattle.fa_ledger.specs.Operations.PlainAction.{Lookup, Getattr, Setattr, Readlink, Symlink, Mknod, Mkdir, Link, Read, Create}
use Rattle.fa_tree.specs.declared.id.FileId.{FileId}
use Rattle.fa_tree.specs.State.{Store, node_cmp}
use Rattle.fa_tree.specs.Resolved.{Resolved}
use Rattle.fa_tree.specs.Rules.{Rule, Said, HasCause, nothing_said, attributes_said, bytes_said, entry_said, if_done}
use Rattle.fa_tree.specs.Contents.{IsReadFrom}
use Rattle.fa_tree.specs.Lookups.{IsTargetOf, found_said}
use Rattle.fa_tree.specs.Bindings.{AreBound, bound}
use Rattle.fa_tree.specs.Directories.{entries_said, list_said}
use Rattle.fa_tree.specs.Operations.{Setting, action_said, said}
use Rattle.fa_tree.specs.Steps.{names_given, setting, given_in, UnlessFailed, IfFailed}
use Rattle.fa_tree.proofs.BindingLemmas.{bound_to_none}

-- no success
abbrev IsNoSuccess : Outcome (Unit {0}) → Type 0
IsNoSuccess (Fails error) = Unit {0}
IsNoSuccess (Succeeds success) = ⊥
IsNoSuccess Unanswered = Unit {0}

-- what holds of what each success says, and where nothing is said, holds of what is said
if_done_holds : {A : Type 0} (o : Outcome A) (says : A → Said) (Such : Said → Type 0) → Such nothing_said → ((success : A) → Such (says success)) → Such (if_done o says)
if_done_holds (Fails error) says Such nothing each = nothing
if_done_holds (Succeeds success) says Such nothing each = each success
if_done_holds Unanswered says Such nothing each = nothing

-- where it was no success, nothing is said
no_success : {A : Type 0} (o : Outcome A) (says : A → Said) (e : Outcome (Unit {0})) → IsNoSuccess e → bare o ≡ e → ◌≡◌ {A = Said} (if_done o says) nothing_said
no_success (Fails error) says e not is = refl
no_success (Succeeds success) says e not is = absurd (subst IsNoSuccess (sym is) not)
no_success Unanswered says e not is = refl

-- no action lists
pub acts_list_nothing : (before after : Store) (x : Resolved) (direct : Bool) (a : PlainAction) → (action_said before after x direct a).listing
acts_list_nothing before after x direct (Lookup name o) = if_done_holds o (found_said before after x.node name) (λ (d : Said). d.listing) tt (λ success. tt)
acts_list_nothing before after x direct (Getattr o) = if_done_holds o (λ out. attributes_said after x.node out.attr) (λ (d : Said). d.listing) tt (λ success. tt)
acts_list_nothing before after x direct (Setattr set o) = if_done_holds o (λ out. attributes_said after x.node out.attr) (λ (d : Said). d.listing) tt (λ success. tt)
acts_list_nothing before after x direct (Readlink o) = if_done_holds o (λ target. bytes_said (IsTargetOf after x.node target)) (λ (d : Said). d.listing) tt (λ success. tt)
acts_list_nothing before after x direct (Symlink name target o) = if_done_holds o (entry_said after x.node name) (λ (d : Said). d.listing) tt (λ success. tt)
acts_list_nothing before after x direct (Mknod mode umask name o) = if_done_holds o (entry_said after x.node name) (λ (d : Said). d.listing) tt (λ success. tt)
acts_list_nothing before after x direct (Mkdir mode umask name o) = if_done_holds o (entry_said after x.node name) (λ (d : Said). d.listing) tt (λ success. tt)
acts_list_nothing before after x direct (Link new_name o) = if_done_holds o (entry_said after x.node new_name) (λ (d : Said). d.listing) tt (λ success. tt)
acts_list_nothing before after x direct (Read offset size o) = if_done_holds o (λ bytes. bytes_said (IsReadFrom after x.node direct offset size bytes)) (λ (d : Said). d.listing) tt (λ success. tt)
acts_list_nothing before after x direct (Create flags mode umask name o) = if_done_holds o (λ made. entry_said after x.node name made.0) (λ (d : Said). d.listing) tt (λ success. tt)
acts_list_nothing before after x direct other = tt

-- an action of which no success came says nothing
acts_say_nothing : (before after : Store) (x : Resolved) (direct : Bool) (a : PlainAction) (e : Outcome (Unit {0})) → IsNoSuccess e → action_ended a ≡ e
    → ◌≡◌ {A = Said} (action_said before after x direct a) nothing_said
acts_say_nothing before after x direct (Lookup name o) e not is = no_success o (found_said before after x.node name) e not is
acts_say_nothing before after x direct (Getattr o) e not is = no_success o (λ out. attributes_said after x.node out.attr) e not is
acts_say_nothing before after x direct (Setattr set o) e not is = no_success o (λ out. attributes_said after x.node out.attr) e not is
acts_say_nothing before after x direct (Readlink o) e not is = no_success o (λ target. bytes_said (IsTargetOf after x.node target)) e not is
acts_say_nothing before after x direct (Symlink name target o) e not is = no_success o (entry_said after x.node name) e not is
acts_say_nothing before after x direct (Mknod mode umask name o) e not is = no_success o (entry_said after x.node name) e not is
acts_say_nothing before after x direct (Mkdir mode umask name o) e not is = no_success o (entry_said after x.node name) e not is
acts_say_nothing before after x direct (Link new_name o) e not is = no_success o (entry_said after x.node new_name) e not is
acts_say_nothing before after x direct (Read offset size o) e not is = no_success o (λ bytes. bytes_said (IsReadFrom after x.node direct offset size bytes)) e not is
acts_say_nothing before after x direct (Create flags mode umask name o) e not is = no_success o (λ made. entry_said after x.node name made.0) e not is
acts_say_nothing before after x direct other e not is = refl

pub errors_say_nothing : (before after : Store) (x : Resolved) (direct : Bool) (a : PlainAction) (error : ℤ) → action_ended a ≡ Fails error
    → ◌≡◌ {A = Said} (action_said before after x direct a) nothing_said
errors_say_nothing before after x direct a error is = acts_say_nothing before after x direct a (Fails error) tt is

-- nor does any operation
says_nothing : (g : Setting) (o : PlainOperation) (e : Outcome (Unit {0})) → IsNoSuccess e → ended o ≡ e → ◌≡◌ {A = Said} (said g o) nothing_said
says_nothing g (Lists l) e not is = no_success l.outcome (entries_said g.after l.size g.files.handle g.listing g.so_far) e not is
says_nothing g (Acts a) e not is = acts_say_nothing g.before g.after g.files g.direct a e not is

-- so an error gives no name
pub errors_give_nothing : (g : Setting) (call : PlainCall) (o : PlainOperation) (error : ℤ) → ended o ≡ Fails error → given_in g call o ≡ []
errors_give_nothing g call o error is =
    ap (λ (d : Said). bound (names_given call) d.files) (says_nothing g o (Fails error) tt is) ∙ bound_to_none (names_given call)

-- and a request that was not answered says nothing
pub unanswered_says_nothing : (g : Setting) (o : PlainOperation) → ended o ≡ Unanswered → ◌≡◌ {A = Said} (said g o) nothing_said
unanswered_says_nothing g o is = says_nothing g o Unanswered tt is

-- what was listed so far has no part in the names that are given
pub given_whatever : (s : Store) (x : Resolved) (call : PlainCall) (o : PlainOperation) (count : ℕ) (so_far : List PlainDirent)
    → given_in (setting s x call o count so_far) call o ≡ given_in (setting s x call o count []) call o
given_whatever s x call (Acts a) count so_far = refl
given_whatever s x call (Lists l) count so_far = by l.outcome
  where
    by : (o : Outcome (List PlainDirent))
        → bound (names_given call) (list_said s l.size x.handle call.listing so_far o).files ≡ bound (names_given call) (list_said s l.size x.handle call.listing [] o).files
    by (Fails error) = refl
    by (Succeeds entries) = refl
    by Unanswered = refl

-- no name is given for a file where none are
pub none_bound : (nodes : FinMap node_cmp FileId) → AreBound nodes []
none_bound nodes = record {
  known = λ name file other has is. absurd (omega (arith, has.1));
  one = λ name file other has also. absurd (omega (arith, has.1));
}

module _ (nodes : FinMap node_cmp FileId) (r : Rule) (d : Said) (names : List NodeName) where
  -- the checks of an operation of such a rule, whose answer says this and gives these names, by what came of it
  abbrev by_outcome : Outcome (Unit {0}) → List (ℕ × Type 0)
  by_outcome e =
      (SUCCESS_NOT_ALLOWED, UnlessFailed e (r.needs × d.found))
      ∷ (ERROR_WITHOUT_CAUSE, IfFailed e (HasCause r))
      ∷ (ATTRIBUTES, d.attributes)
      ∷ (NODE_ID_OF_ANOTHER, AreBound nodes (bound names d.files))
      ∷ (BYTES_READ, d.bytes)
      ∷ (LISTING, d.listing)
      ∷ []

  -- the same where it did not fail, and lists nothing
  abbrev when_done : List (ℕ × Type 0)
  when_done = (SUCCESS_NOT_ALLOWED, r.needs × d.found) ∷ (ATTRIBUTES, d.attributes) ∷ (NODE_ID_OF_ANOTHER, AreBound nodes (bound names d.files)) ∷ (BYTES_READ, d.bytes) ∷ []

  -- it did not fail
  abbrev IsNoError : Outcome (Unit {0}) → Type 0
  IsNoError e = (error : ℤ) → e ≡ Fails error → ⊥

  pub done_hold : (e : Outcome (Unit {0})) → IsNoError e → d.listing → AllHold when_done → AllHold (by_outcome e)
  done_hold (Fails error) not listing hold = absurd (not error refl)
  done_hold (Succeeds success) not listing hold = (hold.0, (tt, (hold.1.0, (hold.1.1.0, (hold.1.1.1.0, (listing, tt))))))
  done_hold Unanswered not listing hold = (hold.0, (tt, (hold.1.0, (hold.1.1.0, (hold.1.1.1.0, (listing, tt))))))

  fail_later : (code : ℕ) → FirstFailure when_done code
      → FirstFailure ((SUCCESS_NOT_ALLOWED, r.needs × d.found) ∷ (ERROR_WITHOUT_CAUSE, Unit {0}) ∷ (ATTRIBUTES, d.attributes) ∷ (NODE_ID_OF_ANOTHER, AreBound nodes (bound names d.files)) ∷ (BYTES_READ, d.bytes) ∷ (LISTING, d.listing) ∷ []) code
  fail_later code (inl first) = inl first
  fail_later code (inr (allowed, inl first)) = inr (allowed, inr (tt, inl first))
  fail_later code (inr (allowed, inr (fits, inl first))) = inr (allowed, inr (tt, inr (fits, inl first)))
  fail_later code (inr (allowed, inr (fits, inr (may, inl first)))) = inr (allowed, inr (tt, inr (fits, inr (may, inl first))))
  fail_later code (inr (allowed, inr (fits, inr (may, inr (read, none))))) = absurd none

  pub done_fail : (e : Outcome (Unit {0})) → IsNoError e → (code : ℕ) → FirstFailure when_done code → FirstFailure (by_outcome e) code
  done_fail (Fails error) not code failure = absurd (not error refl)
  done_fail (Succeeds success) not code failure = fail_later code failure
  done_fail Unanswered not code failure = fail_later code failure

  -- what did not fail and was judged may be done
  pub done_needs : (e : Outcome (Unit {0})) → IsNoError e → AllHold (by_outcome e) → r.needs
  done_needs (Fails error) not hold = absurd (not error refl)
  done_needs (Succeeds success) not hold = hold.0.0
  done_needs Unanswered not hold = hold.0.0

  -- an error with a cause, which says nothing
  pub error_hold : (e : Outcome (Unit {0})) (error : ℤ) → e ≡ Fails error → ◌≡◌ {A = Said} d nothing_said → HasCause r error → AllHold (by_outcome e)
  error_hold e error fails nothing caused = (
    subst (λ (w : Outcome (Unit {0})). UnlessFailed w (r.needs × d.found)) (sym fails) tt,
    (
      subst (λ (w : Outcome (Unit {0})). IfFailed w (HasCause r)) (sym fails) caused,
      (
        subst (λ (s : Said). s.attributes) (sym nothing) tt,
        (
          subst (λ (s : Said). AreBound nodes (bound names s.files)) (sym nothing) (subst (AreBound nodes) (sym (bound_to_none names)) (none_bound nodes)),
          (subst (λ (s : Said). s.bytes) (sym nothing) tt, (subst (λ (s : Said). s.listing) (sym nothing) tt, tt)),
        ),
      ),
    ),
  )

  -- and one without
  pub error_fail : (e : Outcome (Unit {0})) (error : ℤ) → e ≡ Fails error → (HasCause r error → ⊥) → FirstFailure (by_outcome e) ERROR_WITHOUT_CAUSE
  error_fail e error fails not =
      subst (λ (w : Outcome (Unit {0})). FirstFailure (by_outcome w) ERROR_WITHOUT_CAUSE) (sym fails) (inr (tt, inl (not, refl)))
