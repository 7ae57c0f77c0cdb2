-- What was judged of a listing in the store is judged of it in the tree; and the checks of entries are those of the call.
use Rattle.std.proofs.Common.{◌≡◌, ◌==◌, ℕ, ℤ, Bool, false, true, List, [], ◌∷◌, length, Option, None, Some, Result, Ok, Err, arith, eqb-true, refl, sym, subst, ap, ◌∙◌, inl, inr}
use Rattle.std.specs.Prelude.{◌↔◌, All, IsTrue, IfOk}
use Rattle.std.specs.FinMap.{FinMap}
use Rattle.fa_capture.specs.Checks.{AllHold, FirstFailure}
use Rattle.fa_capture.specs.declared.codes.TheConstants.{UNKNOWN_HERE, SUCCESS_NOT_ALLOWED, ERROR_WITHOUT_CAUSE}
use Rattle.fa_bodies.specs.Dirents.{PlainDirent}
use Rattle.fa_ledger.specs.declared.call.Listing.{Listing}
use Rattle.fa_ledger.specs.declared.name.NodeName.{NodeName}
use Rattle.fa_ledger.specs.declared.operation.Outcome.{Outcome}
use Rattle.fa_ledger.specs.declared.operation.Outcome.TheVariants.{Fails, Succeeds, Unanswered}
use Rattle.fa_ledger.specs.Calls.{PlainCall}
use Rattle.fa_ledger.specs.Operations.{PlainList, PlainOperation, bare}
use Rattle.fa_ledger.specs.Operations.PlainOperation.{Lists}
use Rattle.fa_tree.specs.declared.id.FileId.{FileId}
use Rattle.fa_tree.specs.State.{Store, OpenDirectory, TreeState, IsDirectory, node_cmp}
use Rattle.fa_tree.specs.Resolved.{Resolved, resolved}
use Rattle.fa_tree.specs.Rules.{HasCause}
use Rattle.fa_tree.specs.Opening.{directory_rule}
use Rattle.fa_tree.specs.Directories.{judged, IsTypedIfLookedUp, IsListed, EntriesAre}
use Rattle.fa_tree.specs.Bindings.{AreBound, nodes_after}
use Rattle.fa_tree.specs.Operations.{count_written}
use Rattle.fa_tree.specs.declared.error.StepError.{StepError}
use Rattle.fa_tree.specs.declared.error.StepError.TheVariants.{Refused, Memory}
use Rattle.fa_tree.specs.Steps.{names_given, setting, given_in, operation_checks, checks_of_files, step_checks, tree_after, Steps}
use Rattle.fa_tree.specs.Refusals.{DoneAnd, TellsBy, TellsOf}
use Rattle.fa_tree.proofs.StepLemmas.{refused_so, steps_so}
use Rattle.fa_tree.proofs.ChangedLemmas.{stays_open}
use Rattle.fa_tree.proofs.BindingLemmas.{bound_to_none}
use Rattle.fa_tree.proofs.OutcomeLemmas.{none_bound}
use Rattle.fa_tree.specs.parts.StoredParts.{StoredShown}
use Rattle.fa_tree.specs.parts.ListingParts.{settled, entries_checks, TellsSuch}

pub entries_still : {E : Type 0} (r : Result Bool E) (t u : TreeState) → t ≡ u → (size : ℕ) (h : OpenDirectory)
    (of : Option Listing) (listing : Listing) (so_far entries : List PlainDirent) → of ≡ Some listing
    → IfOk r (λ is. IsTrue is ↔ IsListed t.store h listing size so_far entries)
    → IfOk r (λ is. IsTrue is ↔ EntriesAre u.store size (Some h) of so_far entries)
entries_still r t u same size h of listing so_far entries also told =
    rw (also) (subst (λ (v : TreeState). IfOk r (λ b. IsTrue b ↔ IsListed v.store h listing size so_far entries)) same told)

pub types_still : (t u : TreeState) → t ≡ u → (directory : FileId) (entries : List PlainDirent) (b : Bool)
    → IsTrue b ↔ All (IsTypedIfLookedUp t.store directory) (judged entries) → IsTrue b ↔ All (IsTypedIfLookedUp u.store directory) (judged entries)
types_still t u same directory entries b told =
    subst (λ (v : TreeState). IsTrue b ↔ All (IsTypedIfLookedUp v.store directory) (judged entries)) same told

-- ---- the checks of a call that lists, by what came of it

module _ (nodes : FinMap node_cmp FileId) (s : Store) (x : Resolved) (call : PlainCall) (so_far : List PlainDirent) where
  -- the checks of a list with this size, of which this came
  abbrev checks : (size : ℕ) → Outcome (List PlainDirent) → List (ℕ × Type 0)
  checks size o = operation_checks nodes (settled s x call.listing so_far) call (Lists (record { size = size; outcome = o }))

  -- the names that come with it
  abbrev names : (size : ℕ) → Outcome (List PlainDirent) → List (NodeName × FileId)
  names size o = given_in (settled s x call.listing so_far) call (Lists (record { size = size; outcome = o }))

  module _ (size : ℕ) (o : Outcome (List PlainDirent)) where
    module _ (entries : List PlainDirent) (is : o ≡ Succeeds entries) where
      -- entries hold where their checks do
      pub entries_hold : AllHold (entries_checks nodes s x call.listing size so_far (names_given call) entries) → AllHold (checks size o)
      entries_hold hold =
          subst (λ (w : Outcome (List PlainDirent)). AllHold (checks size w)) (sym is)
          ((hold.0, tt), (tt, (hold.1.0, (hold.1.1.0, (tt, (hold.1.1.1.0, tt))))))

      entries_fail_by : (code : ℕ) → FirstFailure (entries_checks nodes s x call.listing size so_far (names_given call) entries) code → FirstFailure (checks size (Succeeds entries)) code
      entries_fail_by code (inl (not, told)) = inl ((λ all. not all.0), told)
      entries_fail_by code (inr (done, inl first)) = inr ((done, tt), inr (tt, inl first))
      entries_fail_by code (inr (done, inr (typed, inl first))) = inr ((done, tt), inr (tt, inr (typed, inl first)))
      entries_fail_by code (inr (done, inr (typed, inr (may, inl first)))) = inr ((done, tt), inr (tt, inr (typed, inr (may, inr (tt, inl first)))))
      entries_fail_by code (inr (done, inr (typed, inr (may, inr (listed, none))))) = absurd none

      -- and fail where one of these does
      pub entries_fail : (code : ℕ) → FirstFailure (entries_checks nodes s x call.listing size so_far (names_given call) entries) code → FirstFailure (checks size o) code
      entries_fail code failure =
          subst (λ (w : Outcome (List PlainDirent)). FirstFailure (checks size w) code) (sym is) (entries_fail_by code failure)

      pub entries_grow : DoneAnd (bare o) (Unit {0})
      entries_grow = subst (λ (w : Outcome (List PlainDirent)). DoneAnd (bare w) (Unit {0})) (sym is) tt

    -- an error
    module _ (error : ℤ) (is : o ≡ Fails error) where
      pub error_holds : HasCause (directory_rule s x.node) error → AllHold (checks size o)
      error_holds caused =
          subst (λ (w : Outcome (List PlainDirent)). AllHold (checks size w)) (sym is)
          (tt, (caused, (tt, (subst (AreBound nodes) (sym (bound_to_none (names_given call))) (none_bound nodes), (tt, (tt, tt))))))

      pub error_fails : (HasCause (directory_rule s x.node) error → ⊥) → FirstFailure (checks size o) ERROR_WITHOUT_CAUSE
      error_fails not =
          subst (λ (w : Outcome (List PlainDirent)). FirstFailure (checks size w) ERROR_WITHOUT_CAUSE) (sym is) (inr (tt, inl (not, refl)))

      pub error_gives : names size o ≡ []
      error_gives = ap (names size) is ∙ bound_to_none (names_given call)

    -- no answer
    module _ (is : o ≡ Unanswered) where
      pub unanswered_holds : IsDirectory s x.node → AllHold (checks size o)
      unanswered_holds may =
          subst (λ (w : Outcome (List PlainDirent)). AllHold (checks size w)) (sym is)
          ((may, tt), (tt, (tt, (subst (AreBound nodes) (sym (bound_to_none (names_given call))) (none_bound nodes), (tt, (tt, tt))))))

      pub unanswered_fails : (IsDirectory s x.node → ⊥) → FirstFailure (checks size o) SUCCESS_NOT_ALLOWED
      unanswered_fails not =
          subst (λ (w : Outcome (List PlainDirent)). FirstFailure (checks size w) SUCCESS_NOT_ALLOWED) (sym is) (inl ((λ all. not all.0), refl))

      pub unanswered_gives : names size o ≡ []
      unanswered_gives = ap (names size) is ∙ bound_to_none (names_given call)

    -- what gives names may take memory
    pub giving_may_grow : (items : List (NodeName × FileId)) → items ≡ names size o → (items ≡ [] → ⊥) → DoneAnd (bare o) (Unit {0})
    giving_may_grow items are some = by o refl
      where
        by : (w : Outcome (List PlainDirent)) → o ≡ w → DoneAnd (bare w) (Unit {0})
        by (Fails error) fails = absurd (some (are ∙ error_gives error fails))
        by (Succeeds entries) succeeds = tt
        by Unanswered none = tt

-- ---- refusals

-- a refusal with a code of which this holds
pub tells : (e : StepError) (code : ℕ) (Such : ℕ → Type 0) (may_come : Type 0) → e ≡ Refused code → Such code → TellsSuch e Such may_come
tells e code Such may_come is such = subst (λ x. TellsSuch x Such may_come) (sym is) such

-- what holds of each such code holds of the one that is told
pub such_also : (e : StepError) (P Q : ℕ → Type 0) (may_come may : Type 0) → ((code : ℕ) → P code → Q code) → (may_come → may) → TellsSuch e P may_come → TellsSuch e Q may
such_also (Refused code) P Q may_come may so grows holds = so code holds
such_also Memory P Q may_come may so grows holds = grows holds

-- ---- the step

-- the tree after a call that lists, with the names of nodes that come with it
abbrev pub listed_after : TreeState → List (NodeName × FileId) → TreeState
listed_after t given = record { store = t.store; nodes = nodes_after given t.nodes; handles = t.handles }

after_by : (t : TreeState) (x : Resolved) (call : PlainCall) (l : PlainList) (count : ℕ) (so_far : List PlainDirent)
    → tree_after t x call (Lists l) count ≡ listed_after t (given_in (settled t.store x call.listing so_far) call (Lists l))
after_by t x call l count so_far = by l.outcome
  where
    of : Outcome (List PlainDirent) → PlainOperation
    of o = Lists (record { size = l.size; outcome = o })

    by : (o : Outcome (List PlainDirent)) → tree_after t x call (of o) count ≡ listed_after t (given_in (settled t.store x call.listing so_far) call (of o))
    by (Fails error) = ap (listed_after t) (sym (bound_to_none (names_given call)))
    by (Succeeds entries) = λ i. record { store = t.store; nodes = nodes_after (given_in (settled t.store x call.listing so_far) call (of (Succeeds entries))) t.nodes; handles = stays_open t.handles i }
    by Unanswered = λ i. record { store = t.store; nodes = nodes_after (given_in (settled t.store x call.listing so_far) call (of Unanswered)) t.nodes; handles = stays_open t.handles i }

module _ (t : TreeState) (call : PlainCall) (l : PlainList) (asks : call.operation ≡ Lists l) (wrote : Option ℕ) (so_far : List PlainDirent) where
  -- a call that lists leaves the store, so it is judged as it is
  judged_so : (x : Resolved) → AllHold (operation_checks t.nodes (settled t.store x call.listing so_far) call (Lists l))
      → AllHold (operation_checks t.nodes (setting t.store x call (Lists l) (count_written (Lists l) wrote) so_far) call (Lists l))
  judged_so x hold = hold

  -- a refusal by the checks of what it lists is one by those of the call
  pub refused_by : (e : StepError) (x : Resolved) → resolved t call ≡ Some x
      → TellsSuch e (FirstFailure (operation_checks t.nodes (settled t.store x call.listing so_far) call (Lists l))) (DoneAnd (bare l.outcome) (Unit {0}))
      → TellsOf e call (step_checks t call wrote so_far)
  refused_by (Refused code) x is failure = refused_so t call (Lists l) asks wrote so_far x is code failure
  refused_by Memory x is may =
      subst (λ (o : PlainOperation). TellsBy Memory o (step_checks t call wrote so_far)) (sym asks) may

  -- a call that names what the tree does not know
  pub unknown_by : resolved t call ≡ None → FirstFailure (step_checks t call wrote so_far) UNKNOWN_HERE
  unknown_by is =
      subst (λ (o : PlainOperation). FirstFailure (checks_of_files t call o (count_written o wrote) so_far (resolved t call)) UNKNOWN_HERE) (sym asks)
      (subst (λ (files : Option Resolved). FirstFailure (checks_of_files t call (Lists l) (count_written (Lists l) wrote) so_far files) UNKNOWN_HERE) (sym is) (inl ((λ none. none), refl)))

  -- a call that lists leads from one tree to another
  pub lists_to : (new : TreeState) (x : Resolved) (given : List (NodeName × FileId)) → resolved t call ≡ Some x
      → AllHold (operation_checks t.nodes (settled t.store x call.listing so_far) call (Lists l))
      → given ≡ given_in (settled t.store x call.listing so_far) call (Lists l) → new ≡ listed_after t given → Steps t new call wrote so_far
  lists_to new x given is hold comes left =
      steps_so t call (Lists l) asks wrote so_far x is new (judged_so x hold) (left ∙ ap (listed_after t) comes ∙ sym (after_by t x call l (count_written (Lists l) wrote) so_far))

-- names of nodes that are bound in the tree's fields are bound in the tree
pub bound_tree : (old : TreeState) (stored : StoredShown) (before between nodes : FinMap node_cmp FileId) (given items : List (NodeName × FileId))
    → ◌≡◌ {A = TreeState} (record { store = stored.store; nodes = before; handles = stored.handles }) old → between ≡ before → given ≡ items → nodes ≡ nodes_after given between
    → ◌≡◌ {A = TreeState} (record { store = stored.store; nodes = nodes; handles = stored.handles }) (listed_after old items)
bound_tree old stored before between nodes given items same kept all now =
    subst (λ (v : TreeState). ◌≡◌ {A = TreeState} (record { store = stored.store; nodes = nodes; handles = stored.handles }) (listed_after v items)) same
    (rw (now, kept, all) refl)

-- a list of some length
pub some_of : {X : Type 0} (xs : List X) (n : ℕ) → n ≡ length xs → (n == 0) ≡ false → xs ≡ [] → ⊥
some_of [] n all is none = let zero_is : (0 == 0) ≡ false = subst (λ (k : ℕ). (k == 0) ≡ false) all is in absurd cc
some_of (x ∷ xs) n all is none = absurd cc

-- a list of no length
pub none_of : {X : Type 0} (xs : List X) (n : ℕ) → n ≡ length xs → (n == 0) ≡ true → xs ≡ []
none_of [] n all is = refl
none_of (x ∷ xs) n all is = let zero_is : n ≡ 0 = eqb-true n 0 is in absurd (omega (arith, all, zero_is))

-- what holds of what was answered
pub each_ok : {A E : Type 0} (r : Result A E) (P Q : A → Type 0) → ((a : A) → P a → Q a) → IfOk r P → IfOk r Q
each_ok (Ok a) P Q so holds = so a holds
each_ok (Err e) P Q so holds = tt
