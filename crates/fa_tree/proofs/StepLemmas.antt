-- The call at a place of a list, and what it lists.
use Rattle.std.proofs.Common.{◌≡◌, ◌<◌, ℕ, List, length, map, slice_get, slice_index_or, Option, None, Some, refl, sym, subst, ap, ◌∙◌, inr}
use Rattle.std.specs.Prelude.{option_map}
use Rattle.std.proofs.Math.Logic.{∥∥₁_elim}
use Rattle.std.proofs.lemmas.Option.{slice_get-map, slice_get-get_or, same_Some}
use Rattle.fa_capture.specs.Checks.{FirstFailure, AllHold}
use Rattle.fa_capture.specs.Message.{Message}
use Rattle.fa_bodies.specs.Replies.{PlainReply}
use Rattle.fa_bodies.specs.Requests.{PlainBody, PlainRequest}
use Rattle.fa_bodies.specs.Requests.PlainBody.{Readdir, Readdirplus}
use Rattle.fa_bodies.specs.Dirents.{PlainDirent}
use Rattle.fa_session.specs.Events.{PlainEvent}
use Rattle.fa_ledger.specs.declared.operation.Outcome.{Outcome}
use Rattle.fa_ledger.specs.Calls.{PlainCall, call_shown, AreCalls}
use Rattle.fa_ledger.specs.Operations.{PlainAction, PlainList, PlainOperation, action_of, operation_of, came_to, dirents_in}
use Rattle.fa_ledger.specs.Operations.PlainOperation.{Lists, Acts}
use Rattle.fa_ledger.specs.Listings.{offset_asked, IsListingIfAny}
use Rattle.fa_ledger.specs.Passing.{AreGood}
use Rattle.fa_ledger.specs.declared.call.Call.{Call}
use Rattle.fa_ledger.specs.declared.call.Listing.{Listing}
use Rattle.fa_ledger.proofs.CallerLemmas.{call_at, operation_made}
use Rattle.fa_tree.specs.State.{TreeState}
use Rattle.fa_tree.specs.Resolved.{Resolved, resolved}
use Rattle.fa_tree.specs.Operations.{count_written}
use Rattle.fa_tree.specs.Steps.{OfCallAt, setting, operation_checks, checks_of_files, step_checks, tree_after, Steps}

-- what a place of the list shows
pub shown_at : (calls : List Call) (k : ℕ) (call : Call) → k < length calls → call ≡ slice_index_or calls k call
    → slice_get (map call_shown calls) k ≡ Some (call_shown call)
shown_at calls k call within is =
    slice_get-map call_shown calls k ∙ ap (option_map call_shown) (slice_get-get_or calls k call within) ∙ ap (λ x. Some (call_shown x)) (sym is)

-- what holds of the call that is there
pub of_call : (calls : List PlainCall) (k : ℕ) (call : PlainCall) (Such : PlainCall → Type 0) → slice_get calls k ≡ Some call → Such call → OfCallAt calls k Such
of_call calls k call Such there such other other_there = subst Such (same_Some call other (sym there ∙ other_there)) such

-- what lists does not act
no_act : (size : ℕ) (found : Option (Outcome (List PlainDirent))) (a : PlainAction) → ◌≡◌ {A = Option PlainOperation} (option_map (λ o. Lists (record { size = size; outcome = o })) found) (Some (Acts a)) → ⊥
no_act size None a some = cc
no_act size (Some o) a some = cc

-- so what acts tells no offset at which it begins to list
acts_asks : (body : PlainBody) (reply : Option PlainReply) (a : PlainAction) → operation_of body reply ≡ Some (Acts a) → offset_asked body ≡ None
acts_asks (Readdir r) reply a is = absurd (no_act r.size (came_to dirents_in reply) a is)
acts_asks (Readdirplus r) reply a is = absurd (no_act r.size (came_to dirents_in reply) a is)
acts_asks other reply a is = refl

-- what lists tells one
lists_asks : (body : PlainBody) (reply : Option PlainReply) (l : PlainList) → operation_of body reply ≡ Some (Lists l) → offset_asked body ≡ None → ⊥
lists_asks (Readdir r) reply l is none = cc
lists_asks (Readdirplus r) reply l is none = cc
lists_asks other reply l is none = no_list (action_of other reply) is
  where
    no_list : (found : Option PlainAction) → ◌≡◌ {A = Option PlainOperation} (option_map (λ (a : PlainAction). Acts a) found) (Some (Lists l)) → ⊥
    no_list None some = cc
    no_list (Some a) some = cc

-- so the call of what acts has no listing
unlisting : (es : List PlainEvent) (r : PlainRequest) (listing : Listing) → offset_asked r.body ≡ None → IsListingIfAny es r (Some listing) → ⊥
unlisting es r listing none is = let clash = sym none ∙ is.asks in absurd cc

pub unlisted : (calls : List PlainCall) (messages k : ℕ) (call : PlainCall) (a : PlainAction)
    → ∥ ((c : List Message) × AreGood c × (messages ≡ length c) × AreCalls c calls) ∥₁
    → slice_get calls k ≡ Some call → call.operation ≡ Acts a → call.listing ≡ None
unlisted calls messages k call a good there acts = by call.listing refl
  where
    by : (listing : Option Listing) → call.listing ≡ listing → call.listing ≡ None
    by None is = is
    by (Some listing) is =
        absurd (∥∥₁_elim good (λ x y. absurd x) (λ some.
        let is_call = call_at some.3.events calls some.3.exact.each k call there in
        let made = operation_made some.3.events call is_call in
        unlisting _ is_call.request listing (acts_asks is_call.request.body made.0 a (made.1 ∙ ap (λ o. Some o) acts))
        (subst (IsListingIfAny _ is_call.request) is is_call.asked.listing)))

-- and the call of what lists has one
pub listing_there : (calls : List PlainCall) (messages k : ℕ) (call : PlainCall) (l : PlainList)
    → ∥ ((c : List Message) × AreGood c × (messages ≡ length c) × AreCalls c calls) ∥₁ → slice_get calls k ≡ Some call
    → call.operation ≡ Lists l → call.listing ≡ None → ⊥
listing_there calls messages k call l good there lists none =
    ∥∥₁_elim good (λ x y. absurd x) (λ some.
    let is_call = call_at some.3.events calls some.3.exact.each k call there in
    let made = operation_made some.3.events call is_call in
    lists_asks is_call.request.body made.0 l (made.1 ∙ ap (λ o. Some o) lists) (subst (IsListingIfAny _ is_call.request) none is_call.asked.listing))

-- ---- a call that names these files

module _ (t : TreeState) (call : PlainCall) (o : PlainOperation) (asks : call.operation ≡ o) (wrote : Option ℕ) (so_far : List PlainDirent) (x : Resolved) (named : resolved t call ≡ Some x) where
  -- what its operation's checks refuse, its own refuse
  pub refused_so : (code : ℕ) → FirstFailure (operation_checks t.nodes (setting t.store x call o (count_written o wrote) so_far) call o) code → FirstFailure (step_checks t call wrote so_far) code
  refused_so code failure =
      subst (λ (p : PlainOperation). FirstFailure (checks_of_files t call p (count_written p wrote) so_far (resolved t call)) code) (sym asks)
      (subst (λ (files : Option Resolved). FirstFailure (checks_of_files t call o (count_written o wrote) so_far files) code) (sym named) (inr (tt, failure)))

  -- and where they hold all hold
  pub all_hold_so : AllHold (operation_checks t.nodes (setting t.store x call o (count_written o wrote) so_far) call o) → AllHold (step_checks t call wrote so_far)
  all_hold_so hold =
      subst (λ (p : PlainOperation). AllHold (checks_of_files t call p (count_written p wrote) so_far (resolved t call))) (sym asks)
      (subst (λ (files : Option Resolved). AllHold (checks_of_files t call o (count_written o wrote) so_far files)) (sym named) (tt, hold))

  -- and it leads to the tree that the operation leaves
  pub steps_so : (new : TreeState) → AllHold (operation_checks t.nodes (setting t.store x call o (count_written o wrote) so_far) call o)
      → new ≡ tree_after t x call o (count_written o wrote) → Steps t new call wrote so_far
  steps_so new hold left = record {
    allowed = all_hold_so hold;
    files = x;
    named = named;
    after = left ∙ ap (λ p. tree_after t x call p (count_written p wrote)) (sym asks);
  }
