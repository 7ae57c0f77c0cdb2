-- What was listed so far for a call, after what was for the one that it goes on from, and after what was for one that goes on from the same.
use Rattle.std.proofs.Common.{◌≡◌, ◌⊎◌, ℕ, zero, suc, ◌+◌, ◌<◌, ◌≤◌, Bool, true, false, cond, nat_eq, List, [], ◌∷◌, ◌++◌, length, take, Option, None, Some, refl, sym, ap, subst, ◌∙◌, inl, inr, arith}
use Rattle.std.specs.Prelude.{◌==◌, slice_get, option_map, option_and_then}
use Rattle.std.specs.Map.{lookup}
use Rattle.std.specs.Str.{bytes_eq}
use Rattle.std.specs.Option.{option_map_or}
use Rattle.std.proofs.Math.Bridge.{le_prop}
use Rattle.std.proofs.Math.Logic.{∥∥₁_elim}
use Rattle.std.proofs.lemmas.Bool.{cases_Bool, cases_order}
use Rattle.std.proofs.lemmas.Bool.Decides.{nat_tests, eqb_tells}
use Rattle.std.proofs.lemmas.List.{length-take, take_all}
use Rattle.std.proofs.lemmas.List.Sums.{sum_by-append}
use Rattle.std.proofs.lemmas.Option.{slice_get_within, same_Some}
use Rattle.fa_capture.specs.Message.{Message}
use Rattle.fa_capture.proofs.CallerLemmas.{get_of_front}
use Rattle.fa_bodies.specs.Dirents.{PlainDirent}
use Rattle.fa_bodies.specs.Replies.PlainReply.{Listed}
use Rattle.fa_session.specs.Events.{PlainEvent}
use Rattle.fa_session.specs.Events.PlainEvent.{Answered}
use Rattle.fa_ledger.specs.declared.call.Listing.{Listing}
use Rattle.fa_ledger.specs.declared.calls.Calls.{Calls}
use Rattle.fa_ledger.specs.Listings.{GoesOnFrom, IsListingIfAny}
use Rattle.fa_ledger.specs.Calls.{PlainCall, IsCall, AreCalls}
use Rattle.fa_ledger.specs.Passing.{AreGood}
use Rattle.fa_ledger.specs.SoFar.{entries_answered, call_asked, before_of, listed_within, listing_so_far}
use Rattle.fa_ledger.proofs.CallerLemmas.{call_at, asked_later}
use Rattle.fa_tree.specs.Directories.{times_listed}
use Rattle.fa_tree.specs.declared.tally.Tally.{Tally}
use Rattle.fa_tree.specs.declared.kept.KeptListing.{KeptListing}
use Rattle.fa_tree.specs.parts.KeptParts.{AreAmong}
use Rattle.fa_tree.specs.parts.ReplayParts.{IsKeptOf, IsKeptAt, IsKept}
use Rattle.fa_tree.specs.parts.TallyParts.{going_on_from, Tallies, Notes, ListsAt}
use Rattle.fa_tree.proofs.SoFarLemmas.{Rise, listed_more, listed_none, left_at}
use Rattle.fa_tree.proofs.TallyLemmas.{tallies_so}

-- ---- a call goes on from an earlier one

-- calls go on from requests with lesser numbers
abbrev pub LookBack : List PlainCall → Type 0
LookBack calls = (place : ℕ) (call : PlainCall) (before : ℕ × ℕ) → slice_get calls place ≡ Some call → before_of call ≡ Some before → before.0 < call.asked

-- so do those of good messages
from_earlier : (c : List Message) (calls : List PlainCall) → AreCalls c calls → LookBack calls
from_earlier c calls are place call before there from =
    let is : IsCall are.events call = call_at are.events calls are.exact.each place call there in
    by call.listing refl is.asked.listing
  where
    by : (listing : Option Listing) → call.listing ≡ listing → IsListingIfAny (take call.asked are.events) (call_at are.events calls are.exact.each place call there).request listing → before.0 < call.asked
    by None lists is = let none : None ≡ Some before = sym (ap (option_and_then (λ x. x.before)) lists) ∙ from in absurd cc
    by (Some listing) lists is =
        let some : listing.before ≡ Some before = sym (ap (option_and_then (λ x. x.before)) lists) ∙ from in
        let goes : GoesOnFrom (take call.asked are.events) is.handle is.offset (Some before) = subst (GoesOnFrom (take call.asked are.events) is.handle is.offset) some is.before in
        let part = goes.1.0 in
        let reaches = goes.1.1.reaches in
        let e : PlainEvent = Answered part.at part.asked part.request (Listed part.entries) in
        let within = slice_get_within (take call.asked are.events) part.at e reaches.there in
        let later = asked_later c are.events are.are part.at part.at part.asked part.request (Listed part.entries) (get_of_front are.events call.asked part.at e reaches.there) in
        let number : before.0 ≡ part.asked = ap (λ b. b.0) goes.1.2 in
        omega (arith, within, later, number, length-take call.asked are.events)

pub look_back : (calls : List PlainCall) (messages : ℕ) → ∥ ((c : List Message) × AreGood c × (messages ≡ length c) × AreCalls c calls) ∥₁ → LookBack calls
look_back calls messages good place call before there from =
    ∥∥₁_elim good (hlevel le_prop) (λ some. from_earlier some.0 calls some.3 place call before there from)

-- ---- what was listed so far, over enough calls back

-- the call of a number stands at some place
asked_at : (calls : List PlainCall) (z : ℕ) (call : PlainCall) → call_asked calls z ≡ Some call → (place : ℕ) × (slice_get calls place ≡ Some call) × (call.asked ≡ z)
asked_at [] z call found = absurd cc
asked_at (first ∷ calls) z call found =
    elim (cases_Bool (first.asked == z)) [
      | inl test ↦
          let same : first ≡ call = same_Some _ _ (sym (let now : call_asked (first ∷ calls) z ≡ Some first = (rw test refl) in now) ∙ found) in
          let id : first.asked ≡ z = grind (arith, nat_tests, test) in
          (0, ap (λ x. Some x) same, ap (λ x. x.asked) (sym same) ∙ id)
      | inr test ↦
          let later = asked_at calls z call (sym (let now : call_asked (first ∷ calls) z ≡ call_asked calls z = (rw test refl) in now) ∙ found) in
          (suc later.0, later.1, later.2)
    ]

-- a call that has the lesser number stands before
earlier_first : (calls : List PlainCall) → Rise calls → (i k : ℕ) (earlier call : PlainCall) → slice_get calls i ≡ Some earlier → slice_get calls k ≡ Some call → earlier.asked < call.asked → i < k
earlier_first calls rises i k earlier call here there less =
    elim (cases_order i k) [
      | inl same ↦
          let one : earlier ≡ call = same_Some earlier call (sym here ∙ ap (slice_get calls) same ∙ there) in
          let numbers : earlier.asked ≡ call.asked = ap (λ x. x.asked) one in
          absurd (omega (arith, less, numbers))
      | inr (inl below) ↦ below
      | inr (inr above) ↦
          let more = rises k i call earlier above there here in
          absurd (omega (arith, less, more))
    ]

module _ (calls : List PlainCall) (rises : Rise calls) (back : LookBack calls) where
  -- what a call goes on from stands before it
  found_before : (place : ℕ) (call earlier : PlainCall) (before : ℕ × ℕ) (count : ℕ) (found : Option PlainCall) → slice_get calls place ≡ Some call → before_of call ≡ Some before
      → call_asked calls before.0 ≡ found → option_map {U = PlainCall × ℕ} (λ (x : PlainCall). (x, before.1)) found ≡ Some (earlier, count)
      → (next : ℕ) × (slice_get calls next ≡ Some earlier) × (next < place)
  found_before place call earlier before count None there from asked is = absurd cc
  found_before place call earlier before count (Some one) there from asked is =
      let same : one ≡ earlier = ap (λ p. p.0) (same_Some (one, before.1) (earlier, count) is) in
      let at = asked_at calls before.0 one asked in
      let less = back place call before there from in
      (at.0, at.1 ∙ ap (λ x. Some x) same, earlier_first calls rises at.0 place one call at.1 there (omega (arith, less, at.2)))

  stands_before : (place : ℕ) (call earlier : PlainCall) (count : ℕ) → slice_get calls place ≡ Some call → going_on_from calls call ≡ Some (earlier, count)
      → (next : ℕ) × (slice_get calls next ≡ Some earlier) × (next < place)
  stands_before place call earlier count there goes = by (before_of call) refl goes
    where
      by : (before : Option (ℕ × ℕ)) → before_of call ≡ before → option_and_then {U = PlainCall × ℕ} (λ b. option_map {U = PlainCall × ℕ} (λ x. (x, b.1)) (call_asked calls b.0)) before ≡ Some (earlier, count)
          → (next : ℕ) × (slice_get calls next ≡ Some earlier) × (next < place)
      by None from is = absurd cc
      by (Some before) from is = found_before place call earlier before count (call_asked calls before.0) there from refl is

  -- as many calls back as stand before it are enough, if they are for the call that it goes on from
  one_more : (place : ℕ) (call : PlainCall) → slice_get calls place ≡ Some call → (n m : ℕ) → place ≤ n → place ≤ m
      → ((next : ℕ) (earlier : PlainCall) → slice_get calls next ≡ Some earlier → next < place → (n m : ℕ) → next ≤ n → next ≤ m → listed_within n calls earlier ≡ listed_within m calls earlier)
      → (goes : Option (PlainCall × ℕ)) → going_on_from calls call ≡ goes → listed_within n calls call ≡ listed_within m calls call
  one_more place call there n m first second earlier None goes = listed_none n calls call goes ∙ sym (listed_none m calls call goes)
  one_more place call there zero m first second earlier (Some before) goes =
      let at = stands_before place call before.0 before.1 there goes in
      let less = at.2 in
      absurd (omega (arith, first, less))
  one_more place call there (suc n) zero first second earlier (Some before) goes =
      let at = stands_before place call before.0 before.1 there goes in
      let less = at.2 in
      absurd (omega (arith, second, less))
  one_more place call there (suc n) (suc m) first second earlier (Some before) goes =
      let at = stands_before place call before.0 before.1 there goes in
      let less = at.2 in
      listed_more n calls call before.0 before.1 goes
      ∙ ap (λ ds. ds ++ take before.1 (entries_answered before.0.operation)) (earlier at.0 before.0 at.1 less n m (omega (arith, first, less)) (omega (arith, second, less)))
      ∙ sym (listed_more m calls call before.0 before.1 goes)

  enough : (bound place : ℕ) (call : PlainCall) → slice_get calls place ≡ Some call → place ≤ bound → (n m : ℕ) → place ≤ n → place ≤ m → listed_within n calls call ≡ listed_within m calls call
  enough zero place call there within n m first second =
      one_more place call there n m first second (λ next earlier here less. absurd (omega (arith, within, less))) (going_on_from calls call) refl
  enough (suc bound) place call there within n m first second =
      one_more place call there n m first second (λ next earlier here less. enough bound next earlier here (omega (arith, within, less))) (going_on_from calls call) refl

  module _ (k at : ℕ) (call last : PlainCall) (there : slice_get calls k ≡ Some call) (here : slice_get calls at ≡ Some last) where
    -- a call that goes on from the same has the same listed so far
    pub listed_alike : before_of call ≡ before_of last → listing_so_far calls at ≡ listing_so_far calls k
    listed_alike same =
        left_at at calls at last here
        ∙ enough at at last here (omega arith) at (k + at) (omega arith) (omega arith)
        ∙ by (k + at)
        ∙ enough k k call there (omega arith) (k + at) k (omega arith) (omega arith)
        ∙ sym (left_at k calls k call there)
      where
        by : (n : ℕ) → listed_within n calls last ≡ listed_within n calls call
        by zero = refl
        by (suc n) = ap (λ (before : Option (ℕ × ℕ)). option_map_or (λ b. option_map_or (λ earlier. listed_within n calls earlier ++ take b.1 (entries_answered earlier.operation)) (call_asked calls b.0) []) before []) (sym same)

    -- and one that goes on from the other has that one's and its entries
    pub listed_after : (count : ℕ) → going_on_from calls call ≡ Some (last, count) → listing_so_far calls at ++ take count (entries_answered last.operation) ≡ listing_so_far calls k
    listed_after count goes =
        ap (λ ds. ds ++ take count (entries_answered last.operation)) (left_at at calls at last here ∙ enough at at last here (omega arith) at (k + at) (omega arith) (omega arith))
        ∙ sym (listed_more (k + at) calls call last count goes)
        ∙ enough k k call there (omega arith) (suc (k + at)) k (omega arith) (omega arith)
        ∙ sym (left_at k calls k call there)

-- ---- tallies of what was listed so far

-- the tally of the same entries
pub tally_same : (tally : Tally) (ds es : List PlainDirent) → ds ≡ es → Tallies tally (λ name. times_listed name ds) → Tallies tally (λ name. times_listed name es)
tally_same tally ds es same are = subst (λ (x : List PlainDirent). Tallies tally (λ name. times_listed name x)) same are

-- the tally after entries were noted
pub tally_after : (old new : Tally) (ds es all : List PlainDirent) → ds ++ es ≡ all → Tallies old (λ name. times_listed name ds) → Notes old new es → Tallies new (λ name. times_listed name all)
tally_after old new ds es all is are notes =
    tally_same new (ds ++ es) all is
    (tallies_so new (λ name. times_listed name ds + times_listed name es) (λ name. times_listed name (ds ++ es))
    (λ name. sym (sum_by-append (λ (e : PlainDirent). cond (bytes_eq e.name name) 1 0) ds es)) (notes (λ name. times_listed name ds) are))

-- where at least all entries of an answer count, all do
pub counted_all : (tally : Tally) (so_far entries answered : List PlainDirent) (count : ℕ) → answered ≡ entries → length entries ≤ count → Tallies tally (λ name. times_listed name (so_far ++ entries))
    → Tallies tally (λ name. times_listed name (so_far ++ take count answered))
counted_all tally so_far entries answered count same most are =
    tally_same tally (so_far ++ entries) (so_far ++ take count answered)
    (ap (λ ds. so_far ++ ds) (sym (ap (take count) same ∙ take_all count entries most))) are

-- ---- what is kept

-- what is kept of a call at its place is kept of the entries of its answer
pub kept_at : (calls : Calls) (place : ℕ) (entries : List PlainDirent) (kept : KeptListing) → kept.at ≡ place → ListsAt calls.list place entries → IsKept calls kept → IsKeptAt calls place entries kept
kept_at calls place entries kept at answer is =
    let was = is.1.answer in
    let one : was.0 ≡ answer.0 = same_Some was.0 answer.0 (sym was.1 ∙ ap (slice_get calls.list) at ∙ answer.1) in
    let same : is.0 ≡ entries = sym was.2 ∙ ap (λ (call : PlainCall). entries_answered call.operation) one ∙ answer.2 in
    (at, subst (IsKeptOf calls kept) same is.1)

-- all that a table has is so
abbrev pub AreKeptIn : Calls → List (ℕ × KeptListing) → Type 0
AreKeptIn calls table = (handle : ℕ) (kept : KeptListing) → lookup (nat_eq handle) table ≡ Some kept → IsKept calls kept

-- what a table has after an entry was put in is that entry or was there
pub put_or_there : (old between new : List (ℕ × KeptListing)) (handle : ℕ) (listed : KeptListing)
    → ((q : ℕ) → lookup (nat_eq q) new ≡ cond (nat_eq handle q) (Some listed) (lookup (nat_eq q) between)) → AreAmong between old
    → (q : ℕ) (kept : KeptListing) → lookup (nat_eq q) new ≡ Some kept → ((handle ≡ q) × (listed ≡ kept)) ⊎ (lookup (nat_eq q) old ≡ Some kept)
put_or_there old between new handle listed wrote among q kept found = elim (eqb_tells handle q) [
  | inl same ↦ inl (same.1, same_Some listed kept (sym (wrote q ∙ ap (λ b. cond b (Some listed) (lookup (nat_eq q) between)) same.0) ∙ found))
  | inr other ↦ inr (among q kept (sym (wrote q ∙ ap (λ b. cond b (Some listed) (lookup (nat_eq q) between)) other.0) ∙ found))
]

-- what a table has after an entry was taken away was there
pub left_there : (old new : List (ℕ × KeptListing)) (handle : ℕ) → ((q : ℕ) → lookup (nat_eq q) new ≡ cond (nat_eq handle q) None (lookup (nat_eq q) old))
    → (q : ℕ) (kept : KeptListing) → lookup (nat_eq q) new ≡ Some kept → lookup (nat_eq q) old ≡ Some kept
left_there old new handle wrote q kept found = by (nat_eq handle q) (sym (wrote q) ∙ found)
  where
    by : (same : Bool) → cond same None (lookup (nat_eq q) old) ≡ Some kept → lookup (nat_eq q) old ≡ Some kept
    by true is = absurd cc
    by false is = is

-- where all that is kept is this or was kept, all of it is told
pub told_put : (calls : Calls) (old new : List (ℕ × KeptListing)) (handle : ℕ) (listed : KeptListing)
    → ((q : ℕ) (kept : KeptListing) → lookup (nat_eq q) new ≡ Some kept → ((handle ≡ q) × (listed ≡ kept)) ⊎ (lookup (nat_eq q) old ≡ Some kept))
    → IsKept calls listed → AreKeptIn calls old → AreKeptIn calls new
told_put calls old new handle listed says told are q kept found = elim (says q kept found) [
  | inl this ↦ subst (IsKept calls) this.1 told
  | inr before ↦ are q kept before
]
