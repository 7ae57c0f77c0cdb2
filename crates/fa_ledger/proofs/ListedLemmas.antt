-- What was listed so far is one, and so is the listing of a request.
use Rattle.std.proofs.Common.{◌≡◌, ℕ, Bool, List, take, Option, Some, None, refl, sym, ap, subst, ◌∙◌, arith}
use Rattle.std.specs.Prelude.{◌↔◌, slice_get, IsTrue}
use Rattle.std.proofs.lemmas.Option.{same_Some}
use Rattle.fa_bodies.specs.Dirents.{PlainDirent}
use Rattle.fa_bodies.specs.Requests.{PlainRequest}
use Rattle.fa_bodies.specs.Replies.PlainReply.{Listed}
use Rattle.fa_session.specs.Events.{PlainEvent}
use Rattle.fa_session.specs.Events.PlainEvent.{Answered}
use Rattle.fa_ledger.specs.declared.call.Listing.{Listing}
use Rattle.fa_ledger.specs.Handles.{IsHandle, IsShared}
use Rattle.fa_ledger.specs.Listings.{offset_asked, count_to, UsesHandle, Part, ReachesOffset, IsLastPart, IsListedSoFar, GoesOnFrom, IsListing, IsListingIfAny}
use Rattle.fa_ledger.specs.Listings.IsListedSoFar.{anew, unreached, further}
use Rattle.fa_ledger.specs.Laws.{ListedIsOne}
use Rattle.fa_ledger.proofs.HandleLemmas.{handle_is_one, same_mark}

-- ---- parts

-- a request uses one key
key_is_one : (es : List PlainEvent) (r : PlainRequest) (h k : ℕ) (is : UsesHandle es r h) (too : UsesHandle es r k) → is.key ≡ too.key
key_is_one es r h k is too = same_Some is.key too.key (sym is.used ∙ too.used)

-- a request uses one handle
pub uses_is_one : (es : List PlainEvent) (r : PlainRequest) (h k : ℕ) → UsesHandle es r h → UsesHandle es r k → h ≡ k
uses_is_one es r h k is too =
    handle_is_one es too.key h k (subst (λ key. IsHandle es key h) (key_is_one es r h k is too) is.named) too.named

-- parts of the same reply that reach the offset are one
part_is_one : (es : List PlainEvent) (handle offset : ℕ) (a b : Part) → ReachesOffset es handle offset a → ReachesOffset es handle offset b → a.at ≡ b.at → a ≡ b
part_is_one es handle offset a b is too ats =
    let here : slice_get es b.at ≡ Some (Answered a.at a.asked a.request (Listed a.entries)) = subst (λ k. slice_get es k ≡ Some (Answered a.at a.asked a.request (Listed a.entries))) ats is.there in
    let events : Some (Answered a.at a.asked a.request (Listed a.entries)) ≡ Some (Answered b.at b.asked b.request (Listed b.entries)) = sym here ∙ too.there in
    let askeds : a.asked ≡ b.asked = cc in
    let requests : a.request ≡ b.request = cc in
    let entries : a.entries ≡ b.entries = cc in
    let counts : a.count ≡ b.count = same_Some a.count b.count (sym is.count ∙ ap (count_to offset) entries ∙ too.count) in
    let made : ℕ → ℕ → PlainRequest → List PlainDirent → ℕ → Part = λ n p r ds k. record { at = n; asked = p; request = r; entries = ds; count = k } in
    let whole : made a.at a.asked a.request a.entries a.count ≡ made b.at b.asked b.request b.entries b.count = rw (ats, askeds, requests, entries, counts) refl in
    whole

-- the last part is one
last_is_one : (es : List PlainEvent) (handle offset : ℕ) (a b : Part) → IsLastPart es handle offset a → IsLastPart es handle offset b → a ≡ b
last_is_one es handle offset a b is too =
    let low = is.last b too.reaches in
    let high = too.last a is.reaches in
    part_is_one es handle offset a b is.reaches too.reaches (omega (arith, low, high))

-- ---- the listing so far

-- two derivations of what was listed so far end alike
listed_once : {es : List PlainEvent} {handle offset : ℕ} {entries others : List PlainDirent} {adrift is_adrift : Bool}
    → IsListedSoFar es handle offset entries adrift → IsListedSoFar es handle offset others is_adrift
    → (entries ≡ others) × (adrift ≡ is_adrift)
listed_once (anew es handle) (anew _ _) = (refl, refl)
listed_once (anew es handle) (unreached _ _ _ away _) = absurd (away refl)
listed_once (anew es handle) (further _ _ _ _ _ _ _ away _ _ _) = absurd (away refl)
listed_once (unreached es handle offset away never) (anew _ _) = absurd (away refl)
listed_once (unreached es handle offset away never) (unreached _ _ _ _ _) = (refl, refl)
listed_once (unreached es handle offset away never) (further _ _ _ part _ _ _ _ last _ _) = absurd (never part last.reaches)
listed_once (further es handle offset part began entries adrift away last asks before) (anew _ _) = absurd (away refl)
listed_once (further es handle offset part began entries adrift away last asks before) (unreached _ _ _ _ never) = absurd (never part last.reaches)
listed_once (further es handle offset part began entries adrift away last asks before) (further _ _ _ other start others is_adrift _ latest starts earlier) =
    let parts : other ≡ part = last_is_one es handle offset other part latest last in
    let begins : start ≡ began = same_Some start began (sym starts ∙ ap (λ p. offset_asked p.request.body) parts ∙ asks) in
    let there : IsListedSoFar (take part.asked es) handle start others is_adrift = subst (λ p. IsListedSoFar (take p.asked es) handle start others is_adrift) parts earlier in
    let same = listed_once before (subst (λ k. IsListedSoFar (take part.asked es) handle k others is_adrift) begins there) in
    let counted : take part.count part.entries ≡ take other.count other.entries = ap (λ p. take p.count p.entries) (sym parts) in
    ((rw (same.0, counted) refl), same.1)

-- a request lists on from one listing at most
pub listed_is_one : ListedIsOne
listed_is_one es handle offset entries others adrift is_adrift is too = listed_once is too

-- ---- the listing of a request

-- a request goes on from one listing
goes_is_one : (es : List PlainEvent) (handle offset : ℕ) (x y : Option (ℕ × ℕ)) → GoesOnFrom es handle offset x → GoesOnFrom es handle offset y → x ≡ y
goes_is_one es handle offset None None is too = refl
goes_is_one es handle offset None (Some y) is too = absurd (is too.0 too.1.0 too.1.1.reaches)
goes_is_one es handle offset (Some x) None is too = absurd (too is.0 is.1.0 is.1.1.reaches)
goes_is_one es handle offset (Some x) (Some y) is too =
    let parts : is.1.0 ≡ too.1.0 = last_is_one es handle offset is.1.0 too.1.0 is.1.1 too.1.1 in
    let numbers : Part → Option (ℕ × ℕ) = λ part. Some (part.asked, part.count) in
    ap (λ p. Some p) is.1.2 ∙ ap numbers parts ∙ ap (λ p. Some p) (sym too.1.2)

-- listings that say the same are one
same_listing : (l k : Listing) → l.before ≡ k.before → l.adrift ≡ k.adrift → l.shared ≡ k.shared → l ≡ k
same_listing l k befores adrifts shares =
    let made : Option (ℕ × ℕ) → Bool → Bool → Listing = λ b a s. record { before = b; adrift = a; shared = s } in
    let whole : made l.before l.adrift l.shared ≡ made k.before k.adrift k.shared = rw (befores, adrifts, shares) refl in
    whole

-- the listing of a request that lists is one
listing_is_same : (es : List PlainEvent) (r : PlainRequest) (l k : Listing) → IsListing es r l → IsListing es r k → l ≡ k
listing_is_same es r l k is too =
    let offsets : is.offset ≡ too.offset = same_Some is.offset too.offset (sym is.asks ∙ too.asks) in
    let handles : is.handle ≡ too.handle = uses_is_one es r is.handle too.handle is.uses too.uses in
    let keys : is.uses.key ≡ too.uses.key = key_is_one es r is.handle too.handle is.uses too.uses in
    let goes : GoesOnFrom es too.handle too.offset l.before = rw (← handles, ← offsets) is.before in
    let listed : IsListedSoFar es too.handle too.offset is.adrift.0 l.adrift = rw (← handles, ← offsets) is.adrift.1 in
    let adrifts = listed_is_one es too.handle too.offset is.adrift.0 too.adrift.0 l.adrift k.adrift listed too.adrift.1 in
    let shared : IsTrue l.shared ↔ IsShared es too.uses.key = subst (λ key. IsTrue l.shared ↔ IsShared es key) keys is.shared in
    same_listing l k (goes_is_one es too.handle too.offset l.before k.before goes too.before) adrifts.1 (same_mark l.shared k.shared (IsShared es too.uses.key) shared too.shared)

-- the listing of a request is one, if it lists
pub listing_is_one : (es : List PlainEvent) (r : PlainRequest) (l k : Option Listing) → IsListingIfAny es r l → IsListingIfAny es r k → l ≡ k
listing_is_one es r None None is too = refl
listing_is_one es r None (Some k) is too = let clash : None ≡ Some too.offset = sym is ∙ too.asks in absurd cc
listing_is_one es r (Some l) None is too = let clash : None ≡ Some is.offset = sym too ∙ is.asks in absurd cc
listing_is_one es r (Some l) (Some k) is too = ap (λ x. Some x) (listing_is_same es r l k is too)
