-- One event more: counts, and the names of nodes.
use Rattle.std.proofs.Common.{◌≡◌, ◌≢◌, ℕ, zero, suc, ◌+◌, ◌<◌, ◌≤◌, List, [], ◌∷◌, ◌++◌, length, take, Some, None, refl, sym, ap, subst, ◌∙◌, inl, inr, arith}
use Rattle.std.proofs.lemmas.Bool.{cases_lt}
use Rattle.std.proofs.lemmas.Option.{slice_get_within}
use Rattle.std.proofs.lemmas.List.{take_all, length-append, length-take}
use Rattle.fa_capture.proofs.CallerLemmas.{get_kept, get_back, get_last, take_before, take_with_next}
use Rattle.fa_bodies.specs.declared.requests.TheConstants.{ROOT_ID}
use Rattle.fa_session.specs.Events.{PlainEvent}
use Rattle.fa_ledger.specs.declared.name.NodeName.TheVariants.{Given}
use Rattle.fa_ledger.specs.Counts.{times_given, times_taken, lookups_given, lookups_taken, IsCounted}
use Rattle.fa_ledger.specs.Names.{stays_from, name_at, IsCountedSince}
use Rattle.fa_ledger.specs.Sums.{least_below}
use Rattle.fa_ledger.proofs.SumLemmas.{sum_of-append, least_below-none}
use Rattle.fa_ledger.proofs.EventLemmas.{element_at}
use Rattle.fa_ledger.proofs.NameLemmas.{since_stays, name_is_least, not_root}

-- what is counted since some event is counted
pub since_counted : (es : List PlainEvent) (node g : ℕ) → IsCountedSince es node g → IsCounted es node
since_counted es node g since =
    let within : g < length es = slice_get_within es g since.event since.there in
    subst (λ x. IsCounted x node) (take_all (length es) es (omega arith)) (since.stays (length es) within (omega arith))

-- a node that is not counted has none
pub uncounted_unnamed : (es : List PlainEvent) (node : ℕ) → node ≢ ROOT_ID → (IsCounted es node → ⊥) → name_at es node ≡ None
uncounted_unnamed es node other uncounted =
    elim (least_below (length es) (stays_from es node)) as (λ t. least_below (length es) (stays_from es node) ≡ t → name_at es node ≡ None) [
      | None ↦ λ is. rw (not_root node other, is) refl
      | Some g ↦ λ is.
          let named : name_at es node ≡ Some (Given g node) = rw (not_root node other, is) refl in
          absurd (uncounted (since_counted es node g ((name_is_least es node g other).0 named).since))
    ] refl

-- a name has the id of its node, and the node is counted
pub named_counted : (es : List PlainEvent) (node g : ℕ) → node ≢ ROOT_ID → name_at es node ≡ Some (Given g node) → IsCounted es node
named_counted es node g other named = since_counted es node g ((name_is_least es node g other).0 named).since

-- ---- counts

module _ (es : List PlainEvent) (e : PlainEvent) (node : ℕ) where
  pub given_more : lookups_given (es ++ e ∷ []) node ≡ lookups_given es node + times_given node e
  given_more = sum_of-append (λ before x. times_given node x) es e

  pub taken_more : lookups_taken (es ++ e ∷ []) node ≡ lookups_taken es node + times_taken node e
  taken_more = sum_of-append (λ before x. times_taken node x) es e

  -- a node that is counted now and was not is given by the event
  pub newly_counted : (IsCounted es node → ⊥) → IsCounted (es ++ e ∷ []) node → 0 < times_given node e
  newly_counted not_before now =
      elim (cases_lt (lookups_taken es node) (lookups_given es node)) [
        | inl counted ↦ absurd (not_before counted)
        | inr not_counted ↦ omega (arith, not_counted, now, given_more, taken_more)
      ]

  -- ---- since when

  -- what was counted since an event before, and is counted now
  pub since_still : (g : ℕ) → IsCountedSince es node g → IsCounted (es ++ e ∷ []) node → IsCountedSince (es ++ e ∷ []) node g
  since_still g since now = record {
    event = since.event;
    there = get_kept es (e ∷ []) g since.event since.there;
    gives = since.gives;
    stays = λ r later within.
        let long : length (es ++ e ∷ []) ≡ length es + 1 = length-append es (e ∷ []) in
        elim (cases_lt (length es) r) [
          | inl last ↦
              let whole : r ≡ length (es ++ e ∷ []) = omega (arith, last, within, long) in
              let all : take r (es ++ e ∷ []) ≡ es ++ e ∷ [] = ap (λ k. take k (es ++ e ∷ [])) whole ∙ take_all (length (es ++ e ∷ [])) (es ++ e ∷ []) (omega arith) in
              subst (λ x. IsCounted x node) (sym all) now
          | inr before ↦ subst (λ x. IsCounted x node) (sym (take_before es e r before)) (since.stays r later before)
        ];
  }

  -- what is counted since an event before the new one was so
  pub since_before : (g : ℕ) → g < length es → IsCountedSince (es ++ e ∷ []) node g → IsCountedSince es node g
  since_before g below since = record {
    event = since.event;
    there = get_back es (e ∷ []) g since.event below since.there;
    gives = since.gives;
    stays = λ r later within.
        let long : length (es ++ e ∷ []) ≡ length es + 1 = length-append es (e ∷ []) in
        subst (λ x. IsCounted x node) (take_before es e r within) (since.stays r later (omega (arith, within, long)));
  }

  -- the new event gives the node
  pub since_now : 0 < times_given node e → IsCounted (es ++ e ∷ []) node → IsCountedSince (es ++ e ∷ []) node (length es)
  since_now gives now = record {
    event = e;
    there = get_last es e;
    gives = gives;
    stays = λ r later within.
        let long : length (es ++ e ∷ []) ≡ length es + 1 = length-append es (e ∷ []) in
        let whole : r ≡ length (es ++ e ∷ []) = omega (arith, later, within, long) in
        let all : take r (es ++ e ∷ []) ≡ es ++ e ∷ [] = ap (λ k. take k (es ++ e ∷ [])) whole ∙ take_all (length (es ++ e ∷ [])) (es ++ e ∷ []) (omega arith) in
        subst (λ x. IsCounted x node) (sym all) now;
  }

  -- ---- names after one event more

  -- a node that stays counted keeps its name
  pub name_kept : (g : ℕ) → node ≢ ROOT_ID → name_at es node ≡ Some (Given g node) → IsCounted (es ++ e ∷ []) node → name_at (es ++ e ∷ []) node ≡ Some (Given g node)
  name_kept g other named now =
      let is = (name_is_least es node g other).0 named in
      (name_is_least (es ++ e ∷ []) node g other).1 (record {
        since = since_still g is.since now;
        least = λ h since. elim (cases_lt h (length es)) [
          | inl below ↦ is.least h (since_before h below since)
          | inr last ↦ let within : g < length es = slice_get_within es g is.since.event is.since.there in omega (arith, within, last)
        ];
      })

  -- a node that is newly counted is named by the event
  pub name_new : node ≢ ROOT_ID → (IsCounted es node → ⊥) → IsCounted (es ++ e ∷ []) node → name_at (es ++ e ∷ []) node ≡ Some (Given (length es) node)
  name_new other not_before now =
      (name_is_least (es ++ e ∷ []) node (length es) other).1 (record {
        since = since_now (newly_counted not_before now) now;
        least = λ h since. elim (cases_lt h (length es)) [
          | inl below ↦ absurd (not_before (since_counted es node h (since_before h below since)))
          | inr last ↦ last
        ];
      })

-- ---- names

-- some event is one since which a counted node is counted, among the first n
since_some : (es : List PlainEvent) (node n : ℕ) → n ≤ length es → IsCounted (take n es) node → (g : ℕ) × (g < n) × IsCountedSince (take n es) node g
since_some es node zero within counted = absurd (omega (arith, counted))
since_some es node (suc n) within counted =
    let event = element_at es n within in
    let more : take (suc n) es ≡ take n es ++ event.0 ∷ [] = take_with_next es n event.0 event.1 in
    let now : IsCounted (take n es ++ event.0 ∷ []) node = subst (λ x. IsCounted x node) more counted in
    let long : length (take n es) ≡ n = omega (arith, length-take n es, within) in
    elim (cases_lt (lookups_taken (take n es) node) (lookups_given (take n es) node)) [
      | inl before ↦
          let found = since_some es node n (omega (arith, within)) before in
          (found.0, omega (arith, found.1), subst (λ x. IsCountedSince x node found.0) (sym more) (since_still (take n es) event.0 node found.0 found.2 now))
      | inr not_before ↦
          let gives = newly_counted (take n es) event.0 node (λ counts. omega (arith, counts, not_before)) now in
          (n, omega arith, subst (λ x. IsCountedSince x node n) (sym more) (subst (λ k. IsCountedSince (take n es ++ event.0 ∷ []) node k) long (since_now (take n es) event.0 node gives now)))
    ]

-- a node that is counted has a name
pub counted_named : (es : List PlainEvent) (node : ℕ) → node ≢ ROOT_ID → IsCounted es node → (g : ℕ) × (name_at es node ≡ Some (Given g node))
counted_named es node other counted =
    let whole : take (length es) es ≡ es = take_all (length es) es (omega arith) in
    let found = since_some es node (length es) (omega arith) (subst (λ x. IsCounted x node) (sym whole) counted) in
    let since : IsCountedSince es node found.0 = subst (λ x. IsCountedSince x node found.0) whole found.2 in
    elim (least_below (length es) (stays_from es node)) as (λ t. least_below (length es) (stays_from es node) ≡ t → (g : ℕ) × (name_at es node ≡ Some (Given g node))) [
      | None ↦ λ is. let fails = least_below-none (length es) (stays_from es node) is found.0 found.1 in let holds = since_stays es node found.0 since in absurd cc
      | Some g ↦ λ is. (g, rw (not_root node other, is) refl)
    ] refl
