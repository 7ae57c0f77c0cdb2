-- One event more: which keys are open, since when, shared and direct. And that a key is open since one event, and so has one
-- handle.
use Rattle.std.proofs.Common.{◌≡◌, ℕ, ◌+◌, ◌<◌, ◌≤◌, ◌⊎◌, Bool, true, false, List, [], ◌∷◌, ◌++◌, length, take, Some, None, refl, sym, ap, subst, ◌∙◌, inl, inr, arith}
use Rattle.std.specs.Prelude.{◌&&◌, ◌==◌, if◌then◌else◌, slice_get, ◌↔◌, IsTrue}
use Rattle.std.specs.Option.{option_map_or}
use Rattle.std.proofs.lemmas.Bool.{cases_lt, and_parts}
use Rattle.std.proofs.lemmas.Bool.Decides.{nat_tests}
use Rattle.std.proofs.lemmas.Option.{slice_get_within}
use Rattle.std.proofs.lemmas.List.{take_all, length-append}
use Rattle.fa_capture.proofs.CallerLemmas.{get_kept, get_back, get_last, take_before, take_all_before}
use Rattle.fa_bodies.specs.declared.handles.OpenOut.{OpenOut}
use Rattle.fa_session.specs.Events.{PlainEvent}
use Rattle.fa_session.specs.Events.PlainEvent.{Answered}
use Rattle.fa_ledger.specs.declared.key.HandleKind.{HandleKind}
use Rattle.fa_ledger.specs.declared.key.HandleKind.TheVariants.{File, Directory}
use Rattle.fa_ledger.specs.declared.key.Key.{Key}
use Rattle.fa_ledger.specs.declared.name.NodeName.{NodeName}
use Rattle.fa_ledger.specs.declared.name.NodeName.TheVariants.{Root, Given}
use Rattle.fa_ledger.specs.Keys.{name_eq, kind_eq, key_eq}
use Rattle.fa_ledger.specs.Handles.{opening, closing, opens_once, closes_once, times_opened, times_closed, IsOpen, IsOpenSince, IsHandle}
use Rattle.fa_ledger.proofs.SumLemmas.{sum_of-append}

-- ---- keys

name_same : (a b : NodeName) → name_eq a b ≡ true → a ≡ b
name_same Root Root is = refl
name_same Root (Given by id) is = absurd cc
name_same (Given by id) Root is = absurd cc
name_same (Given by id) (Given since other) is =
    let both = and_parts (by == since) (id == other) is in
    let bys : by ≡ since = grind (arith, nat_tests, both.0) in
    let ids : id ≡ other = grind (arith, nat_tests, both.1) in
    cc

name_self : (a : NodeName) → name_eq a a ≡ true
name_self Root = refl
name_self (Given by id) =
    let first : (id == id) ≡ true = grind (arith, nat_tests) in
    let second : (by == by) ≡ true = grind (arith, nat_tests) in
    rw (first, second) refl

kind_same : (a b : HandleKind) → kind_eq a b ≡ true → a ≡ b
kind_same File File is = refl
kind_same File Directory is = absurd cc
kind_same Directory File is = absurd cc
kind_same Directory Directory is = refl

kind_self : (a : HandleKind) → kind_eq a a ≡ true
kind_self File = refl
kind_self Directory = refl

pub key_same : (a b : Key) → key_eq a b ≡ true → a ≡ b
key_same a b is =
    let outer = and_parts (name_eq a.node b.node && a.fh == b.fh) (kind_eq a.kind b.kind) is in
    let inner = and_parts (name_eq a.node b.node) (a.fh == b.fh) outer.0 in
    let nodes : a.node ≡ b.node = name_same a.node b.node inner.0 in
    let numbers : a.fh ≡ b.fh = grind (arith, nat_tests, inner.1) in
    let kinds : a.kind ≡ b.kind = kind_same a.kind b.kind outer.1 in
    let made : NodeName → ℕ → HandleKind → Key = λ n f k. record { node = n; fh = f; kind = k } in
    let whole : made a.node a.fh a.kind ≡ made b.node b.fh b.kind = rw (nodes, numbers, kinds) refl in
    whole

pub key_self : (a : Key) → key_eq a a ≡ true
key_self a =
    let number : (a.fh == a.fh) ≡ true = grind (arith, nat_tests) in
    rw (name_self a.node, number, kind_self a.kind) refl

-- ---- openings and closings

pub opened_more : (es : List PlainEvent) (e : PlainEvent) (key : Key) → times_opened (es ++ e ∷ []) key ≡ times_opened es key + opens_once key es e
opened_more es e key = sum_of-append (opens_once key) es e

pub closed_more : (es : List PlainEvent) (e : PlainEvent) (key : Key) → times_closed (es ++ e ∷ []) key ≡ times_closed es key + closes_once key es e
closed_more es e key = sum_of-append (closes_once key) es e

-- an event opens a key once, or not
pub opens_or_not : (key : Key) (es : List PlainEvent) (e : PlainEvent) → ((out : OpenOut) × (opening es e ≡ Some (key, out)) × (opens_once key es e ≡ 1)) ⊎ (opens_once key es e ≡ 0)
opens_or_not key es e =
    elim (opening es e) as (λ t. opening es e ≡ t → ((out : OpenOut) × (t ≡ Some (key, out)) × (◌≡◌ {A = ℕ} (option_map_or (λ opened. if key_eq opened.0 key then 1 else 0) t 0) 1)) ⊎ (◌≡◌ {A = ℕ} (option_map_or (λ opened. if key_eq opened.0 key then 1 else 0) t 0) 0)) [
      | None ↦ λ is. inr refl
      | Some pair ↦ λ is.
          elim (key_eq pair.0 key) as (λ b. key_eq pair.0 key ≡ b → ((out : OpenOut) × (Some pair ≡ Some (key, out)) × (◌≡◌ {A = ℕ} (if b then 1 else 0) 1)) ⊎ (◌≡◌ {A = ℕ} (if b then 1 else 0) 0)) [
            | true ↦ λ same. let keys : pair.0 ≡ key = key_same pair.0 key same in
                let whole : (pair.0, pair.1) ≡ (key, pair.1) = rw keys refl in
                inl (pair.1, ap (λ x. Some x) whole, refl)
            | false ↦ λ other. inr refl
          ] refl
    ] refl

-- an event closes a key once, or not
pub closes_or_not : (key : Key) (es : List PlainEvent) (e : PlainEvent) → ((closing es e ≡ Some key) × (closes_once key es e ≡ 1)) ⊎ (closes_once key es e ≡ 0)
closes_or_not key es e =
    elim (closing es e) as (λ t. closing es e ≡ t → ((t ≡ Some key) × (◌≡◌ {A = ℕ} (option_map_or (λ closed. if key_eq closed key then 1 else 0) t 0) 1)) ⊎ (◌≡◌ {A = ℕ} (option_map_or (λ closed. if key_eq closed key then 1 else 0) t 0) 0)) [
      | None ↦ λ is. inr refl
      | Some found ↦ λ is.
          elim (key_eq found key) as (λ b. key_eq found key ≡ b → ((Some found ≡ Some key) × (◌≡◌ {A = ℕ} (if b then 1 else 0) 1)) ⊎ (◌≡◌ {A = ℕ} (if b then 1 else 0) 0)) [
            | true ↦ λ same. inl (ap (λ x. Some x) (key_same found key same), refl)
            | false ↦ λ other. inr refl
          ] refl
    ] refl

-- the key is not closed more often than opened
abbrev pub IsBalanced : List PlainEvent → Key → Type 0
IsBalanced es key = times_closed es key ≤ times_opened es key

-- a key that is open now and was not is opened by the event, when it stood at zero
pub newly_open : (es : List PlainEvent) (e : PlainEvent) (key : Key) → IsBalanced es key → (IsOpen es key → ⊥) → IsOpen (es ++ e ∷ []) key
    → (out : OpenOut) × (opening es e ≡ Some (key, out)) × (times_opened es key ≡ times_closed es key)
newly_open es e key balanced not_before now =
    let zero_before : times_opened es key ≡ times_closed es key = elim (cases_lt (times_closed es key) (times_opened es key)) [
      | inl open_before ↦ absurd (not_before open_before)
      | inr not_open ↦ omega (arith, not_open, balanced)
    ] in
    elim (opens_or_not key es e) [
      | inl opens ↦ (opens.0, opens.1, zero_before)
      | inr none ↦ absurd (omega (arith, none, zero_before, now, opened_more es e key, closed_more es e key))
    ]

-- ---- since when

-- what has been open since an event, and is open now
pub open_still : (es : List PlainEvent) (e : PlainEvent) (key : Key) (r : ℕ) → IsOpenSince es key r → IsOpen (es ++ e ∷ []) key → IsOpenSince (es ++ e ∷ []) key r
open_still es e key r since now =
    let within : r < length es = slice_get_within es r since.opened.0 since.opened.1 in
    let front : take r (es ++ e ∷ []) ≡ take r es = take_before es e r (omega (arith, within)) in
    record {
      out = since.out;
      opened = (since.opened.0, get_kept es (e ∷ []) r since.opened.0 since.opened.1, subst (λ x. opening x since.opened.0 ≡ Some (key, since.out)) (sym front) since.opened.2);
      anew = subst (λ x. times_opened x key ≡ times_closed x key) (sym front) since.anew;
      stays = λ i later inside.
          let long : length (es ++ e ∷ []) ≡ length es + 1 = length-append es (e ∷ []) in
          elim (cases_lt (length es) i) [
            | inl last ↦
                let whole : i ≡ length (es ++ e ∷ []) = omega (arith, last, inside, long) in
                let all : take i (es ++ e ∷ []) ≡ es ++ e ∷ [] = ap (λ k. take k (es ++ e ∷ [])) whole ∙ take_all (length (es ++ e ∷ [])) (es ++ e ∷ []) (omega arith) in
                subst (λ x. IsOpen x key) (sym all) now
            | inr before ↦ subst (λ x. IsOpen x key) (sym (take_before es e i before)) (since.stays i later before)
          ];
    }

-- what has been open since an event before the new one was so
pub open_before : (es : List PlainEvent) (e : PlainEvent) (key : Key) (r : ℕ) → r < length es → IsOpenSince (es ++ e ∷ []) key r → IsOpenSince es key r
open_before es e key r below since =
    let front : take r (es ++ e ∷ []) ≡ take r es = take_before es e r (omega (arith, below)) in
    record {
      out = since.out;
      opened = (since.opened.0, get_back es (e ∷ []) r since.opened.0 below since.opened.1, subst (λ x. opening x since.opened.0 ≡ Some (key, since.out)) front since.opened.2);
      anew = subst (λ x. times_opened x key ≡ times_closed x key) front since.anew;
      stays = λ i later inside.
          let long : length (es ++ e ∷ []) ≡ length es + 1 = length-append es (e ∷ []) in
          subst (λ x. IsOpen x key) (take_before es e i inside) (since.stays i later (omega (arith, inside, long)));
    }

-- the new event opens a key that stood at zero
pub open_now : (es : List PlainEvent) (e : PlainEvent) (key : Key) (out : OpenOut) → opening es e ≡ Some (key, out) → times_opened es key ≡ times_closed es key → IsOpen (es ++ e ∷ []) key
    → IsOpenSince (es ++ e ∷ []) key (length es)
open_now es e key out opens none now =
    let front : take (length es) (es ++ e ∷ []) ≡ es = take_all_before es e in
    record {
      out = out;
      opened = (e, get_last es e, subst (λ x. opening x e ≡ Some (key, out)) (sym front) opens);
      anew = subst (λ x. times_opened x key ≡ times_closed x key) (sym front) none;
      stays = λ i later inside.
          let long : length (es ++ e ∷ []) ≡ length es + 1 = length-append es (e ∷ []) in
          let whole : i ≡ length (es ++ e ∷ []) = omega (arith, later, inside, long) in
          let all : take i (es ++ e ∷ []) ≡ es ++ e ∷ [] = ap (λ k. take k (es ++ e ∷ [])) whole ∙ take_all (length (es ++ e ∷ [])) (es ++ e ∷ []) (omega arith) in
          subst (λ x. IsOpen x key) (sym all) now;
    }

-- what has been open since some event is open
pub since_open : (es : List PlainEvent) (key : Key) (r : ℕ) → IsOpenSince es key r → IsOpen es key
since_open es key r since =
    let within : r < length es = slice_get_within es r since.opened.0 since.opened.1 in
    subst (λ x. IsOpen x key) (take_all (length es) es (omega arith)) (since.stays (length es) within (omega arith))

-- no key is open since two events
one_since : (es : List PlainEvent) (key : Key) (r s : ℕ) → IsOpenSince es key r → IsOpenSince es key s → r < s → ⊥
one_since es key r s is too later =
    let within : s < length es = slice_get_within es s too.opened.0 too.opened.1 in
    let stays = is.stays s later (omega (arith, within)) in
    omega (arith, stays, too.anew)

-- an open key is open since one event
pub since_is_one : (es : List PlainEvent) (key : Key) (r s : ℕ) → IsOpenSince es key r → IsOpenSince es key s → r ≡ s
since_is_one es key r s is too =
    elim (cases_lt r s) [
      | inl later ↦ absurd (one_since es key r s is too later)
      | inr not_later ↦ elim (cases_lt s r) [
        | inl earlier ↦ absurd (one_since es key s r too is earlier)
        | inr not_earlier ↦ omega (arith, not_later, not_earlier)
      ]
    ]

-- a key has one handle name at most
pub handle_is_one : (es : List PlainEvent) (key : Key) (a b : ℕ) → IsHandle es key a → IsHandle es key b → a ≡ b
handle_is_one es key a b is too =
    let same = since_is_one es key is.since too.since is.stands too.stands in
    let here : slice_get es too.since ≡ Some (Answered is.since a is.request is.reply) = subst (λ k. slice_get es k ≡ Some (Answered is.since a is.request is.reply)) same is.answer in
    let there = too.answer in
    let events : Some (Answered is.since a is.request is.reply) ≡ Some (Answered too.since b too.request too.reply) = sym here ∙ there in
    cc

-- ---- marks

-- two marks of the same fact are one
pub same_mark : (m n : Bool) (P : Type 0) → IsTrue m ↔ P → IsTrue n ↔ P → m ≡ n
same_mark true true P is too = refl
same_mark true false P is too = sym (too.1 (is.0 refl))
same_mark false true P is too = is.1 (too.0 refl)
same_mark false false P is too = refl
