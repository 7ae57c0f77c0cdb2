-- What one event does to a key: how it is open after the event, by how it was before.
use Rattle.std.proofs.Common.{◌≡◌, ℕ, ◌+◌, ◌<◌, ◌≤◌, ◌⊎◌, Bool, true, false, List, [], ◌∷◌, ◌++◌, length, take, Option, Some, None, refl, sym, ap, subst, ◌∙◌, inl, inr, arith}
use Rattle.std.specs.Prelude.{◌↔◌, ◌==◌, ◌-◌, ◌||◌, IsTrue, if◌then◌else◌}
use Rattle.std.proofs.lemmas.Bool.{cases_lt}
use Rattle.std.proofs.lemmas.Bool.Decides.{nat_tests}
use Rattle.std.proofs.lemmas.Option.{slice_get_within, same_Some}
use Rattle.std.proofs.lemmas.List.{take_all, length-append}
use Rattle.fa_capture.proofs.CallerLemmas.{get_kept, get_back, get_last, get_cases, take_before, take_all_before}
use Rattle.fa_capture.specs.declared.limits.TheConstants.{MAX_MESSAGES}
use Rattle.fa_bodies.specs.declared.handles.OpenOut.{OpenOut}
use Rattle.fa_bodies.specs.FlagBits.{fopen_direct_io}
use Rattle.fa_bodies.specs.Flags.{HasFlag, fopen_bits}
use Rattle.fa_bodies.specs.Requests.{PlainRequest}
use Rattle.fa_bodies.specs.Replies.{PlainReply}
use Rattle.fa_session.specs.Events.{PlainEvent}
use Rattle.fa_session.specs.Events.PlainEvent.{Answered}
use Rattle.fa_ledger.specs.declared.handles.Handle.{Handle}
use Rattle.fa_ledger.specs.declared.key.Key.{Key}
use Rattle.fa_ledger.specs.Sums.{sum_behind}
use Rattle.fa_ledger.specs.Keys.{key_eq}
use Rattle.fa_ledger.specs.Handles.{opening, closing, opens_once, closes_once, times_opened, times_closed, IsOpen, OpensAt, IsOpenSince, IsHandle, IsShared, IsDirect}
use Rattle.fa_ledger.specs.Shows.{IsOpenAs, IsKeyOf}
use Rattle.fa_ledger.specs.parts.Steps.{opened_again, closed_once}
use Rattle.fa_ledger.proofs.HandleLemmas.{key_self, opened_more, closed_more, opens_or_not, open_still, open_before, open_now, since_is_one}
use Rattle.fa_ledger.proofs.GoodLemmas.{closing_asked}

-- each event opens a key once at most
behind_within : (key : Key) (before es : List PlainEvent) → sum_behind (opens_once key) before es ≤ length es
behind_within key before [] = omega arith
behind_within key before (e ∷ es) =
    let later = behind_within key (before ++ e ∷ []) es in
    elim (opens_or_not key before e) [
      | inl opens ↦ omega (arith, later, opens.2)
      | inr none ↦ omega (arith, later, none)
    ]

pub opened_within : (es : List PlainEvent) (key : Key) → times_opened es key ≤ length es
opened_within es key = behind_within key [] es

-- ---- what stands for a key

-- a key that is open so is open
pub open_is_some : (es : List PlainEvent) (key : Key) (h : Handle) → IsOpenAs es key h → IsOpen es key
open_is_some es key h is = omega (arith, is.some, is.left)

-- something stands for a key that is open
pub open_not_none : (es : List PlainEvent) (key : Key) → IsOpen es key → IsKeyOf es key None → ⊥
open_not_none es key stands none = omega (arith, stands, none)

-- either of two marks
pub either_mark : (a b : Bool) (P Q R : Type 0) → IsTrue a ↔ P → IsTrue b ↔ Q → (P → R) → (Q → R) → (R → P ⊎ Q) → IsTrue (a || b) ↔ R
either_mark true b P Q R is too left right back = (λ marked. left (is.0 refl), λ such. refl)
either_mark false b P Q R is too left right back = (
  λ marked. right (too.0 marked),
  λ such. elim (back such) [
    | inl first ↦ absurd (let clash : false ≡ true = is.1 first in cc)
    | inr second ↦ too.1 second
  ],
)

-- ---- places among the events, with one more

-- all events, with the new one
take_whole : (es : List PlainEvent) (e : PlainEvent) (i : ℕ) → length es < i → i ≤ length (es ++ e ∷ []) → take i (es ++ e ∷ []) ≡ es ++ e ∷ []
take_whole es e i later within =
    let long : length (es ++ e ∷ []) ≡ length es + 1 = length-append es (e ∷ []) in
    let whole : i ≡ length (es ++ e ∷ []) = omega (arith, later, within, long) in
    ap (λ k. take k (es ++ e ∷ [])) whole ∙ take_all (length (es ++ e ∷ [])) (es ++ e ∷ []) (omega arith)

-- ---- what one event opens and closes

module _ (es : List PlainEvent) (e : PlainEvent) (key : Key) where
  -- what opens a key opens it once
  opens_one : (out : OpenOut) → opening es e ≡ Some (key, out) → opens_once key es e ≡ 1
  opens_one out opens = rw (opens, key_self key) refl

  -- what closes a key closes it once
  closes_one : closing es e ≡ Some key → closes_once key es e ≡ 1
  closes_one closes = rw (closes, key_self key) refl

  -- what opens one key opens no other
  pub other_unopened : (other : Key) (out : OpenOut) → opening es e ≡ Some (key, out) → key_eq key other ≡ false → opens_once other es e ≡ 0
  other_unopened other out opens differ = rw (opens, differ) refl

  -- what closes one key closes no other
  pub other_unclosed : (other : Key) → closing es e ≡ Some key → key_eq key other ≡ false → closes_once other es e ≡ 0
  other_unclosed other closes differ = rw (closes, differ) refl

  -- what opens nothing opens no key
  pub none_unopened : opening es e ≡ None → opens_once key es e ≡ 0
  none_unopened none = rw none refl

  -- what closes nothing closes no key
  pub none_unclosed : closing es e ≡ None → closes_once key es e ≡ 0
  none_unclosed none = rw none refl

  -- a reply closes no key
  reply_unclosed : (at asked : ℕ) (r : PlainRequest) (reply : PlainReply) → e ≡ Answered at asked r reply → closes_once key es e ≡ 0
  reply_unclosed at asked r reply is =
      let none : closing es e ≡ None = rw is refl in
      none_unclosed none

  -- what closes a key opens none
  closing_unopened : (other : Key) → closing es e ≡ Some key → opens_once other es e ≡ 0
  closing_unopened other closes =
      let asked = closing_asked es e key closes in
      let none : opening es e ≡ None = rw asked.2 refl in
      rw none refl

  -- what opened a key at some place still did
  opens_still : (i : ℕ) (out : OpenOut) → OpensAt es i key out → OpensAt (es ++ e ∷ []) i key out
  opens_still i out opens =
      let within : i < length es = slice_get_within es i opens.0 opens.1 in
      let front : take i (es ++ e ∷ []) ≡ take i es = take_before es e i (omega (arith, within)) in
      (opens.0, get_kept es (e ∷ []) i opens.0 opens.1, subst (λ x. opening x opens.0 ≡ Some (key, out)) (sym front) opens.2)

  -- the new event opens a key at the last place
  opens_last : (out : OpenOut) → opening es e ≡ Some (key, out) → OpensAt (es ++ e ∷ []) (length es) key out
  opens_last out opens = (e, get_last es e, subst (λ x. opening x e ≡ Some (key, out)) (sym (take_all_before es e)) opens)

  -- what opens a key did so before, or is the new event
  opens_cases : (i : ℕ) (out : OpenOut) → OpensAt (es ++ e ∷ []) i key out → ((i < length es) × OpensAt es i key out) ⊎ ((i ≡ length es) × (opening es e ≡ Some (key, out)))
  opens_cases i out opens =
      elim (get_cases es e i opens.0 opens.1) [
        | inl below ↦
            let front : take i (es ++ e ∷ []) ≡ take i es = take_before es e i (omega (arith, below)) in
            inl (below, (opens.0, get_back es (e ∷ []) i opens.0 below opens.1, subst (λ x. opening x opens.0 ≡ Some (key, out)) front opens.2))
        | inr here ↦
            let front : take i (es ++ e ∷ []) ≡ es = ap (λ k. take k (es ++ e ∷ [])) here.0 ∙ take_all_before es e in
            let moved : opening es opens.0 ≡ Some (key, out) = subst (λ x. opening x opens.0 ≡ Some (key, out)) front opens.2 in
            inr (here.0, subst (λ (x : PlainEvent). opening es x ≡ Some (key, out)) here.1 moved)
      ]

  -- where the new event does not open the key, what opens it did so before
  opened_before : (i : ℕ) (out : OpenOut) → opens_once key es e ≡ 0 → OpensAt (es ++ e ∷ []) i key out → (i < length es) × OpensAt es i key out
  opened_before i out none opens =
      elim (opens_cases i out opens) [
        | inl before ↦ before
        | inr now ↦ absurd (omega (arith, none, opens_one out now.1))
      ]

  -- ---- an open key that stays open

  handle_still : (name : ℕ) → IsHandle es key name → IsOpen (es ++ e ∷ []) key → IsHandle (es ++ e ∷ []) key name
  handle_still name is now = record {
    since = is.since;
    stands = open_still es e key is.since is.stands now;
    request = is.request;
    reply = is.reply;
    answer = get_kept es (e ∷ []) is.since (Answered is.since name is.request is.reply) is.answer;
  }

  shared_still : IsShared es key → IsOpen (es ++ e ∷ []) key → IsShared (es ++ e ∷ []) key
  shared_still is now =
      let long : length (es ++ e ∷ []) ≡ length es + 1 = length-append es (e ∷ []) in
      let front : take is.1 (es ++ e ∷ []) ≡ take is.1 es = take_before es e is.1 is.4 in (
        is.0,
        is.1,
        open_still es e key is.0 is.2 now,
        is.3,
        omega (arith, is.4, long),
        subst (λ x. times_closed x key + 1 < times_opened x key) (sym front) is.5,
      )

  direct_still : IsDirect es key → IsOpen (es ++ e ∷ []) key → IsDirect (es ++ e ∷ []) key
  direct_still is now = (is.0, is.1, is.2, open_still es e key is.0 is.3 now, is.4, opens_still is.1 is.2 is.5, is.6)

  -- ---- where the new event does not open the key

  -- what is shared was so before
  shared_before : opens_once key es e ≡ 0 → IsShared (es ++ e ∷ []) key → IsShared es key
  shared_before none is =
      let opened = opened_before is.0 is.2.out none is.2.opened in
      let since = open_before es e key is.0 opened.0 is.2 in
      elim (cases_lt (length es) is.1) [
        | inl last ↦
            let whole : take is.1 (es ++ e ∷ []) ≡ es ++ e ∷ [] = take_whole es e is.1 last is.4 in
            let above : times_closed (es ++ e ∷ []) key + 1 < times_opened (es ++ e ∷ []) key = subst (λ x. times_closed x key + 1 < times_opened x key) whole is.5 in
            let before : times_closed es key + 1 < times_opened es key = omega (arith, above, none, opened_more es e key, closed_more es e key) in
            let all : take (length es) es ≡ es = take_all (length es) es (omega arith) in
            (is.0, length es, since, opened.0, omega arith, subst (λ x. times_closed x key + 1 < times_opened x key) (sym all) before)
        | inr within ↦ (is.0, is.1, since, is.3, within, subst (λ x. times_closed x key + 1 < times_opened x key) (take_before es e is.1 within) is.5)
      ]

  -- what is direct was so before
  direct_before : opens_once key es e ≡ 0 → IsDirect (es ++ e ∷ []) key → IsDirect es key
  direct_before none is =
      let first = opened_before is.0 is.3.out none is.3.opened in
      let again = opened_before is.1 is.2 none is.5 in
      (is.0, is.1, is.2, open_before es e key is.0 first.0 is.3, is.4, again.1, is.6)

  -- an open key that is not opened and stays open keeps its name and its marks
  open_kept : (h : Handle) (n : ℕ) → opens_once key es e ≡ 0 → IsOpenAs es key h → 0 < n → times_closed (es ++ e ∷ []) key + n ≡ times_opened (es ++ e ∷ []) key
      → IsOpenAs (es ++ e ∷ []) key (record { openings = n; name = h.name; shared = h.shared; direct = h.direct })
  open_kept h n none is some left =
      let now : IsOpen (es ++ e ∷ []) key = omega (arith, some, left) in
      record {
        some = some;
        left = left;
        named = handle_still h.name is.named now;
        shared = (λ marked. shared_still (is.shared.0 marked) now, λ such. is.shared.1 (shared_before none such));
        direct = (λ marked. direct_still (is.direct.0 marked) now, λ such. is.direct.1 (direct_before none such));
      }

  -- a key that the new event neither opens nor closes stays as it was
  pub key_unmoved : (x : Option Handle) → opens_once key es e ≡ 0 → closes_once key es e ≡ 0 → IsKeyOf es key x → IsKeyOf (es ++ e ∷ []) key x
  key_unmoved None unopened unclosed is = omega (arith, is, unopened, unclosed, opened_more es e key, closed_more es e key)
  key_unmoved (Some h) unopened unclosed is =
      open_kept h h.openings unopened is is.some (omega (arith, is.left, unopened, unclosed, opened_more es e key, closed_more es e key))

  -- a key that the new event closes is open once less, or not at all
  pub key_closed : (x : Option Handle) → closing es e ≡ Some key → IsOpen es key → IsKeyOf es key x → IsKeyOf (es ++ e ∷ []) key (closed_once x)
  key_closed None closes stands is = absurd (open_not_none es key stands is)
  key_closed (Some h) closes stands is =
      let unopened = closing_unopened key closes in
      let closed = closes_one closes in
      elim (h.openings == 1) as (λ b. (h.openings == 1) ≡ b → IsKeyOf (es ++ e ∷ []) key (if b then None else Some (record { openings = h.openings - 1; name = h.name; shared = h.shared; direct = h.direct }))) [
        | true ↦ λ test.
            let one : h.openings ≡ 1 = grind (arith, nat_tests, test) in
            omega (arith, one, is.left, unopened, closed, opened_more es e key, closed_more es e key)
        | false ↦ λ test.
            let more : 1 < h.openings = grind (arith, nat_tests, test, is.some) in
            let some : 0 < h.openings - 1 = omega (arith, more) in
            open_kept h (h.openings - 1) unopened is some (omega (arith, more, is.left, unopened, closed, opened_more es e key, closed_more es e key))
      ] refl

  -- ---- where the new event opens the key

  -- the output of an opening is one
  same_out : (a b : OpenOut) → opening es e ≡ Some (key, a) → opening es e ≡ Some (key, b) → a ≡ b
  same_out a b is too = ap (λ opened. opened.1) (same_Some (key, a) (key, b) (sym is ∙ too))

  -- a key that stood at zero is not shared when it is opened
  anew_unshared : times_closed es key ≡ times_opened es key → closes_once key es e ≡ 0 → opens_once key es e ≡ 1
      → IsOpenSince (es ++ e ∷ []) key (length es) → IsShared (es ++ e ∷ []) key → ⊥
  anew_unshared zero_before unclosed opened since is =
      let here : is.0 ≡ length es = since_is_one (es ++ e ∷ []) key is.0 (length es) is.2 since in
      let last : length es < is.1 = omega (arith, here, is.3) in
      let whole : take is.1 (es ++ e ∷ []) ≡ es ++ e ∷ [] = take_whole es e is.1 last is.4 in
      let above : times_closed (es ++ e ∷ []) key + 1 < times_opened (es ++ e ∷ []) key = subst (λ x. times_closed x key + 1 < times_opened x key) whole is.5 in
      omega (arith, above, zero_before, unclosed, opened, opened_more es e key, closed_more es e key)

  -- such a key is direct by this opening alone
  anew_direct : (out : OpenOut) → opening es e ≡ Some (key, out) → IsOpenSince (es ++ e ∷ []) key (length es)
      → IsDirect (es ++ e ∷ []) key → HasFlag (fopen_bits out.open_flags) fopen_direct_io
  anew_direct out opens since is =
      let here : is.0 ≡ length es = since_is_one (es ++ e ∷ []) key is.0 (length es) is.3 since in
      elim (opens_cases is.1 is.2 is.5) [
        | inl before ↦ absurd (omega (arith, before.0, here, is.4))
        | inr now ↦ subst (λ (o : OpenOut). HasFlag (fopen_bits o.open_flags) fopen_direct_io) (same_out is.2 out now.1 opens) is.6
      ]

  -- what is direct was so before, or is by the new opening
  direct_cases : (out : OpenOut) (r : ℕ) → opening es e ≡ Some (key, out) → r < length es → IsOpenSince (es ++ e ∷ []) key r
      → IsDirect (es ++ e ∷ []) key → IsDirect es key ⊎ HasFlag (fopen_bits out.open_flags) fopen_direct_io
  direct_cases out r opens below since is =
      let here : is.0 ≡ r = since_is_one (es ++ e ∷ []) key is.0 r is.3 since in
      elim (opens_cases is.1 is.2 is.5) [
        | inl before ↦ inl (is.0, is.1, is.2, open_before es e key is.0 (omega (arith, here, below)) is.3, is.4, before.1, is.6)
        | inr now ↦ inr (subst (λ (o : OpenOut). HasFlag (fopen_bits o.open_flags) fopen_direct_io) (same_out is.2 out now.1 opens) is.6)
      ]

  -- a key that the new event opens is open once more
  pub key_opened : (x : Option Handle) (out : OpenOut) (asked : ℕ) (r : PlainRequest) (reply : PlainReply)
      → e ≡ Answered (length es) asked r reply → opening es e ≡ Some (key, out) → IsKeyOf es key x → (direct : Bool) → IsTrue direct ↔ HasFlag (fopen_bits out.open_flags) fopen_direct_io
      → IsKeyOf (es ++ e ∷ []) key (Some (opened_again asked direct x))
  key_opened None out asked r reply answers opens is direct flag =
      let opened = opens_one out opens in
      let unclosed = reply_unclosed (length es) asked r reply answers in
      let left : times_closed (es ++ e ∷ []) key + 1 ≡ times_opened (es ++ e ∷ []) key = omega (arith, is, opened, unclosed, opened_more es e key, closed_more es e key) in
      let since = open_now es e key out opens (sym is) (omega (arith, left)) in
      record {
        some = omega arith;
        left = left;
        named = record {
          since = length es;
          stands = since;
          request = r;
          reply = reply;
          answer = get_last es e ∙ ap (λ x. Some x) answers;
        };
        shared = (λ marked. absurd cc, λ such. absurd (anew_unshared is unclosed opened since such));
        direct = (
          λ marked. (length es, length es, out, since, omega arith, opens_last out opens, flag.0 marked),
          λ such. flag.1 (anew_direct out opens since such),
        );
      }
  key_opened (Some h) out asked r reply answers opens is direct flag =
      let opened = opens_one out opens in
      let unclosed = reply_unclosed (length es) asked r reply answers in
      let long : length (es ++ e ∷ []) ≡ length es + 1 = length-append es (e ∷ []) in
      let left : times_closed (es ++ e ∷ []) key + (h.openings + 1) ≡ times_opened (es ++ e ∷ []) key = omega (arith, is.left, opened, unclosed, opened_more es e key, closed_more es e key) in
      let now : IsOpen (es ++ e ∷ []) key = omega (arith, left) in
      let since = open_still es e key is.named.since is.named.stands now in
      let below : is.named.since < length es = slice_get_within es is.named.since is.named.stands.opened.0 is.named.stands.opened.1 in
      let whole : take (length es + 1) (es ++ e ∷ []) ≡ es ++ e ∷ [] = take_whole es e (length es + 1) (omega arith) (omega (arith, long)) in
      let above : times_closed (es ++ e ∷ []) key + 1 < times_opened (es ++ e ∷ []) key = omega (arith, is.some, left) in
      record {
        some = omega arith;
        left = left;
        named = handle_still h.name is.named now;
        shared = (
          λ marked. (is.named.since, length es + 1, since, omega (arith, below), omega (arith, long), subst (λ x. times_closed x key + 1 < times_opened x key) (sym whole) above),
          λ such. refl,
        );
        direct = either_mark h.direct direct (IsDirect es key) (HasFlag (fopen_bits out.open_flags) fopen_direct_io) (IsDirect (es ++ e ∷ []) key) is.direct flag
            (λ such. direct_still such now)
            (λ has. (is.named.since, length es, out, since, omega (arith, below), opens_last out opens, has))
            (direct_cases out is.named.since opens below since);
      }

-- ---- how often a key is open

-- a key is open less often than there may be messages
pub openings_few : (es : List PlainEvent) (key : Key) (x : Option Handle) (h : Handle) → IsKeyOf es key x → x ≡ Some h → length es < MAX_MESSAGES → h.openings < MAX_MESSAGES
openings_few es key None h is there few = absurd cc
openings_few es key (Some k) h is there few =
    let same : k ≡ h = cc in
    omega (arith, is.left, opened_within es key, few, ap (λ (x : Handle). x.openings) same)
