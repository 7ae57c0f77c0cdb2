-- The name of a node is that of the least event since which it is counted.
use Rattle.std.proofs.Common.{◌≡◌, ◌≢◌, ℕ, suc, ◌<◌, Bool, true, false, List, length, take, Option, Some, None, refl, ap, inl, inr, arith}
use Rattle.std.specs.Prelude.{◌||◌, ◌==◌, nat_lt, nat_le, slice_get, option_map}
use Rattle.std.specs.Option.{option_map_or}
use Rattle.std.proofs.lemmas.Bool.{cases_lt, and_parts, false_from_ne_true}
use Rattle.std.proofs.lemmas.Bool.Decides.{nat_tests}
use Rattle.std.proofs.lemmas.Option.{slice_get_within}
use Rattle.fa_bodies.specs.declared.requests.TheConstants.{ROOT_ID}
use Rattle.fa_session.specs.Events.{PlainEvent}
use Rattle.fa_ledger.specs.declared.name.NodeName.TheVariants.{Given}
use Rattle.fa_ledger.specs.Counts.{times_given}
use Rattle.fa_ledger.specs.Names.{is_counted, gives_at, stays_from, IsCountedSince}
use Rattle.fa_ledger.specs.Sums.{each_below, least_below}
use Rattle.fa_ledger.specs.Laws.{NameIsLeast}
use Rattle.fa_ledger.proofs.SumLemmas.{least_below-found, least_below-is, each_below-passes, each_below-is}

-- ---- tests

pub or_either : (a b : Bool) → (a || b) ≡ true → (a ≡ false) → b ≡ true
or_either true b is not = absurd cc
or_either false b is not = is

-- ---- an event since which a node is counted

gives_there : (es : List PlainEvent) (node g : ℕ) → gives_at es node g ≡ true → (e : PlainEvent) × (slice_get es g ≡ Some e) × (0 < times_given node e)
gives_there es node g is =
    elim (slice_get es g) as (λ t. slice_get es g ≡ t → option_map_or (λ e. nat_lt 0 (times_given node e)) t false ≡ true → (e : PlainEvent) × (slice_get es g ≡ Some e) × (0 < times_given node e)) [
      | None ↦ λ there clash. absurd cc
      | Some e ↦ λ there gives. (e, there, grind (arith, nat_tests, gives))
    ] refl is

pub stays_since : (es : List PlainEvent) (node g : ℕ) → stays_from es node g ≡ true → IsCountedSince es node g
stays_since es node g is =
    let both = and_parts (gives_at es node g) (each_below (suc (length es)) (λ r. nat_le r g || is_counted (take r es) node)) is in
    let gives = gives_there es node g both.0 in
    record {
      event = gives.0;
      there = gives.1;
      gives = gives.2;
      stays = λ r later within.
          let passes = each_below-passes (suc (length es)) (λ k. nat_le k g || is_counted (take k es) node) both.1 r (omega (arith, within)) in
          let behind : nat_le r g ≡ false = grind (arith, nat_tests, later) in
          let counted : is_counted (take r es) node ≡ true = or_either (nat_le r g) (is_counted (take r es) node) passes behind in
          grind (arith, nat_tests, counted);
    }

pub since_stays : (es : List PlainEvent) (node g : ℕ) → IsCountedSince es node g → stays_from es node g ≡ true
since_stays es node g since =
    let gives : gives_at es node g ≡ true = rw since.there (grind (arith, nat_tests, since.gives)) in
    let each : each_below (suc (length es)) (λ r. nat_le r g || is_counted (take r es) node) ≡ true =
    each_below-is (suc (length es)) (λ r. nat_le r g || is_counted (take r es) node) (λ r below.
    elim (cases_lt g r) [
      | inl later ↦ let counted = since.stays r later (omega (arith, below)) in grind (arith, nat_tests, counted, later)
      | inr not_later ↦ grind (arith, nat_tests, not_later)
    ]) in
    rw (gives, each) refl

-- ---- names

pub not_root : (node : ℕ) → node ≢ ROOT_ID → (node == ROOT_ID) ≡ false
not_root node other = false_from_ne_true (node == ROOT_ID) (λ is. other (grind (arith, nat_tests, is)))

named : (node : ℕ) (t : Option ℕ) (g : ℕ) → option_map (λ h. Given h node) t ≡ Some (Given g node) → t ≡ Some g
named node None g is = absurd cc
named node (Some h) g is = let same : h ≡ g = cc in ap (λ x. Some x) same

pub name_is_least : NameIsLeast
name_is_least es node g other = (
  (λ is.
      let least : least_below (length es) (stays_from es node) ≡ Some g = named node (least_below (length es) (stays_from es node)) g (rw (not_root node other) at is) in
      let found = least_below-found (length es) (stays_from es node) g least in
      record {
        since = stays_since es node g found.1;
        least = λ h since. elim (cases_lt h g) [
          | inl below ↦ let fails = found.2 h below in let holds = since_stays es node h since in absurd cc
          | inr not_below ↦ not_below
        ];
      }),
  (λ is.
      let within : g < length es = slice_get_within es g is.since.event is.since.there in
      let least = least_below-is (length es) (stays_from es node) g within (since_stays es node g is.since)
      (λ h below. false_from_ne_true (stays_from es node h) (λ holds. let more = is.least h (stays_since es node h holds) in omega (arith, more, below))) in
      rw (not_root node other, least) refl),
)
