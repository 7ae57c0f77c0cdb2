-- The calls of a capture are those of some messages, which no code has at hand. What is in flight is decided by the calls, so where it is so
-- by whatever messages they are of, it is so.
use Rattle.std.proofs.Common.{◌≡◌, ◌⊎◌, ℕ, ◌<◌, ◌≤◌, Bool, true, false, List, [], ◌∷◌, Option, Some, None, refl, sym, subst, ap, ◌∙◌, inl, inr, arith}
use Rattle.std.specs.Prelude.{slice_get, Contains, All, IfSome}
use Rattle.std.specs.BTreeMap.{BTreeMap, is_at}
use Rattle.std.specs.Map.{lookup}
use Rattle.std.specs.Ordering.{nat_cmp}
use Rattle.std.proofs.Math.Logic.{∥∥₁_elim}
use Rattle.std.proofs.lemmas.Bool.{cases_lt, cases_eq}
use Rattle.std.proofs.lemmas.List.Elements.{All-cons, All-head, All-tail, All-contains, All-contains_itself, All-weaker}
use Rattle.std.proofs.lemmas.Option.{same_Some}
use Rattle.fa_capture.specs.Message.{Message}
use Rattle.fa_capture.proofs.CallerLemmas.{contains_cases, contains_first, contains_behind}
use Rattle.fa_ledger.specs.Calls.{PlainAnswer, PlainCall}
use Rattle.fa_ledger.specs.Kinds.{IsFailure, OnlyReads}
use Rattle.fa_ledger.specs.Operations.{PlainOperation, ended}
use Rattle.fa_ledger.specs.Operations.PlainOperation.{Lists, Acts}
use Rattle.fa_ledger.specs.Operations.PlainAction.{Lookup, Getattr, Readlink, Read, Opendir}
use Rattle.fa_ledger.specs.declared.calls.Calls.{Calls}
use Rattle.fa_ledger.specs.declared.name.NodeName.{NodeName}
use Rattle.fa_ledger.specs.declared.name.NodeName.TheVariants.{Root, Given}
use Rattle.fa_ledger.specs.declared.operation.Outcome.{Outcome}
use Rattle.fa_ledger.specs.declared.operation.Outcome.TheVariants.{Fails}
use Rattle.fa_tree.specs.Steps.{names_given, opens_anew}
use Rattle.fa_check.specs.Verdicts.{AreMessagesOf}
use Rattle.fa_search.specs.declared.flight.Due.{Due}
use Rattle.fa_search.specs.declared.flight.Pending.{Pending}
use Rattle.fa_search.specs.declared.flight.InFlight.{InFlight}
use Rattle.fa_search.specs.parts.Configurations.{IsCallPending, KeepsTrees, IsGivenUpTo, GivesUpTo, most_written}
use Rattle.fa_tree.specs.Alike.{IsLastFrom}
use Rattle.fa_search.specs.parts.Flight.{IsDue, IsPendingOf, IsInFlight, IsFlight, due_by}

-- ---- what is decided

abbrev IsDecided : Type 0 → Type 0
IsDecided Fact = Fact ⊎ (Fact → ⊥)

less_decided : (a b : ℕ) → IsDecided (a < b)
less_decided a b = elim (cases_lt a b) [ inl less ↦ inl less | inr more ↦ inr (λ less. omega (arith, less, more)) ]

most_decided : (a b : ℕ) → IsDecided (a ≤ b)
most_decided a b = elim (cases_lt b a) [ inl more ↦ inr (λ most. omega (arith, most, more)) | inr most ↦ inl most ]

test_decided : (a b : Bool) → IsDecided (a ≡ b)
test_decided true true = inl refl
test_decided false false = inl refl
test_decided true false = inr (λ same. absurd cc)
test_decided false true = inr (λ same. absurd cc)

answer_decided : (answer : Option PlainAnswer) → IsDecided (answer ≡ None)
answer_decided None = inl refl
answer_decided (Some answer) = inr (λ same. absurd cc)

count_decided : (a b : Option ℕ) → IsDecided (a ≡ b)
count_decided None None = inl refl
count_decided (Some a) (Some b) = elim (cases_eq a b) [ inl same ↦ inl (ap (λ (n : ℕ). Some n) same) | inr other ↦ inr (λ same. other (same_Some a b same)) ]
count_decided None (Some b) = inr (λ same. absurd cc)
count_decided (Some a) None = inr (λ same. absurd cc)

names_decided : (names : List NodeName) → IsDecided (names ≡ [])
names_decided [] = inl refl
names_decided (name ∷ names) = inr (λ same. absurd cc)

failure_decided : (outcome : Outcome (Unit {0})) → IsDecided (IsFailure outcome)
failure_decided (Fails error) = inl tt
failure_decided other = inr (λ fails. fails)

reads_decided : (o : PlainOperation) → IsDecided (OnlyReads o)
reads_decided (Lists l) = inl tt
reads_decided (Acts (Lookup name o)) = inl tt
reads_decided (Acts (Getattr o)) = inl tt
reads_decided (Acts (Readlink o)) = inl tt
reads_decided (Acts (Read offset size o)) = inl tt
reads_decided (Acts (Opendir o)) = inl tt
reads_decided (Acts other) = inr (λ reads. reads)

both_decided : {A B : Type 0} → IsDecided A → IsDecided B → IsDecided (A × B)
both_decided (inl a) (inl b) = inl (a, b)
both_decided (inr none) b = inr (λ both. none both.0)
both_decided (inl a) (inr none) = inr (λ both. none both.1)

keeps_decided : (call : PlainCall) → IsDecided (KeepsTrees call)
keeps_decided call = by (failure_decided (ended call.operation)) (reads_decided call.operation) (names_decided (names_given call)) (test_decided (opens_anew call) false)
  where
    by : IsDecided (IsFailure (ended call.operation)) → IsDecided (OnlyReads call.operation) → IsDecided (names_given call ≡ []) → IsDecided (opens_anew call ≡ false) → IsDecided (KeepsTrees call)
    by (inl fails) reads names opens = inl (inl fails)
    by (inr none) (inl reads) (inl names) (inl opens) = inl (inr (reads, names, opens))
    by (inr none) (inr changes) names opens = inr (λ keeps. elim keeps [ inl fails ↦ none fails | inr is ↦ changes is.0 ])
    by (inr none) (inl reads) (inr some) opens = inr (λ keeps. elim keeps [ inl fails ↦ none fails | inr is ↦ some is.1 ])
    by (inr none) (inl reads) (inl names) (inr anew) = inr (λ keeps. elim keeps [ inl fails ↦ none fails | inr is ↦ anew is.2 ])

some_decided : {A : Type 0} (found : Option A) (Such : A → Type 0) → ((a : A) → IsDecided (Such a)) → IsDecided (IfSome found Such)
some_decided None Such each = inl tt
some_decided (Some a) Such each = each a

given_decided : (reply : ℕ) (name : NodeName) → IsDecided (IsGivenUpTo reply name)
given_decided reply Root = inr (λ given. given)
given_decided reply (Given by id) = most_decided by reply

each_given_decided : (reply : ℕ) (names : List NodeName) → IsDecided (All (IsGivenUpTo reply) names)
each_given_decided reply [] = inl (λ k d within. absurd (omega (arith, within)))
each_given_decided reply (name ∷ names) = by (given_decided reply name) (each_given_decided reply names)
  where
    by : IsDecided (IsGivenUpTo reply name) → IsDecided (All (IsGivenUpTo reply) names) → IsDecided (All (IsGivenUpTo reply) (name ∷ names))
    by (inl first) (inl rest) = inl (All-cons (IsGivenUpTo reply) name names first rest)
    by (inr other) rest = inr (λ all. other (All-head (IsGivenUpTo reply) name names all))
    by (inl first) (inr other) = inr (λ all. other (All-tail (IsGivenUpTo reply) name names all))

up_to_decided : (reply : ℕ) (call : PlainCall) → IsDecided (GivesUpTo reply call)
up_to_decided reply call =
    by (reads_decided call.operation) (test_decided (opens_anew call) false) (each_given_decided reply (names_given call))
  where
    by : IsDecided (OnlyReads call.operation) → IsDecided (opens_anew call ≡ false) → IsDecided (All (IsGivenUpTo reply) (names_given call)) → IsDecided (GivesUpTo reply call)
    by (inl reads) (inl opens) (inl each) = inl (reads, opens, each)
    by (inr changes) opens each = inr (λ up. changes up.0)
    by (inl reads) (inr anew) each = inr (λ up. anew up.1)
    by (inl reads) (inl opens) (inr other) = inr (λ up. other up.2)

name_decided : (one other : NodeName) → IsDecided (one ≡ other)
name_decided Root Root = inl refl
name_decided Root (Given by id) = inr (λ same. absurd cc)
name_decided (Given by id) Root = inr (λ same. absurd cc)
name_decided (Given by id) (Given since other) = elim (cases_eq by since) [
  | inl replies ↦ elim (cases_eq id other) [
    | inl ids ↦ inl (ap (λ (b : ℕ). Given b id) replies ∙ ap (λ (i : ℕ). Given since i) ids)
    | inr apart ↦ inr (λ same. apart cc)
  ]
  | inr apart ↦ inr (λ same. apart cc)
]

only_decided : (names : List NodeName) (name : NodeName) → IsDecided (names ≡ name ∷ [])
only_decided [] name = inr (λ same. absurd cc)
only_decided (n ∷ []) name = elim (name_decided n name) [ inl same ↦ inl (ap (λ (k : NodeName). k ∷ []) same) | inr apart ↦ inr (λ same. apart cc) ]
only_decided (n ∷ m ∷ names) name = inr (λ same. absurd cc)

abbrev due_with : (never : Bool) (position : ℕ) → Due
due_with never position = record { never = never; position = position }

same_due : (one other : Due) → one.never ≡ other.never → one.position ≡ other.position → one ≡ other
same_due one other never position =
    let first : one ≡ due_with other.never one.position = ap (λ (n : Bool). due_with n one.position) never in
    let second : due_with other.never one.position ≡ other = ap (λ (p : ℕ). due_with other.never p) position in
    first ∙ second

due_decided : (one other : Due) → IsDecided (one ≡ other)
due_decided one other = elim (test_decided one.never other.never) [
  | inl never ↦ elim (cases_eq one.position other.position) [
    | inl position ↦ inl (same_due one other never position)
    | inr apart ↦ inr (λ same. apart (ap (λ (due : Due). due.position) same))
  ]
  | inr apart ↦ inr (λ same. apart (ap (λ (due : Due). due.never) same))
]

-- the one at a place, if there is one
place_decided : (entries : List (Due × Pending)) (place : ℕ) → IsDecided ((e : Due × Pending) × Contains entries e × (e.1.place ≡ place))
place_decided [] place = inr (λ found. absurd (let within = found.1.1 in omega (arith, within)))
place_decided (e ∷ entries) place = elim (cases_eq e.1.place place) [
  | inl same ↦ inl (e, contains_first e entries, same)
  | inr other ↦ elim (place_decided entries place) [
    | inl found ↦ inl (found.0, contains_behind e entries found.0 found.1, found.2)
    | inr none ↦ inr (λ found. elim (contains_cases e entries found.0 found.1) [
      | inl here ↦ other (ap (λ (f : Due × Pending). f.1.place) here ∙ found.2)
      | inr behind ↦ none (found.0, behind, found.2)
    ])
  ]
]

last_decided : (last_uses : BTreeMap ℕ ℕ) (from opened : ℕ) → IsDecided (IsLastFrom last_uses from opened)
last_decided last_uses from opened = by (lookup (is_at (nat_cmp opened)) last_uses.entries) refl
  where
    by : (found : Option ℕ) → lookup (is_at (nat_cmp opened)) last_uses.entries ≡ found → IsDecided (IsLastFrom last_uses from opened)
    by None none = inr (λ last. (let clash : None ≡ Some last.0 = sym none ∙ last.1 in cc))
    by (Some number) is = elim (most_decided from number) [
      | inl most ↦ inl (number, is, most)
      | inr less ↦ inr (λ last. less (let same : number ≡ last.0 = same_Some number last.0 (sym is ∙ last.1) in let behind = last.2 in omega (arith, same, behind)))
    ]

-- ---- what is so by whatever messages

module _ (calls : Calls) where
  -- there never are none
  never_none : ((c : List Message) → AreMessagesOf calls c → ⊥) → ⊥
  never_none none = ∥∥₁_elim calls.good (λ x y. absurd x) (λ some. none some.0 (record { good = some.1; counted = some.2; are = some.3 }))

  -- so what is decided is so
  told : (Fact : Type 0) → IsDecided Fact → ((c : List Message) → AreMessagesOf calls c → Fact) → Fact
  told Fact (inl is) by = is
  told Fact (inr none) by = absurd (never_none (λ c are. none (by c are)))

  -- as that there are some
  pub some_by : (n : ℕ) → ((c : List Message) → AreMessagesOf calls c → 0 < n) → 0 < n
  some_by n by = told (0 < n) (less_decided 0 n) by

  module _ (flight : InFlight) (by : (c : List Message) → AreMessagesOf calls c → IsFlight calls.list flight) where
    -- one that is in flight, with its call
    one_there : (e : Due × Pending) → Contains flight.requests.entries e → (call : PlainCall) → slice_get calls.list e.1.place ≡ Some call
        → (is : IsInFlight calls.list flight.at e.1) × IsDue e.0 is.call
    one_there e has call there = (
      record {
        call = call;
        listed = there;
        kept = record {
          there = refl;
          number = told (e.1.asked ≡ call.asked) (cases_eq e.1.asked call.asked) (λ c are. (kept c are).number);
          unanswered = λ never. told (call.answer ≡ None) (answer_decided call.answer) (λ c are. (kept c are).unanswered never);
          most = told (e.1.most ≡ most_written call.answer call.operation) (count_decided e.1.most (most_written call.answer call.operation)) (λ c are. (kept c are).most);
          keeps = λ keeps. told (KeepsTrees call) (keeps_decided call) (λ c are. (kept c are).keeps keeps);
          up_to = told (IfSome e.1.gives_up_to (λ reply. GivesUpTo reply call)) (some_decided e.1.gives_up_to (λ reply. GivesUpTo reply call) (λ reply. up_to_decided reply call))
              (λ c are. (kept c are).up_to);
          gives = told (IfSome e.1.gives (λ name. names_given call ≡ name ∷ [])) (some_decided e.1.gives (λ name. names_given call ≡ name ∷ []) (only_decided (names_given call)))
              (λ c are. (kept c are).gives);
        };
        waits = record {
          sent = told (call.asked < flight.at) (less_decided call.asked flight.at) (λ c are. (waits c are).sent);
          waits = λ answer given. told (flight.at ≤ answer.at) (most_decided flight.at answer.at) (λ c are. (waits c are).waits answer given);
          named = λ none reads. never_none (λ c are. (waits c are).named none reads);
        };
      },
      told (IsDue e.0 call) (due_decided e.0 (due_by call.answer call.asked)) (λ c are. subst (IsDue e.0) (same c are) (one c are).1),
    )
      where
        one : (c : List Message) → AreMessagesOf calls c → (is : IsInFlight calls.list flight.at e.1) × IsDue e.0 is.call
        one c are = All-contains (λ (f : Due × Pending). (is : IsInFlight calls.list flight.at f.1) × IsDue f.0 is.call) flight.requests.entries e (by c are).each has

        same : (c : List Message) (are : AreMessagesOf calls c) → (one c are).0.call ≡ call
        same c are = same_Some (one c are).0.call call (sym (one c are).0.listed ∙ there)

        kept : (c : List Message) → AreMessagesOf calls c → IsPendingOf e.1.place call e.1
        kept c are = subst (λ (x : PlainCall). IsPendingOf e.1.place x e.1) (same c are) (one c are).0.kept

        waits : (c : List Message) → AreMessagesOf calls c → IsCallPending flight.at call
        waits c are = subst (IsCallPending flight.at) (same c are) (one c are).0.waits

    one_by : (e : Due × Pending) → Contains flight.requests.entries e → (found : Option PlainCall) → slice_get calls.list e.1.place ≡ found
        → (is : IsInFlight calls.list flight.at e.1) × IsDue e.0 is.call
    one_by e has (Some call) there = one_there e has call there
    one_by e has None there = absurd (never_none (λ c are.
        let is = (All-contains (λ (f : Due × Pending). (is : IsInFlight calls.list flight.at f.1) × IsDue f.0 is.call) flight.requests.entries e (by c are).each has).0 in
        let clash : None ≡ Some is.call = sym there ∙ is.listed in
        absurd cc))

    -- what is in flight
    pub flight_there : IsFlight calls.list flight
    flight_there = record {
      uses = λ place call there answer listing opened has lists on.
          told (IsLastFrom flight.last_uses answer.at opened) (last_decided flight.last_uses answer.at opened) (λ c are. (by c are).uses place call there answer listing opened has lists on);
      each = All-weaker (Contains flight.requests.entries) (λ (e : Due × Pending). (is : IsInFlight calls.list flight.at e.1) × IsDue e.0 is.call)
          (λ e has. one_by e has (slice_get calls.list e.1.place) refl) flight.requests.entries (All-contains_itself flight.requests.entries);
      all = λ place call there waits.
          told ((e : Due × Pending) × Contains flight.requests.entries e × (e.1.place ≡ place)) (place_decided flight.requests.entries place) (λ c are. (by c are).all place call there waits);
      sent = λ place call there before. told (call.asked < flight.at) (less_decided call.asked flight.at) (λ c are. (by c are).sent place call there before);
      unsent = λ place call there behind. told (flight.at ≤ call.asked) (most_decided flight.at call.asked) (λ c are. (by c are).unsent place call there behind);
    }
