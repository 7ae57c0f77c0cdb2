-- The two messages of a tree request, read again.
use Rattle.std.proofs.Common.{◌≡◌, ℕ, List, [], ◌∷◌, ◌++◌, length, arith, Option, None, Some, Bor, refl, sym, subst, ap, ◌∙◌}
use Rattle.std.specs.Prelude.{◌≢◌, option_map}
use Rattle.std.specs.Option.{IsSome, option_copied}
use Rattle.std.proofs.Math.Logic.{∥∥₁_elim}
use Rattle.std.proofs.Props.{props}
use Rattle.std.proofs.lemmas.List.{length-append}
use Rattle.fa_bodies.specs.declared.replies.Reply.{Reply}
use Rattle.fa_bodies.specs.Fields.{le32}
use Rattle.fa_bodies.specs.Requests.{PlainRequest, IsRequest}
use Rattle.fa_bodies.specs.Replies.{PlainReply, IsReply, reply_shown}
use Rattle.fa_bodies.proofs.CallerLemmas.{request_is_one}
use Rattle.fa_ledger.specs.declared.operation.Operation.{Operation}
use Rattle.std.proofs.lemmas.Option.{same_Some}
use Rattle.fa_ledger.specs.declared.operation.Outcome.TheVariants.{Unanswered}
use Rattle.fa_ledger.specs.Operations.{PlainOperation, ended, operation_of, operation_shown}
use Rattle.fa_ledger.specs.Kinds.{IsTreeRequest}
use Rattle.fa_ledger.specs.Said.{IsReplyIfAny, IsOperationSaid, OperationSaid}
use Rattle.fa_ledger.specs.parts.SaidLaws.{reply_one, operation_set}
use Rattle.fa_ledger.proofs.OperationLemmas.{operation_asked, reply_done, reply_comes, not_unanswered, unanswered_there}

squash : (A : Type 0) → IsProp ∥ A ∥₁
squash A = hlevel

length-le32 : (n : ℕ) → length (le32 n) ≡ 4
unfolding le32
length-le32 n = refl

-- a reply has bytes
reply_has_bytes : (asked : PlainRequest) (reply : PlainReply) → IsReply asked [] reply → ⊥
reply_has_bytes asked reply is =
    let bytes : List ℕ = le32 0 ++ is.head.header.1 in
    let long : 0 ≡ length bytes = ap length is.head.header.2 in
    omega (arith, long, length-append (le32 0) is.head.header.1, length-le32 0)

pub is_reply_if_any : (asked : PlainRequest) (bytes : List ℕ) (reply : PlainReply) → IsReply asked bytes reply → IsReplyIfAny asked bytes (Some reply)
is_reply_if_any asked [] reply is = absurd (reply_has_bytes asked reply is)
is_reply_if_any asked (b ∷ bytes) reply is = is

pub none_said : (asked : PlainRequest) (bytes : List ℕ) → length bytes ≡ 0 → ∥ IsReplyIfAny asked bytes None ∥₁
none_said asked [] empty = ∣ tt ∣₁
none_said asked (b ∷ bytes) empty = absurd (omega (arith, empty))

-- a reply that is there
pub some_said : (asked : PlainRequest) (bytes : List ℕ) → (length bytes ≡ 0 → ⊥) → ∥ ((answer : Option PlainReply) × IsReplyIfAny asked bytes answer) ∥₁ → ∥ ((said : PlainReply) × IsReply asked bytes said) ∥₁
some_said asked bytes some is = ∥∥₁_elim is (squash ((said : PlainReply) × IsReply asked bytes said)) (λ s. ∣ by bytes s.0 some s.1 ∣₁)
  where
    by : (bytes : List ℕ) (answer : Option PlainReply) → (length bytes ≡ 0 → ⊥) → IsReplyIfAny asked bytes answer → (said : PlainReply) × IsReply asked bytes said
    by [] answer some says = absurd (some refl)
    by (b ∷ bytes) None some says = absurd says
    by (b ∷ bytes) (Some said) some says = (said, says)

pub known_said : (asked : PlainRequest) (bytes : List ℕ) (reply : PlainReply) → ∥ IsReply asked bytes reply ∥₁ → ∥ IsReplyIfAny asked bytes (Some reply) ∥₁
known_said asked bytes reply known = ∥∥₁_elim known (squash (IsReplyIfAny asked bytes (Some reply))) (λ is. ∣ is_reply_if_any asked bytes reply is ∣₁)

-- ---- both messages

pub asked_there : (request reply : List ℕ) → OperationSaid request reply → ∥ ((r : PlainRequest) × IsRequest request r) ∥₁
asked_there request reply said = ∥∥₁_elim said.1 (squash ((r : PlainRequest) × IsRequest request r)) (λ x. ∣ (x.asked, x.is) ∣₁)

pub said_there : (request reply : List ℕ) → OperationSaid request reply → (asked : PlainRequest) → ∥ IsRequest request asked ∥₁ → ∥ ((answer : Option PlainReply) × IsReplyIfAny asked reply answer) ∥₁
said_there request reply said asked is = ∥∥₁_elim is (squash ((answer : Option PlainReply) × IsReplyIfAny asked reply answer)) (λ here.
    ∥∥₁_elim said.1 (squash ((answer : Option PlainReply) × IsReplyIfAny asked reply answer)) (λ x. ∣ (x.answer, subst (λ (r : PlainRequest). IsReplyIfAny r reply x.answer) (request_is_one request x.asked asked x.is here) x.answers) ∣₁))

pub does_there : (request reply : List ℕ) (said : OperationSaid request reply) (asked : PlainRequest) (answer : Option PlainReply) → ∥ IsRequest request asked ∥₁ → ∥ IsReplyIfAny asked reply answer ∥₁
    → operation_of asked.body answer ≡ Some said.0
does_there request reply said asked answer is answers = ∥∥₁_elim is (hlevel (operation_set, props)) (λ here. ∥∥₁_elim answers (hlevel (operation_set, props)) (λ there. ∥∥₁_elim said.1 (hlevel (operation_set, props)) (λ x.
    let one : x.asked ≡ asked = request_is_one request x.asked asked x.is here in
    let two : x.answer ≡ answer = reply_one asked reply x.answer answer (subst (λ (r : PlainRequest). IsReplyIfAny r reply x.answer) one x.answers) there in
    sym (ap (λ (r : PlainRequest). operation_of r.body x.answer) one ∙ ap (λ (s : Option PlainReply). operation_of asked.body s) two) ∙ x.does)))

-- what is behind a reference shows the same
pub seen_through : (seen : Option (Bor Reply)) (reply : Option Reply) → option_copied seen ≡ reply → option_map (λ (r : Bor Reply). reply_shown r.now) seen ≡ option_map reply_shown reply
seen_through seen reply same = by seen ∙ ap (λ (r : Option Reply). option_map reply_shown r) same
  where
    by : (x : Option (Bor Reply)) → option_map (λ (r : Bor Reply). reply_shown r.now) x ≡ option_map reply_shown (option_copied x)
    by None = refl
    by (Some r) = refl

pub some_found : {o : PlainOperation} (x : Option Operation) → option_map operation_shown x ≡ Some o → IsSome x
some_found None none = absurd cc
some_found (Some y) some = refl

-- ---- where the messages come from

-- what is asked, and what is answered, comes to an operation
there_is : {A : Type 0} (x : Option A) → (x ≡ None → ⊥) → (a : A) × (x ≡ Some a)
there_is None some = absurd (some refl)
there_is (Some a) some = (a, refl)

asked_comes : (r : PlainRequest) → IsTreeRequest r.body → (o : PlainOperation) × (operation_of r.body None ≡ Some o)
asked_comes r tree = there_is (operation_of r.body None) (λ none. absurd (is_not_none (operation_of r.body None) tree none))
  where
    is_not_none : (x : Option PlainOperation) → IsSome x → x ≡ None → ⊥
    is_not_none None some none = absurd cc
    is_not_none (Some o) some none = absurd cc

answered_comes : (r : PlainRequest) (bytes : List ℕ) (reply : PlainReply) → ∥ IsReply r bytes reply ∥₁ → IsTreeRequest r.body → (o : PlainOperation) × (operation_of r.body (Some reply) ≡ Some o)
answered_comes r bytes reply is tree = there_is (operation_of r.body (Some reply)) (λ none. ∥∥₁_elim is (λ x y. absurd x) (λ here.
    let done = reply_done r bytes reply here tree in
    let clash : None ≡ Some done.0 = sym none ∙ done.1 in absurd cc))

pub asked_said : (bytes : List ℕ) (r : PlainRequest) → ∥ IsRequest bytes r ∥₁ → IsTreeRequest r.body → OperationSaid bytes []
asked_said bytes r is tree =
    let o = asked_comes r tree in
    (o.0, ∥∥₁_elim is (squash (IsOperationSaid bytes [] o.0)) (λ here. ∣ record { asked = r; answer = None; is = here; answers = tt; does = o.1 } ∣₁))

pub answered_said : (bytes answer : List ℕ) (r : PlainRequest) (reply : PlainReply) → ∥ IsRequest bytes r ∥₁ → ∥ IsReply r answer reply ∥₁ → IsTreeRequest r.body → OperationSaid bytes answer
answered_said bytes answer r reply is says tree =
    let o = answered_comes r answer reply says tree in (
      o.0,
      ∥∥₁_elim is (squash (IsOperationSaid bytes answer o.0)) (λ here. ∥∥₁_elim says (squash (IsOperationSaid bytes answer o.0)) (λ there.
          ∣ record { asked = r; answer = Some reply; is = here; answers = is_reply_if_any r answer reply there; does = o.1 } ∣₁)),
    )

-- what such messages say
pub asked_does : (bytes : List ℕ) (said : OperationSaid bytes []) (r : PlainRequest) → ∥ IsRequest bytes r ∥₁ → operation_of r.body None ≡ Some said.0
asked_does bytes said r is = does_there bytes [] said r None is ∣ tt ∣₁

pub answered_does : (bytes answer : List ℕ) (said : OperationSaid bytes answer) (r : PlainRequest) (reply : PlainReply) → ∥ IsRequest bytes r ∥₁ → ∥ IsReply r answer reply ∥₁
    → operation_of r.body (Some reply) ≡ Some said.0
answered_does bytes answer said r reply is says =
    ∥∥₁_elim says (hlevel (operation_set, props)) (λ there. does_there bytes answer said r (Some reply) is ∣ is_reply_if_any r answer reply there ∣₁)

-- ---- whether there is a reply

ends_unanswered : (request : List ℕ) (o : PlainOperation) → IsOperationSaid request [] o → ended o ≡ Unanswered
ends_unanswered request o x =
    let none : x.answer ≡ None = reply_one x.asked [] x.answer None x.answers tt in
    let does : operation_of x.asked.body None ≡ Some o = ap (λ (a : Option PlainReply). operation_of x.asked.body a) (sym none) ∙ x.does in
    let one = unanswered_there x.asked.body (operation_asked x.asked.body None o does) in
    subst (λ (p : PlainOperation). ended p ≡ Unanswered) (same_Some one.0 o (sym one.1 ∙ does)) one.2

ends_answered : (request : List ℕ) (b : ℕ) (bytes : List ℕ) (o : PlainOperation) → IsOperationSaid request (b ∷ bytes) o → ended o ≡ Unanswered → ⊥
ends_answered request b bytes o x ends = by x.answer x.answers x.does
  where
    by : (answer : Option PlainReply) → IsReplyIfAny x.asked (b ∷ bytes) answer → operation_of x.asked.body answer ≡ Some o → ⊥
    by None answers does = absurd answers
    by (Some reply) answers does =
        let comes = reply_comes x.asked (b ∷ bytes) reply o answers does in
        not_unanswered reply (sym comes.ends ∙ ends)

-- what has no reply is not answered, and what has one is
pub answered_by_bytes : (request reply : List ℕ) (said : OperationSaid request reply) → (length reply ≡ 0 → ended said.0 ≡ Unanswered) × ((length reply ≡ 0 → ⊥) → ended said.0 ≢ Unanswered)
answered_by_bytes request [] said = ((λ none. ∥∥₁_elim said.1 (hlevel props) (λ x. ends_unanswered request said.0 x)), λ some. absurd (some refl))
answered_by_bytes request (b ∷ bytes) said = ((λ none. absurd (omega (arith, none))), λ some ends. ∥∥₁_elim said.1 (λ x y. absurd x) (λ x. ends_answered request b bytes said.0 x ends))
