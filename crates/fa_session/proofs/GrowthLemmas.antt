-- One message more: what was so among the messages before stays so, and what the new one adds.
use Rattle.std.proofs.Common.{◌≡◌, ℕ, ◌+◌, ◌<◌, ◌⊎◌, List, [], ◌∷◌, ◌++◌, length, take, Option, Some, None, sym, ap, subst, ◌∙◌, inl, inr, arith}
use Rattle.std.proofs.lemmas.Option.{slice_get_within}
use Rattle.std.proofs.lemmas.List.{length-append}
use Rattle.fa_capture.specs.declared.packet.Direction.TheVariants.{ToServer, FromServer}
use Rattle.fa_capture.specs.Message.{Message}
use Rattle.fa_capture.proofs.CallerLemmas.{get_kept, get_back, get_last, get_cases, take_before, take_all_before}
use Rattle.fa_bodies.specs.Requests.{MayBeAnswered, PlainRequest}
use Rattle.fa_bodies.specs.Replies.{PlainReply}
use Rattle.fa_session.specs.Answers.{IsRequestMessage, IsRequestAt, HasUnique, IsOutstanding, Answers, AnswersAt, IsRepliedAt}
use Rattle.fa_session.specs.Rules.{IsInit}
use Rattle.fa_session.specs.Allowed.{IsAllowed, EachAllowed}
use Rattle.fa_session.specs.Shows.{IsNegotiated}

-- ---- messages

-- a message goes one way
pub one_direction : (m : Message) → m.direction ≡ ToServer → m.direction ≡ FromServer → ⊥
one_direction m to from = let clash : ToServer ≡ FromServer = sym to ∙ from in absurd cc

-- a request from before
pub asked_before : (c : List Message) (m : Message) (p : ℕ) (r : PlainRequest) → p < length c → IsRequestAt (c ++ m ∷ []) p r → IsRequestAt c p r
asked_before c m p r below asked = (asked.0, get_back c (m ∷ []) p asked.0 below asked.1, asked.2)

pub asked_still : (c : List Message) (m : Message) (p : ℕ) (r : PlainRequest) → IsRequestAt c p r → IsRequestAt (c ++ m ∷ []) p r
asked_still c m p r asked = (asked.0, get_kept c (m ∷ []) p asked.0 asked.1, asked.2)

-- the new message as a request
pub asked_now : (c : List Message) (m : Message) (r : PlainRequest) → IsRequestMessage m r → IsRequestAt (c ++ m ∷ []) (length c) r
asked_now c m r is = (m, get_last c m, is)

-- a request is one from before or the new message
pub asked_cases : (c : List Message) (m : Message) (p : ℕ) (r : PlainRequest) → IsRequestAt (c ++ m ∷ []) p r → (p < length c) ⊎ ((p ≡ length c) × IsRequestMessage m r)
asked_cases c m p r asked =
    elim (get_cases c m p asked.0 asked.1) [
      | inl below ↦ inl below
      | inr here ↦ inr (here.0, subst (λ (x : Message). IsRequestMessage x r) here.1 asked.2)
    ]

-- what is outstanding was so before, if it came before
pub waited : (c : List Message) (m : Message) (p : ℕ) (r : PlainRequest) → p < length c → IsOutstanding (c ++ m ∷ []) p r → IsOutstanding c p r
waited c m p r below waits = record {
  asked = asked_before c m p r below waits.asked;
  answerable = waits.answerable;
  silent = λ q x after there. waits.silent q x after (get_kept c (m ∷ []) q x there);
}

-- what is outstanding and came before does not have the unique of the new message
pub not_now : (c : List Message) (m : Message) (p : ℕ) (r : PlainRequest) → p < length c → IsOutstanding (c ++ m ∷ []) p r → HasUnique m r.unique → ⊥
not_now c m p r below waits has = waits.silent (length c) m below (get_last c m) has

-- a new request is outstanding
pub waits_now : (c : List Message) (m : Message) (r : PlainRequest) → IsRequestMessage m r → MayBeAnswered r.body → IsOutstanding (c ++ m ∷ []) (length c) r
waits_now c m r is answerable = record {
  asked = asked_now c m r is;
  answerable = answerable;
  silent = λ q x after there. let within : q < length (c ++ m ∷ []) = slice_get_within (c ++ m ∷ []) q x there in
      let counted : length (c ++ m ∷ []) ≡ length c + 1 = length-append c (m ∷ []) in
      λ has. omega (arith, within, counted, after);
}

-- what is outstanding stays so, if the new message has another unique
pub waits_still : (c : List Message) (m : Message) (p : ℕ) (r : PlainRequest) → IsOutstanding c p r → (HasUnique m r.unique → ⊥) → IsOutstanding (c ++ m ∷ []) p r
waits_still c m p r waits other = record {
  asked = asked_still c m p r waits.asked;
  answerable = waits.answerable;
  silent = λ q x after there has. elim (get_cases c m q x there) [
    | inl below ↦ waits.silent q x after (get_back c (m ∷ []) q x below there) has
    | inr now ↦ other (subst (λ (y : Message). HasUnique y r.unique) now.1 has)
  ];
}

-- what answers now
pub answered_now : (c : List Message) (m : Message) (p : ℕ) (r : PlainRequest) → Answers c m p r → AnswersAt (c ++ m ∷ []) (length c) p r
answered_now c m p r answers = (m, get_last c m, subst (λ (x : List Message). Answers x m p r) (sym (take_all_before c m)) answers)

-- what answered still answers
pub answered_still : (c : List Message) (m : Message) (q p : ℕ) (r : PlainRequest) → AnswersAt c q p r → AnswersAt (c ++ m ∷ []) q p r
answered_still c m q p r at =
    let below : q < length c = slice_get_within c q at.0 at.1 in
    (at.0, get_kept c (m ∷ []) q at.0 at.1, subst (λ (x : List Message). Answers x at.0 p r) (sym (take_before c m q (omega (arith, below)))) at.2)

-- an answer is one from before or the new message
pub answered_cases : (c : List Message) (m : Message) (q p : ℕ) (r : PlainRequest) → AnswersAt (c ++ m ∷ []) q p r → AnswersAt c q p r ⊎ ((q ≡ length c) × Answers c m p r)
answered_cases c m q p r at =
    elim (get_cases c m q at.0 at.1) [
      | inl below ↦ inl (at.0, get_back c (m ∷ []) q at.0 below at.1, subst (λ (x : List Message). Answers x at.0 p r) (take_before c m q (omega (arith, below))) at.2)
      | inr here ↦ inr (
        here.0,
        subst (λ (x : Message). Answers c x p r) here.1
            (subst (λ (x : List Message). Answers x at.0 p r) (ap (λ (k : ℕ). take k (c ++ m ∷ [])) here.0 ∙ take_all_before c m) at.2),
      )
    ]

-- what was replied stays so
pub replied_still : (c : List Message) (m : Message) (q p : ℕ) (r : PlainRequest) (reply : PlainReply) → IsRepliedAt c q p r reply → IsRepliedAt (c ++ m ∷ []) q p r reply
replied_still c m q p r reply at =
    let below : q < length c = slice_get_within c q at.0 at.1 in (
      at.0,
      get_kept c (m ∷ []) q at.0 at.1,
      subst (λ (x : List Message). Answers x at.0 p r) (sym (take_before c m q (omega (arith, below)))) at.2,
      at.3,
    )

-- the flags that INIT settled stay, if the new message does not answer INIT
pub settled_still : (c : List Message) (m : Message) (flags : Option ℕ) → ((p : ℕ) (r : PlainRequest) → Answers c m p r → IsInit r.body → ⊥) → IsNegotiated c flags → IsNegotiated (c ++ m ∷ []) flags
settled_still c m None other none =
    λ answered. elim (answered_cases c m answered.0 answered.1 answered.2 answered.3) [
      | inl before ↦ none (answered.0, answered.1, answered.2, before, answered.4)
      | inr now ↦ other answered.1 answered.2 now.1 answered.4
    ]
settled_still c m (Some flags) other settled =
    (settled.0, settled.1, settled.2, settled.3, settled.4, replied_still c m settled.0 settled.1 settled.2 _ settled.5, settled.6, settled.7)

-- each message is allowed, and so is the new one
pub allowed_more : (c : List Message) (m : Message) → EachAllowed c → IsAllowed c m → EachAllowed (c ++ m ∷ [])
allowed_more c m each allowed i x there =
    elim (get_cases c m i x there) [
      | inl below ↦ subst (λ (b : List Message). IsAllowed b x) (sym (take_before c m i (omega (arith, below)))) (each i x (get_back c (m ∷ []) i x below there))
      | inr now ↦ subst (λ (b : List Message). IsAllowed b x) (sym (ap (λ (k : ℕ). take k (c ++ m ∷ [])) now.0 ∙ take_all_before c m))
          (subst (λ (y : Message). IsAllowed c y) (sym now.1) allowed)
    ]
