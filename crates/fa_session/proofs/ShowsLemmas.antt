-- What a session shows once it took one message more.
use Rattle.std.proofs.Common.{◌≡◌, ℕ, ◌⊎◌, Bool, true, false, cond, List, [], ◌∷◌, ◌++◌, length, map, Option, Some, None, refl, sym, ap, subst, ◌∙◌, inl, inr, arith}
use Rattle.std.specs.Prelude.{eqb, ◌↔◌}
use Rattle.std.specs.Int.RustNames.{bit_and}
use Rattle.std.specs.List.Sorted.{IsStrictlyIncreasing}
use Rattle.std.specs.Option.{option_or}
use Rattle.std.proofs.lemmas.Bool.{eqb-true, eqb-false}
use Rattle.std.proofs.lemmas.List.{length-append}
use Rattle.fa_capture.specs.Checks.{AllHold}
use Rattle.fa_capture.specs.Message.{Message}
use Rattle.fa_capture.proofs.CallerLemmas.{get_last, take_all_before}
use Rattle.fa_bodies.specs.declared.replies.ReplyHead.{ReplyHead}
use Rattle.fa_bodies.specs.declared.init.InitIn.{InitIn}
use Rattle.fa_bodies.specs.declared.init.Negotiated.{Negotiated}
use Rattle.fa_bodies.specs.Flags.{init_bits}
use Rattle.fa_bodies.specs.declared.opcodes.TheConstants.{INTERRUPT}
use Rattle.fa_bodies.specs.Requests.{PlainRequest, PlainBody, IsRequest, IsRequestBody, MayBeAnswered}
use Rattle.fa_bodies.specs.Requests.PlainBody.{Forget, BatchForget, Init}
use Rattle.fa_bodies.specs.Replies.{PlainReply, IsReplyHead, IsReply, IsSuccessBody}
use Rattle.fa_bodies.specs.Replies.PlainReply.{InitAnswer}
use Rattle.fa_session.specs.Answers.{IsRequestMessage, IsHeadMessage, IsReplyMessage, HasUnique, IsOutstanding, Answers}
use Rattle.fa_session.specs.Rules.{IsInit, IsInitAccepted}
use Rattle.fa_session.specs.Allowed.{IsAllowed}
use Rattle.fa_session.specs.Plain.{PlainSession, PlainWaiting}
use Rattle.fa_session.specs.Shows.{Shows, IsNegotiated}
use Rattle.fa_session.specs.parts.Steps.{request_checked, waiting_for, flags_of, NotesRequest, NotesReply, noticed}
use Rattle.fa_session.proofs.GrowthLemmas.{one_direction, asked_cases, waited, not_now, waits_now, waits_still, settled_still, allowed_more}
use Rattle.fa_session.proofs.RequestLemmas.{outstanding_is}

-- two numbers are equal or not
eq_or_not : (a b : ℕ) → ((eqb a b ≡ true) × (a ≡ b)) ⊎ ((eqb a b ≡ false) × (a ≡ b → ⊥))
eq_or_not a b = elim (eqb a b) as (λ t. eqb a b ≡ t → ((t ≡ true) × (a ≡ b)) ⊎ ((t ≡ false) × (a ≡ b → ⊥))) [
  | true ↦ λ is. inl (refl, eqb-true a b is)
  | false ↦ λ is. inr (refl, eqb-false a b is)
] refl

-- a request may be answered or not
pub may_or_not : (body : PlainBody) → MayBeAnswered body ⊎ (MayBeAnswered body → ⊥)
may_or_not (Forget nlookup) = inr (λ may. may)
may_or_not (BatchForget count items) = inr (λ may. may)
may_or_not other = inl tt

-- a request that only forgets is no INTERRUPT
no_interrupt : (opcode : ℕ) (bytes : List ℕ) (body : PlainBody) → IsRequestBody opcode bytes body → (MayBeAnswered body → ⊥) → opcode ≡ INTERRUPT → ⊥
no_interrupt opcode bytes (Forget nlookup) is forgets interrupt = omega (arith, is.0, interrupt)
no_interrupt opcode bytes (BatchForget count items) is forgets interrupt = omega (arith, is.0, interrupt)
no_interrupt opcode bytes other is forgets interrupt = forgets tt

-- ---- a request

-- the request that the message is, and no other
pub record IsOnlyRequest (m : Message) (r : PlainRequest) : Type 0 where
  pub is : IsRequestMessage m r
  pub only : (other : PlainRequest) → IsRequest m.bytes other → other ≡ r

-- a request has its own unique alone
pub request_unique : (m : Message) (r : PlainRequest) (unique : ℕ) → IsOnlyRequest m r → HasUnique m unique → r.unique ≡ unique
request_unique m r unique request (inl asked) = sym (ap (λ (x : PlainRequest). x.unique) (request.only asked.0 asked.1.1)) ∙ asked.2
request_unique m r unique request (inr reply) = absurd (one_direction m request.is.0 reply.1.0)

-- a request answers nothing
request_answers_none : (c : List Message) (m : Message) (r : PlainRequest) → IsOnlyRequest m r → (p : ℕ) (s : PlainRequest) → Answers c m p s → ⊥
request_answers_none c m r request p s answers = one_direction m request.is.0 answers.reply.1.0

-- where a request may be answered, it is found by its unique from now on
outstanding_kept : (c : List Message) (m : Message) (s new : PlainSession) (r : PlainRequest) → Shows c s → NotesRequest s new r → IsOnlyRequest m r → MayBeAnswered r.body → (unique : ℕ) (w : PlainWaiting)
    → (waiting_for new unique ≡ Some w) ↔ (IsOutstanding (c ++ m ∷ []) w.at w.request × (w.request.unique ≡ unique))
outstanding_kept c m s new r shows asked request may unique w =
    let law : waiting_for new unique ≡ cond (eqb unique r.unique) (Some (record { at = s.messages; request = r })) (waiting_for s unique) = asked.kept may unique in
    elim (eq_or_not unique r.unique) [
      | inl same ↦
          let found : waiting_for new unique ≡ Some (record { at = s.messages; request = r }) =
          law ∙ ap (λ (b : Bool). cond b (Some (record { at = s.messages; request = r })) (waiting_for s unique)) same.0 in (
            (λ is.
                let one : ◌≡◌ {A = PlainWaiting} (record { at = s.messages; request = r }) w = cc (found, is) in
                subst (λ (x : PlainWaiting). IsOutstanding (c ++ m ∷ []) x.at x.request × (x.request.unique ≡ unique)) one
                (subst (λ (k : ℕ). IsOutstanding (c ++ m ∷ []) k r) (sym shows.counted) (waits_now c m r request.is may), sym same.1)),
            (λ both. elim (asked_cases c m w.at w.request both.0.asked) [
              | inl before ↦ absurd (not_now c m w.at w.request before both.0 (inl (r, request.is, sym same.1 ∙ sym both.1)))
              | inr now ↦ let is : w.request ≡ r = request.only w.request now.1.1 in
                  let at : w.at ≡ s.messages = now.0 ∙ sym shows.counted in
                  let one : ◌≡◌ {A = PlainWaiting} (record { at = s.messages; request = r }) w = λ i. record { at = sym at i; request = sym is i } in
                  found ∙ ap (λ (x : PlainWaiting). Some x) one
            ]),
          )
      | inr other ↦
          let found : waiting_for new unique ≡ waiting_for s unique =
          law ∙ ap (λ (b : Bool). cond b (Some (record { at = s.messages; request = r })) (waiting_for s unique)) other.0 in (
            (λ is. let old = (shows.outstanding unique w).0 (sym found ∙ is) in
                (waits_still c m w.at w.request old.0 (λ has. other.1 (sym old.1 ∙ sym (request_unique m r w.request.unique request has))), old.1)),
            (λ both. elim (asked_cases c m w.at w.request both.0.asked) [
              | inl before ↦ found ∙ (shows.outstanding unique w).1 (waited c m w.at w.request before both.0, both.1)
              | inr now ↦ absurd (other.1 (sym both.1 ∙ ap (λ (x : PlainRequest). x.unique) (request.only w.request now.1.1)))
            ]),
          )
    ]

-- where a request only forgets, the table stays
outstanding_forgotten : (c : List Message) (m : Message) (s new : PlainSession) (r : PlainRequest) → Shows c s → NotesRequest s new r → IsOnlyRequest m r → AllHold (request_checked c r) → (MayBeAnswered r.body → ⊥)
    → (unique : ℕ) (w : PlainWaiting) → (waiting_for new unique ≡ Some w) ↔ (IsOutstanding (c ++ m ∷ []) w.at w.request × (w.request.unique ≡ unique))
outstanding_forgotten c m s new r shows asked request hold forgets unique w =
    let found : waiting_for new unique ≡ waiting_for s unique =
    ap (λ (ws : List (ℕ × PlainWaiting)). waiting_for (record { messages = new.messages; negotiated = new.negotiated; waiting = ws }) unique) (asked.forgotten forgets) in (
      (λ is. let old = (shows.outstanding unique w).0 (sym found ∙ is) in (
        waits_still c m w.at w.request old.0 (λ has.
            let same : w.request.unique ≡ r.unique = sym (request_unique m r w.request.unique request has) in
            no_interrupt r.opcode request.is.1.body_bytes r.body request.is.1.body forgets (hold.1.1.1.1.0 w.at w.request old.0 same).0),
        old.1,
      )),
      (λ both. elim (asked_cases c m w.at w.request both.0.asked) [
        | inl before ↦ found ∙ (shows.outstanding unique w).1 (waited c m w.at w.request before both.0, both.1)
        | inr now ↦ absurd (forgets (subst (λ (x : PlainRequest). MayBeAnswered x.body) (request.only w.request now.1.1) both.0.answerable))
      ]),
    )

-- a session that took a request that keeps the rules
pub shows_asked : (c : List Message) (m : Message) (s new : PlainSession) (r : PlainRequest) → Shows c s → NotesRequest s new r → IsOnlyRequest m r → AllHold (request_checked c r) → IsAllowed c m
    → Shows (c ++ m ∷ []) new
shows_asked c m s new r shows asked request hold allowed = record {
  allowed = allowed_more c m shows.allowed allowed;
  counted = omega (arith, shows.counted, asked.counted, length-append c (m ∷ []));
  settled = subst (λ (flags : Option ℕ). IsNegotiated (c ++ m ∷ []) flags) (sym asked.settled)
      (settled_still c m s.negotiated (λ p other answers init. request_answers_none c m r request p other answers) shows.settled);
  outstanding = elim (may_or_not r.body) [
    | inl may ↦ outstanding_kept c m s new r shows asked request may
    | inr forgets ↦ outstanding_forgotten c m s new r shows asked request hold forgets
  ];
  rising = elim (may_or_not r.body) [
    | inl may ↦ asked.rising may
    | inr forgets ↦ subst (λ (ws : List (ℕ × PlainWaiting)). IsStrictlyIncreasing (map (λ e. e.0) ws)) (sym (asked.forgotten forgets)) shows.rising
  ];
}

-- ---- a message from the server

-- the head of the message, and no other
pub record IsOnlyHead (m : Message) (head : ReplyHead) : Type 0 where
  pub is : IsHeadMessage m head
  pub only : (other : ReplyHead) → IsReplyHead m.bytes other → other ≡ head

-- a message from the server is no request
server_sends_none : (m : Message) (head : ReplyHead) (r : PlainRequest) → IsOnlyHead m head → IsRequestMessage m r → ⊥
server_sends_none m head r is asked = one_direction m asked.0 is.is.0

-- a message from the server has the unique of its head alone
pub head_unique : (m : Message) (head : ReplyHead) (unique : ℕ) → IsOnlyHead m head → IsReplyMessage m unique → head.unique ≡ unique
head_unique m head unique is reply = sym (ap (λ (h : ReplyHead). h.unique) (is.only reply.0 reply.1.1)) ∙ reply.2

has_head_unique : (m : Message) (head : ReplyHead) (unique : ℕ) → IsOnlyHead m head → HasUnique m unique → (head.unique ≡ unique) × (unique ≡ 0 → ⊥)
has_head_unique m head unique is (inl asked) = absurd (server_sends_none m head asked.0 is asked.1)
has_head_unique m head unique is (inr reply) = (head_unique m head unique is reply, reply.3)

-- a notification has no unique and answers nothing
pub notice_answers_none : (c : List Message) (m : Message) (head : ReplyHead) → IsOnlyHead m head → head.unique ≡ 0 → (p : ℕ) (r : PlainRequest) → Answers c m p r → ⊥
notice_answers_none c m head is zero p r answers =
    answers.reply.3 (sym (head_unique m head r.unique is answers.reply) ∙ zero)

-- a session that took a notification
pub shows_noticed : (c : List Message) (m : Message) (s : PlainSession) (head : ReplyHead) → Shows c s → IsOnlyHead m head → head.unique ≡ 0 → IsAllowed c m → Shows (c ++ m ∷ []) (noticed s)
shows_noticed c m s head shows is zero allowed = record {
  allowed = allowed_more c m shows.allowed allowed;
  counted = omega (arith, shows.counted, length-append c (m ∷ []));
  settled = settled_still c m s.negotiated (λ p r answers init. notice_answers_none c m head is zero p r answers) shows.settled;
  outstanding = λ unique w. (
    (λ found. let old = (shows.outstanding unique w).0 found in
        (waits_still c m w.at w.request old.0 (λ has. let own = has_head_unique m head w.request.unique is has in own.1 (sym own.0 ∙ zero)), old.1)),
    (λ both. elim (asked_cases c m w.at w.request both.0.asked) [
      | inl before ↦ (shows.outstanding unique w).1 (waited c m w.at w.request before both.0, both.1)
      | inr now ↦ absurd (server_sends_none m head w.request is now.1)
    ]),
  );
  rising = shows.rising;
}

-- The message is a reply to an outstanding request, which the session knows by its unique.
pub record IsMatched (c : List Message) (m : Message) (s : PlainSession) (head : ReplyHead) (w : PlainWaiting) : Type 0 where
  pub shows : Shows c s
  pub head_is : IsOnlyHead m head
  pub reply : head.unique ≡ 0 → ⊥
  pub found : waiting_for s head.unique ≡ Some w
  pub unique : w.request.unique ≡ head.unique

-- it answers that request
pub matched_answers : (c : List Message) (m : Message) (s : PlainSession) (head : ReplyHead) (w : PlainWaiting) → IsMatched c m s head w → Answers c m w.at w.request
matched_answers c m s head w matched = record {
  reply = (head, matched.head_is.is, sym matched.unique, (λ zero. matched.reply (sym matched.unique ∙ zero)));
  outstanding = ((matched.shows.outstanding head.unique w).0 matched.found).0;
}

-- and no other
pub matched_only : (c : List Message) (m : Message) (s : PlainSession) (head : ReplyHead) (w : PlainWaiting) → IsMatched c m s head w → (p : ℕ) (r : PlainRequest) → Answers c m p r → (p ≡ w.at) × (r ≡ w.request)
matched_only c m s head w matched p r answers =
    outstanding_is c s p r w head.unique matched.shows matched.found answers.outstanding (sym (head_unique m head r.unique matched.head_is answers.reply))

-- a reply to INIT that is a success has the fields of struct fuse_init_out
init_reply : (i : InitIn) (r : PlainRequest) (bytes : List ℕ) (reply : PlainReply) → r.body ≡ Init i → IsReply r bytes reply → IsInitAccepted r reply → (n : Negotiated) × (reply ≡ InitAnswer n)
init_reply i r bytes reply init is accepted =
    elim is.body [
      | inl success ↦
          let said : IsSuccessBody r.opcode (Init i) is.head.body_bytes reply = subst (λ (b : PlainBody). IsSuccessBody r.opcode b is.head.body_bytes reply) init success.1 in
          (said.0, said.1)
      | inr refused ↦ absurd (subst (λ (x : PlainReply). IsInitAccepted r x) refused.2 accepted (subst IsInit (sym init) tt))
    ]

-- of a request other than INIT a reply settles no flags
other_flags : (body : PlainBody) (reply : PlainReply) → (IsInit body → ⊥) → flags_of body reply ≡ None
other_flags (Init i) reply other = absurd (other tt)
other_flags body reply other = refl

-- a request is INIT or not
init_or_not : (body : PlainBody) → ((i : InitIn) × (body ≡ Init i)) ⊎ (IsInit body → ⊥)
init_or_not (Init i) = inl (i, refl)
init_or_not other = inr (λ init. init)

-- the flags once a request was answered
settled_answered : (c : List Message) (m : Message) (s : PlainSession) (head : ReplyHead) (w : PlainWaiting) (reply : PlainReply) → IsMatched c m s head w → IsReply w.request m.bytes reply → IsInitAccepted w.request reply
    → IsNegotiated (c ++ m ∷ []) (option_or (flags_of w.request.body reply) s.negotiated)
settled_answered c m s head w reply matched is accepted =
    elim (init_or_not w.request.body) [
      | inl init ↦
          let n = init_reply init.0 w.request m.bytes reply init.1 is accepted in
          let flags : flags_of w.request.body reply ≡ Some (bit_and (init_bits init.0.flags) (init_bits n.0.flags)) =
          ap (λ (b : PlainBody). flags_of b reply) init.1 ∙ ap (λ (x : PlainReply). flags_of (Init init.0) x) n.1 in
          subst (λ (o : Option ℕ). IsNegotiated (c ++ m ∷ []) (option_or o s.negotiated)) (sym flags) (
            length c,
            w.at,
            w.request,
            init.0,
            n.0,
            (
              m,
              get_last c m,
              subst (λ (x : List Message). Answers x m w.at w.request) (sym (take_all_before c m)) (matched_answers c m s head w matched),
              subst (IsReply w.request m.bytes) n.1 is,
            ),
            init.1,
            refl,
          )
      | inr other ↦ subst (λ (o : Option ℕ). IsNegotiated (c ++ m ∷ []) (option_or o s.negotiated)) (sym (other_flags w.request.body reply other))
          (settled_still c m s.negotiated (λ p r answers init. other (subst (λ (x : PlainRequest). IsInit x.body) (matched_only c m s head w matched p r answers).1 init)) matched.shows.settled)
    ]

-- a session that took the reply to a request
pub shows_answered : (c : List Message) (m : Message) (s new : PlainSession) (head : ReplyHead) (w : PlainWaiting) (reply : PlainReply) → IsMatched c m s head w → IsReply w.request m.bytes reply
    → IsInitAccepted w.request reply → NotesReply s new head.unique (flags_of w.request.body reply) → IsAllowed c m → Shows (c ++ m ∷ []) new
shows_answered c m s new head w reply matched is accepted answered allowed =
    let shows = matched.shows in
    record {
      allowed = allowed_more c m shows.allowed allowed;
      counted = omega (arith, shows.counted, answered.counted, length-append c (m ∷ []));
      settled = subst (λ (flags : Option ℕ). IsNegotiated (c ++ m ∷ []) flags) (sym answered.settled) (settled_answered c m s head w reply matched is accepted);
      outstanding = λ unique v.
          elim (eq_or_not unique head.unique) [
            | inl same ↦
                let found : waiting_for new unique ≡ None = answered.removed unique ∙ ap (λ (b : Bool). cond b None (waiting_for s unique)) same.0 in (
                  (λ is. absurd cc),
                  (λ both. elim (asked_cases c m v.at v.request both.0.asked) [
                    | inl before ↦ absurd (not_now c m v.at v.request before both.0
                        (inr (head, matched.head_is.is, sym same.1 ∙ sym both.1, (λ zero. matched.reply (sym same.1 ∙ sym both.1 ∙ zero)))))
                    | inr now ↦ absurd (server_sends_none m head v.request matched.head_is now.1)
                  ]),
                )
            | inr other ↦
                let found : waiting_for new unique ≡ waiting_for s unique = answered.removed unique ∙ ap (λ (b : Bool). cond b None (waiting_for s unique)) other.0 in (
                  (λ is. let old = (shows.outstanding unique v).0 (sym found ∙ is) in
                      (waits_still c m v.at v.request old.0 (λ has. other.1 (sym old.1 ∙ sym (has_head_unique m head v.request.unique matched.head_is has).0)), old.1)),
                  (λ both. elim (asked_cases c m v.at v.request both.0.asked) [
                    | inl before ↦ found ∙ (shows.outstanding unique v).1 (waited c m v.at v.request before both.0, both.1)
                    | inr now ↦ absurd (server_sends_none m head v.request matched.head_is now.1)
                  ]),
                )
          ];
      rising = answered.rising;
    }
