-- Which tree requests are done at a message, and which are in flight: what one message more changes.
use Rattle.std.proofs.Common.{◌≡◌, ◌↔◌, ◌⊎◌, ℕ, ◌+◌, ◌<◌, ◌≤◌, List, [], ◌∷◌, ◌++◌, take, Option, sym, subst, ◌∙◌, inl, inr, arith, None, refl}
use Rattle.std.specs.Prelude.{Contains}
use Rattle.std.proofs.lemmas.Bool.{cases_lt, cases_eq}
use Rattle.std.proofs.lemmas.List.Elements.{Contains-append_cases, Contains-append_left, Contains-push}
use Rattle.std.proofs.lemmas.Option.{same_Some}
use Rattle.fa_capture.specs.Message.{Message}
use Rattle.fa_capture.proofs.CallerLemmas.{contains_cases}
use Rattle.fa_session.specs.Answers.{Answers, IsAnsweredBy}
use Rattle.fa_session.proofs.CallerLemmas.{answers_one, answered_once, answer_after, one_direction}
use Rattle.fa_order.specs.declared.entry.Entry.{Entry}
use Rattle.fa_check.specs.Orders.{IsTreeRequestAt, IsChoice}
use Rattle.fa_check.specs.Cuts.{IsAnsweredBefore}
use Rattle.fa_search.specs.Searches.{MayBeNamed, AreSerialBefore}
use Rattle.fa_search.specs.parts.Going.{MayCome}
use Rattle.fa_search.specs.parts.Configurations.{IsDoneAt, IsPending, ArePending, MayBeTried, IsOneLess, AnswersNone}

-- ---- answers

-- a message answers one request
pub one_answered : (c : List Message) (p k q : ℕ) → IsAnsweredBy c p q → IsAnsweredBy c k q → p ≡ k
one_answered c p k q first second =
    let one = first.1 in
    let two = second.1 in
    let message : one.0 ≡ two.0 = same_Some one.0 two.0 (sym one.1 ∙ two.1) in
    (answers_one (take q c) two.0 p k first.0 second.0 (subst (λ (m : Message). Answers (take q c) m p first.0) message one.2) two.2).0

-- a request is answered by one message
answered_at : (c : List Message) (p q r : ℕ) → IsAnsweredBy c p q → IsAnsweredBy c p r → q ≡ r
answered_at c p q r first second = answered_once c q r p first.0 second.0 first.1 second.1

-- behind its request
pub answered_behind : (c : List Message) (p q : ℕ) → IsAnsweredBy c p q → p < q
answered_behind c p q by = answer_after c q p by.0 by.1

-- a request answers none
pub request_answers_none : (c : List Message) (at : ℕ) → IsTreeRequestAt c at → AnswersNone c at
request_answers_none c at tree p asked by =
    let sent = tree.1 in
    let answer = by.1 in
    let message : answer.0 ≡ sent.0 = same_Some answer.0 sent.0 (sym answer.1 ∙ sent.1) in
    one_direction sent.0 sent.2.0 (subst (λ (m : Message). Answers (take at c) m p by.0) message answer.2).reply.1.0

-- what was answered before a message is so before a later one
pub answered_earlier : (c : List Message) (m n p : ℕ) → m ≤ n → IsAnsweredBefore c m p → IsAnsweredBefore c n p
answered_earlier c m n p before answered = (answered.0, answered.1, (let early = answered.2 in omega (arith, early, before)))

-- what was answered before the next message was answered before this one, or by it
pub answered_next : (c : List Message) (at p : ℕ) → IsAnsweredBefore c (at + 1) p → IsAnsweredBefore c at p ⊎ IsAnsweredBy c p at
answered_next c at p answered =
    elim (cases_lt answered.0 at) [
      | inl early ↦ inl (answered.0, answered.1, early)
      | inr late ↦ inr (subst (IsAnsweredBy c p) (let near = answered.2 in omega (arith, near, late)) answered.1)
    ]

-- ---- what is done

-- behind a message that answers none the same is done
pub done_still : (c : List Message) (at : ℕ) (placed : List ℕ) → AnswersNone c at → (p : ℕ) → IsDoneAt c at placed p ↔ IsDoneAt c (at + 1) placed p
done_still c at placed none p = (
  (λ done. elim done [
    | inl answered ↦ inl (answered.0, answered_earlier c at (at + 1) p (omega arith) answered.1)
    | inr there ↦ inr there
  ]),
  (λ done. elim done [
    | inl answered ↦ elim (answered_next c at p answered.1) [
      | inl before ↦ inl (answered.0, before)
      | inr now ↦ absurd (none p answered.0 now)
    ]
    | inr there ↦ inr there
  ]),
)

-- behind the answer to one that is placed the same is done, and it needs no place any more
pub done_answered : (c : List Message) (at asked : ℕ) (placed fewer : List ℕ) → IsTreeRequestAt c asked → IsAnsweredBy c asked at → Contains placed asked → IsOneLess placed asked fewer
    → (p : ℕ) → IsDoneAt c at placed p ↔ IsDoneAt c (at + 1) fewer p
done_answered c at asked placed fewer tree by has less p = (
  (λ done. elim done [
    | inl answered ↦ inl (answered.0, answered_earlier c at (at + 1) p (omega arith) answered.1)
    | inr there ↦ elim (cases_eq asked p) [
      | inl same ↦ inl (subst (IsTreeRequestAt c) same tree, subst (IsAnsweredBefore c (at + 1)) same (at, by, omega arith))
      | inr other ↦ inr ((less p).1 (there, other))
    ]
  ]),
  (λ done. elim done [
    | inl answered ↦ elim (answered_next c at p answered.1) [
      | inl before ↦ inl (answered.0, before)
      | inr now ↦ inr (subst (Contains placed) (one_answered c asked p at by now) has)
    ]
    | inr there ↦ inr ((less p).0 there).0
  ]),
)

-- before the first message nothing is done
pub none_done : (c : List Message) (p : ℕ) → IsDoneAt c 0 [] p → ⊥
none_done c p done = elim done [
  | inl answered ↦ let early = answered.1.2 in omega (arith, early)
  | inr there ↦ omega (arith, there.1)
]

-- ---- what is in flight

-- before the first message nothing is
pub none_pending : (c : List Message) → ArePending c 0 []
none_pending c p = ((λ has. absurd (omega (arith, has.1))), (λ is. absurd (let sent = is.sent in omega (arith, sent))))

-- what is in flight at a message that does not answer it is so at the next
pending_on : (c : List Message) (at p : ℕ) → (IsAnsweredBy c p at → ⊥) → IsPending c at p → IsPending c (at + 1) p
pending_on c at p not_now is = record {
  tree_request = is.tree_request;
  sent = (let sent = is.sent in omega (arith, sent));
  waits = λ answered. elim (answered_next c at p answered) [ inl before ↦ is.waits before | inr now ↦ not_now now ];
  named = is.named;
}

-- and what is in flight at the next, and was sent before this one, is so here
pending_back : (c : List Message) (at p : ℕ) → p < at → IsPending c (at + 1) p → IsPending c at p
pending_back c at p sent is = record {
  tree_request = is.tree_request;
  sent = sent;
  waits = λ answered. is.waits (answered_earlier c at (at + 1) p (omega arith) answered);
  named = is.named;
}

-- what is in flight at the next message is so at this one, or is this one
pending_cases : (c : List Message) (at p : ℕ) → IsPending c (at + 1) p → IsPending c at p ⊎ (p ≡ at)
pending_cases c at p is =
    elim (cases_lt p at) [
      | inl before ↦ inl (pending_back c at p before is)
      | inr behind ↦ inr (let sent = is.sent in omega (arith, sent, behind))
    ]

-- a request that an order may name is in flight behind its message
pending_now : (c : List Message) (at : ℕ) → IsTreeRequestAt c at → ((wrote : Option ℕ) × IsChoice c (record { at = at; wrote = wrote })) → IsPending c (at + 1) at
pending_now c at tree named = record {
  tree_request = tree;
  sent = omega arith;
  waits = λ answered. (let behind = answered_behind c at answered.0 answered.1 in let near = answered.2 in omega (arith, behind, near));
  named = named;
}

-- a request that this message answers is in flight
pub answered_pending : (c : List Message) (at asked : ℕ) → IsTreeRequestAt c asked → IsAnsweredBy c asked at → IsPending c at asked
answered_pending c at asked tree by = record {
  tree_request = tree;
  sent = answered_behind c asked at by;
  waits = λ before.
      let same : before.0 ≡ at = answered_at c asked before.0 at before.1 by in
      let early = before.2 in
      omega (arith, same, early);
  named = (None, record { answered = λ q answered. refl; unanswered = λ o waits. absurd (waits.0 at by) });
}

-- Where of each two tree requests that were sent before the message, and that an order may name, the earlier one is answered before the
-- later one is sent, it is the only one.
pub serial_alone : (c : List Message) (at asked : ℕ) → AreSerialBefore c at → MayBeNamed c asked → IsAnsweredBy c asked at → (p : ℕ) → IsPending c at p → p ≡ asked
serial_alone c at asked serial named by p is =
    let asked_before = answered_behind c asked at by in
    let other : MayBeNamed c p = (is.tree_request, is.named) in
    elim (cases_lt p asked) [
      | inl before ↦
          let answer = serial p asked other named before asked_before in
          let early = answer.2 in
          absurd (is.waits (answer.0, answer.1, omega (arith, early, asked_before)))
      | inr far ↦ elim (cases_lt asked p) [
        | inl behind ↦
            let sent = is.sent in
            let answer = serial asked p named other behind sent in
            let same : answer.0 ≡ at = answered_at c asked answer.0 at answer.1 by in
            let early = answer.2 in
            absurd (omega (arith, same, early, sent))
        | inr near ↦ omega (arith, far, near)
      ]
    ]

-- a request comes that an order may name: it is in flight too
pub pending_asked : (c : List Message) (at : ℕ) (pending : List ℕ) → IsTreeRequestAt c at → ((wrote : Option ℕ) × IsChoice c (record { at = at; wrote = wrote })) → ArePending c at pending
    → ArePending c (at + 1) (pending ++ at ∷ [])
pending_asked c at pending tree named are p = (
  (λ has. elim (Contains-append_cases pending (at ∷ []) p has) [
    | inl before ↦ pending_on c at p (λ now. request_answers_none c at tree p ((are p).0 before).tree_request now) ((are p).0 before)
    | inr last ↦ elim (contains_cases at [] p last) [
      | inl here ↦ subst (IsPending c (at + 1)) here (pending_now c at tree named)
      | inr none ↦ absurd (omega (arith, none.1))
    ]
  ]),
  (λ is. elim (pending_cases c at p is) [
    | inl before ↦ Contains-append_left pending (at ∷ []) p ((are p).1 before)
    | inr here ↦ subst (Contains (pending ++ at ∷ [])) (sym here) (Contains-push pending at)
  ]),
)

-- an answer comes to a tree request: that one is in flight no more
pub pending_answered : (c : List Message) (at asked : ℕ) (pending fewer : List ℕ) → IsTreeRequestAt c asked → IsAnsweredBy c asked at → IsOneLess pending asked fewer → ArePending c at pending
    → ArePending c (at + 1) fewer
pending_answered c at asked pending fewer tree by less are p = (
  (λ has. let old = (less p).0 has in pending_on c at p (λ now. old.1 (one_answered c asked p at by now)) ((are p).0 old.0)),
  (λ is. elim (pending_cases c at p is) [
    | inl before ↦ (less p).1 ((are p).1 before, (λ same. is.waits (subst (IsAnsweredBefore c (at + 1)) same (at, by, omega arith))))
    | inr here ↦ absurd (request_answers_none c at (subst (IsTreeRequestAt c) here is.tree_request) asked tree by)
  ]),
)

-- another message comes, which answers no tree request, and is none that an order may name: the same are in flight
pub pending_still : (c : List Message) (at : ℕ) (pending : List ℕ) → AnswersNone c at → (IsTreeRequestAt c at → (wrote : Option ℕ) → IsChoice c (record { at = at; wrote = wrote }) → ⊥)
    → ArePending c at pending → ArePending c (at + 1) pending
pending_still c at pending none unnamed are p = (
  (λ has. let old = (are p).0 has in pending_on c at p (none p old.tree_request) old),
  (λ is. elim (pending_cases c at p is) [
    | inl before ↦ (are p).1 before
    | inr here ↦
        let named : (wrote : Option ℕ) × IsChoice c (record { at = at; wrote = wrote }) =
        subst (λ (n : ℕ). (wrote : Option ℕ) × IsChoice c (record { at = n; wrote = wrote })) here is.named in
        absurd (unnamed (subst (IsTreeRequestAt c) here is.tree_request) named.0 named.1)
  ]),
)

-- ---- what may come next

-- a request that waits for the answer that this message gives, and is not placed, is not done
pub waits_still : (c : List Message) (at asked : ℕ) (placed : List ℕ) → IsAnsweredBy c asked at → (Contains placed asked → ⊥) → IsDoneAt c at placed asked → ⊥
waits_still c at asked placed by lacks done = elim done [
  | inl answered ↦
      let same : answered.1.0 ≡ at = answered_at c asked answered.1.0 at answered.1.1 by in
      let early = answered.1.2 in
      omega (arith, same, early)
  | inr has ↦ lacks has
]

-- Where there is one, only what is in flight and not placed may come.
pub next_is_pending : (c : List Message) (at asked : ℕ) (placed : List ℕ) (e : Entry) → IsTreeRequestAt c asked → IsAnsweredBy c asked at → (Contains placed asked → ⊥)
    → MayCome c (IsDoneAt c at placed) e → MayBeTried c at e × (Contains placed e.at → ⊥)
next_is_pending c at asked placed e tree by lacks may = (
  record {
    pending = record {
      tree_request = may.tree_request;
      sent = sent;
      waits = λ answered. may.once (inl (may.tree_request, answered));
      named = (e.wrote, may.choice);
    };
    choice = may.choice;
  },
  (λ has. may.once (inr has)),
)
  where
    sent : e.at < at
    sent = elim (cases_lt e.at at) [
      | inl before ↦ before
      | inr behind ↦ elim (cases_lt at e.at) [
        | inl later ↦ absurd (waits_still c at asked placed by lacks (may.earlier asked at tree by later))
        | inr near ↦
            let here : e.at ≡ at = omega (arith, behind, near) in
            absurd (request_answers_none c at (subst (IsTreeRequestAt c) here may.tree_request) asked tree by)
      ]
    ]
