use Rattle.std.proofs.Common.{◌≡◌, ◌+◌, ℕ, sym, ap, subst, ◌∙◌, arith}
use Rattle.std.proofs.lemmas.Option.{same_Some, slice_get_within}
use Rattle.fa_ledger.specs.Calls.{PlainCall, call_shown}
use Rattle.fa_search.specs.declared.flight.InFlight.{InFlight}
use Rattle.fa_search.specs.parts.Flight.{IsSent}
use Rattle.fa_search.proofs.BetweenLemmas.{passed_by, passed_with, none_asked}
use Rattle.fa_search.proofs.flight.InFlight.pass.Goals as goal
use Rattle.fa_search.proofs.flight.InFlight.pass.Goals.{then-self-len+then-call-self+in_ok-send, then-self-len+else-call-self, else-self-len}

pub send-requires : goal.send-requires
send-requires c = let within = c.if-self-len.true in omega arith

pub overflow_add-self : goal.overflow_add-self
overflow_add-self c = elim c.if-self-len.branch [
  | then-self-len+then-call-self+in_ok-send w ↦ let at : c.if-self-len.self.at ≡ c.args.self.now.at = ap (λ (x : InFlight). x.at) w.self-is ∙ w.in_ok-send.ensures.at in omega arith
  | then-self-len+else-call-self w ↦ let at : c.if-self-len.self.at ≡ c.args.self.now.at = ap (λ (x : InFlight). x.at) w.self-is in omega arith
  | else-self-len w ↦ let at : c.if-self-len.self.at ≡ c.args.self.now.at = ap (λ (x : InFlight). x.at) w.self-is in omega arith
]

pub returns-clause-flight : goal.returns-clause-flight
returns-clause-flight c = λ messages is flight none.
    let list = c.args.calls.now.list in
    let old = c.args.self.now in
    let left = c.if-self-len.self in
    let new : InFlight = record { requests = left.requests; seen = left.seen; at = left.at + 1; last_uses = left.last_uses } in
    elim c.if-self-len.branch [
      | then-self-len+then-call-self+in_ok-send w ↦
          passed_with messages list is.are old new (ap (λ (x : InFlight). x.at + 1) w.self-is ∙ ap (λ (n : ℕ). n + 1) w.in_ok-send.ensures.at)
          (ap (λ (x : InFlight). x.last_uses) w.self-is ∙ w.in_ok-send.ensures.uses) flight (ap (λ (x : InFlight). x.seen) w.self-is ∙ w.in_ok-send.ensures.seen)
          (call_shown w.call-call.result) w.call-call.ensures w.if-call-self.true
          (subst (λ (x : InFlight). IsSent old.seen (call_shown w.call-call.result) old.requests.entries x.requests.entries) (sym w.self-is) w.in_ok-send.ensures.sent) none
      | then-self-len+else-call-self w ↦
          let next : left.at + 1 ≡ old.at + 1 = ap (λ (x : InFlight). x.at + 1) w.self-is in
          let uses : left.last_uses ≡ old.last_uses = ap (λ (x : InFlight). x.last_uses) w.self-is in
          passed_by messages list is.are old new next uses flight (ap (λ (x : InFlight). x.seen) w.self-is)
          (none_asked messages list is.are old new next uses flight
          (λ call there now. w.if-call-self.false (ap (λ (x : PlainCall). x.asked) (same_Some (call_shown w.call-call.result) call (sym w.call-call.ensures ∙ there)) ∙ now)))
          (ap (λ (x : InFlight). x.requests.entries) w.self-is) none
      | else-self-len w ↦
          let next : left.at + 1 ≡ old.at + 1 = ap (λ (x : InFlight). x.at + 1) w.self-is in
          let uses : left.last_uses ≡ old.last_uses = ap (λ (x : InFlight). x.last_uses) w.self-is in
          passed_by messages list is.are old new next uses flight (ap (λ (x : InFlight). x.seen) w.self-is)
          (none_asked messages list is.are old new next uses flight
          (λ call there now.
          let within = slice_get_within list old.seen call there in
          let past = w.if-self-len.false in
          omega (arith, within, past)))
          (ap (λ (x : InFlight). x.requests.entries) w.self-is) none
    ]
