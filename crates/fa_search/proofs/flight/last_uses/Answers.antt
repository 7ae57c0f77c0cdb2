use Rattle.std.proofs.Common.{◌≡◌, sym, ap, subst, ◌∙◌, inl, inr, arith}
use Rattle.std.specs.Prelude.{slice_get}
use Rattle.std.proofs.lemmas.Bool.{cases_lt}
use Rattle.std.proofs.lemmas.Option.{same_Some, slice_get_within}
use Rattle.fa_ledger.specs.Calls.{PlainCall, call_shown}
use Rattle.fa_search.specs.parts.Flight.{IsUseNoted}
use Rattle.fa_search.proofs.UseLemmas.{noted_still}
use Rattle.fa_search.proofs.flight.last_uses.Goals as goal

pub loop-place-init : goal.loop-place-init
loop-place-init c = λ place call less there. absurd (omega (arith, less))

pub loop-place-preserved : goal.loop-place-preserved
loop-place-preserved c = λ place call less there. elim (cases_lt place c.loop-place.place) [
  | inl early ↦ noted_still call c.loop-place.last_uses c.note_use.new.last_uses c.in_ok-note_use.ensures.kept (c.loop-place.invariant place call early there)
  | inr late ↦
      let here : place ≡ c.loop-place.place = omega (arith, less, late) in
      let same : call_shown c.call.result ≡ call =
      same_Some (call_shown c.call.result) call (sym c.call.ensures ∙ sym (ap (slice_get c.args.calls.now.list) here) ∙ there) in
      subst (λ (k : PlainCall). IsUseNoted k c.note_use.new.last_uses) same c.in_ok-note_use.ensures.noted
]

pub returns : goal.returns
returns c = λ place call there.
    let within = slice_get_within c.args.calls.now.list place call there in
    c.loop-place.invariant place call (omega (arith, within)) there
