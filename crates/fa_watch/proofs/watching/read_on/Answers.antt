use Rattle.std.proofs.Common.{◌≤◌, length, take, ℕ, refl, sym, ap, ◌∙◌, arith}
use Rattle.std.proofs.Math.Bool.{or-false}
use Rattle.std.proofs.lemmas.Bool.{true≢false}
use Rattle.std.proofs.lemmas.List.{length-take}
use Rattle.std.proofs.lemmas.Option.{IfSome_then}
use Rattle.fa_watch.proofs.WatchLemmas.{seen_at_end, seen_told, piece_more, none_more}
use Rattle.fa_watch.proofs.watching.read_on.Goals as goal

pub returns-in-Got-eq0-clause-seen : goal.returns-in-Got-eq0-clause-seen
returns-in-Got-eq0-clause-seen g c first so_far =
    let now = c.loop-taken.invariant.on first so_far in
    seen_at_end first _ c.loop-taken.stream c.loop-taken.session _ _ _ now (g.R.Input.remaining c.pull.new.self) _ c.end.result (ap (λ (n : ℕ). take n c.pull.new.into) c.in-Got-eq0.field-0-test) c.in-Got-eq0.ensures.bytes.0 (c.in-Got-eq0.ensures.bytes.1 c.in-Got-eq0.field-0-test (omega (arith, c.pull.auto.into, c.loop-taken.invariant.room))) (c.end.ensures now.bytes now.rs c.loop-taken.session now.been)

pub returns-in-Got-eq0-clause-failed : goal.returns-in-Got-eq0-clause-failed
returns-in-Got-eq0-clause-failed g c failed =
    let now = c.loop-taken.invariant.on c.requires.so_far.0 c.requires.so_far.1 in
    absurd (true≢false (sym failed ∙ c.in-Got-eq0.ensures.failed ∙ or-false _ ∙ now.unfailed))

pub take-requires : goal.take-requires
take-requires g c =
    let now = c.loop-taken.invariant.on c.requires.so_far.0 c.requires.so_far.1 in
    (now.bytes, now.rs, now.been)

pub returns-in_err-seen-in-Got-clause-failed : goal.returns-in_err-seen-in-Got-clause-failed
returns-in_err-seen-in-Got-clause-failed g c failed =
    let now = c.loop-taken.invariant.on c.requires.so_far.0 c.requires.so_far.1 in
    absurd (true≢false (sym failed ∙ c.in-Got.ensures.failed ∙ or-false _ ∙ now.unfailed))

pub returns-then-is_some-clause-seen : goal.returns-then-is_some-clause-seen
returns-then-is_some-clause-seen g c =
    let few : length (take c.in-Got.count c.pull.new.into) ≤ 65536 = omega (arith, length-take c.in-Got.count c.pull.new.into, c.pull.auto.into, c.loop-taken.invariant.room) in
    IfSome_then c.in_ok-seen-in-Got.seen c.in_ok-seen-in-Got.ensures.told (λ s told first so_far.
    let now = c.loop-taken.invariant.on first so_far in
    seen_told first _ c.loop-taken.stream c.loop-taken.session _ _ _ now (g.R.Input.remaining c.pull.new.self) (take c.in-Got.count c.pull.new.into) s c.in-Got.ensures.bytes.0 few (told now.bytes now.rs now.been))

pub returns-then-is_some-clause-failed : goal.returns-then-is_some-clause-failed
returns-then-is_some-clause-failed g c failed =
    let now = c.loop-taken.invariant.on c.requires.so_far.0 c.requires.so_far.1 in
    absurd (true≢false (sym failed ∙ c.in-Got.ensures.failed ∙ or-false _ ∙ now.unfailed))

pub loop-taken-preserved-in-Got : goal.loop-taken-preserved-in-Got
loop-taken-preserved-in-Got g c = record {
  on = λ first so_far.
      let now = c.loop-taken.invariant.on first so_far in
      piece_more first _ c.loop-taken.stream c.loop-taken.session _ _ _ now (g.R.Input.remaining c.pull.new.self) (take c.in-Got.count c.pull.new.into) c.take.new.self c.take.new.session _ _
      c.in-Got.ensures.bytes.0 (omega (arith, length-take c.in-Got.count c.pull.new.into, c.in-Got.ensures.bound, c.in-Got.count-test.1)) (c.in_ok-seen-in-Got.ensures.on (rw (sym c.is_some.ensures ∙ c.if-is_some.false) refl) now.bytes now.rs now.been) c.in-Got.ensures.failed c.in-Got.ensures.interrupted;
  no_fewer = omega (arith, c.loop-taken.invariant.no_fewer);
  moved = λ some. omega (arith, c.loop-taken.invariant.no_fewer);
  within = omega (arith, c.if-pulls-lt-MAX_PULLS.true);
  room = c.pull.auto.into ∙ c.loop-taken.invariant.room;
}

pub loop-taken-preserved : goal.loop-taken-preserved
loop-taken-preserved g c = record {
  on = λ first so_far.
      let now = c.loop-taken.invariant.on first so_far in
      none_more first _ c.loop-taken.stream c.loop-taken.session _ _ _ now _ _ _ c.in-Interrupted.ensures.bytes c.in-Interrupted.ensures.failed c.in-Interrupted.ensures.interrupted;
  no_fewer = omega (arith, c.loop-taken.invariant.no_fewer);
  moved = λ some. omega (arith, c.loop-taken.invariant.no_fewer);
  within = omega (arith, c.if-pulls-lt-MAX_PULLS.true);
  room = c.pull.auto.into ∙ c.loop-taken.invariant.room;
}

pub returns-else-pulls-lt-MAX_PULLS-clause-failed : goal.returns-else-pulls-lt-MAX_PULLS-clause-failed
returns-else-pulls-lt-MAX_PULLS-clause-failed g c failed =
    absurd (true≢false (sym failed ∙ (c.loop-taken.invariant.on c.requires.so_far.0 c.requires.so_far.1).unfailed))

pub returns-after-loop-taken-clause-failed : goal.returns-after-loop-taken-clause-failed
returns-after-loop-taken-clause-failed g c failed =
    absurd (true≢false (sym failed ∙ (c.loop-taken.invariant.on c.requires.so_far.0 c.requires.so_far.1).unfailed))
