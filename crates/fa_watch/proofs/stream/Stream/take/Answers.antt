use Rattle.std.proofs.Common.{◌++◌, List, refl, ap, sym, subst}
use Rattle.fa_ledger.specs.Standing.{ShowsStanding}
use Rattle.fa_capture.specs.Captures.{records_left}
use Rattle.fa_capture.specs.Incoming.{HasCome}
use Rattle.fa_capture.specs.Message.{Recorded, message, recorded, without_times}
use Rattle.fa_watch.specs.Refusals.{IsRefusal}
use Rattle.fa_watch.proofs.StreamLemmas.{takes_none, few, takes_one, refused_told, goes_on, framing_told}
use Rattle.fa_watch.proofs.stream.Stream.take.Goals as goal

pub loop-packet-init : goal.loop-packet-init
loop-packet-init c bytes rs been =
    let given = sym (ap records_left c.into_iter-packet-iterator.ensures.into_iter_gives) in
    takes_none (bytes ++ c.args.piece.now) rs (records_left c.into_iter-packet-iterator.result) _ c.args.session.now
    (subst (λ (x : List Recorded). HasCome (bytes ++ c.args.piece.now) (rs ++ x) c.take.new.self) given (c.in_ok-packets.ensures.come bytes rs been.come)) been.shown

pub accept-requires : goal.accept-requires
accept-requires c =
    let (bytes, rs, been) = c.requires in
    let on = c.loop-packet.invariant bytes rs been in
    let here = (bytes ++ c.args.piece.now) in (
      without_times (rs ++ on.more),
      on.taking.shown,
      few here rs (records_left c.loop-packet.packet-iterator) (records_left c.next.new.self) (recorded c.in-Some.packet) c.loop-packet.self c.loop-packet.session c.in-Some.ensures.steps on,
    )

pub loop-packet-preserved : goal.loop-packet-preserved
loop-packet-preserved c bytes rs been =
    let on = c.loop-packet.invariant bytes rs been in
    let here = (bytes ++ c.args.piece.now) in
    let left = records_left c.loop-packet.packet-iterator in
    let rest = records_left c.next.new.self in
    let r = recorded c.in-Some.packet in
    takes_one here rs left rest r c.loop-packet.self c.loop-packet.session c.in-Some.ensures.steps on c.accept.new.standing c.accept.new.session
    (c.in-Ok.ensures.shows (without_times (rs ++ on.more)) on.taking.shown (few here rs left rest r c.loop-packet.self c.loop-packet.session c.in-Some.ensures.steps on))

pub returns-in-Err-Refused-clause-told : goal.returns-in-Err-Refused-clause-told
returns-in-Err-Refused-clause-told c bytes rs been =
    let on = c.loop-packet.invariant bytes rs been in
    let here = (bytes ++ c.args.piece.now) in
    let left = records_left c.loop-packet.packet-iterator in
    let rest = records_left c.next.new.self in
    let r = recorded c.in-Some.packet in
    let before = without_times (rs ++ on.more) in
    let enough = few here rs left rest r c.loop-packet.self c.loop-packet.session c.in-Some.ensures.steps on in
    let refusal = subst (IsRefusal before (message c.in-Some.packet)) c.in-Err-Refused.field-0-is (c.in-Err-Refused.ensures.refused before on.taking.shown enough) in
    let stands = subst (ShowsStanding before) (sym c.in-Err-Refused.ensures.kept) on.taking.shown.behind in
    rw c.in-Err-Refused.field-0-is
    (refused_told here rs left rest r c.loop-packet.self c.loop-packet.session c.in-Some.ensures.steps on c.len-at.result c.in-Err-Refused.code (c.len-at.ensures before stands) refusal)

pub returns-in_default-clause-on : goal.returns-in_default-clause-on
returns-in_default-clause-on c none bytes rs been =
    let on = c.loop-packet.invariant bytes rs been in
    goes_on (bytes ++ c.args.piece.now) rs (records_left c.loop-packet.packet-iterator) c.loop-packet.self c.loop-packet.session c.in-None.ensures.steps.0 on
    (c.in_ok-packets.ensures.open bytes rs been.come (rw c.in_default.is refl))

pub returns-clause-told : goal.returns-clause-told
returns-clause-told c bytes rs been =
    let on = c.loop-packet.invariant bytes rs been in
    framing_told (bytes ++ c.args.piece.now) rs (records_left c.loop-packet.packet-iterator) c.loop-packet.self c.loop-packet.session c.in-None.ensures.steps.0 on
    c.in-Some-fault.field-0 (rw c.in-Some-fault.is at (c.in_ok-packets.ensures.decided bytes rs been.come))
