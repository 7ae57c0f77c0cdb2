use Rattle.std.proofs.Common.{subst}
use Rattle.fa_capture.specs.Message.{without_times}
use Rattle.fa_capture.specs.Reading.{IsRecording}
use Rattle.fa_ledger.proofs.CallerLemmas.{framing_is_first, good_is_whole}
use Rattle.fa_watch.proofs.stream.Stream.end.Goals as goal

pub returns-in-Some : goal.returns-in-Some
returns-in-Some c bytes rs session been =
    framing_is_first bytes rs c.in-Some.field-0 (subst (IsRecording bytes rs) c.in-Some.is (c.end.ensures bytes rs been.come)) been.shown.behind.good

pub returns-in-None : goal.returns-in-None
returns-in-None c bytes rs session been =
    let good = been.shown.behind.good in
    (without_times rs, good_is_whole bytes rs (subst (IsRecording bytes rs) c.in-None.is (c.end.ensures bytes rs been.come)) good, c.len.ensures (without_times rs) been.shown.behind)
