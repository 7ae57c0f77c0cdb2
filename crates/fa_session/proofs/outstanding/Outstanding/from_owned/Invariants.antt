use Rattle.fa_session.proofs.ParkedLemmas.{IsFilledBehind}
use Rattle.fa_session.proofs.outstanding.Outstanding.from_owned.Given as goal

abbrev pub invariant-loop-waiting : goal.invariant-loop-waiting
invariant-loop-waiting l = IsFilledBehind l.owned l.waiting-iterator.iter.rest.now l.outstanding
