use Rattle.std.proofs.lemmas.Result.{IfOk-weaker}
use Rattle.fa_audit.proofs.SeenLemmas.{seen_coded}
use Rattle.fa_audit.proofs.watching.run_watch.Goals as goal

pub tell_seen-requires-clause-coded : goal.tell_seen-requires-clause-coded
tell_seen-requires-clause-coded g c = seen_coded _ _ c.in_ok-seen.seen c.in_ok-seen.ensures.seen

pub returns-clause-told : goal.returns-clause-told
returns-clause-told g c = IfOk-weaker c.tell_seen.result _ _ (λ status told. record { seen = c.in_ok-seen.seen; watched = c.in_ok-seen.ensures.seen; told = told }) c.tell_seen.ensures.told
