use Rattle.std.proofs.Common.{◌≡◌, ◌++◌, map}
use Rattle.fa_session.specs.parts.View.{owned_shown}
use Rattle.fa_session.proofs.ParkedLemmas.{own_entry}
use Rattle.fa_session.proofs.outstanding.Outstanding.to_owned.Given as goal

abbrev pub invariant-loop-waiting : goal.invariant-loop-waiting
invariant-loop-waiting l =
    map owned_shown l.owned.items ++ map own_entry l.waiting-iterator ≡ map owned_shown l.initial.owned.items ++ map own_entry l.initial.waiting-iterator
