use Rattle.std.specs.Option.{option_copied}
use Rattle.fa_audit.specs.parts.Protocol.{messages_of}
use Rattle.fa_audit.proofs.ShortestLemmas.{shortest_given}
use Rattle.fa_audit.proofs.shortest.shortest_without.Goals as goal

pub returns-clause-found : goal.returns-clause-found
returns-clause-found g c = λ first given.
    shortest_given (messages_of c.args.capture.now) (option_copied c.args.tree) c.in_ok-first.first c.in_ok-shortest.field-0 c.in_ok-first.ensures.given c.in_ok-shortest.ensures first given
