use Rattle.fa_audit.proofs.SearchLemmas.{finding_in}
use Rattle.fa_audit.proofs.deciding.found_from.Goals as goal

pub returns : goal.returns
returns g c = record {
  found = finding_in c.args.calls.now c.args.first c.search.result c.search.ensures.found c.search.ensures.none c.search.ensures.code c.search.ensures.gave_up
      c.search.ensures.proposed c.search.ensures.serial;
  decides = c.search.ensures.decides;
}
