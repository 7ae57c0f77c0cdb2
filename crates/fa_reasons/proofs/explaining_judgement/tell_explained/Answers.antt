use Rattle.std.specs.Prelude.{List, ℕ, ◌++◌}
use Rattle.std.specs.Io.KnownBytes.{Appends}
use Rattle.std.proofs.Common.{subst, ap, ◌∙◌}
use Rattle.fa_audit.specs.Searched.{judged_lines, judged_status}
use Rattle.std.proofs.KnownBytes.{Appends-trans}
use Rattle.fa_reasons.proofs.explaining_judgement.tell_explained.Goals as goal

pub returns-clause-told : goal.returns-clause-told
returns-clause-told g c =
    let old = g.W.Output.written c.args.out.now in
    let new = g.W.Output.written c.put-2.new.self in
    let reasons = c.apart.result.now in
    record {
      reasons = reasons;
      printing = c.apart.ensures.printing;
      apart = c.apart.ensures.apart;
      written = record {
        written = subst (λ (lines : List ℕ). Appends old new (lines ++ reasons)) (c.as_bytes.ensures.value ∙ c.in_ok-lines.ensures.lines ∙ ap judged_lines c.judgement_of.ensures)
            (Appends-trans _ _ _ _ _ c.in_ok-put.ensures.bytes c.in_ok-put-2.ensures.bytes);
        status_is = c.number.ensures ∙ c.in_ok-lines.ensures.status ∙ ap judged_status c.judgement_of.ensures;
      };
    }
