use Rattle.fa_reasons.proofs.pages.tell_text.Goals as goal

pub returns-clause-told : goal.returns-clause-told
returns-clause-told g c = record {
  written = record { text = c.as_bytes.result.now; printing = c.as_bytes.ensures; added = c.in_ok-put.ensures.bytes };
  status_is = c.number.ensures;
}
