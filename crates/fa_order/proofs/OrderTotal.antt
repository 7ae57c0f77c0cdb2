-- Bytes that are no order text have a fault, and entries have one text.
use Rattle.std.proofs.Common.{◌≡◌, ℕ, zero, suc, ◌+◌, ◌<◌, ◌≤◌, ◌⊎◌, List, [], ◌∷◌, ◌++◌, length, inl, inr, refl, ap, ◌∙◌, arith}
use Rattle.std.proofs.lemmas.List.{append-nil, length-append}
use Rattle.fa_order.specs.declared.entry.Entry.{Entry}
use Rattle.fa_order.specs.Lines.{end_line}
use Rattle.fa_order.specs.Order.{entry_line, opening, order_text, wrote_text, line_end, IsOrderText, IsOrderFault}
use Rattle.fa_order.specs.Laws.{OrderTextOrFault, EachOrderHasOneText}
use Rattle.fa_order.proofs.OrderLemmas.{IsSoFar, so_far_more, fault_next, fault_on}
use Rattle.std.specs.Fmt.{decimal}

-- neither a text nor a fault
abbrev Neither : List ℕ → Type 0
Neither bytes = (((es : List Entry) × IsOrderText bytes es) ⊎ ((n : ℕ) × IsOrderFault bytes n)) → ⊥

-- each entry has a byte at least
entry_some : (e : Entry) (after : List ℕ) → length after < length (entry_line e ++ after)
entry_some e after =
    let sum : length (entry_line e ++ after) ≡ length (entry_line e) + length after = length-append (entry_line e) after in
    let line : length (entry_line e) ≡ length (decimal e.at) + length (line_end e.wrote) = length-append (decimal e.at) (line_end e.wrote) in
    let feed : length (line_end e.wrote) ≡ length (wrote_text e.wrote) + 1 = length-append (wrote_text e.wrote) (10 ∷ []) in
    omega arith

-- the last line stands behind the entries
not_ended : (bytes left after : List ℕ) (es : List Entry) → Neither bytes → IsSoFar bytes es left → left ≡ end_line ++ after → ⊥
not_ended bytes left [] es neither so_far ended =
    neither (inl (
      es,
      record {
        in_range = so_far.in_range;
        spelled = so_far.spelled ∙ ap (λ (x : List ℕ). opening es ++ x) (ended ∙ append-nil end_line);
      },
    ))
not_ended bytes left (b ∷ after) es neither so_far ended =
    neither (inr (length es + 3, fault_on bytes left (b ∷ after) es (length es + 3) so_far ended (λ none. cc) refl))

-- nothing stands behind these entries
not_left : (bytes left : List ℕ) (es : List Entry) (n : ℕ) → Neither bytes → length left ≤ n → IsSoFar bytes es left → ⊥
not_left bytes left es zero neither few so_far =
    neither (inr (
      length es + 2,
      fault_next bytes left es (length es + 2) so_far
          (λ e fits after line. let some = entry_some e after in let same : length left ≡ length (entry_line e ++ after) = ap length line in omega arith)
          (λ after ended. not_ended bytes left after es neither so_far ended) refl,
    ))
not_left bytes left es (suc n) neither few so_far =
    neither (inr (
      length es + 2,
      fault_next bytes left es (length es + 2) so_far
          (λ e fits after line.
          let some = entry_some e after in
          let same : length left ≡ length (entry_line e ++ after) = ap length line in
          let fewer : length after ≤ n = omega arith in
          not_left bytes after (es ++ e ∷ []) n neither fewer (so_far_more bytes left after es e so_far fits line))
          (λ after ended. not_ended bytes left after es neither so_far ended) refl,
    ))

pub order_text_or_fault : OrderTextOrFault
order_text_or_fault bytes neither =
    neither (inr (
      1,
      inl (record {
        place = refl;
        lacks = λ left first. not_left bytes left [] (length left) neither (omega arith) (record { in_range = λ k d within. absurd (omega (arith, within)); spelled = first });
      }),
    ))

pub each_order_has_one_text : EachOrderHasOneText
each_order_has_one_text es fits = record { text = order_text es; is_text = record { in_range = fits; spelled = refl }; only = λ other is. is.spelled }
