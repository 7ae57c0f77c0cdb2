-- A line is spelled in one way, whatever follows it.
use Rattle.std.proofs.Common.{◌≡◌, ℕ, ◌+◌, ◌^◌, ◌<◌, ◌≤◌, List, [], ◌∷◌, ◌++◌, length, get_or, Option, Some, None, refl, sym, ap, ◌∙◌, append_assoc, arith}
use Rattle.std.specs.Prelude.{codes}
use Rattle.std.specs.Fmt.{decimal}
use Rattle.std.specs.List.{flat_map, AllByRecursion}
use Rattle.std.proofs.lemmas.List.{length-append}
use Rattle.fa_order.specs.declared.entry.Entry.{Entry}
use Rattle.fa_order.specs.Lines.{end_line, LacksLine}
use Rattle.fa_order.specs.Order.{IsCount, IsInRange, wrote_text, line_end, entry_line, LacksEntry}
use Rattle.fa_order.specs.parts.Digits.{LacksDigit}
use Rattle.fa_order.proofs.OrderDigits.{one_decimal, no_decimal}

-- no digit stands behind the number of a line's message
pub line_end_first : (wrote : Option ℕ) (x : List ℕ) → LacksDigit (line_end wrote ++ x)
line_end_first None x = λ low high. omega (arith, low, high)
line_end_first (Some count) x = λ low high. omega (arith, low, high)

line_feed_first : (x : List ℕ) → LacksDigit (10 ∷ x)
line_feed_first x = λ low high. omega (arith, low, high)

-- ` w `, a count and a line feed, with what follows them
pub count_end : (count : ℕ) (x : List ℕ) → line_end (Some count) ++ x ≡ 32 ∷ 119 ∷ 32 ∷ (decimal count ++ 10 ∷ x)
count_end count x = ap (λ (s : List ℕ). 32 ∷ 119 ∷ 32 ∷ s) (append_assoc (decimal count) (10 ∷ []) x)

one_line_end : (v w : Option ℕ) (x y : List ℕ) → IsCount v → IsCount w → line_end v ++ x ≡ line_end w ++ y → (v ≡ w) × (x ≡ y)
one_line_end None None x y fits others e = (refl, cc)
one_line_end None (Some n) x y fits others e = let heads : get_or (10 ∷ x) 0 0 ≡ 32 = ap (λ (s : List ℕ). get_or s 0 0) e in absurd (omega (arith, heads))
one_line_end (Some m) None x y fits others e = let heads : get_or (32 ∷ x) 0 0 ≡ 10 = ap (λ (s : List ℕ). get_or s 0 0) e in absurd (omega (arith, heads))
one_line_end (Some m) (Some n) x y fits others e =
    let tails : decimal m ++ 10 ∷ x ≡ decimal n ++ 10 ∷ y = (let same : 32 ∷ 119 ∷ 32 ∷ (decimal m ++ 10 ∷ x) ≡ 32 ∷ 119 ∷ 32 ∷ (decimal n ++ 10 ∷ y) = sym (count_end m x) ∙ e ∙ count_end n y in cc) in
    let both = one_decimal m n (10 ∷ x) (10 ∷ y) fits others (line_feed_first x) (line_feed_first y) tails in
    let lines : 10 ∷ x ≡ 10 ∷ y = both.1 in
    (ap (λ (k : ℕ). Some k) both.0, cc)

-- entries with the same number and the same count are one
pub same_entry : (d e : Entry) → d.at ≡ e.at → d.wrote ≡ e.wrote → d ≡ e
same_entry d e same_at same_wrote =
    let both : (d.at, d.wrote) ≡ (e.at, e.wrote) = cc in
    let made : ℕ × Option ℕ → Entry = λ p. record { at = p.0; wrote = p.1 } in
    ap made both

-- an entry's line, and what follows it
pub line_on : (e : Entry) (x : List ℕ) → entry_line e ++ x ≡ decimal e.at ++ (line_end e.wrote ++ x)
line_on e x = append_assoc (decimal e.at) (line_end e.wrote) x

pub one_line : (d e : Entry) (x y : List ℕ) → IsInRange d → IsInRange e → entry_line d ++ x ≡ entry_line e ++ y → (d ≡ e) × (x ≡ y)
one_line d e x y fits others same =
    let first = one_decimal d.at e.at (line_end d.wrote ++ x) (line_end e.wrote ++ y) fits.at others.at (line_end_first d.wrote x) (line_end_first e.wrote y) (sym (line_on d x) ∙ same ∙ line_on e y) in
    let rest = one_line_end d.wrote e.wrote x y fits.wrote others.wrote first.1 in
    (same_entry d e first.0 rest.0, rest.1)

-- ---- what the readers find

-- a line's end begins with ` w ` only where it has a count, and then that count stands behind it
pub count_behind : (wrote : Option ℕ) (x count : List ℕ) → IsCount wrote → line_end wrote ++ x ≡ codes " w " ++ count → (n : ℕ) × (n < 2 ^ 32) × (count ≡ decimal n ++ 10 ∷ x)
count_behind None x count fits e = let heads : get_or (10 ∷ x) 0 0 ≡ 32 = ap (λ (s : List ℕ). get_or s 0 0) e in absurd (omega (arith, heads))
count_behind (Some n) x count fits e = (n, fits, (let same : 32 ∷ 119 ∷ 32 ∷ (decimal n ++ 10 ∷ x) ≡ 32 ∷ 119 ∷ 32 ∷ count = sym (count_end n x) ∙ e in let tails : decimal n ++ 10 ∷ x ≡ count = cc in sym tails))

-- where no line feed stands behind the count, there is none either
pub no_end_without_feed : (left count rest : List ℕ) (n : ℕ) → n < 2 ^ 32 → left ≡ codes " w " ++ count → count ≡ decimal n ++ rest → LacksDigit rest → LacksLine rest (10 ∷ []) → (wrote : Option ℕ) → IsCount wrote → LacksLine left (line_end wrote)
no_end_without_feed left count rest n n_fits e number whole no_feed wrote fits x same =
    let behind = count_behind wrote x count fits (sym same ∙ e) in
    let both = one_decimal n behind.0 rest (10 ∷ x) n_fits behind.1 whole (line_feed_first x) (sym number ∙ behind.2) in
    no_feed x both.1

-- where no line's end stands behind the number, no entry's line is in front
pub no_entry_without_end : (left rest : List ℕ) (n : ℕ) → n < 2 ^ 32 → left ≡ decimal n ++ rest → LacksDigit rest → ((wrote : Option ℕ) → IsCount wrote → LacksLine rest (line_end wrote)) → LacksEntry left
no_entry_without_end left rest n n_fits number whole no_end e fits x same =
    let both = one_decimal n e.at rest (line_end e.wrote ++ x) n_fits fits.at whole (line_end_first e.wrote x) (sym number ∙ same ∙ line_on e x) in
    no_end e.wrote fits.wrote x both.1

-- ---- lists of entries

-- the last line is no entry's
pub end_is_no_entry : (after : List ℕ) → LacksEntry (end_line ++ after)
end_is_no_entry after e fits x same =
    no_decimal e.at (end_line ++ after) (line_end e.wrote ++ x) fits.at (λ low high. omega (arith, low, high)) (same ∙ line_on e x)

-- two lists of entries at the front of the same bytes, with no entry behind them, are one
pub same_entries : (es fs : List Entry) (x y : List ℕ) → AllByRecursion IsInRange es → AllByRecursion IsInRange fs → LacksEntry x → LacksEntry y
    → flat_map entry_line es ++ x ≡ flat_map entry_line fs ++ y → (es ≡ fs) × (x ≡ y)
same_entries [] [] x y fits others ends others_end same = (refl, same)
same_entries [] (f ∷ fs) x y fits others ends others_end same =
    absurd (ends f others.0 (flat_map entry_line fs ++ y) (same ∙ append_assoc (entry_line f) (flat_map entry_line fs) y))
same_entries (e ∷ es) [] x y fits others ends others_end same =
    absurd (others_end e fits.0 (flat_map entry_line es ++ x) (sym same ∙ append_assoc (entry_line e) (flat_map entry_line es) x))
same_entries (e ∷ es) (f ∷ fs) x y fits others ends others_end same =
    let first = one_line e f (flat_map entry_line es ++ x) (flat_map entry_line fs ++ y) fits.0 others.0 (sym (append_assoc (entry_line e) (flat_map entry_line es) x) ∙ same ∙ append_assoc (entry_line f) (flat_map entry_line fs) y) in
    let rest = same_entries es fs x y fits.1 others.1 ends others_end first.1 in
    let here : e ≡ f = first.0 in
    let there : es ≡ fs = rest.0 in
    (let both : e ∷ es ≡ f ∷ fs = cc in both, rest.1)

-- each entry has a byte at least
pub entries_fit : (es : List Entry) → length es ≤ length (flat_map entry_line es)
entries_fit [] = omega arith
entries_fit (e ∷ es) =
    let later : length es ≤ length (flat_map entry_line es) = entries_fit es in
    let sum : length (entry_line e ++ flat_map entry_line es) ≡ length (entry_line e) + length (flat_map entry_line es) = length-append (entry_line e) (flat_map entry_line es) in
    let line : length (entry_line e) ≡ length (decimal e.at) + length (line_end e.wrote) = length-append (decimal e.at) (line_end e.wrote) in
    let feed : length (line_end e.wrote) ≡ length (wrote_text e.wrote) + 1 = length-append (wrote_text e.wrote) (10 ∷ []) in
    omega arith
