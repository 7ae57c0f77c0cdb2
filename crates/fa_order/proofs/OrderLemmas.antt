-- The laws of order texts, and what the loop of the reader keeps.
use Rattle.std.proofs.Common.{◌≡◌, ◌≢◌, ℕ, ◌+◌, ◌<◌, ◌≤◌, get_or, take, subst, List, [], ◌∷◌, ◌++◌, length, All, inl, inr, sym, ap, ◌∙◌, append_assoc, arith}
use Rattle.std.specs.List.{flat_map}
use Rattle.std.proofs.lemmas.List.{append_cancel_left, append-nil, length-append, take_all, take_more}
use Rattle.std.proofs.lemmas.List.Concat.{flat_map-append}
use Rattle.std.proofs.lemmas.List.Elements.{recursion_from_All, All-push}
use Rattle.fa_order.specs.declared.entry.Entry.{Entry}
use Rattle.fa_order.specs.Lines.{end_line, LacksLine}
use Rattle.fa_order.specs.Order.{IsInRange, entry_line, first_line, opening, order_text, LacksEntry, LacksFirstLine, LacksNextLine, GoesOn, IsOrderText, IsOrderFault}
use Rattle.fa_order.specs.Laws.{OneOrderText, OneOrderFault, OrderTextHasNoFault}
use Rattle.fa_order.proofs.OrderLines.{end_is_no_entry, same_entries, entries_fit}

-- what the entries open begins with the first line
opening_first : (es : List Entry) (x : List ℕ) → opening es ++ x ≡ first_line ++ (flat_map entry_line es ++ x)
opening_first es x = append_assoc first_line (flat_map entry_line es) x

-- the last line behind the entries, and what follows it
text_on : (es : List Entry) (x : List ℕ) → order_text es ++ x ≡ opening es ++ (end_line ++ x)
text_on es x = append_assoc (opening es) end_line x

-- entries at the front of bytes, and what follows them, where that is no entry
same_opening : (es fs : List Entry) (x y : List ℕ) → All IsInRange es → All IsInRange fs → LacksEntry x → LacksEntry y → opening es ++ x ≡ opening fs ++ y → (es ≡ fs) × (x ≡ y)
same_opening es fs x y fits others ends others_end same =
    same_entries es fs x y (recursion_from_All IsInRange es fits) (recursion_from_All IsInRange fs others) ends others_end
    (append_cancel_left first_line (flat_map entry_line es ++ x) (flat_map entry_line fs ++ y) (sym (opening_first es x) ∙ same ∙ opening_first fs y))

-- the last line alone is no entry
end_alone : LacksEntry end_line
end_alone = end_is_no_entry []

pub one_order_text : OneOrderText
one_order_text bytes es fs p q = (same_opening es fs end_line end_line p.in_range q.in_range end_alone end_alone (sym p.spelled ∙ q.spelled)).0

-- what begins with entries begins with the first line
has_first : (bytes rest : List ℕ) (es : List Entry) → bytes ≡ opening es ++ rest → LacksLine bytes first_line → ⊥
has_first bytes rest es spelled lacks = lacks (flat_map entry_line es ++ rest) (spelled ∙ opening_first es rest)

-- no rest is both without a last line and behind one
next_or_on : (bytes : List ℕ) (m n : ℕ) → LacksNextLine bytes m → GoesOn bytes n → ⊥
next_or_on bytes m n p q =
    let both = same_opening p.entries q.entries p.rest (end_line ++ q.rest) p.in_range q.in_range p.no_entry (end_is_no_entry q.rest) (sym p.spelled ∙ q.spelled ∙ text_on q.entries q.rest) in
    p.no_end q.rest both.1

first_or_next : (bytes : List ℕ) (m n : ℕ) → LacksFirstLine bytes m → LacksNextLine bytes n → ⊥
first_or_next bytes m n p q = has_first bytes q.rest q.entries q.spelled p.lacks

first_or_on : (bytes : List ℕ) (m n : ℕ) → LacksFirstLine bytes m → GoesOn bytes n → ⊥
first_or_on bytes m n p q = has_first bytes (end_line ++ q.rest) q.entries (q.spelled ∙ text_on q.entries q.rest) p.lacks

one_next : (bytes : List ℕ) (m n : ℕ) → LacksNextLine bytes m → LacksNextLine bytes n → m ≡ n
one_next bytes m n p q =
    let both = same_opening p.entries q.entries p.rest q.rest p.in_range q.in_range p.no_entry q.no_entry (sym p.spelled ∙ q.spelled) in
    p.place ∙ ap (λ (es : List Entry). length es + 2) both.0 ∙ sym q.place

one_on : (bytes : List ℕ) (m n : ℕ) → GoesOn bytes m → GoesOn bytes n → m ≡ n
one_on bytes m n p q =
    let both = same_opening p.entries q.entries (end_line ++ p.rest) (end_line ++ q.rest) p.in_range q.in_range (end_is_no_entry p.rest) (end_is_no_entry q.rest)
    (sym (text_on p.entries p.rest) ∙ sym p.spelled ∙ q.spelled ∙ text_on q.entries q.rest) in
    p.place ∙ ap (λ (es : List Entry). length es + 3) both.0 ∙ sym q.place

pub one_order_fault : OneOrderFault
one_order_fault bytes m n (inl p) (inl q) = p.place ∙ sym q.place
one_order_fault bytes m n (inl p) (inr (inl q)) = absurd (first_or_next bytes m n p q)
one_order_fault bytes m n (inl p) (inr (inr q)) = absurd (first_or_on bytes m n p q)
one_order_fault bytes m n (inr (inl p)) (inl q) = absurd (first_or_next bytes n m q p)
one_order_fault bytes m n (inr (inl p)) (inr (inl q)) = one_next bytes m n p q
one_order_fault bytes m n (inr (inl p)) (inr (inr q)) = absurd (next_or_on bytes m n p q)
one_order_fault bytes m n (inr (inr p)) (inl q) = absurd (first_or_on bytes n m q p)
one_order_fault bytes m n (inr (inr p)) (inr (inl q)) = absurd (next_or_on bytes n m q p)
one_order_fault bytes m n (inr (inr p)) (inr (inr q)) = one_on bytes m n p q

pub order_text_has_no_fault : OrderTextHasNoFault
order_text_has_no_fault bytes es n p (inl f) = has_first bytes end_line es p.spelled f.lacks
order_text_has_no_fault bytes es n p (inr (inl f)) =
    let both = same_opening es f.entries end_line f.rest p.in_range f.in_range end_alone f.no_entry (sym p.spelled ∙ f.spelled) in
    f.no_end [] (sym both.1)
order_text_has_no_fault bytes es n p (inr (inr f)) =
    let both = same_opening es f.entries end_line (end_line ++ f.rest) p.in_range f.in_range end_alone (end_is_no_entry f.rest) (sym p.spelled ∙ f.spelled ∙ text_on f.entries f.rest) in
    let nothing : [] ≡ f.rest = append_cancel_left end_line [] f.rest both.1 in
    f.some (sym nothing)

-- ---- the loop

-- These entries were read, and this is left behind their lines.
pub record IsSoFar (bytes : List ℕ) (es : List Entry) (left : List ℕ) : Type 0 where
  pub in_range : All IsInRange es
  pub spelled : bytes ≡ opening es ++ left

-- what more is opened by one more entry
pushed : (es : List Entry) (e : Entry) (after : List ℕ) → opening es ++ (entry_line e ++ after) ≡ opening (es ++ e ∷ []) ++ after
pushed es e after =
    let lines : flat_map entry_line (es ++ e ∷ []) ≡ flat_map entry_line es ++ entry_line e = flat_map-append entry_line es (e ∷ []) ∙ ap (λ (x : List ℕ). flat_map entry_line es ++ x) (append-nil (entry_line e)) in
    opening_first es (entry_line e ++ after)
    ∙ ap (λ (x : List ℕ). first_line ++ x) (sym (append_assoc (flat_map entry_line es) (entry_line e) after) ∙ ap (λ (x : List ℕ). x ++ after) (sym lines))
    ∙ sym (opening_first (es ++ e ∷ []) after)

-- one more entry
pub so_far_more : (bytes left after : List ℕ) (es : List Entry) (e : Entry) → IsSoFar bytes es left → IsInRange e → left ≡ entry_line e ++ after → IsSoFar bytes (es ++ e ∷ []) after
so_far_more bytes left after es e so_far fits line = record {
  in_range = All-push IsInRange es e so_far.in_range fits;
  spelled = so_far.spelled ∙ ap (λ (x : List ℕ). opening es ++ x) line ∙ pushed es e after;
}

-- no more entries than bytes
pub so_far_count : (bytes left : List ℕ) (es : List Entry) → IsSoFar bytes es left → length es ≤ length bytes
so_far_count bytes left es so_far =
    let fit : length es ≤ length (flat_map entry_line es) = entries_fit es in
    let whole : length bytes ≡ length (opening es) + length left = ap length so_far.spelled ∙ length-append (opening es) left in
    let front : length (opening es) ≡ length first_line + length (flat_map entry_line es) = length-append first_line (flat_map entry_line es) in
    omega arith

-- the fault where neither an entry's line nor the last line comes
pub fault_next : (bytes left : List ℕ) (es : List Entry) (line : ℕ) → IsSoFar bytes es left → LacksEntry left → LacksLine left end_line → line ≡ length es + 2 → IsOrderFault bytes line
fault_next bytes left es line so_far no_entry no_end place =
    inr (inl (record { entries = es; rest = left; in_range = so_far.in_range; spelled = so_far.spelled; no_entry = no_entry; no_end = no_end; place = place }))

-- the fault where something stands behind the last line
pub fault_on : (bytes left rest : List ℕ) (es : List Entry) (line : ℕ) → IsSoFar bytes es left → left ≡ end_line ++ rest → rest ≢ [] → line ≡ length es + 3 → IsOrderFault bytes line
fault_on bytes left rest es line so_far end some place =
    inr (inr (record { entries = es; rest = rest; in_range = so_far.in_range; spelled = so_far.spelled ∙ ap (λ (x : List ℕ). opening es ++ x) end ∙ sym (text_on es rest); some = some; place = place }))

-- ---- the writer

-- the entry at a place, written behind those before it
pub written_more : (text new : List ℕ) (es : List Entry) (i : ℕ) (d : Entry) → i < length es → text ≡ opening (take i es) → new ≡ text ++ entry_line (get_or es i d) → new ≡ opening (take (i + 1) es)
written_more text new es i d within before line =
    let e : Entry = get_or es i d in
    let lines : flat_map entry_line (take i es ++ e ∷ []) ≡ flat_map entry_line (take i es) ++ entry_line e = flat_map-append entry_line (take i es) (e ∷ []) ∙ ap (λ (x : List ℕ). flat_map entry_line (take i es) ++ x) (append-nil (entry_line e)) in
    line ∙ ap (λ (x : List ℕ). x ++ entry_line e) before ∙ opening_first (take i es) (entry_line e)
    ∙ ap (λ (x : List ℕ). first_line ++ x) (sym lines) ∙ ap opening (sym (take_more es i d within))

pub in_range_more : (es : List Entry) (i : ℕ) (d : Entry) → i < length es → All IsInRange (take i es) → IsInRange (get_or es i d) → All IsInRange (take (i + 1) es)
in_range_more es i d within before fits = subst (All IsInRange) (sym (take_more es i d within)) (All-push IsInRange (take i es) (get_or es i d) before fits)

-- all of them, and the last line
pub written_whole : (text whole : List ℕ) (es : List Entry) (i : ℕ) → length es ≤ i → text ≡ opening (take i es) → All IsInRange (take i es) → whole ≡ text ++ end_line → IsOrderText whole es
written_whole text whole es i all before fits last = record {
  in_range = subst (All IsInRange) (take_all i es all) fits;
  spelled = last ∙ ap (λ (x : List ℕ). x ++ end_line) (before ∙ ap opening (take_all i es all));
}
