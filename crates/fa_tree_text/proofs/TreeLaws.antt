-- The laws of tree texts.
use Rattle.std.proofs.Common.{◌≡◌, ℕ, zero, suc, ◌+◌, ◌≤◌, ◌⊎◌, List, [], ◌∷◌, ◌++◌, length, inl, inr, refl, sym, ap, ◌∙◌, arith}
use Rattle.std.specs.List.{flat_map}
use Rattle.std.proofs.lemmas.List.{append-nil, append_cancel_left}
use Rattle.fa_tree.specs.State.{TreeState}
use Rattle.fa_tree.specs.Building.{empty_tree}
use Rattle.fa_order.specs.Lines.{end_line}
use Rattle.fa_tree_text.specs.TreeLines.{TreeLine, line_text}
use Rattle.fa_tree_text.specs.TreeText.{tree_first_line, root_line, BeginsTree, IsTreeText, LacksAddition, LacksTreeFirstLine, LacksRootLine, LacksNextTreeLine, TreeGoesOn, IsTreeFault}
use Rattle.fa_tree_text.specs.Laws.{OneTreeText, OneTreeFault, TreeTextHasNoFault, TreeTextOrFault}
use Rattle.fa_tree_text.proofs.TreeLemmas.{end_adds_nothing, one_beginning, begins_more, line_some}

-- ---- one tree

-- the last line alone adds nothing
last_adds_nothing : (tree : TreeState) → LacksAddition tree end_line
last_adds_nothing tree = end_adds_nothing tree []

pub one_tree_text : OneTreeText
one_tree_text bytes tree other p q = (one_beginning bytes p.bits q.bits p.lines q.lines tree other end_line end_line p.text q.text (last_adds_nothing tree) (last_adds_nothing other)).trees

-- ---- one fault

-- what begins with a tree has the first line
has_first : (bytes rest : List ℕ) (bits line : ℕ) (lines : List TreeLine) (tree : TreeState) → BeginsTree bytes bits lines tree rest → LacksTreeFirstLine bytes line → ⊥
has_first bytes rest bits line lines tree begins fault = fault.lacks (root_line bits ++ (flat_map line_text lines ++ rest)) begins.spelled

-- and the root's
has_root : (bytes rest : List ℕ) (bits line : ℕ) (lines : List TreeLine) (tree : TreeState) → BeginsTree bytes bits lines tree rest → LacksRootLine bytes line → ⊥
has_root bytes rest bits line lines tree begins fault =
    fault.no_root bits begins.are_bits (flat_map line_text lines ++ rest)
    (append_cancel_left tree_first_line fault.rest (root_line bits ++ (flat_map line_text lines ++ rest)) (sym fault.spelled ∙ begins.spelled))

-- no rest is both without a last line and behind one
next_or_end : (bytes rest : List ℕ) (bits line : ℕ) (lines : List TreeLine) (tree : TreeState) → BeginsTree bytes bits lines tree (end_line ++ rest) → LacksNextTreeLine bytes line → ⊥
next_or_end bytes rest bits line lines tree begins fault =
    fault.no_end rest
    (one_beginning bytes fault.bits bits fault.lines lines fault.tree tree fault.rest (end_line ++ rest) fault.begins begins fault.no_addition (end_adds_nothing tree rest)).rests

one_next : (bytes : List ℕ) (m n : ℕ) → LacksNextTreeLine bytes m → LacksNextTreeLine bytes n → m ≡ n
one_next bytes m n p q =
    let same = one_beginning bytes p.bits q.bits p.lines q.lines p.tree q.tree p.rest q.rest p.begins q.begins p.no_addition q.no_addition in
    p.place ∙ ap (λ (ls : List TreeLine). length ls + 3) same.same ∙ sym q.place

one_on : (bytes : List ℕ) (m n : ℕ) → TreeGoesOn bytes m → TreeGoesOn bytes n → m ≡ n
one_on bytes m n p q =
    let same = one_beginning bytes p.bits q.bits p.lines q.lines p.tree q.tree (end_line ++ p.rest) (end_line ++ q.rest) p.begins q.begins (end_adds_nothing p.tree p.rest) (end_adds_nothing q.tree q.rest) in
    p.place ∙ ap (λ (ls : List TreeLine). length ls + 4) same.same ∙ sym q.place

first_or_root : (bytes : List ℕ) (m n : ℕ) → LacksTreeFirstLine bytes m → LacksRootLine bytes n → ⊥
first_or_root bytes m n p q = p.lacks q.rest q.spelled

pub one_tree_fault : OneTreeFault
one_tree_fault bytes m n (inl p) (inl q) = p.place ∙ sym q.place
one_tree_fault bytes m n (inl p) (inr (inl q)) = absurd (first_or_root bytes m n p q)
one_tree_fault bytes m n (inl p) (inr (inr (inl q))) = absurd (has_first bytes q.rest q.bits m q.lines q.tree q.begins p)
one_tree_fault bytes m n (inl p) (inr (inr (inr q))) = absurd (has_first bytes (end_line ++ q.rest) q.bits m q.lines q.tree q.begins p)
one_tree_fault bytes m n (inr (inl p)) (inl q) = absurd (first_or_root bytes n m q p)
one_tree_fault bytes m n (inr (inl p)) (inr (inl q)) = p.place ∙ sym q.place
one_tree_fault bytes m n (inr (inl p)) (inr (inr (inl q))) = absurd (has_root bytes q.rest q.bits m q.lines q.tree q.begins p)
one_tree_fault bytes m n (inr (inl p)) (inr (inr (inr q))) = absurd (has_root bytes (end_line ++ q.rest) q.bits m q.lines q.tree q.begins p)
one_tree_fault bytes m n (inr (inr (inl p))) (inl q) = absurd (has_first bytes p.rest p.bits n p.lines p.tree p.begins q)
one_tree_fault bytes m n (inr (inr (inl p))) (inr (inl q)) = absurd (has_root bytes p.rest p.bits n p.lines p.tree p.begins q)
one_tree_fault bytes m n (inr (inr (inl p))) (inr (inr (inl q))) = one_next bytes m n p q
one_tree_fault bytes m n (inr (inr (inl p))) (inr (inr (inr q))) = absurd (next_or_end bytes q.rest q.bits m q.lines q.tree q.begins p)
one_tree_fault bytes m n (inr (inr (inr p))) (inl q) = absurd (has_first bytes (end_line ++ p.rest) p.bits n p.lines p.tree p.begins q)
one_tree_fault bytes m n (inr (inr (inr p))) (inr (inl q)) = absurd (has_root bytes (end_line ++ p.rest) p.bits n p.lines p.tree p.begins q)
one_tree_fault bytes m n (inr (inr (inr p))) (inr (inr (inl q))) = absurd (next_or_end bytes p.rest p.bits n p.lines p.tree p.begins q)
one_tree_fault bytes m n (inr (inr (inr p))) (inr (inr (inr q))) = one_on bytes m n p q

pub tree_text_has_no_fault : TreeTextHasNoFault
tree_text_has_no_fault bytes tree n p (inl f) = has_first bytes end_line p.bits n p.lines tree p.text f
tree_text_has_no_fault bytes tree n p (inr (inl f)) = has_root bytes end_line p.bits n p.lines tree p.text f
tree_text_has_no_fault bytes tree n p (inr (inr (inl f))) = next_or_end bytes [] p.bits n p.lines tree p.text f
tree_text_has_no_fault bytes tree n p (inr (inr (inr f))) =
    let same = one_beginning bytes p.bits f.bits p.lines f.lines tree f.tree end_line (end_line ++ f.rest) p.text f.begins (last_adds_nothing tree) (end_adds_nothing f.tree f.rest) in
    let nothing : [] ≡ f.rest = append_cancel_left end_line [] f.rest same.rests in
    f.some (sym nothing)

-- ---- a text or a fault

-- neither a text nor a fault
abbrev Neither : List ℕ → Type 0
Neither bytes = (((tree : TreeState) × IsTreeText bytes tree) ⊎ ((n : ℕ) × IsTreeFault bytes n)) → ⊥

-- the last line stands behind the lines
not_ended : (bytes left after : List ℕ) (bits : ℕ) (lines : List TreeLine) (tree : TreeState) → Neither bytes → BeginsTree bytes bits lines tree left → left ≡ end_line ++ after → ⊥
not_ended bytes left [] bits lines tree neither begins ended =
    neither (inl (tree, record { bits = bits; lines = lines; text = record { are_bits = begins.are_bits; built = begins.built; spelled = begins.spelled ∙ ap (λ (x : List ℕ). tree_first_line ++ (root_line bits ++ (flat_map line_text lines ++ x))) (ended ∙ append-nil end_line) } }))
not_ended bytes left (b ∷ after) bits lines tree neither begins ended =
    neither (inr (
      length lines + 4,
      inr (inr (inr (record {
        bits = bits;
        lines = lines;
        tree = tree;
        rest = b ∷ after;
        begins = record { are_bits = begins.are_bits; built = begins.built; spelled = begins.spelled ∙ ap (λ (x : List ℕ). tree_first_line ++ (root_line bits ++ (flat_map line_text lines ++ x))) ended };
        some = λ none. cc;
        place = refl;
      }))),
    ))

-- the fault where no line comes that adds something
next_fault : (bytes left : List ℕ) (bits : ℕ) (lines : List TreeLine) (tree : TreeState) → Neither bytes → BeginsTree bytes bits lines tree left → LacksAddition tree left → ⊥
next_fault bytes left bits lines tree neither begins no_addition =
    neither (inr (
      length lines + 3,
      inr (inr (inl (record {
        bits = bits;
        lines = lines;
        tree = tree;
        rest = left;
        begins = begins;
        no_addition = no_addition;
        no_end = λ after ended. not_ended bytes left after bits lines tree neither begins ended;
        place = refl;
      }))),
    ))

-- nothing stands behind these lines
not_left : (bytes left : List ℕ) (bits : ℕ) (lines : List TreeLine) (tree : TreeState) (n : ℕ) → Neither bytes → length left ≤ n → BeginsTree bytes bits lines tree left → ⊥
not_left bytes left bits lines tree zero neither few begins =
    next_fault bytes left bits lines tree neither begins
    (λ line new adds after e. let some = line_some line after in let same : length left ≡ length (line_text line ++ after) = ap length e in omega arith)
not_left bytes left bits lines tree (suc n) neither few begins =
    next_fault bytes left bits lines tree neither begins
    (λ line new adds after e.
    let some = line_some line after in
    let same : length left ≡ length (line_text line ++ after) = ap length e in
    let fewer : length after ≤ n = omega arith in
    not_left bytes after bits (lines ++ line ∷ []) new n neither fewer (begins_more bytes left after bits lines tree new line begins adds e))

pub tree_text_or_fault : TreeTextOrFault
tree_text_or_fault bytes neither =
    neither (inr (
      1,
      inl (record {
        place = refl;
        lacks = λ rest first. neither (inr (
          2,
          inr (inl (record {
            rest = rest;
            spelled = first;
            no_root = λ bits fits left line. not_left bytes left bits [] (empty_tree bits) (length left) neither (omega arith) (record { are_bits = fits; built = refl; spelled = first ∙ ap (λ (x : List ℕ). tree_first_line ++ x) line });
            place = refl;
          })),
        ));
      }),
    ))
