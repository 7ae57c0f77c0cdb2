-- Tree texts, line by line, and what the loop of the reader keeps.
use Rattle.std.proofs.Common.{◌≡◌, ◌≢◌, ℕ, ◌+◌, ◌<◌, ◌≤◌, List, [], ◌∷◌, ◌++◌, length, get_or, inl, inr, refl, sym, ap, subst, ◌∙◌, append_assoc, arith}
use Rattle.std.specs.List.{flat_map}
use Rattle.std.proofs.lemmas.List.{append-nil, length-append}
use Rattle.std.proofs.lemmas.List.Concat.{flat_map-append}
use Rattle.fa_bodies.specs.declared.mode.Kind.{Kind}
use Rattle.fa_bodies.specs.declared.mode.Kind.TheVariants.{Fifo, CharDevice, Directory, BlockDevice, Regular, Symlink, Socket}
use Rattle.fa_tree.specs.declared.id.FileId.{FileId}
use Rattle.fa_tree.specs.Attributes.{all_bits}
use Rattle.fa_tree.specs.State.{TreeState, root}
use Rattle.fa_tree.specs.Building.{empty_tree, file_of_kind, tree_added, tree_linked}
use Rattle.fa_order.specs.Lines.{end_line, LacksLine}
use Rattle.fa_tree_text.specs.Paths.{path_text, name_of}
use Rattle.fa_tree_text.specs.TreeLines.{TreeLine, letter, octal, body_text, fields_text, line_text, Adds}
use Rattle.fa_tree_text.specs.TreeLines.TreeLine.{NewFile, FurtherName}
use Rattle.fa_tree_text.specs.TreeText.{tree_first_line, root_line, Builds, BeginsTree, IsTreeText, LacksRoot, LacksAddition, IsTreeFault}
use Rattle.fa_tree_text.proofs.SplitLemmas.{one_split}
use Rattle.fa_tree_text.proofs.FieldLemmas.{first_byte, SameFile, one_file, one_name, one_octal, file_or_name}
use Rattle.fa_tree_text.proofs.PathLemmas.{one_path, leads_one, at_one}
use Rattle.fa_tree_text.proofs.BodyLemmas.{one_spelled_body}
use Rattle.fa_tree_text.proofs.AdditionLemmas.{file_line_of, name_line_of, fields_no_feed, line_on}

-- ---- one line

-- lines that may be added are known by their fields
one_fields : (old new other : TreeState) (line l : TreeLine) → Adds old new line → Adds old other l → fields_text line ≡ fields_text l → line ≡ l
one_fields old new other (NewFile kind bits p body) (NewFile k b q o) adds too e =
    let same : SameFile kind bits (path_text p) body k b (path_text q) o =
    one_file (fields_text (NewFile kind bits p body)) kind k bits b (path_text p) (path_text q) body o
    (file_line_of old new kind bits p body (fields_text (NewFile kind bits p body)) adds refl) (file_line_of old other k b q o (fields_text (NewFile kind bits p body)) too e) in
    let paths : p ≡ q = one_path p q adds.is_path too.is_path same.paths in
    let kinds : kind ≡ k = same.kinds in
    let numbers : bits ≡ b = same.same_bits in
    let bodies : body ≡ o = same.bodies in
    cc
one_fields old new other (NewFile kind bits p body) (FurtherName q older) adds too e =
    absurd (file_or_name (fields_text (NewFile kind bits p body)) kind bits (path_text p) body (path_text q) (path_text older)
    (file_line_of old new kind bits p body (fields_text (NewFile kind bits p body)) adds refl) (name_line_of old other q older (fields_text (NewFile kind bits p body)) too e))
one_fields old new other (FurtherName p older) (NewFile k b q o) adds too e =
    absurd (file_or_name (fields_text (NewFile k b q o)) k b (path_text q) o (path_text p) (path_text older)
    (file_line_of old other k b q o (fields_text (NewFile k b q o)) too refl) (name_line_of old new p older (fields_text (NewFile k b q o)) adds (sym e)))
one_fields old new other (FurtherName p older) (FurtherName q o) adds too e =
    let same = one_name (fields_text (FurtherName p older)) (path_text p) (path_text q) (path_text older) (path_text o)
    (name_line_of old new p older (fields_text (FurtherName p older)) adds refl) (name_line_of old other q o (fields_text (FurtherName p older)) too e) in
    let first : p ≡ q = one_path p q adds.is_path too.is_path same.0 in
    let second : older ≡ o = one_path older o adds.is_older too.is_older same.1 in
    cc

-- and by the bytes that they begin
one_tree_line : (old new other : TreeState) (line l : TreeLine) (x y : List ℕ) → Adds old new line → Adds old other l → line_text line ++ x ≡ line_text l ++ y → (line ≡ l) × (x ≡ y)
one_tree_line old new other line l x y adds too e =
    let parts = one_split 10 (fields_text line) (fields_text l) x y (fields_no_feed old new line adds) (fields_no_feed old other l too) (sym (line_on line x) ∙ e ∙ line_on l y) in
    (one_fields old new other line l adds too parts.0, parts.1)

-- a line leads to one tree
one_addition : (old new other : TreeState) (line : TreeLine) → Adds old new line → Adds old other line → new ≡ other
one_addition old new other (NewFile kind bits p body) adds too =
    let parents : adds.parent ≡ too.parent = leads_one old.store root p.directories adds.parent too.parent adds.is_parent too.is_parent in
    let bodies : adds.body ≡ too.body = one_spelled_body kind body adds.body too.body adds.is_body too.is_body in
    adds.added ∙ ap (λ (f : FileId). tree_added old f (name_of p) (file_of_kind kind bits adds.body)) parents
    ∙ ap (λ (b : List ℕ). tree_added old too.parent (name_of p) (file_of_kind kind bits b)) bodies ∙ sym too.added
one_addition old new other (FurtherName p older) adds too =
    let parents : adds.parent ≡ too.parent = leads_one old.store root p.directories adds.parent too.parent adds.is_parent too.is_parent in
    let files : adds.file ≡ too.file = at_one old.store older adds.file too.file adds.is_file too.is_file in
    adds.added ∙ ap (λ (f : FileId). tree_linked old f (name_of p) adds.file) parents ∙ ap (tree_linked old too.parent (name_of p)) files ∙ sym too.added

-- ---- the last line

-- no line begins as the last does
no_end_letter : (kind : Kind) → get_or (letter kind) 0 0 ≡ 101 → ⊥
no_end_letter Directory e = omega (arith, e)
no_end_letter Regular e = omega (arith, e)
no_end_letter Symlink e = omega (arith, e)
no_end_letter Fifo e = omega (arith, e)
no_end_letter CharDevice e = omega (arith, e)
no_end_letter BlockDevice e = omega (arith, e)
no_end_letter Socket e = omega (arith, e)

not_end : (line : TreeLine) (x y : List ℕ) → end_line ++ x ≡ fields_text line ++ y → ⊥
not_end (NewFile kind bits p body) x y e =
    no_end_letter kind
    (sym (first_byte kind ((32 ∷ (octal bits ++ 32 ∷ (path_text p ++ body_text body))) ++ y)) ∙ ap (λ (l : List ℕ). get_or l 0 0) (sym (append_assoc (letter kind) (32 ∷ (octal bits ++ 32 ∷ (path_text p ++ body_text body))) y) ∙ sym e))
not_end (FurtherName p older) x y e = let first : 101 ≡ 104 = ap (λ (l : List ℕ). get_or l 0 0) e in omega (arith, first)

pub end_adds_nothing : (tree : TreeState) (x : List ℕ) → LacksAddition tree (end_line ++ x)
end_adds_nothing tree x line new adds after e = not_end line x (10 ∷ after) (e ∙ line_on line after)

-- ---- lists of lines

-- lines at the front of the same bytes, up to what adds nothing more
same_lines : (old tree other : TreeState) (lines ls : List TreeLine) (x y : List ℕ) → Builds old tree lines → Builds old other ls → LacksAddition tree x → LacksAddition other y
    → flat_map line_text lines ++ x ≡ flat_map line_text ls ++ y → (lines ≡ ls) × (tree ≡ other) × (x ≡ y)
same_lines old tree other [] [] x y built too ends others e = (refl, built ∙ sym too, e)
same_lines old tree other [] (l ∷ ls) x y built too ends others e =
    absurd (subst (λ (t : TreeState). LacksAddition t x) built ends l too.0 too.1 (flat_map line_text ls ++ y) (e ∙ append_assoc (line_text l) (flat_map line_text ls) y))
same_lines old tree other (line ∷ lines) [] x y built too ends others e =
    absurd (subst (λ (t : TreeState). LacksAddition t y) too others line built.0 built.1 (flat_map line_text lines ++ x) (sym e ∙ append_assoc (line_text line) (flat_map line_text lines) x))
same_lines old tree other (line ∷ lines) (l ∷ ls) x y built too ends others e =
    let first = one_tree_line old built.0 too.0 line l (flat_map line_text lines ++ x) (flat_map line_text ls ++ y) built.1 too.1
    (sym (append_assoc (line_text line) (flat_map line_text lines) x) ∙ e ∙ append_assoc (line_text l) (flat_map line_text ls) y) in
    let next : built.0 ≡ too.0 = one_addition old built.0 too.0 l (subst (Adds old built.0) first.0 built.1) too.1 in
    let rest = same_lines too.0 tree other lines ls x y (subst (λ (t : TreeState). Builds t tree lines) next built.2) too.2 ends others first.1 in
    let here : line ≡ l = first.0 in
    let there : lines ≡ ls = rest.0 in
    (cc, rest.1, rest.2)

-- a text begins with one tree, up to what adds nothing more
pub record SameTree (lines : List TreeLine) (tree : TreeState) (x : List ℕ) (ls : List TreeLine) (other : TreeState) (y : List ℕ) : Type 0 where
  pub same : lines ≡ ls
  pub trees : tree ≡ other
  pub rests : x ≡ y

pub one_beginning : (bytes : List ℕ) (bits b : ℕ) (lines ls : List TreeLine) (tree other : TreeState) (x y : List ℕ) → BeginsTree bytes bits lines tree x → BeginsTree bytes b ls other y
    → LacksAddition tree x → LacksAddition other y → SameTree lines tree x ls other y
one_beginning bytes bits b lines ls tree other x y p q ends others =
    let whole : tree_first_line ++ (root_line bits ++ (flat_map line_text lines ++ x)) ≡ tree_first_line ++ (root_line b ++ (flat_map line_text ls ++ y)) = sym p.spelled ∙ q.spelled in
    let digits : octal bits ++ 10 ∷ (flat_map line_text lines ++ x) ≡ octal b ++ 10 ∷ (flat_map line_text ls ++ y) = cc in
    let parts = one_octal bits b (10 ∷ (flat_map line_text lines ++ x)) (10 ∷ (flat_map line_text ls ++ y)) p.are_bits q.are_bits digits in
    let fed : 10 ∷ (flat_map line_text lines ++ x) ≡ 10 ∷ (flat_map line_text ls ++ y) = parts.1 in
    let later : flat_map line_text lines ++ x ≡ flat_map line_text ls ++ y = cc in
    let same = same_lines (empty_tree b) tree other lines ls x y (subst (λ (n : ℕ). Builds (empty_tree n) tree lines) parts.0 p.built) q.built ends others later in
    record { same = same.0; trees = same.1; rests = same.2 }

-- ---- one line more

builds_more : (old tree new : TreeState) (lines : List TreeLine) (line : TreeLine) → Builds old tree lines → Adds tree new line → Builds old new (lines ++ line ∷ [])
builds_more old tree new [] line built adds = (new, subst (λ (t : TreeState). Adds t new line) built adds, refl)
builds_more old tree new (l ∷ lines) line built adds = (built.0, built.1, builds_more built.0 tree new lines line built.2 adds)

lines_more : (lines : List TreeLine) (line : TreeLine) (rest : List ℕ) → flat_map line_text lines ++ (line_text line ++ rest) ≡ flat_map line_text (lines ++ line ∷ []) ++ rest
lines_more lines line rest =
    let whole : flat_map line_text (lines ++ line ∷ []) ≡ flat_map line_text lines ++ line_text line = flat_map-append line_text lines (line ∷ []) ∙ ap (λ (x : List ℕ). flat_map line_text lines ++ x) (append-nil (line_text line)) in
    sym (append_assoc (flat_map line_text lines) (line_text line) rest) ∙ ap (λ (x : List ℕ). x ++ rest) (sym whole)

pub begins_more : (bytes left rest : List ℕ) (bits : ℕ) (lines : List TreeLine) (tree new : TreeState) (line : TreeLine) → BeginsTree bytes bits lines tree left → Adds tree new line → left ≡ line_text line ++ rest → BeginsTree bytes bits (lines ++ line ∷ []) new rest
begins_more bytes left rest bits lines tree new line begins adds e = record {
  are_bits = begins.are_bits;
  built = builds_more (empty_tree bits) tree new lines line begins.built adds;
  spelled = begins.spelled ∙ ap (λ (x : List ℕ). tree_first_line ++ (root_line bits ++ x)) (ap (λ (x : List ℕ). flat_map line_text lines ++ x) e ∙ lines_more lines line rest);
}

-- a line has a byte at least
pub line_some : (line : TreeLine) (rest : List ℕ) → length rest < length (line_text line ++ rest)
line_some line rest =
    let sum : length (line_text line ++ rest) ≡ length (line_text line) + length rest = length-append (line_text line) rest in
    let feed : length (line_text line) ≡ length (fields_text line) + 1 = length-append (fields_text line) (10 ∷ []) in
    omega arith

-- ---- the reader

-- what the loop of the reader keeps: these lines were added, and the next has this number
pub record IsTreeSoFar (bytes : List ℕ) (bits : ℕ) (tree : TreeState) (left : List ℕ) (line : ℕ) : Type 0 where
  pub lines : List TreeLine
  pub begins : BeginsTree bytes bits lines tree left
  pub place : line ≡ length lines + 3

-- before the first line
pub begins_first : (bytes behind left : List ℕ) (bits : ℕ) (tree : TreeState) → bytes ≡ tree_first_line ++ behind → behind ≡ root_line bits ++ left → bits ≤ all_bits → tree ≡ empty_tree bits → BeginsTree bytes bits [] tree left
begins_first bytes behind left bits tree first line fits empty = record { are_bits = fits; built = empty; spelled = first ∙ ap (λ (x : List ℕ). tree_first_line ++ x) line }

-- what stands behind the root's line is no longer than all
pub left_within : (bytes behind left : List ℕ) (bits : ℕ) → bytes ≡ tree_first_line ++ behind → behind ≡ root_line bits ++ left → length left ≤ length bytes
left_within bytes behind left bits first line =
    let all : length bytes ≡ length tree_first_line + length behind = ap length first ∙ length-append tree_first_line behind in
    let rest : length behind ≡ length (root_line bits) + length left = ap length line ∙ length-append (root_line bits) left in
    omega arith

pub so_far_first : (bytes left : List ℕ) (bits : ℕ) (tree : TreeState) → BeginsTree bytes bits [] tree left → IsTreeSoFar bytes bits tree left 3
so_far_first bytes left bits tree begins = record { lines = []; begins = begins; place = refl }

pub so_far_more : (bytes left rest : List ℕ) (bits number : ℕ) (tree new : TreeState) → IsTreeSoFar bytes bits tree left number → ((line : TreeLine) × Adds tree new line × (left ≡ line_text line ++ rest)) → IsTreeSoFar bytes bits new rest (number + 1)
so_far_more bytes left rest bits number tree new so_far added = record {
  lines = so_far.lines ++ added.0 ∷ [];
  begins = begins_more bytes left rest bits so_far.lines tree new added.0 so_far.begins added.1 added.2;
  place = (let more : length (so_far.lines ++ added.0 ∷ []) ≡ length so_far.lines + 1 = length-append so_far.lines (added.0 ∷ []) in let before : number ≡ length so_far.lines + 3 = so_far.place in omega arith);
}

-- a line that was added leaves fewer bytes
pub fewer_left : (left rest : List ℕ) (tree new : TreeState) → ((line : TreeLine) × Adds tree new line × (left ≡ line_text line ++ rest)) → length rest < length left
fewer_left left rest tree new added = subst (λ (bytes : List ℕ). length rest < length bytes) (sym added.2) (line_some added.0 rest)

-- the tree is as it was where nothing more was added
begins_same : (bytes left : List ℕ) (bits number : ℕ) (tree new : TreeState) → new ≡ tree → IsTreeSoFar bytes bits tree left number → IsTreeSoFar bytes bits new left number
begins_same bytes left bits number tree new same so_far = subst (λ (t : TreeState). IsTreeSoFar bytes bits t left number) (sym same) so_far

nothing : (rest : List ℕ) → length rest < 1 → rest ≡ []
nothing [] few = refl
nothing (b ∷ rest) few = absurd (omega (arith, few))

pub text_read : (bytes left rest : List ℕ) (bits number : ℕ) (tree new : TreeState) → new ≡ tree → IsTreeSoFar bytes bits tree left number → left ≡ end_line ++ rest → length rest < 1 → IsTreeText bytes new
text_read bytes left rest bits number tree new same so_far ended few =
    let kept : IsTreeSoFar bytes bits new left number = begins_same bytes left bits number tree new same so_far in
    let last : left ≡ end_line = ended ∙ ap (λ (x : List ℕ). end_line ++ x) (nothing rest few) ∙ append-nil end_line in
    record { bits = bits; lines = kept.lines; text = subst (BeginsTree bytes bits kept.lines new) last kept.begins }

pub tree_fault_next : (bytes left : List ℕ) (bits number : ℕ) (tree : TreeState) → IsTreeSoFar bytes bits tree left number → LacksAddition tree left → LacksLine left end_line → IsTreeFault bytes number
tree_fault_next bytes left bits number tree so_far no_addition no_end =
    inr (inr (inl (record { bits = bits; lines = so_far.lines; tree = tree; rest = left; begins = so_far.begins; no_addition = no_addition; no_end = no_end; place = so_far.place })))

pub tree_fault_on : (bytes left rest : List ℕ) (bits number : ℕ) (tree : TreeState) → IsTreeSoFar bytes bits tree left number → left ≡ end_line ++ rest → rest ≢ [] → IsTreeFault bytes (number + 1)
tree_fault_on bytes left rest bits number tree so_far ended some =
    inr (inr (inr (record { bits = bits; lines = so_far.lines; tree = tree; rest = rest; begins = subst (BeginsTree bytes bits so_far.lines tree) ended so_far.begins; some = some; place = (let before : number ≡ length so_far.lines + 3 = so_far.place in omega arith) })))

pub tree_fault_root : (bytes rest : List ℕ) → bytes ≡ tree_first_line ++ rest → LacksRoot rest → IsTreeFault bytes 2
tree_fault_root bytes rest first no_root = inr (inl (record { rest = rest; spelled = first; no_root = no_root; place = refl }))
