-- What the lines of a tree text add.
use Rattle.std.proofs.Common.{◌≡◌, ◌≢◌, ℕ, ◌+◌, ◌/◌, ◌%◌, Bool, true, false, List, [], ◌∷◌, ◌++◌, Option, Result, Ok, Err, inl, inr, sym, ap, subst, ◌∙◌, append_assoc, arith}
use Rattle.std.specs.Prelude.{IfOk, codes}
use Rattle.std.specs.declared.alloc.AllocError.{AllocError}
use Rattle.std.proofs.lemmas.List.Elements.{All-append, All-cons, All-nil}
use Rattle.fa_bodies.specs.declared.mode.Kind.{Kind}
use Rattle.fa_bodies.specs.declared.mode.Kind.TheVariants.{Fifo, CharDevice, Directory, BlockDevice, Regular, Symlink, Socket}
use Rattle.fa_tree.specs.declared.id.FileId.{FileId}
use Rattle.fa_tree.specs.declared.error.StepError.{StepError}
use Rattle.fa_tree.specs.declared.error.StepError.TheVariants.{Refused, Memory}
use Rattle.fa_tree.specs.Refusals.{IsRefusal}
use Rattle.fa_tree.specs.State.{TreeState, root}
use Rattle.fa_tree.specs.Building.{MayBeAdded, MayBeLinkedTo}
use Rattle.fa_tree_text.specs.Paths.{Path, path_text, name_of, IsAt}
use Rattle.fa_tree_text.specs.TreeLines.{TreeLine, letter, octal, body_text, fields_text, line_text, SpellsBody, AddsFile, AddsName, Adds}
use Rattle.fa_tree_text.specs.TreeLines.TreeLine.{NewFile, FurtherName}
use Rattle.fa_tree_text.specs.TreeText.{LacksAddition}
use Rattle.fa_bodies.specs.Names.{LacksByte}
use Rattle.fa_tree_text.specs.parts.Ways.{Reaches, IsFileAt}
use Rattle.fa_tree_text.specs.parts.Fields.{IsFileLine, IsNameLine, LacksFile, LacksName}
use Rattle.fa_tree_text.specs.parts.Outcomes.{IsFileAdded, IsNameAdded, IsLineAdded}
use Rattle.fa_tree_text.proofs.SplitLemmas.{one_split, no_split}
use Rattle.fa_tree_text.proofs.FieldLemmas.{one_file, one_name, file_or_name}
use Rattle.fa_tree_text.proofs.PathLemmas.{path_no_space, path_no_feed, one_path, at_one, reaches_path, reaches_same}
use Rattle.fa_tree_text.proofs.BodyLemmas.{one_spelled_body, body_no_feed}

-- ---- one addition

-- a refusal by code refuses
pub refusal_refuses : (e : StepError) (told code : ℕ) (Allowed : Type 0) → e ≡ Refused told → IsRefusal e code Allowed → Allowed → ⊥
refusal_refuses e told code Allowed is (inl refused) = refused.1
refusal_refuses e told code Allowed is (inr memory) = let no_code : Refused told ≡ Memory = sym is ∙ memory.0 in absurd cc

-- a path that leads nowhere has no file
pub no_parent_no_file : (old : TreeState) (kind : Kind) (bits : ℕ) (text : List ℕ) (spelled : Option (List ℕ)) → ((parent : FileId) (last : List ℕ) → Reaches old.store root text parent last → ⊥)
    → (p : Path) (other : TreeState) → text ≡ path_text p → AddsFile old other kind bits p spelled → ⊥
no_parent_no_file old kind bits text spelled none p other e adds = none adds.parent (name_of p) (reaches_path old.store text adds.parent p e adds.is_path adds.is_parent)

-- nor a file that may not be added
pub refused_no_file : (old : TreeState) (kind : Kind) (bits : ℕ) (text : List ℕ) (spelled : Option (List ℕ)) (parent : FileId) (last body : List ℕ)
    → Reaches old.store root text parent last → SpellsBody kind spelled body → (MayBeAdded old parent last kind body → ⊥)
    → (p : Path) (other : TreeState) → text ≡ path_text p → AddsFile old other kind bits p spelled → ⊥
refused_no_file old kind bits text spelled parent last body r is refused p other e adds =
    let same = reaches_same old.store text parent adds.parent last p r e adds.is_path adds.is_parent in
    let bodies : adds.body ≡ body = one_spelled_body kind spelled adds.body body adds.is_body is in
    let first : MayBeAdded old parent (name_of p) kind adds.body = subst (λ (f : FileId). MayBeAdded old f (name_of p) kind adds.body) same.0 adds.allowed in
    let second : MayBeAdded old parent last kind adds.body = subst (λ (n : List ℕ). MayBeAdded old parent n kind adds.body) same.1 first in
    refused (subst (MayBeAdded old parent last kind) bodies second)

-- a further name needs a file
pub no_file_no_name : (old : TreeState) (text older : List ℕ) → ((file : FileId) → IsFileAt old.store older file → ⊥)
    → (p q : Path) (other : TreeState) → text ≡ path_text p → older ≡ path_text q → AddsName old other p q → ⊥
no_file_no_name old text older none p q other e also adds = none adds.file (record { path = q; spelled = also; is_path = adds.is_older; is_at = adds.is_file })

-- and a directory
pub no_parent_no_name : (old : TreeState) (text older : List ℕ) → ((parent : FileId) (last : List ℕ) → Reaches old.store root text parent last → ⊥)
    → (p q : Path) (other : TreeState) → text ≡ path_text p → older ≡ path_text q → AddsName old other p q → ⊥
no_parent_no_name old text older none p q other e also adds = none adds.parent (name_of p) (reaches_path old.store text adds.parent p e adds.is_path adds.is_parent)

-- and may be added
pub refused_no_name : (old : TreeState) (text older : List ℕ) (parent file : FileId) (last : List ℕ) → Reaches old.store root text parent last
    → IsFileAt old.store older file → (MayBeLinkedTo old parent last file → ⊥)
    → (p q : Path) (other : TreeState) → text ≡ path_text p → older ≡ path_text q → AddsName old other p q → ⊥
refused_no_name old text older parent file last r found refused p q other e also adds =
    let same = reaches_same old.store text parent adds.parent last p r e adds.is_path adds.is_parent in
    let paths : found.path ≡ q = one_path found.path q found.is_path adds.is_older (sym found.spelled ∙ also) in
    let files : adds.file ≡ file = at_one old.store q adds.file file adds.is_file (subst (IsAt old.store file) paths found.is_at) in
    let first : MayBeLinkedTo old parent (name_of p) adds.file = subst (λ (d : FileId). MayBeLinkedTo old d (name_of p) adds.file) same.0 adds.allowed in
    let second : MayBeLinkedTo old parent last adds.file = subst (λ (n : List ℕ). MayBeLinkedTo old parent n adds.file) same.1 first in
    refused (subst (MayBeLinkedTo old parent last) files second)

-- ---- lines

-- a line that adds a file has its fields
pub file_line_of : (old new : TreeState) (kind : Kind) (bits : ℕ) (p : Path) (body : Option (List ℕ)) (line : List ℕ) → AddsFile old new kind bits p body → line ≡ fields_text (NewFile kind bits p body) → IsFileLine line kind bits (path_text p) body
file_line_of old new kind bits p body line adds e = record { are_bits = adds.are_bits; no_space = path_no_space p adds.is_path; spelled = e }

pub name_line_of : (old new : TreeState) (p q : Path) (line : List ℕ) → AddsName old new p q → line ≡ fields_text (FurtherName p q) → IsNameLine line (path_text p) (path_text q)
name_line_of old new p q line adds e = record { no_space = path_no_space p adds.is_path; spelled = e }

-- no other line than this one
other_file : (old : TreeState) (kind : Kind) (bits : ℕ) (path : List ℕ) (body : Option (List ℕ)) (fields : List ℕ) → IsFileLine fields kind bits path body
    → ((p : Path) (other : TreeState) → path ≡ path_text p → AddsFile old other kind bits p body → ⊥)
    → (line : TreeLine) (other : TreeState) → Adds old other line → fields ≡ fields_text line → ⊥
other_file old kind bits path body fields is none (NewFile k b p o) other adds e =
    let same = one_file fields k kind b bits (path_text p) path o body (file_line_of old other k b p o fields adds e) is in
    let first : AddsFile old other kind b p o = subst (λ (x : Kind). AddsFile old other x b p o) same.kinds adds in
    let second : AddsFile old other kind bits p o = subst (λ (x : ℕ). AddsFile old other kind x p o) same.same_bits first in
    none p other (sym same.paths) (subst (AddsFile old other kind bits p) same.bodies second)
other_file old kind bits path body fields is none (FurtherName p q) other adds e = file_or_name fields kind bits path body (path_text p) (path_text q) is (name_line_of old other p q fields adds e)

other_name : (old : TreeState) (path older : List ℕ) (fields : List ℕ) → IsNameLine fields path older
    → ((p q : Path) (other : TreeState) → path ≡ path_text p → older ≡ path_text q → AddsName old other p q → ⊥)
    → (line : TreeLine) (other : TreeState) → Adds old other line → fields ≡ fields_text line → ⊥
other_name old path older fields is none (NewFile k b p o) other adds e = file_or_name fields k b (path_text p) o path older (file_line_of old other k b p o fields adds e) is
other_name old path older fields is none (FurtherName p q) other adds e =
    let same = one_name fields (path_text p) path (path_text q) older (name_line_of old other p q fields adds e) is in
    none p q other (sym same.0) (sym same.1) adds

pub file_line : (r : Result Bool AllocError) (old new : TreeState) (kind : Kind) (bits : ℕ) (path : List ℕ) (body : Option (List ℕ)) (fields : List ℕ) → IsFileLine fields kind bits path body
    → IfOk r (λ added. IsFileAdded added old new kind bits path body) → IfOk r (λ added. IsLineAdded added old new fields)
file_line (Ok true) old new kind bits path body fields is done =
    (NewFile kind bits done.0 body, done.2, is.spelled ∙ ap (λ (x : List ℕ). letter kind ++ 32 ∷ (octal bits ++ 32 ∷ (x ++ body_text body))) done.1)
file_line (Ok false) old new kind bits path body fields is done = (other_file old kind bits path body fields is done.0, done.1)
file_line (Err e) old new kind bits path body fields is done = tt

pub name_line : (r : Result Bool AllocError) (old new : TreeState) (path older : List ℕ) (fields : List ℕ) → IsNameLine fields path older
    → IfOk r (λ added. IsNameAdded added old new path older) → IfOk r (λ added. IsLineAdded added old new fields)
name_line (Ok true) old new path older fields is done =
    (FurtherName done.0 done.1, done.4, is.spelled ∙ ap (λ (x : List ℕ). codes "h" ++ 32 ∷ (x ++ 32 ∷ older)) done.2 ∙ ap (λ (x : List ℕ). codes "h" ++ 32 ∷ (path_text done.0 ++ 32 ∷ x)) done.3)
name_line (Ok false) old new path older fields is done = (other_name old path older fields is done.0, done.1)
name_line (Err e) old new path older fields is done = tt

-- a line without fields adds nothing
pub no_fields : (old : TreeState) (fields : List ℕ) → LacksFile fields → LacksName fields → (line : TreeLine) (other : TreeState) → Adds old other line → fields ≡ fields_text line → ⊥
no_fields old fields no_file no_name (NewFile k b p o) other adds e = no_file k b (path_text p) o (file_line_of old other k b p o fields adds e)
no_fields old fields no_file no_name (FurtherName p q) other adds e = no_name (path_text p) (path_text q) (name_line_of old other p q fields adds e)

-- ---- line feeds

visible_octal : (bits : ℕ) → LacksByte 10 (octal bits)
visible_octal bits =
    All-cons (λ b. b ≢ 10) (48 + bits / 64) ((48 + bits / 8 % 8) ∷ (48 + bits % 8) ∷ []) (λ e. omega (arith, e))
    (All-cons (λ b. b ≢ 10) (48 + bits / 8 % 8) ((48 + bits % 8) ∷ []) (λ e. omega (arith, e)) (All-cons (λ b. b ≢ 10) (48 + bits % 8) [] (λ e. omega (arith, e)) (All-nil (λ b. b ≢ 10))))

lettered : (kind : Kind) → LacksByte 10 (letter kind)
lettered Directory = All-cons (λ b. b ≢ 10) 100 [] (λ e. omega (arith, e)) (All-nil (λ b. b ≢ 10))
lettered Regular = All-cons (λ b. b ≢ 10) 102 [] (λ e. omega (arith, e)) (All-nil (λ b. b ≢ 10))
lettered Symlink = All-cons (λ b. b ≢ 10) 115 [] (λ e. omega (arith, e)) (All-nil (λ b. b ≢ 10))
lettered Fifo = All-cons (λ b. b ≢ 10) 112 [] (λ e. omega (arith, e)) (All-nil (λ b. b ≢ 10))
lettered CharDevice = All-cons (λ b. b ≢ 10) 99 [] (λ e. omega (arith, e)) (All-nil (λ b. b ≢ 10))
lettered BlockDevice = All-cons (λ b. b ≢ 10) 98 [] (λ e. omega (arith, e)) (All-nil (λ b. b ≢ 10))
lettered Socket = All-cons (λ b. b ≢ 10) 107 [] (λ e. omega (arith, e)) (All-nil (λ b. b ≢ 10))

-- two parts and a space between them
spaced : (x y : List ℕ) → LacksByte 10 x → LacksByte 10 y → LacksByte 10 (x ++ 32 ∷ y)
spaced x y first second = All-append (λ b. b ≢ 10) x (32 ∷ y) first (All-cons (λ b. b ≢ 10) 32 y (λ e. omega (arith, e)) second)

-- no line feed stands in a line that adds something, but for its last byte
pub fields_no_feed : (old new : TreeState) (line : TreeLine) → Adds old new line → LacksByte 10 (fields_text line)
fields_no_feed old new (NewFile kind bits p body) adds =
    spaced (letter kind) (octal bits ++ 32 ∷ (path_text p ++ body_text body)) (lettered kind)
    (spaced (octal bits) (path_text p ++ body_text body) (visible_octal bits)
    (All-append (λ b. b ≢ 10) (path_text p) (body_text body) (path_no_feed p adds.is_path) (body_no_feed kind body adds.body adds.is_body)))
fields_no_feed old new (FurtherName p q) adds =
    spaced (codes "h") (path_text p ++ 32 ∷ path_text q) (All-cons (λ b. b ≢ 10) 104 [] (λ e. omega (arith, e)) (All-nil (λ b. b ≢ 10)))
    (spaced (path_text p) (path_text q) (path_no_feed p adds.is_path) (path_no_feed q adds.is_older))

-- a line and what stands behind it
pub line_on : (line : TreeLine) (x : List ℕ) → line_text line ++ x ≡ fields_text line ++ 10 ∷ x
line_on line x = append_assoc (fields_text line) (10 ∷ []) x

-- the bytes up to the first line feed are no line that adds something
pub no_line : (old : TreeState) (left front rest : List ℕ) → LacksByte 10 front → left ≡ front ++ 10 ∷ rest
    → ((line : TreeLine) (other : TreeState) → Adds old other line → front ≡ fields_text line → ⊥) → LacksAddition old left
no_line old left front rest lacks whole none line new adds after e =
    none line new adds (one_split 10 front (fields_text line) rest after lacks (fields_no_feed old new line adds) (sym whole ∙ e ∙ line_on line after)).0

-- without a line feed there is no line
pub no_line_feed : (old : TreeState) (left : List ℕ) → LacksByte 10 left → LacksAddition old left
no_line_feed old left lacks line new adds after e = no_split 10 left (fields_text line) after lacks (e ∙ line_on line after)
