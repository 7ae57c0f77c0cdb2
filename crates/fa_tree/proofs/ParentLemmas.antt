-- The parents of directories are noted still, and nothing else, as names come and go.
use Rattle.std.proofs.Common.{◌≡◌, ◌≢◌, ◌⊎◌, ℕ, Bool, true, false, cond, if◌then◌else◌, List, [], ◌∷◌, Option, None, Some, Result, Ok, Err, inl, inr, refl, sym, ap, subst, ◌∙◌}
use Rattle.std.specs.Prelude.{option_map, IfSome, IfNone, OnOk, OnErr}
use Rattle.std.specs.FinMap.{FinMap, get, insert, remove, get-empty}
use Rattle.fa_bodies.specs.declared.mode.Kind.{Kind}
use Rattle.fa_bodies.specs.declared.mode.Kind.TheVariants.{Fifo, CharDevice, Directory, BlockDevice, Regular, Symlink, Socket}
use Rattle.fa_tree.specs.declared.id.FileId.{FileId}
use Rattle.fa_tree.specs.declared.parents.Parent.{Parent}
use Rattle.fa_tree.specs.State.{File, Store, Place, place_cmp, file_cmp, file_eq, HasName, IsFree, IsDirectory, IsParent}
use Rattle.fa_tree.specs.Building.{empty_tree}
use Rattle.fa_tree.specs.Edits.{names_after}
use Rattle.fa_tree.specs.Edits.Edit.{Added, Removed}
use Rattle.fa_tree.specs.Removing.{MayBeUnlinked}
use Rattle.fa_tree.specs.Renaming.{moved, exchanged}
use Rattle.fa_tree.specs.Rules.{with_file}
use Rattle.fa_tree.specs.Shape.{IsTree}
use Rattle.fa_tree.specs.parts.FileIdLaws.{same_file, file_self, other_file, tested_apart}
use Rattle.fa_tree.specs.parts.ParentParts.{AreParentsNoted, AreNotesParents}
use Rattle.fa_tree.specs.parts.NameParts.{NamesShown, edited, opened_by}
use Rattle.fa_tree.specs.parts.StoredParts.{StoredShown, IsMadeOrNext}
use Rattle.fa_tree.proofs.PlaceOrderLemmas.{name_left, name_goes_first, added_here, added_elsewhere, removed_elsewhere}
use Rattle.fa_tree.proofs.ShapeLemmas.{Stay, put_here, put_stay, with_stay, was_of_kind, none_of_kind, no_name_yet, parent_then, without, with_name}

abbrev Notes : Type 0
Notes = FileId → Option FileId

-- ---- what is noted changes

-- what is noted for one file alone is changed
abbrev pub AreOthers : FileId → (old new : Notes) → Type 0
AreOthers file old new = (of : FileId) → of ≢ file → new of ≡ old of

pub others_of : (file : FileId) (w : Option FileId) (old new : Notes) → ((of : FileId) → new of ≡ cond (file_eq of file) w (old of)) → AreOthers file old new
others_of file w old new wrote of apart = wrote of ∙ ap (λ b. cond b w (old of)) (tested_apart of file apart)

own_of : (file : FileId) (w : Option FileId) (old new : Notes) → ((of : FileId) → new of ≡ cond (file_eq of file) w (old of)) → new file ≡ w
own_of file w old new wrote = wrote file ∙ ap (λ b. cond b w (old file)) (file_self file)

-- it is of no matter for a file that is no directory with a name
pub others_noted : (s : Store) (file : FileId) (old new : Notes) → (IsDirectory s file → (directory : FileId) → IsParent s directory file → ⊥) → AreOthers file old new
    → AreParentsNoted s old → AreParentsNoted s new
others_noted s file old new unnamed others noted of directory kind is =
    others of (λ same. unnamed (subst (IsDirectory s) same kind) directory (subst (IsParent s directory) same is)) ∙ noted of directory kind is

-- ---- files change

-- where files stay, parents are noted still
pub files_keep_parents : (s : Store) (files : FinMap file_cmp File) (noted : Notes) → Stay s.files files → IsTree s → AreParentsNoted s noted
    → AreParentsNoted (record { names = s.names; files = files }) noted
files_keep_parents s files noted stay tree are of directory kind is =
    let was = tree.there directory is.0 of is.1 in
    are of directory (was_of_kind s.files files stay of Directory was.0 was.1 kind) is

-- of a root alone there is none
pub no_parents : (bits : ℕ) (noted : Notes) → AreParentsNoted (empty_tree bits).store noted
no_parents bits noted of directory kind is =
    absurd (let free : get (empty_tree bits).store.names (directory, is.0) ≡ None = get-empty _ (directory, is.0) in let clash : None ≡ Some of = sym free ∙ is.1 in cc)

-- ---- a name goes

pub without_parents : (s : Store) (place : Place) (noted : Notes) → AreParentsNoted s noted → AreParentsNoted (without s place) noted
without_parents s place noted are of directory kind is = are of directory kind (is.0, (name_left s.names place (directory, is.0) of is.1).1)

-- a directory has no name once its name went
pub unnamed_without : (s : Store) (place : Place) (file : FileId) → IsTree s → get s.names place ≡ Some file
    → IsDirectory s file → (directory : FileId) → IsParent (without s place) directory file → ⊥
unnamed_without s place file tree there kind directory is =
    let left = name_left s.names place (directory, is.0) file is.1 in
    let same = tree.one_name directory place.0 is.0 place.1 file left.1 there kind in
    left.0 (λ i. (same.0 i, same.1 i))

-- what is noted for the file of the name goes too
pub gone_parents : (s : Store) (place : Place) (file : FileId) (old new : Notes) → IsTree s → get s.names place ≡ Some file
    → ((of : FileId) → new of ≡ cond (file_eq of file) None (old of)) → AreParentsNoted s old → AreParentsNoted (without s place) new
gone_parents s place file old new tree there wrote are =
    others_noted (without s place) file old new (unnamed_without s place file tree there) (others_of file None old new wrote) (without_parents s place old are)

-- ---- a name comes

-- for a file for which its directory is noted, if it is one
pub with_parents : (s : Store) (directory : FileId) (name : List ℕ) (file : FileId) (noted : Notes) → (IsDirectory s file → noted file ≡ Some directory)
    → AreParentsNoted s noted → AreParentsNoted (with_name s directory name file) noted
with_parents s directory name file noted own are of parent kind is =
    elim (parent_then s directory name file parent of is) [
      | inl new ↦ ap noted new.1 ∙ own (subst (IsDirectory s) new.1 kind) ∙ ap (λ p. Some p) (sym new.0)
      | inr old ↦ are of parent kind old
    ]

-- a file comes, and is noted if it is a directory
pub made_parents : (s : Store) (id directory : FileId) (name : List ℕ) (file : File) (old new : Notes) → IsTree s → get s.files id ≡ None → IsMadeOrNext s.files id
    → (file.kind ≡ Directory → new id ≡ Some directory) → AreOthers id old new → AreParentsNoted s old
    → AreParentsNoted (record { names = insert s.names (directory, name) id; files = insert s.files id file }) new
made_parents s id directory name file old new tree none comes own others are =
    let grown : Store = record { names = s.names; files = insert s.files id file } in
    with_parents grown directory name id new
    (λ kind. own (let one : Some kind.0 ≡ Some file = sym kind.1 ∙ put_here s.files id file in let same : kind.0 ≡ file = cc in ap (λ (f : File). f.kind) (sym same) ∙ kind.2))
    (others_noted grown id old new (λ kind parent is. no_name_yet s id tree none parent is.0 is.1) others
    (files_keep_parents s (insert s.files id file) old (put_stay s.files id file none comes) tree are))

-- one that is not there has no name
pub refused_parents : (s : Store) (id : FileId) (old new : Notes) → get s.files id ≡ None → AreOthers id old new → AreParentsNoted s old → AreParentsNoted s new
refused_parents s id old new none others = others_noted s id old new (λ kind directory is. none_of_kind s id Directory none kind) others

-- ---- RENAME

-- what is noted for a file of this name goes, if there is one
abbrev pub AreGone : Option FileId → (old new : Notes) → Type 0
AreGone None old new = (of : FileId) → new of ≡ old of
AreGone (Some other) old new = (of : FileId) → new of ≡ cond (file_eq of other) None (old of)

-- another directory is noted for a file
abbrev pub IsSet : (file directory : FileId) → (old new : Notes) → Type 0
IsSet file directory old new = (of : FileId) → new of ≡ cond (file_eq of file) (option_map (λ _. directory) (old file)) (old of)

set_others : (file directory : FileId) (old new : Notes) → IsSet file directory old new → AreOthers file old new
set_others file directory old new set = others_of file (option_map (λ _. directory) (old file)) old new set

-- where one was noted the other is
set_own : (file directory was : FileId) (old new : Notes) → IsSet file directory old new → old file ≡ Some was → new file ≡ Some directory
set_own file directory was old new set noted =
    own_of file (option_map (λ _. directory) (old file)) old new set ∙ ap (option_map (λ _. directory)) noted

module _ (s : Store) (old_directory : FileId) (old_name : List ℕ) (new_directory : FileId) (new_name : List ℕ) (file : FileId) (tree : IsTree s)
    (there : HasName s old_directory old_name file) (old between new : Notes) (are : AreParentsNoted s old) (set : IsSet file new_directory between new) where
  abbrev left : Store
  left = without s (old_directory, old_name)

  -- the file that moves is noted in its new directory
  moved_own : between file ≡ old file → IsDirectory s file → new file ≡ Some new_directory
  moved_own kept kind = set_own file new_directory old_directory between new set (kept ∙ are file old_directory kind (old_name, there))

  -- over the name of another
  moved_over : (other : FileId) → get s.names (new_directory, new_name) ≡ Some other → file ≢ other → AreGone (Some other) old between
      → AreParentsNoted (with_name (without left (new_directory, new_name)) new_directory new_name file) new
  moved_over other is apart gone =
      with_parents last new_directory new_name file new (moved_own (others file apart))
      (others_noted last file between new (λ kind d has. unnamed_without s (old_directory, old_name) file tree there kind d (has.0, (before d has.0 file has.1).1))
      (set_others file new_directory between new set)
      (others_noted last other old between unnamed others
      (without_parents left (new_directory, new_name) old (without_parents s (old_directory, old_name) old are))))
    where
      last : Store
      last = without left (new_directory, new_name)

      others : AreOthers other old between
      others = others_of other None old between gone

      before : (d : FileId) (name : List ℕ) (f : FileId) → HasName last d name f → ◌≢◌ {A = Place} (d, name) (new_directory, new_name) × HasName left d name f
      before d name f has = name_left left.names (new_directory, new_name) (d, name) f has

      unnamed : IsDirectory s other → (d : FileId) → IsParent last d other → ⊥
      unnamed kind d has =
          let one = before d has.0 other has.1 in
          let same = tree.one_name d new_directory has.0 new_name other (name_left s.names (old_directory, old_name) (d, has.0) other one.1).1 is kind in
          one.0 (λ i. (same.0 i, same.1 i))

  pub moved_parents : (found : Option FileId) → get s.names (new_directory, new_name) ≡ found → found ≢ Some file → AreGone found old between
      → AreParentsNoted (record { names = names_after (moved old_directory old_name new_directory new_name file found) s.names; files = s.files }) new
  moved_parents None is apart gone =
      with_parents left new_directory new_name file new (moved_own (gone file))
      (others_noted left file between new (unnamed_without s (old_directory, old_name) file tree there) (set_others file new_directory between new set)
      (λ of d kind has. gone of ∙ without_parents s (old_directory, old_name) old are of d kind has))
  moved_parents (Some other) is apart gone = by (file_eq other file) refl
    where
      by : (b : Bool) → file_eq other file ≡ b
          → AreParentsNoted (record { names = names_after (if b then [] else Removed old_directory old_name ∷ Removed new_directory new_name ∷ Added new_directory new_name file ∷ []) s.names; files = s.files }) new
      by true test = absurd (apart (ap (λ f. Some f) (same_file other file test)))
      by false test = moved_over other is (λ same. other_file other file test (sym same)) gone

-- ---- an exchange

module _ (s : Store) (old_directory : FileId) (old_name : List ℕ) (new_directory : FileId) (new_name : List ℕ) (file other : FileId) (tree : IsTree s)
    (there : HasName s old_directory old_name file) (also : HasName s new_directory new_name other) (old between new : Notes) (are : AreParentsNoted s old)
    (first : IsSet file new_directory old between) (second : IsSet other old_directory between new) where
  -- where both are one file it has its directory
  one_file : other ≡ file → AreParentsNoted s new
  one_file one of directory kind is = by (file_eq of other) refl
    where
      by : (b : Bool) → file_eq of other ≡ b → new of ≡ Some directory
      by true test =
          let own : of ≡ file = same_file of other test ∙ one in
          let at : HasName s directory is.0 file = is.1 ∙ ap (λ f. Some f) own in
          let kind_of : IsDirectory s file = subst (IsDirectory s) own kind in
          let was : between other ≡ Some new_directory = ap between one ∙ set_own file new_directory old_directory old between first (are file old_directory kind_of (old_name, there)) in
          ap new (same_file of other test) ∙ set_own other old_directory new_directory between new second was
          ∙ ap (λ d. Some d) (tree.one_name old_directory directory old_name is.0 file there at kind_of).0
      by false test =
          let apart = other_file of other test in
          set_others other old_directory between new second of apart
          ∙ set_others file new_directory old between first of (λ same. apart (same ∙ sym one))
          ∙ are of directory kind is

  abbrev neither : Store
  neither = without (without s (old_directory, old_name)) (new_directory, new_name)

  two_files : other ≢ file → AreParentsNoted (with_name (with_name neither old_directory old_name other) new_directory new_name file) new
  two_files apart =
      with_parents (with_name neither old_directory old_name other) new_directory new_name file new own_file
      (with_parents neither old_directory old_name other new own_other
      (others_noted neither other between new unnamed_other (set_others other old_directory between new second)
      (others_noted neither file old between unnamed_file (set_others file new_directory old between first)
      (without_parents (without s (old_directory, old_name)) (new_directory, new_name) old (without_parents s (old_directory, old_name) old are)))))
    where
      own_file : IsDirectory s file → new file ≡ Some new_directory
      own_file kind =
          set_others other old_directory between new second file (λ same. apart (sym same))
          ∙ set_own file new_directory old_directory old between first (are file old_directory kind (old_name, there))

      own_other : IsDirectory s other → new other ≡ Some old_directory
      own_other kind =
          set_own other old_directory new_directory between new second
          (set_others file new_directory old between first other apart ∙ are other new_directory kind (new_name, also))

      unnamed_file : IsDirectory s file → (d : FileId) → IsParent neither d file → ⊥
      unnamed_file kind d has =
          unnamed_without s (old_directory, old_name) file tree there kind d
          (has.0, (name_left (without s (old_directory, old_name)).names (new_directory, new_name) (d, has.0) file has.1).1)

      unnamed_other : IsDirectory s other → (d : FileId) → IsParent neither d other → ⊥
      unnamed_other kind d has =
          let one = name_left (without s (old_directory, old_name)).names (new_directory, new_name) (d, has.0) other has.1 in
          let same = tree.one_name d new_directory has.0 new_name other (name_left s.names (old_directory, old_name) (d, has.0) other one.1).1 also kind in
          one.0 (λ i. (same.0 i, same.1 i))

  pub exchanged_parents : AreParentsNoted (record { names = names_after (exchanged old_directory old_name new_directory new_name file other) s.names; files = s.files }) new
  exchanged_parents = by (file_eq other file) refl
    where
      by : (b : Bool) → file_eq other file ≡ b
          → AreParentsNoted (record { names = names_after (if b then [] else Removed old_directory old_name ∷ Added old_directory old_name other ∷ Removed new_directory new_name ∷ Added new_directory new_name file ∷ []) s.names; files = s.files }) new
      by true test = one_file (same_file other file test)
      by false test =
          let apart : other ≢ file = other_file other file test in
          let places : ◌≢◌ {A = Place} (old_directory, old_name) (new_directory, new_name) =
          λ same. (let one : Some file ≡ Some other = sym there ∙ ap (get s.names) same ∙ also in let is : other ≡ file = cc in apart is) in
          subst (λ names. AreParentsNoted (record { names = insert names (new_directory, new_name) file; files = s.files }) new)
          (sym (name_goes_first (remove s.names (old_directory, old_name)) (old_directory, old_name) (new_directory, new_name) other places)) (two_files apart)

-- ---- what is noted is so

-- what is noted with fewer notes was noted before
less_noted : (s : Store) (old new : Notes) → ((of directory : FileId) → new of ≡ Some directory → old of ≡ Some directory) → AreNotesParents s old → AreNotesParents s new
less_noted s old new fewer are of directory is = are of directory (fewer of directory is)

-- where the note of a file went, what is noted is of another, and was noted before
note_left : (file : FileId) (old new : Notes) → ((of : FileId) → new of ≡ cond (file_eq of file) None (old of))
    → (of directory : FileId) → new of ≡ Some directory → (of ≢ file) × (old of ≡ Some directory)
note_left file old new wrote of directory is = by (file_eq of file) refl (sym (wrote of) ∙ is)
  where
    by : (b : Bool) → file_eq of file ≡ b → cond b None (old of) ≡ Some directory → (of ≢ file) × (old of ≡ Some directory)
    by true test clash = absurd cc
    by false test before = (other_file of file test, before)

-- where another directory was noted for a file, what is noted is this, or is of another and was noted before
note_set : (file directory : FileId) (old new : Notes) → IsSet file directory old new → (of d : FileId) → new of ≡ Some d
    → ((of ≡ file) × (d ≡ directory) × ((was : FileId) × (old file ≡ Some was))) ⊎ ((of ≢ file) × (old of ≡ Some d))
note_set file directory old new set of d is = by (file_eq of file) refl (old file) refl (sym (set of) ∙ is)
  where
    by : (b : Bool) → file_eq of file ≡ b → (o : Option FileId) → old file ≡ o → cond b (option_map (λ _. directory) o) (old of) ≡ Some d
        → ((of ≡ file) × (d ≡ directory) × ((was : FileId) × (old file ≡ Some was))) ⊎ ((of ≢ file) × (old of ≡ Some d))
    by true test None there at = absurd cc
    by true test (Some was) there at = inl (same_file of file test, (let one : Some directory ≡ Some d = at in cc), (was, there))
    by false test o there at = inr (other_file of file test, at)

-- without a note
pub no_notes : (s : Store) (noted : Notes) → ((of : FileId) → noted of ≡ None) → AreNotesParents s noted
no_notes s noted none of directory is = let clash : None ≡ Some directory = sym (none of) ∙ is in absurd cc

-- where files stay
files_keep_notes : (s : Store) (files : FinMap file_cmp File) (noted : Notes) → Stay s.files files → AreNotesParents s noted → AreNotesParents (record { names = s.names; files = files }) noted
files_keep_notes s files noted stay are of directory is =
    let was = are of directory is in
    (stay.kinds of Directory was.0, was.1)

-- a name goes for which nothing is noted
pub without_notes : (s : Store) (place : Place) (noted : Notes) → ((file directory : FileId) → get s.names place ≡ Some file → noted file ≡ Some directory → ⊥)
    → AreNotesParents s noted → AreNotesParents (without s place) noted
without_notes s place noted none are of directory is =
    let was = are of directory is in
    (was.0, (was.1.0, removed_elsewhere s.names place (directory, was.1.0) (λ same. none of directory (sym (ap (get s.names) same) ∙ was.1.1) is) ∙ was.1.1))

-- and one for which it goes too
pub gone_notes : (s : Store) (place : Place) (file : FileId) (old new : Notes) → get s.names place ≡ Some file
    → ((of : FileId) → new of ≡ cond (file_eq of file) None (old of)) → AreNotesParents s old → AreNotesParents (without s place) new
gone_notes s place file old new there wrote are =
    without_notes s place new
    (λ of directory at is. (note_left file old new wrote of directory is).0 (let one : Some of ≡ Some file = sym at ∙ there in cc))
    (less_noted s old new (λ of directory is. (note_left file old new wrote of directory is).1) are)

-- the name of what is no directory goes
pub unlinked_notes : (s : Store) (directory : FileId) (name : List ℕ) (noted : Notes) → MayBeUnlinked s directory name → AreNotesParents s noted
    → AreNotesParents (without s (directory, name)) noted
unlinked_notes s directory name noted may are =
    without_notes s (directory, name) noted
    (λ file d at is. may.1.2 (let one : Some file ≡ Some may.1.0 = sym at ∙ may.1.1 in let same : file ≡ may.1.0 = cc in subst (IsDirectory s) same (are file d is).0)) are

-- a name comes where none was
with_notes : (s : Store) (directory : FileId) (name : List ℕ) (file : FileId) (noted : Notes) → IsFree s directory name
    → AreNotesParents s noted → AreNotesParents (with_name s directory name file) noted
with_notes s directory name file noted free are of d is =
    let was = are of d is in (
      was.0,
      (
        was.1.0,
        added_elsewhere s.names (directory, name) (d, was.1.0) file
            (λ same. let clash : None ≡ Some of = sym free ∙ sym (ap (get s.names) same) ∙ was.1.1 in absurd cc) ∙ was.1.1,
      ),
    )

-- a type is that of directories or another
directory_or_not : (kind : Kind) → (kind ≡ Directory) ⊎ (kind ≢ Directory)
directory_or_not Directory = inl refl
directory_or_not Fifo = inr (λ same. cc)
directory_or_not CharDevice = inr (λ same. cc)
directory_or_not BlockDevice = inr (λ same. cc)
directory_or_not Regular = inr (λ same. cc)
directory_or_not Symlink = inr (λ same. cc)
directory_or_not Socket = inr (λ same. cc)

-- a file comes, and is noted if it is a directory
pub made_notes : (s : Store) (id directory : FileId) (name : List ℕ) (file : File) (old new : Notes) → get s.files id ≡ None → IsMadeOrNext s.files id → IsFree s directory name
    → (file.kind ≡ Directory → new id ≡ Some directory) → AreOthers id old new → (file.kind ≢ Directory → new id ≡ old id) → AreNotesParents s old
    → AreNotesParents (record { names = insert s.names (directory, name) id; files = insert s.files id file }) new
made_notes s id directory name file old new none comes free own others otherwise are of d is = by (file_eq of id) refl
  where
    grown : Store
    grown = record { names = s.names; files = insert s.files id file }

    own_so : (file.kind ≡ Directory) ⊎ (file.kind ≢ Directory) → new id ≡ Some d → IsDirectory grown id × IsParent (with_name grown directory name id) d id
    own_so (inl kind) at =
        let one : Some directory ≡ Some d = sym (own kind) ∙ at in
        let same : directory ≡ d = cc in
        ((file, put_here s.files id file, kind), subst (λ x. IsParent (with_name grown directory name id) x id) same (name, added_here s.names (directory, name) id))
    own_so (inr kind) at = absurd (none_of_kind s id Directory none (are id d (sym (otherwise kind) ∙ at)).0)

    by : (b : Bool) → file_eq of id ≡ b → IsDirectory grown of × IsParent (with_name grown directory name id) d of
    by true test =
        let same = same_file of id test in
        subst (λ x. IsDirectory grown x × IsParent (with_name grown directory name id) d x) (sym same) (own_so (directory_or_not file.kind) (ap new (sym same) ∙ is))
    by false test =
        with_notes grown directory name id old free (files_keep_notes s (insert s.files id file) old (put_stay s.files id file none comes) are) of d
        (sym (others of (other_file of id test)) ∙ is)

-- one that came and went leaves what was noted
pub refused_notes : (s : Store) (id : FileId) (old between new : Notes) → AreOthers id old between → ((of : FileId) → new of ≡ cond (file_eq of id) None (between of))
    → AreNotesParents s old → AreNotesParents s new
refused_notes s id old between new others wrote are =
    less_noted s old new (λ of directory is. let left = note_left id between new wrote of directory is in sym (others of left.0) ∙ left.1) are

module _ (s : Store) (old_directory : FileId) (old_name : List ℕ) (new_directory : FileId) (new_name : List ℕ) (file : FileId)
    (there : HasName s old_directory old_name file) (old between new : Notes) (are : AreNotesParents s old) where
  -- names that are as they were but at two places
  abbrev StayBut : FinMap place_cmp FileId → Type 0
  StayBut names = (q : Place) → q ≢ (old_directory, old_name) → q ≢ (new_directory, new_name) → get names q ≡ get s.names q

  -- the name is the file's, for which its directory was noted, and what is noted of others is neither of it nor of what had the name
  noted_then : (names : FinMap place_cmp FileId) → IsSet file new_directory between new → get names (new_directory, new_name) ≡ Some file → StayBut names
      → ((of d : FileId) → between of ≡ Some d → (old of ≡ Some d) × (get s.names (new_directory, new_name) ≢ Some of))
      → AreNotesParents (record { names = names; files = s.files }) new
  noted_then names set here stay before of d is =
      elim (note_set file new_directory between new set of d is) [
        | inl own ↦
            let was = are file own.2.0 (before file own.2.0 own.2.1).0 in
            subst (λ x. IsDirectory s x × IsParent (record { names = names; files = s.files }) d x) (sym own.0)
            (was.0, subst (λ x. IsParent (record { names = names; files = s.files }) x file) (sym own.1) (new_name, here))
        | inr other ↦
            let kept = before of d other.1 in
            let was = are of d kept.0 in (
              was.0,
              (
                was.1.0,
                stay (d, was.1.0)
                    (λ same. other.0 (let one : Some of ≡ Some file = sym was.1.1 ∙ ap (get s.names) same ∙ there in cc))
                    (λ same. kept.1 (sym (ap (get s.names) same) ∙ was.1.1)) ∙ was.1.1,
              ),
            )
      ]

  pub moved_notes : (found : Option FileId) → IsSet file new_directory between new → get s.names (new_directory, new_name) ≡ found → found ≢ Some file → AreGone found old between
      → AreNotesParents (record { names = names_after (moved old_directory old_name new_directory new_name file found) s.names; files = s.files }) new
  moved_notes None set is apart gone =
      let left = remove s.names (old_directory, old_name) in
      noted_then (insert left (new_directory, new_name) file) set (added_here left (new_directory, new_name) file)
      (λ q from to. added_elsewhere left (new_directory, new_name) q file to ∙ removed_elsewhere s.names (old_directory, old_name) q from)
      (λ of d noted. (sym (gone of) ∙ noted, λ same. let clash : None ≡ Some of = sym is ∙ same in cc))
  moved_notes (Some other) set is apart gone = by (file_eq other file) refl
    where
      by : (b : Bool) → file_eq other file ≡ b
          → AreNotesParents (record { names = names_after (if b then [] else Removed old_directory old_name ∷ Removed new_directory new_name ∷ Added new_directory new_name file ∷ []) s.names; files = s.files }) new
      by true test = absurd (apart (ap (λ f. Some f) (same_file other file test)))
      by false test =
          let left = remove s.names (old_directory, old_name) in
          let last = remove left (new_directory, new_name) in
          noted_then (insert last (new_directory, new_name) file) set (added_here last (new_directory, new_name) file)
          (λ q from to. added_elsewhere last (new_directory, new_name) q file to ∙ removed_elsewhere left (new_directory, new_name) q to
          ∙ removed_elsewhere s.names (old_directory, old_name) q from)
          (λ of d noted. let kept = note_left other old between gone of d noted in
          (kept.1, λ same. kept.0 (let one : Some of ≡ Some other = sym same ∙ is in cc)))

  module _ (other : FileId) (also : HasName s new_directory new_name other) (first : IsSet file new_directory old between) (second : IsSet other old_directory between new) where
    -- where both are one file it has its directory
    one_noted : other ≡ file → AreNotesParents s new
    one_noted one of d is =
        elim (note_set other old_directory between new second of d is) [
          | inl own ↦ elim (note_set file new_directory old between first other own.2.0 own.2.1) [
            | inl set ↦
                subst (λ x. IsDirectory s x × IsParent s d x) (sym (own.0 ∙ one))
                ((are file set.2.0 set.2.1).0, subst (λ x. IsParent s x file) (sym own.1) (old_name, there))
            | inr kept ↦ absurd (kept.0 one)
          ]
          | inr next ↦ elim (note_set file new_directory old between first of d next.1) [
            | inl set ↦ absurd (next.0 (set.0 ∙ sym one))
            | inr kept ↦ are of d kept.1
          ]
        ]

    two_noted : other ≢ file → (names : FinMap place_cmp FileId) → get names (new_directory, new_name) ≡ Some file → get names (old_directory, old_name) ≡ Some other → StayBut names
        → AreNotesParents (record { names = names; files = s.files }) new
    two_noted apart names here back stay of d is =
        elim (note_set other old_directory between new second of d is) [
          | inl own ↦ elim (note_set file new_directory old between first other own.2.0 own.2.1) [
            | inl set ↦ absurd (apart set.0)
            | inr kept ↦
                subst (λ x. IsDirectory s x × IsParent (record { names = names; files = s.files }) d x) (sym own.0)
                ((are other own.2.0 kept.1).0, subst (λ x. IsParent (record { names = names; files = s.files }) x other) (sym own.1) (old_name, back))
          ]
          | inr next ↦ elim (note_set file new_directory old between first of d next.1) [
            | inl set ↦
                subst (λ x. IsDirectory s x × IsParent (record { names = names; files = s.files }) d x) (sym set.0)
                ((are file set.2.0 set.2.1).0, subst (λ x. IsParent (record { names = names; files = s.files }) x file) (sym set.1) (new_name, here))
            | inr kept ↦
                let was = are of d kept.1 in (
                  was.0,
                  (
                    was.1.0,
                    stay (d, was.1.0)
                        (λ same. kept.0 (let one : Some of ≡ Some file = sym was.1.1 ∙ ap (get s.names) same ∙ there in cc))
                        (λ same. next.0 (let one : Some of ≡ Some other = sym was.1.1 ∙ ap (get s.names) same ∙ also in cc)) ∙ was.1.1,
                  ),
                )
          ]
        ]

    pub exchanged_notes : AreNotesParents (record { names = names_after (exchanged old_directory old_name new_directory new_name file other) s.names; files = s.files }) new
    exchanged_notes = by (file_eq other file) refl
      where
        by : (b : Bool) → file_eq other file ≡ b
            → AreNotesParents (record { names = names_after (if b then [] else Removed old_directory old_name ∷ Added old_directory old_name other ∷ Removed new_directory new_name ∷ Added new_directory new_name file ∷ []) s.names; files = s.files }) new
        by true test = one_noted (same_file other file test)
        by false test =
            let apart : other ≢ file = other_file other file test in
            let places : ◌≢◌ {A = Place} (old_directory, old_name) (new_directory, new_name) =
            λ same. (let one : Some file ≡ Some other = sym there ∙ ap (get s.names) same ∙ also in let is : other ≡ file = cc in apart is) in
            let left = remove s.names (old_directory, old_name) in
            let half = insert left (old_directory, old_name) other in
            let last = remove half (new_directory, new_name) in
            two_noted apart (insert last (new_directory, new_name) file) (added_here last (new_directory, new_name) file)
            (added_elsewhere last (new_directory, new_name) (old_directory, old_name) file places ∙ removed_elsewhere half (new_directory, new_name) (old_directory, old_name) places
            ∙ added_here left (old_directory, old_name) other)
            (λ q from to. added_elsewhere last (new_directory, new_name) q file to ∙ removed_elsewhere half (new_directory, new_name) q to
            ∙ added_elsewhere left (old_directory, old_name) q other from ∙ removed_elsewhere s.names (old_directory, old_name) q from)

-- ---- in the words of what is stored

-- a file changes, or nothing where memory was refused
pub change_keeps_parents : (t : StoredShown) (files : FinMap file_cmp File) (file : FileId) (change : File → File) (noted : Notes) → ((f : File) → (change f).kind ≡ f.kind) → IsTree t.store
    → AreParentsNoted t.store noted → files ≡ with_file t.store.files file change → AreParentsNoted (record { names = t.store.names; files = files }) noted
change_keeps_parents t files file change noted kept tree are set =
    rw (set) (files_keep_parents t.store (with_file t.store.files file change) noted (with_stay t.store.files file change kept) tree are)

pub parents_changed_or_not : {A E : Type 0} (r : Result A E) (t : StoredShown) (files : FinMap file_cmp File) (file : FileId) (change : File → File) (noted : Notes) → ((f : File) → (change f).kind ≡ f.kind) → IsTree t.store
    → AreParentsNoted t.store noted → OnOk r (files ≡ with_file t.store.files file change) → OnErr r (files ≡ t.store.files) → AreParentsNoted (record { names = t.store.names; files = files }) noted
parents_changed_or_not (Ok v) t files file change noted kept tree are set same = change_keeps_parents t files file change noted kept tree are set
parents_changed_or_not (Err e) t files file change noted kept tree are set same = rw (same) are

pub change_keeps_notes : (t : StoredShown) (files : FinMap file_cmp File) (file : FileId) (change : File → File) (noted : Notes) → ((f : File) → (change f).kind ≡ f.kind)
    → AreNotesParents t.store noted → files ≡ with_file t.store.files file change → AreNotesParents (record { names = t.store.names; files = files }) noted
change_keeps_notes t files file change noted kept are set =
    rw (set) (files_keep_notes t.store (with_file t.store.files file change) noted (with_stay t.store.files file change kept) are)

pub notes_changed_or_not : {A E : Type 0} (r : Result A E) (t : StoredShown) (files : FinMap file_cmp File) (file : FileId) (change : File → File) (noted : Notes) → ((f : File) → (change f).kind ≡ f.kind)
    → AreNotesParents t.store noted → OnOk r (files ≡ with_file t.store.files file change) → OnErr r (files ≡ t.store.files) → AreNotesParents (record { names = t.store.names; files = files }) noted
notes_changed_or_not (Ok v) t files file change noted kept are set same = change_keeps_notes t files file change noted kept are set
notes_changed_or_not (Err e) t files file change noted kept are set same = rw (same) are

-- no name changes where a directory is opened, or not where memory was refused
pub names_stay : {A E : Type 0} (r : Result A E) (old new : NamesShown) (asked : ℕ) (directory : FileId) → OnOk r (new ≡ opened_by asked directory old) → OnErr r (new ≡ old)
    → new.names ≡ old.names
names_stay (Ok v) old new asked directory opens same = ap (λ (n : NamesShown). n.names) opens
names_stay (Err e) old new asked directory opens same = ap (λ (n : NamesShown). n.names) same

-- a name comes for a file that is no directory, or none where memory was refused
pub parents_named_or_not : {A E : Type 0} (r : Result A E) (old new : NamesShown) (files : FinMap file_cmp File) (directory : FileId) (name : List ℕ) (file : FileId) (noted : Notes)
    → (IsDirectory (record { names = old.names; files = files }) file → ⊥) → AreParentsNoted (record { names = old.names; files = files }) noted
    → OnOk r (new ≡ edited (Added directory name file ∷ []) old) → OnErr r (new ≡ old) → AreParentsNoted (record { names = new.names; files = files }) noted
parents_named_or_not (Ok v) old new files directory name file noted other are put same =
    rw (put) (with_parents (record { names = old.names; files = files }) directory name file noted (λ kind. absurd (other kind)) are)
parents_named_or_not (Err e) old new files directory name file noted other are put same = rw (same) are

pub notes_named_or_not : {A E : Type 0} (r : Result A E) (old new : NamesShown) (files : FinMap file_cmp File) (directory : FileId) (name : List ℕ) (file : FileId) (noted : Notes)
    → IsFree (record { names = old.names; files = files }) directory name → AreNotesParents (record { names = old.names; files = files }) noted
    → OnOk r (new ≡ edited (Added directory name file ∷ []) old) → OnErr r (new ≡ old) → AreNotesParents (record { names = new.names; files = files }) noted
notes_named_or_not (Ok v) old new files directory name file noted free are put same =
    rw (put) (with_notes (record { names = old.names; files = files }) directory name file noted free are)
notes_named_or_not (Err e) old new files directory name file noted free are put same = rw (same) are

-- what is noted for a file is a directory that has a name for it
pub parent_there : (t u : StoredShown) (noted : Notes) (file : FileId) (result : Option Parent) → t ≡ u → AreNotesParents t.store noted
    → option_map (λ (p : Parent). p.directory) result ≡ noted file → IfSome result (λ parent. IsParent u.store parent.directory file)
parent_there t u noted file result same are told = subst (λ (v : StoredShown). IfSome result (λ parent. IsParent v.store parent.directory file)) same (by result told)
  where
    by : (r : Option Parent) → option_map (λ (p : Parent). p.directory) r ≡ noted file → IfSome r (λ parent. IsParent t.store parent.directory file)
    by None is = tt
    by (Some parent) is = (are file parent.directory (sym is)).1

-- and of a directory for which none is noted no directory has a name
pub parent_none : (t u : StoredShown) (noted : Notes) (file : FileId) (result : Option Parent) → t ≡ u → AreParentsNoted t.store noted → IsDirectory u.store file
    → option_map (λ (p : Parent). p.directory) result ≡ noted file → IfNone result ((directory : FileId) → IsParent u.store directory file → ⊥)
parent_none t u noted file result same are kind told =
    subst (λ (v : StoredShown). IsDirectory v.store file → IfNone result ((directory : FileId) → IsParent v.store directory file → ⊥)) same (by result told) kind
  where
    by : (r : Option Parent) → option_map (λ (p : Parent). p.directory) r ≡ noted file → IsDirectory t.store file
        → IfNone r ((directory : FileId) → IsParent t.store directory file → ⊥)
    by None is kind = λ directory has. (let clash : None ≡ Some directory = is ∙ are file directory kind has in cc)
    by (Some parent) is kind = tt
