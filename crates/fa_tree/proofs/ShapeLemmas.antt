-- What is stored stays a tree.
use Rattle.std.proofs.Common.{◌≡◌, ◌≢◌, ◌⊎◌, ℕ, ◌+◌, ◌≤◌, Bool, true, false, cond, if◌then◌else◌, List, [], ◌∷◌, Option, None, Some, refl, sym, ap, subst, ◌∙◌, inl, inr, arith, is_some}
use Rattle.std.specs.Option.{option_map_or}
use Rattle.std.specs.FinMap.{FinMap, get, insert, remove, len, empty, get-empty, get-insert, len-insert}
use Rattle.fa_bodies.specs.declared.flags.OpenFlags.{OpenFlags}
use Rattle.fa_bodies.specs.declared.mode.Kind.{Kind}
use Rattle.fa_bodies.specs.declared.mode.Kind.TheVariants.{Directory}
use Rattle.fa_bodies.specs.declared.rename_flags.RenameFlags.{RenameFlags}
use Rattle.fa_bodies.specs.declared.rename_flags.RenameFlags.TheVariants.{Replace, NoReplace, Exchange}
use Rattle.fa_ledger.specs.Operations.{PlainOperation}
use Rattle.fa_ledger.specs.Operations.PlainAction.{Setattr, Symlink, Mknod, Mkdir, Unlink, Rmdir, Rename, Rename2, Link, Open, Write, Create}
use Rattle.fa_ledger.specs.Operations.PlainOperation.{Acts}
use Rattle.fa_tree.specs.declared.id.FileId.{FileId}
use Rattle.fa_tree.specs.declared.id.FileId.TheVariants as file_id
use Rattle.fa_tree.specs.parts.FileIdLaws.{file_cmp_total, same_file, other_file}
use Rattle.fa_tree.specs.parts.StoredParts.{IsMadeOrNext}
use Rattle.fa_tree.specs.State.{File, Store, IsFile, file_cmp, file_eq, Place, place_cmp, root, HasName, IsOfKind, IsDirectory, IsLinked, IsParent, IsBelow}
use Rattle.fa_tree.specs.State.IsBelow.{child, further}
use Rattle.fa_tree.specs.Resolved.{Resolved, OfOther}
use Rattle.fa_tree.specs.Edits.{names_after}
use Rattle.fa_tree.specs.Edits.Edit.{Added, Removed}
use Rattle.fa_tree.specs.Lookups.{file_set}
use Rattle.fa_tree.specs.Contents.{file_written}
use Rattle.fa_tree.specs.Making.{emptied, new_symlink, new_node, new_directory as made_directory, new_regular, files_created, HasMadeNone, MayBeCreated}
use Rattle.fa_tree.specs.Renaming.{MayBeRenamed, moved, rename_edits, MayComeInto, MayBeExchanged, exchanged, exchange_edits, rename2_rule}
use Rattle.fa_tree.specs.Linking.{MayBeLinked}
use Rattle.fa_tree.specs.Rules.{with_file}
use Rattle.fa_tree.specs.Operations.{rule}
use Rattle.fa_tree.specs.Shape.{IsRooted, IsTree}
use Rattle.fa_tree.specs.Shape.IsRooted.{rooted}
use Rattle.fa_tree.specs.Building.{empty_tree}
use Rattle.fa_tree.specs.Laws.{ChangesKeepTrees, FilesStay, OnlyItsOwnIsMade}
use Rattle.fa_tree.proofs.EditedLemmas.{insert_there}
use Rattle.fa_tree.proofs.PlaceOrderLemmas.{name_added, name_left, name_goes_first}

-- ---- files and their kinds

-- there is a file of this kind that is known by this
abbrev pub HasKind : FinMap file_cmp File → FileId → Kind → Type 0
HasKind files id kind = (file : File) × (get files id ≡ Some file) × (file.kind ≡ kind)

-- the files that would be put in by name next, and later, are not there
abbrev AreNextFree : FinMap file_cmp File → Type 0
AreNextFree files = (n : ℕ) → len files ≤ n → get files (file_id.Added n) ≡ None

-- files that stay: each keeps its kind, and the next ones stay away
pub record Stay (old new : FinMap file_cmp File) : Type 0 where
  pub kinds : (id : FileId) (kind : Kind) → HasKind old id kind → HasKind new id kind
  pub next : AreNextFree old → AreNextFree new

-- nothing changes
all_stay : (files : FinMap file_cmp File) → Stay files files
all_stay files = record { kinds = λ id kind has. has; next = λ free. free }

-- what is found once a file is put
pub put_here : (files : FinMap file_cmp File) (id : FileId) (new : File) → get (insert files id new) id ≡ Some new
put_here files id new = insert_there file_cmp_total files id new

pub put_elsewhere : (files : FinMap file_cmp File) (id : FileId) (new : File) (q : FileId) → file_eq q id ≡ false → get (insert files id new) q ≡ get files q
put_elsewhere files id new q test = get-insert file_cmp_total files id new q ∙ ap (λ b. cond b (Some new) (get files q)) test

-- a file of this kind that is put where there was none, or one of its kind
put_kinds : (files : FinMap file_cmp File) (at : FileId) (new : File) → ((kind : Kind) → HasKind files at kind → new.kind ≡ kind)
    → (id : FileId) (kind : Kind) → HasKind files id kind → HasKind (insert files at new) id kind
put_kinds files at new same id kind has = by (file_eq id at) refl
  where
    by : (b : Bool) → file_eq id at ≡ b → HasKind (insert files at new) id kind
    by true test =
        let own : id ≡ at = same_file id at test in
        (new, ap (get (insert files at new)) own ∙ put_here files at new, same kind (subst (λ q. HasKind files q kind) own has))
    by false test = (has.0, put_elsewhere files at new id test ∙ has.1, has.2)

-- one that was not there makes one more
put_length : (files : FinMap file_cmp File) (id : FileId) (new : File) → get files id ≡ None → len (insert files id new) ≡ len files + 1
put_length files id new none = len-insert file_cmp_total files id new ∙ ap (λ (found : Option File). cond (is_some found) (len files) (len files + 1)) none

set_length : (files : FinMap file_cmp File) (id : FileId) (old new : File) → get files id ≡ Some old → len (insert files id new) ≡ len files
set_length files id old new there = len-insert file_cmp_total files id new ∙ ap (λ (found : Option File). cond (is_some found) (len files) (len files + 1)) there

-- so all stay where one comes that a request makes, or the next that is put in by name
pub put_stay : (files : FinMap file_cmp File) (id : FileId) (new : File) → get files id ≡ None → IsMadeOrNext files id → Stay files (insert files id new)
put_stay files id new none comes = record {
  kinds = put_kinds files id new (λ kind has. (let clash : None ≡ Some has.0 = sym none ∙ has.1 in absurd cc));
  next = λ free n past. by free n past (file_eq (file_id.Added n) id) refl;
}
  where
    later : (n : ℕ) → len (insert files id new) ≤ n → IsMadeOrNext files id → file_id.Added n ≡ id → ⊥
    later n past comes same = not_next n past (subst (IsMadeOrNext files) (sym same) comes)
      where
        not_next : (n : ℕ) → len (insert files id new) ≤ n → n ≡ len files → ⊥
        not_next n past is = absurd (omega (arith, past, is, put_length files id new none))

    by : AreNextFree files → (n : ℕ) → len (insert files id new) ≤ n → (b : Bool) → file_eq (file_id.Added n) id ≡ b → get (insert files id new) (file_id.Added n) ≡ None
    by free n past true test = absurd (later n past comes (same_file (file_id.Added n) id test))
    by free n past false test = put_elsewhere files id new (file_id.Added n) test ∙ free n (omega (arith, past, put_length files id new none))

-- and where one is changed, of its own kind
pub with_stay : (files : FinMap file_cmp File) (at : FileId) (change : File → File) → ((file : File) → (change file).kind ≡ file.kind) → Stay files (with_file files at change)
with_stay files at change keeps = by (get files at) refl
  where
    by : (o : Option File) → get files at ≡ o → Stay files (option_map_or (λ file. insert files at (change file)) o files)
    by None is = all_stay files
    by (Some file) is = record {
      kinds = put_kinds files at (change file) (λ kind has. (let both : file ≡ has.0 = (let found : Some file ≡ Some has.0 = sym is ∙ has.1 in cc) in keeps file ∙ ap (λ (x : File). x.kind) both ∙ has.2));
      next = λ free n past. next_by free n (omega (arith, past, set_length files at file (change file) is)) (file_eq (file_id.Added n) at) refl;
    }
      where
        next_by : AreNextFree files → (n : ℕ) → len files ≤ n → (b : Bool) → file_eq (file_id.Added n) at ≡ b → get (insert files at (change file)) (file_id.Added n) ≡ None
        next_by free n past true test =
            let clash : None ≡ Some file = sym (free n past) ∙ ap (get files) (same_file (file_id.Added n) at test) ∙ is in
            absurd cc
        next_by free n past false test = put_elsewhere files at (change file) (file_id.Added n) test ∙ free n past

-- what CREATE leaves
created_stay : (files : FinMap file_cmp File) (asked : ℕ) (truncates : Bool) (new : File) (found : Option FileId) → (found ≡ None → get files (file_id.Made asked) ≡ None)
    → Stay files (files_created files asked truncates new found)
created_stay files asked truncates new None none = put_stay files (file_id.Made asked) new (none refl) tt
created_stay files asked true new (Some id) none = with_stay files id emptied (λ file. refl)
created_stay files asked false new (Some id) none = all_stay files

-- a CREATE that makes a file has made none
pub creates_new : (s : Store) (asked : ℕ) (directory : FileId) (name : List ℕ) (flags : OpenFlags) → MayBeCreated s asked directory name flags
    → get s.names (directory, name) ≡ None → HasMadeNone s asked
creates_new s asked directory name flags may free = elim may.1 [
  | inl new ↦ new.1
  | inr there ↦ (let clash : None ≡ Some there.0 = sym free ∙ there.1 in absurd cc)
]

-- what OPEN leaves
opened_stay : (files : FinMap file_cmp File) (truncates : Bool) (id : FileId) → Stay files (if truncates then with_file files id emptied else files)
opened_stay files true id = with_stay files id emptied (λ file. refl)
opened_stay files false id = all_stay files

-- RENAME2 leaves files as they are
rename2_stay : (s : Store) (old_directory : FileId) (old_name : List ℕ) (flags : RenameFlags) (other : Option FileId) (new_name : List ℕ) (truncates : Bool) (count : ℕ)
    → Stay s.files ((rename2_rule s old_directory old_name flags other new_name).files truncates count)
rename2_stay s old_directory old_name Replace other new_name truncates count = all_stay s.files
rename2_stay s old_directory old_name NoReplace other new_name truncates count = all_stay s.files
rename2_stay s old_directory old_name Exchange other new_name truncates count = all_stay s.files

-- what an operation leaves
files_stay_after : (s : Store) (x : Resolved) (truncates : Bool) (count : ℕ) (o : PlainOperation) → (rule s x o).needs → Stay s.files ((rule s x o).files truncates count)
files_stay_after s x truncates count (Acts (Setattr a o)) may = with_stay s.files x.node (file_set a) (λ file. refl)
files_stay_after s x truncates count (Acts (Symlink name target o)) may = put_stay s.files (file_id.Made x.asked) (new_symlink target) may.1 tt
files_stay_after s x truncates count (Acts (Mknod mode umask name o)) may = put_stay s.files (file_id.Made x.asked) (new_node mode umask) may.1 tt
files_stay_after s x truncates count (Acts (Mkdir mode umask name o)) may = put_stay s.files (file_id.Made x.asked) (made_directory mode umask) may.1 tt
files_stay_after s x truncates count (Acts (Open o)) may = opened_stay s.files truncates x.node
files_stay_after s x truncates count (Acts (Write offset size payload o)) may = with_stay s.files x.node (file_written offset payload count) (λ file. refl)
files_stay_after s x truncates count (Acts (Create flags mode umask name o)) may =
    created_stay s.files x.asked truncates (new_regular mode umask) (get s.names (x.node, name)) (creates_new s x.asked x.node name flags may)
files_stay_after s x truncates count (Acts (Rename2 flags old_name new_name o)) may = rename2_stay s x.node old_name flags x.other new_name truncates count
files_stay_after s x truncates count other may = all_stay s.files

-- each file is there still, and of its kind
pub files_stay : FilesStay
files_stay s x truncates o count id kind may has = (files_stay_after s x truncates count o may).kinds id kind has

-- among files that stay, one that was there is of the kind that it has now
pub was_of_kind : (old new : FinMap file_cmp File) → Stay old new → (id : FileId) (kind : Kind) (own : File) → get old id ≡ Some own → HasKind new id kind → HasKind old id kind
was_of_kind old new stay id kind own there has =
    let kept = stay.kinds id own.kind (own, there, refl) in
    let same : kept.0 ≡ has.0 = (let both : Some kept.0 ≡ Some has.0 = sym kept.1 ∙ has.1 in cc) in
    (own, there, sym kept.2 ∙ ap (λ (x : File). x.kind) same ∙ has.2)

-- what is there is there still
still_there : (old new : FinMap file_cmp File) → Stay old new → (id : FileId) (file : File) → get old id ≡ Some file → (now : File) × (get new id ≡ Some now)
still_there old new stay id file there = let kept = stay.kinds id file.kind (file, there, refl) in (kept.0, kept.1)

-- ---- files that come

-- what is there once a file was put was there before, or is it
put_or_before : (files : FinMap file_cmp File) (at : FileId) (new : File) (id : FileId) → (f : File) × (get (insert files at new) id ≡ Some f)
    → ((f : File) × (get files id ≡ Some f)) ⊎ (id ≡ at)
put_or_before files at new id is = by (file_eq id at) refl
  where
    by : (b : Bool) → file_eq id at ≡ b → ((f : File) × (get files id ≡ Some f)) ⊎ (id ≡ at)
    by true test = inr (same_file id at test)
    by false test = inl (is.0, sym (put_elsewhere files at new id test) ∙ is.1)

-- where one is changed all were there before
with_before : (files : FinMap file_cmp File) (at : FileId) (change : File → File) (id : FileId) → (f : File) × (get (with_file files at change) id ≡ Some f)
    → (f : File) × (get files id ≡ Some f)
with_before files at change id is = by (get files at) refl is
  where
    by : (o : Option File) → get files at ≡ o → (f : File) × (get (option_map_or (λ file. insert files at (change file)) o files) id ≡ Some f) → (f : File) × (get files id ≡ Some f)
    by None there is = is
    by (Some file) there is = elim (put_or_before files at (change file) id is) [
      | inl before ↦ before
      | inr same ↦ (file, ap (get files) same ∙ there)
    ]

module _ (s : Store) (x : Resolved) (count : ℕ) (id : FileId) where
  -- a file that was there before, or the one that the request made
  abbrev IsBeforeOrMade : FinMap file_cmp File → Type 0
  IsBeforeOrMade files = (f : File) × (get files id ≡ Some f) → IsFile s id ⊎ (id ≡ file_id.Made x.asked)

  created_before : (truncates : Bool) (new : File) (found : Option FileId) → IsBeforeOrMade (files_created s.files x.asked truncates new found)
  created_before truncates new None is = put_or_before s.files (file_id.Made x.asked) new id is
  created_before true new (Some at) is = inl (with_before s.files at emptied id is)
  created_before false new (Some at) is = inl is

  opened_before : (truncates : Bool) → IsBeforeOrMade (if truncates then with_file s.files x.node emptied else s.files)
  opened_before true is = inl (with_before s.files x.node emptied id is)
  opened_before false is = inl is

  renamed_before : (old_name : List ℕ) (flags : RenameFlags) (new_name : List ℕ) (truncates : Bool) → IsBeforeOrMade ((rename2_rule s x.node old_name flags x.other new_name).files truncates count)
  renamed_before old_name Replace new_name truncates is = inl is
  renamed_before old_name NoReplace new_name truncates is = inl is
  renamed_before old_name Exchange new_name truncates is = inl is

  all_before : (truncates : Bool) (o : PlainOperation) → IsBeforeOrMade ((rule s x o).files truncates count)
  all_before truncates (Acts (Setattr a o)) is = inl (with_before s.files x.node (file_set a) id is)
  all_before truncates (Acts (Symlink name target o)) is = put_or_before s.files (file_id.Made x.asked) (new_symlink target) id is
  all_before truncates (Acts (Mknod mode umask name o)) is = put_or_before s.files (file_id.Made x.asked) (new_node mode umask) id is
  all_before truncates (Acts (Mkdir mode umask name o)) is = put_or_before s.files (file_id.Made x.asked) (made_directory mode umask) id is
  all_before truncates (Acts (Open o)) is = opened_before truncates is
  all_before truncates (Acts (Write offset size payload o)) is = inl (with_before s.files x.node (file_written offset payload count) id is)
  all_before truncates (Acts (Create flags mode umask name o)) is = created_before truncates (new_regular mode umask) (get s.names (x.node, name)) is
  all_before truncates (Acts (Rename2 flags old_name new_name o)) is = renamed_before old_name flags new_name truncates is
  all_before truncates other is = inl is

-- a request makes no file but its own
pub only_its_own_is_made : OnlyItsOwnIsMade
only_its_own_is_made s x truncates o count id is = all_before s x count id truncates o is

-- ---- ways up

-- where there are no more parents, each way up still ends
fewer_rooted : (s t : Store) → ((parent file : FileId) → IsParent t parent file → IsParent s parent file) → (file : FileId) → IsRooted s file → IsRooted t file
fewer_rooted s t fewer file (rooted _ up) = rooted file (λ parent is. fewer_rooted s t fewer parent (up parent (fewer parent file is)))

-- where there are no more parents, no more is below
fewer_below : (s t : Store) → ((parent file : FileId) → IsParent t parent file → IsParent s parent file) → (above below : FileId) → IsBelow t above below → IsBelow s above below
fewer_below s t fewer above below (child _ _ is) = child above below (fewer above below is)
fewer_below s t fewer above below (further _ between _ is up) = further above between below (fewer between below is) (fewer_below s t fewer above between up)

-- what is above another has a name in it
above_has_name : (s : Store) (above below : FileId) → IsBelow s above below → (file : FileId) × IsParent s above file
above_has_name s above below (child _ _ is) = (below, is)
above_has_name s above below (further _ between _ is up) = above_has_name s above between up

-- and so is a directory
above_is_directory : (s : Store) → IsTree s → (above below : FileId) → IsBelow s above below → IsDirectory s above
above_is_directory s tree above below is =
    let one = above_has_name s above below is in
    tree.inside above one.1.0 one.0 one.1.1

-- what is not there is of no kind
pub none_of_kind : (s : Store) (id : FileId) (kind : Kind) → get s.files id ≡ None → IsOfKind s id kind → ⊥
none_of_kind s id kind none is = let clash : None ≡ Some is.0 = sym none ∙ is.1 in absurd cc

-- ---- files change

-- a tree stays one where its files stay
pub files_keep_tree : (s : Store) (files : FinMap file_cmp File) → Stay s.files files → IsTree s → IsTree (record { names = s.names; files = files })
files_keep_tree s files stay tree = record {
  root_is_one = stay.kinds root Directory tree.root_is_one;
  inside = λ directory name file is. stay.kinds directory Directory (tree.inside directory name file is);
  there = λ directory name file is. (let was = tree.there directory name file is in still_there s.files files stay file was.0 was.1);
  one_name = λ directory other name more file is also kind.
      tree.one_name directory other name more file is also (let was = tree.there directory name file is in was_of_kind s.files files stay file Directory was.0 was.1 kind);
  ends = λ file. fewer_rooted s (record { names = s.names; files = files }) (λ parent file is. is) file (tree.ends file);
  next = stay.next tree.next;
}

-- ---- a name goes

-- the store without the name
abbrev pub without : Store → Place → Store
without s place = record { names = remove s.names place; files = s.files }

-- a name that goes leaves no more parents
fewer_without : (s : Store) (place : Place) (parent file : FileId) → IsParent (without s place) parent file → IsParent s parent file
fewer_without s place parent file is = (is.0, (name_left s.names place (parent, is.0) file is.1).1)

-- a tree stays one without a name
pub removal_keeps_tree : (s : Store) (place : Place) → IsTree s → IsTree (without s place)
removal_keeps_tree s place tree =
    let was : (directory : FileId) (name : List ℕ) (file : FileId) → HasName (without s place) directory name file → HasName s directory name file =
    λ directory name file is. (name_left s.names place (directory, name) file is).1 in
    record {
      root_is_one = tree.root_is_one;
      inside = λ directory name file is. tree.inside directory name file (was directory name file is);
      there = λ directory name file is. tree.there directory name file (was directory name file is);
      one_name = λ directory other name more file is also kind.
          tree.one_name directory other name more file (was directory name file is) (was other more file also) kind;
      ends = λ file. fewer_rooted s (without s place) (fewer_without s place) file (tree.ends file);
      next = tree.next;
    }

-- ---- a name comes

-- the store with one more name
abbrev pub with_name : Store → (directory : FileId) → (name : List ℕ) → (file : FileId) → Store
with_name s directory name file = record { names = insert s.names (directory, name) file; files = s.files }

-- a name may come in a directory for a file that is not that directory and not above it, and is no directory with a name
record MayCome (s : Store) (directory file : FileId) : Type 0 where
  in_directory : IsDirectory s directory
  there : IsFile s file
  unnamed : IsDirectory s file → (other : FileId) (name : List ℕ) → HasName s other name file → ⊥
  not_itself : directory ≢ file
  not_above : IsBelow s file directory → ⊥

-- a parent then: the directory that the name came in, or one from before
pub parent_then : (s : Store) (directory : FileId) (name : List ℕ) (file parent : FileId) (x : FileId) → IsParent (with_name s directory name file) parent x
    → ((parent ≡ directory) × (x ≡ file)) ⊎ IsParent s parent x
parent_then s directory name file parent x is =
    elim (name_added s.names (directory, name) (parent, is.0) file x is.1) [
      | inl new ↦ inl (ap (λ (p : Place). p.0) new.0, new.1)
      | inr old ↦ inr (is.0, old)
    ]

-- the ways up from what is not the file and not below it stay
others_rooted : (s : Store) (directory : FileId) (name : List ℕ) (file x : FileId) → IsRooted s x → x ≢ file → (IsBelow s file x → ⊥)
    → IsRooted (with_name s directory name file) x
others_rooted s directory name file x (rooted _ up) other apart =
    rooted x (λ parent is. elim (parent_then s directory name file parent x is) [
      | inl new ↦ absurd (other new.1)
      | inr old ↦ others_rooted s directory name file parent (up parent old)
          (λ same. apart (child file x (subst (λ p. IsParent s p x) same old)))
          (λ below. apart (further file parent x old below))
    ])

-- all ways up end, if the one of the directory does
all_rooted : (s : Store) (directory : FileId) (name : List ℕ) (file : FileId) → IsRooted (with_name s directory name file) directory
    → (x : FileId) → IsRooted s x → IsRooted (with_name s directory name file) x
all_rooted s directory name file ends x (rooted _ up) =
    rooted x (λ parent is. elim (parent_then s directory name file parent x is) [
      | inl new ↦ subst (IsRooted (with_name s directory name file)) (sym new.0) ends
      | inr old ↦ all_rooted s directory name file ends parent (up parent old)
    ])

-- a name then: the one that is added, or one from before
abbrev IsAddedOr : Store → (directory : FileId) → (name : List ℕ) → (file : FileId) (d : FileId) → (n : List ℕ) → (f : FileId) → Type 0
IsAddedOr s directory name file d n f = (◌≡◌ {A = Place} (d, n) (directory, name) × (f ≡ file)) ⊎ HasName s d n f

-- where a name may come, a tree stays one
addition_keeps_tree : (s : Store) (directory : FileId) (name : List ℕ) (file : FileId) → IsTree s → MayCome s directory file → IsTree (with_name s directory name file)
addition_keeps_tree s directory name file tree may = record {
  root_is_one = tree.root_is_one;
  inside = λ d n f is. inside_then d n f (name_added s.names (directory, name) (d, n) file f is);
  there = λ d n f is. there_then d n f (name_added s.names (directory, name) (d, n) file f is);
  one_name = λ d o n m f is also kind. one_then d o n m f (name_added s.names (directory, name) (d, n) file f is) (name_added s.names (directory, name) (o, m) file f also) kind;
  ends = λ x. all_rooted s directory name file
      (others_rooted s directory name file directory (tree.ends directory) may.not_itself may.not_above) x (tree.ends x);
  next = tree.next;
}
  where
    inside_then : (d : FileId) (n : List ℕ) (f : FileId) → IsAddedOr s directory name file d n f → IsDirectory s d
    inside_then d n f (inl new) = subst (IsDirectory s) (sym (ap (λ (p : Place). p.0) new.0)) may.in_directory
    inside_then d n f (inr old) = tree.inside d n f old

    there_then : (d : FileId) (n : List ℕ) (f : FileId) → IsAddedOr s directory name file d n f → IsFile s f
    there_then d n f (inl new) = subst (IsFile s) (sym new.1) may.there
    there_then d n f (inr old) = tree.there d n f old

    one_then : (d o : FileId) (n m : List ℕ) (f : FileId) → IsAddedOr s directory name file d n f → IsAddedOr s directory name file o m f → IsDirectory s f → (d ≡ o) × (n ≡ m)
    one_then d o n m f (inl new) (inl also) kind =
        let places : ◌≡◌ {A = Place} (d, n) (o, m) = new.0 ∙ sym also.0 in
        (ap (λ (p : Place). p.0) places, ap (λ (p : Place). p.1) places)
    one_then d o n m f (inl new) (inr old) kind =
        absurd (may.unnamed (subst (IsDirectory s) new.1 kind) o m (subst (HasName s o m) new.1 old))
    one_then d o n m f (inr old) (inl new) kind =
        absurd (may.unnamed (subst (IsDirectory s) new.1 kind) d n (subst (HasName s d n) new.1 old))
    one_then d o n m f (inr old) (inr also) kind = tree.one_name d o n m f old also kind

-- ---- a file comes

-- no name is for a new file yet
pub no_name_yet : (s : Store) (id : FileId) → IsTree s → get s.files id ≡ None → (directory : FileId) (name : List ℕ) → HasName s directory name id → ⊥
no_name_yet s id tree none directory name has =
    let was = tree.there directory name id has in
    let clash : None ≡ Some was.0 = sym none ∙ was.1 in
    absurd cc

-- and none is in it
pub making_keeps_tree : (s : Store) (id directory : FileId) (name : List ℕ) (new : File) → IsTree s → IsDirectory s directory → get s.files id ≡ None → IsMadeOrNext s.files id
    → IsTree (record { names = insert s.names (directory, name) id; files = insert s.files id new })
making_keeps_tree s id directory name new tree is none comes =
    let stay = put_stay s.files id new none comes in
    let grown : Store = record { names = s.names; files = insert s.files id new } in
    addition_keeps_tree grown directory name id (files_keep_tree s (insert s.files id new) stay tree) (record {
      in_directory = stay.kinds directory Directory is;
      there = (new, put_here s.files id new);
      unnamed = λ kind other name has. no_name_yet s id tree none other name has;
      not_itself = λ same. none_of_kind s id Directory none (subst (IsDirectory s) same is);
      not_above = λ below.
          let one = above_has_name grown id directory below in
          none_of_kind s id Directory none (tree.inside id one.1.0 one.0 one.1.1);
    })

-- ---- a further name

-- what is no directory is above nothing
pub linking_keeps_tree : (s : Store) (directory : FileId) (name : List ℕ) (file : FileId) → IsTree s → IsDirectory s directory → IsFile s file → (IsDirectory s file → ⊥)
    → IsTree (with_name s directory name file)
linking_keeps_tree s directory name file tree is there none =
    addition_keeps_tree s directory name file tree (record {
      in_directory = is;
      there = there;
      unnamed = λ kind other name has. none kind;
      not_itself = λ same. none (subst (IsDirectory s) same is);
      not_above = λ below. none (above_is_directory s tree file directory below);
    })

-- a linked file is there
pub linked_is_there : (s : Store) → IsTree s → (file : FileId) → IsLinked s file → IsFile s file
linked_is_there s tree file (inl is) = let one = tree.root_is_one in (one.0, ap (get s.files) is ∙ one.1)
linked_is_there s tree file (inr has) = tree.there has.0 has.1 file has.2

-- ---- RENAME

-- the file that moves, after its old name went
record MayMove (s : Store) (old_directory : FileId) (old_name : List ℕ) (new_directory : FileId) (file : FileId) : Type 0 where
  there : HasName s old_directory old_name file
  to : IsDirectory s new_directory
  moves : MayComeInto s new_directory file

-- a name comes for the file that moves, once its old name went, whatever names went else
move_comes : (s t : Store) (old_directory : FileId) (old_name : List ℕ) (new_directory file : FileId) → IsTree s → MayMove s old_directory old_name new_directory file
    → t.files ≡ s.files → ((directory : FileId) (name : List ℕ) (f : FileId) → HasName t directory name f → ◌≢◌ {A = Place} (directory, name) (old_directory, old_name) × HasName s directory name f)
    → MayCome t new_directory file
move_comes s t old_directory old_name new_directory file tree may same fewer =
    let was : IsDirectory t file → IsDirectory s file = λ kind. subst (λ files. HasKind files file Directory) same kind in
    record {
      in_directory = subst (λ files. HasKind files new_directory Directory) (sym same) may.to;
      there = subst (λ files. IsFile (record { names = t.names; files = files }) file) (sym same) (tree.there old_directory old_name file may.there);
      unnamed = λ kind other name has.
          let left = fewer other name file has in
          let one = tree.one_name other old_directory name old_name file left.1 may.there (was kind) in
          left.0 (λ i. (one.0 i, one.1 i));
      not_itself = λ itself. (may.moves (subst (IsDirectory s) itself may.to)).0 itself;
      not_above = λ below.
          let before = fewer_below s t (λ parent x is. (is.0, (fewer parent is.0 x is.1).1)) file new_directory below in
          (may.moves (above_is_directory s tree file new_directory before)).1 before;
    }

-- the edits of a rename, by the file that has the new name
moved_keeps_tree : (s : Store) (old_directory : FileId) (old_name : List ℕ) (new_directory : FileId) (new_name : List ℕ) (file : FileId) → IsTree s
    → HasName s old_directory old_name file → IsDirectory s new_directory
    → ((HasName s new_directory new_name file → ⊥) → MayComeInto s new_directory file)
    → (found : Option FileId) → get s.names (new_directory, new_name) ≡ found
    → IsTree (record { names = names_after (moved old_directory old_name new_directory new_name file found) s.names; files = s.files })
moved_keeps_tree s old_directory old_name new_directory new_name file tree there to moves None is =
    let old : Place = (old_directory, old_name) in
    let left : Store = without s old in
    let may : MayMove s old_directory old_name new_directory file = record { there = there; to = to; moves = moves (λ has. absurd cc) } in
    addition_keeps_tree left new_directory new_name file (removal_keeps_tree s old tree)
    (move_comes s left old_directory old_name new_directory file tree may refl (λ directory name f has. name_left s.names old (directory, name) f has))
moved_keeps_tree s old_directory old_name new_directory new_name file tree there to moves (Some other) is =
    by (file_eq other file) refl
  where
    by : (b : Bool) → file_eq other file ≡ b
        → IsTree (record { names = names_after (if b then [] else Removed old_directory old_name ∷ Removed new_directory new_name ∷ Added new_directory new_name file ∷ []) s.names; files = s.files })
    by true test = tree
    by false test =
        let old : Place = (old_directory, old_name) in
        let new : Place = (new_directory, new_name) in
        let left : Store = without s old in
        let last : Store = without left new in
        let apart : HasName s new_directory new_name file → ⊥ =
        λ has. (let same : Some other ≡ Some file = sym is ∙ has in let one : other ≡ file = cc in other_file other file test one) in
        let may : MayMove s old_directory old_name new_directory file = record { there = there; to = to; moves = moves apart } in
        addition_keeps_tree last new_directory new_name file (removal_keeps_tree left new (removal_keeps_tree s old tree))
        (move_comes s last old_directory old_name new_directory file tree may refl
        (λ directory name f has. name_left s.names old (directory, name) f (name_left left.names new (directory, name) f has).1))

-- the edits are those of the file that has the old name
pub renaming_keeps_tree : (s : Store) (old_directory : FileId) (old_name : List ℕ) (new_directory : FileId) (new_name : List ℕ) → IsTree s
    → MayBeRenamed s old_directory old_name new_directory new_name
    → IsTree (record { names = names_after (rename_edits s old_directory old_name new_directory new_name) s.names; files = s.files })
renaming_keeps_tree s old_directory old_name new_directory new_name tree may =
    subst (λ found. IsTree (record { names = names_after (option_map_or (λ file. moved old_directory old_name new_directory new_name file (get s.names (new_directory, new_name))) found []) s.names; files = s.files })) (sym may.there)
    (moved_keeps_tree s old_directory old_name new_directory new_name may.file tree may.there may.to.0 may.moves (get s.names (new_directory, new_name)) refl)

-- ---- an exchange

-- one way goes on where another ends
below_through : (s : Store) (above between below : FileId) → IsBelow s above between → IsBelow s between below → IsBelow s above below
below_through s above between below first (child _ _ is) = further above between below is first
below_through s above between below first (further _ last _ is way) = further above last below is (below_through s above between last first way)

-- no way leads round
no_round : (s : Store) (file : FileId) → IsRooted s file → IsBelow s file file → ⊥
no_round s file (rooted _ up) (child _ _ is) = no_round s file (up file is) (child file file is)
no_round s file (rooted _ up) (further _ between _ is way) =
    no_round s between (up between is) (below_through s between file between (child between file is) way)

-- what is below once a name came: it was before, or the directory of the name is what is above it, or below that
below_then : (s : Store) (directory : FileId) (name : List ℕ) (file above below : FileId) → IsBelow (with_name s directory name file) above below
    → IsBelow s above below ⊎ ((directory ≡ above) ⊎ IsBelow s above directory)
below_then s directory name file above below (child _ _ is) =
    elim (parent_then s directory name file above below is) [
      | inl new ↦ inr (inl (sym new.0))
      | inr old ↦ inl (child above below old)
    ]
below_then s directory name file above below (further _ between _ is way) =
    elim (below_then s directory name file above between way) [
      | inl before ↦ elim (parent_then s directory name file between below is) [
        | inl new ↦ inr (inr (subst (λ d. IsBelow s above d) new.0 before))
        | inr old ↦ inl (further above between below old before)
      ]
      | inr through ↦ inr through
    ]

-- both names go, and come again for the other's file
module _ (s : Store) (old_directory : FileId) (old_name : List ℕ) (new_directory : FileId) (new_name : List ℕ) (file other : FileId) (tree : IsTree s)
    (there : HasName s old_directory old_name file) (also : HasName s new_directory new_name other) (apart : other ≢ file)
    (goes : MayComeInto s new_directory file) (comes : MayComeInto s old_directory other) where
  -- without the two
  abbrev left : Store
  left = without (without s (old_directory, old_name)) (new_directory, new_name)

  was : (directory : FileId) (name : List ℕ) (f : FileId) → HasName left directory name f
      → ◌≢◌ {A = Place} (directory, name) (new_directory, new_name) × ◌≢◌ {A = Place} (directory, name) (old_directory, old_name) × HasName s directory name f
  was directory name f has =
      let one = name_left (without s (old_directory, old_name)).names (new_directory, new_name) (directory, name) f has in
      let two = name_left s.names (old_directory, old_name) (directory, name) f one.1 in
      (one.0, two.0, two.1)

  left_is_tree : IsTree left
  left_is_tree = removal_keeps_tree (without s (old_directory, old_name)) (new_directory, new_name) (removal_keeps_tree s (old_directory, old_name) tree)

  -- with the old one for the other's file
  abbrev half : Store
  half = with_name left old_directory old_name other

  half_is_tree : IsTree half
  half_is_tree =
      addition_keeps_tree left old_directory old_name other left_is_tree
      (move_comes s left new_directory new_name old_directory other tree
      (record { there = also; to = tree.inside old_directory old_name file there; moves = comes }) refl
      (λ directory name f has. let one = was directory name f has in (one.0, one.2)))

  -- it was not below the file that it is in
  not_above_itself : (old_directory ≡ file) ⊎ IsBelow left file old_directory → ⊥
  not_above_itself (inl same) =
      no_round s file (tree.ends file) (child file file (old_name, subst (λ d. HasName s d old_name file) same there))
  not_above_itself (inr below) =
      no_round s file (tree.ends file) (below_through s file old_directory file
      (fewer_below s left (λ parent x is. (is.0, (was parent is.0 x is.1).2)) file old_directory below) (child old_directory file (old_name, there)))

  half_not_above : IsBelow half file new_directory → ⊥
  half_not_above below =
      elim (below_then left old_directory old_name other file new_directory below) [
        | inl before ↦
            let in_s = fewer_below s left (λ parent x is. (is.0, (was parent is.0 x is.1).2)) file new_directory before in
            (goes (above_is_directory s tree file new_directory in_s)).1 in_s
        | inr through ↦ not_above_itself through
      ]

  half_unnamed : IsDirectory s file → (directory : FileId) (name : List ℕ) → HasName half directory name file → ⊥
  half_unnamed kind directory name has =
      elim (name_added left.names (old_directory, old_name) (directory, name) other file has) [
        | inl new ↦ apart (sym new.1)
        | inr before ↦
            let one = was directory name file before in
            let same = tree.one_name directory old_directory name old_name file one.2 there kind in
            one.1 (λ i. (same.0 i, same.1 i))
      ]

  both_come : IsTree (with_name half new_directory new_name file)
  both_come =
      let to = tree.inside new_directory new_name other also in
      addition_keeps_tree half new_directory new_name file half_is_tree (record {
        in_directory = to;
        there = tree.there old_directory old_name file there;
        unnamed = half_unnamed;
        not_itself = λ itself. (goes (subst (IsDirectory s) itself to)).0 itself;
        not_above = half_not_above;
      })

  exchange_keeps_tree : ◌≢◌ {A = Place} (old_directory, old_name) (new_directory, new_name)
      → IsTree (record { names = names_after (Removed old_directory old_name ∷ Added old_directory old_name other ∷ Removed new_directory new_name ∷ Added new_directory new_name file ∷ []) s.names; files = s.files })
  exchange_keeps_tree places =
      subst (λ names. IsTree (record { names = insert names (new_directory, new_name) file; files = s.files }))
      (sym (name_goes_first (remove s.names (old_directory, old_name)) (old_directory, old_name) (new_directory, new_name) other places)) both_come

-- the edits are those of the files that have the names
pub exchanging_keeps_tree : (s : Store) (old_directory : FileId) (old_name : List ℕ) (new_directory : FileId) (new_name : List ℕ) → IsTree s
    → MayBeExchanged s old_directory old_name new_directory new_name
    → IsTree (record { names = names_after (exchange_edits s old_directory old_name new_directory new_name) s.names; files = s.files })
exchanging_keeps_tree s old_directory old_name new_directory new_name tree may =
    subst (λ found. IsTree (after found (get s.names (new_directory, new_name)))) (sym may.there)
    (subst (λ found. IsTree (after (Some may.file) found)) (sym may.also) (by (file_eq may.other may.file) refl))
  where
    after : Option FileId → Option FileId → Store
    after found taken = record { names = names_after (option_map_or (λ file. option_map_or (exchanged old_directory old_name new_directory new_name file) taken []) found []) s.names; files = s.files }

    by : (b : Bool) → file_eq may.other may.file ≡ b
        → IsTree (record { names = names_after (if b then [] else Removed old_directory old_name ∷ Added old_directory old_name may.other ∷ Removed new_directory new_name ∷ Added new_directory new_name may.file ∷ []) s.names; files = s.files })
    by true test = tree
    by false test =
        let apart : may.other ≢ may.file = other_file may.other may.file test in
        exchange_keeps_tree s old_directory old_name new_directory new_name may.file may.other tree may.there may.also apart may.goes may.comes
        (λ same. let one : Some may.file ≡ Some may.other = sym may.there ∙ ap (get s.names) same ∙ may.also in let is : may.other ≡ may.file = cc in apart is)

-- ---- RENAME, LINK and CREATE, by what they find

-- RENAME, by the new directory
renamed_tree : (s : Store) (old_directory : FileId) (old_name new_name : List ℕ) (other : Option FileId) → IsTree s
    → OfOther other (λ directory. MayBeRenamed s old_directory old_name directory new_name)
    → IsTree (record { names = names_after (option_map_or (λ directory. rename_edits s old_directory old_name directory new_name) other []) s.names; files = s.files })
renamed_tree s old_directory old_name new_name None tree may = absurd may
renamed_tree s old_directory old_name new_name (Some directory) tree may = renaming_keeps_tree s old_directory old_name directory new_name tree may

-- RENAME2, by its flags
rename2_tree : (s : Store) (old_directory : FileId) (old_name : List ℕ) (flags : RenameFlags) (other : Option FileId) (new_name : List ℕ) (truncates : Bool) (count : ℕ) → IsTree s
    → (rename2_rule s old_directory old_name flags other new_name).needs
    → IsTree (record { names = names_after (rename2_rule s old_directory old_name flags other new_name).edits s.names; files = (rename2_rule s old_directory old_name flags other new_name).files truncates count })
rename2_tree s old_directory old_name Replace other new_name truncates count tree may = renamed_tree s old_directory old_name new_name other tree may
rename2_tree s old_directory old_name NoReplace other new_name truncates count tree may = renamed_tree s old_directory old_name new_name other tree may.1
rename2_tree s old_directory old_name Exchange None new_name truncates count tree may = absurd may
rename2_tree s old_directory old_name Exchange (Some directory) new_name truncates count tree may = exchanging_keeps_tree s old_directory old_name directory new_name tree may

-- LINK, by the file
linked_tree : (s : Store) (directory : FileId) (name : List ℕ) (other : Option FileId) → IsTree s → OfOther other (λ file. MayBeLinked s directory name file)
    → IsTree (record { names = names_after (option_map_or (λ file. Added directory name file ∷ []) other []) s.names; files = s.files })
linked_tree s directory name None tree may = absurd may
linked_tree s directory name (Some file) tree may =
    linking_keeps_tree s directory name file tree may.0.0 (linked_is_there s tree file may.2) may.3

-- CREATE, by the file that has the name
created_tree : (s : Store) (asked : ℕ) (directory : FileId) (name : List ℕ) (truncates : Bool) (new : File) (found : Option FileId) → IsTree s → IsDirectory s directory
    → (found ≡ None → HasMadeNone s asked)
    → IsTree (record { names = names_after (option_map_or (λ file. []) found (Added directory name (file_id.Made asked) ∷ [])) s.names; files = files_created s.files asked truncates new found })
created_tree s asked directory name truncates new None tree is none = making_keeps_tree s (file_id.Made asked) directory name new tree is (none refl) tt
created_tree s asked directory name truncates new (Some file) tree is none =
    files_keep_tree s (files_created s.files asked truncates new (Some file)) (created_stay s.files asked truncates new (Some file) none) tree

-- ---- a request

-- each operation leaves a tree where there was one
pub changes_keep_trees : ChangesKeepTrees
changes_keep_trees s x truncates (Acts (Symlink name target o)) count tree may = making_keeps_tree s (file_id.Made x.asked) x.node name (new_symlink target) tree may.0.0.0 may.1 tt
changes_keep_trees s x truncates (Acts (Mknod mode umask name o)) count tree may = making_keeps_tree s (file_id.Made x.asked) x.node name (new_node mode umask) tree may.0.0.0 may.1 tt
changes_keep_trees s x truncates (Acts (Mkdir mode umask name o)) count tree may = making_keeps_tree s (file_id.Made x.asked) x.node name (made_directory mode umask) tree may.0.0.0 may.1 tt
changes_keep_trees s x truncates (Acts (Unlink name o)) count tree may = removal_keeps_tree s (x.node, name) tree
changes_keep_trees s x truncates (Acts (Rmdir name o)) count tree may = removal_keeps_tree s (x.node, name) tree
changes_keep_trees s x truncates (Acts (Rename old_name new_name o)) count tree may = renamed_tree s x.node old_name new_name x.other tree may
changes_keep_trees s x truncates (Acts (Rename2 flags old_name new_name o)) count tree may = rename2_tree s x.node old_name flags x.other new_name truncates count tree may
changes_keep_trees s x truncates (Acts (Link new_name o)) count tree may = linked_tree s x.node new_name x.other tree may
changes_keep_trees s x truncates (Acts (Create flags mode umask name o)) count tree may =
    created_tree s x.asked x.node name truncates (new_regular mode umask) (get s.names (x.node, name)) tree may.0.0 (creates_new s x.asked x.node name flags may)
changes_keep_trees s x truncates other count tree may =
    files_keep_tree s ((rule s x other).files truncates count) (files_stay_after s x truncates count other may) tree

-- ---- trees that are put together

-- a root alone
pub empty_is_tree : (bits : ℕ) → IsTree (empty_tree bits).store
empty_is_tree bits =
    let s : Store = (empty_tree bits).store in
    let none : (directory : FileId) (name : List ℕ) (file : FileId) → HasName s directory name file → ⊥ =
    λ directory name file has. (let free : get s.names (directory, name) ≡ None = get-empty place_cmp (directory, name) in absurd cc) in
    record {
      root_is_one = (record { kind = Directory; bits = bits; bytes = [] }, put_here empty root (record { kind = Directory; bits = bits; bytes = [] }), refl);
      inside = λ directory name file has. absurd (none directory name file has);
      there = λ directory name file has. absurd (none directory name file has);
      one_name = λ directory other name more file has also kind. absurd (none directory name file has);
      ends = λ file. rooted file (λ parent is. absurd (none parent is.0 file is.1));
      next = λ n past.
          put_elsewhere empty root (record { kind = Directory; bits = bits; bytes = [] }) (file_id.Added n) refl ∙ get-empty file_cmp (file_id.Added n);
    }
