-- What the changes of names and of files make of what is stored.
use Rattle.std.proofs.Common.{◌≡◌, ◌≢◌, ℕ, Bool, true, false, cond, if◌then◌else◌, List, [], ◌∷◌, Option, None, Some, Result, Ok, Err, refl, sym, ap, subst, ◌∙◌}
use Rattle.std.specs.Prelude.{OnOk, OnErr}
use Rattle.std.specs.Option.{option_map_or, option_eq}
use Rattle.std.specs.FinMap.{FinMap, get, insert, get-insert, same_map}
use Rattle.fa_bodies.specs.declared.mode.Kind.{Kind}
use Rattle.fa_bodies.specs.declared.mode.Kind.TheVariants.{Fifo, CharDevice, Directory, BlockDevice, Regular, Symlink, Socket}
use Rattle.fa_bodies.specs.declared.setattr.SetattrIn.{SetattrIn}
use Rattle.fa_bodies.specs.FlagBits.{fattr_mode, fattr_size}
use Rattle.fa_bodies.specs.Flags.{has_flag, fattr_bits}
use Rattle.fa_tree.specs.declared.id.FileId.{FileId}
use Rattle.fa_tree.specs.contracts.id.FileIdPartialEq.TheImpl as derived
use Rattle.fa_tree.specs.State.{File, file_cmp, file_eq, IsSymlink}
use Rattle.fa_tree.proofs.FileLemmas.{put_again}
use Rattle.fa_store.specs.Contents.{resized}
use Rattle.fa_tree.specs.Rules.{with_file}
use Rattle.fa_tree.specs.Edits.{names_after, open_after}
use Rattle.fa_tree.specs.Edits.Edit.{Added, Removed}
use Rattle.fa_tree.specs.Lookups.{bits_set, file_set}
use Rattle.fa_tree.specs.Removing.{MayBeUnlinked}
use Rattle.fa_tree.specs.Renaming.{MayBeRenamed, moved, rename_edits, MayBeExchanged, exchanged}
use Rattle.fa_tree.specs.Shape.{IsTree}
use Rattle.fa_tree.specs.parts.FileIdLaws.{file_cmp_total, files_apart, file_self, same_equal, equal_tested}
use Rattle.fa_tree.specs.parts.FileParts.{with_bits, with_bytes}
use Rattle.fa_tree.specs.parts.NameParts.{NamesShown, edited}
use Rattle.fa_tree.specs.parts.StoredParts.{StoredShown, mode_set, stored_edited, stored_with}
use Rattle.fa_tree.proofs.EditedLemmas.{each_same}
use Rattle.fa_tree.proofs.ShapeLemmas.{put_here, with_stay, files_keep_tree, removal_keeps_tree, renaming_keeps_tree, exchanging_keeps_tree}

-- ---- names

-- a name fewer
pub removed_tree : (old new : NamesShown) (files : FinMap file_cmp File) (directory : FileId) (name : List ℕ) → IsTree (record { names = old.names; files = files })
    → new ≡ edited (Removed directory name ∷ []) old → IsTree (record { names = new.names; files = files })
removed_tree old new files directory name tree gone = rw (gone) (removal_keeps_tree (record { names = old.names; files = files }) (directory, name) tree)

-- what may be unlinked in a state may be unlinked in the same state
pub still_unlinked : (t u : StoredShown) (directory : FileId) (name : List ℕ) → t ≡ u → MayBeUnlinked u.store directory name → MayBeUnlinked t.store directory name
still_unlinked t u directory name same may = subst (λ (v : StoredShown). MayBeUnlinked v.store directory name) (sym same) may

-- what may be renamed in a state may be renamed in the same state
pub still_renamed : (t u : StoredShown) (old_directory : FileId) (old_name : List ℕ) (new_directory : FileId) (new_name : List ℕ) → t ≡ u
    → MayBeRenamed u.store old_directory old_name new_directory new_name → MayBeRenamed t.store old_directory old_name new_directory new_name
still_renamed t u old_directory old_name new_directory new_name same may =
    subst (λ (v : StoredShown). MayBeRenamed v.store old_directory old_name new_directory new_name) (sym same) may

-- a name moved, or not where memory was refused
pub renamed_or_not : {A E : Type 0} (r : Result A E) (old new : NamesShown) (files : FinMap file_cmp File) (old_directory : FileId) (old_name : List ℕ) (new_directory : FileId) (new_name : List ℕ) (file : FileId)
    → IsTree (record { names = old.names; files = files }) → MayBeRenamed (record { names = old.names; files = files }) old_directory old_name new_directory new_name
    → get old.names (old_directory, old_name) ≡ Some file
    → OnOk r (new ≡ edited (moved old_directory old_name new_directory new_name file (get old.names (new_directory, new_name))) old) → OnErr r (new ≡ old)
    → IsTree (record { names = new.names; files = files })
renamed_or_not (Ok v) old new files old_directory old_name new_directory new_name file tree may there renamed same =
    rw (renamed) (subst (λ found. IsTree (record { names = names_after (option_map_or (λ f. moved old_directory old_name new_directory new_name f (get old.names (new_directory, new_name))) found []) old.names; files = files })) there
    (renaming_keeps_tree (record { names = old.names; files = files }) old_directory old_name new_directory new_name tree may))
renamed_or_not (Err e) old new files old_directory old_name new_directory new_name file tree may there renamed same = rw (same) tree

-- what may be exchanged in a state may be exchanged in the same state
pub still_exchanged : (t u : StoredShown) (old_directory : FileId) (old_name : List ℕ) (new_directory : FileId) (new_name : List ℕ) → t ≡ u
    → MayBeExchanged u.store old_directory old_name new_directory new_name → MayBeExchanged t.store old_directory old_name new_directory new_name
still_exchanged t u old_directory old_name new_directory new_name same may =
    subst (λ (v : StoredShown). MayBeExchanged v.store old_directory old_name new_directory new_name) (sym same) may

-- two names with each other's file
pub exchanged_tree : (old new : NamesShown) (files : FinMap file_cmp File) (old_directory : FileId) (old_name : List ℕ) (new_directory : FileId) (new_name : List ℕ) (file other : FileId)
    → IsTree (record { names = old.names; files = files }) → MayBeExchanged (record { names = old.names; files = files }) old_directory old_name new_directory new_name
    → get old.names (old_directory, old_name) ≡ Some file → get old.names (new_directory, new_name) ≡ Some other
    → new ≡ edited (exchanged old_directory old_name new_directory new_name file other) old → IsTree (record { names = new.names; files = files })
exchanged_tree old new files old_directory old_name new_directory new_name file other tree may there also exchanges =
    rw (exchanges)
    (subst (λ found. IsTree (record { names = names_after (option_map_or (λ f. option_map_or (exchanged old_directory old_name new_directory new_name f) (Some other) []) found []) old.names; files = files })) there
    (subst (λ found. IsTree (record { names = names_after (option_map_or (λ f. option_map_or (exchanged old_directory old_name new_directory new_name f) found []) (get old.names (old_directory, old_name)) []) old.names; files = files })) also
    (exchanging_keeps_tree (record { names = old.names; files = files }) old_directory old_name new_directory new_name tree may)))

-- what is found where the test says that it is this file
pub found_same : (found : Option FileId) (file : FileId) → option_eq derived.eq-value.it found (Some file) ≡ true → found ≡ Some file
found_same None file test = absurd cc
found_same (Some other) file test = ap (λ k. Some k) (same_equal other file test)

-- and where it says that it is not
pub found_apart : (found : Option FileId) (file : FileId) → option_eq derived.eq-value.it found (Some file) ≡ false → found ≢ Some file
found_apart None file test same = let clash : None ≡ Some file = same in cc
found_apart (Some other) file test same =
    let one : other ≡ file = cc in
    let clash : true ≡ false = sym (equal_tested other file one) ∙ test in
    cc

-- no edit changes nothing
unedited : (t : StoredShown) → stored_edited [] t ≡ t
unedited t = λ i. record { store = t.store; handles = each_same (open_after []) t.handles (λ asked h is. refl) i }

-- a name is not moved to another of the same file
unmoved : (t : StoredShown) (old_directory : FileId) (old_name : List ℕ) (new_directory : FileId) (new_name : List ℕ) (file : FileId)
    → get t.store.names (old_directory, old_name) ≡ Some file → get t.store.names (new_directory, new_name) ≡ Some file
    → t ≡ stored_edited (rename_edits t.store old_directory old_name new_directory new_name) t
unmoved t old_directory old_name new_directory new_name file there also =
    let test : file_eq file file ≡ true = file_self file in
    sym (ap (λ found. stored_edited (option_map_or (λ f. moved old_directory old_name new_directory new_name f (get t.store.names (new_directory, new_name))) found []) t) there
    ∙ ap (λ found. stored_edited (moved old_directory old_name new_directory new_name file found) t) also
    ∙ ap (λ b. stored_edited (if b then [] else Removed old_directory old_name ∷ Removed new_directory new_name ∷ Added new_directory new_name file ∷ []) t) test
    ∙ unedited t)

-- and so in the same state
pub still_unmoved : (t u : StoredShown) (old_directory : FileId) (old_name : List ℕ) (new_directory : FileId) (new_name : List ℕ) (file : FileId) → t ≡ u
    → get t.store.names (old_directory, old_name) ≡ Some file → get t.store.names (new_directory, new_name) ≡ Some file
    → u ≡ stored_edited (rename_edits u.store old_directory old_name new_directory new_name) u
still_unmoved t u old_directory old_name new_directory new_name file same there also =
    subst (λ (v : StoredShown). v ≡ stored_edited (rename_edits v.store old_directory old_name new_directory new_name) v) same
    (unmoved t old_directory old_name new_directory new_name file there also)

-- ---- files

-- a change that leaves the file
with_same : (files : FinMap file_cmp File) (at : FileId) (change : File → File) → ((file : File) → get files at ≡ Some file → change file ≡ file)
    → with_file files at change ≡ files
with_same files at change same = by (get files at) refl
  where
    by : (found : Option File) → get files at ≡ found → option_map_or (λ file. insert files at (change file)) found files ≡ files
    by None is = refl
    by (Some file) is = ap (insert files at) (same file is) ∙ put_again files at file is

-- a file that a change was made of is there
pub with_there : (files : FinMap file_cmp File) (id : FileId) (file : File) (change : File → File) → get files id ≡ Some file
    → get (with_file files id change) id ≡ Some (change file)
with_there files id file change is =
    ap (λ o. get (option_map_or (λ f. insert files id (change f)) o files) id) is ∙ put_here files id (change file)

-- where there was none there is none
pub with_none : (files : FinMap file_cmp File) (id : FileId) (change : File → File) → get files id ≡ None
    → get (with_file files id change) id ≡ None
with_none files id change is =
    ap (λ o. get (option_map_or (λ f. insert files id (change f)) o files) id) is ∙ is

-- what is put twice is put once
put_twice : (files : FinMap file_cmp File) (at : FileId) (f g : File) → insert (insert files at f) at g ≡ insert files at g
put_twice files at f g = same_map file_cmp_total files_apart _ _ (λ q.
    get-insert file_cmp_total (insert files at f) at g q
    ∙ ap (cond (file_eq q at) (Some g)) (get-insert file_cmp_total files at f q)
    ∙ once (file_eq q at) (get files q) ∙ sym (get-insert file_cmp_total files at g q))
  where
    once : (b : Bool) (x : Option File) → cond b (Some g) (cond b (Some f) x) ≡ cond b (Some g) x
    once true x = refl
    once false x = refl

-- what a change makes of the files, by the file that is there
with_of : (files : FinMap file_cmp File) (at : FileId) (change : File → File) (found : Option File) → get files at ≡ found
    → with_file files at change ≡ option_map_or (λ file. insert files at (change file)) found files
with_of files at change found is = ap (λ o. option_map_or (λ file. insert files at (change file)) o files) is

-- two changes of a file are one
with_both : (files : FinMap file_cmp File) (at : FileId) (first second : File → File) → with_file (with_file files at first) at second ≡ with_file files at (λ f. second (first f))
with_both files at first second = by (get files at) refl
  where
    by : (found : Option File) → get files at ≡ found → with_file (with_file files at first) at second ≡ with_file files at (λ f. second (first f))
    by None is =
        ap (λ l. with_file l at second) (with_of files at first None is) ∙ with_of files at second None is ∙ sym (with_of files at (λ f. second (first f)) None is)
    by (Some file) is =
        ap (λ l. with_file l at second) (with_of files at first (Some file) is)
        ∙ with_of (insert files at (first file)) at second (Some (first file)) (put_here files at (first file))
        ∙ put_twice files at (first file) (second (first file))
        ∙ sym (with_of files at (λ f. second (first f)) (Some file) is)

-- ---- SETATTR

-- with no mode the permission bits stay
bits_stay : (a : SetattrIn) (kind : Kind) (bits : ℕ) → has_flag (fattr_bits a.valid) fattr_mode ≡ false → bits_set a kind bits ≡ bits
bits_stay a Symlink bits test = refl
bits_stay a Fifo bits test = rw (test) refl
bits_stay a CharDevice bits test = rw (test) refl
bits_stay a Directory bits test = rw (test) refl
bits_stay a BlockDevice bits test = rw (test) refl
bits_stay a Regular bits test = rw (test) refl
bits_stay a Socket bits test = rw (test) refl

-- a tree stays one where a file is changed but not its type
pub change_keeps_tree : (t : StoredShown) (files : FinMap file_cmp File) (file : FileId) (change : File → File) → ((f : File) → (change f).kind ≡ f.kind) → IsTree t.store
    → files ≡ with_file t.store.files file change → IsTree (record { names = t.store.names; files = files })
change_keeps_tree t files file change kept tree set =
    rw (set) (files_keep_tree t.store (with_file t.store.files file change) (with_stay t.store.files file change kept) tree)

-- or nothing where memory was refused
pub changed_or_not : {A E : Type 0} (r : Result A E) (t : StoredShown) (files : FinMap file_cmp File) (file : FileId) (change : File → File) → ((f : File) → (change f).kind ≡ f.kind) → IsTree t.store
    → OnOk r (files ≡ with_file t.store.files file change) → OnErr r (files ≡ t.store.files) → IsTree (record { names = t.store.names; files = files })
changed_or_not (Ok v) t files file change kept tree set same = change_keeps_tree t files file change kept tree set
changed_or_not (Err e) t files file change kept tree set same = rw (same) tree

-- no mode leaves a file as it is
pub mode_left : (t : StoredShown) (file : FileId) (a : SetattrIn) → has_flag (fattr_bits a.valid) fattr_mode ≡ false
    → t ≡ stored_with (with_file t.store.files file (mode_set a)) t
mode_left t file a test =
    ap (λ files. stored_with files t) (sym (with_same t.store.files file (mode_set a)
    (λ f is. ap (λ bits. with_bits bits f) (bits_stay a f.kind f.bits test))))

-- and so a symbolic link
pub link_left : (t : StoredShown) (file : FileId) (a : SetattrIn) → IsSymlink t.store file → t ≡ stored_with (with_file t.store.files file (mode_set a)) t
link_left t file a link =
    ap (λ files. stored_with files t) (sym (with_same t.store.files file (mode_set a) (λ f is. ap (λ bits. with_bits bits f) (kept f is))))
  where
    kept : (f : File) → get t.store.files file ≡ Some f → bits_set a f.kind f.bits ≡ f.bits
    kept f is =
        let same : f ≡ link.0 = (let both : Some f ≡ Some link.0 = sym is ∙ link.1 in cc) in
        ap (λ kind. bits_set a kind f.bits) (ap (λ (x : File). x.kind) same ∙ link.2)

-- bits alone, or after a size
set_without : (a : SetattrIn) (file : File) → has_flag (fattr_bits a.valid) fattr_size ≡ false → mode_set a file ≡ file_set a file
set_without a file test = rw (test) refl

set_with : (a : SetattrIn) (file : File) → has_flag (fattr_bits a.valid) fattr_size ≡ true → mode_set a (with_bytes (λ bytes. resized bytes a.size) file) ≡ file_set a file
set_with a file test = rw (test) refl

-- the same change of each file
with_alike : (files : FinMap file_cmp File) (at : FileId) (f g : File → File) → ((file : File) → f file ≡ g file) → with_file files at f ≡ with_file files at g
with_alike files at f g same = by (get files at)
  where
    by : (found : Option File) → option_map_or (λ file. insert files at (f file)) found files ≡ option_map_or (λ file. insert files at (g file)) found files
    by None = refl
    by (Some file) = ap (insert files at) (same file)

-- what SETATTR leaves, without a size
pub set_mode_only : (old between new : StoredShown) (file : FileId) (a : SetattrIn) → has_flag (fattr_bits a.valid) fattr_size ≡ false → between ≡ old
    → new ≡ stored_with (with_file between.store.files file (mode_set a)) between → new ≡ stored_with (with_file old.store.files file (file_set a)) old
set_mode_only old between new file a test same set =
    set ∙ ap (λ t. stored_with (with_file t.store.files file (mode_set a)) t) same
    ∙ ap (λ files. stored_with files old) (with_alike old.store.files file (mode_set a) (file_set a) (λ f. set_without a f test))

-- and with one
pub set_whole : (old between new : StoredShown) (file : FileId) (a : SetattrIn) → has_flag (fattr_bits a.valid) fattr_size ≡ true
    → between ≡ stored_with (with_file old.store.files file (with_bytes (λ bytes. resized bytes a.size))) old
    → new ≡ stored_with (with_file between.store.files file (mode_set a)) between → new ≡ stored_with (with_file old.store.files file (file_set a)) old
set_whole old between new file a test same set =
    set ∙ ap (λ t. stored_with (with_file t.store.files file (mode_set a)) t) same
    ∙ ap (λ files. stored_with files old)
    (with_both old.store.files file (with_bytes (λ bytes. resized bytes a.size)) (mode_set a)
    ∙ with_alike old.store.files file (λ f. mode_set a (with_bytes (λ bytes. resized bytes a.size) f)) (file_set a) (λ f. set_with a f test))
