-- What a request makes of what is stored, arm by arm.
use Rattle.std.proofs.Common.{◌≡◌, ℕ, Bool, true, false, if◌then◌else◌, List, [], Option, None, Some, refl, sym, ap, subst, ◌∙◌}
use Rattle.std.specs.Ordering.{nat_cmp}
use Rattle.std.specs.FinMap.{FinMap, get, insert}
use Rattle.fa_bodies.specs.declared.flags.OpenFlags.{OpenFlags}
use Rattle.fa_bodies.specs.declared.attributes.AttrOut.{AttrOut}
use Rattle.fa_bodies.specs.declared.handles.OpenOut.{OpenOut}
use Rattle.fa_bodies.specs.declared.setattr.SetattrIn.{SetattrIn}
use Rattle.fa_bodies.specs.declared.rename_flags.RenameFlags.{RenameFlags}
use Rattle.fa_bodies.specs.declared.rename_flags.RenameFlags.TheVariants.{Replace, NoReplace, Exchange}
use Rattle.fa_ledger.specs.declared.operation.Outcome.{Outcome}
use Rattle.fa_ledger.specs.Kinds.{Reads}
use Rattle.fa_ledger.specs.Operations.{PlainAction}
use Rattle.fa_ledger.specs.Operations.PlainAction.{Lookup, Getattr, Setattr, Readlink, Open, Read, Write, Opendir}
use Rattle.fa_tree.specs.declared.id.FileId.{FileId}
use Rattle.fa_tree.specs.State.{File, Store, OpenDirectory, IsFree, file_cmp}
use Rattle.fa_tree.specs.Resolved.{Resolved, OfOther}
use Rattle.fa_tree.specs.Edits.{open_after, handles_after}
use Rattle.fa_tree.specs.Opening.{opened}
use Rattle.fa_tree.specs.Lookups.{file_set}
use Rattle.fa_tree.specs.Rules.{with_file}
use Rattle.fa_tree.specs.Renaming.{rename2_rule}
use Rattle.fa_tree.specs.Contents.{file_written}
use Rattle.fa_tree.specs.Making.{MayBeMade, HasMadeNone, MayBeCreated, emptied, files_created}
use Rattle.fa_tree.specs.parts.StoredParts.{StoredShown, stored_changed, stored_created, stored_with, stored_opened, stored_left}
use Rattle.fa_tree.proofs.EditedLemmas.{each_same}
use Rattle.fa_tree.proofs.ShapeLemmas.{creates_new}

-- a second file that is named is such
pub other_is : (other : Option FileId) (file : FileId) (Such : FileId → Type 0) → other ≡ Some file → OfOther other Such → Such file
other_is other file Such is may = subst (λ o. OfOther o Such) is may

pub none_is : (other : Option FileId) (Such : FileId → Type 0) → other ≡ None → OfOther other Such → ⊥
none_is other Such is may = subst (λ o. OfOther o Such) is may

-- RENAME2 may not succeed without one
pub rename2_of_none : (s : Store) (old_directory : FileId) (old_name : List ℕ) (flags : RenameFlags) (other : Option FileId) (new_name : List ℕ) → other ≡ None
    → (rename2_rule s old_directory old_name flags other new_name).needs → ⊥
rename2_of_none s old_directory old_name flags other new_name is may =
    by flags (subst (λ o. (rename2_rule s old_directory old_name flags o new_name).needs) is may)
  where
    by : (flags : RenameFlags) → (rename2_rule s old_directory old_name flags None new_name).needs → ⊥
    by Replace may = may
    by NoReplace may = may.0
    by Exchange may = may

-- what CREATE asks for where the name is not there
pub created_made : (s : Store) (asked : ℕ) (directory : FileId) (name : List ℕ) (flags : OpenFlags) → MayBeCreated s asked directory name flags → IsFree s directory name
    → MayBeMade s directory name × HasMadeNone s asked
created_made s asked directory name flags may free = ((may.0, free), creates_new s asked directory name flags may free)

-- no edit leaves open directories as they are
pub stays_open : (handles : FinMap nat_cmp OpenDirectory) → handles_after [] handles ≡ handles
stays_open handles = each_same (open_after []) handles (λ asked h there. refl)

still_open : (t : StoredShown) (store : Store)
    → ◌≡◌ {A = StoredShown} (record { store = store; handles = t.handles }) (record { store = store; handles = handles_after [] t.handles })
still_open t store =
    let with : FinMap nat_cmp OpenDirectory → StoredShown = λ handles. record { store = store; handles = handles } in
    ap with (sym (stays_open t.handles))

-- SETATTR
pub setattr_changed : (t : StoredShown) (x : Resolved) (truncates : Bool) (a : SetattrIn) (o : Outcome AttrOut) (count : ℕ)
    → stored_with (with_file t.store.files x.node (file_set a)) t ≡ stored_changed x truncates (Setattr a o) count t
setattr_changed t x truncates a o count = still_open t (record { names = t.store.names; files = with_file t.store.files x.node (file_set a) })

-- OPEN
pub open_changed : (t : StoredShown) (x : Resolved) (truncates : Bool) (o : Outcome OpenOut) (count : ℕ)
    → stored_with (if truncates then with_file t.store.files x.node emptied else t.store.files) t ≡ stored_changed x truncates (Open o) count t
open_changed t x truncates o count = still_open t (record { names = t.store.names; files = (if truncates then with_file t.store.files x.node emptied else t.store.files) })

-- WRITE
pub write_changed : (t : StoredShown) (x : Resolved) (truncates : Bool) (offset size : ℕ) (payload : List ℕ) (o : Outcome ℕ) (count : ℕ)
    → stored_with (with_file t.store.files x.node (file_written offset payload count)) t
    ≡ stored_changed x truncates (Write offset size payload o) count t
write_changed t x truncates offset size payload o count =
    still_open t (record { names = t.store.names; files = with_file t.store.files x.node (file_written offset payload count) })

-- CREATE of a name that is there
created_there : (files : FinMap file_cmp File) (asked : ℕ) (truncates : Bool) (new : File) (id : FileId)
    → (if truncates then with_file files id emptied else files) ≡ files_created files asked truncates new (Some id)
created_there files asked true new id = refl
created_there files asked false new id = refl

pub created_found : (t : StoredShown) (asked : ℕ) (directory : FileId) (name : List ℕ) (truncates : Bool) (new : File) (id : FileId)
    → get t.store.names (directory, name) ≡ Some id
    → stored_with (if truncates then with_file t.store.files id emptied else t.store.files) t ≡ stored_created asked directory name truncates new t
created_found t asked directory name truncates new id is =
    rw (is) (ap (λ files. stored_with files t) (created_there t.store.files asked truncates new id)
    ∙ still_open t (record { names = t.store.names; files = files_created t.store.files asked truncates new (Some id) }))

-- what reads leaves what is stored
pub still_changed : (t : StoredShown) (x : Resolved) (truncates : Bool) (a : PlainAction) (count : ℕ) → Reads a → t ≡ stored_changed x truncates a count t
still_changed t x truncates (Lookup name o) count reads = still_open t t.store
still_changed t x truncates (Getattr o) count reads = still_open t t.store
still_changed t x truncates (Readlink o) count reads = still_open t t.store
still_changed t x truncates (Read offset size o) count reads = still_open t t.store
still_changed t x truncates (Opendir o) count reads = still_open t t.store
still_changed t x truncates other count reads = absurd reads

-- ---- a directory that is opened

pub opendir_left : (t : StoredShown) (x : Resolved) (truncates : Bool) (o : Outcome OpenOut) (asked count : ℕ)
    → stored_opened asked x.node t ≡ stored_left x truncates (Opendir o) asked true count t
opendir_left t x truncates o asked count =
    let with : FinMap nat_cmp OpenDirectory → StoredShown = λ handles. record { store = t.store; handles = insert handles asked (opened t.store.names x.node) } in
    ap with (sym (stays_open t.handles))
