-- What is left of a tree is one, in the words of its fields.
use Rattle.std.proofs.Common.{◌≡◌, ℕ, Bool, true, false, cond, List, [], ◌∷◌, Some, None, Result, Ok, Err, refl, sym, ap, subst, ◌∙◌}
use Rattle.std.specs.Prelude.{OnOk, OnErr}
use Rattle.std.specs.FinMap.{FinMap, get, insert, remove, get-insert, get-remove, same_map}
use Rattle.fa_tree.specs.declared.id.FileId.{FileId}
use Rattle.fa_tree.specs.State.{File, file_cmp, file_eq, IsFile, IsDirectory}
use Rattle.fa_tree.specs.Edits.Edit.{Added}
use Rattle.fa_tree.specs.Making.{MayBeMade}
use Rattle.fa_tree.specs.Shape.{IsTree}
use Rattle.fa_tree.specs.parts.FileIdLaws.{file_cmp_total, files_apart, same_file}
use Rattle.fa_tree.specs.parts.NameParts.{NamesShown, edited}
use Rattle.fa_tree.specs.parts.StoredParts.{StoredShown, IsMadeOrNext}
use Rattle.fa_tree.proofs.ShapeLemmas.{making_keeps_tree, linking_keeps_tree}

-- what may be made in a state may be made in the same state
pub still_made : (t u : StoredShown) (directory : FileId) (name : List ℕ) → t ≡ u → MayBeMade u.store directory name → MayBeMade t.store directory name
still_made t u directory name same may = subst (λ (v : StoredShown). MayBeMade v.store directory name) (sym same) may

-- a file more, with a name
pub made_tree : (old new : NamesShown) (files more : FinMap file_cmp File) (directory : FileId) (name : List ℕ) (id : FileId) (file : File)
    → IsTree (record { names = old.names; files = files }) → MayBeMade (record { names = old.names; files = files }) directory name
    → get files id ≡ None → IsMadeOrNext files id → new ≡ edited (Added directory name id ∷ []) old → more ≡ insert files id file
    → IsTree (record { names = new.names; files = more })
made_tree old new files more directory name id file tree may none comes put inserted =
    rw (put, inserted) (making_keeps_tree (record { names = old.names; files = files }) id directory name file tree may.0.0 none comes)

-- a file that came and went again
pub files_back : (files more left : FinMap file_cmp File) (id : FileId) (file : File) → get files id ≡ None → more ≡ insert files id file → left ≡ remove more id → left ≡ files
files_back files more left id file none inserted removed =
    removed ∙ ap (λ m. remove m id) inserted ∙ same_map file_cmp_total files_apart _ _ (λ q.
    get-remove file_cmp_total (insert files id file) id q ∙ by q (file_eq q id) refl)
  where
    by : (q : FileId) (b : Bool) → file_eq q id ≡ b → cond b None (get (insert files id file) q) ≡ get files q
    by q true test = sym (ap (get files) (same_file q id test) ∙ none)
    by q false test = get-insert file_cmp_total files id file q ∙ ap (λ b. cond b (Some file) (get files q)) test

-- what is new in a state, and comes, does so in the same state
pub still_new : (t u : StoredShown) (id : FileId) → t ≡ u → get u.store.files id ≡ None → get t.store.files id ≡ None
still_new t u id same none = ap (λ (v : StoredShown). get v.store.files id) same ∙ none

pub still_comes : (t u : StoredShown) (id : FileId) → t ≡ u → IsMadeOrNext u.store.files id → IsMadeOrNext t.store.files id
still_comes t u id same comes = subst (λ (v : StoredShown). IsMadeOrNext v.store.files id) (sym same) comes

-- a name more
pub named_tree : (old new : NamesShown) (files : FinMap file_cmp File) (directory : FileId) (name : List ℕ) (file : FileId)
    → IsTree (record { names = old.names; files = files }) → MayBeMade (record { names = old.names; files = files }) directory name
    → IsFile (record { names = old.names; files = files }) file → (IsDirectory (record { names = old.names; files = files }) file → ⊥)
    → new ≡ edited (Added directory name file ∷ []) old → IsTree (record { names = new.names; files = files })
named_tree old new files directory name file tree may there other put =
    rw (put) (linking_keeps_tree (record { names = old.names; files = files }) directory name file tree may.0.0 there other)

-- what is there in a state is there in the same state
pub still_there : (t u : StoredShown) (file : FileId) → t ≡ u → IsFile u.store file → IsFile t.store file
still_there t u file same there = subst (λ (v : StoredShown). IsFile v.store file) (sym same) there

-- what is no directory in a state is none in the same state
pub still_other : (t u : StoredShown) (file : FileId) → t ≡ u → (IsDirectory u.store file → ⊥) → IsDirectory t.store file → ⊥
still_other t u file same other = subst (λ (v : StoredShown). IsDirectory v.store file → ⊥) (sym same) other

-- a name more, or none where memory was refused
pub named_or_not : {A E : Type 0} (r : Result A E) (old new : NamesShown) (files : FinMap file_cmp File) (directory : FileId) (name : List ℕ) (file : FileId)
    → IsTree (record { names = old.names; files = files }) → MayBeMade (record { names = old.names; files = files }) directory name
    → IsFile (record { names = old.names; files = files }) file → (IsDirectory (record { names = old.names; files = files }) file → ⊥)
    → OnOk r (new ≡ edited (Added directory name file ∷ []) old) → OnErr r (new ≡ old) → IsTree (record { names = new.names; files = files })
named_or_not (Ok v) old new files directory name file tree may there other put same = named_tree old new files directory name file tree may there other put
named_or_not (Err e) old new files directory name file tree may there other put same = rw (same) tree
