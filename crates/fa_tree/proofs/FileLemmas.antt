-- What the table of files shows, and what it shows after a write.
use Rattle.std.proofs.Common.{◌≡◌, ℕ, ◌+◌, Bool, true, false, cond, List, [], ◌∷◌, length, map, Option, Some, None, is_some, refl, sym, ap, ◌∙◌, arith}
use Rattle.std.specs.Prelude.{option_map}
use Rattle.std.specs.Borrow.{Bor}
use Rattle.std.specs.Option.{option_copied}
use Rattle.std.specs.Map.{lookup, keys_of}
use Rattle.std.specs.List.{IsDistinct, AllByRecursion}
use Rattle.std.specs.Ordering.{eq_by_cmp}
use Rattle.std.specs.FinMap as map
use Rattle.std.specs.FinMap.{FinMap, find}
use Rattle.fa_tree.specs.declared.id.FileId.{FileId}
use Rattle.fa_tree.specs.contracts.id.FileIdPartialEq.TheImpl as derived
use Rattle.fa_tree.specs.declared.file as declared
use Rattle.fa_tree.specs.declared.files.CountedFile.{CountedFile}
use Rattle.fa_tree.specs.State as state
use Rattle.fa_tree.specs.State.{file_cmp, file_eq}
use Rattle.fa_tree.specs.Rules.{with_file}
use Rattle.fa_tree.specs.parts.FileIdLaws.{file_cmp_total, files_apart, file_equiv, file_ties, same_file}
use Rattle.fa_tree.specs.parts.FileParts.{file_shown, files_shown, with_bytes}

-- the files as a table has them
abbrev Table : Type 0
Table = List (FileId × CountedFile)

-- a file that is there is put again
pub put_again : (files : FinMap file_cmp state.File) (id : FileId) (f : state.File) → map.get files id ≡ Some f → map.insert files id f ≡ files
put_again files id f is = map.same_map file_cmp_total files_apart _ _ (λ q. map.get-insert file_cmp_total files id f q ∙ by q (file_eq q id) refl)
  where
    by : (q : FileId) (b : Bool) → file_eq q id ≡ b → cond b (Some f) (map.get files q) ≡ map.get files q
    by q true test = sym (ap (map.get files) (same_file q id test) ∙ is)
    by q false test = refl

-- ---- what the table shows

found : (q : FileId) (table : Table) → find file_cmp q (map (λ (e : FileId × CountedFile). (e.0, file_shown e.1.file)) table) ≡ option_map (λ (e : CountedFile). file_shown e.file) (lookup (derived.eq-value.it q) table)
found q [] = refl
found q (e ∷ table) = either (eq_by_cmp file_cmp q e.0) (derived.eq-value.it q e.0) (file_ties q e.0) _ _ (found q table)
  where
    either : (a b : Bool) → a ≡ b → (x : Option state.File) (y : Option CountedFile) → x ≡ option_map (λ (e : CountedFile). file_shown e.file) y → cond a (Some (file_shown e.1.file)) x ≡ option_map (λ (e : CountedFile). file_shown e.file) (cond b (Some e.1) y)
    either true true is x y same = refl
    either true false is x y same = absurd cc
    either false true is x y same = absurd cc
    either false false is x y same = same

pub get_files : (table : Table) (q : FileId) → map.get (files_shown table) q ≡ option_map (λ (e : CountedFile). file_shown e.file) (lookup (derived.eq-value.it q) table)
get_files table q = map.get-from_entries file_cmp_total (map (λ (e : FileId × CountedFile). (e.0, file_shown e.1.file)) table) q ∙ found q table

-- a file that is lent shows what is in the table
pub shown_copied : (lent : Option (Bor CountedFile)) → option_map (λ e. file_shown e.now.file) lent ≡ option_map (λ (e : CountedFile). file_shown e.file) (option_copied lent)
shown_copied None = refl
shown_copied (Some f) = refl

-- ---- after a write

module _ (old new : Table) (id : FileId) (w : Option CountedFile)
    (wrote : (q : FileId) → lookup (derived.eq-value.it q) new ≡ cond (derived.eq-value.it id q) w (lookup (derived.eq-value.it q) old)) where
  written : (q : FileId) → map.get (files_shown new) q ≡ cond (file_eq q id) (option_map (λ (e : CountedFile). file_shown e.file) w) (map.get (files_shown old) q)
  written q =
      get_files new q ∙ ap (option_map (λ (e : CountedFile). file_shown e.file)) (wrote q)
      ∙ either (derived.eq-value.it id q) (lookup (derived.eq-value.it q) old)
      ∙ ap (cond (derived.eq-value.it id q) (option_map (λ (e : CountedFile). file_shown e.file) w)) (sym (get_files old q))
      ∙ ap (λ b. cond b (option_map (λ (e : CountedFile). file_shown e.file) w) (map.get (files_shown old) q)) same
    where
      either : (b : Bool) (x : Option CountedFile) → option_map (λ (e : CountedFile). file_shown e.file) (cond b w x) ≡ cond b (option_map (λ (e : CountedFile). file_shown e.file) w) (option_map (λ (e : CountedFile). file_shown e.file) x)
      either true x = refl
      either false x = refl

      same : derived.eq-value.it id q ≡ file_eq q id
      same = sym (file_ties id q) ∙ file_equiv.symm id q

-- a file is put
pub files_put : (old new : Table) (id : FileId) (f : CountedFile)
    → ((q : FileId) → lookup (derived.eq-value.it q) new ≡ cond (derived.eq-value.it id q) (Some f) (lookup (derived.eq-value.it q) old))
    → files_shown new ≡ map.insert (files_shown old) id (file_shown f.file)
files_put old new id f wrote = map.same_map file_cmp_total files_apart _ _ (λ q.
    written old new id (Some f) wrote q ∙ sym (map.get-insert file_cmp_total (files_shown old) id (file_shown f.file) q))

-- a file is taken away
pub files_removed : (old new : Table) (id : FileId)
    → ((q : FileId) → lookup (derived.eq-value.it q) new ≡ cond (derived.eq-value.it id q) None (lookup (derived.eq-value.it q) old))
    → files_shown new ≡ map.remove (files_shown old) id
files_removed old new id wrote = map.same_map file_cmp_total files_apart _ _ (λ q.
    written old new id None wrote q ∙ sym (map.get-remove file_cmp_total (files_shown old) id q))

-- a file is written that shows what a change makes of the one that was there
pub files_changed : (old new : Table) (id : FileId) (f g : CountedFile) (change : state.File → state.File)
    → lookup (derived.eq-value.it id) old ≡ Some f → file_shown g.file ≡ change (file_shown f.file)
    → ((q : FileId) → lookup (derived.eq-value.it q) new ≡ cond (derived.eq-value.it id q) (Some g) (lookup (derived.eq-value.it q) old))
    → files_shown new ≡ with_file (files_shown old) id change
files_changed old new id f g change there same wrote =
    files_put old new id g wrote ∙ ap (map.insert (files_shown old) id) same
    ∙ sym (with_there (files_shown old) id (file_shown f.file) change (get_files old id ∙ ap (option_map (λ (e : CountedFile). file_shown e.file)) there))
  where
    with_there : (files : FinMap file_cmp state.File) (id : FileId) (f : state.File) (change : state.File → state.File) → map.get files id ≡ Some f → with_file files id change ≡ map.insert files id (change f)
    with_there files id f change is = rw is refl

-- an entry with other bytes
abbrev pub with_contents : CountedFile → List ℕ → CountedFile
with_contents f bytes = record { file = record { kind = f.file.kind; bits = f.file.bits; contents = bytes }; counts = f.counts }

-- a file is written that shows what was there
pub files_stay : (old new : Table) (id : FileId) (f g : CountedFile) → lookup (derived.eq-value.it id) old ≡ Some f → file_shown g.file ≡ file_shown f.file
    → ((q : FileId) → lookup (derived.eq-value.it q) new ≡ cond (derived.eq-value.it id q) (Some g) (lookup (derived.eq-value.it q) old))
    → files_shown new ≡ files_shown old
files_stay old new id f g there same wrote =
    files_put old new id g wrote ∙ ap (map.insert (files_shown old) id) same
    ∙ put_again (files_shown old) id (file_shown f.file) (get_files old id ∙ ap (option_map (λ (e : CountedFile). file_shown e.file)) there)

-- a file's bytes are changed
pub bytes_changed : (old new : Table) (id : FileId) (f : CountedFile) (bytes : List ℕ) (change : List ℕ → List ℕ)
    → lookup (derived.eq-value.it id) old ≡ Some f → bytes ≡ change f.file.contents
    → ((q : FileId) → lookup (derived.eq-value.it q) new ≡ cond (derived.eq-value.it id q) (Some (with_contents f bytes)) (lookup (derived.eq-value.it q) old))
    → files_shown new ≡ with_file (files_shown old) id (with_bytes change)
bytes_changed old new id f bytes change there same wrote =
    files_changed old new id f (with_contents f bytes) (with_bytes change) there
    (ap (λ (b : List ℕ). let shown : state.File = record { kind = f.file.kind; bits = f.file.bits; bytes = b } in shown) same) wrote

-- a file's bytes stay
pub files_kept : (old new : Table) (id : FileId) (f : CountedFile) (bytes : List ℕ) → lookup (derived.eq-value.it id) old ≡ Some f → bytes ≡ f.file.contents
    → ((q : FileId) → lookup (derived.eq-value.it q) new ≡ cond (derived.eq-value.it id q) (Some (with_contents f bytes)) (lookup (derived.eq-value.it q) old))
    → files_shown new ≡ files_shown old
files_kept old new id f bytes there same wrote =
    files_put old new id (with_contents f bytes) wrote
    ∙ ap (λ (b : List ℕ). let shown : state.File = record { kind = f.file.kind; bits = f.file.bits; bytes = b } in map.insert (files_shown old) id shown) same
    ∙ put_again (files_shown old) id (file_shown f.file) (get_files old id ∙ ap (option_map (λ (e : CountedFile). file_shown e.file)) there)

-- no file is there
pub files_unchanged : (old : Table) (id : FileId) (change : state.File → state.File)
    → lookup (derived.eq-value.it id) old ≡ None → files_shown old ≡ with_file (files_shown old) id change
files_unchanged old id change none = sym (without (files_shown old) (get_files old id ∙ ap (option_map (λ (e : CountedFile). file_shown e.file)) none))
  where
    without : (files : FinMap file_cmp state.File) → map.get files id ≡ None → with_file files id change ≡ files
    without files is = rw is refl

-- ---- how many there are

-- of entries of which no key has another behind it none is found before it comes
none_behind : (id : FileId) (table : Table) → AllByRecursion (λ y. derived.eq-value.it id y ≡ false) (keys_of table) → lookup (derived.eq-value.it id) table ≡ None
none_behind id [] apart = refl
none_behind id (e ∷ table) apart = ap (λ b. cond b (Some e.1) (lookup (derived.eq-value.it id) table)) apart.0 ∙ none_behind id table apart.1

pub count_files : (table : Table) → IsDistinct derived.eq-value.it (keys_of table) → map.len (files_shown table) ≡ length table
unfolding IsDistinct
count_files [] distinct = map.len-empty file_cmp state.File
count_files (e ∷ table) distinct =
    map.len-insert file_cmp_total (files_shown table) e.0 (file_shown e.1.file)
    ∙ ap (λ b. cond b (map.len (files_shown table)) (map.len (files_shown table) + 1)) absent
    ∙ (let rest = count_files table distinct.1 in omega (arith, rest))
  where
    absent : is_some (map.get (files_shown table) e.0) ≡ false
    absent = ap is_some (get_files table e.0 ∙ ap (option_map (λ (e : CountedFile). file_shown e.file)) (none_behind e.0 table distinct.0))
