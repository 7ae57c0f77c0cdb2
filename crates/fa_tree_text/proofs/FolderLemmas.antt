-- The directory of a path is what the path leads to up to its last slash; and what a path led to, it leads to when more was added.
use Rattle.std.proofs.Common.{◌≡◌, ℕ, Bool, true, false, cond, List, [], ◌∷◌, ◌++◌, All, Option, Some, None, refl, sym, ap, subst, ◌∙◌, append_assoc}
use Rattle.std.specs.Prelude.{IfSome}
use Rattle.std.specs.List.{flat_map}
use Rattle.std.specs.Ordering.{eq_by_cmp}
use Rattle.std.specs.FinMap as map
use Rattle.std.specs.FinMap.{FinMap}
use Rattle.std.proofs.lemmas.List.Elements.{All-cons, All-head, All-nil, All-push, All-tail}
use Rattle.percent_encoding.specs.Percent.{percent_decode}
use Rattle.fa_bodies.specs.declared.mode.Kind.{Kind}
use Rattle.fa_bodies.specs.Names.{LacksByte}
use Rattle.fa_tree.specs.declared.id.FileId.{FileId}
use Rattle.fa_tree.specs.State.{File, Place, place_cmp, Store, TreeState, root, HasName}
use Rattle.fa_tree.specs.Building.{MayBeAdded, next_added, tree_added, MayBeLinkedTo, tree_linked}
use Rattle.fa_tree.proofs.CallerLemmas.{place_cmp_total, same_place, insert_there}
use Rattle.fa_tree_text.specs.declared.folders.Folder.{Folder}
use Rattle.fa_tree_text.specs.declared.folders.Folders.{Folders}
use Rattle.fa_tree_text.specs.Paths.{slashed, IsSpelledName, LeadsTo}
use Rattle.fa_tree_text.specs.parts.Ways.{Reaches, IsFileAt}
use Rattle.fa_tree_text.specs.parts.Folders.{IsFound, AreFound}
use Rattle.fa_tree_text.proofs.SplitLemmas.{no_split, one_last_split}
use Rattle.fa_tree_text.proofs.WayLemmas.{no_slash, path_on}

-- ---- the last directory of a path

-- spelled names, and the last of them
record Ends (names : List (List ℕ)) : Type 0 where
  pub front : List (List ℕ)
  pub last : List ℕ
  pub whole : names ≡ front ++ last ∷ []
  pub are : All IsSpelledName front
  pub is : IsSpelledName last

ends_of : (name : List ℕ) (names : List (List ℕ)) → All IsSpelledName (name ∷ names) → Ends (name ∷ names)
ends_of name [] are = record { front = []; last = name; whole = refl; are = All-nil IsSpelledName; is = All-head IsSpelledName name [] are }
ends_of name (next ∷ names) are =
    let later : Ends (next ∷ names) = ends_of next names (All-tail IsSpelledName name (next ∷ names) are) in
    record {
      front = name ∷ later.front;
      last = later.last;
      whole = ap (λ (x : List (List ℕ)). name ∷ x) later.whole;
      are = All-cons IsSpelledName name later.front (All-head IsSpelledName name (next ∷ names) are) later.are;
      is = later.is;
    }

-- the text of a path, by that of its directory
text_of_last : (ds : List (List ℕ)) (d name : List ℕ) → flat_map slashed (ds ++ d ∷ []) ++ name ≡ (flat_map slashed ds ++ d) ++ 47 ∷ name
text_of_last [] d name = path_on d [] name
text_of_last (e ∷ ds) d name =
    path_on e (ds ++ d ∷ []) name ∙ ap (λ (x : List ℕ). e ++ 47 ∷ x) (text_of_last ds d name)
    ∙ sym (ap (λ (x : List ℕ). x ++ 47 ∷ name) (path_on e ds d) ∙ append_assoc e (47 ∷ (flat_map slashed ds ++ d)) (47 ∷ name))

-- one directory more at the end of a way
leads_more : (s : Store) (from : FileId) (ds : List (List ℕ)) (d : List ℕ) (between to : FileId) → LeadsTo s from ds between → HasName s between (percent_decode d) to → LeadsTo s from (ds ++ d ∷ []) to
leads_more s from [] d between to leads has = (to, subst (λ (f : FileId). HasName s f (percent_decode d) to) leads has, refl)
leads_more s from (e ∷ ds) d between to leads has = (leads.0, leads.1, leads_more s leads.0 ds d between to leads.2 has)

leads_before : (s : Store) (from : FileId) (ds : List (List ℕ)) (d : List ℕ) (to : FileId) → LeadsTo s from (ds ++ d ∷ []) to → (between : FileId) × LeadsTo s from ds between × HasName s between (percent_decode d) to
leads_before s from [] d to leads = (from, refl, subst (λ (f : FileId). HasName s from (percent_decode d) f) (sym leads.2) leads.1)
leads_before s from (e ∷ ds) d to leads =
    let later = leads_before s leads.0 ds d to leads.2 in
    (later.0, (leads.0, leads.1, later.1), later.2)

-- a path leads to a name in the directory that it names
pub reaches_in : (s : Store) (text folder last : List ℕ) (directory : FileId) → text ≡ folder ++ 47 ∷ last → IsFileAt s folder directory → IsSpelledName last → Reaches s root text directory (percent_decode last)
reaches_in s text folder last directory whole at is = record {
  path = record { directories = at.path.directories ++ at.path.name ∷ []; name = last };
  spelled = whole ∙ ap (λ (x : List ℕ). x ++ 47 ∷ last) at.spelled ∙ sym (text_of_last at.path.directories at.path.name last);
  is_path = record { directories = All-push IsSpelledName at.path.directories at.path.name at.is_path.directories at.is_path.name; name = is };
  leads = leads_more s root at.path.directories at.path.name at.is_at.0 directory at.is_at.1 at.is_at.2;
  last_is = refl;
}

-- and to no other
pub record IsWithin (s : Store) (folder last : List ℕ) (directory : FileId) : Type 0 where
  pub at : IsFileAt s folder directory
  pub is_spelled : IsSpelledName last

within_of : (s : Store) (text folder last : List ℕ) (to : FileId) (ds : List (List ℕ)) (name : List ℕ) → text ≡ folder ++ 47 ∷ last → LacksByte 47 last
    → text ≡ flat_map slashed ds ++ name → All IsSpelledName ds → IsSpelledName name → LeadsTo s root ds to → IsWithin s folder last to
within_of s text folder last to [] name whole lacks path are is leads = absurd (no_split 47 text folder last (subst (LacksByte 47) (sym path) (no_slash name is)) whole)
within_of s text folder last to (d ∷ ds) name whole lacks path are is leads =
    let end : Ends (d ∷ ds) = ends_of d ds are in
    let split : text ≡ (flat_map slashed end.front ++ end.last) ++ 47 ∷ name = path ∙ ap (λ (x : List (List ℕ)). flat_map slashed x ++ name) end.whole ∙ text_of_last end.front end.last name in
    let parts = one_last_split 47 folder (flat_map slashed end.front ++ end.last) last name lacks (no_slash name is) (sym whole ∙ split) in
    let way = leads_before s root end.front end.last to (subst (λ (x : List (List ℕ)). LeadsTo s root x to) end.whole leads) in
    record {
      at = record { path = record { directories = end.front; name = end.last }; spelled = parts.0; is_path = record { directories = end.are; name = end.is }; is_at = way };
      is_spelled = subst IsSpelledName (sym parts.1) is;
    }

pub within_reached : (s : Store) (text folder last : List ℕ) (to : FileId) (name : List ℕ) → text ≡ folder ++ 47 ∷ last → LacksByte 47 last → Reaches s root text to name → IsWithin s folder last to
within_reached s text folder last to name whole lacks r =
    within_of s text folder last to r.path.directories r.path.name whole lacks r.spelled r.is_path.directories r.is_path.name r.leads

-- ---- what is found stays found

-- each name of the one store is in the other, for the same file
abbrev Keeps : Store → Store → Type 0
Keeps s t = (directory : FileId) (name : List ℕ) (file : FileId) → HasName s directory name file → HasName t directory name file

leads_kept : (s t : Store) → Keeps s t → (from : FileId) (ds : List (List ℕ)) (to : FileId) → LeadsTo s from ds to → LeadsTo t from ds to
leads_kept s t keeps from [] to leads = leads
leads_kept s t keeps from (d ∷ ds) to leads = (leads.0, keeps from (percent_decode d) leads.0 leads.1, leads_kept s t keeps leads.0 ds to leads.2)

file_kept : (s t : Store) → Keeps s t → (text : List ℕ) (file : FileId) → IsFileAt s text file → IsFileAt t text file
file_kept s t keeps text file at = record {
  path = at.path;
  spelled = at.spelled;
  is_path = at.is_path;
  is_at = (at.is_at.0, leads_kept s t keeps root at.path.directories at.is_at.0 at.is_at.1, keeps at.is_at.0 (percent_decode at.path.name) file at.is_at.2);
}

one_kept : (s t : Store) → Keeps s t → (folder : Option Folder) → IfSome folder (IsFound s) → IfSome folder (IsFound t)
one_kept s t keeps None found = tt
one_kept s t keeps (Some folder) found = file_kept s t keeps folder.path.now folder.directory found

found_kept : (s t : Store) → Keeps s t → (folders : Folders) → AreFound s folders → AreFound t folders
found_kept s t keeps folders found = (one_kept s t keeps folders.parent found.0, one_kept s t keeps folders.added found.1)

-- a further name at a free place leaves the others as they are
name_kept : (names : FinMap place_cmp FileId) (free q : Place) (file x : FileId) → map.get names free ≡ None → map.get names q ≡ Some x → map.get (map.insert names free file) q ≡ Some x
name_kept names free q file x none is = by (eq_by_cmp place_cmp q free) refl (map.get-insert place_cmp_total names free file q)
  where
    by : (b : Bool) → eq_by_cmp place_cmp q free ≡ b → map.get (map.insert names free file) q ≡ cond b (Some file) (map.get names q) → map.get (map.insert names free file) q ≡ Some x
    by true tie after = absurd (let clash : None ≡ Some x = sym none ∙ ap (map.get names) (sym (same_place q free tie)) ∙ is in cc)
    by false apart after = after ∙ is

-- a file that was added
pub found_added : (old new : TreeState) (parent : FileId) (name : List ℕ) (kind : Kind) (body : List ℕ) (file : File) (folders : Folders) → MayBeAdded old parent name kind body
    → new ≡ tree_added old parent name file → AreFound old.store folders → AreFound new.store folders
found_added old new parent name kind body file folders allowed added found =
    subst (λ (t : TreeState). AreFound t.store folders) (sym added)
    (found_kept old.store (tree_added old parent name file).store (λ d n f has. name_kept old.store.names (parent, name) (d, n) (next_added old) f allowed.0.1 has) folders found)

pub file_added : (old new : TreeState) (parent : FileId) (name : List ℕ) (kind : Kind) (body : List ℕ) (file : File) (text : List ℕ) → MayBeAdded old parent name kind body
    → new ≡ tree_added old parent name file → Reaches old.store root text parent name → IsFileAt new.store text (next_added old)
file_added old new parent name kind body file text allowed added r =
    let there : map.get (map.insert old.store.names (parent, name) (next_added old)) (parent, name) ≡ Some (next_added old) = insert_there place_cmp_total old.store.names (parent, name) (next_added old) in
    let store = (tree_added old parent name file).store in
    let keeps : Keeps old.store store = λ d n f has. name_kept old.store.names (parent, name) (d, n) (next_added old) f allowed.0.1 has in
    subst (λ (t : TreeState). IsFileAt t.store text (next_added old)) (sym added)
    (record {
      path = r.path;
      spelled = r.spelled;
      is_path = r.is_path;
      is_at = (parent, leads_kept old.store store keeps root r.path.directories parent r.leads, subst (λ (n : List ℕ). HasName store parent n (next_added old)) r.last_is there);
    })

-- the directory of what was added
reaches_kept : (s t : Store) → Keeps s t → (text : List ℕ) (parent : FileId) (last : List ℕ) → Reaches s root text parent last → Reaches t root text parent last
reaches_kept s t keeps text parent last r = record { path = r.path; spelled = r.spelled; is_path = r.is_path; leads = leads_kept s t keeps root r.path.directories parent r.leads; last_is = r.last_is }

pub parent_added : (old new : TreeState) (parent : FileId) (name : List ℕ) (kind : Kind) (body : List ℕ) (file : File) (text : List ℕ) → MayBeAdded old parent name kind body
    → new ≡ tree_added old parent name file → Reaches old.store root text parent name → Reaches new.store root text parent name
parent_added old new parent name kind body file text allowed added r =
    subst (λ (t : TreeState). Reaches t.store root text parent name) (sym added)
    (reaches_kept old.store (tree_added old parent name file).store (λ d n f has. name_kept old.store.names (parent, name) (d, n) (next_added old) f allowed.0.1 has) text parent name r)

-- a further name that was added
pub found_linked : (old new : TreeState) (parent : FileId) (name : List ℕ) (file : FileId) (folders : Folders) → MayBeLinkedTo old parent name file
    → new ≡ tree_linked old parent name file → AreFound old.store folders → AreFound new.store folders
found_linked old new parent name file folders allowed added found =
    subst (λ (t : TreeState). AreFound t.store folders) (sym added)
    (found_kept old.store (tree_linked old parent name file).store (λ d n f has. name_kept old.store.names (parent, name) (d, n) file f allowed.0.1 has) folders found)

pub parent_linked : (old new : TreeState) (parent : FileId) (name : List ℕ) (file : FileId) (text : List ℕ) → MayBeLinkedTo old parent name file
    → new ≡ tree_linked old parent name file → Reaches old.store root text parent name → Reaches new.store root text parent name
parent_linked old new parent name file text allowed added r =
    subst (λ (t : TreeState). Reaches t.store root text parent name) (sym added)
    (reaches_kept old.store (tree_linked old parent name file).store (λ d n f has. name_kept old.store.names (parent, name) (d, n) file f allowed.0.1 has) text parent name r)
