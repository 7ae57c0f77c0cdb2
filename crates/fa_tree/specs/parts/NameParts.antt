-- What the table of names shows: the files that names are for, and the directories that are open.
use Rattle.std.specs.Prelude.{◌≡◌, ◌==◌, if◌then◌else◌, ℕ, List, Some, refl}
use Rattle.std.specs.Coded.{Coded, code_by, coded×, coded_ℕ, coded_list}
use Rattle.std.specs.Ordering.{nat_cmp}
use Rattle.std.specs.FinMap as map
use Rattle.std.specs.FinMap.{FinMap, get}
use Rattle.std.specs.FinSet as set
use Rattle.std.specs.FinSet.{FinSet}
use Rattle.fa_tree.specs.declared.id.FileId.TheVariants as file_id
use Rattle.fa_tree.specs.declared.id.FileId.{FileId}
use Rattle.fa_tree.specs.State.{place_cmp, name_cmp, file_pair, OpenDirectory}
use Rattle.fa_tree.specs.Edits.{Edit, names_after, handles_after}
use Rattle.fa_tree.specs.Opening.{opened}

-- the names, and the directories that are open by the requests that opened them
pub record NamesShown : Type 0 where
  pub names : FinMap place_cmp FileId
  pub handles : FinMap nat_cmp OpenDirectory

-- no name, and no open directory
abbrev pub no_names : NamesShown
no_names = record { names = map.empty; handles = map.empty }

-- names are added and taken away
abbrev pub edited : List Edit → NamesShown → NamesShown
edited edits n = record { names = names_after edits n.names; handles = handles_after edits n.handles }

-- the request of this number opens a directory
abbrev pub opened_by : (asked : ℕ) (directory : FileId) → NamesShown → NamesShown
opened_by asked directory n = record { names = n.names; handles = map.insert n.handles asked (opened n.names directory) }

-- whose file stayed in an open directory has the name there still
abbrev pub StaysThere : NamesShown → Type 0
StaysThere n = (asked : ℕ) (h : OpenDirectory) → get n.handles asked ≡ Some h
    → (name : List ℕ) (file : FileId) → get h.stayed name ≡ Some file → get n.names (h.directory, name) ≡ Some file

-- ---- files are stored as pairs of numbers

abbrev pub file_of_pair : ℕ × ℕ → FileId
file_of_pair p = (if p.0 == 0 then file_id.Root else if p.0 == 1 then file_id.Added p.1 else file_id.Made p.1)

pub file_back : (f : FileId) → file_of_pair (file_pair f) ≡ f
file_back file_id.Root = refl
file_back (file_id.Added n) = refl
file_back (file_id.Made asked) = refl

abbrev pub file_id_code : Coded FileId
file_id_code = code_by (ℕ × ℕ) (coded× coded_ℕ coded_ℕ) file_pair file_of_pair file_back

-- ---- names and open directories are stored as the lists of their entries

abbrev pub open_code : Coded OpenDirectory
open_code =
    code_by (FileId × (FinSet name_cmp × FinMap name_cmp FileId)) (coded× file_id_code (coded× (set.code (coded_list coded_ℕ)) (map.code (coded_list coded_ℕ) file_id_code)))
    (λ h. (h.directory, (h.since, h.stayed))) (λ p. record { directory = p.0; since = p.1.0; stayed = p.1.1 }) (λ _. refl)

abbrev pub names_code : Coded NamesShown
names_code =
    code_by (FinMap place_cmp FileId × FinMap nat_cmp OpenDirectory) (coded× (map.code (coded× file_id_code (coded_list coded_ℕ)) file_id_code) (map.code coded_ℕ open_code))
    (λ n. (n.names, n.handles)) (λ p. record { names = p.0; handles = p.1 }) (λ _. refl)
