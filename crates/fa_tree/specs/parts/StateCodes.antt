-- Trees are stored as the lists of what is in them.
use Rattle.std.specs.Prelude.{◌≡◌, ◌==◌, if◌then◌else◌, ℕ, List, Option, Some, None, refl}
use Rattle.std.specs.Coded.{Coded, code_by, coded×, coded_ℕ, coded_list, coded_option}
use Rattle.std.specs.Ordering.{nat_cmp}
use Rattle.std.specs.FinMap as map
use Rattle.std.specs.FinMap.{FinMap}
use Rattle.fa_bodies.specs.declared.mode.Kind.{Kind}
use Rattle.fa_bodies.specs.declared.mode.Kind.TheVariants.{Fifo, CharDevice, Directory, BlockDevice, Regular, Symlink, Socket}
use Rattle.fa_ledger.specs.declared.name.NodeName.{NodeName}
use Rattle.fa_ledger.specs.declared.name.NodeName.TheVariants.{Root, Given}
use Rattle.fa_tree.specs.declared.id.FileId.{FileId}
use Rattle.fa_tree.specs.State.{File, Store, OpenDirectory, TreeState, file_cmp, place_cmp, node_cmp}
use Rattle.fa_tree.specs.parts.NameParts.{file_id_code, open_code}
use Rattle.fa_tree.specs.parts.StoredParts.{StoredShown}

-- ---- types of files, as numbers

abbrev pub kind_number : Kind → ℕ
kind_number Fifo = 0
kind_number CharDevice = 1
kind_number Directory = 2
kind_number BlockDevice = 3
kind_number Regular = 4
kind_number Symlink = 5
kind_number Socket = 6

abbrev pub kind_of_number : ℕ → Kind
kind_of_number n =
    (if n == 0 then Fifo else if n == 1 then CharDevice else if n == 2 then Directory else if n == 3 then BlockDevice
    else if n == 4 then Regular else if n == 5 then Symlink else Socket)

pub kind_back : (k : Kind) → kind_of_number (kind_number k) ≡ k
kind_back Fifo = refl
kind_back CharDevice = refl
kind_back Directory = refl
kind_back BlockDevice = refl
kind_back Regular = refl
kind_back Symlink = refl
kind_back Socket = refl

abbrev pub kind_code : Coded Kind
kind_code = code_by ℕ coded_ℕ kind_number kind_of_number kind_back

-- ---- names of nodes, as pairs

abbrev pub node_pair : NodeName → Option (ℕ × ℕ)
node_pair Root = None
node_pair (Given by id) = Some (id, by)

abbrev pub node_of_pair : Option (ℕ × ℕ) → NodeName
node_of_pair None = Root
node_of_pair (Some p) = Given p.1 p.0

pub node_back : (n : NodeName) → node_of_pair (node_pair n) ≡ n
node_back Root = refl
node_back (Given by id) = refl

abbrev pub node_code : Coded NodeName
node_code = code_by (Option (ℕ × ℕ)) (coded_option (coded× coded_ℕ coded_ℕ)) node_pair node_of_pair node_back

-- ---- trees

abbrev pub file_code : Coded File
file_code =
    code_by (Kind × (ℕ × List ℕ)) (coded× kind_code (coded× coded_ℕ (coded_list coded_ℕ)))
    (λ f. (f.kind, (f.bits, f.bytes))) (λ p. record { kind = p.0; bits = p.1.0; bytes = p.1.1 }) (λ _. refl)

abbrev pub files_code : Coded (FinMap file_cmp File)
files_code = map.code file_id_code file_code

abbrev pub store_code : Coded Store
store_code =
    code_by (FinMap place_cmp FileId × FinMap file_cmp File)
    (coded× (map.code (coded× file_id_code (coded_list coded_ℕ)) file_id_code) files_code)
    (λ s. (s.names, s.files)) (λ p. record { names = p.0; files = p.1 }) (λ _. refl)

abbrev pub stored_code : Coded StoredShown
stored_code =
    code_by (Store × FinMap nat_cmp OpenDirectory) (coded× store_code (map.code coded_ℕ open_code))
    (λ t. (t.store, t.handles)) (λ p. record { store = p.0; handles = p.1 }) (λ _. refl)

abbrev pub tree_code : Coded TreeState
tree_code =
    code_by (Store × (FinMap node_cmp FileId × FinMap nat_cmp OpenDirectory)) (coded× store_code (coded× (map.code node_code file_id_code) (map.code coded_ℕ open_code)))
    (λ t. (t.store, (t.nodes, t.handles))) (λ p. record { store = p.0; nodes = p.1.0; handles = p.1.1 }) (λ _. refl)
