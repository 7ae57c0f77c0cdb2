-- What look-ups find in names, in open directories, and in what slots show of them.
use Rattle.std.proofs.Common.{◌≡◌, ℕ, Bool, true, false, cond, List, [], ◌∷◌, map, filter, Option, None, Some, refl, sym, ap, ◌∙◌}
use Rattle.std.specs.Prelude.{◌&&◌, ◌||◌, not, is_some}
use Rattle.std.specs.List.{list_any}
use Rattle.std.specs.Option.{option_map, option_and_then, option_map_or}
use Rattle.std.specs.Ordering.{nat_cmp, eq_by_cmp}
use Rattle.std.specs.declared.cmp.Ordering.{Ordering}
use Rattle.std.specs.Cmp.{IsTotalOrder, nat_cmp_total}
use Rattle.std.specs.Cmp.Lexicographic.{nat_list_cmp_total}
use Rattle.std.specs.FinMap as map
use Rattle.std.specs.FinMap.{FinMap, find, get-entries, get-from_entries}
use Rattle.std.specs.FinSet as set
use Rattle.std.specs.FinSet.{FinSet}
use Rattle.fa_tree.specs.declared.id.FileId.{FileId}
use Rattle.fa_tree.specs.State as state
use Rattle.fa_tree.specs.State.{place_cmp, name_cmp, OpenDirectory, file_eq}
use Rattle.fa_tree.specs.Edits.{each_open}
use Rattle.fa_tree.specs.Opening.{names_in, opened}
use Rattle.fa_tree.specs.declared.slots.Place.{Place}
use Rattle.fa_tree.specs.declared.slots.Slot.{Slot}
use Rattle.fa_tree.specs.parts.FileIdLaws.{file_equiv}
use Rattle.fa_tree.specs.parts.PlaceLaws.{place_cmp_total, place_tests}
use Rattle.fa_tree.specs.parts.SlotParts.{place_of, is_at, slot_at, file_in, put_or_not, names_shown}
use Rattle.fa_tree.specs.parts.NameViews.{was_since, has_stayed, in_or_out, since_shown, stayed_shown}

-- ---- each open directory

find_each : (change : OpenDirectory → OpenDirectory) (es : List (ℕ × OpenDirectory)) (asked : ℕ)
    → find nat_cmp asked (map (λ e. (e.0, change e.1)) es) ≡ option_map change (find nat_cmp asked es)
find_each change [] asked = refl
find_each change (e ∷ es) asked = each_either (eq_by_cmp nat_cmp asked e.0) _ _ (find_each change es asked)
  where
    each_either : (b : Bool) (x y : Option OpenDirectory) → x ≡ option_map change y → cond b (Some (change e.1)) x ≡ option_map change (cond b (Some e.1) y)
    each_either true x y same = refl
    each_either false x y same = same

-- what stands for an opening once each is changed
pub get-each_open : (change : OpenDirectory → OpenDirectory) (handles : FinMap nat_cmp OpenDirectory) (asked : ℕ)
    → map.get (each_open change handles) asked ≡ option_map change (map.get handles asked)
get-each_open change handles asked =
    get-from_entries nat_cmp_total (map (λ e. (e.0, change e.1)) (map.entries handles)) asked
    ∙ find_each change (map.entries handles) asked
    ∙ ap (option_map change) (sym (get-entries handles asked))

-- ---- a directory that is opened

find_in : (directory : FileId) (name : List ℕ) (es : List (state.Place × FileId))
    → find name_cmp name (map (λ e. (e.0.1, e.1)) (filter (λ e. file_eq e.0.0 directory) es)) ≡ find place_cmp (directory, name) es
find_in directory name [] = refl
find_in directory name (e ∷ es) = by (file_eq e.0.0 directory) refl (find_in directory name es)
  where
    rest : List (state.Place × FileId)
    rest = filter (λ e. file_eq e.0.0 directory) es

    same : eq_by_cmp place_cmp (directory, name) e.0 ≡ ((file_eq e.0.0 directory) && eq_by_cmp name_cmp name e.0.1)
    same = place_tests (directory, name) e.0 ∙ ap (λ b. b && eq_by_cmp name_cmp name e.0.1) (file_equiv.symm directory e.0.0)

    by : (b : Bool) → (file_eq e.0.0 directory) ≡ b
        → find name_cmp name (map (λ e. (e.0.1, e.1)) rest) ≡ find place_cmp (directory, name) es
        → find name_cmp name (map (λ e. (e.0.1, e.1)) (cond b (e ∷ rest) rest)) ≡ cond (eq_by_cmp place_cmp (directory, name) e.0) (Some e.1) (find place_cmp (directory, name) es)
    by true test later =
        ap (cond (eq_by_cmp name_cmp name e.0.1) (Some e.1)) later
        ∙ ap (λ b. cond b (Some e.1) (find place_cmp (directory, name) es)) (sym (same ∙ ap (λ b. b && eq_by_cmp name_cmp name e.0.1) test))
    by false test later =
        later ∙ ap (λ b. cond b (Some e.1) (find place_cmp (directory, name) es)) (sym (same ∙ ap (λ b. b && eq_by_cmp name_cmp name e.0.1) test))

-- the names of a directory, with their files
pub find-names_in : (names : FinMap place_cmp FileId) (directory : FileId) (name : List ℕ) → find name_cmp name (names_in names directory) ≡ map.get names (directory, name)
find-names_in names directory name = find_in directory name (map.entries names) ∙ sym (get-entries names (directory, name))

-- the files that have stayed in a directory that is opened now
pub get-opened : (names : FinMap place_cmp FileId) (directory : FileId) (name : List ℕ) → map.get (opened names directory).stayed name ≡ map.get names (directory, name)
get-opened names directory name = get-from_entries nat_list_cmp_total (names_in names directory) name ∙ find-names_in names directory name

some_found : (name : List ℕ) (es : List (List ℕ × FileId)) → list_any (eq_by_cmp name_cmp name) (map (λ e. e.0) es) ≡ is_some (find name_cmp name es)
some_found name [] = refl
some_found name (e ∷ es) = some_either (eq_by_cmp name_cmp name e.0) _ _ (some_found name es)
  where
    some_either : (b c : Bool) (x : Option FileId) → c ≡ is_some x → (b || c) ≡ is_some (cond b (Some e.1) x)
    some_either true c x same = refl
    some_either false c x same = same

-- the names that have been in it
pub contains-opened : (names : FinMap place_cmp FileId) (directory : FileId) (name : List ℕ) → set.contains (opened names directory).since name ≡ is_some (map.get names (directory, name))
contains-opened names directory name =
    set.contains-from_list nat_list_cmp_total (map (λ e. e.0) (names_in names directory)) name
    ∙ some_found name (names_in names directory) ∙ ap is_some (find-names_in names directory name)

-- ---- what slots show

pub get-put_or_not : {K X : Type 0} {R : K → K → Ordering} → IsTotalOrder R → (m : FinMap R X) (k : K) (x : Option X) (q : K)
    → map.get (put_or_not m k x) q ≡ cond (eq_by_cmp R q k) x (map.get m q)
get-put_or_not o m k None q = map.get-remove o m k q
get-put_or_not o m k (Some x) q = map.get-insert o m k x q

pub contains-in_or_out : {K : Type 0} {R : K → K → Ordering} → IsTotalOrder R → (s : FinSet R) (k : K) (b : Bool) (q : K)
    → set.contains (in_or_out s k b) q ≡ cond (eq_by_cmp R q k) b (set.contains s q)
contains-in_or_out {R = R} o s k true q = set.contains-insert o s k q ∙ or_either (eq_by_cmp R q k) (set.contains s q)
  where
    or_either : (a b : Bool) → (a || b) ≡ cond a true b
    or_either true b = refl
    or_either false b = refl
contains-in_or_out {R = R} o s k false q = set.contains-remove o s k q ∙ out_either (eq_by_cmp R q k) (set.contains s q)
  where
    out_either : (a b : Bool) → (not a && b) ≡ cond a false b
    out_either true b = refl
    out_either false b = refl

-- one slot more
then_one : {X : Type 0} (f : Slot → Option X) (b : Bool) (slot : Slot) (m : Option X) (found : Option Slot) → m ≡ option_and_then f found
    → cond b (f slot) m ≡ option_and_then f (cond b (Some slot) found)
then_one f true slot m found same = refl
then_one f false slot m found same = same

or_one : (f : Slot → Bool) (b : Bool) (slot : Slot) (m : Bool) (found : Option Slot) → m ≡ option_map_or f found false
    → cond b (f slot) m ≡ option_map_or f (cond b (Some slot) found) false
or_one f true slot m found same = refl
or_one f false slot m found same = same

-- the file of a place is that of its slot
pub get-names_shown : (slots : List (Place × Slot)) (place : state.Place) → map.get (names_shown slots) place ≡ option_and_then file_in (slot_at slots place)
get-names_shown [] place = map.get-empty place_cmp place
get-names_shown (e ∷ slots) place =
    get-put_or_not place_cmp_total (names_shown slots) (place_of e.0) (file_in e.1) place
    ∙ then_one file_in (is_at place e.0) e.1 _ _ (get-names_shown slots place)

-- in its directory a slot counts where its name does
pub get-stayed_shown : (directory : FileId) (at : ℕ) (slots : List (Place × Slot)) (name : List ℕ)
    → map.get (stayed_shown directory at slots) name ≡ option_and_then (has_stayed at) (slot_at slots (directory, name))
get-stayed_shown directory at [] name = map.get-empty name_cmp name
get-stayed_shown directory at (e ∷ slots) name =
    in_directory (file_eq directory e.0.directory) refl
    ∙ then_one (has_stayed at) (is_at (directory, name) e.0) e.1 _ _ (get-stayed_shown directory at slots name)
  where
    rest : FinMap name_cmp FileId
    rest = stayed_shown directory at slots

    in_directory : (b : Bool) → file_eq directory e.0.directory ≡ b
        → map.get (cond b (put_or_not rest e.0.name.items (has_stayed at e.1)) rest) name ≡ cond (is_at (directory, name) e.0) (has_stayed at e.1) (map.get rest name)
    in_directory true test =
        get-put_or_not nat_list_cmp_total rest e.0.name.items (has_stayed at e.1) name
        ∙ ap (λ b. cond b (has_stayed at e.1) (map.get rest name)) (sym (place_tests (directory, name) (place_of e.0) ∙ ap (λ b. b && eq_by_cmp name_cmp name e.0.name.items) test))
    in_directory false test =
        ap (λ b. cond b (has_stayed at e.1) (map.get rest name)) (sym (place_tests (directory, name) (place_of e.0) ∙ ap (λ b. b && eq_by_cmp name_cmp name e.0.name.items) test))

pub contains-since_shown : (directory : FileId) (at : ℕ) (slots : List (Place × Slot)) (name : List ℕ)
    → set.contains (since_shown directory at slots) name ≡ option_map_or (was_since at) (slot_at slots (directory, name)) false
contains-since_shown directory at [] name = set.contains-empty name_cmp name
contains-since_shown directory at (e ∷ slots) name =
    in_directory (file_eq directory e.0.directory) refl
    ∙ or_one (was_since at) (is_at (directory, name) e.0) e.1 _ _ (contains-since_shown directory at slots name)
  where
    rest : FinSet name_cmp
    rest = since_shown directory at slots

    in_directory : (b : Bool) → file_eq directory e.0.directory ≡ b
        → set.contains (cond b (in_or_out rest e.0.name.items (was_since at e.1)) rest) name ≡ cond (is_at (directory, name) e.0) (was_since at e.1) (set.contains rest name)
    in_directory true test =
        contains-in_or_out nat_list_cmp_total rest e.0.name.items (was_since at e.1) name
        ∙ ap (λ b. cond b (was_since at e.1) (set.contains rest name)) (sym (place_tests (directory, name) (place_of e.0) ∙ ap (λ b. b && eq_by_cmp name_cmp name e.0.name.items) test))
    in_directory false test =
        ap (λ b. cond b (was_since at e.1) (set.contains rest name)) (sym (place_tests (directory, name) (place_of e.0) ∙ ap (λ b. b && eq_by_cmp name_cmp name e.0.name.items) test))
