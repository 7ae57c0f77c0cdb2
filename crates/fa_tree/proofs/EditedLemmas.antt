-- What callers of the table of names use: edits one after another, and edits that come to the same.
use Rattle.std.proofs.Common.{◌≡◌, ◌≢◌, ℕ, Bool, true, false, cond, List, [], ◌∷◌, ◌++◌, Option, None, Some, refl, sym, ap, subst, ◌∙◌}
use Rattle.std.specs.Prelude.{◌&&◌, if◌then◌else◌, IsTrue}
use Rattle.std.specs.Option.{option_map}
use Rattle.std.specs.Ordering.{nat_cmp, eq_by_cmp, is_eq}
use Rattle.std.specs.declared.cmp.Ordering.{Ordering}
use Rattle.std.specs.Cmp.{IsTotalOrder, tied_itself, Equal-is, nat_cmp_total}
use Rattle.std.specs.Cmp.Lexicographic.{nat_list_cmp_total}
use Rattle.std.specs.FinMap as map
use Rattle.std.specs.FinMap.{FinMap, IsAntisymmetric, same_map, nat_cmp-IsAntisymmetric}
use Rattle.std.specs.FinSet as set
use Rattle.fa_tree.specs.declared.id.FileId.{FileId}
use Rattle.fa_tree.specs.State as state
use Rattle.fa_tree.specs.State.{place_cmp, name_cmp, OpenDirectory, file_eq}
use Rattle.fa_tree.specs.Edits.{Edit, names_after, each_open, open_after, open_after_one}
use Rattle.fa_tree.specs.Edits.Edit.{Added, Removed}
use Rattle.fa_tree.specs.Renaming.{moved, exchanged}
use Rattle.fa_tree.specs.parts.FileIdLaws.{same_file, file_equiv, tested_apart}
use Rattle.fa_tree.specs.parts.PlaceLaws.{place_cmp_total, places_apart, names_apart, same_place, place_tests}
use Rattle.fa_tree.specs.parts.NameParts.{NamesShown, edited, StaysThere}
use Rattle.fa_tree.proofs.NameLemmas.{get-each_open}

-- ---- maps

-- a key that is not there is taken away
pub remove_none : {K X : Type 0} {R : K → K → Ordering} → IsTotalOrder R → IsAntisymmetric R → (m : FinMap R X) (k : K) → map.get m k ≡ None → map.remove m k ≡ m
remove_none {K = K} {X = X} {R = R} o apart m k none = same_map o apart _ _ (λ q. map.get-remove o m k q ∙ by q (eq_by_cmp R q k) refl)
  where
    by : (q : K) (b : Bool) → eq_by_cmp R q k ≡ b → cond b None (map.get m q) ≡ map.get m q
    by q true test = sym (ap (map.get m) (apart q k ((Equal-is (R q k)).0 test)) ∙ none)
    by q false test = refl

-- what is put is found
pub insert_there : {K X : Type 0} {R : K → K → Ordering} → IsTotalOrder R → (m : FinMap R X) (k : K) (v : X) → map.get (map.insert m k v) k ≡ Some v
insert_there total m k v = map.get-insert total m k v k ∙ ap (λ b. cond b (Some v) (map.get m k)) (ap is_eq (tied_itself total k))

-- two keys are taken away in either order
pub remove_swap : {K X : Type 0} {R : K → K → Ordering} → IsTotalOrder R → IsAntisymmetric R → (m : FinMap R X) (k l : K)
    → map.remove (map.remove m k) l ≡ map.remove (map.remove m l) k
remove_swap {X = X} {R = R} o apart m k l = same_map o apart _ _ (λ q.
    map.get-remove o (map.remove m k) l q ∙ ap (cond (eq_by_cmp R q l) None) (map.get-remove o m k q)
    ∙ either (eq_by_cmp R q l) (eq_by_cmp R q k) (map.get m q)
    ∙ sym (map.get-remove o (map.remove m l) k q ∙ ap (cond (eq_by_cmp R q k) None) (map.get-remove o m l q)))
  where
    either : (a b : Bool) (x : Option X) → cond a None (cond b None x) ≡ cond b None (cond a None x)
    either true true x = refl
    either true false x = refl
    either false b x = refl

-- ---- each open directory

each_twice : (first second : OpenDirectory → OpenDirectory) (handles : FinMap nat_cmp OpenDirectory)
    → each_open second (each_open first handles) ≡ each_open (λ h. second (first h)) handles
each_twice first second handles = same_map nat_cmp_total nat_cmp-IsAntisymmetric _ _ (λ asked.
    get-each_open second (each_open first handles) asked
    ∙ ap (option_map second) (get-each_open first handles asked)
    ∙ twice (map.get handles asked)
    ∙ sym (get-each_open (λ h. second (first h)) handles asked))
  where
    twice : (x : Option OpenDirectory) → option_map second (option_map first x) ≡ option_map (λ h. second (first h)) x
    twice None = refl
    twice (Some h) = refl

-- changes that come to the same at each
pub each_alike : (change other : OpenDirectory → OpenDirectory) (handles : FinMap nat_cmp OpenDirectory)
    → ((asked : ℕ) (h : OpenDirectory) → map.get handles asked ≡ Some h → change h ≡ other h) → each_open change handles ≡ each_open other handles
each_alike change other handles same = same_map nat_cmp_total nat_cmp-IsAntisymmetric _ _ (λ asked.
    get-each_open change handles asked ∙ by asked (map.get handles asked) refl ∙ sym (get-each_open other handles asked))
  where
    by : (asked : ℕ) (x : Option OpenDirectory) → map.get handles asked ≡ x → option_map change x ≡ option_map other x
    by asked None is = refl
    by asked (Some h) is = ap (λ k. Some k) (same asked h is)

-- a change that leaves each
pub each_same : (change : OpenDirectory → OpenDirectory) (handles : FinMap nat_cmp OpenDirectory)
    → ((asked : ℕ) (h : OpenDirectory) → map.get handles asked ≡ Some h → change h ≡ h) → each_open change handles ≡ handles
each_same change handles same = same_map nat_cmp_total nat_cmp-IsAntisymmetric _ _ (λ asked. get-each_open change handles asked ∙ by asked (map.get handles asked) refl)
  where
    by : (asked : ℕ) (x : Option OpenDirectory) → map.get handles asked ≡ x → option_map change x ≡ map.get handles asked
    by asked None is = sym is
    by asked (Some h) is = ap (λ k. Some k) (same asked h is) ∙ sym is

-- ---- edits one after another

names_both : (first second : List Edit) (names : FinMap place_cmp FileId) → names_after second (names_after first names) ≡ names_after (first ++ second) names
names_both [] second names = refl
names_both (Added directory name file ∷ first) second names = names_both first second (map.insert names (directory, name) file)
names_both (Removed directory name ∷ first) second names = names_both first second (map.remove names (directory, name))

open_both : (first second : List Edit) (h : OpenDirectory) → open_after second (open_after first h) ≡ open_after (first ++ second) h
open_both [] second h = refl
open_both (edit ∷ first) second h = open_both first second (open_after_one edit h)

pub edited_both : (first second : List Edit) (n : NamesShown) → edited second (edited first n) ≡ edited (first ++ second) n
edited_both first second n = λ i. record { names = names_both first second n.names i; handles = handles i }
  where
    handles : each_open (open_after second) (each_open (open_after first) n.handles) ≡ each_open (open_after (first ++ second)) n.handles
    handles = each_twice (open_after first) (open_after second) n.handles
        ∙ each_alike (λ h. open_after second (open_after first h)) (open_after (first ++ second)) n.handles (λ asked h is. open_both first second h)

-- ---- what one edit leaves of an open directory

pub open_removed_is : (directory : FileId) (name : List ℕ) (h : OpenDirectory)
    → open_after_one (Removed directory name) h ≡ record { directory = h.directory; since = h.since; stayed = cond (file_eq directory h.directory) (map.remove h.stayed name) h.stayed }
open_removed_is directory name h = by (file_eq directory h.directory)
  where
    by : (b : Bool) → ◌≡◌ {A = OpenDirectory} (cond b (record { directory = h.directory; since = h.since; stayed = map.remove h.stayed name }) h)
        (record { directory = h.directory; since = h.since; stayed = cond b (map.remove h.stayed name) h.stayed })
    by true = refl
    by false = refl

pub open_added_is : (directory : FileId) (name : List ℕ) (file : FileId) (h : OpenDirectory)
    → open_after_one (Added directory name file) h ≡ record { directory = h.directory; since = cond (file_eq directory h.directory) (set.insert h.since name) h.since; stayed = h.stayed }
open_added_is directory name file h = by (file_eq directory h.directory)
  where
    by : (b : Bool) → ◌≡◌ {A = OpenDirectory} (cond b (record { directory = h.directory; since = set.insert h.since name; stayed = h.stayed }) h)
        (record { directory = h.directory; since = cond b (set.insert h.since name) h.since; stayed = h.stayed })
    by true = refl
    by false = refl

-- ---- what stays is there

abbrev StaysIn : FinMap place_cmp FileId → OpenDirectory → Type 0
StaysIn names h = (name : List ℕ) (file : FileId) → map.get h.stayed name ≡ Some file → map.get names (h.directory, name) ≡ Some file

-- a name that is taken away is taken from both
removed_in : (names : FinMap place_cmp FileId) (directory : FileId) (name : List ℕ) (h : OpenDirectory) → StaysIn names h
    → StaysIn (map.remove names (directory, name)) (open_after_one (Removed directory name) h)
removed_in names directory name h stays =
    subst (StaysIn (map.remove names (directory, name))) (sym (open_removed_is directory name h))
    (λ q file found.
    map.get-remove place_cmp_total names (directory, name) (h.directory, q)
    ∙ ap (λ b. cond b None (map.get names (h.directory, q))) (place_tests (h.directory, q) (directory, name) ∙ ap (λ b. b && eq_by_cmp name_cmp q name) (file_equiv.symm h.directory directory))
    ∙ both ((file_eq directory h.directory) && eq_by_cmp name_cmp q name) (map.get h.stayed q) (map.get names (h.directory, q)) file (stays q file)
    (sym (gone (file_eq directory h.directory) q) ∙ found))
  where
    gone : (b : Bool) (q : List ℕ) → map.get (cond b (map.remove h.stayed name) h.stayed) q ≡ cond (b && eq_by_cmp name_cmp q name) None (map.get h.stayed q)
    gone true q = map.get-remove nat_list_cmp_total h.stayed name q
    gone false q = refl

    both : (b : Bool) (x y : Option FileId) (file : FileId) → (x ≡ Some file → y ≡ Some file) → cond b None x ≡ Some file → cond b None y ≡ Some file
    both true x y file so found = found
    both false x y file so found = so found

each_stays : (names after : FinMap place_cmp FileId) (change : OpenDirectory → OpenDirectory) (handles : FinMap nat_cmp OpenDirectory)
    → ((asked : ℕ) (h : OpenDirectory) → map.get handles asked ≡ Some h → StaysIn names h)
    → ((h : OpenDirectory) → StaysIn names h → StaysIn after (change h))
    → (asked : ℕ) (h : OpenDirectory) → map.get (each_open change handles) asked ≡ Some h → StaysIn after h
each_stays names after change handles stays kept asked h is =
    by (map.get handles asked) refl (sym (get-each_open change handles asked) ∙ is)
  where
    by : (x : Option OpenDirectory) → map.get handles asked ≡ x → option_map change x ≡ Some h → StaysIn after h
    by None was is = absurd (let clash : None ≡ Some h = is in cc)
    by (Some before) was is = let same : change before ≡ h = cc in subst (StaysIn after) same (kept before (stays asked before was))

-- it does after each change that the table makes
pub stays_removed : (n : NamesShown) (directory : FileId) (name : List ℕ) → StaysThere n → StaysThere (edited (Removed directory name ∷ []) n)
stays_removed n directory name stays =
    each_stays n.names (map.remove n.names (directory, name)) (open_after (Removed directory name ∷ [])) n.handles stays (removed_in n.names directory name)

-- ---- edits that come to the same

-- a name that is not there is taken away
removed_free : (n : NamesShown) → StaysThere n → (directory : FileId) (name : List ℕ) → map.get n.names (directory, name) ≡ None
    → (asked : ℕ) (h : OpenDirectory) → map.get n.handles asked ≡ Some h → open_after_one (Removed directory name) h ≡ h
removed_free n stays directory name free asked h is =
    open_removed_is directory name h ∙ (λ i. record { directory = h.directory; since = h.since; stayed = by (file_eq directory h.directory) refl i })
  where
    absent : directory ≡ h.directory → (x : Option FileId) → map.get h.stayed name ≡ x → x ≡ None
    absent same None was = refl
    absent same (Some file) was =
        let clash : Some file ≡ None = sym (stays asked h is name file was) ∙ ap (λ d. map.get n.names (d, name)) (sym same) ∙ free in
        absurd cc

    by : (b : Bool) → (file_eq directory h.directory) ≡ b → cond b (map.remove h.stayed name) h.stayed ≡ h.stayed
    by true test =
        let same : directory ≡ h.directory = same_file directory h.directory test in
        remove_none nat_list_cmp_total names_apart h.stayed name (absent same (map.get h.stayed name) refl)
    by false test = refl

pub edited_removed_free : (n : NamesShown) → StaysThere n → (directory : FileId) (name : List ℕ) → map.get n.names (directory, name) ≡ None → edited (Removed directory name ∷ []) n ≡ n
edited_removed_free n stays directory name free =
    λ i. record { names = remove_none place_cmp_total places_apart n.names (directory, name) free i; handles = each_same (open_after (Removed directory name ∷ [])) n.handles (removed_free n stays directory name free) i }

-- a name that is put where there was none is added
pub edited_put_free : (n : NamesShown) → StaysThere n → (directory : FileId) (name : List ℕ) (file : FileId) → map.get n.names (directory, name) ≡ None
    → edited (Removed directory name ∷ Added directory name file ∷ []) n ≡ edited (Added directory name file ∷ []) n
edited_put_free n stays directory name file free =
    sym (edited_both (Removed directory name ∷ []) (Added directory name file ∷ []) n)
    ∙ ap (edited (Added directory name file ∷ [])) (edited_removed_free n stays directory name free)

-- one name is put, and then another goes: the other goes first
pub edited_swap : (n : NamesShown) (directory : FileId) (name : List ℕ) (file : FileId) (other : FileId) (gone : List ℕ) → ((p : state.Place) → IsTrue (eq_by_cmp place_cmp p (other, gone)) → IsTrue (eq_by_cmp place_cmp p (directory, name)) → ⊥)
    → edited (Removed directory name ∷ Added directory name file ∷ Removed other gone ∷ []) n ≡ edited (Removed other gone ∷ Removed directory name ∷ Added directory name file ∷ []) n
edited_swap n directory name file other gone apart =
    λ i. record { names = same_names i; handles = each_alike (open_after (Removed directory name ∷ Added directory name file ∷ Removed other gone ∷ [])) (open_after (Removed other gone ∷ Removed directory name ∷ Added directory name file ∷ [])) n.handles (λ asked h is. same_open h) i }
  where
    put : FinMap place_cmp FileId
    put = map.insert (map.remove n.names (directory, name)) (directory, name) file

    either : (a b : Bool) → (a ≡ true → b ≡ true → ⊥) → (x : Option FileId) → cond a None (cond b (Some file) (cond b None x)) ≡ cond b (Some file) (cond b None (cond a None x))
    either true true clash x = absurd (clash refl refl)
    either true false clash x = refl
    either false b clash x = refl

    same_names : map.remove put (other, gone) ≡ map.insert (map.remove (map.remove n.names (other, gone)) (directory, name)) (directory, name) file
    same_names = same_map place_cmp_total places_apart _ _ (λ q.
        map.get-remove place_cmp_total put (other, gone) q
        ∙ ap (cond (eq_by_cmp place_cmp q (other, gone)) None)
        (map.get-insert place_cmp_total (map.remove n.names (directory, name)) (directory, name) file q
        ∙ ap (cond (eq_by_cmp place_cmp q (directory, name)) (Some file)) (map.get-remove place_cmp_total n.names (directory, name) q))
        ∙ either (eq_by_cmp place_cmp q (other, gone)) (eq_by_cmp place_cmp q (directory, name)) (apart q) (map.get n.names q)
        ∙ sym (map.get-insert place_cmp_total (map.remove (map.remove n.names (other, gone)) (directory, name)) (directory, name) file q
        ∙ ap (cond (eq_by_cmp place_cmp q (directory, name)) (Some file))
        (map.get-remove place_cmp_total (map.remove n.names (other, gone)) (directory, name) q
        ∙ ap (cond (eq_by_cmp place_cmp q (directory, name)) None) (map.get-remove place_cmp_total n.names (other, gone) q))))

    swapped : (a b : Bool) (m : FinMap name_cmp FileId) → cond b (map.remove (cond a (map.remove m name) m) gone) (cond a (map.remove m name) m)
        ≡ cond a (map.remove (cond b (map.remove m gone) m) name) (cond b (map.remove m gone) m)
    swapped true true m = remove_swap nat_list_cmp_total names_apart m name gone
    swapped true false m = refl
    swapped false b m = refl

    same_open : (h : OpenDirectory) → open_after (Removed directory name ∷ Added directory name file ∷ Removed other gone ∷ []) h
        ≡ open_after (Removed other gone ∷ Removed directory name ∷ Added directory name file ∷ []) h
    same_open h =
        let here = file_eq directory h.directory in
        let there = file_eq other h.directory in
        let one : OpenDirectory = record { directory = h.directory; since = h.since; stayed = cond here (map.remove h.stayed name) h.stayed } in
        let two : OpenDirectory = record { directory = h.directory; since = cond here (set.insert h.since name) h.since; stayed = one.stayed } in
        let first : OpenDirectory = record { directory = h.directory; since = h.since; stayed = cond there (map.remove h.stayed gone) h.stayed } in
        let second : OpenDirectory = record { directory = h.directory; since = h.since; stayed = cond here (map.remove first.stayed name) first.stayed } in
        ap (λ k. open_after_one (Removed other gone) (open_after_one (Added directory name file) k)) (open_removed_is directory name h)
        ∙ ap (open_after_one (Removed other gone)) (open_added_is directory name file one)
        ∙ open_removed_is other gone two
        ∙ (λ i. record { directory = h.directory; since = two.since; stayed = swapped here there h.stayed i })
        ∙ sym (ap (λ k. open_after_one (Added directory name file) (open_after_one (Removed directory name) k)) (open_removed_is other gone h)
        ∙ ap (open_after_one (Added directory name file)) (open_removed_is directory name first)
        ∙ open_added_is directory name file second)

-- RENAME: the new name is put, and then the old one goes, where they are not of one file
pub edited_moved : (n : NamesShown) → StaysThere n → (old_directory : FileId) (old_name : List ℕ) (new_directory : FileId) (new_name : List ℕ) (file : FileId)
    → map.get n.names (old_directory, old_name) ≡ Some file → (found : Option FileId) → map.get n.names (new_directory, new_name) ≡ found → found ≢ Some file
    → edited (Removed old_directory old_name ∷ []) (edited (Removed new_directory new_name ∷ Added new_directory new_name file ∷ []) n)
    ≡ edited (moved old_directory old_name new_directory new_name file found) n
edited_moved n stays old_directory old_name new_directory new_name file there found is other =
    edited_both (Removed new_directory new_name ∷ Added new_directory new_name file ∷ []) (Removed old_directory old_name ∷ []) n
    ∙ edited_swap n new_directory new_name file old_directory old_name apart
    ∙ by found is other
  where
    apart : (p : state.Place) → IsTrue (eq_by_cmp place_cmp p (old_directory, old_name)) → IsTrue (eq_by_cmp place_cmp p (new_directory, new_name)) → ⊥
    apart p is_old is_new = other (sym is ∙ ap (map.get n.names) (sym (same_place p (new_directory, new_name) is_new) ∙ same_place p (old_directory, old_name) is_old) ∙ there)

    still_free : (b : Bool) → map.get n.names (new_directory, new_name) ≡ None → cond b None (map.get n.names (new_directory, new_name)) ≡ None
    still_free true free = refl
    still_free false free = free

    by : (found : Option FileId) → map.get n.names (new_directory, new_name) ≡ found → found ≢ Some file
        → edited (Removed old_directory old_name ∷ Removed new_directory new_name ∷ Added new_directory new_name file ∷ []) n
        ≡ edited (moved old_directory old_name new_directory new_name file found) n
    by None free _ =
        sym (edited_both (Removed old_directory old_name ∷ []) (Removed new_directory new_name ∷ Added new_directory new_name file ∷ []) n)
        ∙ edited_put_free (edited (Removed old_directory old_name ∷ []) n) (stays_removed n old_directory old_name stays) new_directory new_name file
        (map.get-remove place_cmp_total n.names (old_directory, old_name) (new_directory, new_name)
        ∙ still_free (eq_by_cmp place_cmp (new_directory, new_name) (old_directory, old_name)) free)
        ∙ edited_both (Removed old_directory old_name ∷ []) (Added new_directory new_name file ∷ []) n
    by (Some last) is differs =
        let apart : last ≢ file = λ same. differs (ap (λ k. Some k) same) in
        let test : file_eq last file ≡ false = tested_apart last file apart in
        sym (ap (λ b. edited (if b then [] else Removed old_directory old_name ∷ Removed new_directory new_name ∷ Added new_directory new_name file ∷ []) n) test)

-- RENAME2 with RENAME_EXCHANGE: each name is put for the other's file, where they are not of one file
pub edited_exchanged : (n : NamesShown) (old_directory : FileId) (old_name : List ℕ) (new_directory : FileId) (new_name : List ℕ) (file other : FileId)
    → file_eq other file ≡ false
    → edited (Removed new_directory new_name ∷ Added new_directory new_name file ∷ []) (edited (Removed old_directory old_name ∷ Added old_directory old_name other ∷ []) n)
    ≡ edited (exchanged old_directory old_name new_directory new_name file other) n
edited_exchanged n old_directory old_name new_directory new_name file other test =
    edited_both (Removed old_directory old_name ∷ Added old_directory old_name other ∷ []) (Removed new_directory new_name ∷ Added new_directory new_name file ∷ []) n
    ∙ sym (ap (λ b. edited (if b then [] else Removed old_directory old_name ∷ Added old_directory old_name other ∷ Removed new_directory new_name ∷ Added new_directory new_name file ∷ []) n) test)

-- of one file they stay
pub edited_of_one : (n : NamesShown) (old_directory : FileId) (old_name : List ℕ) (new_directory : FileId) (new_name : List ℕ) (file other : FileId)
    → file_eq other file ≡ true → n ≡ edited (exchanged old_directory old_name new_directory new_name file other) n
edited_of_one n old_directory old_name new_directory new_name file other test =
    (λ i. record { names = n.names; handles = sym (each_same (open_after []) n.handles (λ asked h is. refl)) i })
    ∙ sym (ap (λ b. edited (if b then [] else Removed old_directory old_name ∷ Added old_directory old_name other ∷ Removed new_directory new_name ∷ Added new_directory new_name file ∷ []) n) test)
