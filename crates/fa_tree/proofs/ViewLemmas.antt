-- What slots and openings show after each of the table's changes.
use Rattle.std.proofs.Common.{◌≡◌, ℕ, ◌+◌, ◌<◌, ◌≤◌, Bool, true, false, cond, List, [], ◌∷◌, ◌++◌, length, Option, None, Some, refl, sym, ap, subst, ◌∙◌, arith}
use Rattle.std.specs.Prelude.{◌&&◌, ◌||◌, nat_lt, is_some, if◌then◌else◌}
use Rattle.std.specs.Option.{option_map, option_and_then, option_map_or}
use Rattle.std.specs.Ordering.{nat_cmp, eq_by_cmp}
use Rattle.std.specs.Cmp.{nat_cmp_total}
use Rattle.std.specs.Cmp.Lexicographic.{nat_list_cmp_total}
use Rattle.std.specs.FinMap as map
use Rattle.std.specs.FinMap.{FinMap, same_map, nat_cmp-IsAntisymmetric}
use Rattle.std.specs.FinSet as set
use Rattle.std.specs.FinSet.{same_set}
use Rattle.std.proofs.lemmas.Bool.Decides.{nat_tests}
use Rattle.fa_tree.specs.declared.id.FileId.{FileId}
use Rattle.fa_tree.specs.State as state
use Rattle.fa_tree.specs.State.{place_cmp, name_cmp, OpenDirectory, file_eq}
use Rattle.fa_tree.specs.Edits.{each_open, open_after, open_after_one}
use Rattle.fa_tree.specs.Edits.Edit.{Added, Removed}
use Rattle.fa_tree.specs.Opening.{opened}
use Rattle.fa_tree.specs.declared.open.Opening.{Opening}
use Rattle.fa_tree.specs.declared.slots.Place.{Place}
use Rattle.fa_tree.specs.declared.slots.Slot.{Slot}
use Rattle.fa_tree.specs.declared.slots.Slot.TheVariants.{There, Gone}
use Rattle.fa_tree.specs.parts.FileIdLaws.{file_equiv}
use Rattle.fa_tree.specs.parts.PlaceLaws.{place_cmp_total, places_apart, names_apart, place_tests}
use Rattle.fa_tree.specs.parts.SlotParts.{slot_at, gone_at, file_in, names_shown, IsChangedAt}
use Rattle.fa_tree.specs.parts.NameParts.{StaysThere, edited, opened_by}
use Rattle.fa_tree.specs.parts.NameViews.{was_since, has_stayed, since_shown, stayed_shown, open_shown, handles_shown, shown, IsStampWithin, AreStampsWithin}
use Rattle.fa_tree.proofs.NameLemmas.{get-each_open, get-opened, contains-opened, get-names_shown, get-stayed_shown, contains-since_shown}

-- ---- the open directories

-- what stands for an opening where each directory is changed
each_changed : (slots other : List (Place × Slot)) (change : OpenDirectory → OpenDirectory) (n : ℕ)
    → ((directory : FileId) (at : ℕ) → at < n → open_shown other directory at ≡ change (open_shown slots directory at))
    → (openings : List Opening) (at : ℕ) → at + length openings ≤ n
    → (handles before : FinMap nat_cmp OpenDirectory) → ((asked : ℕ) → map.get handles asked ≡ option_map change (map.get before asked))
    → (asked : ℕ) → map.get (handles_shown other at handles openings) asked ≡ option_map change (map.get (handles_shown slots at before openings) asked)
each_changed slots other change n changed [] at few handles before same = same
each_changed slots other change n changed (o ∷ openings) at few handles before same =
    each_changed slots other change n changed openings (at + 1) (omega arith)
    (map.insert handles o.asked (open_shown other o.directory at)) (map.insert before o.asked (open_shown slots o.directory at))
    (λ asked.
    map.get-insert nat_cmp_total handles o.asked (open_shown other o.directory at) asked
    ∙ one_changed (eq_by_cmp nat_cmp asked o.asked) (open_shown other o.directory at) (open_shown slots o.directory at) (changed o.directory at (omega arith)) _ _ (same asked)
    ∙ sym (ap (option_map change) (map.get-insert nat_cmp_total before o.asked (open_shown slots o.directory at) asked)))
  where
    one_changed : (b : Bool) (h k : OpenDirectory) → h ≡ change k → (x y : Option OpenDirectory) → x ≡ option_map change y
        → cond b (Some h) x ≡ option_map change (cond b (Some k) y)
    one_changed true h k is x y same = ap Some is
    one_changed false h k is x y same = same

-- the open directories where each is changed
pub handles_changed : (slots other : List (Place × Slot)) (openings : List Opening) (change : OpenDirectory → OpenDirectory)
    → ((directory : FileId) (at : ℕ) → at < length openings → open_shown other directory at ≡ change (open_shown slots directory at))
    → handles_shown other 0 map.empty openings ≡ each_open change (handles_shown slots 0 map.empty openings)
handles_changed slots other openings change changed =
    same_map nat_cmp_total nat_cmp-IsAntisymmetric _ _ (λ asked.
    each_changed slots other change (length openings) changed openings 0 (omega arith) map.empty map.empty
    (λ asked. map.get-empty nat_cmp asked ∙ sym (ap (option_map change) (map.get-empty nat_cmp asked))) asked
    ∙ sym (get-each_open change (handles_shown slots 0 map.empty openings) asked))

-- one opening more
pub handles_push : (slots : List (Place × Slot)) (openings : List Opening) (at : ℕ) (handles : FinMap nat_cmp OpenDirectory) (o : Opening)
    → handles_shown slots at handles (openings ++ o ∷ []) ≡ map.insert (handles_shown slots at handles openings) o.asked (open_shown slots o.directory (at + length openings))
handles_push slots [] at handles o =
    let more : at ≡ at + 0 = omega arith in
    ap (λ n. map.insert handles o.asked (open_shown slots o.directory n)) more
handles_push slots (p ∷ openings) at handles o =
    let more : (at + 1) + length openings ≡ at + length (p ∷ openings) = omega arith in
    handles_push slots openings (at + 1) _ o
    ∙ ap (λ n. map.insert (handles_shown slots at handles (p ∷ openings)) o.asked (open_shown slots o.directory n)) more

-- what holds of the open directories before, and of each that slots show
each_shown : (slots : List (Place × Slot)) (P : OpenDirectory → Type 0) → ((directory : FileId) (at : ℕ) → P (open_shown slots directory at))
    → (openings : List Opening) (at : ℕ) (handles : FinMap nat_cmp OpenDirectory) → ((asked : ℕ) (h : OpenDirectory) → map.get handles asked ≡ Some h → P h)
    → (asked : ℕ) (h : OpenDirectory) → map.get (handles_shown slots at handles openings) asked ≡ Some h → P h
each_shown slots P each [] at handles before = before
each_shown slots P each (o ∷ openings) at handles before =
    each_shown slots P each openings (at + 1) (map.insert handles o.asked (open_shown slots o.directory at)) (λ asked h is.
    one (eq_by_cmp nat_cmp asked o.asked) (map.get handles asked) h (before asked h)
    (sym (map.get-insert nat_cmp_total handles o.asked (open_shown slots o.directory at) asked) ∙ is))
  where
    one : (b : Bool) (x : Option OpenDirectory) (h : OpenDirectory) → (x ≡ Some h → P h) → cond b (Some (open_shown slots o.directory at)) x ≡ Some h → P h
    one true x h so is = let same : open_shown slots o.directory at ≡ h = cc in subst P same (each o.directory at)
    one false x h so is = so is

-- whose file stayed has its name still
pub shown_stays : (slots : List (Place × Slot)) (openings : List Opening) → StaysThere (shown slots openings)
shown_stays slots openings =
    each_shown slots (λ h. (name : List ℕ) (file : FileId) → map.get h.stayed name ≡ Some file → map.get (names_shown slots) (h.directory, name) ≡ Some file)
    (λ directory at name file found.
    get-names_shown slots (directory, name) ∙ stays at (slot_at slots (directory, name)) file (sym (get-stayed_shown directory at slots name) ∙ found))
    openings 0 map.empty (λ asked h is. absurd (let clash : None ≡ Some h = sym (map.get-empty nat_cmp asked) ∙ is in cc))
  where
    late : (b : Bool) (of file : FileId) → cond b None (Some of) ≡ Some file → Some of ≡ Some file
    late true of file found = absurd (let clash : None ≡ Some file = found in cc)
    late false of file found = found

    stays : (at : ℕ) (slot : Option Slot) (file : FileId) → option_and_then (has_stayed at) slot ≡ Some file → option_and_then file_in slot ≡ Some file
    stays at None file found = absurd (let clash : None ≡ Some file = found in cc)
    stays at (Some (There of born)) file found = late (nat_lt at born) of file found
    stays at (Some (Gone gone)) file found = absurd (let clash : None ≡ Some file = found in cc)

-- ---- a directory that is opened

since_now : (n : ℕ) (slot : Option Slot) → IsStampWithin n slot → option_map_or (was_since n) slot false ≡ is_some (option_and_then file_in slot)
since_now n None within = refl
since_now n (Some (There file born)) within = refl
since_now n (Some (Gone at)) within = let test : nat_lt n at ≡ false = grind (arith, nat_tests) in test

stayed_now : (n : ℕ) (slot : Option Slot) → IsStampWithin n slot → option_and_then (has_stayed n) slot ≡ option_and_then file_in slot
stayed_now n None within = refl
stayed_now n (Some (There file born)) within =
    let test : nat_lt n born ≡ false = grind (arith, nat_tests) in
    ap (λ b. cond b None (Some file)) test
stayed_now n (Some (Gone at)) within = refl

-- what is in a directory now has been in it since now, and stayed
pub opened_now : (slots : List (Place × Slot)) (n : ℕ) (directory : FileId) → AreStampsWithin n slots → open_shown slots directory n ≡ opened (names_shown slots) directory
opened_now slots n directory within = λ i. record { directory = directory; since = same_since i; stayed = same_stayed i }
  where
    same_since : since_shown directory n slots ≡ (opened (names_shown slots) directory).since
    same_since = same_set nat_list_cmp_total names_apart _ _ (λ name.
        contains-since_shown directory n slots name
        ∙ since_now n (slot_at slots (directory, name)) (within (directory, name))
        ∙ ap is_some (sym (get-names_shown slots (directory, name)))
        ∙ sym (contains-opened (names_shown slots) directory name))

    same_stayed : stayed_shown directory n slots ≡ (opened (names_shown slots) directory).stayed
    same_stayed = same_map nat_list_cmp_total names_apart _ _ (λ name.
        get-stayed_shown directory n slots name
        ∙ stayed_now n (slot_at slots (directory, name)) (within (directory, name))
        ∙ sym (get-names_shown slots (directory, name))
        ∙ sym (get-opened (names_shown slots) directory name))

-- OPENDIR: one opening more
pub shown_push : (slots : List (Place × Slot)) (openings : List Opening) (o : Opening) → AreStampsWithin (length openings) slots
    → shown slots (openings ++ o ∷ []) ≡ opened_by o.asked o.directory (shown slots openings)
shown_push slots openings o within = λ i. record { names = names_shown slots; handles = same_handles i }
  where
    count : 0 + length openings ≡ length openings
    count = omega arith

    same_handles : handles_shown slots 0 map.empty (openings ++ o ∷ []) ≡ map.insert (handles_shown slots 0 map.empty openings) o.asked (opened (names_shown slots) o.directory)
    same_handles =
        handles_push slots openings 0 map.empty o
        ∙ ap (map.insert (handles_shown slots 0 map.empty openings) o.asked) (ap (open_shown slots o.directory) count ∙ opened_now slots (length openings) o.directory within)

-- ---- a write at one place

-- at names of its directory the write is seen by the name, and at those of others not at all
written_in : (old new : List (Place × Slot)) (directory : FileId) (name : List ℕ) (change : Option Slot → Option Slot) → IsChangedAt (directory, name) change old new
    → (other : FileId) (b : Bool) → file_eq other directory ≡ b → (q : List ℕ)
    → slot_at new (other, q) ≡ cond (b && eq_by_cmp name_cmp q name) (change (slot_at old (other, q))) (slot_at old (other, q))
written_in old new directory name change wrote other b test q =
    wrote (other, q)
    ∙ ap (λ t. cond t (change (slot_at old (other, q))) (slot_at old (other, q))) (place_tests (other, q) (directory, name) ∙ ap (λ t. t && eq_by_cmp name_cmp q name) test)

-- an open directory that is another, and this one
removed_elsewhere : (directory : FileId) (name : List ℕ) (h : OpenDirectory) → (file_eq directory h.directory) ≡ false → open_after_one (Removed directory name) h ≡ h
removed_elsewhere directory name h test =
    ap (λ b. if b then record { directory = h.directory; since = h.since; stayed = map.remove h.stayed name } else h) test

added_elsewhere : (directory : FileId) (name : List ℕ) (file : FileId) (h : OpenDirectory) → (file_eq directory h.directory) ≡ false → open_after_one (Added directory name file) h ≡ h
added_elsewhere directory name file h test =
    ap (λ b. if b then record { directory = h.directory; since = set.insert h.since name; stayed = h.stayed } else h) test

removed_here : (directory : FileId) (name : List ℕ) (h : OpenDirectory) → (file_eq directory h.directory) ≡ true
    → open_after_one (Removed directory name) h ≡ record { directory = h.directory; since = h.since; stayed = map.remove h.stayed name }
removed_here directory name h test =
    ap (λ b. if b then record { directory = h.directory; since = h.since; stayed = map.remove h.stayed name } else h) test

added_here : (directory : FileId) (name : List ℕ) (file : FileId) (h : OpenDirectory) → (file_eq directory h.directory) ≡ true
    → open_after_one (Added directory name file) h ≡ record { directory = h.directory; since = set.insert h.since name; stayed = h.stayed }
added_here directory name file h test =
    ap (λ b. if b then record { directory = h.directory; since = set.insert h.since name; stayed = h.stayed } else h) test

module _ (old new : List (Place × Slot)) (directory : FileId) (name : List ℕ) (change : Option Slot → Option Slot) (wrote : IsChangedAt (directory, name) change old new)
    (at : ℕ) (other : FileId) where
  -- a directory of which the place is not
  elsewhere : file_eq other directory ≡ false → open_shown new other at ≡ open_shown old other at
  elsewhere test = λ i. record { directory = other; since = same_since i; stayed = same_stayed i }
    where
      same_since : since_shown other at new ≡ since_shown other at old
      same_since = same_set nat_list_cmp_total names_apart _ _ (λ q.
          contains-since_shown other at new q
          ∙ ap (λ slot. option_map_or (was_since at) slot false) (written_in old new directory name change wrote other false test q)
          ∙ sym (contains-since_shown other at old q))

      same_stayed : stayed_shown other at new ≡ stayed_shown other at old
      same_stayed = same_map nat_list_cmp_total names_apart _ _ (λ q.
          get-stayed_shown other at new q
          ∙ ap (option_and_then (has_stayed at)) (written_in old new directory name change wrote other false test q)
          ∙ sym (get-stayed_shown other at old q))

  -- and one of which it is: a file that came or went since then has not stayed
  stayed_here : file_eq other directory ≡ true → ((slot : Option Slot) → option_and_then (has_stayed at) (change slot) ≡ None)
      → stayed_shown other at new ≡ map.remove (stayed_shown other at old) name
  stayed_here test gone = same_map nat_list_cmp_total names_apart _ _ (λ q.
      get-stayed_shown other at new q
      ∙ ap (option_and_then (has_stayed at)) (written_in old new directory name change wrote other true test q)
      ∙ stays_not (eq_by_cmp name_cmp q name) (slot_at old (other, q))
      ∙ ap (cond (eq_by_cmp name_cmp q name) None) (sym (get-stayed_shown other at old q))
      ∙ sym (map.get-remove nat_list_cmp_total (stayed_shown other at old) name q))
    where
      stays_not : (b : Bool) (slot : Option Slot) → option_and_then (has_stayed at) (cond b (change slot) slot) ≡ cond b None (option_and_then (has_stayed at) slot)
      stays_not true slot = gone slot
      stays_not false slot = refl

  since_added : file_eq other directory ≡ true → ((slot : Option Slot) → option_map_or (was_since at) (change slot) false ≡ true)
      → since_shown other at new ≡ set.insert (since_shown other at old) name
  since_added test come = same_set nat_list_cmp_total names_apart _ _ (λ q.
      contains-since_shown other at new q
      ∙ ap (λ slot. option_map_or (was_since at) slot false) (written_in old new directory name change wrote other true test q)
      ∙ comes (eq_by_cmp name_cmp q name) (slot_at old (other, q))
      ∙ ap (λ b. eq_by_cmp name_cmp q name || b) (sym (contains-since_shown other at old q))
      ∙ sym (set.contains-insert nat_list_cmp_total (since_shown other at old) name q))
    where
      comes : (b : Bool) (slot : Option Slot) → option_map_or (was_since at) (cond b (change slot) slot) false ≡ (b || option_map_or (was_since at) slot false)
      comes true slot = come slot
      comes false slot = refl

  since_kept : file_eq other directory ≡ true → ((slot : Option Slot) → option_map_or (was_since at) (change slot) false ≡ option_map_or (was_since at) slot false)
      → since_shown other at new ≡ since_shown other at old
  since_kept test kept = same_set nat_list_cmp_total names_apart _ _ (λ q.
      contains-since_shown other at new q
      ∙ ap (λ slot. option_map_or (was_since at) slot false) (written_in old new directory name change wrote other true test q)
      ∙ keeps (eq_by_cmp name_cmp q name) (slot_at old (other, q))
      ∙ sym (contains-since_shown other at old q))
    where
      keeps : (b : Bool) (slot : Option Slot) → option_map_or (was_since at) (cond b (change slot) slot) false ≡ option_map_or (was_since at) slot false
      keeps true slot = kept slot
      keeps false slot = refl

-- ---- a name is put

module _ (old new : List (Place × Slot)) (directory : FileId) (name : List ℕ) (file : FileId) (n : ℕ)
    (wrote : IsChangedAt (directory, name) (λ slot. Some (There file n)) old new) where
  pub names_put : names_shown new ≡ map.insert (map.remove (names_shown old) (directory, name)) (directory, name) file
  names_put = same_map place_cmp_total places_apart _ _ (λ q.
      get-names_shown new q ∙ ap (option_and_then file_in) (wrote q)
      ∙ puts (eq_by_cmp place_cmp q (directory, name)) (slot_at old q)
      ∙ ap (λ x. cond (eq_by_cmp place_cmp q (directory, name)) (Some file) (cond (eq_by_cmp place_cmp q (directory, name)) None x)) (sym (get-names_shown old q))
      ∙ ap (cond (eq_by_cmp place_cmp q (directory, name)) (Some file)) (sym (map.get-remove place_cmp_total (names_shown old) (directory, name) q))
      ∙ sym (map.get-insert place_cmp_total (map.remove (names_shown old) (directory, name)) (directory, name) file q))
    where
      puts : (b : Bool) (slot : Option Slot) → option_and_then file_in (cond b (Some (There file n)) slot) ≡ cond b (Some file) (cond b None (option_and_then file_in slot))
      puts true slot = refl
      puts false slot = refl

  open_put : (other : FileId) (at : ℕ) → at < n → open_shown new other at ≡ open_after (Removed directory name ∷ Added directory name file ∷ []) (open_shown old other at)
  open_put other at before = by (file_eq directory other) refl
    where
      came : nat_lt at n ≡ true
      came = grind (arith, nat_tests)

      by : (b : Bool) → (file_eq directory other) ≡ b → open_shown new other at ≡ open_after (Removed directory name ∷ Added directory name file ∷ []) (open_shown old other at)
      by true test =
          let same = file_equiv.symm other directory ∙ test in
          let removed = removed_here directory name (open_shown old other at) test in
          let added = added_here directory name file (record { directory = other; since = since_shown other at old; stayed = map.remove (stayed_shown other at old) name }) test in
          (λ i. record {
            directory = other;
            since = since_added old new directory name (λ slot. Some (There file n)) wrote at other same (λ slot. refl) i;
            stayed = stayed_here old new directory name (λ slot. Some (There file n)) wrote at other same (λ slot. ap (λ b. cond b None (Some file)) came) i;
          })
          ∙ sym (ap (open_after_one (Added directory name file)) removed ∙ added)
      by false test =
          let other_one = file_equiv.symm other directory ∙ test in
          elsewhere old new directory name (λ slot. Some (There file n)) wrote at other other_one
          ∙ sym (ap (open_after_one (Added directory name file)) (removed_elsewhere directory name (open_shown old other at) test)
          ∙ added_elsewhere directory name file (open_shown old other at) test)

  pub shown_put : (openings : List Opening) → length openings ≡ n
      → shown new openings ≡ edited (Removed directory name ∷ Added directory name file ∷ []) (shown old openings)
  shown_put openings count =
      let handles = handles_changed old new openings (open_after (Removed directory name ∷ Added directory name file ∷ [])) (λ other at before. open_put other at (omega arith)) in
      λ i. record { names = names_put i; handles = handles i }

-- ---- a name is taken away

module _ (old new : List (Place × Slot)) (directory : FileId) (name : List ℕ) (n : ℕ)
    (wrote : IsChangedAt (directory, name) (gone_at n) old new) where
  pub names_removed : names_shown new ≡ map.remove (names_shown old) (directory, name)
  names_removed = same_map place_cmp_total places_apart _ _ (λ q.
      get-names_shown new q ∙ ap (option_and_then file_in) (wrote q)
      ∙ goes (eq_by_cmp place_cmp q (directory, name)) (slot_at old q)
      ∙ ap (cond (eq_by_cmp place_cmp q (directory, name)) None) (sym (get-names_shown old q))
      ∙ sym (map.get-remove place_cmp_total (names_shown old) (directory, name) q))
    where
      goes : (b : Bool) (slot : Option Slot) → option_and_then file_in (cond b (gone_at n slot) slot) ≡ cond b None (option_and_then file_in slot)
      goes true None = refl
      goes true (Some (There file born)) = refl
      goes true (Some (Gone before)) = refl
      goes false slot = refl

  open_removed : (other : FileId) (at : ℕ) → at < n → open_shown new other at ≡ open_after (Removed directory name ∷ []) (open_shown old other at)
  open_removed other at before = by (file_eq directory other) refl
    where
      went : nat_lt at n ≡ true
      went = grind (arith, nat_tests)

      kept : (slot : Option Slot) → option_map_or (was_since at) (gone_at n slot) false ≡ option_map_or (was_since at) slot false
      kept None = refl
      kept (Some (There file born)) = went
      kept (Some (Gone before)) = refl

      gone : (slot : Option Slot) → option_and_then (has_stayed at) (gone_at n slot) ≡ None
      gone None = refl
      gone (Some (There file born)) = refl
      gone (Some (Gone before)) = refl

      by : (b : Bool) → (file_eq directory other) ≡ b → open_shown new other at ≡ open_after (Removed directory name ∷ []) (open_shown old other at)
      by true test =
          let same = file_equiv.symm other directory ∙ test in
          (λ i. record {
            directory = other;
            since = since_kept old new directory name (gone_at n) wrote at other same kept i;
            stayed = stayed_here old new directory name (gone_at n) wrote at other same gone i;
          })
          ∙ sym (removed_here directory name (open_shown old other at) test)
      by false test =
          let other_one = file_equiv.symm other directory ∙ test in
          elsewhere old new directory name (gone_at n) wrote at other other_one ∙ sym (removed_elsewhere directory name (open_shown old other at) test)

  pub shown_removed : (openings : List Opening) → length openings ≡ n → shown new openings ≡ edited (Removed directory name ∷ []) (shown old openings)
  shown_removed openings count =
      let handles = handles_changed old new openings (open_after (Removed directory name ∷ [])) (λ other at before. open_removed other at (omega arith)) in
      λ i. record { names = names_removed i; handles = handles i }

-- ---- stamps

-- a stamp that is written is no later than so many openings where it is made of one that is not
within_written : (n : ℕ) (old new : List (Place × Slot)) (place : state.Place) (change : Option Slot → Option Slot) → IsChangedAt place change old new
    → ((slot : Option Slot) → IsStampWithin n slot → IsStampWithin n (change slot)) → AreStampsWithin n old → AreStampsWithin n new
within_written n old new place change wrote keeps within q = subst (IsStampWithin n) (sym (wrote q)) (by (eq_by_cmp place_cmp q place) (slot_at old q) (within q))
  where
    by : (b : Bool) (slot : Option Slot) → IsStampWithin n slot → IsStampWithin n (cond b (change slot) slot)
    by true slot within = keeps slot within
    by false slot within = within

pub within_put : (n : ℕ) (old new : List (Place × Slot)) (place : state.Place) (file : FileId) (born : ℕ) → born ≡ n → IsChangedAt place (λ slot. Some (There file born)) old new
    → AreStampsWithin n old → AreStampsWithin n new
within_put n old new place file born is wrote = within_written n old new place (λ slot. Some (There file born)) wrote (λ slot within. let few : born ≤ n = omega arith in few)

pub within_removed : (n : ℕ) (old new : List (Place × Slot)) (place : state.Place) (at : ℕ) → at ≡ n → IsChangedAt place (gone_at at) old new
    → AreStampsWithin n old → AreStampsWithin n new
within_removed n old new place at is wrote = within_written n old new place (gone_at at) wrote keeps
  where
    keeps : (slot : Option Slot) → IsStampWithin n slot → IsStampWithin n (gone_at at slot)
    keeps None within = tt
    keeps (Some (There file born)) within = let few : at ≤ n = omega arith in few
    keeps (Some (Gone before)) within = within
