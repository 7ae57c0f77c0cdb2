-- The entries of a listing: what holds of all that are judged, and the nodes that they give.
use Rattle.std.proofs.Common.{append_assoc, arith, ◌≡◌, ◌≢◌, ℕ, Bool, true, false, List, [], ◌∷◌, ◌++◌, length, Option, None, Some, refl, sym, ap, subst, ◌∙◌, ◌<◌}
use Rattle.std.specs.Prelude.{◌↔◌, ◌==◌, All, IsTrue, if◌then◌else◌, not, option_map}
use Rattle.std.specs.FinMap.{FinMap, get}
use Rattle.std.proofs.lemmas.List.{append-nil}
use Rattle.std.specs.Bool.{MatchBool}
use Rattle.std.specs.List.{AllWithin, HoldsAt}
use Rattle.std.proofs.lemmas.Bool.{MatchBool-at_true}
use Rattle.std.proofs.lemmas.Bool.Decides.{nat_tests}
use Rattle.std.proofs.lemmas.Iterator.Search.{true_from_All}
use Rattle.std.proofs.lemmas.List.Elements.{All-nil, All-cons, All-head, All-tail, All-filter, All-from_all_within, filter_passes}
use Rattle.fa_bodies.specs.declared.mode.Kind.{Kind}
use Rattle.fa_bodies.specs.Dirents.{PlainDirent}
use Rattle.fa_ledger.specs.Counts.{is_dots, nodes_of_entry, nodes_of_listing}
use Rattle.fa_ledger.specs.Mentions.{node_of}
use Rattle.fa_ledger.specs.declared.name.NodeName.{NodeName}
use Rattle.fa_tree.specs.declared.id.FileId.{FileId}
use Rattle.fa_tree.specs.State.{File, Store, OpenDirectory, file_cmp}
use Rattle.fa_tree.specs.Directories.{judged, WasThere, IsTypedAsStayed, IsThereIfLookedUp, IsTypedIfLookedUp}
use Rattle.fa_tree.specs.parts.ListingParts.{IsAllowed, IsTypedNow}
use Rattle.fa_tree.specs.Directories.{file_if, files_listed}
use Rattle.fa_tree.specs.Bindings.{bound}
use Rattle.fa_tree.proofs.BindingLemmas.{bound_to_none}

-- ---- the type of a file

-- what is told of the type of a file, if it is there
pub typed_by : (files : FinMap file_cmp File) (id : FileId) (kind : Kind) (P : Kind → Type 0) (b : Bool) → Some kind ≡ option_map (λ (f : File). f.kind) (get files id)
    → IsTrue b ↔ P kind → IsTrue b ↔ ((f : File) → get files id ≡ Some f → P f.kind)
typed_by files id kind P b is told = by (get files id) is
  where
    by : (o : Option File) → Some kind ≡ option_map (λ (f : File). f.kind) o → IsTrue b ↔ ((f : File) → o ≡ Some f → P f.kind)
    by None is = absurd cc
    by (Some g) is =
        let own : kind ≡ g.kind = cc in (
          (λ t f same. let whole : kind ≡ f.kind = (let both : g ≡ f = cc in own ∙ ap (λ (x : File). x.kind) both) in subst P whole (told.0 t)),
          (λ each. told.1 (subst P (sym own) (each g refl))),
        )

-- ---- the entries that are judged

-- it holds of an entry that is judged; and the entry is judged, and it does not hold
abbrev pub HoldsIfJudged : (PlainDirent → Type 0) → PlainDirent → Type 0
HoldsIfJudged P d = not (is_dots d.name) ≡ true → P d

abbrev pub FailsJudged : (PlainDirent → Type 0) → PlainDirent → Type 0
FailsJudged P d = (not (is_dots d.name) ≡ true) × (P d → ⊥)

-- what holds of each entry that is judged
judged_each : (P : PlainDirent → Type 0) (ds : List PlainDirent) → All P (judged ds) → All (HoldsIfJudged P) ds
judged_each P [] each = All-nil (HoldsIfJudged P)
judged_each P (d ∷ ds) each = by (not (is_dots d.name)) refl each (judged_each P ds)
  where
    by : (b : Bool) → not (is_dots d.name) ≡ b → All P (if b then d ∷ judged ds else judged ds) → (All P (judged ds) → All (HoldsIfJudged P) ds) → All (HoldsIfJudged P) (d ∷ ds)
    by true own each rest = All-cons (HoldsIfJudged P) d ds (λ is. All-head P d (judged ds) each) (rest (All-tail P d (judged ds) each))
    by false own each rest = All-cons (HoldsIfJudged P) d ds (λ is. let no = sym own ∙ is in absurd cc) (rest each)

-- and what holds of each entry, if it is judged
all_judged : (P : PlainDirent → Type 0) (ds : List PlainDirent) → All (HoldsIfJudged P) ds → All P (judged ds)
all_judged P ds each =
    let held = All-filter (λ (d : PlainDirent). not (is_dots d.name)) (HoldsIfJudged P) ds each in
    let passed = filter_passes (λ (d : PlainDirent). not (is_dots d.name)) ds in
    λ k d within. held k d within (passed k d within)

-- a run over the entries that stops at the first which is judged and of which it does not hold
pub run_of_judged : (P : PlainDirent → Type 0) (ds : List PlainDirent) (b : Bool)
    → MatchBool b (AllWithin (HoldsIfJudged P) ds 0 (length ds)) ((k : ℕ) × (k < length ds) × HoldsAt (FailsJudged P) ds k) → IsTrue b ↔ All P (judged ds)
run_of_judged P ds b ran = (
  (λ all. all_judged P ds (All-from_all_within (HoldsIfJudged P) ds (MatchBool-at_true _ _ all ran))),
  (λ each. true_from_All (HoldsIfJudged P) (FailsJudged P) b ds (λ d holds fails. fails.1 (holds fails.0)) ran (judged_each P ds each)),
)

-- the types of all fit, each as one fact
pub all_typed_now : (s : Store) (directory : FileId) (entries : List PlainDirent) (told : Bool) → IsTrue told ↔ All (IsTypedNow s directory) (judged entries)
    → IsTrue told ↔ All (IsTypedIfLookedUp s directory) (judged entries)
all_typed_now s directory entries told is = (
  λ t k d within. (is.0 t k d within).typed,
  λ each. is.1 (λ k d within. record { typed = each k d within }),
)

-- an entry that is judged and gives no node looks nothing up, so it has no type to fit
bare_typed : (s : Store) (directory : FileId) (d : PlainDirent) → nodes_of_entry d.entry d.name ≡ [] → HoldsIfJudged (IsTypedIfLookedUp s directory) d
bare_typed s directory d none is_judged entry id file is some named found = absurd (gives (is_dots d.name) is_judged (subst (λ o. nodes_of_entry o d.name ≡ []) is none))
  where
    unlike : (n : ℕ) (zero : Bool) → (n == 0) ≡ zero → n ≢ 0 → (if zero then [] else n ∷ []) ≡ [] → ⊥
    unlike n true is some none = some (grind (arith, nat_tests, is))
    unlike n false is some none = absurd cc

    gives : (dots : Bool) → not dots ≡ true → (if dots then [] else node_of entry) ≡ [] → ⊥
    gives true is none = absurd cc
    gives false is none = unlike entry.nodeid (entry.nodeid == 0) refl some none

-- nor has any entry of a listing that gives no node, if it is judged
pub bare_all_typed : (s : Store) (directory : FileId) (ds : List PlainDirent) → nodes_of_listing ds ≡ [] → All (IsTypedIfLookedUp s directory) (judged ds)
bare_all_typed s directory ds none = all_judged (IsTypedIfLookedUp s directory) ds (each ds none)
  where
    apart : (a b : List ℕ) → a ++ b ≡ [] → (a ≡ []) × (b ≡ [])
    apart [] b is = (refl, is)
    apart (node ∷ a) b is = absurd cc

    each : (ds : List PlainDirent) → nodes_of_listing ds ≡ [] → All (HoldsIfJudged (IsTypedIfLookedUp s directory)) ds
    each [] none = All-nil (HoldsIfJudged (IsTypedIfLookedUp s directory))
    each (d ∷ ds) none =
        let both = apart (nodes_of_entry d.entry d.name) (nodes_of_listing ds) none in
        All-cons (HoldsIfJudged (IsTypedIfLookedUp s directory)) d ds (bare_typed s directory d both.0) (each ds both.1)

-- each entry that is judged is allowed: what its name, its type and its node say, apart
pub allowed_each : (s : Store) (h : OpenDirectory) (entries : List PlainDirent) (told : Bool) → IsTrue told ↔ All (IsAllowed s h) (judged entries)
    → IsTrue told ↔ (All (WasThere h) (judged entries) × All (IsTypedAsStayed s h) (judged entries) × All (IsThereIfLookedUp s h.directory) (judged entries))
allowed_each s h entries told is = (
  λ t. ((λ k d within. (is.0 t k d within).there), (λ k d within. (is.0 t k d within).typed), (λ k d within. (is.0 t k d within).now)),
  λ each. is.1 (λ k d within. record { there = each.0 k d within; typed = each.1 k d within; now = each.2 k d within }),
)

-- ---- the nodes that they give

-- what is not unlike the empty list is empty
gives_none : (nodes : List ℕ) → (nodes ≢ [] → IsTrue false) → nodes ≡ []
gives_none [] told = refl
gives_none (node ∷ nodes) told = let no = told (λ is. cc) in absurd cc

-- an entry that gives no node adds no file
none_more : (s : Store) (directory : FileId) (d : PlainDirent) (ds : List PlainDirent) → nodes_of_entry d.entry d.name ≡ []
    → files_listed s directory (d ∷ ds) ≡ files_listed s directory ds
none_more s directory d ds is = ap (λ nodes. file_if nodes (get s.names (directory, d.name)) ++ files_listed s directory ds) is

-- and one that gives a node adds that of its name
one_more : (s : Store) (directory : FileId) (d : PlainDirent) (ds : List PlainDirent) → nodes_of_entry d.entry d.name ≢ []
    → files_listed s directory (d ∷ ds) ≡ get s.names (directory, d.name) ∷ files_listed s directory ds
one_more s directory d ds gives = by (nodes_of_entry d.entry d.name) gives
  where
    by : (nodes : List ℕ) → nodes ≢ [] → file_if nodes (get s.names (directory, d.name)) ++ files_listed s directory ds ≡ get s.names (directory, d.name) ∷ files_listed s directory ds
    by [] gives = absurd (gives refl)
    by (node ∷ nodes) gives = refl

module _ (s : Store) (directory : FileId) (all items : List (NodeName × FileId)) (names : List NodeName) (left rest : List PlainDirent) (d : PlainDirent)
    (so_far : all ≡ items ++ bound names (files_listed s directory left)) (next : left ≡ d ∷ rest) where
  -- what is left after an entry
  after : (files : List (Option FileId)) → files_listed s directory (d ∷ rest) ≡ files → all ≡ items ++ bound names files
  after files is = so_far ∙ ap (λ fs. items ++ bound names fs) (ap (files_listed s directory) next ∙ is)

  pub entry_skipped : (nodes_of_entry d.entry d.name ≢ [] → IsTrue false) → all ≡ items ++ bound names (files_listed s directory rest)
  entry_skipped told = after (files_listed s directory rest) (none_more s directory d rest (gives_none (nodes_of_entry d.entry d.name) told))

  -- what is left after an entry that takes the next name
  named : (more : List NodeName) (name : NodeName) (file : Option FileId) → nodes_of_entry d.entry d.name ≢ [] → names ≡ name ∷ more → get s.names (directory, d.name) ≡ file
      → all ≡ items ++ bound (name ∷ more) (file ∷ files_listed s directory rest)
  named more name file gives is found =
      after (file ∷ files_listed s directory rest) (one_more s directory d rest gives ∙ ap (λ f. f ∷ files_listed s directory rest) found)
      ∙ ap (λ ns. items ++ bound ns (file ∷ files_listed s directory rest)) is

  pub entry_in_vain : (more : List NodeName) (name : NodeName) → nodes_of_entry d.entry d.name ≢ [] → names ≡ name ∷ more → get s.names (directory, d.name) ≡ None
      → all ≡ items ++ bound more (files_listed s directory rest)
  entry_in_vain more name gives is found = named more name None gives is found

  pub entry_bound : (more : List NodeName) (name : NodeName) (file : FileId) (now : List (NodeName × FileId)) → nodes_of_entry d.entry d.name ≢ [] → names ≡ name ∷ more
      → get s.names (directory, d.name) ≡ Some file → now ≡ items ++ (name, file) ∷ [] → all ≡ now ++ bound more (files_listed s directory rest)
  entry_bound more name file now gives is found pushed =
      named more name (Some file) gives is found
      ∙ sym (append_assoc items ((name, file) ∷ []) (bound more (files_listed s directory rest)))
      ∙ ap (λ xs. xs ++ bound more (files_listed s directory rest)) (sym pushed)

-- nothing is left where the names are at their end
pub no_name_left : (all items : List (NodeName × FileId)) (names : List NodeName) (files : List (Option FileId)) → all ≡ items ++ bound names files → length names ≡ 0 → items ≡ all
no_name_left all items [] files so_far none = sym (so_far ∙ append-nil items)
no_name_left all items (name ∷ names) files so_far none = absurd cc

-- nor where the entries are
pub no_entry_left : (s : Store) (directory : FileId) (all items : List (NodeName × FileId)) (names : List NodeName) (left : List PlainDirent)
    → all ≡ items ++ bound names (files_listed s directory left) → left ≡ [] → items ≡ all
no_entry_left s directory all items names left so_far none =
    sym (so_far ∙ ap (λ ds. items ++ bound names (files_listed s directory ds)) none ∙ ap (λ xs. items ++ xs) (bound_to_none names) ∙ append-nil items)
