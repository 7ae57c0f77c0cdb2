-- What a tree knows: steps keep it, a success adds the nodes that its answer gives and the directory that it opens, and a call
-- of which all is known does not fail for want of it.
use Rattle.std.proofs.Common.{◌≡◌, ℕ, ℤ, ◌==◌, Bool, true, false, cond, List, [], ◌∷◌, ◌++◌, map, Option, None, Some, refl, sym, ap, subst, ◌∙◌, inl, inr, arith}
use Rattle.std.specs.Prelude.{All, Contains, if◌then◌else◌, not, option_map, option_and_then}
use Rattle.std.specs.Cmp.{IsTotalOrder, nat_cmp_total}
use Rattle.std.specs.Ordering.{nat_cmp, eq_by_cmp}
use Rattle.std.specs.declared.cmp.Ordering.{Ordering}
use Rattle.std.specs.FinMap.{FinMap, get, insert, get-insert}
use Rattle.std.proofs.lemmas.Bool.Decides.{nat_tests}
use Rattle.std.proofs.lemmas.List.Elements.{All-head, All-tail}
use Rattle.std.proofs.lemmas.Option.{same_Some}
use Rattle.fa_capture.specs.declared.codes.TheConstants.{UNKNOWN_HERE}
use Rattle.fa_capture.specs.Checks.{FirstFailure}
use Rattle.fa_capture.proofs.CallerLemmas.{contains_cases, contains_first, contains_behind, not_told}
use Rattle.fa_bodies.specs.declared.entry.EntryOut.{EntryOut}
use Rattle.fa_bodies.specs.declared.handles.OpenOut.{OpenOut}
use Rattle.fa_bodies.specs.Dirents.{PlainDirent}
use Rattle.fa_ledger.specs.declared.call.Listing.{Listing}
use Rattle.fa_ledger.specs.declared.name.NodeName.{NodeName}
use Rattle.fa_ledger.specs.declared.name.NodeName.TheVariants.{Root, Given}
use Rattle.fa_ledger.specs.declared.operation.Outcome.{Outcome}
use Rattle.fa_ledger.specs.declared.operation.Outcome.TheVariants.{Fails, Succeeds, Unanswered}
use Rattle.fa_ledger.specs.Calls.{PlainCall}
use Rattle.fa_ledger.specs.Mentions.{node_of}
use Rattle.fa_ledger.specs.Counts.{is_dots, nodes_of_entry, nodes_of_listing}
use Rattle.fa_ledger.specs.Operations.{PlainOperation, bare, ended}
use Rattle.fa_ledger.proofs.CallerLemmas.{gives, listed_nodes}
use Rattle.fa_ledger.specs.Operations.PlainAction.{Lookup, Symlink, Mknod, Mkdir, Link, Opendir, Create}
use Rattle.fa_ledger.specs.Operations.PlainOperation.{Lists, Acts}
use Rattle.fa_tree.specs.declared.id.FileId.{FileId}
use Rattle.fa_tree.specs.State.{OpenDirectory, Store, TreeState, place_cmp, node_cmp, root, file_of}
use Rattle.fa_tree.specs.Resolved.{Resolved, other_of, handle_of, resolved_with, resolved_on, resolved}
use Rattle.fa_tree.specs.Edits.{each_open, open_after, handles_after}
use Rattle.fa_tree.specs.Opening.{opened, with_opened}
use Rattle.fa_tree.specs.Directories.{judged, IsThereIfLookedUp, file_if, files_listed, files_on, EntriesAre, list_said}
use Rattle.fa_tree.specs.Operations.{Setting, rule, changed, said, directory_opened, count_written}
use Rattle.fa_tree.specs.Bindings.{bound, nodes_after}
use Rattle.fa_tree.specs.Steps.{names_given, opens_anew, setting, given_in, tree_done, tree_by, operation_checks, checks_of_files, step_checks, Steps}
use Rattle.fa_tree.proofs.EditedLemmas.{insert_there}
use Rattle.fa_tree.proofs.NodeLemmas.{node_total}
use Rattle.fa_tree.proofs.NameLemmas.{get-each_open}
use Rattle.fa_tree.proofs.NamedLemmas.{checks_hold}
use Rattle.fa_tree.proofs.OutcomeLemmas.{given_whatever}

-- ---- what is known

-- the name of a node stands for a file
abbrev pub IsKnownIn : NodeName → TreeState → Type 0
IsKnownIn name t = (file : FileId) × (file_of t name ≡ Some file)

-- the directory that the request of this number opened is known
abbrev pub IsOpenedIn : ℕ → TreeState → Type 0
IsOpenedIn asked t = (h : OpenDirectory) × (get t.handles asked ≡ Some h)

-- ---- maps

-- what a map has it still has after a write
insert_keeps : {K X : Type 0} {R : K → K → Ordering} → IsTotalOrder R → (m : FinMap R X) (k : K) (v : X) (q : K) → (x : X) × (get m q ≡ Some x)
    → (y : X) × (get (insert m k v) q ≡ Some y)
insert_keeps {X = X} {R = R} total m k v q has = by (eq_by_cmp R q k) (get-insert total m k v q)
  where
    by : (b : Bool) → get (insert m k v) q ≡ cond b (Some v) (get m q) → (y : X) × (get (insert m k v) q ≡ Some y)
    by true is = (v, is)
    by false is = (has.0, is ∙ has.1)

-- names that are given leave what was known
nodes_keep : (given : List (NodeName × FileId)) (nodes : FinMap node_cmp FileId) (name : NodeName) → (file : FileId) × (get nodes name ≡ Some file)
    → (file : FileId) × (get (nodes_after given nodes) name ≡ Some file)
nodes_keep [] nodes name has = has
nodes_keep (one ∷ given) nodes name has = nodes_keep given (insert nodes one.0 one.1) name (insert_keeps node_total nodes one.0 one.1 name has)

-- and are known
nodes_have : (given : List (NodeName × FileId)) (nodes : FinMap node_cmp FileId) (name : NodeName) (file : FileId) → Contains given (name, file)
    → (other : FileId) × (get (nodes_after given nodes) name ≡ Some other)
nodes_have [] nodes name file has = absurd (omega (arith, has.1))
nodes_have (one ∷ given) nodes name file has =
    elim (contains_cases one given (name, file) has) [
      | inl here ↦
          let there : get (insert nodes one.0 one.1) name ≡ Some one.1 =
          subst (λ n. get (insert nodes one.0 one.1) n ≡ Some one.1) (ap (λ (p : NodeName × FileId). p.0) here) (insert_there node_total nodes one.0 one.1) in
          nodes_keep given (insert nodes one.0 one.1) name (one.1, there)
      | inr behind ↦ nodes_have given (insert nodes one.0 one.1) name file behind
    ]

-- ---- steps keep what is known

-- nodes
pub step_keeps_node : (old new : TreeState) (call : PlainCall) (wrote : Option ℕ) (so_far : List PlainDirent) (name : NodeName) → Steps old new call wrote so_far
    → IsKnownIn name old → IsKnownIn name new
step_keeps_node old new call wrote so_far Root s known = (root, refl)
step_keeps_node old new call wrote so_far (Given by id) s known =
    subst (IsKnownIn (Given by id)) (sym s.after) (after (ended call.operation))
  where
    count : ℕ
    count = count_written call.operation wrote

    done : IsKnownIn (Given by id) (tree_done old s.files call call.operation count)
    done = nodes_keep (given_in (setting old.store s.files call call.operation count []) call call.operation) old.nodes (Given by id) known

    after : (e : Outcome (Unit {0})) → IsKnownIn (Given by id) (tree_by old (tree_done old s.files call call.operation count) e)
    after (Fails error) = known
    after (Succeeds success) = done
    after Unanswered = done

-- open directories
each_keeps : (change : OpenDirectory → OpenDirectory) (handles : FinMap nat_cmp OpenDirectory) (asked : ℕ) → (h : OpenDirectory) × (get handles asked ≡ Some h)
    → (h : OpenDirectory) × (get (each_open change handles) asked ≡ Some h)
each_keeps change handles asked has = (change has.0, get-each_open change handles asked ∙ ap (option_map change) has.1)

opening_keeps : (names : FinMap place_cmp FileId) (directory : Option FileId) (asked : ℕ) (opens : Bool) (handles : FinMap nat_cmp OpenDirectory) (q : ℕ)
    → (h : OpenDirectory) × (get handles q ≡ Some h) → (h : OpenDirectory) × (get (with_opened names directory asked opens handles) q ≡ Some h)
opening_keeps names (Some directory) asked true handles q has = insert_keeps nat_cmp_total handles asked (opened names directory) q has
opening_keeps names (Some directory) asked false handles q has = has
opening_keeps names None asked opens handles q has = has

pub step_keeps_open : (old new : TreeState) (call : PlainCall) (wrote : Option ℕ) (so_far : List PlainDirent) (asked : ℕ) → Steps old new call wrote so_far
    → IsOpenedIn asked old → IsOpenedIn asked new
step_keeps_open old new call wrote so_far asked s known =
    subst (IsOpenedIn asked) (sym s.after) (after (ended call.operation))
  where
    count : ℕ
    count = count_written call.operation wrote

    done : IsOpenedIn asked (tree_done old s.files call call.operation count)
    done =
        opening_keeps (changed old.store s.files call.truncates call.operation count).names (directory_opened s.files call.operation) call.asked (opens_anew call)
        (handles_after (rule old.store s.files call.operation).edits old.handles) asked
        (each_keeps (open_after (rule old.store s.files call.operation).edits) old.handles asked known)

    after : (e : Outcome (Unit {0})) → IsOpenedIn asked (tree_by old (tree_done old s.files call call.operation count) e)
    after (Fails error) = known
    after (Succeeds success) = done
    after Unanswered = done

-- ---- the nodes that a success gives have files

-- an error gives none
list_error_gives : (o : Outcome (List PlainDirent)) (error : ℤ) → bare o ≡ Fails error → listed_nodes o ≡ []
list_error_gives (Fails e) error is = refl
list_error_gives (Succeeds entries) error is = absurd cc
list_error_gives Unanswered error is = refl

errors_give_no_node : (o : PlainOperation) (error : ℤ) → ended o ≡ Fails error → gives o ≡ []
errors_give_no_node (Lists l) error is = list_error_gives l.outcome error is
errors_give_no_node (Acts (Lookup name (Succeeds entry))) error is = absurd cc
errors_give_no_node (Acts (Symlink name target (Succeeds entry))) error is = absurd cc
errors_give_no_node (Acts (Mknod mode umask name (Succeeds entry))) error is = absurd cc
errors_give_no_node (Acts (Mkdir mode umask name (Succeeds entry))) error is = absurd cc
errors_give_no_node (Acts (Link new_name (Succeeds entry))) error is = absurd cc
errors_give_no_node (Acts (Create flags mode umask name (Succeeds made))) error is = absurd cc
errors_give_no_node other error is = refl

-- there is a file for each of these nodes
abbrev HaveFiles : List ℕ → List (Option FileId) → Type 0
HaveFiles [] files = Unit {0}
HaveFiles (node ∷ nodes) [] = ⊥
HaveFiles (node ∷ nodes) (None ∷ files) = ⊥
HaveFiles (node ∷ nodes) (Some file ∷ files) = HaveFiles nodes files

one_has : (node : ℕ) (file : Option FileId) (id : FileId) → file ≡ Some id → HaveFiles (node ∷ []) (file ∷ [])
one_has node None id is = absurd cc
one_has node (Some file) id is = tt

-- the nodes of a listing
node_more : (node : ℕ) (file : Option FileId) (none : Bool) (nodes : List ℕ) (files : List (Option FileId)) → (none ≡ false → (id : FileId) × (file ≡ Some id)) → HaveFiles nodes files
    → HaveFiles ((if none then [] else node ∷ []) ++ nodes) (file_if (if none then [] else node ∷ []) file ++ files)
node_more node file true nodes files found have = have
node_more node None false nodes files found have = let none = found refl in let clash = none.1 in absurd cc
node_more node (Some id) false nodes files found have = have

looked_up_more : (s : Store) (directory : FileId) (d : PlainDirent) (nodes : List ℕ) (files : List (Option FileId)) → (not (is_dots d.name) ≡ true → IsThereIfLookedUp s directory d)
    → HaveFiles nodes files → HaveFiles (nodes_of_entry d.entry d.name ++ nodes) (file_if (nodes_of_entry d.entry d.name) (get s.names (directory, d.name)) ++ files)
looked_up_more s directory d nodes files there have = by d.entry refl
  where
    file : Option FileId
    file = get s.names (directory, d.name)

    dots : (entry : EntryOut) (b : Bool) → d.entry ≡ Some entry → is_dots d.name ≡ b
        → HaveFiles ((if b then [] else node_of entry) ++ nodes) (file_if (if b then [] else node_of entry) file ++ files)
    dots entry true is test = have
    dots entry false is test =
        node_more entry.nodeid file (entry.nodeid == 0) nodes files
        (λ other. there (ap not test) (entry, is, (λ none. grind (arith, nat_tests, other, none)))) have

    by : (o : Option EntryOut) → d.entry ≡ o → HaveFiles (nodes_of_entry o d.name ++ nodes) (file_if (nodes_of_entry o d.name) file ++ files)
    by None is = have
    by (Some entry) is = dots entry (is_dots d.name) is refl

judged_apart : (P : PlainDirent → Type 0) (d : PlainDirent) (rest : List PlainDirent) (b : Bool) → All P (cond b (d ∷ rest) rest) → (b ≡ true → P d) × All P rest
judged_apart P d rest true each = ((λ is. All-head P d rest each), All-tail P d rest each)
judged_apart P d rest false each = ((λ is. absurd cc), each)

listed_have : (s : Store) (directory : FileId) (entries : List PlainDirent) → All (IsThereIfLookedUp s directory) (judged entries) → HaveFiles (nodes_of_listing entries) (files_listed s directory entries)
listed_have s directory [] each = tt
listed_have s directory (d ∷ entries) each =
    let apart = judged_apart (IsThereIfLookedUp s directory) d (judged entries) (not (is_dots d.name)) each in
    looked_up_more s directory d (nodes_of_listing entries) (files_listed s directory entries) apart.0 (listed_have s directory entries apart.1)

on_open_have : (s : Store) (size : ℕ) (handle : Option OpenDirectory) (listing : Option Listing) (so_far entries : List PlainDirent)
    → EntriesAre s size handle listing so_far entries → HaveFiles (nodes_of_listing entries) (files_on s handle entries)
on_open_have s size (Some h) (Some listing) so_far entries are = listed_have s h.directory entries are.now
on_open_have s size handle listing so_far entries are = absurd are

list_has : (s : Store) (size : ℕ) (handle : Option OpenDirectory) (listing : Option Listing) (so_far : List PlainDirent) (o : Outcome (List PlainDirent))
    → (list_said s size handle listing so_far o).listing → HaveFiles (listed_nodes o) (list_said s size handle listing so_far o).files
list_has s size handle listing so_far (Fails error) are = tt
list_has s size handle listing so_far (Succeeds entries) are = on_open_have s size handle listing so_far entries are
list_has s size handle listing so_far Unanswered are = tt

-- the nodes of any success
success_has : (g : Setting) (o : PlainOperation) → (said g o).attributes → (said g o).listing → HaveFiles (gives o) (said g o).files
success_has g (Lists l) fits lists = list_has g.after l.size g.files.handle g.listing g.so_far l.outcome lists
success_has g (Acts (Lookup name (Succeeds entry))) fits lists = by (entry.nodeid == 0) refl
  where
    by : (b : Bool) → (entry.nodeid == 0) ≡ b → HaveFiles (if b then [] else entry.nodeid ∷ []) (get g.after.names (g.files.node, name) ∷ [])
    by true test = tt
    by false test =
        let found = fits (λ none. grind (arith, nat_tests, test, none)) in
        one_has entry.nodeid (get g.after.names (g.files.node, name)) found.0 found.1
success_has g (Acts (Symlink name target (Succeeds entry))) fits lists = one_has entry.nodeid (get g.after.names (g.files.node, name)) fits.0 fits.1
success_has g (Acts (Mknod mode umask name (Succeeds entry))) fits lists = one_has entry.nodeid (get g.after.names (g.files.node, name)) fits.0 fits.1
success_has g (Acts (Mkdir mode umask name (Succeeds entry))) fits lists = one_has entry.nodeid (get g.after.names (g.files.node, name)) fits.0 fits.1
success_has g (Acts (Link new_name (Succeeds entry))) fits lists = one_has entry.nodeid (get g.after.names (g.files.node, new_name)) fits.0 fits.1
success_has g (Acts (Create flags mode umask name (Succeeds made))) fits lists = one_has made.0.nodeid (get g.after.names (g.files.node, name)) fits.0 fits.1
success_has g other fits lists = tt

-- ---- so their names are known

-- the name of a node that has a file is given for it
name_bound : (name_of : ℕ → Option NodeName) (nodes : List ℕ) (names : List NodeName) (files : List (Option FileId)) (node : ℕ) (name : NodeName) → HaveFiles nodes files
    → map name_of nodes ≡ map (λ n. Some n) names → Contains nodes node → name_of node ≡ Some name → (file : FileId) × Contains (bound names files) (name, file)
name_bound name_of [] names files node name have named there is = absurd (omega (arith, there.1))
name_bound name_of (n ∷ nodes) [] files node name have named there is = absurd cc
name_bound name_of (n ∷ nodes) (m ∷ names) [] node name have named there is = absurd have
name_bound name_of (n ∷ nodes) (m ∷ names) (None ∷ files) node name have named there is = absurd have
name_bound name_of (n ∷ nodes) (m ∷ names) (Some file ∷ files) node name have named there is =
    let first : name_of n ≡ Some m = cc in
    let rest : map name_of nodes ≡ map (λ k. Some k) names = cc in
    elim (contains_cases n nodes node there) [
      | inl here ↦
          let same : m ≡ name = same_Some m name (sym first ∙ ap name_of here ∙ is) in
          (file, subst (λ k. Contains ((m, file) ∷ bound names files) (k, file)) same (contains_first (m, file) (bound names files)))
      | inr behind ↦
          let found = name_bound name_of nodes names files node name have rest behind is in
          (found.0, contains_behind (m, file) (bound names files) (name, found.0) found.1)
    ]

-- the step of a success knows the names of the nodes that its answer gives
pub step_gives : (old new : TreeState) (call : PlainCall) (wrote : Option ℕ) (so_far : List PlainDirent) (name_of : ℕ → Option NodeName) (node : ℕ) (id by : ℕ)
    → (s : Steps old new call wrote so_far) → map name_of (gives call.operation) ≡ map (λ n. Some n) (names_given call)
    → Contains (gives call.operation) node → name_of node ≡ Some (Given by id) → IsKnownIn (Given by id) new
step_gives old new call wrote so_far name_of node id by s named there is =
    subst (IsKnownIn (Given by id)) (sym s.after) (after call.operation refl (ended call.operation) refl)
  where
    count : ℕ
    count = count_written call.operation wrote

    g : Setting
    g = setting old.store s.files call call.operation count so_far

    done : IsKnownIn (Given by id) (tree_done old s.files call call.operation count)
    done =
        let hold = checks_hold old new call wrote so_far s in
        let have = success_has g call.operation hold.1.1.0 hold.1.1.1.1.1.0 in
        let found = name_bound name_of (gives call.operation) (names_given call) (said g call.operation).files node (Given by id) have named there is in
        nodes_have (given_in (setting old.store s.files call call.operation count []) call call.operation) old.nodes (Given by id) found.0
        (subst (λ (given : List (NodeName × FileId)). Contains given (Given by id, found.0)) (given_whatever old.store s.files call call.operation count so_far) found.1)

    after : (o : PlainOperation) → call.operation ≡ o → (e : Outcome (Unit {0})) → ended o ≡ e → IsKnownIn (Given by id) (tree_by old (tree_done old s.files call call.operation count) e)
    after o asks (Fails error) fails =
        let none : gives o ≡ [] = errors_give_no_node o error fails in
        let nowhere : Contains [] node = subst (λ (nodes : List ℕ). Contains nodes node) (ap gives asks ∙ none) there in
        absurd (omega (arith, nowhere.1))
    after o asks (Succeeds success) ends = done
    after o asks Unanswered ends = done

-- that of an OPENDIR that opens a handle anew knows the directory
opened_there : (names : FinMap place_cmp FileId) (directory : Option FileId) (asked : ℕ) (id : FileId) (opens : Bool) (handles : FinMap nat_cmp OpenDirectory) → directory ≡ Some id → opens ≡ true
    → (h : OpenDirectory) × (get (with_opened names directory asked opens handles) asked ≡ Some h)
opened_there names directory asked id opens handles is does = (
  opened names id,
  ap (λ (d : Option FileId). get (with_opened names d asked opens handles) asked) is
      ∙ ap (λ (b : Bool). get (with_opened names (Some id) asked b handles) asked) does
      ∙ insert_there nat_cmp_total handles asked (opened names id),
)

pub step_opens : (old new : TreeState) (call : PlainCall) (wrote : Option ℕ) (so_far : List PlainDirent) (o : Outcome OpenOut) → (s : Steps old new call wrote so_far)
    → call.operation ≡ Acts (Opendir o) → ((error : ℤ) → ended call.operation ≡ Fails error → ⊥) → opens_anew call ≡ true → IsOpenedIn call.asked new
step_opens old new call wrote so_far o s is not does =
    subst (IsOpenedIn call.asked) (sym s.after) (after (ended call.operation) refl)
  where
    count : ℕ
    count = count_written call.operation wrote

    done : IsOpenedIn call.asked (tree_done old s.files call call.operation count)
    done =
        opened_there (changed old.store s.files call.truncates call.operation count).names (directory_opened s.files call.operation) call.asked s.files.node (opens_anew call)
        (handles_after (rule old.store s.files call.operation).edits old.handles) (ap (directory_opened s.files) is) does

    after : (e : Outcome (Unit {0})) → ended call.operation ≡ e → IsOpenedIn call.asked (tree_by old (tree_done old s.files call call.operation count) e)
    after (Fails error) fails = absurd (not error fails)
    after (Succeeds success) ends = done
    after Unanswered ends = done

-- ---- a call of which all is known

-- a second node, and a directory that is listed
other_known : (t : TreeState) (other : Option NodeName) → ((name : NodeName) → other ≡ Some name → IsKnownIn name t) → (file : Option FileId) × (other_of t other ≡ Some file)
other_known t None known = (None, refl)
other_known t (Some name) known = let found = known name refl in (Some found.0, ap (option_map (λ file. Some file)) found.1)

-- the open directory that a call uses is known
abbrev pub UsesOpened : TreeState → Option ℕ → Type 0
UsesOpened t handle = (asked : ℕ) × (handle ≡ Some asked) × ((h : OpenDirectory) × (get t.handles asked ≡ Some h))

handle_known : (t : TreeState) (listing : Option Listing) (handle : Option ℕ) → ((l : Listing) → listing ≡ Some l → UsesOpened t handle)
    → (open_directory : Option OpenDirectory) × (handle_of t listing handle ≡ Some open_directory)
handle_known t None handle known = (None, refl)
handle_known t (Some listing) handle known =
    let found = known listing refl in
    (Some found.2.0, ap (handle_of t (Some listing)) found.1 ∙ ap (option_map (λ h. Some h)) found.2.1)

pub all_known : (t : TreeState) (call : PlainCall) → IsKnownIn call.node t → ((name : NodeName) → call.other ≡ Some name → IsKnownIn name t)
    → ((l : Listing) → call.listing ≡ Some l → UsesOpened t call.handle) → resolved t call ≡ None → ⊥
all_known t call node others handles none =
    let other = other_known t call.other others in
    let handle = handle_known t call.listing call.handle handles in
    let made : Option OpenDirectory → Resolved = λ h. record { asked = call.asked; node = node.0; other = other.0; handle = h } in
    let some : resolved t call ≡ Some (made handle.0) =
    ap (option_and_then (resolved_on t call)) node.1 ∙ ap (option_and_then (resolved_with t call node.0)) other.1 ∙ ap (option_map made) handle.1 in
    let clash : None ≡ Some (made handle.0) = sym none ∙ some in
    absurd cc

-- ---- the code that is told where something is not known

-- a call that names what the tree does not know fails with it
pub unknown_fails : (t : TreeState) (call : PlainCall) (wrote : Option ℕ) (so_far : List PlainDirent) → resolved t call ≡ None → FirstFailure (step_checks t call wrote so_far) UNKNOWN_HERE
unknown_fails t call wrote so_far is =
    subst (λ (files : Option Resolved). FirstFailure (checks_of_files t call call.operation (count_written call.operation wrote) so_far files) UNKNOWN_HERE) (sym is) (inl ((λ none. none), refl))

-- it is told of a call that names something which the tree does not know
pub told_unknown : (t : TreeState) (call : PlainCall) (wrote : Option ℕ) (so_far : List PlainDirent)
    → FirstFailure (step_checks t call wrote so_far) UNKNOWN_HERE → resolved t call ≡ None
told_unknown t call wrote so_far fails = by (resolved t call) refl fails
  where
    o : PlainOperation
    o = call.operation

    count : ℕ
    count = count_written o wrote

    by : (files : Option Resolved) → resolved t call ≡ files → FirstFailure (checks_of_files t call o count so_far files) UNKNOWN_HERE → resolved t call ≡ None
    by None is told = is
    by (Some x) is told =
        elim told [
          | inl here ↦ absurd (here.0 tt)
          | inr later ↦ absurd (not_told UNKNOWN_HERE (operation_checks t.nodes (setting t.store x call o count so_far) call o)
              ((λ e. omega (arith, e)), ((λ e. omega (arith, e)), ((λ e. omega (arith, e)), ((λ e. omega (arith, e)), ((λ e. omega (arith, e)), ((λ e. omega (arith, e)), tt)))))) later.1)
        ]
