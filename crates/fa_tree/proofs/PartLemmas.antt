-- Two trees of which one is a part of the other: the same store; no name of a node but what the whole has; and of the handles that are
-- kept the same state. A step of the whole is one of the part, and so is it without its answer where the change stays.
use Rattle.std.proofs.Common.{◌≡◌, ℕ, ℤ, Bool, true, false, cond, List, [], ◌∷◌, Option, None, Some, refl, sym, ap, subst, ◌∙◌}
use Rattle.std.specs.Prelude.{option_map, option_and_then}
use Rattle.std.specs.Cmp.{nat_cmp_total}
use Rattle.std.specs.Ordering.{nat_cmp, eq_by_cmp, is_eq}
use Rattle.std.specs.declared.cmp.Ordering.{Ordering}
use Rattle.std.specs.declared.cmp.Ordering.TheVariants.{Less, Equal, Greater}
use Rattle.std.specs.FinMap.{FinMap, get, insert, get-insert, nat_cmp-IsAntisymmetric}
use Rattle.std.proofs.lemmas.Option.{same_Some}
use Rattle.fa_capture.specs.Checks.{AllHold}
use Rattle.fa_bodies.specs.Dirents.{PlainDirent}
use Rattle.fa_ledger.specs.declared.call.Listing.{Listing}
use Rattle.fa_ledger.specs.declared.name.NodeName.{NodeName}
use Rattle.fa_ledger.specs.declared.name.NodeName.TheVariants.{Root, Given}
use Rattle.fa_ledger.specs.declared.operation.Outcome.{Outcome}
use Rattle.fa_ledger.specs.declared.operation.Outcome.TheVariants.{Fails, Succeeds, Unanswered}
use Rattle.fa_ledger.specs.Calls.{PlainCall}
use Rattle.fa_ledger.specs.Kinds.{OnlyReads}
use Rattle.fa_ledger.specs.Operations.{PlainOperation, ended}
use Rattle.fa_ledger.proofs.CallerLemmas.{unanswered, lost, lost_ended}
use Rattle.fa_tree.specs.declared.id.FileId.{FileId}
use Rattle.fa_tree.specs.State.{OpenDirectory, Store, TreeState, place_cmp, node_cmp, file_of}
use Rattle.fa_tree.specs.Resolved.{Resolved, other_of, handle_of, resolved_with, resolved_on, resolved}
use Rattle.fa_tree.specs.Edits.{Edit, names_after, open_after, handles_after}
use Rattle.fa_tree.specs.Opening.{opened, with_opened}
use Rattle.fa_tree.specs.Operations.{rule, changed, said, directory_opened, count_written}
use Rattle.fa_tree.specs.Bindings.{AreBound, bound, nodes_after}
use Rattle.fa_tree.specs.Rules.{Rule, Said, HasCause}
use Rattle.fa_tree.specs.Steps.{UnlessFailed, IfFailed, names_given, opens_anew, setting, given_in, tree_done, tree_by, tree_after, operation_checks, checks_of_files, Steps}
use Rattle.fa_tree.proofs.NodeLemmas.{node_total}
use Rattle.fa_tree.proofs.NameLemmas.{get-each_open}
use Rattle.fa_tree.proofs.ChangeLemmas.{reading_changes_nothing, reading_edits_nothing, lost_rule}
use Rattle.fa_tree.proofs.ChangedLemmas.{stays_open}
use Rattle.fa_tree.proofs.NamedLemmas.{NodesWithin, nodes_grown, checks_hold, may_be_given}
use Rattle.fa_tree.proofs.BindingLemmas.{bound_to_none}
use Rattle.fa_tree.proofs.OutcomeLemmas.{none_bound, unanswered_says_nothing}

-- ---- a part of a tree

-- The part has the same store, no names of nodes but those of the whole, and the state of each handle that is kept.
pub record IsPartOf (Kept : ℕ → Type 0) (whole part : TreeState) : Type 0 where
  pub store : part.store ≡ whole.store
  pub nodes : NodesWithin part.nodes whole.nodes
  pub handles : (asked : ℕ) → Kept asked → get part.handles asked ≡ get whole.handles asked

-- each tree is a part of itself
pub whole_part : (Kept : ℕ → Type 0) (t : TreeState) → IsPartOf Kept t t
whole_part Kept t = record { store = refl; nodes = λ name file is. is; handles = λ asked kept. refl }

-- ---- names of nodes

insert_within : (part whole : FinMap node_cmp FileId) (one : NodeName × FileId) → NodesWithin part whole → NodesWithin (insert part one.0 one.1) (insert whole one.0 one.1)
insert_within part whole one within name file is =
    by (eq_by_cmp node_cmp name one.0) (get-insert node_total part one.0 one.1 name) (get-insert node_total whole one.0 one.1 name)
  where
    by : (b : Bool) → get (insert part one.0 one.1) name ≡ cond b (Some one.1) (get part name) → get (insert whole one.0 one.1) name ≡ cond b (Some one.1) (get whole name)
        → get (insert whole one.0 one.1) name ≡ Some file
    by true here there = there ∙ sym here ∙ is
    by false here there = there ∙ within name file (sym here ∙ is)

-- names that are part of others stay so when the same are given
after_within : (given : List (NodeName × FileId)) (part whole : FinMap node_cmp FileId) → NodesWithin part whole → NodesWithin (nodes_after given part) (nodes_after given whole)
after_within [] part whole within = within
after_within (one ∷ given) part whole within =
    after_within given (insert part one.0 one.1) (insert whole one.0 one.1) (insert_within part whole one within)

-- and may be given to the part where they may to the whole
bound_within : (given : List (NodeName × FileId)) (part whole : FinMap node_cmp FileId) → NodesWithin part whole → AreBound whole given → AreBound part given
bound_within given part whole within may = record {
  known = λ name file other there is. may.known name file other there (within name other is);
  one = may.one;
}

-- ---- what a call names

file_within : (part whole : TreeState) → NodesWithin part.nodes whole.nodes → (name : NodeName) (file : FileId) → file_of part name ≡ Some file → file_of whole name ≡ Some file
file_within part whole within Root file is = is
file_within part whole within (Given by id) file is = within (Given by id) file is

other_within : (part whole : TreeState) → NodesWithin part.nodes whole.nodes → (name : Option NodeName) (other : Option FileId) → other_of part name ≡ Some other → other_of whole name ≡ Some other
other_within part whole within None other is = is
other_within part whole within (Some name) other is = by (file_of part name) refl is
  where
    by : (found : Option FileId) → file_of part name ≡ found → option_map (λ (file : FileId). Some file) found ≡ Some other → option_map (λ (file : FileId). Some file) (file_of whole name) ≡ Some other
    by None none some = absurd cc
    by (Some file) has some = ap (option_map (λ (f : FileId). Some f)) (file_within part whole within name file has) ∙ some

-- a call that lists uses a handle that is kept
abbrev pub UsesKept : (ℕ → Type 0) → PlainCall → Type 0
UsesKept Kept call = (l : Listing) → call.listing ≡ Some l → (h : ℕ) → call.handle ≡ Some h → Kept h

module _ (Kept : ℕ → Type 0) (whole part : TreeState) (p : IsPartOf Kept whole part) where
  handle_part : (listing : Option Listing) (handle : Option ℕ) → ((l : Listing) → listing ≡ Some l → (h : ℕ) → handle ≡ Some h → Kept h)
      → handle_of part listing handle ≡ handle_of whole listing handle
  handle_part None handle kept = refl
  handle_part (Some listing) None kept = refl
  handle_part (Some listing) (Some h) kept = ap (option_map (λ (o : OpenDirectory). Some o)) (p.handles h (kept listing refl h refl))

  module _ (call : PlainCall) (kept : UsesKept Kept call) (x : Resolved) where
    with_part : (node : FileId) (other : Option FileId) → resolved_with part call node other ≡ resolved_with whole call node other
    with_part node other =
        let made : Option OpenDirectory → Resolved = λ h. record { asked = call.asked; node = node; other = other; handle = h } in
        ap (option_map made) (handle_part call.listing call.handle kept)

    on_part : (node : FileId) → resolved_on part call node ≡ Some x → resolved_on whole call node ≡ Some x
    on_part node is = by (other_of part call.other) refl is
      where
        by : (found : Option (Option FileId)) → other_of part call.other ≡ found → option_and_then (resolved_with part call node) found ≡ Some x
            → option_and_then (resolved_with whole call node) (other_of whole call.other) ≡ Some x
        by None none some = absurd cc
        by (Some other) has some =
            ap (option_and_then (resolved_with whole call node)) (other_within part whole p.nodes call.other other has) ∙ sym (with_part node other) ∙ some

    -- what the part resolves, the whole resolves so
    pub resolved_within : resolved part call ≡ Some x → resolved whole call ≡ Some x
    resolved_within is = by (file_of part call.node) refl is
      where
        by : (found : Option FileId) → file_of part call.node ≡ found → option_and_then (resolved_on part call) found ≡ Some x
            → option_and_then (resolved_on whole call) (file_of whole call.node) ≡ Some x
        by None none some = absurd cc
        by (Some node) has some = ap (option_and_then (resolved_on whole call)) (file_within part whole p.nodes call.node node has) ∙ on_part node some

  -- what the whole resolves, the part resolves so, if it does at all
  resolved_part : (call : PlainCall) → UsesKept Kept call → (x : Resolved) → resolved whole call ≡ Some x → (resolved part call ≡ None → ⊥) → resolved part call ≡ Some x
  resolved_part call kept x is known = by (resolved part call) refl
    where
      by : (found : Option Resolved) → resolved part call ≡ found → resolved part call ≡ Some x
      by None none = absurd (known none)
      by (Some y) has =
          let same : y ≡ x = same_Some y x (sym (resolved_within call kept y has) ∙ is) in
          has ∙ ap (λ (z : Resolved). Some z) same

-- ---- open directories

-- an open directory that is noted in both stays the same in both
opened_both : (names : FinMap place_cmp FileId) (directory : Option FileId) (asked : ℕ) (opens : Bool) (one two : FinMap nat_cmp OpenDirectory) (q : ℕ) → get one q ≡ get two q
    → get (with_opened names directory asked opens one) q ≡ get (with_opened names directory asked opens two) q
opened_both names (Some directory) asked true one two q same =
    get-insert nat_cmp_total one asked (opened names directory) q
    ∙ ap (cond (eq_by_cmp nat_cmp q asked) (Some (opened names directory))) same
    ∙ sym (get-insert nat_cmp_total two asked (opened names directory) q)
opened_both names (Some directory) asked false one two q same = same
opened_both names None asked opens one two q same = same

tied_numbers : (m n : ℕ) → eq_by_cmp nat_cmp m n ≡ true → m ≡ n
tied_numbers m n tie = by (nat_cmp m n) refl tie
  where
    by : (o : Ordering) → nat_cmp m n ≡ o → is_eq o ≡ true → m ≡ n
    by Less is tie = absurd cc
    by Equal is tie = nat_cmp-IsAntisymmetric m n is
    by Greater is tie = absurd cc

-- one that is noted leaves the others
opened_apart : (names : FinMap place_cmp FileId) (directory : Option FileId) (asked : ℕ) (opens : Bool) (handles : FinMap nat_cmp OpenDirectory) (q : ℕ) → (opens ≡ true → q ≡ asked → ⊥)
    → get (with_opened names directory asked opens handles) q ≡ get handles q
opened_apart names (Some directory) asked true handles q apart = by (eq_by_cmp nat_cmp q asked) refl (get-insert nat_cmp_total handles asked (opened names directory) q)
  where
    by : (b : Bool) → eq_by_cmp nat_cmp q asked ≡ b → get (insert handles asked (opened names directory)) q ≡ cond b (Some (opened names directory)) (get handles q)
        → get (insert handles asked (opened names directory)) q ≡ get handles q
    by true tie has = absurd (apart refl (tied_numbers q asked tie))
    by false other has = has
opened_apart names (Some directory) asked false handles q apart = refl
opened_apart names None asked opens handles q apart = refl

-- nothing is noted where none is opened
pub none_opened : (names : FinMap place_cmp FileId) (directory : Option FileId) (asked : ℕ) (handles : FinMap nat_cmp OpenDirectory) → with_opened names directory asked false handles ≡ handles
none_opened names (Some directory) asked handles = refl
none_opened names None asked handles = refl

-- the answer opens no directory that is kept
abbrev pub OpensNone : (ℕ → Type 0) → PlainCall → Type 0
OpensNone Kept call = opens_anew call ≡ true → Kept call.asked → ⊥

-- ---- what an operation makes of both

module _ (Kept : ℕ → Type 0) (whole part : TreeState) (p : IsPartOf Kept whole part) (x : Resolved) (call : PlainCall) (o : PlainOperation) (count : ℕ) where
  abbrev given : List (NodeName × FileId)
  given = given_in (setting whole.store x call o count []) call o

  abbrev edited : List Edit
  edited = (rule whole.store x o).edits

  abbrev names_left : FinMap place_cmp FileId
  names_left = (changed whole.store x call.truncates o count).names

  each_kept : (q : ℕ) → Kept q → get (handles_after edited part.handles) q ≡ get (handles_after edited whole.handles) q
  each_kept q kept =
      get-each_open (open_after edited) part.handles q ∙ ap (option_map (open_after edited)) (p.handles q kept) ∙ sym (get-each_open (open_after edited) whole.handles q)

  -- the same operation keeps a part a part
  pub done_part : IsPartOf Kept (tree_done whole x call o count) (tree_done part x call o count)
  done_part = record {
    store = ap (λ (s : Store). changed s x call.truncates o count) p.store;
    nodes = subst (λ (s : Store). NodesWithin (nodes_after (given_in (setting s x call o count []) call o) part.nodes) (nodes_after given whole.nodes)) (sym p.store)
        (after_within given part.nodes whole.nodes p.nodes);
    handles = λ q kept.
        ap (λ (s : Store). get (with_opened (changed s x call.truncates o count).names (directory_opened x o) call.asked (opens_anew call) (handles_after (rule s x o).edits part.handles)) q) p.store
        ∙ opened_both names_left (directory_opened x o) call.asked (opens_anew call) (handles_after edited part.handles) (handles_after edited whole.handles) q (each_kept q kept);
  }

  module _ (may : AreBound whole.nodes given) (none : OpensNone Kept call) where
    handles_left : (q : ℕ) → Kept q → get (with_opened names_left (directory_opened x o) call.asked (opens_anew call) (handles_after edited whole.handles)) q ≡ get (handles_after edited whole.handles) q
    handles_left q kept =
        opened_apart names_left (directory_opened x o) call.asked (opens_anew call) (handles_after edited whole.handles) q (λ opens same. none opens (subst Kept same kept))

    grown : NodesWithin part.nodes (nodes_after given whole.nodes)
    grown = λ name file is. nodes_grown given whole.nodes may name file (p.nodes name file is)

    -- one that only reads, in the whole alone, keeps a part a part, where it opens no directory that is kept
    read_part : OnlyReads o → IsPartOf Kept (tree_done whole x call o count) part
    read_part reads = record {
      store = p.store ∙ sym (reading_changes_nothing whole.store x call.truncates o count reads);
      nodes = grown;
      handles = λ q kept.
          p.handles q kept
          ∙ ap (λ (hs : FinMap nat_cmp OpenDirectory). get hs q) (sym (ap (λ (es : List Edit). handles_after es whole.handles) (reading_edits_nothing whole.store x o reads) ∙ stays_open whole.handles))
          ∙ sym (handles_left q kept);
    }

    -- and so does a change that is made in both, but answered in the whole alone
    lost_part : (u : PlainOperation) → ((s : Store) → ◌≡◌ {A = Rule} (rule s x u) (rule s x o)) → IsPartOf Kept (tree_done whole x call o count) (tree_done part x (unanswered call) u count)
    lost_part u alike = record {
      store = changed_alike part.store ∙ ap (λ (s : Store). changed s x call.truncates o count) p.store;
      nodes = grown;
      handles = λ q kept.
          ap (λ (hs : FinMap nat_cmp OpenDirectory). get hs q) (none_opened (changed part.store x call.truncates u count).names (directory_opened x u) call.asked (handles_after (rule part.store x u).edits part.handles))
          ∙ ap (λ (r : Rule). get (handles_after r.edits part.handles) q) (alike part.store)
          ∙ ap (λ (s : Store). get (handles_after (rule s x o).edits part.handles) q) p.store
          ∙ each_kept q kept
          ∙ sym (handles_left q kept);
    }
      where
        record_of : Store → Rule → Store
        record_of s r = record { names = names_after r.edits s.names; files = r.files call.truncates count }

        changed_alike : (s : Store) → changed s x call.truncates u count ≡ changed s x call.truncates o count
        changed_alike s = ap (λ (r : Rule). record_of s r) (alike s)

-- ---- how an operation is judged in both

module _ (Kept : ℕ → Type 0) (whole part : TreeState) (p : IsPartOf Kept whole part) (x : Resolved) (call : PlainCall) (o : PlainOperation) (count : ℕ) (so_far : List PlainDirent) where
  part_checks : AllHold (operation_checks whole.nodes (setting whole.store x call o count so_far) call o) → AllHold (operation_checks part.nodes (setting part.store x call o count so_far) call o)
  part_checks hold =
      subst (λ (s : Store). AllHold (operation_checks part.nodes (setting s x call o count so_far) call o)) (sym p.store)
      (hold.0, (hold.1.0, (hold.1.1.0, (bound_within (given_in (setting whole.store x call o count so_far) call o) part.nodes whole.nodes p.nodes hold.1.1.1.0, hold.1.1.1.1))))

-- a request that was not answered holds where its success is allowed
lost_checks : (t : TreeState) (call : PlainCall) (u : PlainOperation) (count : ℕ) (so_far : List PlainDirent) (x : Resolved) → ended u ≡ Unanswered → (rule t.store x u).needs
    → AllHold (operation_checks t.nodes (setting t.store x call u count so_far) call u)
lost_checks t call u count so_far x lost may =
    let g = setting t.store x call u count so_far in
    let nothing = unanswered_says_nothing g u lost in (
      subst (λ (e : Outcome (Unit {0})). UnlessFailed e ((rule t.store x u).needs × (said g u).found)) (sym lost) (may, subst (λ (d : Said). d.found) (sym nothing) tt),
      (
        subst (λ (e : Outcome (Unit {0})). IfFailed e (HasCause (rule t.store x u))) (sym lost) tt,
        (
          subst (λ (d : Said). d.attributes) (sym nothing) tt,
          (
            subst (AreBound t.nodes) (sym (ap (λ (d : Said). bound (names_given call) d.files) nothing ∙ bound_to_none (names_given call))) (none_bound t.nodes),
            (subst (λ (d : Said). d.bytes) (sym nothing) tt, (subst (λ (d : Said). d.listing) (sym nothing) tt, tt)),
          ),
        ),
      ),
    )

-- ---- steps

-- the part steps on, and is a part of what the whole became
abbrev pub IsFollowed : (ℕ → Type 0) → (new part : TreeState) → PlainCall → Option ℕ → List PlainDirent → Type 0
IsFollowed Kept new part call wrote so_far = (after : TreeState) × Steps part after call wrote so_far × IsPartOf Kept new after

module _ (Kept : ℕ → Type 0) (whole part new : TreeState) (call : PlainCall) (wrote : Option ℕ) (so_far : List PlainDirent)
    (p : IsPartOf Kept whole part) (s : Steps whole new call wrote so_far) where
  abbrev written_count : ℕ
  written_count = count_written call.operation wrote

  after_part : (e : Outcome (Unit {0})) → IsPartOf Kept (tree_by whole (tree_done whole s.files call call.operation written_count) e) (tree_by part (tree_done part s.files call call.operation written_count) e)
  after_part (Fails error) = p
  after_part (Succeeds success) = done_part Kept whole part p s.files call call.operation written_count
  after_part Unanswered = done_part Kept whole part p s.files call call.operation written_count

  -- the same call makes the same step
  pub step_same : (resolved part call ≡ None → ⊥) → UsesKept Kept call → IsFollowed Kept new part call wrote so_far
  step_same known kept =
      let named : resolved part call ≡ Some s.files = resolved_part Kept whole part p call kept s.files s.named known in
      let there : AllHold (checks_of_files part call call.operation written_count so_far (Some s.files)) =
      (tt, part_checks Kept whole part p s.files call call.operation written_count so_far (checks_hold whole new call wrote so_far s)) in (
        tree_after part s.files call call.operation written_count,
        record {
          allowed = subst (λ (files : Option Resolved). AllHold (checks_of_files part call call.operation written_count so_far files)) (sym named) there;
          files = s.files;
          named = named;
          after = refl;
        },
        subst (λ (t : TreeState). IsPartOf Kept t (tree_after part s.files call call.operation written_count)) (sym s.after) (after_part (ended call.operation)),
      )

  -- an error leaves the part a part
  pub step_failed : (error : ℤ) → ended call.operation ≡ Fails error → IsPartOf Kept new part
  step_failed error fails =
      subst (λ (t : TreeState). IsPartOf Kept t part) (sym (s.after ∙ ap (tree_by whole (tree_done whole s.files call call.operation written_count)) fails)) p

  module _ (success : ended call.operation ≡ Succeeds tt) (none : OpensNone Kept call) where
    is : new ≡ tree_done whole s.files call call.operation written_count
    is = s.after ∙ ap (tree_by whole (tree_done whole s.files call call.operation written_count)) success

    -- so does one that only reads
    pub step_read : OnlyReads call.operation → IsPartOf Kept new part
    step_read reads =
        subst (λ (t : TreeState). IsPartOf Kept t part) (sym is)
        (read_part Kept whole part p s.files call call.operation written_count (may_be_given whole new call wrote so_far s) none reads)

    -- a change whose answer is lost makes the same step unanswered
    pub step_lost : (other : Option ℕ) → count_written (lost call.operation) other ≡ written_count → (resolved part call ≡ None → ⊥) → UsesKept Kept call
        → IsFollowed Kept new part (unanswered call) other so_far
    step_lost other same known kept =
        let named : resolved part call ≡ Some s.files = resolved_part Kept whole part p call kept s.files s.named known in
        let there : AllHold (checks_of_files part (unanswered call) u (count_written u other) so_far (Some s.files)) =
        (tt, lost_checks part (unanswered call) u (count_written u other) so_far s.files ends needs) in (
          tree_after part s.files (unanswered call) u (count_written u other),
          record {
            allowed = subst (λ (files : Option Resolved). AllHold (checks_of_files part (unanswered call) u (count_written u other) so_far files)) (sym named) there;
            files = s.files;
            named = named;
            after = refl;
          },
          subst (λ (t : TreeState). IsPartOf Kept t (tree_after part s.files (unanswered call) u (count_written u other))) (sym is)
              (subst (λ (t : TreeState). IsPartOf Kept (tree_done whole s.files call call.operation written_count) t)
              (sym (ap (tree_by part (tree_done part s.files (unanswered call) u (count_written u other))) ends))
              (subst (λ (n : ℕ). IsPartOf Kept (tree_done whole s.files call call.operation written_count) (tree_done part s.files (unanswered call) u n)) (sym same)
              (lost_part Kept whole part p s.files call call.operation written_count (may_be_given whole new call wrote so_far s) none u (λ t. lost_rule t s.files call.operation)))),
        )
      where
        u : PlainOperation
        u = lost call.operation

        ends : ended u ≡ Unanswered
        ends = lost_ended call.operation

        -- what the whole asked for, the part has too
        needs : (rule part.store s.files u).needs
        needs =
            let whole_needs : (rule whole.store s.files call.operation).needs =
            (subst (λ (e : Outcome (Unit {0})). UnlessFailed e ((rule whole.store s.files call.operation).needs × (said (setting whole.store s.files call call.operation written_count so_far) call.operation).found)) success
            (checks_hold whole new call wrote so_far s).0).0 in
            subst (λ (r : Rule). r.needs) (sym (lost_rule part.store s.files call.operation)) (subst (λ (t : Store). (rule t s.files call.operation).needs) (sym p.store) whole_needs)
