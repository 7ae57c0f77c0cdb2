-- A request and the tables of nodes and of file handles: what it leaves, what it takes, what it closes, and which rules it keeps.
use Rattle.std.proofs.Common.{◌≡◌, ℕ, true, false, cond, List, [], ◌∷◌, ◌++◌, Option, None, Some, refl, sym, ap, subst, ◌∙◌, inl, inr, arith}
use Rattle.std.specs.Prelude.{nat_eq, All}
use Rattle.std.specs.Borrow.{Bor}
use Rattle.std.specs.Map.{lookup}
use Rattle.fa_capture.specs.declared.codes.TheConstants.{FORGOTTEN_TOO_OFTEN, CLOSED_HANDLE}
use Rattle.fa_capture.specs.Checks.{AllHold, FirstFailure}
use Rattle.fa_bodies.specs.declared.requests.RequestBody.{RequestBody}
use Rattle.fa_bodies.specs.declared.requests.RequestBody.TheVariants as declared
use Rattle.fa_bodies.specs.Requests.{PlainRequest, PlainBody, body_shown}
use Rattle.fa_bodies.specs.Requests.PlainBody.{Forget, Release, Init, Releasedir, BatchForget, Passed}
use Rattle.fa_session.specs.Events.{PlainEvent}
use Rattle.fa_session.specs.Events.PlainEvent.{Asked}
use Rattle.fa_ledger.specs.declared.tables.Names.{Names}
use Rattle.fa_ledger.specs.declared.tables.Used.{Used}
use Rattle.fa_ledger.specs.declared.handles.Handle.{Handle}
use Rattle.fa_ledger.specs.declared.key.Key.{Key}
use Rattle.fa_ledger.specs.declared.nodes.Lookups.{Lookups}
use Rattle.fa_ledger.specs.Mentions.{mentions}
use Rattle.fa_ledger.specs.Counts.{request_takes, total_taken, IsKnown}
use Rattle.fa_ledger.specs.Names.{nodes_named}
use Rattle.fa_ledger.specs.Keys.{key_eq, handle_used}
use Rattle.fa_ledger.specs.Kinds.{IsTreeRequest}
use Rattle.fa_ledger.specs.Handles.{is_closing, closing}
use Rattle.fa_ledger.specs.Passing.{NamesKnown, TakesWithin, UsesOpen}
use Rattle.fa_ledger.specs.Shows.{IsKeyOf}
use Rattle.fa_ledger.specs.parts.TableParts.{NodesShow, KeysShow, AreNames, AreNamesIfAny, IsUsed, IsUsedIfAny, asked_checks}
use Rattle.fa_ledger.specs.parts.Steps.{closed_once, but_root, AreWithin, IsTakenFrom}
use Rattle.fa_ledger.proofs.HandleLemmas.{key_same}
use Rattle.fa_ledger.proofs.KeyLemmas.{other_unclosed, none_unopened, none_unclosed, open_is_some, key_unmoved, key_closed}
use Rattle.fa_ledger.proofs.NodeLemmas.{node_kept, node_taken, within_now}
use Rattle.fa_ledger.proofs.TakingLemmas.{no_item}

-- ---- kinds of requests

-- a tree request closes nothing
pub tree_not_closing : (b : PlainBody) → IsTreeRequest b → is_closing b ≡ false
tree_not_closing (Release r) tree = absurd cc
tree_not_closing (Releasedir r) tree = absurd cc
tree_not_closing other tree = refl

-- a request that names no nodes is no tree request, closes nothing and uses no handle
pub record NamesNone (b : PlainBody) : Type 0 where
  pub no_tree : IsTreeRequest b → ⊥
  pub leaves : is_closing b ≡ false
  pub uses : handle_used b ≡ None

pub names_none : (node : ℕ) (b : PlainBody) → (mentions b).names node ≡ [] → NamesNone b
names_none node (Forget nlookup) none = record { no_tree = λ tree. absurd cc; leaves = refl; uses = refl }
names_none node (Init i) none = record { no_tree = λ tree. absurd cc; leaves = refl; uses = refl }
names_none node (BatchForget count items) none = record { no_tree = λ tree. absurd cc; leaves = refl; uses = refl }
names_none node Passed none = record { no_tree = λ tree. absurd cc; leaves = refl; uses = refl }
names_none node other none = absurd cc

-- only FORGET and BATCH_FORGET take
pub takes_none : (node : ℕ) (b : RequestBody) → ((nlookup : ℕ) → b ≡ declared.Forget nlookup → ⊥) → ((count : ℕ) (items : Bor (List ℕ)) → b ≡ declared.BatchForget count items → ⊥) → but_root ((mentions (body_shown b)).takes node) ≡ []
takes_none node (declared.Forget nlookup) no_forget no_batch = absurd (no_forget nlookup refl)
takes_none node (declared.BatchForget count items) no_forget no_batch = absurd (no_batch count items refl)
takes_none node other no_forget no_batch = refl

-- ---- what any request leaves

-- the nodes, where it takes nothing
pub nodes_kept : (es : List PlainEvent) (at : ℕ) (r : PlainRequest) (known : List (ℕ × Lookups)) → request_takes r ≡ [] → NodesShow es known → NodesShow (es ++ Asked at r ∷ []) known
nodes_kept es at r known none show node = node_kept es (Asked at r) node (lookup (nat_eq node) known) refl (ap (total_taken node) none) (show node)

-- the keys, where it closes none
pub keys_kept : (es : List PlainEvent) (at : ℕ) (r : PlainRequest) (opened : List (Key × Handle)) → is_closing r.body ≡ false → KeysShow es opened → KeysShow (es ++ Asked at r ∷ []) opened
keys_kept es at r opened leaves show key =
    let none : closing es (Asked at r) ≡ None = rw leaves refl in
    key_unmoved es (Asked at r) key (lookup (key_eq key) opened) (none_unopened es (Asked at r) key refl) (none_unclosed es (Asked at r) key none) (show key)

-- ---- a request that takes

-- the nodes, where it takes these items
pub nodes_taken : (es : List PlainEvent) (at : ℕ) (r : PlainRequest) (old new : List (ℕ × Lookups)) (items : List (ℕ × ℕ)) → request_takes r ≡ but_root items
    → ((node : ℕ) → IsTakenFrom (total_taken node (but_root items)) (lookup (nat_eq node) old) (lookup (nat_eq node) new)) → NodesShow es old → NodesShow (es ++ Asked at r ∷ []) new
nodes_taken es at r old new items takes took show node =
    node_taken es (Asked at r) node (total_taken node (but_root items)) (lookup (nat_eq node) old) (lookup (nat_eq node) new) refl (ap (total_taken node) takes) (took node) (show node)

-- ---- a closing request

-- the keys, where one is closed once
pub keys_closed : (es : List PlainEvent) (at : ℕ) (r : PlainRequest) (old new : List (Key × Handle)) (used : Used) → is_closing r.body ≡ true → IsUsed es r old used
    → ((other : Key) → lookup (key_eq other) new ≡ cond (key_eq used.key other) (closed_once (lookup (key_eq used.key) old)) (lookup (key_eq other) old))
    → KeysShow es old → KeysShow (es ++ Asked at r ∷ []) new
keys_closed es at r old new used closes is wrote show other =
    let e : PlainEvent = Asked at r in
    let closed : closing es e ≡ Some used.key = rw closes is.key in
    elim (key_eq used.key other) as (λ b. key_eq used.key other ≡ b → lookup (key_eq other) new ≡ cond b (closed_once (lookup (key_eq used.key) old)) (lookup (key_eq other) old) → IsKeyOf (es ++ e ∷ []) other (lookup (key_eq other) new)) [
      | true ↦ λ test now.
          let same : used.key ≡ other = key_same used.key other test in
          let now_closed = key_closed es e used.key (lookup (key_eq used.key) old) closed (open_is_some es used.key used.handle is.«open») (show used.key) in
          subst (IsKeyOf (es ++ e ∷ []) other) (sym now) (subst (λ k. IsKeyOf (es ++ e ∷ []) k (closed_once (lookup (key_eq used.key) old))) same now_closed)
      | false ↦ λ test now.
          subst (IsKeyOf (es ++ e ∷ []) other) (sym now)
          (key_unmoved es e other (lookup (key_eq other) old) (none_unopened es e other refl) (other_unclosed es e used.key other closed test) (show other))
    ] refl (wrote other)

-- ---- what is taken

-- items take no more than is left exactly where the table says so
takes_within : (es : List PlainEvent) (r : PlainRequest) (known : List (ℕ × Lookups)) (items : List (ℕ × ℕ)) → request_takes r ≡ but_root items → NodesShow es known
    → AreWithin known (but_root items) → TakesWithin es r
takes_within es r known items takes show within earlier later node nlookup is =
    (within_now es node (lookup (nat_eq node) known) (total_taken node earlier) nlookup (show node)).1 (within earlier later node nlookup (sym takes ∙ is))

within_takes : (es : List PlainEvent) (r : PlainRequest) (known : List (ℕ × Lookups)) (items : List (ℕ × ℕ)) → request_takes r ≡ but_root items → NodesShow es known
    → TakesWithin es r → AreWithin known (but_root items)
within_takes es r known items takes show within earlier later node nlookup is =
    (within_now es node (lookup (nat_eq node) known) (total_taken node earlier) nlookup (show node)).0 (within earlier later node nlookup (takes ∙ is))

-- where no node is named, each that is named is known
none_known : (es : List PlainEvent) (r : PlainRequest) → nodes_named r ≡ [] → NamesKnown es r
none_known es r none = subst (All (IsKnown es)) (sym none) (λ k d within. absurd (omega (arith, within)))

-- the rules hold of what takes no more than is left
pub takes_keep : (es : List PlainEvent) (r : PlainRequest) (known : List (ℕ × Lookups)) (items : List (ℕ × ℕ)) → nodes_named r ≡ [] → request_takes r ≡ but_root items → NodesShow es known
    → AreWithin known (but_root items) → AllHold (asked_checks es r)
takes_keep es r known items none takes show within =
    (none_known es r none, (takes_within es r known items takes show within, (inl (names_none r.node r.body none).uses, tt)))

-- what takes more breaks the second
pub takes_fail : (es : List PlainEvent) (r : PlainRequest) (known : List (ℕ × Lookups)) (items : List (ℕ × ℕ)) (code : ℕ) → nodes_named r ≡ [] → request_takes r ≡ but_root items → NodesShow es known
    → (AreWithin known (but_root items) → ⊥) → code ≡ FORGOTTEN_TOO_OFTEN → FirstFailure (asked_checks es r) code
takes_fail es r known items code none takes show over is =
    inr (none_known es r none, inl ((λ within. over (within_takes es r known items takes show within)), is))

-- ---- requests that take nothing

-- where nothing is taken, no more is than is left
nothing_taken : (es : List PlainEvent) (r : PlainRequest) → request_takes r ≡ [] → TakesWithin es r
nothing_taken es r takes earlier later node nlookup is = absurd (no_item earlier (node, nlookup) later (sym takes ∙ is))

-- a request that names no nodes and takes nothing keeps the rules
pub none_keep : (es : List PlainEvent) (r : PlainRequest) → nodes_named r ≡ [] → request_takes r ≡ [] → AllHold (asked_checks es r)
none_keep es r none takes = (none_known es r none, (nothing_taken es r takes, (inl (names_none r.node r.body none).uses, tt)))

-- the names of the nodes of a request that names some
pub names_there : {o : Option Names} (es : List PlainEvent) (r : PlainRequest) (names : Names) → o ≡ Some names → AreNamesIfAny es r o → AreNames es r names
names_there es r names is are = subst (AreNamesIfAny es r) is are

-- a handle that is used is open
used_stands : (es : List PlainEvent) (r : PlainRequest) (opened : List (Key × Handle)) (used : Option Used) → IsUsedIfAny es r opened used → UsesOpen es r
used_stands es r opened None is = inl is
used_stands es r opened (Some used) is = inr (used.key, is.key, open_is_some es used.key used.handle is.«open»)

-- a request that names known nodes and uses an open handle keeps the rules
pub uses_keep : (es : List PlainEvent) (r : PlainRequest) (opened : List (Key × Handle)) (names : Names) (used : Option Used) → AreNames es r names → request_takes r ≡ [] → IsUsedIfAny es r opened used
    → AllHold (asked_checks es r)
uses_keep es r opened names used are takes is = (are.known, (nothing_taken es r takes, (used_stands es r opened used is, tt)))

-- one whose handle is not open breaks the third
pub uses_fail : (es : List PlainEvent) (r : PlainRequest) (names : Names) (code : ℕ) → AreNames es r names → request_takes r ≡ [] → (UsesOpen es r → ⊥) → code ≡ CLOSED_HANDLE → FirstFailure (asked_checks es r) code
uses_fail es r names code are takes not_open is = inr (are.known, inr (nothing_taken es r takes, inl (not_open, is)))
