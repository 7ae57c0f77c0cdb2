-- What an answer does to the books, by what it gives, opens and settles.
use Rattle.std.proofs.Common.{◌≡◌, ◌≢◌, ℕ, zero, suc, ◌+◌, ◌<◌, ◌≤◌, ◌⊎◌, Bool, true, false, cond, List, [], ◌∷◌, ◌++◌, length, take, Option, Some, None, refl, sym, ap, subst, ◌∙◌, inl, inr, arith}
use Rattle.std.specs.Prelude.{◌↔◌, ◌==◌, ◌||◌, if◌then◌else◌, slice_get, nat_eq, is_none, map, option_map, count_by, IsTrue, All, Contains}
use Rattle.std.specs.List.{list_any}
use Rattle.std.specs.Map.{lookup}
use Rattle.std.specs.Option.{option_map_or}
use Rattle.std.proofs.lemmas.Bool.Decides.{nat_tests}
use Rattle.std.proofs.lemmas.List.Elements.{All-contains}
use Rattle.std.proofs.lemmas.List.Sums.{sum_by-cons}
use Rattle.std.proofs.lemmas.Option.{same_Some}
use Rattle.std.proofs.lemmas.List.{length-map}
use Rattle.fa_capture.specs.declared.limits.TheConstants.{MAX_MESSAGES}
use Rattle.fa_capture.specs.Message.{Message}
use Rattle.fa_capture.proofs.CallerLemmas.{contains_first, contains_behind, counted_there, get_kept, get_back, get_last, get_cases, take_all_before}
use Rattle.fa_bodies.specs.declared.handles.OpenOut.{OpenOut}
use Rattle.fa_bodies.specs.declared.init.InitIn.{InitIn}
use Rattle.fa_bodies.specs.declared.init.Negotiated.{Negotiated}
use Rattle.fa_bodies.specs.declared.requests.TheConstants.{ROOT_ID}
use Rattle.fa_bodies.specs.FlagBits.{atomic_o_trunc, fopen_direct_io}
use Rattle.fa_bodies.specs.Flags.{HasFlag, has_flag, fopen_bits, init_bits}
use Rattle.fa_bodies.specs.Requests.{PlainBody, PlainRequest}
use Rattle.fa_bodies.specs.Requests.PlainBody.{Forget, Open, Release, Flush, Init, Opendir, Releasedir, Create, BatchForget, Passed}
use Rattle.fa_bodies.specs.Replies.{PlainReply, IsSuccessBody}
use Rattle.fa_bodies.specs.Replies.PlainReply.{Created, Opened, Listed, InitAnswer}
use Rattle.fa_session.specs.Events.{PlainEvent, IsEvent}
use Rattle.fa_session.specs.Events.PlainEvent.{Answered}
use Rattle.fa_ledger.specs.declared.handles.Handle.{Handle}
use Rattle.fa_ledger.specs.declared.key.Key.{Key}
use Rattle.fa_ledger.specs.declared.name.NodeName.{NodeName}
use Rattle.fa_ledger.specs.declared.name.NodeName.TheVariants.{Root, Given}
use Rattle.fa_ledger.specs.declared.nodes.Lookups.{Lookups}
use Rattle.fa_ledger.specs.Events.{AreEvents}
use Rattle.fa_ledger.specs.Counts.{nodes_given, nodes_of_listing, times_given, IsCounted}
use Rattle.fa_ledger.specs.Names.{name_at}
use Rattle.fa_ledger.specs.Keys.{key_eq}
use Rattle.fa_ledger.specs.Kinds.{IsTreeRequest}
use Rattle.fa_ledger.specs.Handles.{opened_by, opening, times_opened, times_closed}
use Rattle.fa_ledger.specs.Passing.{MayBeGiven}
use Rattle.fa_ledger.specs.Standing.{OpensItsNode}
use Rattle.fa_ledger.specs.Calls.{IsNegotiatedFlag, OpensAnew}
use Rattle.fa_ledger.specs.Shows.{IsNodeOf, IsKeyOf}
use Rattle.fa_ledger.specs.Refusals.{GivesNew, ListsNodes, GivesMore}
use Rattle.fa_ledger.specs.parts.TableParts.{NodesShow, KeysShow}
use Rattle.fa_ledger.specs.parts.Steps.{IsListedReply, created_with, opened_with, SettlesTruncation, given_again, given_to, times_named, count_left, opens_new, is_new, some_new, opened_again, IsOpenedBy}
use Rattle.fa_ledger.proofs.NameLemmas.{not_root}
use Rattle.fa_ledger.proofs.NodeLemmas.{node_given, name_of_node, names_counted, given_within, left_within, reply_few}
use Rattle.fa_ledger.proofs.HandleLemmas.{key_same}
use Rattle.fa_ledger.proofs.KeyLemmas.{either_mark, other_unopened, none_unopened, key_unmoved, key_opened, open_is_some}

-- ---- elements of a list

-- a list that is not empty has an element
has_some : {X : Type 0} (xs : List X) → xs ≢ [] → (x : X) × Contains xs x
has_some [] some = absurd (some refl)
has_some (x ∷ xs) some = (x, contains_first x xs)

-- what has a node has it at least once
has_often : (nodes : List ℕ) (node : ℕ) → Contains nodes node → 0 < count_by (λ n. n == node) nodes
has_often [] node has = absurd (omega (arith, has.1))
has_often (n ∷ nodes) node (zero, within, is) =
    let test : (n == node) ≡ true = grind (arith, nat_tests, is) in
    let one : ◌≡◌ {A = ℕ} (if n == node then 1 else 0) 1 = rw test refl in
    omega (arith, one, sum_by-cons (λ k. if k == node then 1 else 0) n nodes)
has_often (n ∷ nodes) node (suc k, within, is) =
    omega (arith, has_often nodes node (k, omega (arith, within), is), sum_by-cons (λ k. if k == node then 1 else 0) n nodes)

-- two functions that agree on each element of a list have one image of it
same_images : {X Y : Type 0} (f g : X → Y) (xs : List X) → ((x : X) → Contains xs x → f x ≡ g x) → map f xs ≡ map g xs
same_images f g [] same = refl
same_images f g (x ∷ xs) same =
    let first : f x ≡ g x = same x (contains_first x xs) in
    let later : map f xs ≡ map g xs = same_images f g xs (λ y has. same y (contains_behind x xs y has)) in
    cc

-- the image of an image
image_twice : {X Y Z : Type 0} (f : X → Y) (g : Y → Z) (xs : List X) → map g (map f xs) ≡ map (λ x. g (f x)) xs
image_twice f g [] = refl
image_twice f g (x ∷ xs) = let later : map g (map f xs) ≡ map (λ x. g (f x)) xs = image_twice f g xs in cc

-- ---- nodes that are given

-- names that are given to these nodes have a node as often as they do
given_counted : (at : ℕ) (known : List (ℕ × Lookups)) (names : List NodeName) (nodes : List ℕ) (node : ℕ) → names ≡ map (λ id. given_to id at (lookup (nat_eq id) known)) nodes
    → count_by (λ n. n == node) nodes ≡ times_named node names
given_counted at known names nodes node named =
    sym (names_counted nodes node (λ id. given_to id at (lookup (nat_eq id) known)) (λ n. (option_map_or (λ l. l.by) (lookup (nat_eq n) known) at, refl)))
    ∙ ap (times_named node) (sym named)

-- the name of a node that was given
name_again : (node at n : ℕ) (x : Option Lookups) → 0 < n → option_map (λ l. Given l.by node) (given_again at n x) ≡ Some (given_to node at x)
name_again node at zero x some = absurd (omega (arith, some))
name_again node at (suc n) None some = refl
name_again node at (suc n) (Some l) some = refl

-- some node that a new name is given to stands for none in the table
new_found : (at : ℕ) (known : List (ℕ × Lookups)) (nodes : List ℕ) → list_any (is_new known) (map (λ id. given_to id at (lookup (nat_eq id) known)) nodes) ≡ true
    → (node : ℕ) × Contains nodes node × (lookup (nat_eq node) known ≡ None)
new_found at known [] new = absurd cc
new_found at known (n ∷ nodes) new =
    elim (lookup (nat_eq n) known) as (λ x. lookup (nat_eq n) known ≡ x → (node : ℕ) × Contains (n ∷ nodes) node × (lookup (nat_eq node) known ≡ None)) [
      | None ↦ λ none. (n, contains_first n nodes, none)
      | Some l ↦ λ some.
          let test : is_none (lookup (nat_eq n) known) ≡ false = rw some refl in
          let later = new_found at known nodes (rw test at new) in
          (later.0, contains_behind n nodes later.0 later.1, later.2)
    ] refl

-- what stands for none in the table is not counted
none_uncounted : (es : List PlainEvent) (node : ℕ) (x : Option Lookups) → x ≡ None → IsNodeOf es node x → IsCounted es node → ⊥
none_uncounted es node None none is counted = omega (arith, is, counted)
none_uncounted es node (Some l) none is counted = absurd cc

-- an answer with a new name gives a node that was not counted
pub new_is_uncounted : (es : List PlainEvent) (r : PlainRequest) (reply : PlainReply) (at : ℕ) (known : List (ℕ × Lookups)) (names : List NodeName)
    → NodesShow es known → names ≡ map (λ id. given_to id at (lookup (nat_eq id) known)) (nodes_given r.body reply) → some_new known names ≡ true → GivesNew es r reply
new_is_uncounted es r reply at known names shown named new =
    let found = new_found at known (nodes_given r.body reply) (subst (λ ns. some_new known ns ≡ true) named new) in
    (found.0, found.1, λ counted. none_uncounted es found.0 (lookup (nat_eq found.0) known) found.2 (shown found.0) counted)

-- a listing that gives something lists nodes
pub some_is_listed : (r : PlainRequest) (reply : PlainReply) → IsListedReply reply → nodes_given r.body reply ≢ [] → ListsNodes r reply
some_is_listed r (Listed ds) listing some = has_some (nodes_of_listing ds) some
some_is_listed r other listing some = absurd listing

-- ---- keys that are opened

-- what CREATE opens, by the names that are known
pub created_named : (before more : List PlainEvent) (id : ℕ) (names : List NodeName) (body : PlainBody) (reply : PlainReply) → (OpensItsNode body → ⊥)
    → map (λ n. name_at more n) (nodes_given body reply) ≡ map (λ name. Some name) names → opened_by before more id body reply ≡ created_with body reply names
created_named before more id names (Open o) reply other given = absurd (other tt)
created_named before more id names (Opendir o) reply other given = absurd (other tt)
created_named before more id [] (Create flags mode umask name) (Created entry out) other given = absurd cc
created_named before more id (first ∷ []) (Create flags mode umask name) (Created entry out) other given =
    let own : name_at more entry.nodeid ≡ Some first = cc in
    rw own refl
created_named before more id (first ∷ (second ∷ names)) (Create flags mode umask name) (Created entry out) other given = absurd cc
created_named before more id names body reply other given = refl

-- what a success opens, by the names that are known
opened_named : (before more : List PlainEvent) (id : ℕ) (node : NodeName) (names : List NodeName) (body : PlainBody) (reply : PlainReply) → name_at before id ≡ Some node
    → map (λ n. name_at more n) (nodes_given body reply) ≡ map (λ name. Some name) names → opened_by before more id body reply ≡ opened_with node names body reply
opened_named before more id node names (Open o) (Opened out) named given = rw named refl
opened_named before more id node names (Opendir o) (Opened out) named given = rw named refl
opened_named before more id node names (Create flags mode umask name) (Created entry out) named given =
    created_named before more id names (Create flags mode umask name) (Created entry out) (λ opens. absurd opens) given
opened_named before more id node names body reply named given = refl

-- the test of a flag
flag_test : (flags flag : ℕ) → IsTrue (has_flag flags flag) ↔ HasFlag flags flag
flag_test flags flag = (λ test. grind (arith, nat_tests, test), λ has. grind (arith, nat_tests, has))

-- what the new event opens anew
anew_last : (es : List PlainEvent) (e : PlainEvent) → OpensAnew (es ++ e ∷ []) (length es) ↔ ((key : Key) × (out : OpenOut) × (opening es e ≡ Some (key, out)) × (times_opened es key ≡ times_closed es key))
anew_last es e =
    let front : take (length es) (es ++ e ∷ []) ≡ es = take_all_before es e in (
      λ opens.
          let same : opens.2.0 ≡ e = same_Some opens.2.0 e (sym opens.2.1 ∙ get_last es e) in
          let there : opening es opens.2.0 ≡ Some (opens.0, opens.1) = subst (λ x. opening x opens.2.0 ≡ Some (opens.0, opens.1)) front opens.2.2 in (
            opens.0,
            opens.1,
            subst (λ (x : PlainEvent). opening es x ≡ Some (opens.0, opens.1)) same there,
            subst (λ x. times_opened x opens.0 ≡ times_closed x opens.0) front opens.3,
          ),
      λ opens. (
        opens.0,
        opens.1,
        (e, get_last es e, subst (λ x. opening x e ≡ Some (opens.0, opens.1)) (sym front) opens.2),
        subst (λ x. times_opened x opens.0 ≡ times_closed x opens.0) (sym front) opens.3,
      ),
    )

-- a key stands at zero where nothing stands for it
zero_or_not : (es : List PlainEvent) (key : Key) (x : Option Handle) → IsKeyOf es key x → IsTrue (is_none x) ↔ (times_opened es key ≡ times_closed es key)
zero_or_not es key None is = (λ none. sym is, λ zero_now. refl)
zero_or_not es key (Some h) is = (λ none. absurd cc, λ zero_now. absurd (let stands = open_is_some es key h is in omega (arith, stands, zero_now)))

-- ---- flags that are negotiated

-- a flag that was negotiated still is
flag_still : (es : List PlainEvent) (e : PlainEvent) (flag : ℕ) → IsNegotiatedFlag es flag → IsNegotiatedFlag (es ++ e ∷ []) flag
flag_still es e flag is =
    (is.0, is.1, is.2, is.3, is.4, get_kept es (e ∷ []) is.0 (Answered is.0 is.1 is.2 (InitAnswer is.4)) is.5, is.6, is.7, is.8)

-- a flag that is negotiated was so before, or the new event is an answer of INIT
flag_cases : (es : List PlainEvent) (e : PlainEvent) (flag : ℕ) → IsNegotiatedFlag (es ++ e ∷ []) flag
    → IsNegotiatedFlag es flag ⊎ ((at asked : ℕ) × (r : PlainRequest) × (i : InitIn) × (n : Negotiated) × (e ≡ Answered at asked r (InitAnswer n)) × (r.body ≡ Init i) × HasFlag (init_bits i.flags) flag × HasFlag (init_bits n.flags) flag)
flag_cases es e flag is =
    elim (get_cases es e is.0 (Answered is.0 is.1 is.2 (InitAnswer is.4)) is.5) [
      | inl below ↦ inl (is.0, is.1, is.2, is.3, is.4, get_back es (e ∷ []) is.0 (Answered is.0 is.1 is.2 (InitAnswer is.4)) below is.5, is.6, is.7, is.8)
      | inr now ↦ inr (is.0, is.1, is.2, is.3, is.4, sym now.1, is.6, is.7, is.8)
    ]

-- an event that is no answer of INIT settles no flag
pub flag_kept : (es : List PlainEvent) (e : PlainEvent) (flag : ℕ)
    → ((at asked : ℕ) (r : PlainRequest) (reply : PlainReply) (i : InitIn) (n : Negotiated) → e ≡ Answered at asked r (InitAnswer n) → r.body ≡ Init i → ⊥)
    → IsNegotiatedFlag (es ++ e ∷ []) flag ↔ IsNegotiatedFlag es flag
flag_kept es e flag other = (
  λ is. elim (flag_cases es e flag is) [
    | inl before ↦ before
    | inr now ↦ absurd (other now.0 now.1 now.2 (InitAnswer now.4) now.3 now.4 now.5 now.6)
  ],
  flag_still es e flag,
)

-- what settles the flag is an answer of INIT
settled_so : (body : PlainBody) (reply : PlainReply) → SettlesTruncation body reply
    → (i : InitIn) × (n : Negotiated) × (body ≡ Init i) × (reply ≡ InitAnswer n) × HasFlag (init_bits i.flags) atomic_o_trunc × HasFlag (init_bits n.flags) atomic_o_trunc
settled_so (Init i) (InitAnswer n) settles = (i, n, refl, refl, settles.0, settles.1)
settled_so body reply settles = absurd settles

-- and where both sides of an answer of INIT have the flag, they settle it
so_settled : (body : PlainBody) (reply : PlainReply) (i : InitIn) (n : Negotiated) → body ≡ Init i → reply ≡ InitAnswer n → HasFlag (init_bits i.flags) atomic_o_trunc → HasFlag (init_bits n.flags) atomic_o_trunc
    → SettlesTruncation body reply
so_settled body reply i n asks says first second =
    subst (λ x. SettlesTruncation x reply) (sym asks) (subst (λ y. SettlesTruncation (Init i) y) (sym says) (first, second))

-- ---- requests that are not calls

-- a success of a request that is no tree request gives no node
plain_success : (opcode : ℕ) (asked : PlainBody) (body : List ℕ) (reply : PlainReply) → (IsTreeRequest asked → ⊥) → IsSuccessBody opcode asked body reply → nodes_given asked reply ≡ []
plain_success opcode (Forget nlookup) body reply plain says = absurd says
plain_success opcode (Release r) body reply plain says = rw says.0 refl
plain_success opcode (Flush f) body reply plain says = rw says.0 refl
plain_success opcode (Init i) body reply plain says = rw says.1 refl
plain_success opcode (Releasedir r) body reply plain says = rw says.0 refl
plain_success opcode (BatchForget count items) body reply plain says = absurd says
plain_success opcode Passed body reply plain says = rw says.0 refl
plain_success opcode other body reply plain says = absurd (plain refl)

-- such a request opens nothing
plain_unopened : (before more : List PlainEvent) (node : ℕ) (asked : PlainBody) (reply : PlainReply) → (IsTreeRequest asked → ⊥) → opened_by before more node asked reply ≡ None
plain_unopened before more node (Open o) reply plain = absurd (plain refl)
plain_unopened before more node (Opendir o) reply plain = absurd (plain refl)
plain_unopened before more node (Create flags mode umask name) reply plain = absurd (plain refl)
plain_unopened before more node other reply plain = refl

-- the answer to a request that is no tree request gives no node and opens nothing
pub plain_gives_nothing : (before : List Message) (m : Message) (at asked : ℕ) (r : PlainRequest) (reply : PlainReply) → IsEvent before m (Answered at asked r reply) → (IsTreeRequest r.body → ⊥)
    → (nodes_given r.body reply ≡ []) × ((es : List PlainEvent) → opening es (Answered at asked r reply) ≡ None)
plain_gives_nothing before m at asked r reply is plain =
    let none : nodes_given r.body reply ≡ [] = elim is.2.body [
      | inl success ↦ plain_success r.opcode r.body is.2.head.body_bytes reply plain success.1
      | inr refused ↦ rw refused.2 refl
    ] in
    (none, λ es. plain_unopened (take asked es) (es ++ Answered at asked r reply ∷ []) r.node r.body reply plain)

-- ---- what an answer gives, opens and settles

module _ (es : List PlainEvent) (at asked : ℕ) (r : PlainRequest) (reply : PlainReply) where
  -- what stands for a node once an answer has given these names
  node_answered : (known : List (ℕ × Lookups)) (names : List NodeName)
      → at ≡ length es → NodesShow es known → All MayBeGiven (nodes_given r.body reply)
      → names ≡ map (λ id. given_to id at (lookup (nat_eq id) known)) (nodes_given r.body reply)
      → (node : ℕ) → IsNodeOf (es ++ Answered at asked r reply ∷ []) node (given_again at (times_named node names) (lookup (nat_eq node) known))
  node_answered known names place shown may named node =
      let e : PlainEvent = Answered at asked r reply in
      let often : times_given node e ≡ times_named node names = given_counted at known names (nodes_given r.body reply) node named in
      let is : IsNodeOf (es ++ e ∷ []) node (given_again (length es) (times_named node names) (lookup (nat_eq node) known)) =
      node_given es e node (times_named node names) (lookup (nat_eq node) known) often refl (λ some.
      (All-contains MayBeGiven (nodes_given r.body reply) node may (counted_there (nodes_given r.body reply) node (omega (arith, some, often)))).1) (shown node) in
      subst (λ k. IsNodeOf (es ++ e ∷ []) node (given_again k (times_named node names) (lookup (nat_eq node) known))) (sym place) is

  -- the table of nodes, where an answer gives these names
  pub nodes_answered : (known now : List (ℕ × Lookups)) (names : List NodeName)
      → at ≡ length es → NodesShow es known → All MayBeGiven (nodes_given r.body reply)
      → names ≡ map (λ id. given_to id at (lookup (nat_eq id) known)) (nodes_given r.body reply)
      → ((node : ℕ) → lookup (nat_eq node) now ≡ given_again at (times_named node names) (lookup (nat_eq node) known))
      → NodesShow (es ++ Answered at asked r reply ∷ []) now
  nodes_answered known now names place shown may named stands node =
      subst (IsNodeOf (es ++ Answered at asked r reply ∷ []) node) (sym (stands node)) (node_answered known names place shown may named node)

  -- the names of the nodes that an answer gives
  pub names_answered : (known : List (ℕ × Lookups)) (names : List NodeName)
      → at ≡ length es → NodesShow es known → All MayBeGiven (nodes_given r.body reply)
      → names ≡ map (λ id. given_to id at (lookup (nat_eq id) known)) (nodes_given r.body reply)
      → map (λ node. name_at (es ++ Answered at asked r reply ∷ []) node) (nodes_given r.body reply) ≡ map (λ name. Some name) names
  names_answered known names place shown may named =
      let more : List PlainEvent = es ++ Answered at asked r reply ∷ [] in
      let nodes : List ℕ = nodes_given r.body reply in
      let name_for : ℕ → NodeName = λ id. given_to id at (lookup (nat_eq id) known) in
      let each : (node : ℕ) → Contains nodes node → name_at more node ≡ Some (name_for node) = λ node has.
      let now = given_again at (times_named node names) (lookup (nat_eq node) known) in
      let other : node ≢ ROOT_ID = (All-contains MayBeGiven nodes node may has).1 in
      let often : 0 < times_named node names = omega (arith, has_often nodes node has, given_counted at known names nodes node named) in
      let bare : (if node == ROOT_ID then Some Root else option_map (λ l. Given l.by node) now) ≡ option_map (λ l. Given l.by node) now =
      rw (not_root node other) refl in
      name_of_node more node now (node_answered known names place shown may named node) ∙ bare
      ∙ name_again node at (times_named node names) (lookup (nat_eq node) known) often in
      same_images (λ node. name_at more node) (λ node. Some (name_for node)) nodes each
      ∙ sym (image_twice name_for (λ name. Some name) nodes) ∙ ap (map (λ name. Some name)) (sym named)

  -- what an answer opens
  pub opening_answered : (node : NodeName) (names : List NodeName) → name_at (take asked es) r.node ≡ Some node
      → map (λ id. name_at (es ++ Answered at asked r reply ∷ []) id) (nodes_given r.body reply) ≡ map (λ name. Some name) names
      → opening es (Answered at asked r reply) ≡ opened_with node names r.body reply
  opening_answered node names named given =
      opened_named (take asked es) (es ++ Answered at asked r reply ∷ []) r.node node names r.body reply named given

  -- a key that is opened, or another
  key_answered : (opened : List (Key × Handle)) → at ≡ length es → KeysShow es opened → (which : Key × OpenOut)
      → opening es (Answered at asked r reply) ≡ Some which → (key : Key) (b : Bool) → key_eq which.0 key ≡ b
      → IsKeyOf (es ++ Answered at asked r reply ∷ []) key (cond b (Some (opened_again asked (has_flag (fopen_bits which.1.open_flags) fopen_direct_io) (lookup (key_eq which.0) opened))) (lookup (key_eq key) opened))
  key_answered opened place shown which opens key true test =
      let e : PlainEvent = Answered at asked r reply in
      let direct : Bool = has_flag (fopen_bits which.1.open_flags) fopen_direct_io in
      let is : IsKeyOf (es ++ e ∷ []) which.0 (Some (opened_again asked direct (lookup (key_eq which.0) opened))) =
      key_opened es e which.0 (lookup (key_eq which.0) opened) which.1 asked r reply (ap (λ n. Answered n asked r reply) place) opens (shown which.0) direct (flag_test (fopen_bits which.1.open_flags) fopen_direct_io) in
      subst (λ k. IsKeyOf (es ++ e ∷ []) k (Some (opened_again asked direct (lookup (key_eq which.0) opened)))) (key_same which.0 key test) is
  key_answered opened place shown which opens key false test =
      let e : PlainEvent = Answered at asked r reply in
      key_unmoved es e key (lookup (key_eq key) opened) (other_unopened es e which.0 key which.1 opens test) refl (shown key)

  -- what an answer leaves of each key
  pub keys_answered : (opened now : List (Key × Handle)) → at ≡ length es → KeysShow es opened
      → (which : Option (Key × OpenOut)) → opening es (Answered at asked r reply) ≡ which → IsOpenedBy asked which opened now → KeysShow (es ++ Answered at asked r reply ∷ []) now
  keys_answered opened now place shown None opens stands key =
      let e : PlainEvent = Answered at asked r reply in
      subst (IsKeyOf (es ++ e ∷ []) key) (sym (stands key)) (key_unmoved es e key (lookup (key_eq key) opened) (none_unopened es e key opens) refl (shown key))
  keys_answered opened now place shown (Some which) opens stands key =
      subst (IsKeyOf (es ++ Answered at asked r reply ∷ []) key) (sym (stands key)) (key_answered opened place shown which opens key (key_eq which.0 key) refl)

  -- the mark of an answer that opens a key anew
  pub opens_answered : (opened : List (Key × Handle)) → at ≡ length es → KeysShow es opened
      → (which : Option (Key × OpenOut)) → opening es (Answered at asked r reply) ≡ which
      → (opens : Bool) → opens ≡ option_map_or (λ w. is_none (lookup (key_eq w.0) opened)) which false → IsTrue opens ↔ OpensAnew (es ++ Answered at asked r reply ∷ []) (length es)
  opens_answered opened place shown None opening_is opens marked =
      let e : PlainEvent = Answered at asked r reply in (
        λ test. absurd cc,
        λ anew.
            let is = (anew_last es e).0 anew in
            let clash : None ≡ Some (is.0, is.1) = sym opening_is ∙ is.2 in
            absurd cc,
      )
  opens_answered opened place shown (Some which) opening_is opens marked =
      let e : PlainEvent = Answered at asked r reply in
      let zero_now = zero_or_not es which.0 (lookup (key_eq which.0) opened) (shown which.0) in (
        λ test. (anew_last es e).1 (which.0, which.1, opening_is, zero_now.0 (sym marked ∙ test)),
        λ anew.
            let is = (anew_last es e).0 anew in
            let same : (is.0, is.1) ≡ which = same_Some (is.0, is.1) which (sym is.2 ∙ opening_is) in
            let key : is.0 ≡ which.0 = ap (λ w. w.0) same in
            marked ∙ zero_now.1 (subst (λ k. times_opened es k ≡ times_closed es k) key is.3),
      )

  -- the new answer settles the flag
  settled_now : at ≡ length es → SettlesTruncation r.body reply
      → IsNegotiatedFlag (es ++ Answered at asked r reply ∷ []) atomic_o_trunc
  settled_now place settles =
      let so = settled_so r.body reply settles in
      let there : slice_get (es ++ Answered at asked r reply ∷ []) at ≡ Some (Answered at asked r reply) =
      subst (λ k. slice_get (es ++ Answered at asked r reply ∷ []) k ≡ Some (Answered at asked r reply)) (sym place) (get_last es (Answered at asked r reply)) in
      (at, asked, r, so.0, so.1, there ∙ ap (λ y. Some (Answered at asked r y)) so.3, so.2, so.4, so.5)

  -- the mark of the flag after an answer
  pub flag_settled : at ≡ length es
      → (old settles : Bool) → IsTrue old ↔ IsNegotiatedFlag es atomic_o_trunc → IsTrue settles ↔ SettlesTruncation r.body reply
      → IsTrue (old || settles) ↔ IsNegotiatedFlag (es ++ Answered at asked r reply ∷ []) atomic_o_trunc
  flag_settled place old settles before now =
      let e : PlainEvent = Answered at asked r reply in
      either_mark old settles (IsNegotiatedFlag es atomic_o_trunc) (SettlesTruncation r.body reply) (IsNegotiatedFlag (es ++ e ∷ []) atomic_o_trunc) before now
      (flag_still es e atomic_o_trunc) (settled_now place) (λ is.
      elim (flag_cases es e atomic_o_trunc is) [
        | inl first ↦ inl first
        | inr last ↦
            let event : Answered at asked r reply ≡ Answered last.0 last.1 last.2 (InitAnswer last.4) = last.5 in
            let says : reply ≡ InitAnswer last.4 = cc in
            let request : r ≡ last.2 = cc in
            inr (so_settled r.body reply last.3 last.4 (ap (λ (x : PlainRequest). x.body) request ∙ last.6) says last.7 last.8)
      ])

-- ---- bounds

-- what is left of a node and what an answer gives fit
pub give_fits : (c : List Message) (m : Message) (es : List PlainEvent) (at asked : ℕ) (r : PlainRequest) (reply : PlainReply) (known : List (ℕ × Lookups)) (names : List NodeName)
    → AreEvents c es → length c < MAX_MESSAGES → IsEvent c m (Answered at asked r reply) → NodesShow es known
    → names ≡ map (λ id. given_to id at (lookup (nat_eq id) known)) (nodes_given r.body reply) → (node : ℕ) → count_left (lookup (nat_eq node) known) + length names ≤ 18446744073709551615
give_fits c m es at asked r reply known names are below event shown is node =
    let long : length names ≡ length (nodes_given r.body reply) = ap length is ∙ length-map (nodes_given r.body reply) (λ id. given_to id at (lookup (nat_eq id) known)) in
    let few : length es < 16777216 = omega (arith, below, are.counted) in
    omega (arith, long, few, reply_few c m at asked r reply event, left_within es node (lookup (nat_eq node) known) (shown node), given_within c es node are)

-- ---- what more is given

pub names_more : (es : List PlainEvent) (at asked : ℕ) (r : PlainRequest) (reply : PlainReply) → IsListedReply reply × ((nodes_given r.body reply ≡ []) → ⊥) → GivesMore es at asked r reply
names_more es at asked r reply why = inr (inl (some_is_listed r reply why.0 why.1))

pub nodes_more : (es : List PlainEvent) (at asked : ℕ) (r : PlainRequest) (reply : PlainReply) (known : List (ℕ × Lookups)) (names : List NodeName) → NodesShow es known
    → names ≡ map (λ id. given_to id at (lookup (nat_eq id) known)) (nodes_given r.body reply) → IsTrue (some_new known names) → GivesMore es at asked r reply
nodes_more es at asked r reply known names shown named new = inl (new_is_uncounted es r reply at known names shown named new)

pub opens_more : (es : List PlainEvent) (at asked : ℕ) (r : PlainRequest) (reply : PlainReply) (opened : List (Key × Handle)) (which : Option (Key × OpenOut))
    → at ≡ length es → KeysShow es opened → opening es (Answered at asked r reply) ≡ which → IsTrue (opens_new opened which) → GivesMore es at asked r reply
opens_more es at asked r reply opened which place shown opening_is new =
    let anew = opens_answered es at asked r reply opened place shown which opening_is (opens_new opened which) refl in
    inr (inr (subst (OpensAnew (es ++ Answered at asked r reply ∷ [])) (sym place) (anew.0 new)))
