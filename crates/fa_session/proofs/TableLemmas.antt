-- The table of the outstanding requests, and the list by rising uniques that it shows.
use Rattle.std.proofs.Common.{Bor, ◌≡◌, ℕ, zero, suc, ◌+◌, ◌<◌, Bool, true, false, cond, List, [], ◌∷◌, Option, None, Some, refl, sym, ap, subst, ◌∙◌, add-one, arith}
use Rattle.std.specs.Prelude.{map, nat_eq, slice_get, T, ◌&&◌}
use Rattle.std.specs.Option.{option_map, option_or, option_copied}
use Rattle.std.specs.Ordering.{nat_cmp, is_lt, MatchOrdering}
use Rattle.std.specs.Cmp.{nat_cmp_total, nat_eq_equiv, unsigned_tied, ranks}
use Rattle.std.specs.declared.cmp.Ordering.{Ordering}
use Rattle.std.specs.declared.cmp.Ordering.TheVariants.{Less, Equal, Greater}
use Rattle.std.specs.Map.{lookup}
use Rattle.std.specs.List.Sorted.{IsStrictlyIncreasing}
use Rattle.std.specs.FinMap.{find, from_entries, entries_sorted, get-entries, get-from_entries, is_sorted}
use Rattle.fa_session.specs.declared.waiting.Waiting.{Waiting}
use Rattle.fa_capture.specs.Message.{Message}
use Rattle.fa_bodies.specs.Requests.{PlainRequest, MayBeAnswered}
use Rattle.fa_session.specs.declared.session.Session.TheInside.{Inside}
use Rattle.fa_session.specs.Plain.{PlainSession, PlainWaiting}
use Rattle.fa_session.specs.Shows.{Shows, IsNegotiated}
use Rattle.fa_session.specs.parts.Steps.{waiting_for, NotesRequest, NotesReply}
use Rattle.fa_session.specs.parts.View.{waiting_shown, entries_shown, by_unique, session_shown}

-- what a test chooses of two options shows what it chooses of what they show
shown_by_test : (test : Bool) (one two : Option Waiting) → option_map waiting_shown (cond test one two) ≡ cond test (option_map waiting_shown one) (option_map waiting_shown two)
shown_by_test true one two = refl
shown_by_test false one two = refl

-- a request that is lent shows what it is
pub shown_copied : (found : Option (Bor Waiting)) → option_map (λ w. waiting_shown w.now) found ≡ option_map waiting_shown (option_copied found)
shown_copied None = refl
shown_copied (Some w) = refl

-- a look-up among what entries show
find_shown : (unique : ℕ) (es : List (ℕ × Waiting)) → find nat_cmp unique (entries_shown es) ≡ option_map waiting_shown (lookup (nat_eq unique) es)
find_shown unique [] = refl
find_shown unique (e ∷ es) =
    ap (λ (b : Bool). cond b (Some (waiting_shown e.1)) (find nat_cmp unique (entries_shown es))) (unsigned_tied unique e.0)
    ∙ ap (cond (nat_eq unique e.0) (Some (waiting_shown e.1))) (find_shown unique es)
    ∙ sym (shown_by_test (nat_eq unique e.0) (Some e.1) (lookup (nat_eq unique) es))

-- a look-up by rising uniques is one among the entries
pub find_by_unique : (unique : ℕ) (es : List (ℕ × Waiting)) → find nat_cmp unique (by_unique es) ≡ option_map waiting_shown (lookup (nat_eq unique) es)
find_by_unique unique es =
    sym (get-entries (from_entries {R = nat_cmp} (entries_shown es)) unique)
    ∙ get-from_entries nat_cmp_total (entries_shown es) unique
    ∙ find_shown unique es

-- a number that the comparison puts below another is less
less_by_rank : (x y : ℕ) (rank : Ordering) → MatchOrdering rank (x < y) (x ≡ y) (y < x) → T (is_lt rank) → x < y
less_by_rank x y Less means below = means
less_by_rank x y Equal means below = absurd below
less_by_rank x y Greater means below = absurd below

-- what two tests say together, each says alone
pub both_first : (a b : Bool) → T (a && b) → T a
both_first true b both = tt
both_first false b both = both

pub both_second : (a b : Bool) → T (a && b) → T b
both_second true b both = both
both_second false b both = absurd both

-- the keys of entries in order rise
keys_rise : (es : List (ℕ × PlainWaiting)) → T (is_sorted nat_cmp es) → IsStrictlyIncreasing (map (λ e. e.0) es)
keys_rise [] sorted k within = absurd (omega arith)
keys_rise (e ∷ []) sorted k within = absurd (omega arith)
keys_rise (e ∷ f ∷ es) sorted zero within =
    less_by_rank e.0 f.0 (nat_cmp e.0 f.0) (ranks e.0 f.0) (both_first _ _ (both_first _ _ sorted))
keys_rise (e ∷ f ∷ es) sorted (suc k) within =
    rw add-one (rw add-one at (keys_rise (f ∷ es) (both_second _ _ sorted) k (omega (arith, within))))

-- the uniques that the table shows rise
pub uniques_rise : (es : List (ℕ × Waiting)) → IsStrictlyIncreasing (map (λ e. e.0) (by_unique es))
uniques_rise es = keys_rise (by_unique es) (entries_sorted (from_entries {R = nat_cmp} (entries_shown es)))

-- A table that has at each unique what another one has, but a new request at one of them, shows this.
pub shown_insert : (old new : List (ℕ × Waiting)) (w : Waiting) (at : ℕ)
    → ((unique : ℕ) → lookup (nat_eq unique) new ≡ cond (nat_eq at unique) (Some w) (lookup (nat_eq unique) old))
    → (unique : ℕ) → find nat_cmp unique (by_unique new) ≡ cond (nat_eq unique at) (Some (waiting_shown w)) (find nat_cmp unique (by_unique old))
shown_insert old new w at updates unique =
    find_by_unique unique new
    ∙ ap (option_map waiting_shown) (updates unique)
    ∙ shown_by_test (nat_eq at unique) (Some w) (lookup (nat_eq unique) old)
    ∙ ap (λ (b : Bool). cond b (Some (waiting_shown w)) (option_map waiting_shown (lookup (nat_eq unique) old))) (nat_eq_equiv.symm at unique)
    ∙ ap (cond (nat_eq unique at) (Some (waiting_shown w))) (sym (find_by_unique unique old))

-- a table that has at each unique what another one has, but nothing at one of them, shows this
pub shown_remove : (old new : List (ℕ × Waiting)) (at : ℕ)
    → ((unique : ℕ) → lookup (nat_eq unique) new ≡ cond (nat_eq at unique) None (lookup (nat_eq unique) old))
    → (unique : ℕ) → find nat_cmp unique (by_unique new) ≡ cond (nat_eq unique at) None (find nat_cmp unique (by_unique old))
shown_remove old new at updates unique =
    find_by_unique unique new
    ∙ ap (option_map waiting_shown) (updates unique)
    ∙ shown_by_test (nat_eq at unique) None (lookup (nat_eq unique) old)
    ∙ ap (λ (b : Bool). cond b None (option_map waiting_shown (lookup (nat_eq unique) old))) (nat_eq_equiv.symm at unique)
    ∙ ap (cond (nat_eq unique at) None) (sym (find_by_unique unique old))

-- the fields after a reply show that its request was answered
pub answered_shown : (inside : Inside) (old new : PlainSession) (answered : ℕ) (flags : Option ℕ) (table : List (ℕ × Waiting))
    → session_shown inside ≡ old → new.messages ≡ inside.messages + 1 → new.negotiated ≡ option_or flags inside.negotiated → new.waiting ≡ by_unique table
    → ((unique : ℕ) → lookup (nat_eq unique) table ≡ cond (nat_eq answered unique) None (lookup (nat_eq unique) inside.waiting))
    → NotesReply old new answered flags
answered_shown inside old new answered flags table view counted settled shown updates =
    subst (λ (s : PlainSession). NotesReply s new answered flags) view (record {
      counted = counted;
      settled = settled;
      removed = λ unique. ap (find nat_cmp unique) shown ∙ shown_remove inside.waiting table answered updates unique;
      rising = subst (λ (es : List (ℕ × PlainWaiting)). IsStrictlyIncreasing (map (λ e. e.0) es)) (sym shown) (uniques_rise table);
    })

-- the fields after a request that may be answered show that it was asked
pub asked_shown : (inside : Inside) (old new : PlainSession) (r : PlainRequest) (w : Waiting) (table : List (ℕ × Waiting))
    → session_shown inside ≡ old → MayBeAnswered r.body → waiting_shown w ≡ record { at = inside.messages; request = r }
    → new.messages ≡ inside.messages + 1 → new.negotiated ≡ inside.negotiated → new.waiting ≡ by_unique table
    → ((unique : ℕ) → lookup (nat_eq unique) table ≡ cond (nat_eq r.unique unique) (Some w) (lookup (nat_eq unique) inside.waiting))
    → NotesRequest old new r
asked_shown inside old new r w table view may waits counted settled shown updates =
    subst (λ (s : PlainSession). NotesRequest s new r) view (record {
      counted = counted;
      settled = settled;
      kept = λ _ unique.
          ap (find nat_cmp unique) shown
          ∙ shown_insert inside.waiting table w r.unique updates unique
          ∙ ap (λ (x : PlainWaiting). cond (nat_eq unique r.unique) (Some x) (find nat_cmp unique (by_unique inside.waiting))) waits;
      rising = λ _. subst (λ (es : List (ℕ × PlainWaiting)). IsStrictlyIncreasing (map (λ e. e.0) es)) (sym shown) (uniques_rise table);
      forgotten = λ not. absurd (not may);
    })

-- no message stands among none
no_message : (at : ℕ) (m : Message) → slice_get [] at ≡ Some m → ⊥
no_message at m is = absurd cc

-- nothing is found in an empty table
nothing_found : (unique : ℕ) (table : List (ℕ × Waiting)) (w : PlainWaiting) → table ≡ [] → find nat_cmp unique (by_unique table) ≡ Some w → ⊥
nothing_found unique table w empty found =
    let none : option_map waiting_shown (lookup (nat_eq unique) table) ≡ None = ap (λ (es : List (ℕ × Waiting)). option_map waiting_shown (lookup (nat_eq unique) es)) empty in
    let some : None ≡ Some w = sym none ∙ sym (find_by_unique unique table) ∙ found in
    absurd cc some

-- a session with no message and an empty table shows no messages
pub nothing_shown : (s : PlainSession) (table : List (ℕ × Waiting)) → s.messages ≡ 0 → s.negotiated ≡ None → s.waiting ≡ by_unique table → table ≡ [] → Shows [] s
nothing_shown s table counted settled shown empty = record {
  allowed = λ i m is. absurd (no_message i m is);
  counted = counted;
  settled = subst (IsNegotiated []) (sym settled) (λ answered. no_message answered.0 answered.3.0 answered.3.1);
  outstanding = λ unique w. (
    (λ found. absurd (nothing_found unique table w empty (sym (ap (find nat_cmp unique) shown) ∙ found))),
    (λ waits. absurd (no_message w.at waits.0.asked.0 waits.0.asked.1)),
  );
  rising = subst (λ (es : List (ℕ × PlainWaiting)). IsStrictlyIncreasing (map (λ e. e.0) es)) (sym shown) (uniques_rise table);
}

-- where the table has nothing at a unique, the session that it shows has no request for it
pub none_shown : (inside : Inside) (old : PlainSession) (unique : ℕ) → session_shown inside ≡ old → lookup (nat_eq unique) inside.waiting ≡ None → waiting_for old unique ≡ None
none_shown inside old unique view none =
    ap (λ (s : PlainSession). waiting_for s unique) (sym view) ∙ find_by_unique unique inside.waiting ∙ ap (option_map waiting_shown) none
