-- Entries that go on: what explains replies does from nothing, and what goes on where some requests are done does so where the same are
-- done otherwise said.
use Rattle.std.proofs.Common.{◌≡◌, ◌↔◌, ◌⊎◌, ℕ, ◌≤◌, List, [], ◌∷◌, ◌++◌, length, refl, sym, subst, ◌∙◌, inl, inr, append_assoc, arith}
use Rattle.std.specs.Prelude.{Contains}
use Rattle.std.proofs.lemmas.Bool.{cases_eq}
use Rattle.fa_capture.specs.Checks.{AllHold}
use Rattle.fa_capture.specs.Message.{Message}
use Rattle.fa_capture.proofs.CallerLemmas.{contains_cases, contains_first, contains_behind}
use Rattle.fa_session.specs.Answers.{IsAnsweredBy}
use Rattle.fa_tree.specs.State.{TreeState}
use Rattle.fa_tree.specs.Alike.{AreAlike}
use Rattle.fa_order.specs.declared.entry.Entry.{Entry}
use Rattle.fa_check.specs.Orders.{numbers}
use Rattle.fa_check.specs.Runs.{EntrySteps, Runs}
use Rattle.fa_check.specs.Faults.{order_checks, EachPlaced}
use Rattle.fa_check.proofs.CallerLemmas.{number_more, number_still, number_now}
use Rattle.fa_search.specs.Searches.{IsUsedFrom}
use Rattle.fa_search.specs.parts.Going.{MayCome, OrThis, GoesOn}
use Rattle.fa_search.specs.parts.Configurations.{PlainConfiguration, IsAnsweredTree, IsDoneAt, AreDoneOrIn, LeavesFrom, IsAhead}
use Rattle.fa_search.proofs.AlikeLemmas.{goes_on_alike}
use Rattle.fa_search.proofs.GivenLemmas.{entry_keeps}

-- ---- what is done

module _ (c : List Message) where
  -- Of some requests fewer may be done: all of those that are answered at any time.
  pub record AreFewer (Done Fewer : ℕ → Type 0) : Type 0 where
    pub of : (p : ℕ) → Fewer p → Done p
    pub all : (p q : ℕ) → IsAnsweredBy c p q → Done p → Fewer p

  -- where the same are done, these are all of them
  pub same_fewer : (Done Other : ℕ → Type 0) → ((p : ℕ) → Done p ↔ Other p) → AreFewer Done Other
  same_fewer Done Other same = record { of = λ p done. (same p).1 done; all = λ p q by done. (same p).0 done }

  -- and one more of both
  fewer_next : (Done Fewer : ℕ → Type 0) (this : ℕ) → AreFewer Done Fewer → AreFewer (OrThis Done this) (OrThis Fewer this)
  fewer_next Done Fewer this are = record {
    of = λ p done. elim done [ inl before ↦ inl (are.of p before) | inr here ↦ inr here ];
    all = λ p q by done. elim done [ inl before ↦ inl (are.all p q by before) | inr here ↦ inr here ];
  }

  -- entries go on where fewer are done
  pub goes_on_fewer : (Done Fewer : ℕ → Type 0) (old new : TreeState) (es : List Entry) → AreFewer Done Fewer → GoesOn c Done old new es → GoesOn c Fewer old new es
  goes_on_fewer Done Fewer old new [] are on = on
  goes_on_fewer Done Fewer old new (e ∷ es) are on = (
    on.0,
    record {
      tree_request = on.1.tree_request;
      once = λ done. on.1.once (are.of e.at done);
      earlier = λ p q tree by before. are.all p q by (on.1.earlier p q tree by before);
      choice = on.1.choice;
    },
    on.2,
    goes_on_fewer (OrThis Done e.at) (OrThis Fewer e.at) on.0 new es (fewer_next Done Fewer e.at are) on.3,
  )

  -- and where the same are done
  pub goes_on_same : (Done Other : ℕ → Type 0) (old new : TreeState) (es : List Entry) → ((p : ℕ) → Done p ↔ Other p) → GoesOn c Done old new es → GoesOn c Other old new es
  goes_on_same Done Other old new es same on = goes_on_fewer Done Other old new es (same_fewer Done Other same) on

-- ---- what is left of an order

-- it is the same where the same are done
pub kept_same : (c : List Message) (Done Other : ℕ → Type 0) (rest es : List Entry) → ((p : ℕ) → Done p ↔ Other p) → AreDoneOrIn c Done rest es → AreDoneOrIn c Other rest es
kept_same c Done Other rest es same kept p q by has = elim (kept p q by has) [ inl done ↦ inl ((same p).0 done) | inr behind ↦ inr behind ]

-- and where the first of the rest is done
pub kept_next : (c : List Message) (Done : ℕ → Type 0) (e : Entry) (rest es : List Entry) → AreDoneOrIn c Done (e ∷ rest) es → AreDoneOrIn c (OrThis Done e.at) rest es
kept_next c Done e rest es kept p q by has = elim (kept p q by has) [
  | inl done ↦ inl (inl done)
  | inr there ↦ elim (contains_cases e.at (numbers rest) p there) [ inl here ↦ inl (inr here) | inr behind ↦ inr behind ]
]

-- ---- requests that leave the tree

-- Entries that go on, but for one request or some, which are done: what is left of them does, and is no longer.
pub record GoesOnBut (c : List Message) (Done Others : ℕ → Type 0) (old new : TreeState) (es : List Entry) : Type 0 where
  pub rest : List Entry
  pub on : GoesOn c (λ p. Done p ⊎ Others p) old new rest
  pub kept : (p : ℕ) → Contains (numbers es) p → Others p ⊎ Contains (numbers rest) p
  pub shorter : length rest ≤ length es

-- one that is done may be said behind another
this_last : (Done Others : ℕ → Type 0) (this p : ℕ) → (OrThis Done this p ⊎ Others p) ↔ OrThis (λ q. Done q ⊎ Others q) this p
this_last Done Others this p = (
  (λ done. elim done [ inl first ↦ elim first [ inl before ↦ inl (inl before) | inr here ↦ inr here ] | inr others ↦ inl (inr others) ]),
  (λ done. elim done [ inl first ↦ elim first [ inl before ↦ inl (inl before) | inr others ↦ inr others ] | inr here ↦ inl (inr here) ]),
)

-- what leaves a tree and each later one leaves those behind its steps
leaves_on : (c : List Message) (this : ℕ) (old new : TreeState) (e : Entry) → EntrySteps old new c e → LeavesFrom c old this → LeavesFrom c new this
leaves_on c this old new e step leaves later other f as_much at steps =
    leaves later other f (λ name known. as_much name (entry_keeps c name old new e step known)) at steps

-- Where one leaves the tree as it is, and each later one, entries go on without it: it may be done at once.
one_done : (c : List Message) (this : ℕ) (es : List Entry) (Done : ℕ → Type 0) (old new : TreeState) → LeavesFrom c old this → GoesOn c Done old new es
    → GoesOnBut c Done (λ p. this ≡ p) old new es
one_done c this [] Done old new leaves on = record { rest = []; on = on; kept = λ p has. absurd (omega (arith, has.1)); shorter = omega arith }
one_done c this (e ∷ es) Done old new leaves on =
    elim (cases_eq this e.at) [
      | inl same ↦
          let stays : on.0 ≡ old = leaves old on.0 e (λ name known. known) (sym same) on.2 in
          record {
            rest = es;
            on = subst (λ (k : ℕ). GoesOn c (OrThis Done k) old new es) (sym same) (subst (λ (t : TreeState). GoesOn c (OrThis Done e.at) t new es) stays on.3);
            kept = λ p has. elim (contains_cases e.at (numbers es) p has) [ inl here ↦ inl (same ∙ here) | inr behind ↦ inr behind ];
            shorter = omega arith;
          }
      | inr other ↦
          let further = one_done c this es (OrThis Done e.at) on.0 new (leaves_on c this old on.0 e on.2 leaves) on.3 in
          record {
            rest = e ∷ further.rest;
            on = (
              on.0,
              record {
                tree_request = on.1.tree_request;
                once = λ done. elim done [ inl before ↦ on.1.once before | inr here ↦ other here ];
                earlier = λ p q tree by before. inl (on.1.earlier p q tree by before);
                choice = on.1.choice;
              },
              on.2,
              goes_on_same c (λ p. OrThis Done e.at p ⊎ (this ≡ p)) (OrThis (OrThis Done this) e.at) on.0 new further.rest (this_last Done (λ p. this ≡ p) e.at) further.on,
            );
            kept = λ p has. elim (contains_cases e.at (numbers es) p has) [
              | inl here ↦ inr (subst (Contains (numbers (e ∷ further.rest))) here (contains_first e.at (numbers further.rest)))
              | inr behind ↦ elim (further.kept p behind) [ inl here ↦ inl here | inr there ↦ inr (contains_behind e.at (numbers further.rest) p there) ]
            ];
            shorter = (let less = further.shorter in omega (arith, less));
          }
    ]

-- one that is done already needs no more
already_done : (c : List Message) (this : ℕ) (es : List Entry) (Done : ℕ → Type 0) (old new : TreeState) → Done this → GoesOn c Done old new es → GoesOnBut c Done (λ p. this ≡ p) old new es
already_done c this es Done old new done on = record {
  rest = es;
  on = goes_on_same c Done (OrThis Done this) old new es (λ p. ((λ before. inl before), (λ either. elim either [ inl before ↦ before | inr here ↦ subst Done here done ]))) on;
  kept = λ p has. inr has;
  shorter = omega arith;
}

-- so several may be done at once
some_done : (c : List Message) (others : List ℕ) (es : List Entry) (Done : ℕ → Type 0) (old new : TreeState) → ((p : ℕ) → Contains others p → Done p ⊎ LeavesFrom c old p) → GoesOn c Done old new es
    → GoesOnBut c Done (Contains others) old new es
some_done c [] es Done old new each on = record {
  rest = es;
  on = goes_on_same c Done (λ p. Done p ⊎ Contains [] p) old new es (λ p. ((λ done. inl done), (λ done. elim done [ inl before ↦ before | inr none ↦ absurd (omega (arith, none.1)) ]))) on;
  kept = λ p has. inr has;
  shorter = omega arith;
}
some_done c (this ∷ others) es Done old new each on =
    let first : GoesOnBut c Done (λ p. this ≡ p) old new es = elim (each this (contains_first this others)) [
      | inl done ↦ already_done c this es Done old new done on
      | inr leaves ↦ one_done c this es Done old new leaves on
    ] in
    let rests : (p : ℕ) → Contains others p → OrThis Done this p ⊎ LeavesFrom c old p =
    λ p has. elim (each p (contains_behind this others p has)) [ inl done ↦ inl (inl done) | inr leaves ↦ inr leaves ] in
    let further = some_done c others first.rest (OrThis Done this) old new rests first.on in
    record {
      rest = further.rest;
      on = goes_on_same c (λ p. OrThis Done this p ⊎ Contains others p) (λ p. Done p ⊎ Contains (this ∷ others) p) old new further.rest
          (λ p. (
            (λ done. elim done [
              | inl before ↦ elim before [ inl earlier ↦ inl earlier | inr here ↦ inr (subst (Contains (this ∷ others)) here (contains_first this others)) ]
              | inr there ↦ inr (contains_behind this others p there)
            ]),
            (λ done. elim done [
              | inl before ↦ inl (inl before)
              | inr has ↦ elim (contains_cases this others p has) [ inl here ↦ inl (inr here) | inr there ↦ inr there ]
            ]),
          )) further.on;
      kept = λ p has. elim (first.kept p has) [
        | inl here ↦ inl (subst (Contains (this ∷ others)) here (contains_first this others))
        | inr there ↦ elim (further.kept p there) [ inl other ↦ inl (contains_behind this others p other) | inr behind ↦ inr behind ]
      ];
      shorter = (let less = first.shorter in let still = further.shorter in omega (arith, less, still));
    }

-- Some rest, no longer than this, goes on from the configuration, to this tree but for openings of no use, and with it no request of these
-- entries is left out.
pub record GoesOnAhead (c : List Message) (at : ℕ) (x : PlainConfiguration) (last : TreeState) (es : List Entry) (size : ℕ) : Type 0 where
  pub rest : List Entry
  pub within : length rest ≤ size
  pub to : TreeState
  pub on : GoesOn c (IsDoneAt c at x.placed) x.tree to rest
  pub alike : AreAlike (IsUsedFrom c at) last to
  pub kept : AreDoneOrIn c (IsDoneAt c at x.placed) rest es

-- what goes on from a tree, where some requests are done, goes on from what is ahead of it
pub ahead_goes_on : (c : List Message) (at : ℕ) (Placed : ℕ → Type 0) (tree last : TreeState) (x : PlainConfiguration) (rest es : List Entry) → IsAhead c at Placed tree x
    → GoesOn c (λ p. IsAnsweredTree c at p ⊎ Placed p) tree last rest → AreDoneOrIn c (λ p. IsAnsweredTree c at p ⊎ Placed p) rest es → GoesOnAhead c at x last es (length rest)
ahead_goes_on c at Placed tree last x rest es ahead on kept =
    let Before : ℕ → Type 0 = λ p. IsAnsweredTree c at p ⊎ Placed p in
    let others : (p : ℕ) → Contains x.placed p → Before p ⊎ LeavesFrom c tree p =
    λ p has. elim (ahead.others p has) [ inl placed ↦ inl (inr placed) | inr idle ↦ inr idle.leaves ] in
    let found = some_done c x.placed rest Before tree last others on in
    let fewer : AreFewer c (λ p. Before p ⊎ Contains x.placed p) (IsDoneAt c at x.placed) =
    record {
      of = λ p done. elim done [ inl answered ↦ inl (inl answered) | inr has ↦ inr has ];
      all = λ p q by done. elim done [
        | inl before ↦ elim before [ inl answered ↦ inl answered | inr placed ↦ inr (ahead.all p q by placed) ]
        | inr has ↦ inr has
      ];
    } in
    let moved = goes_on_alike c at found.rest (IsDoneAt c at x.placed) (λ p answered. inl answered) tree last x.tree ahead.same
    (goes_on_fewer c (λ p. Before p ⊎ Contains x.placed p) (IsDoneAt c at x.placed) tree last found.rest fewer found.on) in
    record {
      rest = found.rest;
      within = found.shorter;
      to = moved.0;
      on = moved.1;
      alike = moved.2;
      kept = λ p q by has. elim (kept p q by has) [
        | inl done ↦ inl (fewer.all p q by (inl done))
        | inr there ↦ elim (found.kept p there) [ inl other ↦ inl (inr other) | inr behind ↦ inr behind ]
      ];
    }

-- ---- an order goes on

module _ (c : List Message) (es : List Entry) (placed : EachPlaced c es) (last : TreeState) where
  -- what passes the checks of its place behind these entries may come where they are done
  hold_may_come : (earlier : List Entry) (e : Entry) → AllHold (order_checks c earlier e) → MayCome c (Contains (numbers earlier)) e
  hold_may_come earlier e hold = record {
    tree_request = hold.0;
    once = hold.1.0;
    earlier = hold.1.1.0;
    choice = hold.1.1.1.0;
  }

  -- the rest of the entries goes on behind those before it
  rest_goes_on : (rest earlier : List Entry) (tree : TreeState) → es ≡ earlier ++ rest → Runs tree last c rest → GoesOn c (Contains (numbers earlier)) tree last rest
  rest_goes_on [] earlier tree parts run = run
  rest_goes_on (e ∷ rest) earlier tree parts run = (
    run.0,
    hold_may_come earlier e (placed earlier rest e parts),
    run.1,
    goes_on_same c (Contains (numbers (earlier ++ e ∷ []))) (OrThis (Contains (numbers earlier)) e.at) run.0 last rest
        (λ p. (
          number_more earlier e p,
          (λ done. elim done [
            | inl before ↦ number_still earlier e p before
            | inr here ↦ subst (Contains (numbers (earlier ++ e ∷ []))) here (number_now earlier e)
          ]),
        ))
        (rest_goes_on rest (earlier ++ e ∷ []) run.0 (parts ∙ sym (append_assoc earlier (e ∷ []) rest)) run.2),
  )

-- entries that are placed rightly, and are a run, go on from its first tree, where nothing is done
pub order_goes_on : (c : List Message) (first last : TreeState) (es : List Entry) → EachPlaced c es → Runs first last c es → GoesOn c (λ p. ⊥) first last es
order_goes_on c first last es placed run =
    goes_on_same c (Contains (numbers [])) (λ p. ⊥) first last es (λ p. ((λ has. omega (arith, has.1)), (λ none. absurd none))) (rest_goes_on c es placed last es [] first refl run)
