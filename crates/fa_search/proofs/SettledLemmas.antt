-- A reply comes: what goes on from a configuration in which its request is not placed comes to one in which it is.
use Rattle.std.proofs.Common.{◌↔◌, ◌⊎◌, ℕ, zero, suc, ◌≤◌, List, [], ◌∷◌, length, subst, inl, inr, arith}
use Rattle.std.specs.Prelude.{Contains}
use Rattle.fa_capture.specs.Message.{Message}
use Rattle.fa_session.specs.Answers.{IsAnsweredBy}
use Rattle.fa_tree.specs.State.{TreeState}
use Rattle.fa_tree.specs.Alike.{AreAlike}
use Rattle.fa_tree.proofs.CallerLemmas.{alike_on}
use Rattle.fa_order.specs.declared.entry.Entry.{Entry}
use Rattle.fa_check.specs.Orders.{IsTreeRequestAt, numbers}
use Rattle.fa_search.specs.Searches.{IsUsedFrom}
use Rattle.fa_search.specs.parts.Going.{OrThis, GoesOn}
use Rattle.fa_search.specs.parts.Configurations.{PlainConfiguration, IsAnsweredTree, IsDoneAt, AreDoneOrIn, HasRest, AreSettling, AreSpent}
use Rattle.fa_search.proofs.GivenLemmas.{knows_reached, knows_next}
use Rattle.fa_search.proofs.GoingLemmas.{goes_on_same, kept_same, kept_next, GoesOnAhead, ahead_goes_on}
use Rattle.fa_search.proofs.PendingLemmas.{next_is_pending, waits_still}

-- one more that is placed is done
pub more_done : (c : List Message) (at asked : ℕ) (placed : List ℕ) (p : ℕ) → OrThis (IsDoneAt c at placed) asked p ↔ (IsAnsweredTree c at p ⊎ OrThis (Contains placed) asked p)
more_done c at asked placed p = (
  (λ done. elim done [ inl before ↦ elim before [ inl answered ↦ inl answered | inr has ↦ inr (inl has) ] | inr here ↦ inr (inr here) ]),
  (λ done. elim done [ inl answered ↦ inl (inl answered) | inr has ↦ elim has [ inl before ↦ inl (inr before) | inr here ↦ inr here ] ]),
)

module _ (c : List Message) (first : TreeState) (at asked : ℕ) (tree : IsTreeRequestAt c asked) (by : IsAnsweredBy c asked at)
    (held work settled : List PlainConfiguration) (settling : AreSettling c first at asked held work settled) (spent : AreSpent c at work work settled)
    (es : List Entry) (last : TreeState) where
  -- what goes on from one in which the request is not placed comes by its first entry to another of the two lists
  goes_on_next : (e : Entry) (rest : List Entry) (to : TreeState) (x : PlainConfiguration) → Contains work x → GoesOn c (IsDoneAt c at x.placed) x.tree to (e ∷ rest)
      → AreDoneOrIn c (IsDoneAt c at x.placed) (e ∷ rest) es → (y : PlainConfiguration) × (Contains work y ⊎ Contains settled y) × GoesOnAhead c at y to es (length rest)
  goes_on_next e rest to x there on kept =
      let next = next_is_pending c at asked x.placed e tree by (settling.waiting x there) on.1 in
      let found = spent x there e on.0 next.0 next.1 on.2 in
      let same = more_done c at e.at x.placed in (
        found.to,
        found.there,
        ahead_goes_on c at (OrThis (Contains x.placed) e.at) on.0 to found.to rest es
            (found.ahead (knows_next c at (Contains x.placed) x.tree on.0 e on.2 (knows_reached c first at x (settling.reached x (inl there)))))
            (goes_on_same c (OrThis (IsDoneAt c at x.placed) e.at) (λ p. IsAnsweredTree c at p ⊎ OrThis (Contains x.placed) e.at p) on.0 to rest same on.3)
            (kept_same c (OrThis (IsDoneAt c at x.placed) e.at) (λ p. IsAnsweredTree c at p ⊎ OrThis (Contains x.placed) e.at p) rest es same
            (kept_next c (IsDoneAt c at x.placed) e rest es kept)),
      )

  -- where the entries hold the request, what goes on from one in which it is not placed comes to one in which it is
  settled_from : Contains (numbers es) asked → (size : ℕ) (rest : List Entry) → length rest ≤ size → (to : TreeState) → AreAlike (IsUsedFrom c at) last to → (x : PlainConfiguration) → Contains work x
      → GoesOn c (IsDoneAt c at x.placed) x.tree to rest → AreDoneOrIn c (IsDoneAt c at x.placed) rest es → HasRest c at settled es last
  settled_from has size [] within to alike x there on kept = absurd (elim (kept asked at by has) [
    | inl done ↦ waits_still c at asked x.placed by (settling.waiting x there) done
    | inr behind ↦ omega (arith, behind.1)
  ])
  settled_from has zero (e ∷ rest) within to alike x there on kept = absurd (omega (arith, within))
  settled_from has (suc size) (e ∷ rest) within to alike x there on kept =
      let next = goes_on_next e rest to x there on kept in
      let further = next.2 in
      let alike_still = alike_on (IsUsedFrom c at) last to further.to alike further.alike in
      elim next.1 [
        | inl waits ↦ settled_from has size further.rest (let less = further.within in omega (arith, less, within)) further.to alike_still next.0 waits further.on further.kept
        | inr done ↦ record { from = next.0; there = done; rest = further.rest; to = further.to; on = further.on; alike = alike_still; kept = further.kept }
      ]

  -- where it is placed in none, to one with the last tree, but for openings of no use
  waiting_from : ((y : PlainConfiguration) → Contains settled y → ⊥) → (size : ℕ) (rest : List Entry) → length rest ≤ size → (to : TreeState) → AreAlike (IsUsedFrom c at) last to
      → (x : PlainConfiguration) → Contains work x → GoesOn c (IsDoneAt c at x.placed) x.tree to rest → AreDoneOrIn c (IsDoneAt c at x.placed) rest es
      → (y : PlainConfiguration) × Contains work y × AreAlike (IsUsedFrom c at) last y.tree
  waiting_from none size [] within to alike x there on kept = (x, there, subst (AreAlike (IsUsedFrom c at) last) on alike)
  waiting_from none zero (e ∷ rest) within to alike x there on kept = absurd (omega (arith, within))
  waiting_from none (suc size) (e ∷ rest) within to alike x there on kept =
      let next = goes_on_next e rest to x there on kept in
      let further = next.2 in
      elim next.1 [
        | inl waits ↦ waiting_from none size further.rest (let less = further.within in omega (arith, less, within)) further.to
            (alike_on (IsUsedFrom c at) last to further.to alike further.alike) next.0 waits further.on further.kept
        | inr done ↦ absurd (none next.0 done)
      ]

  -- so entries that hold the request, and go on from one that was held, go on from one in which it is placed
  pub all_settled : Contains (numbers es) asked → HasRest c at held es last → HasRest c at settled es last
  all_settled has on = elim (settling.begun on.from on.there) [
    | inl waits ↦ settled_from has (length on.rest) on.rest (omega arith) on.to on.alike on.from waits on.on on.kept
    | inr done ↦ record { from = on.from; there = done; rest = on.rest; to = on.to; on = on.on; alike = on.alike; kept = on.kept }
  ]

  -- and where there is none of these, the tree to which they lead is that of one in which it is not placed
  pub all_waiting : ((y : PlainConfiguration) → Contains settled y → ⊥) → HasRest c at held es last → (y : PlainConfiguration) × Contains work y × AreAlike (IsUsedFrom c at) last y.tree
  all_waiting none on = elim (settling.begun on.from on.there) [
    | inl waits ↦ waiting_from none (length on.rest) on.rest (omega arith) on.to on.alike on.from waits on.on on.kept
    | inr done ↦ absurd (none on.from done)
  ]
