-- Where the numbers of an order are those that an order text can have, so are those of its cuts.
use Rattle.std.proofs.Common.{ℕ, List, [], ◌∷◌, ◌++◌, Option, sym, subst, inl, inr}
use Rattle.std.specs.Prelude.{All}
use Rattle.std.proofs.lemmas.List.Elements.{All-nil, All-cons, All-head, All-tail}
use Rattle.fa_capture.specs.Message.{Message}
use Rattle.fa_ledger.specs.declared.operation.Outcome.TheVariants.{Succeeds}
use Rattle.fa_ledger.specs.Operations.{PlainOperation}
use Rattle.fa_ledger.specs.Operations.PlainAction.{Write}
use Rattle.fa_ledger.specs.Operations.PlainOperation.{Acts}
use Rattle.fa_ledger.proofs.CallerLemmas.{WroteWithin, reply_comes}
use Rattle.fa_order.specs.declared.entry.Entry.{Entry}
use Rattle.fa_order.specs.Order.{IsCount, IsInRange}
use Rattle.fa_check.specs.Cuts.{wrote_without, Stays, AreLeft, IsCut}

-- what an entry carries without what came of its request
without_outcome : (o : PlainOperation) (wrote : Option ℕ) → WroteWithin o → IsCount wrote → IsCount (wrote_without o wrote)
without_outcome (Acts (Write offset size payload (Succeeds count))) wrote within range = within.1
without_outcome other wrote within range = range

-- the front of an order
front_range : (front behind : List Entry) → All IsInRange (front ++ behind) → All IsInRange front
front_range [] behind range = All-nil IsInRange
front_range (e ∷ front) behind range =
    All-cons IsInRange e front (All-head IsInRange e (front ++ behind) range) (front_range front behind (All-tail IsInRange e (front ++ behind) range))

module _ (c : List Message) (m : ℕ) where
  -- what is left of an entry
  entry_left : (e left : Entry) → IsInRange e → Stays c m e left → IsInRange left
  entry_left e left range stays =
      elim stays.1 [
        | inl same ↦ subst IsInRange (sym same.1) range
        | inr late ↦
            let at = late.1 in
            let within = (reply_comes at.1 at.3.0.bytes at.2 late.0 at.3.3 at.5).within in
            subst IsInRange (sym late.3) (record { at = range.at; wrote = without_outcome late.0 e.wrote within range.wrote })
      ]

  -- what is left of entries
  entries_left : (es left : List Entry) → All IsInRange es → AreLeft c m es left → All IsInRange left
  entries_left [] left range are = subst (All IsInRange) (sym are) (All-nil IsInRange)
  entries_left (e ∷ es) left range are =
      let rest = All-tail IsInRange e es range in
      elim are [
        | inl goes ↦ entries_left es left rest goes.1
        | inr stays ↦
            let first = entry_left e stays.0 (All-head IsInRange e es range) stays.3 in
            subst (All IsInRange) (sym stays.2) (All-cons IsInRange stays.0 stays.1 first (entries_left es stays.1 rest stays.4))
      ]

  pub cut_in_range : (es cut : List Entry) → All IsInRange es → IsCut c m es cut → All IsInRange cut
  cut_in_range es cut range is =
      entries_left is.front cut (front_range is.front is.behind (subst (All IsInRange) is.parts range)) is.left
