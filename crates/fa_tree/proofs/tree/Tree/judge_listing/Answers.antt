use Rattle.std.proofs.Common.{rules, ◌≡◌, ℤ, refl, ap, sym, subst, ◌∙◌}
use Rattle.std.specs.Int.{w32}
use Rattle.std.proofs.lemmas.Int.{to_z-of_z}
use mir.Val.{SFits}
use Rattle.fa_capture.specs.declared.codes.TheConstants.{SUCCESS_NOT_ALLOWED, ERROR_WITHOUT_CAUSE}
use Rattle.fa_bodies.specs.Listing.{entries_left}
use Rattle.fa_ledger.specs.declared.operation.Outcome.TheVariants.{Fails, Succeeds, Unanswered}
use Rattle.fa_ledger.specs.Calls.{call_shown}
use Rattle.fa_ledger.specs.Operations.{list_shown, with_success}
use Rattle.fa_ledger.specs.SoFar.{entries_listed, entries_answered, listing_so_far}
use Rattle.fa_ledger.proofs.CallerLemmas.{err_also}
use Rattle.fa_tree.specs.Opening.{directory_rule}
use Rattle.fa_tree.specs.Rules.{HasCause}
use Rattle.fa_tree.specs.parts.NamedParts.{directory_shown}
use Rattle.fa_tree.proofs.JudgeLemmas.{untrue}
use Rattle.fa_tree.proofs.ListingStepLemmas.{each_ok, tells, such_also, entries_hold, entries_fail, entries_grow, error_holds, error_fails, error_gives, unanswered_holds, unanswered_fails, unanswered_gives}
use Rattle.fa_tree.proofs.tree.Tree.judge_listing.Goals as goal

pub judge_entries-requires : goal.judge_entries-requires
judge_entries-requires c =
    let is : (list_shown c.args.list.now).outcome ≡ Succeeds (entries_left c.in-Succeeds.entries) = ap (with_success entries_left) c.in-Succeeds.is in (
      call_shown c.args.call.now,
      c.requires.there,
      ap entries_answered c.requires.asks ∙ ap entries_listed is,
    )

pub returns-in-Fails : goal.returns-in-Fails
returns-in-Fails c =
    let x = directory_shown c.args.at.now in
    let call = call_shown c.args.call.now in
    let l = list_shown c.args.list.now in
    let so_far = listing_so_far c.args.replay.now.list c.args.k in
    let fits : SFits w32 c.in-Fails.error = search rules in
    let same = to_z-of_z w32 c.in-Fails.error fits in
    let is : l.outcome ≡ Fails c.in-Fails.error = ap (with_success entries_left) c.in-Fails.is in
    let Caused : ℤ → Type 0 = λ e. HasCause (directory_rule c.args.self.now.store x.node) e in
    record {
      ok = each_ok c.nothing_given.result _ _ (λ nodes told. (
        error_holds c.args.self.now.nodes c.args.self.now.store x call so_far l.size l.outcome c.in-Fails.error is (subst Caused same (c.may_refuse.ensures.0 told.0)),
        told.1 ∙ sym (error_gives c.args.self.now.nodes c.args.self.now.store x call so_far l.size l.outcome c.in-Fails.error is),
      )) c.nothing_given.ensures.ok;
      refused = err_also c.nothing_given.result _ _ (λ e refused.
          tells e ERROR_WITHOUT_CAUSE _ _ refused.0
          (error_fails c.args.self.now.nodes c.args.self.now.store x call so_far l.size l.outcome c.in-Fails.error is (λ caused. untrue c.may_refuse.result refused.1 (c.may_refuse.ensures.1 (subst Caused (sym same) caused)))))
          c.nothing_given.ensures.refused;
      same = refl;
    }

pub returns-in-Succeeds : goal.returns-in-Succeeds
returns-in-Succeeds c =
    let x = directory_shown c.args.at.now in
    let call = call_shown c.args.call.now in
    let l = list_shown c.args.list.now in
    let so_far = listing_so_far c.args.replay.now.list c.args.k in
    let entries = entries_left c.in-Succeeds.entries in
    let is : l.outcome ≡ Succeeds entries = ap (with_success entries_left) c.in-Succeeds.is in
    record {
      ok = each_ok c.judge_entries.result _ _ (λ nodes told. (
        entries_hold c.args.self.now.nodes c.args.self.now.store x call so_far l.size l.outcome entries is told.0,
        rw (is) told.1,
      )) c.judge_entries.ensures.ok;
      refused = err_also c.judge_entries.result _ _ (λ e refused.
          such_also e _ _ _ _ (λ code failure. entries_fail c.args.self.now.nodes c.args.self.now.store x call so_far l.size l.outcome entries is code failure)
          (λ may. entries_grow c.args.self.now.nodes c.args.self.now.store x call so_far l.size l.outcome entries is) refused) c.judge_entries.ensures.refused;
      same = c.judge_entries.ensures.same;
    }

pub returns-in-Unanswered : goal.returns-in-Unanswered
returns-in-Unanswered c =
    let x = directory_shown c.args.at.now in
    let call = call_shown c.args.call.now in
    let l = list_shown c.args.list.now in
    let so_far = listing_so_far c.args.replay.now.list c.args.k in
    let is : l.outcome ≡ Unanswered = ap (with_success entries_left) c.in-Unanswered.is in
    record {
      ok = each_ok c.nothing_given-in-Unanswered.result _ _ (λ nodes told. (
        unanswered_holds c.args.self.now.nodes c.args.self.now.store x call so_far l.size l.outcome is (c.may_list.ensures.0 told.0),
        told.1 ∙ sym (unanswered_gives c.args.self.now.nodes c.args.self.now.store x call so_far l.size l.outcome is),
      )) c.nothing_given-in-Unanswered.ensures.ok;
      refused = err_also c.nothing_given-in-Unanswered.result _ _ (λ e refused.
          tells e SUCCESS_NOT_ALLOWED _ _ refused.0
          (unanswered_fails c.args.self.now.nodes c.args.self.now.store x call so_far l.size l.outcome is (λ may. untrue c.may_list.result refused.1 (c.may_list.ensures.1 may))))
          c.nothing_given-in-Unanswered.ensures.refused;
      same = refl;
    }
