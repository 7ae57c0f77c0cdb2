use Rattle.fa_bodies.proofs.OptionLaws.{if_none}
use Rattle.fa_bodies.proofs.BodyLaws.{no_lookup, no_getattr, no_setattr, no_unlink, no_rmdir, no_open, no_read, no_release, no_flush, no_opendir, no_readdir, no_releasedir, no_readdirplus}
use Rattle.fa_bodies.proofs.bodies.body_of.Goals as goal

pub returns-in_err-whole_name-in-1-clause-none : goal.returns-in_err-whole_name-in-1-clause-none
returns-in_err-whole_name-in-1-clause-none c = if_none c.from_residual.result _ (rw c.in-1.is (no_lookup c.args.body.now (λ name p. c.in_err-whole_name-in-1.ensures.none name p.1)))

pub returns-in_err-whole-in-3-clause-none : goal.returns-in_err-whole-in-3-clause-none
returns-in_err-whole-in-3-clause-none c = if_none c.from_residual-in_err-whole-in-3.result _ (rw c.in-3.is (no_getattr c.args.body.now (λ g p. c.in_err-whole-in-3.ensures.none g p.1)))

pub returns-in_err-whole-in-4-clause-none : goal.returns-in_err-whole-in-4-clause-none
returns-in_err-whole-in-4-clause-none c = if_none c.from_residual-in_err-whole-in-4.result _ (rw c.in-4.is (no_setattr c.args.body.now (λ s p. c.in_err-whole-in-4.ensures.none s p.1)))

pub returns-in_err-whole_name-in-10-clause-none : goal.returns-in_err-whole_name-in-10-clause-none
returns-in_err-whole_name-in-10-clause-none c = if_none c.from_residual-in_err-whole_name-in-10.result _ (rw c.in-10.is (no_unlink c.args.body.now (λ name p. c.in_err-whole_name-in-10.ensures.none name p.1)))

pub returns-in_err-whole_name-in-11-clause-none : goal.returns-in_err-whole_name-in-11-clause-none
returns-in_err-whole_name-in-11-clause-none c = if_none c.from_residual-in_err-whole_name-in-11.result _ (rw c.in-11.is (no_rmdir c.args.body.now (λ name p. c.in_err-whole_name-in-11.ensures.none name p.1)))

pub returns-in_err-whole-in-14-clause-none : goal.returns-in_err-whole-in-14-clause-none
returns-in_err-whole-in-14-clause-none c = if_none c.from_residual-in_err-whole-in-14.result _ (rw c.in-14.is (no_open c.args.body.now (λ o p. c.in_err-whole-in-14.ensures.none o p.1)))

pub returns-in_err-whole-in-15-clause-none : goal.returns-in_err-whole-in-15-clause-none
returns-in_err-whole-in-15-clause-none c = if_none c.from_residual-in_err-whole-in-15.result _ (rw c.in-15.is (no_read c.args.body.now (λ r p. c.in_err-whole-in-15.ensures.none r p.1)))

pub returns-in_err-whole-in-18-clause-none : goal.returns-in_err-whole-in-18-clause-none
returns-in_err-whole-in-18-clause-none c = if_none c.from_residual-in_err-whole-in-18.result _ (rw c.in-18.is (no_release c.args.body.now (λ r p. c.in_err-whole-in-18.ensures.none r p.1)))

pub returns-in_err-whole-in-25-clause-none : goal.returns-in_err-whole-in-25-clause-none
returns-in_err-whole-in-25-clause-none c = if_none c.from_residual-in_err-whole-in-25.result _ (rw c.in-25.is (no_flush c.args.body.now (λ f p. c.in_err-whole-in-25.ensures.none f p.1)))

pub returns-in_err-whole-in-27-clause-none : goal.returns-in_err-whole-in-27-clause-none
returns-in_err-whole-in-27-clause-none c = if_none c.from_residual-in_err-whole-in-27.result _ (rw c.in-27.is (no_opendir c.args.body.now (λ o p. c.in_err-whole-in-27.ensures.none o p.1)))

pub returns-in_err-whole-in-28-clause-none : goal.returns-in_err-whole-in-28-clause-none
returns-in_err-whole-in-28-clause-none c = if_none c.from_residual-in_err-whole-in-28.result _ (rw c.in-28.is (no_readdir c.args.body.now (λ r p. c.in_err-whole-in-28.ensures.none r p.1)))

pub returns-in_err-whole-in-29-clause-none : goal.returns-in_err-whole-in-29-clause-none
returns-in_err-whole-in-29-clause-none c = if_none c.from_residual-in_err-whole-in-29.result _ (rw c.in-29.is (no_releasedir c.args.body.now (λ r p. c.in_err-whole-in-29.ensures.none r p.1)))

pub returns-in_err-whole-in-44-clause-none : goal.returns-in_err-whole-in-44-clause-none
returns-in_err-whole-in-44-clause-none c = if_none c.from_residual-in_err-whole-in-44.result _ (rw c.in-44.is (no_readdirplus c.args.body.now (λ r p. c.in_err-whole-in-44.ensures.none r p.1)))

pub returns-in-26-clause-found : goal.returns-in-26-clause-found
returns-in-26-clause-found c = rw c.in-26.is c.init.ensures.found

pub returns-in-26-clause-none : goal.returns-in-26-clause-none
returns-in-26-clause-none c = rw c.in-26.is c.init.ensures.none
