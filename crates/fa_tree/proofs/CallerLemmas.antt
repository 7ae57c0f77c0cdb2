-- The lemmas for the crates above.

-- a step of a whole, and of a part of it
pub use Rattle.fa_tree.proofs.PartLemmas.{IsPartOf, OpensNone, UsesKept, whole_part, step_same, step_failed, step_read, step_lost}
-- trees that are alike step alike
pub use Rattle.fa_tree.proofs.AlikeLemmas.{alike_self, alike_back, alike_on, alike_fewer, fails_alike, step_alike}
-- steps that leave the tree as it is
pub use Rattle.fa_tree.proofs.UnchangedLemmas.{step_failed_stays, step_read_stays}
-- a call as it is shown
pub use Rattle.fa_tree.proofs.StepLemmas.{shown_at}
-- names of nodes are in a total order and told apart
pub use Rattle.fa_tree.proofs.NodeLemmas.{node_total, node_same}
-- places are in a total order and told apart, and what is put at one is found
pub use Rattle.fa_tree.specs.parts.PlaceLaws.{place_cmp_total, same_place}
pub use Rattle.fa_tree.proofs.EditedLemmas.{insert_there}
-- what a tree knows, and the code that is told where it does not know what a call names
pub use Rattle.fa_tree.proofs.KnownLemmas.{IsKnownIn, IsOpenedIn, UsesOpened, step_keeps_node, step_keeps_open, step_gives, step_opens, all_known, unknown_fails, told_unknown}
-- a step makes no file but that of its request, and trees that are put together have none that a request made
pub use Rattle.fa_tree.proofs.MadeLemmas.{step_makes_own, empty_made_none, added_made_none}
-- a step where all checks hold
pub use Rattle.fa_tree.proofs.LawLemmas.{steps_where_all_hold, step_is_one}
-- the rule of an operation is that of its request
pub use Rattle.fa_tree.proofs.ChangeLemmas.{lost_rule, same_rule}
