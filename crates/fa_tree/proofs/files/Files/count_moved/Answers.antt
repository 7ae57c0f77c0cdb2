use Rattle.std.proofs.Common.{subst, sym, ◌∙◌}
use Rattle.std.specs.FinMap as map
use Rattle.fa_tree.specs.parts.CountParts.{counts_of, IsKnown, AreCounted}
use Rattle.fa_tree.proofs.CountLemmas.{known_links, moved_names, removed_other, some_links, without, without_few, without_none}
use Rattle.fa_tree.proofs.files.Files.count_moved.Goals as goal
use Rattle.fa_tree.proofs.files.Files.count_moved.Goals.{in-Some, in_default}

pub count_removed-requires : goal.count_removed-requires
count_removed-requires c =
    let at = c.requires.counted.0 in
    record { names = at.names; name = at.old_name; at = at.there; counted = at.counted }

pub count_removed-requires-in-Some : goal.count_removed-requires-in-Some
count_removed-requires-in-Some c =
    let at = c.requires.counted.0 in
    let stays = removed_other at.names (c.args.old_directory, at.old_name) (c.args.new_directory, at.new_name) c.args.file at.there (λ same. at.apart (sym at.at ∙ same)) ∙ at.at in
    record {
      names = map.remove at.names (c.args.old_directory, at.old_name);
      name = at.new_name;
      at = stays ∙ c.in-Some.is;
      counted = c.count_removed.ensures.counted at.names at.old_name at.there at.counted;
    }

pub count_added-requires-clause-file : goal.count_added-requires-clause-file
count_added-requires-clause-file c =
    let at = c.requires.counted.0 in
    let old = c.args.self.now.by_id.entries in
    let known : IsKnown c.count_removed.new.self.by_id.entries c.args.file =
    c.count_removed.ensures.kept c.args.file (known_links old c.args.file (some_links at.names (counts_of old) at.counted (c.args.old_directory, at.old_name) c.args.file at.there)) in
    elim c.match-taken.branch [ in-Some w ↦ rw (w.self-is) (w.count_removed-in-Some.ensures.kept c.args.file known) | in_default w ↦ rw (w.self-is) known ]

pub count_added-requires-clause-counted : goal.count_added-requires-clause-counted
count_added-requires-clause-counted c =
    let at = c.requires.counted.0 in
    let stays = removed_other at.names (c.args.old_directory, at.old_name) (c.args.new_directory, at.new_name) c.args.file at.there (λ same. at.apart (sym at.at ∙ same)) ∙ at.at in
    let between = c.count_removed.ensures.counted at.names at.old_name at.there at.counted in (
      record {
        names = without (map.remove at.names (c.args.old_directory, at.old_name)) (c.args.new_directory, at.new_name) c.args.taken;
        name = at.new_name;
        at = without_none (map.remove at.names (c.args.old_directory, at.old_name)) (c.args.new_directory, at.new_name) c.args.taken stays;
        counted = (elim c.match-taken.branch [
          | in-Some w ↦ rw (w.self-is)
              (subst (λ t. AreCounted (without (map.remove at.names (c.args.old_directory, at.old_name)) (c.args.new_directory, at.new_name) t) (counts_of w.count_removed-in-Some.new.self.by_id.entries)) (sym w.in-Some.is)
              (w.count_removed-in-Some.ensures.counted (map.remove at.names (c.args.old_directory, at.old_name)) at.new_name (stays ∙ w.in-Some.is) between))
          | in_default w ↦ rw (w.self-is)
              (subst (λ t. AreCounted (without (map.remove at.names (c.args.old_directory, at.old_name)) (c.args.new_directory, at.new_name) t) (counts_of c.count_removed.new.self.by_id.entries)) (sym w.in_default.is) between)
        ]);
      },
      without_few at.names (c.args.old_directory, at.old_name) (c.args.new_directory, at.new_name) c.args.taken c.requires.counted.1,
    )

pub returns-clause-counted : goal.returns-clause-counted
returns-clause-counted c = λ names old_name new_name there at apart counted.
    let stays = removed_other names (c.args.old_directory, old_name) (c.args.new_directory, new_name) c.args.file there (λ same. apart (sym at ∙ same)) ∙ at in
    let between = c.count_removed.ensures.counted names old_name there counted in
    subst (λ after. AreCounted after (counts_of c.count_added.new.self.by_id.entries)) (moved_names names c.args.old_directory old_name c.args.new_directory new_name c.args.file c.args.taken apart)
    (c.count_added.ensures.counted (without (map.remove names (c.args.old_directory, old_name)) (c.args.new_directory, new_name) c.args.taken) new_name
    (without_none (map.remove names (c.args.old_directory, old_name)) (c.args.new_directory, new_name) c.args.taken stays)
    (elim c.match-taken.branch [
      | in-Some w ↦ rw (w.self-is)
          (subst (λ t. AreCounted (without (map.remove names (c.args.old_directory, old_name)) (c.args.new_directory, new_name) t) (counts_of w.count_removed-in-Some.new.self.by_id.entries)) (sym w.in-Some.is)
          (w.count_removed-in-Some.ensures.counted (map.remove names (c.args.old_directory, old_name)) new_name (stays ∙ w.in-Some.is) between))
      | in_default w ↦ rw (w.self-is)
          (subst (λ t. AreCounted (without (map.remove names (c.args.old_directory, old_name)) (c.args.new_directory, new_name) t) (counts_of c.count_removed.new.self.by_id.entries)) (sym w.in_default.is) between)
    ]))
