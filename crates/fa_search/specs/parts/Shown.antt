-- Configurations are stored as what is placed, the tree and the entries.
use Rattle.std.specs.Prelude.{ℕ, List, Option, refl}
use Rattle.std.specs.Coded.{Coded, code_by, coded×, coded_ℕ, coded_list, coded_option}
use Rattle.fa_tree.specs.State.{TreeState}
use Rattle.fa_tree.specs.parts.StateCodes.{tree_code}
use Rattle.fa_order.specs.declared.entry.Entry.{Entry}
use Rattle.fa_search.specs.parts.Configurations.{PlainConfiguration}

abbrev pub entry_code : Coded Entry
entry_code = code_by (ℕ × Option ℕ) (coded× coded_ℕ (coded_option coded_ℕ)) (λ e. (e.at, e.wrote)) (λ p. record { at = p.0; wrote = p.1 }) (λ _. refl)

abbrev pub configuration_code : Coded PlainConfiguration
configuration_code =
    code_by (List ℕ × (TreeState × List Entry)) (coded× (coded_list coded_ℕ) (coded× tree_code (coded_list entry_code)))
    (λ x. (x.placed, (x.tree, x.entries))) (λ p. record { placed = p.0; tree = p.1.0; entries = p.1.1 }) (λ _. refl)
