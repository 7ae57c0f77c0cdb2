-- What a parsed command line says.
use Rattle.std.specs.Prelude.{◌≡◌, ◌≢◌, ◌⊎◌, ℕ, ◌<◌, ◌^◌, List, Option, Some, None, codes, option_and_then}
use Rattle.std.specs.Option.{option_copied}
use Rattle.std.specs.Str.Parse.{IsNumeral, digits_value, without_leading_plus}
use Rattle.clap.specs.Words.{first_of, subcommand_name_of, subcommand_rows_of}
use Rattle.clap.specs.declared.parser.matches.ArgMatches.{ArgMatches}
use Rattle.fa_command_line.specs.declared.call.CheckPaths.{CheckPaths}
use Rattle.fa_command_line.specs.declared.call.ProposePaths.{ProposePaths}
use Rattle.fa_command_line.specs.declared.call.SearchPaths.{SearchPaths}
use Rattle.fa_command_line.specs.declared.call.JudgePaths.{JudgePaths}
use Rattle.fa_command_line.specs.declared.call.CutPaths.{CutPaths}
use Rattle.fa_command_line.specs.declared.call.FrontPaths.{FrontPaths}
use Rattle.fa_command_line.specs.declared.call.MigratePaths.{MigratePaths}
use Rattle.fa_command_line.specs.declared.call.WatchPaths.{WatchPaths}
use Rattle.fa_command_line.specs.declared.call.ShowPaths.{ShowPaths}
use Rattle.fa_command_line.specs.declared.call.ExplainPaths.{ExplainPaths}
use Rattle.fa_command_line.specs.declared.call.PagePaths.{PagePaths}
use Rattle.fa_command_line.specs.declared.call.ReportPaths.{ReportPaths}
use Rattle.fa_command_line.specs.declared.call.Topic.{Topic}
use Rattle.fa_command_line.specs.declared.call.Call.{Call}
use Rattle.fa_command_line.specs.declared.call.Call.TheVariants.{Check, Propose, Search, Judge, Cut, Front, Migrate, Watch, Show, Explain, Picture, Report, Help}

-- the value of an option of the command that the words call
abbrev pub value_of : ArgMatches → List ℕ → Option (List ℕ)
value_of matches option = option_and_then (λ command. first_of option command.1) (subcommand_rows_of matches)

-- the words call `check` with these files
pub record IsCheckOf (matches : ArgMatches) (paths : CheckPaths) : Type 0 where
  pub command : subcommand_name_of matches ≡ Some (codes "check")
  pub capture_is : value_of matches (codes "capture") ≡ Some paths.capture.now
  pub tree_is : value_of matches (codes "tree") ≡ option_copied paths.tree
  pub order_is : value_of matches (codes "order") ≡ Some paths.order.now

-- the words call `propose` with these files
pub record IsProposeOf (matches : ArgMatches) (paths : ProposePaths) : Type 0 where
  pub command : subcommand_name_of matches ≡ Some (codes "propose")
  pub capture_is : value_of matches (codes "capture") ≡ Some paths.capture.now
  pub tree_is : value_of matches (codes "tree") ≡ option_copied paths.tree

-- the text is this number of at most so many bits, in decimal digits, with a plus before them or none
abbrev pub IsNumberText : (bits : ℕ) → List ℕ → ℕ → Type 0
IsNumberText bits text number = IsNumeral 10 (without_leading_plus text) × (digits_value 10 (without_leading_plus text) ≡ number) × (number < 2 ^ bits)

-- it is, where there is a text; else there is no number
abbrev pub IsNumberIfAny : (bits : ℕ) → (text : Option (List ℕ)) → (number : Option ℕ) → Type 0
IsNumberIfAny bits None number = number ≡ None
IsNumberIfAny bits (Some text) number = (found : ℕ) × (number ≡ Some found) × IsNumberText bits text found

-- there is a text, and it is no such number
abbrev pub IsNoNumber : (bits : ℕ) → (text : Option (List ℕ)) → Type 0
IsNoNumber bits text = (there : List ℕ) × (text ≡ Some there) × ((number : ℕ) → IsNumberText bits there number → ⊥)

-- the words call this one of `search` and `judge` with these files and so many steps
pub record IsSearchCallOf (name : List ℕ) (matches : ArgMatches) (paths : SearchPaths) : Type 0 where
  pub command : subcommand_name_of matches ≡ Some name
  pub capture_is : value_of matches (codes "capture") ≡ Some paths.capture.now
  pub tree_is : value_of matches (codes "tree") ≡ option_copied paths.tree
  pub steps_are : IsNumberIfAny 64 (value_of matches (codes "steps")) paths.steps

-- the words call `judge` with these files and so many steps; whether it is to say why is not said here
pub record IsJudgeOf (matches : ArgMatches) (call : JudgePaths) : Type 0 where
  pub search_is : IsSearchCallOf (codes "judge") matches call.paths
  pub order_out_is : value_of matches (codes "order-out") ≡ option_copied call.order_out

-- the option of the command that the words call has this number
abbrev pub IsNumberOf : ArgMatches → (option : List ℕ) → ℕ → Type 0
IsNumberOf matches option number = (text : List ℕ) × (value_of matches option ≡ Some text) × IsNumberText 32 text number

-- the words call `cut` with these files and this message
pub record IsCutOf (matches : ArgMatches) (paths : CutPaths) : Type 0 where
  pub command : subcommand_name_of matches ≡ Some (codes "cut")
  pub capture_is : value_of matches (codes "capture") ≡ Some paths.capture.now
  pub order_is : value_of matches (codes "order") ≡ Some paths.order.now
  pub at_is : IsNumberOf matches (codes "at") paths.at

-- the words call `front` with this file and this message
pub record IsFrontCallOf (matches : ArgMatches) (paths : FrontPaths) : Type 0 where
  pub command : subcommand_name_of matches ≡ Some (codes "front")
  pub capture_is : value_of matches (codes "capture") ≡ Some paths.capture.now
  pub at_is : IsNumberOf matches (codes "at") paths.at

-- the words call `migrate` with this file
pub record IsMigrateCallOf (matches : ArgMatches) (paths : MigratePaths) : Type 0 where
  pub command : subcommand_name_of matches ≡ Some (codes "migrate")
  pub capture_is : value_of matches (codes "capture") ≡ Some paths.capture.now

-- the words call `watch` with this file
pub record IsWatchOf (matches : ArgMatches) (paths : WatchPaths) : Type 0 where
  pub command : subcommand_name_of matches ≡ Some (codes "watch")
  pub capture_is : value_of matches (codes "capture") ≡ Some paths.capture.now

-- the words call `show` with this file and this choice
pub record IsShowOf (matches : ArgMatches) (paths : ShowPaths) : Type 0 where
  pub command : subcommand_name_of matches ≡ Some (codes "show")
  pub capture_is : value_of matches (codes "capture") ≡ Some paths.capture.now
  pub from_is : IsNumberIfAny 32 (value_of matches (codes "from")) paths.choice.from
  pub to_is : IsNumberIfAny 32 (value_of matches (codes "to")) paths.choice.to
  pub node_is : IsNumberIfAny 64 (value_of matches (codes "node")) paths.choice.node
  pub name_is : value_of matches (codes "name") ≡ option_copied paths.choice.name
  pub operation_is : value_of matches (codes "operation") ≡ option_copied paths.choice.operation

-- the words call `explain` with these files
pub record IsExplainOf (matches : ArgMatches) (paths : ExplainPaths) : Type 0 where
  pub command : subcommand_name_of matches ≡ Some (codes "explain")
  pub capture_is : value_of matches (codes "capture") ≡ Some paths.capture.now
  pub tree_is : value_of matches (codes "tree") ≡ option_copied paths.tree
  pub order_is : value_of matches (codes "order") ≡ option_copied paths.order

-- the words call this one of `picture` and `report` with these files and messages
pub record IsPageCallOf (name : List ℕ) (matches : ArgMatches) (paths : PagePaths) : Type 0 where
  pub command : subcommand_name_of matches ≡ Some name
  pub capture_is : value_of matches (codes "capture") ≡ Some paths.capture.now
  pub tree_is : value_of matches (codes "tree") ≡ option_copied paths.tree
  pub order_is : value_of matches (codes "order") ≡ option_copied paths.order
  pub around_is : IsNumberIfAny 32 (value_of matches (codes "around")) paths.around
  pub messages_are : IsNumberIfAny 32 (value_of matches (codes "messages")) paths.messages

-- the words call `report` with these files and messages and so many steps
pub record IsReportOf (matches : ArgMatches) (paths : ReportPaths) : Type 0 where
  pub page_is : IsPageCallOf (codes "report") matches paths.page
  pub steps_are : IsNumberIfAny 64 (value_of matches (codes "steps")) paths.steps

-- the words call `help` with this word, or none
pub record IsHelpOf (matches : ArgMatches) (topic : Topic) : Type 0 where
  pub command : subcommand_name_of matches ≡ Some (codes "help")
  pub word_is : value_of matches (codes "topic") ≡ option_copied topic.word

-- the words are this call
abbrev pub IsCallOf : ArgMatches → Call → Type 0
IsCallOf matches (Check paths) = IsCheckOf matches paths
IsCallOf matches (Propose paths) = IsProposeOf matches paths
IsCallOf matches (Search paths) = IsSearchCallOf (codes "search") matches paths
IsCallOf matches (Judge paths) = IsJudgeOf matches paths
IsCallOf matches (Cut paths) = IsCutOf matches paths
IsCallOf matches (Front paths) = IsFrontCallOf matches paths
IsCallOf matches (Migrate paths) = IsMigrateCallOf matches paths
IsCallOf matches (Watch paths) = IsWatchOf matches paths
IsCallOf matches (Show paths) = IsShowOf matches paths
IsCallOf matches (Explain paths) = IsExplainOf matches paths
IsCallOf matches (Picture paths) = IsPageCallOf (codes "picture") matches paths
IsCallOf matches (Report paths) = IsReportOf matches paths
IsCallOf matches (Help topic) = IsHelpOf matches topic

-- the words do not call `check` with all that it needs
abbrev pub IsNoCheck : ArgMatches → Type 0
IsNoCheck matches =
    (subcommand_name_of matches ≢ Some (codes "check")) ⊎ (value_of matches (codes "capture") ≡ None) ⊎ (value_of matches (codes "order") ≡ None)

-- the words do not call `propose` with all that it needs
abbrev pub IsNoPropose : ArgMatches → Type 0
IsNoPropose matches = (subcommand_name_of matches ≢ Some (codes "propose")) ⊎ (value_of matches (codes "capture") ≡ None)

-- the words do not call this one of `search` and `judge` with all that it needs, or what they give for its steps is no number
abbrev pub IsNoSearchCall : (name : List ℕ) → ArgMatches → Type 0
IsNoSearchCall name matches =
    (subcommand_name_of matches ≢ Some name) ⊎ (value_of matches (codes "capture") ≡ None) ⊎ IsNoNumber 64 (value_of matches (codes "steps"))

-- the words do not call `cut` with all that it needs
abbrev pub IsNoCutCall : ArgMatches → Type 0
IsNoCutCall matches =
    (subcommand_name_of matches ≢ Some (codes "cut")) ⊎ (value_of matches (codes "capture") ≡ None) ⊎ (value_of matches (codes "order") ≡ None)
    ⊎ ((number : ℕ) → IsNumberOf matches (codes "at") number → ⊥)

-- the words do not call `front` with all that it needs
abbrev pub IsNoFrontCall : ArgMatches → Type 0
IsNoFrontCall matches =
    (subcommand_name_of matches ≢ Some (codes "front")) ⊎ (value_of matches (codes "capture") ≡ None)
    ⊎ ((number : ℕ) → IsNumberOf matches (codes "at") number → ⊥)

-- the words do not call `migrate` with all that it needs
abbrev pub IsNoMigrateCall : ArgMatches → Type 0
IsNoMigrateCall matches = (subcommand_name_of matches ≢ Some (codes "migrate")) ⊎ (value_of matches (codes "capture") ≡ None)

-- the words do not call `watch` with all that it needs
abbrev pub IsNoWatch : ArgMatches → Type 0
IsNoWatch matches = (subcommand_name_of matches ≢ Some (codes "watch")) ⊎ (value_of matches (codes "capture") ≡ None)

-- the words do not call `show` with all that it needs, or what they give for a number is none
abbrev pub IsNoShow : ArgMatches → Type 0
IsNoShow matches =
    (subcommand_name_of matches ≢ Some (codes "show")) ⊎ (value_of matches (codes "capture") ≡ None)
    ⊎ IsNoNumber 32 (value_of matches (codes "from")) ⊎ IsNoNumber 32 (value_of matches (codes "to")) ⊎ IsNoNumber 64 (value_of matches (codes "node"))

-- the words do not call `explain` with all that it needs
abbrev pub IsNoExplain : ArgMatches → Type 0
IsNoExplain matches = (subcommand_name_of matches ≢ Some (codes "explain")) ⊎ (value_of matches (codes "capture") ≡ None)

-- the words do not call this one of `picture` and `report` with all that it needs, or what they give for a number is none
abbrev pub IsNoPageCall : (name : List ℕ) → ArgMatches → Type 0
IsNoPageCall name matches =
    (subcommand_name_of matches ≢ Some name) ⊎ (value_of matches (codes "capture") ≡ None)
    ⊎ IsNoNumber 32 (value_of matches (codes "around")) ⊎ IsNoNumber 32 (value_of matches (codes "messages"))

-- the words do not call `report` with all that it needs, or what they give for a number is none
abbrev pub IsNoReport : ArgMatches → Type 0
IsNoReport matches = IsNoPageCall (codes "report") matches ⊎ IsNoNumber 64 (value_of matches (codes "steps"))

-- the words do not call `help`
abbrev pub IsNoHelp : ArgMatches → Type 0
IsNoHelp matches = subcommand_name_of matches ≢ Some (codes "help")
