-- From what the matches of a command give to what the whole command line says.
use Rattle.std.proofs.Common.{◌≡◌, ℕ, ◌<◌, ◌^◌, List, Option, None, Some, option_map, option_and_then, Result, Ok, Err, IfSome, IsNone, sym, ap, subst, ◌∙◌}
use Rattle.std.proofs.lemmas.Option.{same_Some}
use Rattle.std.specs.Result.{result_ok}
use Rattle.std.specs.Str.Parse.{ParsesUnsigned}
use Rattle.clap.specs.Words.{Row, Text, first_of, first_value, found_of, rows_of, subcommand_rows_of}
use Rattle.clap.specs.declared.parser.matches.ArgMatches.{ArgMatches}
use Rattle.clap.proofs.WalkLemmas.{first_value-rows}
use Rattle.fa_command_line.specs.CommandLine.{value_of, IsNumberText, IsNumberOf, IsNumberIfAny, IsNoNumber}

-- the rows of the command that the words call are those of its matches
first_of-rows : (option : Text) (command : Option (Text × List Row)) (rows : List Row)
    → Some rows ≡ option_map (λ c. c.1) command → option_and_then (λ c. first_of option c.1) command ≡ first_of option rows
first_of-rows option None rows e = cc
first_of-rows option (Some c) rows e = let same : rows ≡ c.1 = cc in ap (first_of option) (sym same)

-- what the matches of the command give for an option is what the command line says
pub value_of-given : (matches options : ArgMatches) (option : Text) (value : Option Text)
    → Some (rows_of (found_of options)) ≡ option_map (λ c. c.1) (subcommand_rows_of matches)
    → value ≡ first_value (found_of options) option → value_of matches option ≡ value
value_of-given matches options option value rows given =
    first_of-rows option (subcommand_rows_of matches) (rows_of (found_of options)) rows
    ∙ sym (first_value-rows (found_of options) option) ∙ sym given

-- a text that is read is that number
pub number_found : {E : Type 0} (bits : ℕ) (text : List ℕ) (r : Result ℕ E) → ParsesUnsigned bits 10 text r → IfSome (result_ok r) (IsNumberText bits text)
number_found bits text (Ok n) p = (p.0.0, sym p.1, subst (λ (k : ℕ). k < 2 ^ bits) (sym p.1) p.0.1)
number_found bits text (Err e) p = tt

-- and one that is not is none
pub number_none : {E : Type 0} (bits : ℕ) (text : List ℕ) (r : Result ℕ E) → ParsesUnsigned bits 10 text r → IsNone (result_ok r) → (number : ℕ) → IsNumberText bits text number → ⊥
number_none bits text (Ok n) p none number is = absurd cc
number_none bits text (Err e) p none number is = p (is.0, subst (λ (k : ℕ). k < 2 ^ bits) (sym is.1) is.2)

-- an option that is not given has no number, and one whose text is none has none
pub none_given : (matches : ArgMatches) (option : Text) (number : ℕ) → value_of matches option ≡ None → IsNumberOf matches option number → ⊥
none_given matches option number none is = (let clash : None ≡ Some is.0 = sym none ∙ is.1 in absurd cc)

pub none_read : (matches : ArgMatches) (option text : Text) (number : ℕ) → value_of matches option ≡ Some text → ((n : ℕ) → IsNumberText 32 text n → ⊥)
    → IsNumberOf matches option number → ⊥
none_read matches option text number given none is =
    let same : is.0 ≡ text = same_Some is.0 text (sym is.1 ∙ given) in
    none number (subst (λ (t : Text). IsNumberText 32 t number) same is.2)

-- the same of an option, by what the matches of the command give for it
pub number_of_value : (bits : ℕ) (value text : Option (List ℕ)) (number : Option ℕ) → value ≡ text → IsNumberIfAny bits text number → IsNumberIfAny bits value number
number_of_value bits value text number same is = subst (λ (t : Option (List ℕ)). IsNumberIfAny bits t number) (sym same) is

pub no_number_of_value : (bits : ℕ) (value text : Option (List ℕ)) → value ≡ text → IsNoNumber bits text → IsNoNumber bits value
no_number_of_value bits value text same is = subst (IsNoNumber bits) (sym same) is
