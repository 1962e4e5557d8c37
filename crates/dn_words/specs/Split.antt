-- The command line of one required word and one optional word, and what words are split into.
use Rattle.std.specs.Prelude.{ℕ, true, List, [], ◌∷◌, Option, Some, None, codes, option_map}
use Rattle.clap.specs.Words.{App, Rule, first_value, new_app, new_rule, with_rule}
use Rattle.clap.specs.declared.parser.matches.Found.{Found}
use Rattle.dn_words.specs.declared.split.CommandWords.{CommandWords}

-- the required word
abbrev pub command_rule : Rule
command_rule = record (new_rule (codes "COMMAND")) { required = true }

-- the optional one
abbrev pub number_rule : Rule
number_rule = new_rule (codes "N")

-- a program with no flag
abbrev pub bare_program : App
bare_program =
    let a = new_app (codes "netconf") in
    record a { top = record a.top { no_binary_name = true; disable_help_flag = true } }

-- the program with its two words
abbrev pub program : App
program = with_rule (with_rule bare_program command_rule) number_rule

-- a word, and another one behind it, where there is one
abbrev pub Split : Type 0
Split = List ℕ × Option (List ℕ)

-- the bytes of the parts
abbrev pub split_view : CommandWords → Split
split_view p = (p.command.now, option_map (λ s. s.now) p.number)

-- one word, or two
abbrev pub words_apart : List (List ℕ) → Option Split
words_apart (command ∷ []) = Some (command, None)
words_apart (command ∷ number ∷ []) = Some (command, Some number)
words_apart _ = None

-- what was found for the two arguments
abbrev pub parts_found : Found → Option Split
parts_found f = option_map (λ command. (command, first_value f (codes "N"))) (first_value f (codes "COMMAND"))
