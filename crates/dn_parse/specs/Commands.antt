-- The commands that stand one behind the other at the front of a list of tokens, each read from the tokens.
use Rattle.std.specs.Prelude.{ℕ, zero, suc, List, [], ◌∷◌, ◌++◌, Option, None, Some, Ok, Err}
use Rattle.dn_token.specs.Token.{Token}
use Rattle.dn_parse.specs.Tree.{Statement, orders, Command}
use Rattle.dn_parse.specs.Whole.{first_line, Blocks}
use Rattle.dn_parse.specs.Descent.{Next, ◌>>=◌, whole_statement_at}

-- a command that begins in this line and the tokens behind it, where the statement is one
abbrev pub command_of_statement : ℕ → List Token → Statement → Option (Command × List Token)
command_of_statement line rest (orders o) = Some (record { line = line; order = o }, rest)
command_of_statement line rest _ = None

-- the command that begins in this line, with its `;`; or none, where the statement there is no command
unfoldable pub command_at : ℕ → List Token → Next Command
command_at line ts = whole_statement_at ts >>= λ s. Ok (command_of_statement line s.1 s.0)

-- the command that was read, where one was
abbrev pub command_read : Next Command → Option (Command × List Token)
command_read (Ok c) = c
command_read (Err s) = None

-- the command at the front of these tokens, of which the first has this line
abbrev pub next_in : Option ℕ → List Token → Option (Command × List Token)
next_in None ts = None
next_in (Some line) ts = command_read (command_at line ts)

-- the command at the front of these tokens and the tokens behind it, where a command stands there
unfoldable pub next_command : List Token → Option (Command × List Token)
next_command ts = next_in (first_line ts) ts

-- a command and those behind it, of which there is none where no command stands
abbrev pub with_more : Option (Command × List Token) → (List Token → List Command) → List Command
with_more None more = []
with_more (Some c) more = c.0 ∷ more c.1

-- the first so many commands, or those before a statement that is no command
unfoldable pub commands_from : ℕ → List Token → List Command
commands_from zero ts = []
commands_from (suc n) ts = with_more (next_command ts) (commands_from n)

-- the blocks with these commands more
abbrev pub with_commands : Blocks → List Command → Blocks
with_commands b cs = record { frames = b.frames; body = b.body; begun = b.begun; commands = b.commands ++ cs }
