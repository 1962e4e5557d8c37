-- What contracts see of a script: the list of its commands.
use Rattle.std.specs.Prelude.{List}
use Rattle.dn_token.specs.Cursor.{cursor_view}
use Rattle.dn_parse.specs.declared.script.Script.{Script}
use Rattle.dn_parse.specs.Tree.{Command}
use Rattle.dn_parse.specs.Commands.{commands_from}

-- the commands that are still to come
unfoldable pub script_view : Script → List Command
script_view s = commands_from s.count (cursor_view s.first)
