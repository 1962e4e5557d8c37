use Rattle.std.proofs.Common.{◌+◌, ◌≤◌, length, IsTrue}
use Rattle.dn_token.specs.Cursor.{cursor_view}
use Rattle.dn_parse.specs.Commands.{commands_from}
use Rattle.dn_parse.specs.Plain.{are_plain}
use Rattle.dn_parse.proofs.Scripts.{AreCommands}
use Rattle.dn_parse.proofs.script.Script.new.Given as goal

abbrev pub invariant-commands : goal.invariant-commands
invariant-commands l = record {
  read : AreCommands l.count (cursor_view l.fn.tokens) (cursor_view l.rest);
  plain : IsTrue l.plain → IsTrue (are_plain (commands_from l.count (cursor_view l.fn.tokens)));
  room : l.count + length (cursor_view l.rest) ≤ length (cursor_view l.fn.tokens);
}

abbrev pub decreases-commands : goal.decreases-commands
decreases-commands l = length (cursor_view l.rest)
