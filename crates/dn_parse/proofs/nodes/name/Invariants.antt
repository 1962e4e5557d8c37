use Rattle.std.proofs.Common.{◌<◌, length, map}
use Rattle.dn_token.specs.Cursor.{cursor_view}
use Rattle.dn_parse.specs.Views.{part_view}
use Rattle.dn_parse.specs.Descent.{next_part_at, name_at}
use Rattle.dn_parse.proofs.Series.{Found}
use Rattle.dn_parse.proofs.nodes.name.Given as goal

abbrev pub invariant-parts : goal.invariant-parts
invariant-parts l = record {
  shorter : length (cursor_view l.tokens) < length (cursor_view l.fn.tokens);
  before : Found (next_part_at l.fn.depth) (name_at l.fn.depth (cursor_view l.fn.tokens)) (map part_view l.parts) (cursor_view l.tokens);
}

abbrev pub decreases-parts : goal.decreases-parts
decreases-parts l = length (cursor_view l.tokens)
