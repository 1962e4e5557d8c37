use Rattle.std.proofs.Common.{◌≡◌, map, drop}
use Rattle.std.specs.String.{string_bytes}
use Rattle.dn_parse.specs.Views.{name_view}
use Rattle.dn_scope.specs.Replace.{in_part}
use Rattle.dn_scope.specs.Flaws.{dots_before, text_before}
use Rattle.dn_scope.proofs.values.push_after_dots.Given as goal

abbrev pub invariant-loop-part : goal.invariant-loop-part
invariant-loop-part l = text_before (string_bytes l.fn.out) (dots_before (map (in_part l.scope.numbers) (name_view l.parts))) ≡ text_before (string_bytes l.out) (dots_before (map (in_part l.scope.numbers) (name_view (drop l.part-index l.parts))))
