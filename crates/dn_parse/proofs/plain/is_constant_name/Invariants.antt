use Rattle.std.proofs.Common.{◌≡◌, drop}
use Rattle.dn_parse.specs.Views.{name_view}
use Rattle.dn_parse.specs.Plain.{is_constant_name}
use Rattle.dn_parse.proofs.plain.is_constant_name.Given as goal

abbrev pub invariant-loop-part : goal.invariant-loop-part
invariant-loop-part l = is_constant_name (name_view l.name) ≡ is_constant_name (name_view (drop l.part-index l.name))
