use Rattle.std.proofs.Common.{◌≡◌, ◌∙◌, List, nat_eq, true, ap, sym}
use Rattle.std.specs.List.{list_any}
use Rattle.dn_interval.specs.declared.row.End.{End}
use Rattle.dn_place.proofs.Named.{row_named}
use Rattle.dn_place.proofs.kept.has_name.Goals as goal

pub returns-in-Some : goal.returns-in-Some
returns-in-Some c told = row_named c.args.rows.now c.in-Some.row.now c.args.unit c.args.x c.in-Some.ensures.found.0 c.in-Some.ensures.found.1 (sym (ap (list_any (λ (e : End). nat_eq e.node c.args.unit)) c.ends.ensures) ∙ sym c.has_node.ensures ∙ told)
