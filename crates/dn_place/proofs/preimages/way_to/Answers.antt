use Rattle.std.proofs.Common.{ℕ, List, sym}
use Rattle.dn_base.proofs.Told.{if_some_then}
use Rattle.dn_interval.specs.declared.row.End.{End}
use Rattle.dn_interval.specs.Rows.{AreNormal}
use Rattle.dn_net.specs.declared.node.NodeDecl.{NodeDecl}
use Rattle.dn_place.specs.Preimages.{IsPreimage, IsWayBack, IsWayTo, LeadsAlone}
use Rattle.dn_place.specs.Rows.{InRow}
use Rattle.dn_place.proofs.Turned.{alone_given, alone_row, none_then, turned_way}
use Rattle.dn_place.proofs.preimages.way_to.Goals as goal

pub returns-in_err-row-clause-none : goal.returns-in_err-row-clause-none
returns-in_err-row-clause-none c = rw c.from_residual.ensures (λ net agent unit v n alone. alone_given net agent unit c.args.x c.args.size v c.args.rows.now n (sym c.in_err-row.ensures.none) c.requires alone)

pub returns-clause-some : goal.returns-clause-some
returns-clause-some c =
    if_some_then c.way_in.result (λ way. IsWayBack c.in_ok-row.row.now c.args.x c.args.size way) (λ way. (net : List NodeDecl) (agent unit : ℕ) → AreNormal (IsPreimage net agent unit) c.args.rows.now → IsWayTo net agent (record { node = unit; base = c.args.x }) c.args.size way)
    (λ way t net agent unit n. turned_way net agent unit c.args.x c.args.size c.args.rows.now c.in_ok-row.row.now way n c.in_ok-row.ensures.found.0 c.requires t) c.way_in.ensures.some

pub returns-clause-none : goal.returns-clause-none
returns-clause-none c =
    none_then c.way_in.result ((t : End) → InRow c.in_ok-row.row.now t c.args.size c.args.x → ⊥) ((net : List NodeDecl) (agent unit v : ℕ) → AreNormal (IsPreimage net agent unit) c.args.rows.now → LeadsAlone net agent unit c.args.x c.args.size v → ⊥)
    (λ none net agent unit v n alone. none (record { node = agent; base = v }) (alone_row net agent unit c.args.x c.args.size v c.args.rows.now c.in_ok-row.row.now n c.in_ok-row.ensures.found.0 c.in_ok-row.ensures.found.1 c.requires alone)) c.way_in.ensures.none
