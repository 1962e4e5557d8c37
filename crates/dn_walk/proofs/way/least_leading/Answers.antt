-- The destination's name is one more, or none.
use Rattle.std.proofs.Common.{◌∙◌, sym, map, get_or, refl}
use Rattle.dn_net.specs.declared.node.Dest.{Dest}
use Rattle.dn_walk.specs.Rows.{row_view}
use Rattle.dn_walk.specs.Ways.{level_leads}
use Rattle.dn_walk.proofs.Least.{dest_taken, dest_left}
use Rattle.dn_walk.proofs.way.least_leading.Goals.{then-does_lead, else-does_lead}
use Rattle.dn_walk.proofs.way.least_leading.Goals as goal

pub loop-dest-preserved : goal.loop-dest-preserved
loop-dest-preserved c =
    let z : Dest = record { node = 0; addr = 0 } in
    let d : Dest = get_or c.args.dests.now c.loop-dest.dest-index z in
    elim c.if-does_lead.branch [
      | then-does_lead w ↦ w.least-is ∙ w.lesser_name-least.ensures ∙ dest_taken (level_leads c.args.goal (map row_view c.args.level.now)) c.args.offset c.args.dests.now c.loop-dest.dest-index z d c.loop-dest.least c.loop-dest-test.true refl (sym c.does_lead.ensures ∙ w.if-does_lead.true) c.loop-dest.invariant
      | else-does_lead w ↦ w.least-is ∙ dest_left (level_leads c.args.goal (map row_view c.args.level.now)) c.args.offset c.args.dests.now c.loop-dest.dest-index z d c.loop-dest.least c.loop-dest-test.true refl (sym c.does_lead.ensures ∙ w.if-does_lead.false) c.loop-dest.invariant
    ]
