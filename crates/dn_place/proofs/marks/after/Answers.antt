use Rattle.std.proofs.Common.{◌≡◌, List, Bool, subst, sym, ◌∙◌, ap, length}
use Rattle.dn_place.specs.Marks.{MarksAfter}
use Rattle.dn_place.proofs.Marked.{after_all, written_back}
use Rattle.dn_place.proofs.marks.after.Goals as goal

pub returns : goal.returns
returns g c =
    let kept : length c.mark_after.new.marks ≡ length c.in_ok-marks.marks.items = c.mark_after.auto.marks ∙ ap length c.deref_mut.ensures.value in
    let ok = c.in_ok-marks.marks.ok in
    let long : length c.in_ok-marks.marks.items ≡ length c.args.system.on.net.now = sym ok.0 ∙ c.in_ok-marks.ensures.len ∙ c.from.ensures ∙ c.nodes.ensures in
    subst (λ (m : List Bool). MarksAfter c.args.system.on.net.now c.args.from.now m) (sym (written_back c.mark_after.new.marks c.in_ok-marks.marks.items c.in_ok-marks.marks.len kept (sym ok.0))) (after_all c.args.system.on.net.now c.args.from.now c.args.units.now c.mark_after.new.marks c.requires.units (kept ∙ long) c.mark_after.ensures)
