use Rattle.std.proofs.Common.{◌≡◌, List, Bool, subst, sym, ◌∙◌, ap, length}
use Rattle.dn_place.specs.Marks.{Marks, MarksAll}
use Rattle.dn_place.proofs.Marked.{marks_all, written_back}
use Rattle.dn_place.proofs.marks.from_agent.Goals as goal

pub returns : goal.returns
returns g c =
    let kept : length c.mark_node.new.marks ≡ length c.in_ok-marks.marks.items = c.mark_node.auto.marks ∙ ap length c.deref_mut.ensures.value in
    let ok = c.in_ok-marks.marks.ok in
    let long : length c.in_ok-marks.marks.items ≡ length c.args.system.on.net.now = sym ok.0 ∙ c.in_ok-marks.ensures.len ∙ c.from.ensures ∙ c.nodes.ensures in
    let marked : Marks c.args.system.on.net.now c.args.agent c.mark_node.new.marks = c.mark_node.ensures.marks c.requires.there in
    subst (λ (m : List Bool). MarksAll c.args.system.on.net.now c.args.agent m) (sym (written_back c.mark_node.new.marks c.in_ok-marks.marks.items c.in_ok-marks.marks.len kept (sym ok.0))) (marks_all c.args.system.on.net.now c.args.agent c.mark_node.new.marks (kept ∙ long) marked)
