-- What the levels come to by the rows of the buffer.
use Rattle.std.proofs.Common.{◌≡◌, ◌+◌, ◌≤◌, ◌∙◌, ◌↔◌, ◌&&◌, ◌||◌, ℕ, Bool, true, List, nat_eq, ap, subst}
use Rattle.std.proofs.lemmas.Result.{IfOk-weaker}
use Rattle.dn_interval.specs.declared.row.End.{End}
use Rattle.dn_interval.specs.declared.row.Row.{Row}
use Rattle.dn_interval.specs.declared.span.TheConstants.{TOP}
use Rattle.dn_interval.specs.Onward.{gives_by}
use Rattle.dn_interval.specs.Rows.{AreNormal, SegmentsGive}
use Rattle.dn_interval.specs.Strands.{segs_give}
use Rattle.dn_net.specs.declared.node.NodeDecl.{NodeDecl}
use Rattle.dn_flat.specs.declared.found.Continuation.TheVariants.{Accepts}
use Rattle.dn_flat.specs.declared.reach.Reach.{Reach}
use Rattle.dn_flat.specs.Levels.{AreLevels, NearFrom}
use Rattle.dn_flat.specs.Onward.{leads_by, levels_lead, seg_leads}
use Rattle.dn_flat.specs.Stages.{AreReaches}
use Rattle.dn_flat.proofs.Lists.{means_along}
use Rattle.dn_flat.proofs.Near.{near_is}
use Rattle.dn_flat.proofs.stretches.near_segs.Goals as goal

pub returns : goal.returns
returns c =
    let nodes : List Reach = c.args.nodes.now in
    let levels : List (List Row) = c.args.levels.now in
    let first = c.args.buffer.first in
    let size = c.args.buffer.size in
    let all = c.stretch-all.result in
    let near = c.push.new.segs.items in
    let rows : List Row = c.in_ok-rows.rows in
    let toward : ℕ → ℕ → End → Bool = λ n b y. nat_eq n first.node && gives_by (λ (r : Reach). rows) nodes n b y in
    let given : (b : ℕ) (y : End) → segs_give near b y ≡ seg_leads (leads_by Accepts nodes) all b y = λ b y. c.in_ok-push.ensures b y ∙ ap (λ s. segs_give s b y || seg_leads (leads_by Accepts nodes) all b y) c.new-segs.ensures.items in
    let normal : AreNormal (SegmentsGive near) rows = subst (λ s. AreNormal (SegmentsGive s) rows) c.deref.ensures.value c.in_ok-rows.ensures.normal in
    let shape = c.stretch-all.ensures.is in
    let lo = c.stretch-all.ensures.lo in
    IfOk-weaker c.levels_segs.result (λ segs. (a : ℕ) (z : End) → segs_give segs.items a z ≡ levels_lead toward levels a z) (λ segs. (net : List NodeDecl) (node : ℕ) → AreReaches net 1 nodes → AreLevels net node levels → (a : ℕ) (z : End) → a ≤ TOP → (segs_give segs.items a z ≡ true) ↔ NearFrom net node first size a z)
    (λ segs f net node are is a z low. means_along (segs_give segs.items a z) (levels_lead toward levels a z) (f a z)
    (near_is net nodes are node levels is first size all shape.node shape.base lo (shape.long ∙ ap (λ n. n + size) lo) near rows given normal a z low))
    c.levels_segs.ensures
