-- The rows are normal for the stretches that resolve to the names alone.
use Rattle.std.proofs.Common.{◌≡◌, ◌∙◌, ℕ, List, ap, sym, subst}
use Rattle.std.specs.List.{All}
use Rattle.std.proofs.lemmas.Result.{IfOk-weaker}
use Rattle.dn_interval.specs.declared.row.End.{End}
use Rattle.dn_interval.specs.declared.row.Row.{Row}
use Rattle.dn_interval.specs.declared.row.Seg.{Seg}
use Rattle.dn_interval.specs.declared.strand.Strand.{Strand}
use Rattle.dn_interval.specs.Rows.{AreNormal, SegmentsGive}
use Rattle.dn_interval.specs.Strands.{IsMaximal, segs_give, strands_give}
use Rattle.dn_net.specs.declared.node.NodeDecl.{NodeDecl}
use Rattle.dn_flat.specs.declared.reach.Reach.{Reach}
use Rattle.dn_flat.specs.Levels.{AreFlats, AreLevels, FlatsView, ResolvesWhole}
use Rattle.dn_flat.specs.Stages.{AreReaches}
use Rattle.dn_flat.specs.Stretches.{IsStretch, begins}
use Rattle.dn_flat.proofs.Shown.{shown_is}
use Rattle.dn_flat.proofs.Stretched.{stretches_are}
use Rattle.dn_flat.proofs.Sums.{normal_of}
use Rattle.dn_flat.proofs.flats.Flats.toward.Goals as goal

pub returns : goal.returns
returns c =
    let flats : FlatsView = c.args.self.now in
    let node = c.args.node in
    let first = c.args.first in
    let size = c.args.size in
    let nodes : List Reach = c.reaches-nodes.result.now in
    let levels : List (List Row) = c.as_slice-levels.result.now in
    let near : List Seg = c.in_ok-near.near.items in
    let strands : List Strand = c.deref-2.result.now in
    let led : List Seg = c.deref-3.result.now in
    let alone : List Seg = c.in_ok-alone.alone.items in
    let steps : nodes ≡ flats.stage.nodes = c.reaches-nodes.ensures ∙ ap (λ (v : FlatsView). v.stage.nodes) c.self.view_is in
    let same : (a : ℕ) (y : End) → strands_give strands a y ≡ segs_give near a y = λ a y. ap (λ (s : List Strand). strands_give s a y) c.deref-2.ensures.value ∙ (c.in_ok-strands.ensures.same a y ∙ ap (λ (s : List Seg). segs_give s a y) c.deref.ensures.value) in
    let maximal : All (IsMaximal (λ a y. strands_give strands a y)) strands = subst (λ (s : List Strand). All (IsMaximal (λ a y. strands_give s a y)) s) (sym c.deref-2.ensures.value) c.in_ok-strands.ensures.maximal in
    IfOk-weaker c.normal.result (λ rows. AreNormal (SegmentsGive c.deref-4.result.now) rows) (λ rows. (net : List NodeDecl) → AreFlats net flats → AreNormal (ResolvesWhole net node first size) rows)
    (λ rows n net are.
    let all : AreReaches net 1 nodes = subst (AreReaches net 1) (sym steps) are.steps in
    let is : AreLevels net node levels = subst (AreLevels net node) (sym c.as_slice-levels.ensures) (are.each node c.of.result.now c.of.ensures).reached in
    normal_of (ResolvesWhole net node first size) alone rows
    (λ a z low. stretches_are net nodes node levels first size c.requires.some (shown_is net nodes all node levels is) near (c.in_ok-near.ensures net node all is) strands same maximal led
    (subst (λ (s : List Seg). All (IsStretch first size) s) (sym c.deref-3.ensures.value) c.in_ok-led.ensures.each)
    (λ v. ap (λ (s : List Seg). begins s v) c.deref-3.ensures.value ∙ c.in_ok-led.ensures.led v)
    alone c.in_ok-alone.ensures a z)
    (subst (λ s. AreNormal (SegmentsGive s) rows) c.deref-4.ensures.value n))
    c.normal.ensures.normal
