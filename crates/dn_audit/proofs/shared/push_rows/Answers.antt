use Rattle.std.proofs.Common.{◌≡◌, ◌∙◌, ◌++◌, ℕ, List, ap, sym, subst, append-nil}
use Rattle.std.specs.List.{list_any}
use Rattle.std.proofs.Math.ListN.{drop_of_length-le}
use Rattle.std.proofs.lemmas.List.{take_all}
use Rattle.dn_interval.specs.declared.row.End.{End}
use Rattle.dn_interval.specs.declared.row.Row.{Row}
use Rattle.dn_interval.specs.declared.row.Seg.{Seg}
use Rattle.dn_interval.specs.Rows.{AreNormal, SegmentsGive}
use Rattle.dn_interval.specs.Strands.{segs_give}
use Rattle.dn_audit.specs.declared.claims.Claim.{Claim}
use Rattle.dn_audit.specs.Claims.{claim_gives, several_rows}
use Rattle.dn_audit.proofs.Several.{claims_shared, several_of_node}
use Rattle.dn_audit.proofs.shared.push_rows.Goals as goal

pub returns : goal.returns
returns c =
    let claims : List Claim = c.args.claims.now in
    let rows : List Row = c.rows-rows.result.now in
    let segs : List Seg = c.loop-claim.segs.items in
    let same : (a : ℕ) (y : End) → segs_give segs a y ≡ list_any (λ (d : Claim). claim_gives d a y) claims = λ a y. c.loop-claim.invariant a y ∙ ap (list_any (λ (d : Claim). claim_gives d a y)) (take_all c.loop-claim.claim-index claims c.loop-claim-test.false) in
    let normal : AreNormal (SegmentsGive segs) rows = subst (λ (ss : List Seg). AreNormal (SegmentsGive ss) rows) c.as_slice.ensures.value (subst (λ (rs : List Row). AreNormal (SegmentsGive c.as_slice.result.now) rs) (sym c.rows-rows.ensures.value) c.in_ok-normal.ensures.normal) in
    let all : c.loop-row.shared ≡ c.args.shared.now ++ several_rows c.args.node rows =
    sym (append-nil c.loop-row.shared)
    ∙ ap (λ (rs : List Row). c.loop-row.shared ++ several_rows c.args.node rs) (sym (drop_of_length-le rows c.loop-row-test.false))
    ∙ c.loop-row.invariant in
    (several_rows c.args.node rows, all, record { there = several_of_node c.args.node rows; shared = claims_shared c.args.node claims segs rows same normal })
