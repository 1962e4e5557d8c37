use Rattle.std.proofs.Common.{◌≡◌, ◌∙◌, ◌+◌, ap, sym, drop, Option}
use Rattle.dn_kind.specs.declared.unit_kind.Record.{Record}
use Rattle.dn_placement.specs.Records.{hop_rights, hops_records, or_record, placed_records}
use Rattle.dn_view.proofs.Fitted.{hops_on, hops_end, hop_found, hop_passed}
use Rattle.dn_view.proofs.records.placed_record.Goals as goal
use Rattle.dn_view.proofs.records.placed_record.Goals.{After-hop_record-record}

-- the records of the hops behind the one at hand
abbrev rest : After-hop_record-record → Option Record
rest c = hops_records c.args.checked.net.now c.args.request.now.size c.args.request.now.rights c.args.placement.now.own (c.loop-place.place + 1) (drop (c.loop-place.place + 1) c.hops-hops.result.now) c.args.node c.args.slot

whole : (c : After-hop_record-record) → placed_records c.args.checked.net.now c.args.request.now c.args.placement.now c.args.node c.args.slot ≡ or_record c.hop_record-record.result (rest c)
whole c =
    let own : c.from-own.result ≡ c.args.placement.now.own = c.from-own.ensures ∙ c.own.ensures.value in
    c.loop-place.invariant
    ∙ hops_on c.args.checked.net.now c.args.request.now.size c.args.request.now.rights c.hop_rights-rights.result c.args.placement.now.own c.loop-place.place c.hops-hops.result.now c.args.node c.args.slot (record { unit = 0; port = 0; x = 0; y = 0 }) c.hop_record-record.result c.loop-place-test.true
    (c.hop_rights-rights.ensures ∙ ap (λ o. hop_rights c.args.request.now.rights o c.loop-place.place) own) c.hop_record-record.ensures

pub returns-then-is_some : goal.returns-then-is_some
returns-then-is_some c =
    let at = (goal.at.returns-then-is_some c).After-hop_record-record in
    hop_found _ c.hop_record-record.result (rest at) (whole at) c.if-is_some.ensures

pub loop-place-preserved : goal.loop-place-preserved
loop-place-preserved c =
    let at = (goal.at.loop-place-preserved c).After-hop_record-record in
    hop_passed _ c.hop_record-record.result (rest at) (whole at) c.if-is_some.ensures

pub returns : goal.returns
returns c = sym (c.loop-place.invariant ∙ hops_end c.args.checked.net.now c.args.request.now.size c.args.request.now.rights c.args.placement.now.own c.loop-place.place c.hops-hops.result.now c.args.node c.args.slot c.loop-place-test.false)
