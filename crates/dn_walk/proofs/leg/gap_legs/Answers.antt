-- The legs of the gaps, where there is an `over`.
use Rattle.std.proofs.Common.{◌∙◌, sym, ap, map, length, option_map, subst, Some, arith}
use Rattle.std.proofs.lemmas.List.Sorted.{IsNonDecreasingBy-short}
use Rattle.std.proofs.lemmas.Result.{IfOk-weaker}
use Rattle.dn_base.proofs.Lists.{item_there}
use Rattle.dn_interval.specs.declared.row.Seg.{Seg}
use Rattle.dn_interval.specs.Spans.{AreMaximal}
use Rattle.dn_net.specs.declared.node.NodeDecl.{NodeDecl}
use Rattle.dn_net.proofs.Faults.{part_is}
use Rattle.dn_walk.specs.Legs.{bare_gap_legs, gaps_by, leg_view, span_view}
use Rattle.dn_walk.proofs.leg.gap_legs.Goals as goal

pub returns-in_default-clause-legs : goal.returns-in_default-clause-legs
returns-in_default-clause-legs c =
    let d = item_there c.args.checked.net.now c.args.node c.requires.there in
    let none = part_is (λ (n : NodeDecl). n.over) _ d.0 _ d.1 (c.over.ensures ∙ ap Some c.in_default.is) in
    ap (option_map (λ (n : NodeDecl). bare_gap_legs n.over (gaps_by n.accepts n.entries))) d.1
    ∙ ap (λ o. Some (bare_gap_legs o (gaps_by d.0.accepts d.0.entries))) none
    ∙ ap (λ l. Some (map leg_view l)) (sym c.new.ensures.items)

pub returns-in_default-clause-sorted : goal.returns-in_default-clause-sorted
returns-in_default-clause-sorted c = let e = ap length c.new.ensures.items in IsNonDecreasingBy-short (λ (s : Seg). s.span.lo) c.new.result.items (omega (arith, e))

pub legs_to-requires : goal.legs_to-requires
legs_to-requires c = subst (λ l. AreMaximal l) (sym c.spans.ensures.value) c.spans.ensures.maximal

pub returns-clause-legs : goal.returns-clause-legs
returns-clause-legs c =
    let d = item_there c.args.checked.net.now c.args.node c.requires.there in
    let some = part_is (λ (n : NodeDecl). n.over) _ d.0 _ d.1 (c.over.ensures ∙ ap Some c.in-Some.is) in
    let spans = part_is (λ (n : NodeDecl). gaps_by n.accepts n.entries) _ d.0 _ d.1 c.in_ok-gaps.ensures ∙ ap (map span_view) (sym c.spans.ensures.value) in
    IfOk-weaker c.legs_to.result _ _ (λ v h.
    ap (option_map (λ (n : NodeDecl). bare_gap_legs n.over (gaps_by n.accepts n.entries))) d.1
    ∙ (λ i. Some (bare_gap_legs (some i) (spans i)))
    ∙ ap Some (sym h)) c.legs_to.ensures.legs
