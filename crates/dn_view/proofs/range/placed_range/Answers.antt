use Rattle.std.proofs.Common.{ℕ, ◌∙◌, ◌≤◌, inl, inr, ◌+◌, ap, sym, subst, drop, arith, List, Option}
use Rattle.dn_kind.specs.declared.unit_kind.Record.{Record}
use Rattle.dn_tables.specs.declared.placement.Hop.{Hop}
use Rattle.dn_placement.specs.Records.{hop_rights, hops_records, or_record}
use Rattle.dn_view.proofs.Fitted.{hops_next, hops_end}
use Rattle.dn_view.proofs.range.placed_range.Goals as goal

pub loop-place-preserved : goal.loop-place-preserved
loop-place-preserved c =
    let net = c.args.checked.net.now in
    let rq = c.args.request.now in
    let own = c.args.placement.now.own in
    let hops : List Hop = c.hops-hops.result.now in
    let i = c.loop-place.place in
    let none : Hop = record { unit = 0; port = 0; x = 0; y = 0 } in
    let rest : ℕ → Option Record = λ slot. hops_records net rq.size rq.rights own (i + 1) (drop (i + 1) hops) c.args.node slot in
    record {
      there = (let u = c.requires.unit in subst (λ n. c.with_hop-range.result.1 ≤ n) (sym u.2) (c.with_hop-range.ensures.there u.0 u.1 (subst (λ n. c.loop-place.range.1 ≤ n) u.2 c.loop-place.invariant.there)));
      rest = λ slot out.
          c.loop-place.invariant.rest slot (elim out [ inl l ↦ inl (let f = c.with_hop-range.ensures.from in omega arith) | inr l ↦ inr (let f = c.with_hop-range.ensures.to in omega arith) ])
          ∙ hops_next net rq.size rq.rights own i hops c.args.node slot none c.loop-place-test.true
          ∙ ap (λ r. or_record r (rest slot)) (c.with_hop-range.ensures.rest (hop_rights rq.rights own i) slot out);
    }

pub returns-clause-rest : goal.returns-clause-rest
returns-clause-rest c slot out = c.loop-place.invariant.rest slot out ∙ hops_end c.args.checked.net.now c.args.request.now.size c.args.request.now.rights c.args.placement.now.own c.loop-place.place c.hops-hops.result.now c.args.node slot c.loop-place-test.false
