use Rattle.std.proofs.Common.{◌≡◌, ◌∙◌, ap, subst, rules, arith, get_or, length, true, false, is_err}
use Rattle.dn_base.specs.Outside.{IsCounted}
use Rattle.dn_base.proofs.Counts.{counted_then}
use Rattle.dn_kind.specs.declared.rights.Rights.{Rights}
use Rattle.dn_tables.specs.declared.placement.Hop.{Hop}
use Rattle.dn_placement.specs.Records.{hop_rights}
use Rattle.dn_book.specs.Writes.{grant_slots}
use Rattle.dn_book.proofs.InOrder.{front_all, front_hop, hop_member, joined_more, rest_of_lists, turn_front}
use Rattle.dn_book.proofs.Parts.{clear_end, clear_next, clear_stopped}
use Rattle.dn_book.proofs.clears.clear_grant.Goals as goal

pub clear_hop-requires-clause-there : goal.clear_hop-requires-clause-there
clear_hop-requires-clause-there g c =
    let d : Hop = record { unit = 0; port = 0; x = 0; y = 0 } in
    let at = front_hop c.args.grant.now.placement.hops c.hops-hop-items.result.now c.loop-hop.hop-index d c.hops-hop-items.ensures.value c.loop-hop-test.true in
    c.requires.hops.units (get_or c.hops-hop-items.result.now c.loop-hop.hop-index d) (hop_member c.args.grant.now.placement.hops c.loop-hop.hop-index _ at)

pub returns-in_err-clear_hop-clause-cleared : goal.returns-in_err-clear_hop-clause-cleared
returns-in_err-clear_hop-clause-cleared g c =
    let d : Hop = record { unit = 0; port = 0; x = 0; y = 0 } in
    let r : Rights = hop_rights c.args.grant.now.request.rights c.args.grant.now.placement.own c.loop-hop.hop-index in
    let at = front_hop c.args.grant.now.placement.hops c.hops-hop-items.result.now c.loop-hop.hop-index d c.hops-hop-items.ensures.value c.loop-hop-test.true in
    let failed : is_err c.from_residual.result ≡ true = search rules in
    let was : is_err c.clear_hop.result ≡ true = search rules in
    clear_stopped _ _ _ _ (is_err c.clear_hop.result) (is_err c.from_residual.result) _ _ _ _ _ _ (rest_of_lists (grant_slots c.args.net.now c.args.grant.now) c.loop-hop.hop-index _ (turn_front c.args.net.now c.args.grant.now c.loop-hop.hop-index _ at)) failed was c.loop-hop.invariant.cleared (c.clear_hop.ensures.cleared r)

pub loop-hop-preserved : goal.loop-hop-preserved
loop-hop-preserved g c =
    let d : Hop = record { unit = 0; port = 0; x = 0; y = 0 } in
    let r : Rights = hop_rights c.args.grant.now.request.rights c.args.grant.now.placement.own c.loop-hop.hop-index in
    let at = front_hop c.args.grant.now.placement.hops c.hops-hop-items.result.now c.loop-hop.hop-index d c.hops-hop-items.ensures.value c.loop-hop-test.true in
    let was : is_err c.clear_hop.result ≡ false = search rules in
    record {
      cleared = clear_next _ _ _ (is_err c.clear_hop.result) _ _ _ _ _ _ (joined_more (grant_slots c.args.net.now c.args.grant.now) c.loop-hop.hop-index _ (turn_front c.args.net.now c.args.grant.now c.loop-hop.hop-index _ at)) was c.loop-hop.invariant.cleared (c.clear_hop.ensures.cleared r);
      units = (c.clear_hop.ensures.cleared r).fits.units ∙ c.loop-hop.invariant.units;
      on_device = c.clear_hop.ensures.on_device;
      counted = counted_then _ _ _ _ c.loop-hop.invariant.counted (subst (IsCounted (g.D.Tables.faults c.loop-hop.device) (g.D.Tables.faults c.clear_hop.new.device)) was c.clear_hop.ensures.counted);
    }

pub returns-clause-cleared : goal.returns-clause-cleared
returns-clause-cleared g c =
    clear_end _ _ _ _ _ _ (front_all c.args.net.now c.args.grant.now c.loop-hop.hop-index (let l = c.loop-hop-test.false in let n = ap length c.hops-hop-items.ensures.value in omega arith)) c.loop-hop.invariant.cleared
