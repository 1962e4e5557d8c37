use Rattle.std.proofs.Common.{◌≡◌, ◌∙◌, ℕ, ◌-◌, ◌<◌, refl, sym, ap, subst, rules, arith, get_or, length, reverse, slice_get, List, Option, Some, IsSome, IfSome, IsTrue, true, false, is_err}
use Rattle.dn_base.specs.Outside.{IsCounted}
use Rattle.dn_base.proofs.Counts.{counted_then}
use Rattle.dn_net.specs.declared.node.Unit.{Unit as UnitPart}
use Rattle.dn_kind.specs.Kinded.{kinds_of}
use Rattle.dn_kind.specs.declared.rights.Rights.{Rights}
use Rattle.dn_kind.specs.Kind.{Meaning}
use Rattle.dn_kind.specs.Rights.{are_rights}
use Rattle.dn_kind.specs.Units.{has_shape}
use Rattle.dn_tables.specs.declared.placement.Hop.{Hop}
use Rattle.dn_tables.specs.Set.{FitsNet}
use Rattle.dn_placement.specs.Records.{hop_rights}
use Rattle.dn_book.specs.Sets.{AreOpen, TakesSlots}
use Rattle.dn_book.specs.Writes.{grant_slots, hop_slots}
use Rattle.dn_book.proofs.Facts.{fits_net_kept}
use Rattle.dn_book.proofs.InOrder.{GrantPuts, behind_all, grant_puts, hop_of_grant, hop_opened, joined_more, rest_of_lists, turn_behind, turn_hop}
use Rattle.dn_book.proofs.Parts.{put_end, put_next, put_stopped}
use Rattle.dn_tables.proofs.Units.{unit_fits}
use Rattle.dn_book.proofs.puts.put_grant.Goals as goal

pub put_hop-requires : goal.put_hop-requires
put_hop-requires g c =
    let kinds : List Meaning = kinds_of (λ k. (goal.UnitKind-dyn g k).meaning k.1) c.args.on.kinds.now in
    let d : Hop = record { unit = 0; port = 0; x = 0; y = 0 } in
    let place : ℕ = length c.args.grant.now.placement.hops - 1 - c.loop-behind.behind in
    let hop : Hop = get_or c.hops-hops.result.now (length c.hops-hops.result.now - 1 - c.loop-behind.behind) d in
    let at : slice_get c.args.grant.now.placement.hops place ≡ Some hop = turn_hop c.args.grant.now.placement.hops c.hops-hops.result.now c.loop-behind.behind d c.hops-hops.ensures.value c.loop-behind-test.true in
    let grant : GrantPuts kinds c.args.on.net.now c.args.tables.now c.args.grant.now = grant_puts (λ k. (goal.UnitKind-dyn g k).meaning k.1) c.args.on c.args.tables.now c.args.grant.now _ _ c.facts.ensures c.requires in
    let here = hop_of_grant kinds c.args.on.net.now c.args.tables.now c.args.grant.now grant place hop at in
    let fits : FitsNet c.args.on.net.now kinds c.loop-behind.tables = fits_net_kept c.args.on.net.now kinds c.args.tables.now c.loop-behind.tables c.loop-behind.invariant.put.fits c.requires.fits in
    let own : c.from-own.result ≡ c.args.grant.now.placement.own = c.from-own.ensures ∙ c.own.ensures.value in
    let n : length c.hops-hops.result.now ≡ length c.args.grant.now.placement.hops = ap length c.hops-hops.ensures.value in
    let rights : c.hop_rights-rights.result ≡ hop_rights c.args.grant.now.request.rights c.args.grant.now.placement.own place = c.hop_rights-rights.ensures ∙ ap (λ w. hop_rights c.args.grant.now.request.rights w (length c.hops-hops.result.now - 1 - c.loop-behind.behind)) own ∙ ap (λ m. hop_rights c.args.grant.now.request.rights c.args.grant.now.placement.own (m - 1 - c.loop-behind.behind)) n in
    let low : c.loop-behind.behind < length c.args.grant.now.placement.hops = let l = c.loop-behind-test.true in omega arith in
    record {
      lawful = c.requires.lawful;
      fits = fits.wide;
      on_device = c.loop-behind.invariant.on_device;
      is_unit = unit_fits c.args.on.net.now kinds c.loop-behind.tables fits hop.unit;
      some = subst (λ (o : Option UnitPart). IsSome o) (sym here.1) refl;
      there = subst (λ (o : Option UnitPart). IfSome o (λ u. TakesSlots u c.args.grant.now.request.size hop)) (sym here.1) here.2.fit;
      shaped = subst (λ (o : Option UnitPart). IsTrue (has_shape kinds o)) (sym here.1) here.2.shaped;
      rights = subst (λ (r : Rights). IsTrue (are_rights r)) (sym rights) here.2.rights;
      opened = subst (λ (r : Rights). AreOpen c.loop-behind.tables (hop_slots c.args.on.net.now c.args.grant.now.request.size r hop)) (sym rights)
          (hop_opened kinds c.args.on.net.now c.args.tables.now c.loop-behind.tables c.args.grant.now c.loop-behind.behind place hop _ _ grant low refl at c.loop-behind.invariant.put);
    }

pub returns-in_err-put_hop-clause-put : goal.returns-in_err-put_hop-clause-put
returns-in_err-put_hop-clause-put g c =
    let kinds : List Meaning = kinds_of (λ k. (goal.UnitKind-dyn g k).meaning k.1) c.args.on.kinds.now in
    let d : Hop = record { unit = 0; port = 0; x = 0; y = 0 } in
    let own : c.from-own.result ≡ c.args.grant.now.placement.own = c.from-own.ensures ∙ c.own.ensures.value in
    let failed : is_err c.from_residual.result ≡ true = search rules in
    let was : is_err c.put_hop.result ≡ true = search rules in
    put_stopped kinds _ _ _ _ (is_err c.put_hop.result) (is_err c.from_residual.result) _ _ _ _ _ _ (rest_of_lists (reverse (grant_slots c.args.on.net.now c.args.grant.now)) c.loop-behind.behind _ (turn_behind c.args.on.net.now c.args.grant.now c.hops-hops.result.now c.loop-behind.behind c.from-own.result d c.hop_rights-rights.result c.hops-hops.ensures.value own c.loop-behind-test.true c.hop_rights-rights.ensures)) failed was c.loop-behind.invariant.put c.put_hop.ensures.put

pub loop-behind-preserved : goal.loop-behind-preserved
loop-behind-preserved g c =
    let kinds : List Meaning = kinds_of (λ k. (goal.UnitKind-dyn g k).meaning k.1) c.args.on.kinds.now in
    let d : Hop = record { unit = 0; port = 0; x = 0; y = 0 } in
    let own : c.from-own.result ≡ c.args.grant.now.placement.own = c.from-own.ensures ∙ c.own.ensures.value in
    let was : is_err c.put_hop.result ≡ false = search rules in
    record {
      put = put_next kinds _ _ _ (is_err c.put_hop.result) _ _ _ _ _ _ (joined_more (reverse (grant_slots c.args.on.net.now c.args.grant.now)) c.loop-behind.behind _ (turn_behind c.args.on.net.now c.args.grant.now c.hops-hops.result.now c.loop-behind.behind c.from-own.result d c.hop_rights-rights.result c.hops-hops.ensures.value own c.loop-behind-test.true c.hop_rights-rights.ensures)) was c.loop-behind.invariant.put c.put_hop.ensures.put;
      on_device = c.put_hop.ensures.on_device;
      counted = counted_then _ _ _ _ c.loop-behind.invariant.counted (subst (IsCounted (g.D.Tables.faults c.loop-behind.device) (g.D.Tables.faults c.put_hop.new.device)) was c.put_hop.ensures.counted);
    }

pub returns-clause-put : goal.returns-clause-put
returns-clause-put g c =
    let kinds : List Meaning = kinds_of (λ k. (goal.UnitKind-dyn g k).meaning k.1) c.args.on.kinds.now in
    put_end kinds _ _ _ _ _ _ (behind_all c.args.on.net.now c.args.grant.now c.hops-hops.result.now c.loop-behind.behind c.hops-hops.ensures.value (let l = c.loop-behind-test.false in omega arith)) c.loop-behind.invariant.put
