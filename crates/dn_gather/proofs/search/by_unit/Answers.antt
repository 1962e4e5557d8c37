use Rattle.std.proofs.Common.{List, ℕ, subst, sym}
use Rattle.dn_interval.specs.declared.row.Row.{Row}
use Rattle.dn_place.specs.declared.exits.Exit.{Exit}
use Rattle.dn_place.proofs.Pages.{slot_there}
use Rattle.dn_place.proofs.Readies.{slot_in_set}
use Rattle.dn_kind.specs.Kinded.{kinds_of}
use Rattle.dn_gather.specs.Grounds.{AreExitsOfPieces}
use Rattle.dn_gather.specs.Stands.{AreUsed, AreWindows, inputs}
use Rattle.dn_gather.proofs.Placing.{none_unserved, none_unwindowed}
use Rattle.dn_gather.proofs.Standing.{exits_count}
use Rattle.dn_gather.proofs.search.by_unit.Goals as goal

pub returns-then-count-eq0-clause-none : goal.returns-then-count-eq0-clause-none
returns-then-count-eq0-clause-none g c = λ is. none_unwindowed (λ k. (goal.UnitKind-dyn g k).meaning k.1) c.args.wanted c.requires.wanted c.args.translator.now c.args.unit c.rows-rows.result.now c.requires.unit c.if-count-eq0.true
    (subst (λ (rs : List Row). AreWindows c.args.wanted.system.on.net.now c.args.wanted.agent c.args.unit (inputs c.args.translator.now) rs) (sym c.rows-rows.ensures.value) c.in_ok-windows.ensures)

pub returns-then-lacks_exits-clause-none : goal.returns-then-lacks_exits-clause-none
returns-then-lacks_exits-clause-none g c = λ is.
    let w = c.args.wanted in
    none_unserved (λ k. (goal.UnitKind-dyn g k).meaning k.1) w c.requires.wanted c.args.translator.now c.args.unit c.as_slice-outputs.result.now c.requires.unit (subst (λ (all : List (List Exit)). AreExitsOfPieces w.system.on.net.now c.args.translator.now w.agent w.rights w.pieces.now all) (sym c.as_slice-outputs.ensures.value) c.in_ok-exits.ensures) (c.lacks_exits.ensures c.if-lacks_exits.true)

pub used_slots-requires : goal.used_slots-requires
used_slots-requires g c =
    let w = c.args.wanted in
    record { there = λ slot l. slot_in_set (kinds_of (λ k. (goal.UnitKind-dyn g k).meaning k.1) w.system.on.kinds.now) w.system.on.net.now w.tables.now c.args.unit slot c.requires.wanted.fits (slot_there w.system.on.net.now c.args.unit slot c.args.translator.now c.requires.unit l) }

pub by_windows-requires : goal.by_windows-requires
by_windows-requires g c =
    let w = c.args.wanted in
    let net = w.system.on.net.now in
    let exits = subst (λ (all : List (List Exit)). AreExitsOfPieces net c.args.translator.now w.agent w.rights w.pieces.now all) (sym c.as_slice-outputs.ensures.value) c.in_ok-exits.ensures in
    record {
      ground = record {
        wanted = c.requires.wanted;
        is_unit = c.requires.unit;
        bounds = c.requires.bounds;
        windows = c.in_ok-windows.ensures;
        used = subst (λ (slots : List ℕ). AreUsed w.tables.now c.args.unit c.args.translator.now.slots slots) (sym c.as_slice-slots.ensures.value) c.in_ok-used.ensures;
        exits = exits;
        count = exits_count net c.args.translator.now w.agent w.rights w.pieces.now c.as_slice-outputs.result.now exits;
      };
    }
