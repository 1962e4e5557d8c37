use Rattle.std.proofs.Common.{◌≡◌, ◌∙◌, Some, None, subst, sym}
use Rattle.dn_net.specs.declared.node.Unit.{Unit as UnitPart}
use Rattle.dn_place.specs.Cursors.{AreAllUseless, HasNoneUsable, IsInputRange, IsNextUsable, IsUsableInput}
use Rattle.dn_place.specs.Searches.{sought}
use Rattle.dn_place.proofs.Cursors.{same_unit}
use Rattle.dn_base.proofs.Told.{if_some_then}
use Rattle.dn_place.proofs.Turned.{none_then}
use Rattle.dn_place.proofs.cursor.usable_input.Goals as goal

pub usable_from-requires-clause-range : goal.usable_from-requires-clause-range
usable_from-requires-clause-range g c =
    let s = sought (λ k. (goal.UnitKind-dyn g k).meaning k.1) c.args.search in
    let w = c.requires.range in
    subst (λ (u : UnitPart). IsInputRange s u c.args.inputs) (same_unit s.net c.args.inputs.unit w.u c.in-Some.translator.now w.range.is_unit c.in-Some.ensures.some) w.range

pub returns-in-Some-clause-some : goal.returns-in-Some-clause-some
returns-in-Some-clause-some g c =
    let s = sought (λ k. (goal.UnitKind-dyn g k).meaning k.1) c.args.search in
    let u = c.in-Some.translator.now in
    if_some_then c.usable_from.result (λ input. IsUsableInput s u c.args.place c.args.inputs input) (λ input. IsNextUsable s c.args.place c.args.inputs input) (λ input found. record { u = u; is_unit = c.in-Some.ensures.some; found = found }) c.usable_from.ensures.some

pub returns-in-Some-clause-none : goal.returns-in-Some-clause-none
returns-in-Some-clause-none g c =
    let s = sought (λ k. (goal.UnitKind-dyn g k).meaning k.1) c.args.search in
    let u = c.in-Some.translator.now in
    none_then c.usable_from.result (AreAllUseless s u c.args.place c.args.inputs) (HasNoneUsable s c.args.place c.args.inputs) (λ useless. record { u = u; is_unit = c.in-Some.ensures.some; useless = useless }) c.usable_from.ensures.none

pub returns-in-None-clause-none : goal.returns-in-None-clause-none
returns-in-None-clause-none g c = absurd (never c.requires.range.u (sym c.requires.range.range.is_unit ∙ c.in-None.ensures.none))
  where
    never : (u : UnitPart) → Some u ≡ None → ⊥
    never u p = cc
