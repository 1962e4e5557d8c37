use Rattle.std.proofs.Common.{◌≡◌, ◌∙◌, ◌+◌, ◌-◌, ◌/◌, ◌%◌, ◌^◌, ap, subst, sym, arith}
use Rattle.dn_tables.specs.declared.placement.Hop.{Hop}
use Rattle.dn_place.specs.Searches.{sought}
use Rattle.dn_place.specs.Slots.{AreFreeTo, AreUsable, AreUseless, IsNextTry}
use Rattle.dn_place.proofs.Cursors.{useless_on}
use Rattle.dn_place.proofs.Usable.{free_onward}
use Rattle.dn_place.proofs.cursor.usable_from.Goals as goal

pub inputs-init : goal.inputs-init
inputs-init g c = record {
  from = omega arith;
  agree = c.requires.range.agree;
  few = c.requires.range.few;
  useless = λ x a b e. absurd (omega (arith, a, b));
  free = c.requires.range.free;
}

pub returns-then-tried-x-clause-some : goal.returns-then-tried-x-clause-some
returns-then-tried-x-clause-some g c =
    let s = sought (λ k. (goal.UnitKind-dyn g k).meaning k.1) c.args.search in
    let u = c.args.translator.now in
    let i = c.args.inputs in
    let tried = c.next_try-tried.result in
    let next = subst (λ (h : Hop). IsNextTry s u c.args.place h tried) c.hop_at.ensures c.next_try-tried.ensures in
    let same : tried.x ≡ c.inputs.x = c.if-tried-x.true in
    record {
      from = omega (arith, c.inputs.invariant.from, same);
      to = omega (arith, c.inputs-test.true, same);
      agree = ap (λ n. n % 2 ^ u.page) same ∙ c.inputs.invariant.agree;
      useless = subst (λ n. AreUseless s u c.args.place (record { unit = i.unit; port = i.port; x = i.x; y = i.y }) n) (sym same) c.inputs.invariant.useless;
      usable = subst (λ n. AreUsable s.slots i.unit (n / 2 ^ u.page) ((n + s.request.size - 1) / 2 ^ u.page) i.port (i.y / 2 ^ u.page)) (sym same) (next.usable same);
      free = subst (λ n. AreFreeTo s.slots i.unit (n / 2 ^ u.page) tried.free) (sym same) next.free;
    }

pub inputs-preserved : goal.inputs-preserved
inputs-preserved g c =
    let s = sought (λ k. (goal.UnitKind-dyn g k).meaning k.1) c.args.search in
    let u = c.args.translator.now in
    let i = c.args.inputs in
    let tried = c.next_try-tried.result in
    let next = subst (λ (h : Hop). IsNextTry s u c.args.place h tried) c.hop_at.ensures c.next_try-tried.ensures in
    record {
      from = omega (arith, c.inputs.invariant.from, next.onward);
      agree = next.agree ∙ c.inputs.invariant.agree;
      few = omega (arith, next.few);
      useless = useless_on s u c.args.place i.unit i.port i.y i.x c.inputs.x tried.x c.inputs.invariant.useless next.useless (c.inputs.invariant.agree ∙ sym c.requires.range.agree);
      free = free_onward s.slots i.unit c.inputs.x tried.x u.page tried.free next.onward next.free;
    }

pub returns-clause-none : goal.returns-clause-none
returns-clause-none g c = λ x a b e. c.inputs.invariant.useless x a (omega (arith, b, c.inputs-test.false)) e
