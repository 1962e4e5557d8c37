use Rattle.std.proofs.Common.{◌+◌, ◌%◌, ◌^◌, inl, inr, refl, ap, ◌∙◌, subst, arith}
use Rattle.std.proofs.lemmas.Nat.{pow_pos}
use Rattle.dn_place.specs.Slots.{HasSeenStop}
use Rattle.dn_place.specs.Searches.{sought}
use Rattle.dn_place.proofs.Crowds.{own_input}
use Rattle.dn_place.proofs.Nexts.{next_agrees}
use Rattle.dn_place.proofs.Pages.{input_bound, page_few}
use Rattle.dn_place.proofs.inputs.next_try.Goals as goal

pub power-requires : goal.power-requires
power-requires g c = let f = c.requires.search.ready.bounds _ _ c.requires.may.within.unit in omega (arith, f.page)

pub overflow_add-x : goal.overflow_add-x
overflow_add-x g c =
    let f = c.requires.search.ready.bounds _ _ c.requires.may.within.unit in
    omega (arith, c.power.ensures, page_few c.args.translator.now.page f.page, input_bound c.args.translator.now.slots c.args.translator.now.page f.page f.few, c.requires.may.within.ends)

pub returns-then-past-hop : goal.returns-then-past-hop
returns-then-past-hop g c = record {
  onward = c.past_crowd-past.ensures.onward;
  agree = c.past_crowd-past.ensures.agree;
  few = c.past_crowd-past.ensures.few;
  useless = λ x a b e. inr (inl (c.if-place-eq1.true, c.past_crowd-past.ensures.crowded x a b e));
  free = c.requires.may.free;
  usable = λ e. absurd (c.if-past-hop.true e);
}

pub returns-then-is_seen : goal.returns-then-is_seen
returns-then-is_seen g c =
    let s = sought (λ k. (goal.UnitKind-dyn g k).meaning k.1) c.args.search in
    let f = c.requires.search.ready.bounds _ _ c.requires.may.within.unit in
    let page = c.args.translator.now.page in
    record {
      onward = omega arith;
      agree = ap (λ n. (c.args.hop.x + n) % 2 ^ page) c.power.ensures ∙ next_agrees c.args.hop.x (2 ^ page) (pow_pos page);
      few = omega (arith, c.power.ensures, page_few page f.page, input_bound c.args.translator.now.slots page f.page f.few, c.requires.may.within.ends);
      useless = λ x a b e. inr (inr (
        (λ k. absurd (omega (arith, k, c.if-place-eq1.false))),
        subst (λ n. HasSeenStop s c.args.translator.now c.args.hop.unit n) (own_input c.args.hop.x x page a (omega (arith, b, c.power.ensures)) e) (c.if-is_seen.ensures refl),
      ));
      free = c.requires.may.free;
      usable = λ e. absurd (omega (arith, e, c.power.ensures, pow_pos page));
    }

pub returns : goal.returns
returns g c =
    let next = c.next_input.ensures in
    record {
      onward = next.onward;
      agree = next.agree;
      few = next.few;
      useless = λ x a b e. inl (next.barred x a b e);
      free = next.free;
      usable = next.usable;
    }
