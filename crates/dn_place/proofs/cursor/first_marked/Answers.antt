use Rattle.std.proofs.Common.{◌≡◌, ◌∙◌, inl, inr, false, get_or, subst, sym, arith}
use Rattle.std.proofs.lemmas.Bool.{cases_lt}
use Rattle.dn_place.specs.Marks.{mark_at}
use Rattle.dn_place.proofs.cursor.first_marked.Goals as goal

pub units-preserved : goal.units-preserved
units-preserved c =
    let marks = c.args.reach.now in
    record {
      onward = omega (arith, c.units.invariant.onward);
      none = λ k a b. elim (cases_lt k c.units.next) [
        | inl l ↦ c.units.invariant.none k a l
        | inr l ↦ subst (λ n. mark_at marks.first.items marks.second.items marks.third.items c.args.place (get_or c.args.units.now n 0) ≡ false) (omega (arith, b, l)) (sym c.can_stand.ensures ∙ c.if-can_stand.false)
      ];
    }
