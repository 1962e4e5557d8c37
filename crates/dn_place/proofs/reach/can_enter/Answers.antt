use Rattle.std.proofs.Common.{◌≡◌, ◌∙◌, Some, sym, ap, eq-eqb}
use Rattle.std.proofs.lemmas.Bool.{false≢true}
use Rattle.dn_interval.specs.declared.row.End.{End}
use Rattle.dn_place.proofs.reach.can_enter.Goals as goal

pub returns-in-Some-clause-other : goal.returns-in-Some-clause-other
returns-in-Some-clause-other c = λ no x e.
    let same : c.in-Some.entry ≡ record { node = c.args.unit; base = x } = some c.in-Some.entry (record { node = c.args.unit; base = x }) (sym c.in-Some.ensures.entry ∙ e) in
    false≢true (sym no ∙ eq-eqb c.in-Some.entry.node c.args.unit (ap (λ (z : End). z.node) same))
  where
    some : (a b : End) → Some a ≡ Some b → a ≡ b
    some a b p = cc
