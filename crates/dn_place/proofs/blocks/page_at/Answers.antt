-- The unit is the one that the node is.
use Rattle.std.proofs.Common.{◌≡◌, ◌∙◌, Some, None, sym, ap, arith}
use Rattle.std.proofs.lemmas.Option.{same_Some}
use Rattle.dn_net.specs.declared.node.Unit.{Unit as UnitPart}
use Rattle.dn_place.proofs.blocks.page_at.Goals as goal

pub returns-in-Some : goal.returns-in-Some
returns-in-Some g c u e =
    let same : c.in-Some.translator.now ≡ u = same_Some c.in-Some.translator.now u (sym c.in-Some.ensures.some ∙ e) in
    omega (arith, ap (λ (v : UnitPart). v.page) same)

pub returns-in-None : goal.returns-in-None
returns-in-None g c u e = absurd (never u (sym c.in-None.ensures.none ∙ e))
  where
    never : (u : UnitPart) → None ≡ Some u → ⊥
    never u p = cc
