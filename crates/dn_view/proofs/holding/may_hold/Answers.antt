-- From slot 0 on no slot of the unit holds a record; or the node is no unit.
use Rattle.std.proofs.Common.{◌≡◌, ◌∙◌, ◌≤◌, ℕ, Option, None, IfSome, false, nat_lt, ap, sym, subst, arith}
use Rattle.std.specs.Option.{option_copied}
use Rattle.dn_net.specs.declared.node.Unit.{Unit as UnitPart}
use Rattle.dn_kind.specs.Kinded.{kinds_of}
use Rattle.dn_kind.specs.Tables.{Held}
use Rattle.dn_tables.specs.Set.{record_kept}
use Rattle.dn_view.proofs.holding.may_hold.Goals as goal

pub returns-in-Some : goal.returns-in-Some
returns-in-Some g c e =
    let h : Held = record_kept (kinds_of (λ k. (goal.UnitKind-dyn g k).meaning k.1) c.args.system.on.kinds.now) c.args.tables.now in
    subst (λ (o : Option UnitPart). IfSome o (λ u. (slot : ℕ) → h c.args.node slot ≡ None)) (ap option_copied (sym c.in-Some.is) ∙ c.unit_of.ensures) (λ slot. c.held_end.ensures.none slot (below c.held_end.result slot e))
  where
    below : (n slot : ℕ) → nat_lt 0 n ≡ false → n ≤ slot
    below n slot f = grind arith

pub returns-in-None : goal.returns-in-None
returns-in-None g c e =
    let h : Held = record_kept (kinds_of (λ k. (goal.UnitKind-dyn g k).meaning k.1) c.args.system.on.kinds.now) c.args.tables.now in
    subst (λ (o : Option UnitPart). IfSome o (λ u. (slot : ℕ) → h c.args.node slot ≡ None)) (ap option_copied (sym c.in-None.is) ∙ c.unit_of.ensures) tt
