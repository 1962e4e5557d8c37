use Rattle.std.proofs.Common.{◌≡◌, ◌⊎◌, inl, inr, ◌<◌, ◌+◌, ◌-◌, ◌*◌, ◌%◌, ◌^◌, [], ◌∷◌, ◌++◌, replicate, refl, arith, subst}
use Rattle.dn_kind.specs.declared.shape.Shape.{Shape}
use Rattle.dn_kind.specs.declared.unit_kind.Record.{Record}
use Rattle.dn_kind.specs.Kind.{IsPackable}
use Rattle.dn_kinds.specs.declared.shipped.ShippedKind.{ShippedKind}
use Rattle.dn_kinds.specs.declared.shipped.ShippedKind.TheVariants.{Pages, Remap}
use Rattle.dn_kinds.specs.Layouts.{gate_bits, shipped}
use Rattle.dn_kinds.proofs.Gates.{page_small}
use Rattle.dn_kinds.proofs.Lawful.{radix_page}
use Rattle.dn_kinds.proofs.shipped.ShippedKindUnitKind.pack.Goals as goal

low_page : (kind : ShippedKind) (shape : Shape) (r : Record) → (kind ≡ Pages) ⊎ (kind ≡ Remap) → (gate_bits r + 256 * r.page) ∷ 0 ∷ 0 ∷ 0 ∷ [] ≡ (shipped kind).pack shape r ++ replicate (4 - (shipped kind).words) 0
low_page kind shape r (inl e) = rw e refl
low_page kind shape r (inr e) = rw e refl

pub returns-in-Pages : goal.returns-in-Pages
returns-in-Pages c =
    let small : c.args.record.page < 2 ^ 56 = page_small (shipped c.args.self.now) c.args._shape c.args.record c.requires in
    let shifted : c.args.record.page * 256 % 18446744073709551616 ≡ 256 * c.args.record.page = omega arith in
    rw (c.gate_bits-gate.ensures, shifted) (low_page c.args.self.now c.args._shape c.args.record c.in-Pages.is)

pub returns-in-Radix : goal.returns-in-Radix
returns-in-Radix c =
    let packable = subst (λ (k : ShippedKind). IsPackable (shipped k) c.args._shape c.args.record) c.in-Radix.is c.requires in
    let small : c.args.record.page < 2 ^ 44 = radix_page c.args._shape c.args.record packable in
    let shifted : c.args.record.page * 4096 % 18446744073709551616 ≡ 4096 * c.args.record.page = omega arith in
    rw (c.in-Radix.is, c.gate_bits-gate.ensures, shifted) refl
