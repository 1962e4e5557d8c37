-- Kinds that are handed in, and a net with the kinds of its units: what is known of them.
use Rattle.std.specs.Prelude.{List, map}
use Rattle.std.specs.List.{All}
use Rattle.dn_kind.specs.declared.kinded.KindedNet.{KindedNet}
use Rattle.dn_kind.specs.declared.kinds.Kinds.{Kinds}
use Rattle.dn_kind.specs.Kind.{IsLawful, Meaning}
use Rattle.dn_kind.specs.Units.{IsLegalWith, KeepsUnitShape}

-- what the kinds of a list mean, in order
abbrev pub kinds_of : {K : Type 0} {V : K → Type 0} → ((k : K) × V k → Meaning) → Kinds K V →
    List Meaning
kinds_of means kinds = map (λ k. means (k.vtable, k.value)) kinds.list.items

-- each of the kinds keeps the laws of kinds
pub record AreKinds {K : Type 0} {V : K → Type 0} (means : (k : K) × V k → Meaning)
    (kinds : Kinds K V) : Type 0 where
  pub lawful : All (λ k. IsLawful (means (k.vtable, k.value))) kinds.list.items

-- the kinds are lawful, and each unit of the net has a shape that its kind fits
pub record IsShaped {K : Type 0} {V : K → Type 0} (means : (k : K) × V k → Meaning)
    (on : KindedNet K V) : Type 0 where
  pub lawful : All (λ k. IsLawful (means (k.vtable, k.value))) on.kinds.now.list.items
  pub shaped : KeepsUnitShape (kinds_of means on.kinds.now) on.net.now

-- the kinds are lawful, and the net is legal with them
pub record IsKinded {K : Type 0} {V : K → Type 0} (means : (k : K) × V k → Meaning)
    (on : KindedNet K V) : Type 0 where
  pub lawful : All (λ k. IsLawful (means (k.vtable, k.value))) on.kinds.now.list.items
  pub legal : IsLegalWith (kinds_of means on.kinds.now) on.net.now
