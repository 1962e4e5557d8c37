-- The units of a set are those of the net that it fits.
use Rattle.std.proofs.Common.{◌≡◌, ◌∙◌, ℕ, zero, suc, List, [], ◌∷◌, map, slice_get, Option, Some, None, refl, sym, ap}
use Rattle.dn_net.specs.declared.node.NodeDecl.{NodeDecl}
use Rattle.dn_net.specs.declared.node.Unit.{Unit as UnitPart}
use Rattle.dn_net.specs.Decode.{unit_at}
use Rattle.dn_kind.specs.Kind.{Meaning}
use Rattle.dn_tables.specs.declared.table.NodeTable.{NodeTable}
use Rattle.dn_tables.specs.Set.{FitsNet, units_of, unit_in}

joined : Option (Option UnitPart) → Option UnitPart
joined None = None
joined (Some o) = o

unit_of_set : (set : List NodeTable) (n : ℕ) → unit_in set n ≡ joined (slice_get (units_of set) n)
unfolding joined
unit_of_set [] n = refl
unit_of_set (t ∷ set) zero = refl
unit_of_set (t ∷ set) (suc n) = unit_of_set set n

unit_of_net : (net : List NodeDecl) (n : ℕ) → unit_at net n ≡ joined (slice_get (map (λ d. d.unit) net) n)
unfolding joined
unit_of_net [] n = refl
unit_of_net (d ∷ net) zero = refl
unit_of_net (d ∷ net) (suc n) = unit_of_net net n

pub unit_by_units : (net : List NodeDecl) (set : List NodeTable) → units_of set ≡ map (λ d. d.unit) net → (n : ℕ) → unit_in set n ≡ unit_at net n
unit_by_units net set e n = unit_of_set set n ∙ ap (λ l. joined (slice_get l n)) e ∙ sym (unit_of_net net n)

pub unit_fits : (net : List NodeDecl) (kinds : List Meaning) (set : List NodeTable) → FitsNet net kinds set → (n : ℕ) → unit_in set n ≡ unit_at net n
unit_fits net kinds set f n = unit_by_units net set f.units n
