-- Units of plain shapes, node by node.
use Rattle.std.proofs.Common.{◌≡◌, ℕ, zero, suc, ◌+◌, Bool, ◌&&◌, List, [], ◌∷◌, drop, slice_get, Option, Some, None, option_map, IsTrue, refl, sym, ap, ◌∙◌, subst, arith}
use Rattle.std.proofs.lemmas.Bool.{and_parts, and_from}
use Rattle.dn_net.specs.declared.node.NodeDecl.{NodeDecl}
use Rattle.dn_net.specs.declared.node.Unit.{Unit as UnitPart}
use Rattle.dn_net.specs.Decode.{unit_at}
use Rattle.dn_net.specs.Units.{has_plain_shape, has_plain_unit, has_plain_units}

-- the units from a node on, by that of the node
plain_from : (net : List NodeDecl) (i : ℕ) (o : Option UnitPart) → option_map (λ d. d.unit) (slice_get net i) ≡ Some o → has_plain_units (drop i net) ≡ (has_plain_unit o && has_plain_units (drop (i + 1) net))
plain_from [] i o at = cc
plain_from (n ∷ ns) zero o at =
    let e : n.unit ≡ o = cc in
    ap (λ p. has_plain_unit p && has_plain_units ns) e
plain_from (n ∷ ns) (suc i) o at =
    let e : suc i + 1 ≡ suc (i + 1) = omega arith in
    plain_from ns i o at ∙ ap (λ k. has_plain_unit o && has_plain_units (drop k (n ∷ ns))) (sym e)

-- a node whose unit is plain is passed over
pub plain_later : (net : List NodeDecl) (i : ℕ) (o : Option UnitPart) (b : Bool) → option_map (λ d. d.unit) (slice_get net i) ≡ Some o → has_plain_unit o ≡ b → has_plain_units (drop i net) ≡ (b && has_plain_units (drop (i + 1) net))
plain_later net i o b at e = plain_from net i o at ∙ ap (λ c. c && has_plain_units (drop (i + 1) net)) e

-- each unit of a net of plain units is plain
pub plain_at : (net : List NodeDecl) (n : ℕ) (u : UnitPart) → IsTrue (has_plain_units net) → unit_at net n ≡ Some u → IsTrue (has_plain_shape u)
plain_at [] n u h at = cc
plain_at (d ∷ ds) zero u h at = subst (λ o. IsTrue (has_plain_unit o)) at (and_parts (has_plain_unit d.unit) (has_plain_units ds) h).0
plain_at (d ∷ ds) (suc n) u h at = plain_at ds n u (and_parts (has_plain_unit d.unit) (has_plain_units ds) h).1 at

-- the same of a node, be it a unit or not
pub plain_unit_at : (net : List NodeDecl) (i : ℕ) (o : Option UnitPart) → IsTrue (has_plain_units net) → option_map (λ d. d.unit) (slice_get net i) ≡ Some o → IsTrue (has_plain_unit o)
plain_unit_at [] i o h at = cc
plain_unit_at (d ∷ ds) zero o h at = let e : d.unit ≡ o = cc in subst (λ p. IsTrue (has_plain_unit p)) e (and_parts (has_plain_unit d.unit) (has_plain_units ds) h).0
plain_unit_at (d ∷ ds) (suc i) o h at = plain_unit_at ds i o (and_parts (has_plain_unit d.unit) (has_plain_units ds) h).1 at

-- and a net whose units are each plain has plain units
pub plain_each : (net : List NodeDecl) → ((n : ℕ) (u : UnitPart) → unit_at net n ≡ Some u → IsTrue (has_plain_shape u)) → IsTrue (has_plain_units net)
plain_each [] each = refl
plain_each (d ∷ ds) each = and_from (has_plain_unit d.unit) (has_plain_units ds) (here d.unit refl) (plain_each ds (λ n u at. each (suc n) u at))
  where
    here : (o : Option UnitPart) → d.unit ≡ o → IsTrue (has_plain_unit o)
    here None e = refl
    here (Some u) e = each 0 u e
