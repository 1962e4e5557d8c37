-- The kind of three words keeps the laws of kinds, since `vectors` does.
use Rattle.std.proofs.Common.{◌≡◌, ℕ, suc, ◌%◌, List, [], ◌∷◌, length, drop, None, ap, arith, lit≤}
use Rattle.dn_kind.specs.declared.shape.Shape.{Shape}
use Rattle.dn_kind.specs.declared.unit_kind.Record.{Record}
use Rattle.dn_kind.specs.Kind.{IsLawful, IsPackable, gate_word}
use Rattle.dn_kinds.specs.Layouts.{vectors}
use Rattle.dn_kinds.proofs.Lawful.{vectors_are_lawful}
use Rattle.test_plans.specs.Wide.{wide}

packable : (shape : Shape) (r : Record) → IsPackable wide shape r → IsPackable vectors shape r
packable shape r p = record { plain = p.plain; fits = p.fits; within = p.within; rights = p.rights }

shut : (ws : List ℕ) → length ws ≡ 3 → gate_word ws % 2 ≡ 0 → vectors.unpack (drop 1 ws) ≡ None
shut [] n h = absurd (omega (arith, n))
shut (w ∷ []) n h = absurd (omega (arith, n))
shut (w ∷ v ∷ ws) n h = vectors_are_lawful.shut (v ∷ ws) (omega (arith, n)) h

pub wide_is_lawful : IsLawful wide
wide_is_lawful = record {
  least = lit≤ tt;
  most = lit≤ tt;
  width = λ shape r p. ap suc (vectors_are_lawful.width shape r (packable shape r p));
  small = λ shape r p. vectors_are_lawful.small shape r (packable shape r p);
  reads_back = λ shape r p. vectors_are_lawful.reads_back shape r (packable shape r p);
  shut = shut;
  rights = λ ws r e. vectors_are_lawful.rights (drop 1 ws) r e;
}
