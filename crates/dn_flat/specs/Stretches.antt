-- Stretches of addresses that come to a row of names.
use Rattle.std.specs.Prelude.{◌≡◌, ℕ, ◌+◌, ◌-◌, Bool, ◌&&◌, nat_eq, nat_le, List, IsTrue}
use Rattle.std.specs.List.{list_any}
use Rattle.dn_interval.specs.declared.row.End.{End}
use Rattle.dn_interval.specs.declared.row.Row.{Row}
use Rattle.dn_interval.specs.declared.row.Seg.{Seg}
use Rattle.dn_interval.specs.declared.span.TheConstants.{TOP}
use Rattle.dn_interval.specs.declared.strand.Strand.{Strand}
use Rattle.dn_interval.specs.Spans.{in_span}
use Rattle.dn_interval.specs.Strands.{seg_gives}
use Rattle.dn_flat.specs.declared.reach.Reach.{Reach}
use Rattle.dn_flat.specs.Levels.{levels_show}

-- the segment leads so many addresses to so many names from one on
pub record IsStretch (first : End) (size : ℕ) (s : Seg) : Type 0 where
  pub node : s.node ≡ first.node
  pub base : s.base ≡ first.base
  pub long : s.span.hi + 1 ≡ s.span.lo + size

-- one of the segments begins at the address
abbrev pub begins : List Seg → ℕ → Bool
begins segs v = list_any (λ s. nat_eq s.span.lo v) segs

-- the strand leads so many addresses from this one on to so many names from one on
abbrev pub is_led : End → ℕ → Strand → ℕ → Bool
is_led first size s v =
    nat_eq s.node first.node && (nat_eq (s.slide + v) (first.base + TOP) && (nat_le s.span.lo v
    && nat_le (v + size) (s.span.hi + 1)))

-- one of the strands does
abbrev pub are_led : End → ℕ → List Strand → ℕ → Bool
are_led first size strands v = list_any (λ s. is_led first size s v) strands

-- the segment gives no name but those of the other
abbrev pub is_part : Seg → Seg → Bool
is_part s t =
    nat_le t.span.lo s.span.lo && (nat_le s.span.hi t.span.hi && (nat_eq s.node t.node
    && (nat_le t.base s.base && nat_eq (s.base - t.base) (s.span.lo - t.span.lo))))

-- the segment gives each name that is given
abbrev pub GivesAll : (ℕ → End → Bool) → Seg → Type 0
GivesAll gives s = (a : ℕ) (z : End) → IsTrue (gives a z) → IsTrue (seg_gives s a z)

-- the addresses of the segment show by the levels of their node no names but those of the segment
abbrev pub IsAlone : List Reach → List (List Row) → Seg → Type 0
IsAlone nodes levels s = GivesAll (λ a z. in_span s.span a && levels_show nodes levels a z) s
