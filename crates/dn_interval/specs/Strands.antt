-- Which names strands, segments and rows give, as tests; how strands are ordered; and which strand is
-- maximal.
use Rattle.std.specs.Prelude.{◌≡◌, ℕ, ◌+◌, ◌-◌, ◌⊎◌, Bool, true, false, ◌&&◌, nat_eq, List}
use Rattle.std.specs.List.{list_any}
use Rattle.std.specs.Ordering.{ordering_then, nat_cmp}
use Rattle.std.specs.declared.cmp.Ordering.{Ordering}
use Rattle.dn_interval.specs.declared.row.Seg.{Seg}
use Rattle.dn_interval.specs.declared.row.End.{End}
use Rattle.dn_interval.specs.declared.row.Row.{Row}
use Rattle.dn_interval.specs.declared.strand.Strand.{Strand}
use Rattle.dn_interval.specs.declared.span.TheConstants.{TOP}
use Rattle.dn_interval.specs.Spans.{in_span}

-- the name is the one that a slide gives to an address in a node
abbrev pub is_slid : ℕ → ℕ → ℕ → End → Bool
is_slid node slide a y = nat_eq node y.node && nat_eq (slide + a) (y.base + TOP)

-- the strand gives the name to the address
abbrev pub strand_gives : Strand → ℕ → End → Bool
strand_gives s a y = in_span s.span a && is_slid s.node s.slide a y

-- one of the strands gives the name to the address
abbrev pub strands_give : List Strand → ℕ → End → Bool
strands_give strands a y = list_any (λ s. strand_gives s a y) strands

-- the strands give the name to the address, if they have it
abbrev pub slides_give : List Strand → ℕ → End → Bool
slides_give strands a y = list_any (λ s. is_slid s.node s.slide a y) strands

-- the segment gives the name to the address
abbrev pub seg_gives : Seg → ℕ → End → Bool
seg_gives s a y = in_span s.span a && (nat_eq s.node y.node && nat_eq (s.base + (a - s.span.lo)) y.base)

-- one of the segments gives the name to the address
abbrev pub segs_give : List Seg → ℕ → End → Bool
segs_give segs a y = list_any (λ s. seg_gives s a y) segs

-- the names, moved on from an address to another, have the name
abbrev pub ends_give : List End → ℕ → ℕ → End → Bool
ends_give ends from a y = list_any (λ e. nat_eq e.node y.node && nat_eq (e.base + (a - from)) y.base) ends

-- the row gives the name to the address
abbrev pub row_gives : Row → ℕ → End → Bool
row_gives r a y = in_span r.span a && ends_give r.ends r.span.lo a y

-- one of the rows gives the name to the address
abbrev pub rows_give : List Row → ℕ → End → Bool
rows_give rows a y = list_any (λ r. row_gives r a y) rows

-- by node, by slide, and by first address
abbrev pub strand_cmp : Strand → Strand → Ordering
strand_cmp s t = ordering_then (ordering_then (nat_cmp s.node t.node) (nat_cmp s.slide t.slide)) (nat_cmp s.span.lo t.span.lo)

-- the strand's names, moved back before its first address or on past its last, are not given there
abbrev pub IsMaximal : (ℕ → End → Bool) → Strand → Type 0
IsMaximal gives s = (a : ℕ) (y : End) → is_slid s.node s.slide a y ≡ true → (a ≡ s.span.hi + 1) ⊎ (a + 1 ≡ s.span.lo) → gives a y ≡ false
