-- What the addresses of a node come to by no step and by one, as tests.
use Rattle.std.specs.Prelude.{ℕ, Bool, ◌&&◌, nat_eq, List}
use Rattle.dn_interval.specs.declared.row.End.{End}
use Rattle.dn_interval.specs.declared.span.Span.{Span}
use Rattle.dn_interval.specs.Spans.{has}

-- the name is the address of the node itself
abbrev pub is_same : ℕ → ℕ → End → Bool
is_same node a y = nat_eq node y.node && nat_eq a y.base

-- the name is the address of the node itself, which lies in one of the spans
abbrev pub stays : List Span → ℕ → ℕ → End → Bool
stays spans node a y = has spans a && is_same node a y
