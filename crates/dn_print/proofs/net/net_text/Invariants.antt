use Rattle.std.proofs.Common.{◌≡◌, take}
use Rattle.std.specs.List.{flat_map}
use Rattle.std.specs.String.{string_bytes}
use Rattle.dn_kind.specs.Kinded.{kinds_of}
use Rattle.dn_print.specs.Statement.{statement_text}
use Rattle.dn_print.proofs.net.net_text.Given as goal

-- the statements of the nodes so far
abbrev pub invariant-loop-node : goal.invariant-loop-node
invariant-loop-node g l =
    let kinds = kinds_of (λ k. (goal.UnitKind-dyn g k).meaning k.1) l.on.kinds.now in
    string_bytes l.out ≡ flat_map (statement_text kinds l.on.net.now) (take l.node l.on.net.now)
