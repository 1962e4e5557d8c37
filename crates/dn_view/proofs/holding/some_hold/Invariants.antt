-- The nodes so far hold no record.
use Rattle.std.proofs.Common.{ℕ, ◌<◌, get_or}
use Rattle.dn_kind.specs.Kinded.{kinds_of}
use Rattle.dn_tables.specs.Set.{record_kept}
use Rattle.dn_view.specs.Records.{HoldsNone}
use Rattle.dn_view.proofs.holding.some_hold.Given as goal

abbrev pub invariant-loop-node : goal.invariant-loop-node
invariant-loop-node g l =
    (k : ℕ) → k < l.node-index → HoldsNone l.system.on.net.now (record_kept (kinds_of (λ k. (goal.UnitKind-dyn g k).meaning k.1) l.system.on.kinds.now) l.tables) (get_or l.nodes k 0)
