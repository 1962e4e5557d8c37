use Rattle.std.proofs.Common.{◌≡◌, take, length}
use Rattle.dn_kind.specs.Kinded.{kinds_of}
use Rattle.dn_tables.specs.Set.{fresh_set, words_of}
use Rattle.dn_flight.proofs.words.NetWords.start.Given as goal

abbrev pub invariant-loop-node : goal.invariant-loop-node
invariant-loop-node g l =
    let kinds = kinds_of (λ k. (goal.UnitKind-dyn g k).meaning k.1) l.on.kinds.now in
    record {
      last : l.node-end ≡ length l.on.net.now;
      made : l.nodes.items ≡ words_of (fresh_set kinds (take l.node l.on.net.now));
    }
