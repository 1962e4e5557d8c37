-- Sorted ways are the same ways.
use Rattle.std.proofs.Common.{List, sym, subst}
use Rattle.std.proofs.lemmas.List.Elements.{All-nil}
use Rattle.std.proofs.lemmas.List.Sorted.{All-permutation}
use Rattle.dn_flat.specs.declared.crowds.Way.{Way}
use Rattle.dn_flat.specs.Crowds.{AreWays, IsWay}
use Rattle.dn_flat.proofs.crowds.ways_of.Goals as goal

pub loop-node-init : goal.loop-node-init
loop-node-init c = subst (λ (ws : List Way). AreWays c.args.net.now ws) (sym c.new-ways.ensures.items) (All-nil (IsWay c.args.net.now))

pub returns : goal.returns
returns c =
    All-permutation (IsWay c.args.net.now) c.loop-node.ways.items c.sort_unstable_by_key.new.self.items c.sort_unstable_by_key.ensures.permutation c.loop-node.invariant
