use Rattle.std.proofs.Common.{length, ◌≤◌, ap, sym, subst, arith}
use Rattle.dn_radix.proofs.Pieces.{tree_few}
use Rattle.dn_radix.proofs.Reached.{level_low, level_room}
use Rattle.dn_radix.specs.Tree.{level_of, page_count, room}
use Rattle.dn_radix.proofs.build.tree_over.Goals as goal

pub push_tree-requires-clause-few : goal.push_tree-requires-clause-few
push_tree-requires-clause-few c =
    let few = tree_few (level_of (length c.args.leaves.words.now)) c.args.leaves.words.now (level_low (length c.args.leaves.words.now)) in
    let e = ap (λ n. page_count n c.args.leaves.words.now) c.level_of.ensures in
    omega (arith, few, e)

pub push_tree-requires-clause-fits : goal.push_tree-requires-clause-fits
push_tree-requires-clause-fits c = subst (λ n. length c.args.leaves.words.now ≤ room n) (sym c.level_of.ensures) (level_room (length c.args.leaves.words.now) (omega (arith, c.requires)))
