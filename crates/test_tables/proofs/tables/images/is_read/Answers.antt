-- What is read has words for each node.
use Rattle.std.proofs.Common.{◌≡◌, List, length, arith}
use Rattle.dn_kind.specs.Kind.{Meaning}
use Rattle.dn_kind.specs.Kinded.{kinds_of}
use Rattle.test_tables.proofs.Held.{filled_long}
use Rattle.test_tables.proofs.tables.images.is_read.Goals as goal

pub words-requires : goal.words-requires
words-requires g c =
    let kinds : List Meaning = kinds_of (λ k. (goal.UnitKind-dyn g k).meaning k.1) c.args.on.kinds.now in
    let long : length c.in_ok-image.image.words ≡ length c.args.on.net.now = filled_long kinds c.args.on.net.now c.in_ok-image.image.words c.in_ok-image.ensures.found.filled in
    omega (arith, long, c.nodes.ensures, c.if-node-nodes.false)
