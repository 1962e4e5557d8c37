use Rattle.std.proofs.Common.{◌≡◌, ap, take, List, arith}
use Rattle.std.specs.Option.{option_copied}
use Rattle.dn_kind.specs.Kind.{Meaning}
use Rattle.dn_kind.specs.Kinded.{kinds_of}
use Rattle.dn_tables.proofs.Fresh.{shape_there}
use Rattle.dn_image.specs.Reading.{nodes_size}
use Rattle.dn_image.proofs.Places.{size_more}
use Rattle.dn_image.proofs.slots.words_at.Goals as goal

pub node_size-at-requires-clause-shaped : goal.node_size-at-requires-clause-shaped
node_size-at-requires-clause-shaped g c = shape_there _ c.args.on.net.now c.loop-before.before _ c.requires.on.shaped c.unit.ensures

pub loop-before-preserved : goal.loop-before-preserved
loop-before-preserved g c =
    let kinds : List Meaning = kinds_of (λ k. (goal.UnitKind-dyn g k).meaning k.1) c.args.on.kinds.now in
    let more = size_more kinds c.args.on.net.now c.loop-before.before (option_copied c.unit.result) c.unit.ensures in
    let size = c.node_size-at.ensures.size in
    let at = c.loop-before.invariant.at in
    let small = c.loop-before.invariant.small in
    let few = c.node_size-at.ensures.small in
    record {
      at = omega (arith, more, size, at);
      small = omega (arith, small, few);
    }

pub returns : goal.returns
returns g c =
    let kinds : List Meaning = kinds_of (λ k. (goal.UnitKind-dyn g k).meaning k.1) c.args.on.kinds.now in
    let at = c.loop-before.invariant.at in
    let all : take c.loop-before.before c.args.on.net.now ≡ take c.args.node c.args.on.net.now = ap (λ k. take k c.args.on.net.now) (omega arith) in
    let same = ap (nodes_size kinds) all in
    omega (arith, at, same)
