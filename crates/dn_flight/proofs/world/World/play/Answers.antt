use Rattle.std.proofs.Common.{List}
use Rattle.dn_kind.specs.Kind.{Meaning}
use Rattle.dn_kind.specs.Kinded.{kinds_of}
use Rattle.dn_flight.specs.declared.event.Event.TheVariants.{Begin, Read, Write, Fence}
use Rattle.dn_flight.proofs.Kept.{played_keeps}
use Rattle.dn_flight.proofs.world.World.play.Goals as goal

pub returns-in-Begin-clause-world : goal.returns-in-Begin-clause-world
returns-in-Begin-clause-world g c = played_keeps c.args.system.on.net.now (kinds_of (λ k. (goal.UnitKind-dyn g k).meaning k.1) c.args.system.on.kinds.now) (Begin c.in-Begin.agent c.in-Begin.addr c.in-Begin.access) c.args.self.now c.begin.new.self c.begin.result c.begin.ensures.exact c.begin.ensures.refused c.requires.world

pub returns-in-Read-clause-world : goal.returns-in-Read-clause-world
returns-in-Read-clause-world g c = played_keeps c.args.system.on.net.now (kinds_of (λ k. (goal.UnitKind-dyn g k).meaning k.1) c.args.system.on.kinds.now) (Read c.in-Read.lookup) c.args.self.now c.read.new.self c.read.result c.read.ensures.exact c.read.ensures.refused c.requires.world

pub returns-in-Write-clause-exact : goal.returns-in-Write-clause-exact
returns-in-Write-clause-exact g c = rw c.in-Write.is (c.write.ensures.exact c.args.system.on.net.now (kinds_of (λ k. (goal.UnitKind-dyn g k).meaning k.1) c.args.system.on.kinds.now))

pub returns-in-Write-clause-world : goal.returns-in-Write-clause-world
returns-in-Write-clause-world g c =
    let kinds : List Meaning = kinds_of (λ k. (goal.UnitKind-dyn g k).meaning k.1) c.args.system.on.kinds.now in
    played_keeps c.args.system.on.net.now kinds (Write c.in-Write.unit c.in-Write.word c.in-Write.value) c.args.self.now c.write.new.self c.write.result (c.write.ensures.exact c.args.system.on.net.now kinds) c.write.ensures.refused c.requires.world

pub returns-in-Fence-clause-exact : goal.returns-in-Fence-clause-exact
returns-in-Fence-clause-exact g c = rw c.in-Fence.is (c.fence.ensures.exact c.args.system.on.net.now (kinds_of (λ k. (goal.UnitKind-dyn g k).meaning k.1) c.args.system.on.kinds.now))

pub returns-in-Fence-clause-world : goal.returns-in-Fence-clause-world
returns-in-Fence-clause-world g c =
    let kinds : List Meaning = kinds_of (λ k. (goal.UnitKind-dyn g k).meaning k.1) c.args.system.on.kinds.now in
    played_keeps c.args.system.on.net.now kinds Fence c.args.self.now c.fence.new.self c.fence.result (c.fence.ensures.exact c.args.system.on.net.now kinds) c.fence.ensures.refused c.requires.world
