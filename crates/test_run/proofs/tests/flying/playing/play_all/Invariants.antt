-- Each world is one.
use Rattle.dn_kind.specs.Kinded.{kinds_of}
use Rattle.dn_flight.specs.Words.{IsWorld}
use Rattle.test_run.proofs.tests.flying.playing.play_all.Given as goal

abbrev pub invariant-loop-act : goal.invariant-loop-act
invariant-loop-act g l = IsWorld l.system.on.net.now (kinds_of (λ k. (goal.UnitKind-dyn g k).meaning k.1) l.system.on.kinds.now) l.world
