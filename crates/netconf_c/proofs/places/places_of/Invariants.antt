-- The places so far, and those that are still to come.
use Rattle.std.proofs.Common.{◌≡◌, ◌++◌, drop, map}
use Rattle.netconf_c.specs.Seeing.{place_of}
use Rattle.netconf_c.proofs.places.places_of.Given as goal

abbrev pub invariant-loop-name : goal.invariant-loop-name
invariant-loop-name l = l.all.items ++ map place_of (drop l.name-index l.names) ≡ map place_of l.names
