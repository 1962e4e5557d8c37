use Rattle.std.proofs.Common.{rules, ◌≡◌, ◌∙◌, ap, sym, ℕ, List, Ok, slice_get}
use Rattle.dn_kind.specs.Kind.{Meaning}
use Rattle.dn_kind.specs.Kinded.{kinds_of}
use Rattle.dn_kind.specs.Tables.{record_held}
use Rattle.dn_flight.specs.declared.lookup.LookState.TheVariants.{At}
use Rattle.dn_flight.specs.declared.lookup.Lookup.{Lookup}
use Rattle.dn_flight.specs.Flight.{read_by}
use Rattle.dn_flight.specs.Lookups.{IsFlightAt, with_state}
use Rattle.dn_flight.proofs.Kept.{flight_stops, read_here}
use Rattle.dn_flight.proofs.world.World.read.Goals as goal

pub read_on-requires-clause-stop : goal.read_on-requires-clause-stop
read_on-requires-clause-stop g c =
    let at : IsFlightAt (slice_get c.args.self.now.lookups c.args.lookup) c.in-Some.flight = search rules in
    flight_stops c.args.system.on.net.now c.args.self.now.lookups c.args.lookup c.in-Some.flight c.requires.world.stand at

pub returns-clause-exact : goal.returns-clause-exact
returns-clause-exact g c =
    let kinds : List Meaning = kinds_of (λ k. (goal.UnitKind-dyn g k).meaning k.1) c.args.system.on.kinds.now in
    let at : IsFlightAt (slice_get c.args.self.now.lookups c.args.lookup) c.in-Some.flight = search rules in
    let is : c.in-Ok.state ≡ read_by c.args.system.on.net.now (record_held c.args.system.on.net.now kinds c.args.self.now.words) c.in-Some.flight.access (At c.in-Some.flight.name) = search rules in
    let words : c.self.inside.words ≡ c.args.self.now.words = search rules in
    let lookups : c.move_on.new.self ≡ with_state c.args.self.now.lookups c.args.lookup c.in-Ok.state = search rules in
    read_here c.args.system.on.net.now kinds c.args.self.now c.args.lookup c.in-Some.flight c.in-Ok.state at is
    ∙ ap (λ (v : List (List ℕ)). Ok (record { words = v; lookups = with_state c.args.self.now.lookups c.args.lookup c.in-Ok.state })) (sym words)
    ∙ ap (λ (l : List Lookup). Ok (record { words = c.self.inside.words; lookups = l })) (sym lookups)
