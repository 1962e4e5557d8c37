-- Which events are refused, by whether they may come.
use Rattle.std.specs.Prelude.{◌≡◌, ◌⊎◌, ◌↔◌, List, Some, None, IsTrue}
use Rattle.dn_net.specs.declared.node.NodeDecl.{NodeDecl}
use Rattle.dn_flight.specs.declared.event.Event.{Event}
use Rattle.dn_flight.specs.declared.event.Event.TheVariants.{Write}
use Rattle.dn_flight.specs.Flight.{flight_fault, many}
use Rattle.dn_flight.specs.Schedules.{MayCome}
use Rattle.dn_flight.specs.State.{WorldState}
use Rattle.dn_flight.specs.Words.{has_word_in}

-- the word that an event sets is there, where it sets one
abbrev pub HasItsWord : WorldState → Event → Type 0
HasItsWord w (Write unit word value) = IsTrue (has_word_in w.words unit word)
HasItsWord w _ = Unit {0}

-- An event is not refused, or refused for the number of lookups alone, exactly where it may come and the
-- word that it sets is there.
abbrev pub WhatMayComeIsPlayed : Type 0
WhatMayComeIsPlayed = (net : List NodeDecl) (w : WorldState) (e : Event) →
    ((flight_fault net w e ≡ None) ⊎ (flight_fault net w e ≡ Some many))
    ↔ (MayCome net w e × HasItsWord w e)
