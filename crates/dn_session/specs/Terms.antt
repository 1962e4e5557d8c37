-- The words of the crate that clauses cite, from one place.
pub use Rattle.dn_session.specs.Changing.{IsSessionChanged, EventsLeadTo}
pub use Rattle.dn_session.specs.Gathering.{IsBookGathered, IsGathered}
pub use Rattle.dn_session.specs.Granting.{IsSessionGranted, IsRefused}
pub use Rattle.dn_session.specs.History.{SessionLookupsAreGiven}
pub use Rattle.dn_session.specs.Open.{IsOpen, IsSession, SessionState}
pub use Rattle.dn_session.specs.Revoking.{IsSessionRevoked}
pub use Rattle.dn_session.specs.Room.{most_slots, pieces_room, unit_most}
pub use Rattle.dn_session.specs.Routing.{IsRouted}
pub use Rattle.dn_session.specs.Seeing.{OwesFrom}
pub use Rattle.dn_session.specs.Shipped.{shipped_kinds}
pub use Rattle.dn_session.specs.Stored.{IsSessionImage}
