-- The words of the crate that clauses cite, from one place.
pub use Rattle.dn_queue.specs.Changing.{AreUnchanged, IsBookChanged}
pub use Rattle.dn_queue.specs.Queue.{IsFull, QueueState, faults_at, log_of}
pub use Rattle.dn_queue.specs.Room.{event_room, slots_of_hop}
