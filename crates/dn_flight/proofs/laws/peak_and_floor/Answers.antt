use Rattle.dn_flight.proofs.Windows.{peak_over, stands_throughout}
use Rattle.dn_flight.proofs.laws.peak_and_floor.Goals as goal

pub returns : goal.returns
returns c = record { peak = peak_over; floor = stands_throughout }
