use Rattle.dn_place.proofs.Cursors.{all_begun, cursor_begun}
use Rattle.std.proofs.Common.{None, refl}
use Rattle.dn_place.proofs.cursor.HopCursor.new.Goals as goal

pub returns-clause-cursor : goal.returns-clause-cursor
returns-clause-cursor c = λ s count nearer units are. cursor_begun s count nearer units _ refl refl c.new.ensures.items refl are

pub returns-clause-all : goal.returns-clause-all
returns-clause-all c = λ s count nearer units are less. all_begun s count nearer units (record { begun = 0; unit = 0; exits = c.new.result; at = 0; inputs = None }) refl are less
