use Rattle.dn_view.specs.Courses.{course_records}
use Rattle.dn_view.specs.KeptStops.{ListKeptStops}
use Rattle.dn_view.proofs.kept.kept_stops.Given as goal

abbrev pub invariant-loop-node : goal.invariant-loop-node
invariant-loop-node g l = ListKeptStops l.course.system.on.net.now (course_records (λ k. (goal.UnitKind-dyn g k).meaning k.1) l.course) l.agent l.stops.items
