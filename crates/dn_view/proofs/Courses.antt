-- What a system under tables gives, and a course in it: records that its units can hold.
use Rattle.std.proofs.Common.{◌↔◌, List, IsTrue}
use Rattle.std.specs.List.{All}
use Rattle.dn_kind.specs.Kinded.{kinds_of}
use Rattle.dn_kind.specs.declared.rights.Access.{Access}
use Rattle.dn_kind.specs.Kind.{Meaning, IsLawful}
use Rattle.dn_kind.specs.Rights.{are_rights}
use Rattle.dn_kind.specs.Tables.{AreHeld}
use Rattle.dn_tables.specs.declared.table.NodeTable.{NodeTable}
use Rattle.dn_tables.specs.Placement.{Place}
use Rattle.dn_tables.specs.Set.{FitsNet, IsSet, record_kept}
use Rattle.dn_tables.proofs.Slots.{all_of_map}
use Rattle.dn_placement.specs.declared.request.Request.{Request}
use Rattle.dn_placement.specs.Exposure.{IsAdmissible}
use Rattle.dn_placement.specs.Placement.{IsPlacement}
use Rattle.dn_placement.specs.Slots.{slots_of_set}
use Rattle.dn_view.specs.declared.course.Course.{Course}
use Rattle.dn_view.specs.declared.system.System.{System}
use Rattle.dn_view.specs.Courses.{IsCourse, course_records}
use Rattle.dn_view.specs.Exact.{AreExact}
use Rattle.dn_view.specs.Systems.{IsSystem}
use Rattle.dn_view.proofs.Exposed.{admissible_is_exact}
use Rattle.dn_view.proofs.Free.{free_empty}
use Rattle.dn_view.proofs.Held.{kept_are_held}
use Rattle.dn_view.proofs.Taken.{allowed_taken_are_held}

-- the kinds of a system are lawful
pub system_lawful : {K : Type 0} {V : K → Type 0} (means : (k : K) × V k → Meaning) (system : System K V) → IsSystem means system → All IsLawful (kinds_of means system.on.kinds.now)
system_lawful means system is = all_of_map _ system.on.kinds.now.list.items is.kinded.lawful

-- what tables that fit a system keep its units can hold
pub system_held : {K : Type 0} {V : K → Type 0} (means : (k : K) × V k → Meaning) (system : System K V) (set : List NodeTable) → IsSystem means system → FitsNet system.on.net.now (kinds_of means system.on.kinds.now) set → AreHeld system.on.net.now (record_kept (kinds_of means system.on.kinds.now) set)
system_held means system set is fits = kept_are_held system.on.net.now (kinds_of means system.on.kinds.now) set (system_lawful means system is) fits

-- so can they the records of a course
pub course_held : {K : Type 0} {V : K → Type 0} (means : (k : K) × V k → Meaning) (course : Course K V) → IsCourse means course → AreHeld course.system.on.net.now (course_records means course)
course_held means course is = allowed_taken_are_held course.system.on.net.now (record_kept (kinds_of means course.system.on.kinds.now) course.tables.now) course.records course.access is.system.kinded.legal.legal.shapes (system_held means course.system course.tables.now is.system is.fits) is.fitting

-- a placement is admissible where it is exact for each access
pub system_exact : {K : Type 0} {V : K → Type 0} (means : (k : K) × V k → Meaning) (system : System K V) (set : List NodeTable) (rq : Request) (p : Place) → IsSystem means system → FitsNet system.on.net.now (kinds_of means system.on.kinds.now) set → IsSet set → IsTrue (are_rights rq.rights) → IsPlacement system.on.net.now (slots_of_set (kinds_of means system.on.kinds.now) set) rq p → ((access : Access) → AreExact system.on.net.now (record_kept (kinds_of means system.on.kinds.now) set) rq p access) ↔ IsAdmissible system.on.net.now (record_kept (kinds_of means system.on.kinds.now) set) rq p
system_exact means system set rq p is fits whole rights placed = admissible_is_exact system.on.net.now (slots_of_set (kinds_of means system.on.kinds.now) set) rq p is.kinded.legal.legal (system_held means system set is fits) rights (free_empty system.on.net.now (kinds_of means system.on.kinds.now) set (system_lawful means system is) fits whole) placed
