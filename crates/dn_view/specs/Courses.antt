-- Courses: by which records names in units go on.
use Rattle.dn_kind.specs.Kind.{Meaning}
use Rattle.dn_kind.specs.Kinded.{kinds_of}
use Rattle.dn_kind.specs.Tables.{Held, allowing}
use Rattle.dn_tables.specs.Set.{FitsNet, record_kept}
use Rattle.dn_view.specs.declared.course.Course.{Course}
use Rattle.dn_view.specs.Records.{IsFitting, records_taken}
use Rattle.dn_view.specs.Systems.{IsSystem}

-- the tables fit the system, and so does the placement whose records are taken, where one is
pub record IsCourse {K : Type 0} {V : K → Type 0} (means : (k : K) × V k → Meaning) (course : Course K V) : Type 0 where
  pub system : IsSystem means course.system
  pub fits : FitsNet course.system.on.net.now (kinds_of means course.system.on.kinds.now) course.tables.now
  pub fitting : IsFitting course.system.on.net.now course.records

-- the records of a course that allow its access
abbrev pub course_records : {K : Type 0} {V : K → Type 0} → ((k : K) × V k → Meaning) → Course K V → Held
course_records means course =
    allowing course.access (records_taken course.system.on.net.now
    (record_kept (kinds_of means course.system.on.kinds.now) course.tables.now) course.records)
