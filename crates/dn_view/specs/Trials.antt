-- Trials: a placement that is tried for an access.
use Rattle.std.specs.Prelude.{◌≡◌, ℕ, ◌+◌, ◌≤◌, true, List, slice_get, IsTrue}
use Rattle.dn_interval.specs.declared.span.TheConstants.{TOP}
use Rattle.dn_net.specs.declared.node.Name.{Name}
use Rattle.dn_net.specs.Decode.{is_agent_at}
use Rattle.dn_kind.specs.Kind.{Meaning}
use Rattle.dn_kind.specs.Kinded.{kinds_of}
use Rattle.dn_kind.specs.declared.rights.Access.TheVariants.{Read}
use Rattle.dn_kind.specs.Tables.{Held}
use Rattle.dn_flat.specs.Levels.{is_among}
use Rattle.dn_tables.specs.Set.{FitsNet, record_kept}
use Rattle.dn_view.specs.declared.course.Course.{Course}
use Rattle.dn_view.specs.declared.records.Records.{Records}
use Rattle.dn_view.specs.declared.records.Records.TheVariants.{Kept, Fresh, Joined}
use Rattle.dn_view.specs.declared.trial.Trial.{Trial}
use Rattle.dn_view.specs.Courses.{course_records}
use Rattle.dn_view.specs.Exact.{AreExact, IsExactAt}
use Rattle.dn_view.specs.Records.{AreFitted}
use Rattle.dn_view.specs.Systems.{IsSystem}
use Rattle.dn_view.specs.Through.{ComesNewly, IsPassedOn}

-- the tables and the placement fit the system, and the buffer lies within its agent
pub record IsTrial {K : Type 0} {V : K → Type 0} (means : (k : K) × V k → Meaning) (trial : Trial K V) : Type 0 where
  pub system : IsSystem means trial.system
  pub fits : FitsNet trial.system.on.net.now (kinds_of means trial.system.on.kinds.now) trial.tables.now
  pub fitted : AreFitted trial.system.on.net.now trial.request.now trial.placement.now
  pub within : trial.placement.now.v + trial.request.now.size ≤ TOP + 1

-- the course by some records in the system of a trial, for its access
abbrev pub course_by : {K : Type 0} {V : K → Type 0} → Trial K V → Records → Course K V
course_by trial records = record {
  system = trial.system;
  tables = trial.tables;
  records = records;
  access = trial.access;
}

-- the records that the tables of a trial keep
abbrev pub trial_records : {K : Type 0} {V : K → Type 0} → ((k : K) × V k → Meaning) → Trial K V → Held
trial_records means trial =
    record_kept (kinds_of means trial.system.on.kinds.now) trial.tables.now

-- the addresses of a node show newly in a trial exactly what is asked for
abbrev pub IsExactIn : {K : Type 0} {V : K → Type 0} → ((k : K) × V k → Meaning) → Trial K V → ℕ → Type 0
IsExactIn means trial node =
    IsExactAt trial.system.on.net.now (trial_records means trial) trial.request.now trial.placement.now trial.access node

-- the trial for reading
abbrev pub reading_trial : {K : Type 0} {V : K → Type 0} → Trial K V → Trial K V
reading_trial trial = record {
  system = trial.system;
  tables = trial.tables;
  request = trial.request;
  placement = trial.placement;
  access = Read;
}

-- the addresses of every agent show newly in a trial exactly what is asked for
abbrev pub AreExactIn : {K : Type 0} {V : K → Type 0} → ((k : K) × V k → Meaning) → Trial K V → Type 0
AreExactIn means trial =
    AreExact trial.system.on.net.now (trial_records means trial) trial.request.now trial.placement.now trial.access

-- so do those of each of these nodes that is an agent
abbrev pub AreExactAmong : {K : Type 0} {V : K → Type 0} → ((k : K) × V k → Meaning) → Trial K V → List ℕ → Type 0
AreExactAmong means trial nodes = (node : ℕ) → is_among node nodes ≡ true →
    IsTrue (is_agent_at (slice_get trial.system.on.net.now node)) → IsExactIn means trial node

-- the records of the tables of a trial that allow its access
abbrev pub kept_in : {K : Type 0} {V : K → Type 0} → ((k : K) × V k → Meaning) → Trial K V → Held
kept_in means trial = course_records means (course_by trial Kept)

-- those that the placement adds in slots that hold none
abbrev pub fresh_in : {K : Type 0} {V : K → Type 0} → ((k : K) × V k → Meaning) → Trial K V → Held
fresh_in means trial = course_records means (course_by trial (Fresh trial.request trial.placement))

-- both
abbrev pub joined_in : {K : Type 0} {V : K → Type 0} → ((k : K) × V k → Meaning) → Trial K V → Held
joined_in means trial = course_records means (course_by trial (Joined trial.request trial.placement))

-- a name in a unit comes to an accepted name newly in a trial
abbrev pub ComesIn : {K : Type 0} {V : K → Type 0} → ((k : K) × V k → Meaning) → Trial K V → Name → Name → Type 0
ComesIn means trial s z =
    ComesNewly trial.system.on.net.now (kept_in means trial) (fresh_in means trial) (joined_in means trial) s z

-- a name in a unit is passed on in a trial by a record that the placement adds, and then by all
abbrev pub IsPassedIn : {K : Type 0} {V : K → Type 0} → ((k : K) × V k → Meaning) → Trial K V → Name → Name → Type 0
IsPassedIn means trial s z =
    IsPassedOn trial.system.on.net.now (fresh_in means trial) (joined_in means trial) s z
