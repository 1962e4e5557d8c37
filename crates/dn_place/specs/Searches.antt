-- What is known of a search before it begins.
use Rattle.std.specs.Prelude.{◌≤◌, IsTrue}
use Rattle.dn_kind.specs.Kind.{Meaning}
use Rattle.dn_kind.specs.Kinded.{kinds_of}
use Rattle.dn_kind.specs.Rights.{are_rights}
use Rattle.dn_tables.specs.Set.{FitsNet}
use Rattle.dn_placement.specs.Slots.{slots_of_set}
use Rattle.dn_view.specs.Systems.{IsSystem}
use Rattle.dn_tables.specs.declared.placement.Hop.{Hop}
use Rattle.dn_tables.specs.Placement.{Place}
use Rattle.dn_place.specs.declared.cursor.HopCursor.{HopCursor}
use Rattle.dn_place.specs.declared.hops.Hops.{Hops}
use Rattle.dn_place.specs.declared.search.Search.{Search}
use Rattle.dn_place.specs.Blocks.{HasBlocks}
use Rattle.dn_place.specs.Cursors.{GivesHop, GoesOnWithoutHop, IsCursor, IsToCome, LeavesInputs}
use Rattle.dn_place.specs.Hops.{hops_view}
use Rattle.dn_place.specs.KeptNames.{AreKeptNames}
use Rattle.dn_place.specs.Reaches.{IsHopReach}
use Rattle.dn_place.specs.Sought.{IsSearchReady, Sought}

-- what a search looks for: the slots are those of its tables
abbrev pub sought : {K : Type 0} {V : K → Type 0} → ((k : K) × V k → Meaning) → Search K V → Sought
sought means s = record {
  net = s.system.on.net.now;
  slots = slots_of_set (kinds_of means s.system.on.kinds.now) s.tables.now;
  request = s.request;
  at = s.reach.now.at;
}

-- the tables fit the net; the marks tell where the agent's hops can stand; blocks of the power are kept whole; other
-- agents come to the kept names by the records in use; and there are at most three hops
pub record IsSearch {K : Type 0} {V : K → Type 0} (means : (k : K) × V k → Meaning) (s : Search K V) : Type 0 where
  pub system : IsSystem means s.system
  pub fits : FitsNet s.system.on.net.now (kinds_of means s.system.on.kinds.now) s.tables.now
  pub rights : IsTrue (are_rights s.request.rights)
  pub ready : IsSearchReady (sought means s)
  pub reach : IsHopReach s.system.on.net.now s.request.agent s.reach.now
  pub whole : HasBlocks s.system.on.net.now s.block
  pub kept : AreKeptNames s.system.on.net.now (sought means s).slots.held s.request s.kept.now
  pub most : s.count ≤ 3

-- the cursor stands among the hops that can come before the nearer ones
abbrev pub StandsAt : {K : Type 0} {V : K → Type 0} → ((k : K) × V k → Meaning) → Search K V → Hops → HopCursor → Type 0
StandsAt means s nearer c = IsCursor (sought means s) s.count (hops_view nearer) s.reach.now.units.items c

-- it is none that the cursor has yet to give with which a placement goes on
abbrev pub NoneToCome : {K : Type 0} {V : K → Type 0} → ((k : K) × V k → Meaning) → Search K V → Hops → HopCursor → Type 0
NoneToCome means s nearer c =
    (q : Place) → IsToCome (sought means s) s.count (hops_view nearer) s.reach.now.units.items c q → ⊥

-- the cursor has given this hop
abbrev pub HandsOut : {K : Type 0} {V : K → Type 0} → ((k : K) × V k → Meaning) → Search K V → Hops → HopCursor →
    HopCursor → Hop → Type 0
HandsOut means s nearer old new hop =
    GivesHop (sought means s) s.count (hops_view nearer) s.reach.now.units.items old new hop

-- the cursor has gone on without giving one
abbrev pub Advances : {K : Type 0} {V : K → Type 0} → ((k : K) × V k → Meaning) → Search K V → Hops → HopCursor →
    HopCursor → Type 0
Advances means s nearer old new =
    GoesOnWithoutHop (sought means s) s.count (hops_view nearer) s.reach.now.units.items old new

-- the cursor has gone through the inputs at hand
abbrev pub EndsInputs : {K : Type 0} {V : K → Type 0} → ((k : K) × V k → Meaning) → Search K V → Hops → HopCursor →
    HopCursor → Type 0
EndsInputs means s nearer old new =
    LeavesInputs (sought means s) s.count (hops_view nearer) s.reach.now.units.items old new
