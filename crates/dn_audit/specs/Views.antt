-- What the agents of a net see under records, and the names that they see.
use Rattle.std.specs.Prelude.{ℕ, suc, ◌<◌, ◌≤◌, Bool, false, true, List, [], ◌∷◌, ◌++◌, slice_get, IsTrue}
use Rattle.dn_interval.specs.declared.span.TheConstants.{TOP}
use Rattle.dn_net.specs.declared.node.Name.{Name}
use Rattle.dn_net.specs.declared.node.NodeDecl.{NodeDecl}
use Rattle.dn_net.specs.Decode.{is_agent, is_agent_at}
use Rattle.dn_kind.specs.declared.rights.Access.{Access}
use Rattle.dn_kind.specs.declared.rights.Access.TheVariants.{Read, Write}
use Rattle.dn_kind.specs.Tables.{Held, ResolvesUnder, allowing}
use Rattle.dn_view.specs.Views.{AreViewed}
use Rattle.dn_audit.specs.declared.report.Seen.{Seen}

-- an agent and an access
pub record Viewer : Type 0 where
  pub agent : ℕ
  pub access : Access

-- whose view it is, and for which access
abbrev pub viewer_of : Seen → Viewer
viewer_of s = record { agent = s.agent; access = s.access }

-- a node that is an agent, for reading and then for writing
abbrev pub viewers_at : ℕ → Bool → List Viewer
viewers_at node false = []
viewers_at node true =
    record { agent = node; access = Read } ∷ record { agent = node; access = Write } ∷ []

-- the agents among nodes from a number on, ascending, each for reading and then for writing
abbrev pub viewers : ℕ → List NodeDecl → List Viewer
viewers node [] = []
viewers node (n ∷ ns) = viewers_at node (is_agent n.role) ++ viewers (suc node) ns

-- the rows of the view are what its agent sees for its access under the records
abbrev pub IsSeen : List NodeDecl → Held → Seen → Type 0
IsSeen net h s = AreViewed net (allowing s.access h) s.agent s.rows

-- each of the views is
abbrev pub AreSeen : List NodeDecl → Held → List Seen → Type 0
AreSeen net h [] = Unit {0}
AreSeen net h (s ∷ rest) = IsSeen net h s × AreSeen net h rest

-- an agent sees a name: some address of it resolves to the name, for some access
abbrev pub Sees : List NodeDecl → Held → ℕ → Name → Type 0
Sees net h agent x = IsTrue (is_agent_at (slice_get net agent))
    × ((access : Access) × (a : ℕ) × (a ≤ TOP)
    × ResolvesUnder net (allowing access h) (record { node = agent; addr = a }) x)

-- two agents see the name
abbrev pub TwoSee : List NodeDecl → Held → Name → Type 0
TwoSee net h x = (g : ℕ) × (k : ℕ) × (g < k) × Sees net h g x × Sees net h k x
