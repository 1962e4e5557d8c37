-- What a search for a vector goes by, and the least of some vectors that has an admissible placement at a line.
use Rattle.std.specs.Prelude.{◌≡◌, ℕ, ◌<◌, ◌≤◌, true, false, List, Option, Some, None, slice_get, IsTrue}
use Rattle.dn_interval.specs.declared.span.Span.{Span}
use Rattle.dn_interval.specs.Spans.{has}
use Rattle.dn_net.specs.declared.node.Block.{Block}
use Rattle.dn_net.specs.declared.node.NodeDecl.{NodeDecl}
use Rattle.dn_net.specs.Decode.{in_some_block, is_agent_at, top}
use Rattle.dn_kind.specs.Kind.{Meaning}
use Rattle.dn_kind.specs.Kinded.{kinds_of}
use Rattle.dn_tables.specs.Placement.{Place}
use Rattle.dn_placement.specs.Order.{IsFirst}
use Rattle.dn_placement.specs.Roles.{is_vectors_at}
use Rattle.dn_book.specs.declared.grant.Grant.{Grant}
use Rattle.dn_book.specs.Book.{slots_of}
use Rattle.dn_book.specs.Tables.{IsKept}
use Rattle.dn_view.specs.Systems.{IsSystem}
use Rattle.dn_place.specs.declared.reach.ReachMarks.{ReachMarks}
use Rattle.dn_place.specs.Reaches.{IsHopReach}
use Rattle.dn_vector.specs.declared.search.Asked.{Asked}
use Rattle.dn_vector.specs.Route.{HasNoPlace}
use Rattle.dn_vector.specs.Vectors.{is_taken_vector, vector_request}

-- the system is one, the book is kept, the agent is one, and the node has vectors
pub record IsRouteAsked {K : Type 0} {V : K → Type 0} (means : (k : K) × V k → Meaning) (asked : Asked K V) : Type 0 where
  pub system : IsSystem means asked.system
  pub kept : IsKept asked.system.on.net.now (kinds_of means asked.system.on.kinds.now)
      asked.book.now.grants asked.book.now.set
  pub agent : IsTrue (is_agent_at (slice_get asked.system.on.net.now asked.agent))
  pub target : IsTrue (is_vectors_at (slice_get asked.system.on.net.now asked.node))

-- the set has just the vectors that live grants have
abbrev pub AreTaken : List Grant → ℕ → List Span → Type 0
AreTaken book node set = (a : ℕ) → a ≤ top → has set a ≡ is_taken_vector book node a

-- what a search found is such, or it found nothing, and then this holds
abbrev pub IsFoundOr : {F : Type 0} → (F → Type 0) → Type 0 → Option F → Type 0
IsFoundOr Is absent (Some found) = Is found
IsFoundOr Is absent None = absent

-- what a search among some vectors goes by: what is asked for, the marks for the line, and the vectors that are taken
pub record IsVectorSought {K : Type 0} {V : K → Type 0} (means : (k : K) × V k → Meaning) (a : Asked K V)
    (marks : ReachMarks) (set : List Span) : Type 0 where
  pub asked : IsRouteAsked means a
  pub reach : IsHopReach a.system.on.net.now a.agent marks
  pub line : marks.at ≡ Some a.line
  pub taken : AreTaken a.book.now.grants a.node set

-- no live grant has the vector, and this is its first admissible placement at the line
pub record IsVectorPlaced (net : List NodeDecl) (book : List Grant) (agent line node vector : ℕ) (p : Place)
    : Type 0 where
  pub untaken : is_taken_vector book node vector ≡ false
  pub first : IsFirst net (slots_of net book) (vector_request agent node vector) (Some line) p

-- the vector is one from a first to a last, the least of them that no live grant has and that has an
-- admissible placement at the line, and this is the first
pub record IsLeastBetween (net : List NodeDecl) (book : List Grant) (agent line node first last vector : ℕ)
    (p : Place) : Type 0 where
  pub from : first ≤ vector
  pub to : vector ≤ last
  pub placed : IsVectorPlaced net book agent line node vector p
  pub least : (lesser : ℕ) → first ≤ lesser → lesser < vector →
      is_taken_vector book node lesser ≡ false → HasNoPlace net book agent line node lesser

-- so it is of the vectors of blocks
pub record IsLeastOfBlocks (net : List NodeDecl) (book : List Grant) (agent line node : ℕ) (blocks : List Block)
    (vector : ℕ) (p : Place) : Type 0 where
  pub inside : in_some_block vector blocks ≡ true
  pub low : vector ≤ top
  pub placed : IsVectorPlaced net book agent line node vector p
  pub least : (lesser : ℕ) → lesser < vector → in_some_block lesser blocks ≡ true →
      is_taken_vector book node lesser ≡ false → HasNoPlace net book agent line node lesser
