-- The stops of a name: the first of them, and that in a net with no chain of 65 steps what is reached at all is reached.
use Rattle.std.proofs.Common.{◌≡◌, ℕ, ◌<◌, ◌≤◌, ◌⊎◌, inl, inr, true, List, [], ◌∷◌, length, slice_get, Option, Some, None, is_some, IsTrue, refl, ap, arith, leb-true}
use Rattle.std.proofs.lemmas.Bool.{le-leb}
use Rattle.std.proofs.lemmas.Option.{slice_get_within}
use Rattle.dn_net.specs.declared.node.Name.{Name}
use Rattle.dn_net.specs.declared.node.NodeDecl.{NodeDecl}
use Rattle.dn_net.specs.Chain.{Member, IsChain, Reaches, ReachesWithin}
use Rattle.dn_net.specs.declared.node.Unit.{Unit as UnitPart}
use Rattle.std.specs.List.{list_all}
use Rattle.dn_net.specs.Decode.{top, is_agent_at, is_formed, is_stop, is_stop_at, sent_names, unit_of, unit_at, steps, step_limit, Step}
use Rattle.dn_net.specs.Names.{sorted_names, passing_names, reached_names, stop_names}
use Rattle.dn_net.specs.Firsts.{first_of}
use Rattle.dn_net.specs.UnitRules.{IsShallow}
use Rattle.dn_net.proofs.Chains.{chain_front}
use Rattle.dn_net.proofs.Firsts.{NoLater}
use Rattle.dn_net.proofs.Resolution.{names_in, end_names_are_ends}
use Rattle.dn_net.proofs.Steps.{node_at, unit_is_bare}
use Rattle.dn_net.proofs.Ways.{IsFirstNameOr, first_sorted}

-- a chain of any length is one of at most 65 steps
pub shallow_reach : (net : List NodeDecl) → IsShallow net → (x y : Name) → Reaches (Step net) x y → ReachesWithin (Step net) step_limit x y
shallow_reach net shallow x y r = by r.0 r.1 (split r.0 step_limit)
  where
    split : (k n : ℕ) → (k ≤ n) ⊎ (n ≤ k)
    split k n = grind arith

    by : (k : ℕ) → IsChain (Step net) k x y → (k ≤ step_limit) ⊎ (step_limit ≤ k) → ReachesWithin (Step net) step_limit x y
    by k c (inl l) = (k, l, c)
    by k c (inr l) = let f = chain_front (Step net) step_limit k x y l c in absurd (shallow x f.0 f.1)

-- a stop that is reached is listed
pub stop_listed : (net : List NodeDecl) → IsShallow net → (x s : Name) → IsTrue (is_stop net s) → Reaches (Step net) x s → Member s (stop_names net x)
stop_listed net shallow x s is r = (end_names_are_ends (steps net) (is_stop net) step_limit x s).1 (is, shallow_reach net shallow x s r)

-- and what is listed is a stop that is reached
pub listed_stop : (net : List NodeDecl) (x s : Name) → Member s (stop_names net x) → IsTrue (is_stop net s) × Reaches (Step net) x s
listed_stop net x s m =
    let e = (end_names_are_ends (steps net) (is_stop net) step_limit x s).0 m in
    (e.0, (e.1.0, e.1.2))

-- the first of the stops of a name, or that there is none
pub record IsFirstStop (net : List NodeDecl) (x s : Name) : Type 0 where
  pub listed : Member s (stop_names net x)
  pub first : (z : Name) → Member z (stop_names net x) → NoLater s z

abbrev pub IsFirstStopOr : List NodeDecl → Name → Option Name → Type 0
IsFirstStopOr net x None = (z : Name) → Member z (stop_names net x) → ⊥
IsFirstStopOr net x (Some s) = IsFirstStop net x s

pub first_stop_is : (net : List NodeDecl) (x : Name) → IsFirstStopOr net x (first_of (stop_names net x))
first_stop_is net x = by (first_of (sorted_names reached)) (first_sorted reached)
  where
    reached : List Name
    reached = passing_names (is_stop net) (reached_names (steps net) step_limit (x ∷ []))

    by : (o : Option Name) → IsFirstNameOr reached o → IsFirstStopOr net x o
    by None f = λ z m. f z ((names_in reached z).0 m)
    by (Some s) f = record { listed = (names_in reached s).1 f.member; first = (λ z m. f.least z ((names_in reached z).0 m)) }

-- a stop stands in a node that is there
pub stop_there : (net : List NodeDecl) (s : Name) → IsTrue (is_stop net s) → s.node < length net
stop_there net s is = by (slice_get net s.node) refl is
  where
    by : (o : Option NodeDecl) → slice_get net s.node ≡ o → IsTrue (is_stop_at s.addr (unit_of o)) → s.node < length net
    by None e h = cc
    by (Some n) e h = slice_get_within net s.node n e

-- an agent is a node that is there
pub agent_there : (net : List NodeDecl) (node : ℕ) → IsTrue (is_agent_at (slice_get net node)) → node < length net
agent_there net node is = by (slice_get net node) refl is
  where
    by : (o : Option NodeDecl) → slice_get net node ≡ o → IsTrue (is_agent_at o) → node < length net
    by None e a = cc
    by (Some n) e a = slice_get_within net node n e

pub stop_unit : (net : List NodeDecl) (s : Name) → IsTrue (is_stop net s) → (is_some (unit_at net s.node) ≡ true) × (s.addr ≤ top)
stop_unit net s is = by (unit_at net s.node) is
  where
    by : (o : Option UnitPart) → IsTrue (is_stop_at s.addr o) → (is_some o ≡ true) × (s.addr ≤ top)
    by None h = cc
    by (Some u) h = (refl, leb-true s.addr top h)

-- and a name of a unit is a stop
pub unit_stop : (net : List NodeDecl) (s : Name) → is_some (unit_at net s.node) ≡ true → s.addr ≤ top → IsTrue (is_stop net s)
unit_stop net s some low = by (unit_at net s.node) some
  where
    by : (o : Option UnitPart) → is_some o ≡ true → IsTrue (is_stop_at s.addr o)
    by None h = cc
    by (Some u) h = le-leb s.addr top low

-- a stop has no step
pub stop_still : (net : List NodeDecl) → IsTrue (list_all is_formed net) → (s : Name) → IsTrue (is_stop net s) → steps net s ≡ []
stop_still net formed s is =
    let bare = unit_is_bare (slice_get net s.node) s.addr (λ n at. node_at is_formed net s.node formed n at) (stop_unit net s is).0 in
    ap sent_names bare.1
