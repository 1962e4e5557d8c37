-- What is known of the unit in which pieces are to stand.
use Rattle.std.specs.Prelude.{◌≡◌, ℕ, suc, ◌+◌, ◌^◌, ◌<◌, ◌≤◌, List, [], ◌∷◌, drop, length, slice_get, take, Some, IsTrue}
use Rattle.std.specs.List.{All}
use Rattle.dn_net.specs.declared.node.NodeDecl.{NodeDecl}
use Rattle.dn_net.specs.declared.node.Unit.{Unit as UnitPart}
use Rattle.dn_net.specs.Decode.{is_agent_at, top, unit_at}
use Rattle.dn_kind.specs.declared.rights.Rights.{Rights}
use Rattle.dn_kind.specs.Kind.{Meaning}
use Rattle.dn_kind.specs.Kinded.{kinds_of}
use Rattle.dn_kind.specs.Rights.{are_rights}
use Rattle.dn_tables.specs.Set.{FitsNet, IsSet}
use Rattle.dn_tables.specs.declared.placement.Hop.{Hop}
use Rattle.dn_placement.specs.declared.request.Request.{Request}
use Rattle.dn_placement.specs.Slots.{Slots, slots_of_set}
use Rattle.dn_view.specs.Systems.{IsSystem}
use Rattle.dn_place.specs.declared.exits.Exit.{Exit}
use Rattle.dn_place.specs.Exits.{AreExits}
use Rattle.dn_place.specs.Sought.{HasUnitBounds}
use Rattle.dn_gather.specs.declared.ground.Ground.{Ground}
use Rattle.dn_gather.specs.declared.part.Part.{Part}
use Rattle.dn_gather.specs.declared.piece.Piece.{Piece}
use Rattle.dn_gather.specs.declared.scatter.Scatter.{Scatter}
use Rattle.dn_gather.specs.declared.wanted.Wanted.{Wanted}
use Rattle.dn_gather.specs.Firsts.{AreFirstHops, NoneAt}
use Rattle.dn_gather.specs.Scattered.{piece_request}
use Rattle.dn_gather.specs.Stands.{AreUsed, AreWindows, CanStand, Stands, inputs}

-- a piece has an address, and none past the last
pub record IsSized (p : Piece) : Type 0 where
  pub some : 1 ≤ p.size
  pub buffer : p.base + p.size ≤ top + 1

-- how many addresses pieces have
abbrev pub total : List Piece → ℕ
total [] = 0
total (p ∷ ps) = p.size + total ps

-- pieces for which placements are looked for: one to eight, each with an address
pub record ArePieces (ps : List Piece) : Type 0 where
  pub some : 1 ≤ length ps
  pub few : length ps ≤ 8
  pub each : All IsSized ps

-- for each piece the outputs that give it
abbrev pub AreExitsOfPieces : List NodeDecl → UnitPart → ℕ → Rights → List Piece → List (List Exit) → Type 0
AreExitsOfPieces net u agent rights [] [] = Unit {0}
AreExitsOfPieces net u agent rights (p ∷ ps) (es ∷ rest) =
    AreExits net u (piece_request agent rights p) es × AreExitsOfPieces net u agent rights ps rest
AreExitsOfPieces net u agent rights _ _ = ⊥

-- the tables fit the net, and an agent asks for pieces with rights
pub record IsWanted {K : Type 0} {V : K → Type 0} (means : (k : K) × V k → Meaning) (w : Wanted K V) : Type 0 where
  pub system : IsSystem means w.system
  pub fits : FitsNet w.system.on.net.now (kinds_of means w.system.on.kinds.now) w.tables.now
  pub set : IsSet w.tables.now
  pub agent : IsTrue (is_agent_at (slice_get w.system.on.net.now w.agent))
  pub rights : IsTrue (are_rights w.rights)
  pub pieces : ArePieces w.pieces.now

-- the slots as the tables have them
abbrev pub wanted_slots : {K : Type 0} {V : K → Type 0} → ((k : K) × V k → Meaning) → Wanted K V → Slots
wanted_slots means w = slots_of_set (kinds_of means w.system.on.kinds.now) w.tables.now

-- what the agent asks for in a piece
abbrev pub request_for : {K : Type 0} {V : K → Type 0} → Wanted K V → Piece → Request
request_for w p = piece_request w.agent w.rights p

-- from an address of the agent on no hops of a unit place the pieces so that each is admissible by itself
abbrev pub NoneFor : {K : Type 0} {V : K → Type 0} → ((k : K) × V k → Meaning) → Wanted K V → ℕ → ℕ → Type 0
NoneFor means w unit v =
    NoneAt w.system.on.net.now (wanted_slots means w) w.agent w.rights w.pieces.now unit v

-- from an address of the agent on hops of a unit place the pieces, each the first for its piece
abbrev pub FirstFor : {K : Type 0} {V : K → Type 0} → ((k : K) × V k → Meaning) → Wanted K V → ℕ → ℕ → List Hop →
    Type 0
FirstFor means w unit v hops =
    AreFirstHops w.system.on.net.now (wanted_slots means w) w.agent w.rights unit v w.pieces.now hops

-- hops of a unit place the pieces, each the first for its piece, and they do not so from a lesser address that is this
-- one or past it
pub record IsFoundFrom {K : Type 0} {V : K → Type 0} (means : (k : K) × V k → Meaning) (w : Wanted K V)
    (unit from : ℕ) (s : Scatter) : Type 0 where
  pub in_unit : s.unit ≡ unit
  pub past : from ≤ s.v
  pub hops : FirstFor means w unit s.v s.hops
  pub lesser : (v : ℕ) → from ≤ v → v < s.v → NoneFor means w unit v

-- so it is from no lesser address, and in no lesser unit
pub record IsFoundFirst {K : Type 0} {V : K → Type 0} (means : (k : K) × V k → Meaning) (w : Wanted K V)
    (s : Scatter) : Type 0 where
  pub hops : FirstFor means w s.unit s.v s.hops
  pub lesser : (v : ℕ) → v < s.v → NoneFor means w s.unit v
  pub others : (unit v : ℕ) → unit < s.unit → NoneFor means w unit v

-- what is looked for is so, and what is told of the unit
pub record IsGround {K : Type 0} {V : K → Type 0} (means : (k : K) × V k → Meaning) (g : Ground K V) : Type 0 where
  pub wanted : IsWanted means g.wanted
  pub is_unit : unit_at g.wanted.system.on.net.now g.unit ≡ Some g.translator.now
  pub bounds : HasUnitBounds g.wanted.system.on.net.now g.translator.now
  pub windows : AreWindows g.wanted.system.on.net.now g.wanted.agent g.unit (inputs g.translator.now) g.windows.now
  pub used : AreUsed g.wanted.tables.now g.unit g.translator.now.slots g.used.now
  pub exits : AreExitsOfPieces g.wanted.system.on.net.now g.translator.now g.wanted.agent g.wanted.rights
      g.wanted.pieces.now g.exits.now
  pub count : length g.exits.now ≡ length g.wanted.pieces.now

-- the outputs give the piece
abbrev pub AreExitsOn : {K : Type 0} {V : K → Type 0} → Ground K V → Piece → List Exit → Type 0
AreExitsOn g p exits =
    AreExits g.wanted.system.on.net.now g.translator.now (request_for g.wanted p) exits

-- a piece stands in the unit at an address of the agent and an input
abbrev pub StandsOn : {K : Type 0} {V : K → Type 0} → Ground K V → Piece → ℕ → ℕ → Type 0
StandsOn g p a x =
    Stands g.wanted.system.on.net.now g.wanted.tables.now g.translator.now g.wanted.agent g.unit a p.size x

-- a piece can stand there: an output gives it, and no other address of an agent enters the unit there
abbrev pub CanStandOn : {K : Type 0} {V : K → Type 0} → Ground K V → Piece → ℕ → ℕ → Type 0
CanStandOn g p a x = CanStand g.wanted.system.on.net.now g.wanted.tables.now g.translator.now g.wanted.agent
    g.unit g.wanted.rights p a x

-- It is the piece of this number, with the outputs that give it, and its address where pieces are one after another
-- from an address of the agent on.
pub record IsPart {K : Type 0} {V : K → Type 0} (g : Ground K V) (v i : ℕ) (t : Part) : Type 0 where
  pub item : drop i g.wanted.pieces.now ≡ t.piece ∷ drop (suc i) g.wanted.pieces.now
  pub address : t.a ≡ v + total (take i g.wanted.pieces.now)
  pub few : t.a ≤ 2 ^ 60
  pub sized : IsSized t.piece
  pub exits : AreExitsOn g t.piece t.exits.now
