-- The turns of a script: what each command does to the device, what it is answered by, and the state
-- that it leaves.
use Rattle.std.specs.Prelude.{◌≡◌, ℕ, ◌⊎◌, Bool, true, false, List, [], ◌∷◌, ◌++◌, length, take}
use Rattle.std.specs.List.{flat_map}
use Rattle.dn_base.specs.declared.device.TableEvent.{TableEvent}
use Rattle.dn_net.specs.declared.node.NodeDecl.{NodeDecl}
use Rattle.dn_net.specs.Chain.{Member}
use Rattle.dn_net.specs.Legal.{IsLegalNet}
use Rattle.dn_kind.specs.declared.rights.Rights.{Rights}
use Rattle.dn_kind.specs.Kind.{Meaning}
use Rattle.dn_tables.specs.Placement.{Place}
use Rattle.dn_image.specs.Image.{image}
use Rattle.dn_module.specs.declared.command.Command.{Command}
use Rattle.dn_module.specs.declared.command.Command.TheVariants.{Resolve, Lookup, View, Grant, Route, Revoke, Dump, Split, Absorb, Radix, Gather}
use Rattle.dn_module.specs.declared.command.PieceTarget.{PieceTarget}
use Rattle.dn_placement.specs.declared.request.Request.{Request}
use Rattle.dn_book.specs.declared.grant.Grant.{Grant as GrantPart}
use Rattle.dn_book.specs.Book.{IsSound, has_id, without_id}
use Rattle.dn_book.specs.Tables.{tables_of}
use Rattle.dn_book.specs.Writes.{grant_events, revoke_events}
use Rattle.dn_grant.specs.Grant.{IsGrantRefused, IsPlaced, grant_of_request}
use Rattle.dn_grant.specs.declared.refusal.GrantRefusal.{GrantRefusal}
use Rattle.dn_gather.specs.declared.scatter.Scatter.{Scatter}
use Rattle.dn_gather.specs.Gather.{IsGatherRefused, IsScattered, grants_of}
use Rattle.dn_gather.specs.Grants.{gather_events}
use Rattle.dn_gather.specs.declared.refusal.GatherRefusal.{GatherRefusal}
use Rattle.dn_vector.specs.declared.refusal.RouteRefusal.{RouteRefusal}
use Rattle.dn_vector.specs.Route.{IsPlacedRoute, IsRouteRefused, grant_of_route}
use Rattle.dn_print.specs.Dump.{dump_text}
use Rattle.dn_script.specs.Changed.{gather_refused_text, gathered_text, grant_refused_text, granted_text, revoke_refused_text, revoked_text, route_refused_text, routed_text}
use Rattle.dn_script.specs.Asked.{number_or_none, numbered, request_of, rights_of, with_ids}
use Rattle.dn_script.specs.Found.{lookup_text, resolve_text}
use Rattle.dn_script.specs.Ids.{id_number, with_id}
use Rattle.dn_script.specs.Radix.{radix_text}
use Rattle.dn_script.specs.Viewed.{view_text}
use Rattle.dn_script.specs.Reshape.{split_text, absorb_text}

-- what commands meet: the live grants, in the order in which they were granted; whether a record was
-- cleared since the last fence, or since the units were made; and the ids that came so far
pub record State : Type 0 where
  pub book : List GrantPart
  pub cleared : Bool
  pub ids : List (List ℕ)

-- no grant lives before the first command
abbrev pub start : State
start = record { book = []; cleared = false; ids = [] }

-- what is done to the device, in order, what is then written, and the state that is left
pub record Turn : Type 0 where
  pub events : List TableEvent
  pub reply : List ℕ
  pub next : State

-- a turn that leaves the device and the state as they are
abbrev pub reply_turn : List ℕ → State → Turn
reply_turn reply s = record { events = []; reply = reply; next = s }

-- the state after an id came
abbrev pub state_with_id : State → List ℕ → State
state_with_id s id = record { book = s.book; cleared = s.cleared; ids = with_id s.ids id }

-- the turn in which a grant comes into the book: a fence where one is due, and the writes of its records
abbrev pub turn_with_grant : List NodeDecl → List Meaning → State → List ℕ → GrantPart → List ℕ → Turn
turn_with_grant net kinds s id g reply = record {
  events = grant_events net kinds s.book s.cleared g;
  reply = reply;
  next = record { book = s.book ++ g ∷ []; cleared = false; ids = with_id s.ids id };
}

-- the state after the ids of pieces came, in order
abbrev pub state_with_ids : State → List PieceTarget → State
state_with_ids s pieces =
    record { book = s.book; cleared = s.cleared; ids = with_ids s.ids pieces }

-- whether a record was cleared since the last fence, after grants came into the book: the first waits for a fence
abbrev pub cleared_after : Bool → List GrantPart → Bool
cleared_after cleared [] = cleared
cleared_after cleared (g ∷ gs) = false

-- the turn in which the grants of pieces come into the book, in order: a fence where one is due, and the writes
-- of their records
abbrev pub turn_with_grants : List NodeDecl → List Meaning → State → List PieceTarget → List GrantPart →
    List ℕ → Turn
turn_with_grants net kinds s pieces gs reply = record {
  events = gather_events net kinds s.book s.cleared gs;
  reply = reply;
  next = record {
    book = s.book ++ gs;
    cleared = cleared_after s.cleared gs;
    ids = with_ids s.ids pieces;
  };
}

-- a request is granted at the first admissible placement
pub record IsGranted (kinds : List Meaning) (net : List NodeDecl) (s : State) (id : List ℕ)
    (rq : Request) (t : Turn) : Type 0 where
  pub place : Place
  pub placed : IsPlaced net s.book (id_number s.ids id) rq place
  pub is_turn : t ≡ turn_with_grant net kinds s id (grant_of_request (id_number s.ids id) rq place)
      (granted_text id place.v)

-- a request is refused, by the first refusal that holds
pub record IsNotGranted (net : List NodeDecl) (s : State) (id : List ℕ) (rq : Request) (t : Turn)
    : Type 0 where
  pub why : GrantRefusal
  pub refused : IsGrantRefused net s.book (id_number s.ids id) rq why
  pub is_turn : t ≡ reply_turn (grant_refused_text id why) (state_with_id s id)

-- a line is routed to the least free vector that has an admissible placement there
pub record IsRouted (kinds : List Meaning) (net : List NodeDecl) (s : State) (id : List ℕ)
    (agent line node : ℕ) (t : Turn) : Type 0 where
  pub vector : ℕ
  pub place : Place
  pub placed : IsPlacedRoute net s.book (id_number s.ids id) agent line node vector place
  pub is_turn : t ≡ turn_with_grant net kinds s id (grant_of_route (id_number s.ids id) agent node vector place)
      (routed_text id vector)

-- a route is refused, by the first refusal that holds
pub record IsNotRouted (net : List NodeDecl) (s : State) (id : List ℕ) (agent line node : ℕ)
    (t : Turn) : Type 0 where
  pub why : RouteRefusal
  pub refused : IsRouteRefused net s.book (id_number s.ids id) agent line node why
  pub is_turn : t ≡ reply_turn (route_refused_text id why) (state_with_id s id)

-- a live grant is taken out of the book: its records that no other grant shares are cleared
pub record IsRevoked (kinds : List Meaning) (net : List NodeDecl) (s : State) (id : List ℕ) (t : Turn)
    : Type 0 where
  pub grant : GrantPart
  pub lives : Member grant s.book
  pub has : grant.id ≡ id_number s.ids id
  pub is_turn : t ≡ record {
    events = revoke_events net kinds s.book grant;
    reply = revoked_text id;
    next = record { book = without_id (id_number s.ids id) s.book; cleared = true; ids = with_id s.ids id };
  }

-- there is no live grant to be revoked
pub record IsNotRevoked (s : State) (id : List ℕ) (t : Turn) : Type 0 where
  pub none : has_id (id_number s.ids id) s.book ≡ false
  pub is_turn : t ≡ reply_turn (revoke_refused_text id) (state_with_id s id)

-- pieces are granted at the first admissible scattered placement, each under its own id
pub record IsGathered (kinds : List Meaning) (net : List NodeDecl) (s : State) (agent : ℕ)
    (rights : Rights) (pieces : List PieceTarget) (t : Turn) : Type 0 where
  pub place : Scatter
  pub placed : IsScattered net s.book agent rights (numbered s.ids pieces) place
  pub is_turn : t ≡ turn_with_grants net kinds s pieces
      (grants_of agent rights (numbered s.ids pieces) place) (gathered_text place.v (length pieces))

-- pieces are refused, by the first refusal that holds; their ids have their numbers from then on
pub record IsNotGathered (net : List NodeDecl) (s : State) (agent : ℕ) (rights : Rights)
    (pieces : List PieceTarget) (t : Turn) : Type 0 where
  pub why : GatherRefusal
  pub refused : IsGatherRefused net s.book agent rights (numbered s.ids pieces) why
  pub is_turn : t ≡ reply_turn (gather_refused_text why) (state_with_ids s pieces)

-- the turn of a grant
abbrev pub IsGrantTurn : List Meaning → List NodeDecl → State → List ℕ → Request → Turn → Type 0
IsGrantTurn kinds net s id rq t = IsGranted kinds net s id rq t ⊎ IsNotGranted net s id rq t

-- the turn of a route
abbrev pub IsRouteTurn : List Meaning → List NodeDecl → State → List ℕ → ℕ → ℕ → ℕ → Turn → Type 0
IsRouteTurn kinds net s id agent line node t =
    IsRouted kinds net s id agent line node t ⊎ IsNotRouted net s id agent line node t

-- the turn of a revoke
abbrev pub IsRevokeTurn : List Meaning → List NodeDecl → State → List ℕ → Turn → Type 0
IsRevokeTurn kinds net s id t = IsRevoked kinds net s id t ⊎ IsNotRevoked s id t

-- the turn of a gather
abbrev pub IsGatherTurn : List Meaning → List NodeDecl → State → ℕ → Rights → List PieceTarget →
    Turn → Type 0
IsGatherTurn kinds net s agent rights pieces t =
    IsGathered kinds net s agent rights pieces t ⊎ IsNotGathered net s agent rights pieces t

-- the reply to the command is written piece by piece
abbrev pub is_pieced : Command → Bool
is_pieced Dump = true
is_pieced (View target m) = true
is_pieced (Radix target pool) = true
is_pieced _ = false

-- the command may change the book
abbrev pub is_change : Command → Bool
is_change (Resolve target a m) = false
is_change (Lookup target a m) = false
is_change (View target m) = false
is_change (Grant id agent node base size m) = true
is_change (Route id agent line node) = true
is_change (Revoke id) = true
is_change Dump = false
is_change Split = false
is_change (Absorb target) = false
is_change (Radix target pool) = false
is_change (Gather agent pieces m) = true

-- the reply to a command that changes nothing; the others have none here
abbrev pub reply : List Meaning → List NodeDecl → List GrantPart → Command → List ℕ
reply kinds net book (Resolve target a m) = resolve_text net book target a m
reply kinds net book (Lookup target a m) = lookup_text net book target a m
reply kinds net book (View target m) = view_text net book target m
reply kinds net book Dump = dump_text (image net kinds (tables_of net kinds book))
reply kinds net book Split = split_text kinds net
reply kinds net book (Absorb target) = absorb_text kinds net target
reply kinds net book (Radix target pool) = radix_text kinds net book target pool
reply kinds net book (Grant id agent node base size m) = []
reply kinds net book (Route id agent line node) = []
reply kinds net book (Revoke id) = []
reply kinds net book (Gather agent pieces m) = []

-- the turn of a command that changes nothing
abbrev pub IsReplyTurn : List Meaning → List NodeDecl → State → Command → Turn → Type 0
IsReplyTurn kinds net s c t = t ≡ reply_turn (reply kinds net s.book c) s

-- the turn of a command in a state
abbrev pub IsTurn : List Meaning → List NodeDecl → State → Command → Turn → Type 0
IsTurn kinds net s (Resolve target a m) t = IsReplyTurn kinds net s (Resolve target a m) t
IsTurn kinds net s (Lookup target a m) t = IsReplyTurn kinds net s (Lookup target a m) t
IsTurn kinds net s (View target m) t = IsReplyTurn kinds net s (View target m) t
IsTurn kinds net s (Grant id agent node base size m) t =
    IsGrantTurn kinds net s id (request_of agent node base size m) t
IsTurn kinds net s (Route id agent line node) t =
    IsRouteTurn kinds net s id (number_or_none agent.node) line (number_or_none node.node) t
IsTurn kinds net s (Revoke id) t = IsRevokeTurn kinds net s id t
IsTurn kinds net s Dump t = IsReplyTurn kinds net s Dump t
IsTurn kinds net s Split t = IsReplyTurn kinds net s Split t
IsTurn kinds net s (Absorb target) t = IsReplyTurn kinds net s (Absorb target) t
IsTurn kinds net s (Radix target pool) t = IsReplyTurn kinds net s (Radix target pool) t
IsTurn kinds net s (Gather agent pieces m) t =
    IsGatherTurn kinds net s (number_or_none agent.node) (rights_of m) pieces t

-- the turns of commands in order, each in the state that those before it left
abbrev pub AreTurns : List Meaning → List NodeDecl → State → List Command → List Turn → Type 0
AreTurns kinds net s [] turns = turns ≡ []
AreTurns kinds net s (c ∷ cs) turns =
    (t : Turn) × (rest : List Turn) × (turns ≡ t ∷ rest) × IsTurn kinds net s c t
    × AreTurns kinds net t.next cs rest

-- the state that turns leave
abbrev pub state_after : State → List Turn → State
state_after s [] = s
state_after s (t ∷ ts) = state_after t.next ts

-- the replies of turns, one after the other
abbrev pub replies_of : List Turn → List ℕ
replies_of turns = flat_map (λ t. t.reply) turns

-- the events of turns, one after the other
abbrev pub events_of : List Turn → List TableEvent
events_of turns = flat_map (λ t. t.events) turns

-- A command that meets a sound book over a legal net has a turn.
abbrev pub CommandHasTurn : Type 0
CommandHasTurn = (kinds : List Meaning) (net : List NodeDecl) (s : State) (c : Command) → IsLegalNet net →
    IsSound net s.book → (t : Turn) × IsTurn kinds net s c t

-- A script over a legal net has a list of turns.
abbrev pub ScriptHasTurns : Type 0
ScriptHasTurns = (kinds : List Meaning) (net : List NodeDecl) (commands : List Command) → IsLegalNet net →
    (turns : List Turn) × AreTurns kinds net start commands turns

-- A command that meets a sound book has one turn at most.
abbrev pub TurnIsOne : Type 0
TurnIsOne = (kinds : List Meaning) (net : List NodeDecl) (s : State) (c : Command) (t u : Turn) →
    IsLegalNet net → IsSound net s.book → IsTurn kinds net s c t → IsTurn kinds net s c u → t ≡ u

-- A script over a legal net has one list of turns at most.
abbrev pub TurnsAreOne : Type 0
TurnsAreOne = (kinds : List Meaning) (net : List NodeDecl) (commands : List Command)
    (turns others : List Turn) → IsLegalNet net → AreTurns kinds net start commands turns →
    AreTurns kinds net start commands others → turns ≡ others

-- The turns of the first commands of a script over a legal net are the first turns of the script.
abbrev pub FirstTurnsAreFirst : Type 0
FirstTurnsAreFirst = (kinds : List Meaning) (net : List NodeDecl) (commands : List Command) (count : ℕ)
    (first turns : List Turn) → IsLegalNet net → AreTurns kinds net start (take count commands) first →
    AreTurns kinds net start commands turns → first ≡ take count turns
