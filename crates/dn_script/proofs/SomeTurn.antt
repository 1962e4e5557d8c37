-- A command that meets a sound book over a legal net has a turn, and a script over it a list of turns.
use Rattle.std.proofs.Common.{◌≡◌, refl, ℕ, suc, ◌⊎◌, inl, inr, Bool, true, false, not, if◌then◌else◌, List, [], ◌∷◌, length, nat_lt, ◌+◌, take, slice_get, Option, Some, None, IsTrue}
use Rattle.std.specs.Option.{option_map}
use Rattle.dn_net.specs.declared.node.NodeDecl.{NodeDecl}
use Rattle.dn_net.specs.Decode.{is_agent_at}
use Rattle.dn_net.specs.Legal.{IsLegalNet}
use Rattle.dn_kind.specs.Kind.{Meaning}
use Rattle.dn_kind.specs.Rights.{are_rights}
use Rattle.dn_kind.specs.declared.rights.Rights.{Rights}
use Rattle.dn_tables.specs.Placement.{Place}
use Rattle.dn_placement.specs.declared.request.Request.{Request}
use Rattle.dn_placement.specs.Order.{IsFirst, NoneSuited}
use Rattle.dn_placement.specs.Roles.{is_vectors_at}
use Rattle.dn_place.specs.Targets.{is_target_at, refused_address}
use Rattle.dn_book.specs.declared.grant.Grant.{Grant as GrantPart}
use Rattle.dn_book.specs.Book.{IsSound, has_id, is_full, slots_of, without_id}
use Rattle.dn_book.specs.Writes.{revoke_events}
use Rattle.dn_gather.specs.declared.piece.Piece.{Piece}
use Rattle.dn_gather.specs.declared.refusal.GatherRefusal.{GatherRefusal}
use Rattle.dn_gather.specs.declared.refusal.GatherRefusal.TheVariants as scattered
use Rattle.dn_gather.specs.declared.scatter.Scatter.{Scatter}
use Rattle.dn_gather.specs.Gather.{IsGatherRefused, grants_of}
use Rattle.dn_gather.specs.Refusal.{address_refusal, first_refusal, first_refused, gather_refusal, is_used, target_refusal, used_refusal}
use Rattle.dn_gather.specs.Scattered.{IsFirstScatter, NoneScattered}
use Rattle.dn_grant.specs.declared.refusal.GrantRefusal.{GrantRefusal}
use Rattle.dn_grant.specs.declared.refusal.GrantRefusal.TheVariants as granted
use Rattle.dn_grant.specs.Grant.{IsGrantRefused, grant_of_request}
use Rattle.dn_grant.specs.Refusal.{grant_refusal, refusal_by}
use Rattle.dn_grant.proofs.Allowed.{unplaced}
use Rattle.dn_vector.specs.declared.refusal.RouteRefusal.{RouteRefusal}
use Rattle.dn_vector.specs.declared.refusal.RouteRefusal.TheVariants as routed
use Rattle.dn_vector.specs.Refusal.{route_refusal}
use Rattle.dn_vector.specs.Route.{IsLeastVector, IsRouteRefused, NoVector, grant_of_route}
use Rattle.dn_vector.proofs.Allowed.{unplaced as unrouted}
use Rattle.dn_module.specs.declared.command.Command.{Command}
use Rattle.dn_module.specs.declared.command.Command.TheVariants.{Resolve, Lookup, View, Grant, Route, Revoke, Dump, Split, Absorb, Radix, Gather}
use Rattle.dn_module.specs.declared.command.PieceTarget.{PieceTarget}
use Rattle.dn_script.specs.Asked.{number_or_none, numbered, request_of, rights_of}
use Rattle.dn_script.specs.Books.{IsKeptFaithful}
use Rattle.dn_script.specs.Changed.{gather_refused_text, gathered_text, grant_refused_text, granted_text, revoke_refused_text, revoked_text, route_refused_text, routed_text}
use Rattle.dn_script.specs.Ids.{id_number, with_id}
use Rattle.dn_script.specs.Turn.{AreTurns, CommandHasTurn, IsGatherTurn, IsGrantTurn, IsRevokeTurn, IsRouteTurn, IsTurn, ScriptHasTurns, State, Turn, reply, reply_turn, start, state_with_id, state_with_ids, turn_with_grant, turn_with_grants}
use Rattle.dn_script.proofs.Books.{empty_kept, rights_there, turn_keeps}
use Rattle.dn_script.proofs.Changes.{lives}
use Rattle.dn_script.proofs.Scatters.{sought_scatter}
use Rattle.dn_script.proofs.Sought.{sought, sought_vector}

-- a refusal of a grant that needs no search is the one that its turn tells
grant_early : (net : List NodeDecl) (book : List GrantPart) (id : ℕ) (rq : Request) (why : GrantRefusal) → grant_refusal net book id rq ≡ Some why → IsGrantRefused net book id rq why
grant_early net book id rq granted.IdUsed e = e
grant_early net book id rq granted.NoAgent e = e
grant_early net book id rq granted.NoTarget e = e
grant_early net book id rq (granted.NotAccepted first) e = e
grant_early net book id rq granted.BookFull e = e
grant_early net book id rq granted.NoPlacement e = absurd (by (has_id id book) (not (is_agent_at (slice_get net rq.agent))) (not (is_target_at (slice_get net rq.node))) (refused_address (slice_get net rq.node) rq.base rq.size) (is_full book) e)
  where
    by : (a b c : Bool) (o : Option ℕ) (d : Bool) → (if a then Some granted.IdUsed else (if b then Some granted.NoAgent else (if c then Some granted.NoTarget else refusal_by book o))) ≡ Some granted.NoPlacement → ⊥
    by true b c o d e = cc
    by false true c o d e = cc
    by false false true o d e = cc
    by false false false (Some first) d e = cc
    by false false false None d e = full (is_full book) e
      where
        full : (f : Bool) → (if f then Some granted.BookFull else None) ≡ Some granted.NoPlacement → ⊥
        full true e = cc
        full false e = cc

route_early : (net : List NodeDecl) (book : List GrantPart) (id agent line node : ℕ) (why : RouteRefusal) → route_refusal net book id agent node ≡ Some why → IsRouteRefused net book id agent line node why
route_early net book id agent line node routed.IdUsed e = e
route_early net book id agent line node routed.NoAgent e = e
route_early net book id agent line node routed.NoTarget e = e
route_early net book id agent line node routed.BookFull e = e
route_early net book id agent line node routed.NoPlacement e = absurd (by (has_id id book) (not (is_agent_at (slice_get net agent))) (not (is_vectors_at (slice_get net node))) (is_full book) e)
  where
    by : (a b c d : Bool) → (if a then Some routed.IdUsed else (if b then Some routed.NoAgent else (if c then Some routed.NoTarget else (if d then Some routed.BookFull else None)))) ≡ Some routed.NoPlacement → ⊥
    by true b c d e = cc
    by false true c d e = cc
    by false false true d e = cc
    by false false false true e = cc
    by false false false false e = cc

-- no refusal of pieces that needs no search is for want of a placement
abbrev IsEarly : Option GatherRefusal → Type 0
IsEarly o = o ≡ Some scattered.NoPlacement → ⊥

first_early : (a b : Option GatherRefusal) → IsEarly a → IsEarly b → IsEarly (first_refusal a b)
first_early (Some why) b x y = x
first_early None b x y = y

all_early : (test : ℕ → Piece → Option GatherRefusal) → ((i : ℕ) (p : Piece) → IsEarly (test i p)) → (i : ℕ) (ps : List Piece) → IsEarly (first_refused test i ps)
all_early test early i [] e = cc
all_early test early i (p ∷ ps) e = first_early (test i p) (first_refused test (suc i) ps) (early i p) (all_early test early (suc i) ps) e

if_early : (b : Bool) (why : GatherRefusal) → IsEarly (Some why) → IsEarly (if b then Some why else None)
if_early true why x e = x e
if_early false why x e = cc

unless_early : (b : Bool) (why : GatherRefusal) → IsEarly (Some why) → IsEarly (if b then None else Some why)
unless_early true why x e = cc
unless_early false why x e = x e

map_early : (i : ℕ) (o : Option ℕ) → IsEarly (option_map (scattered.NotAccepted i) o)
map_early i None e = cc
map_early i (Some first) e = cc

pieces_early : (net : List NodeDecl) (book : List GrantPart) (agent : ℕ) (ps : List Piece) → IsEarly (gather_refusal net book agent ps)
pieces_early net book agent ps =
    first_early _ _ (all_early (used_refusal book ps) (λ i p. if_early (is_used book (take i ps) p.id) (scattered.IdUsed i) (λ e. cc)) 0 ps)
    (first_early _ _ (unless_early (is_agent_at (slice_get net agent)) scattered.NoAgent (λ e. cc))
    (first_early _ _ (all_early (target_refusal net) (λ i p. unless_early (is_target_at (slice_get net p.node)) (scattered.NoTarget i) (λ e. cc)) 0 ps)
    (first_early _ _ (all_early (address_refusal net) (λ i p. map_early i (refused_address (slice_get net p.node) p.base p.size)) 0 ps)
    (if_early (nat_lt 4096 (length book + length ps)) scattered.BookFull (λ e. cc)))))

gather_early : (net : List NodeDecl) (book : List GrantPart) (agent : ℕ) (rights : Rights) (ps : List Piece) (why : GatherRefusal) → gather_refusal net book agent ps ≡ Some why → IsGatherRefused net book agent rights ps why
gather_early net book agent rights ps (scattered.IdUsed piece) e = e
gather_early net book agent rights ps scattered.NoAgent e = e
gather_early net book agent rights ps (scattered.NoTarget piece) e = e
gather_early net book agent rights ps (scattered.NotAccepted piece first) e = e
gather_early net book agent rights ps scattered.BookFull e = e
gather_early net book agent rights ps scattered.NoPlacement e = absurd (pieces_early net book agent ps e)

revoke_has_turn : (kinds : List Meaning) (net : List NodeDecl) (s : State) (id : List ℕ) → (t : Turn) × IsRevokeTurn kinds net s id t
revoke_has_turn kinds net s id = by (has_id (id_number s.ids id) s.book) refl
  where
    by : (b : Bool) → has_id (id_number s.ids id) s.book ≡ b → (t : Turn) × IsRevokeTurn kinds net s id t
    by true has =
        let g = lives (id_number s.ids id) s.book has in
        let t : Turn = record { events = revoke_events net kinds s.book g.0; reply = revoked_text id; next = record { book = without_id (id_number s.ids id) s.book; cleared = true; ids = with_id s.ids id } } in
        (t, inl (record { grant = g.0; lives = g.1; has = g.2; is_turn = refl }))
    by false none = (reply_turn (revoke_refused_text id) (state_with_id s id), inr (record { none = none; is_turn = refl }))

module _ (kinds : List Meaning) (net : List NodeDecl) (s : State) (legal : IsLegalNet net) (sound : IsSound net s.book) where
  grant_has_turn : (id : List ℕ) (rq : Request) → IsTrue (are_rights rq.rights) → (t : Turn) × IsGrantTurn kinds net s id rq t
  grant_has_turn id rq rights = by (grant_refusal net s.book (id_number s.ids id) rq) refl
    where
      by_place : grant_refusal net s.book (id_number s.ids id) rq ≡ None → ((p : Place) × IsFirst net (slots_of net s.book) rq None p) ⊎ NoneSuited net (slots_of net s.book) rq None → (t : Turn) × IsGrantTurn kinds net s id rq t
      by_place e (inl f) = (turn_with_grant net kinds s id (grant_of_request (id_number s.ids id) rq f.0) (granted_text id f.0.v), inl (record { place = f.0; placed = record { allowed = e; first = f.1 }; is_turn = refl }))
      by_place e (inr none) = (reply_turn (grant_refused_text id granted.NoPlacement) (state_with_id s id), inr (record { why = granted.NoPlacement; refused = unplaced net s.book (id_number s.ids id) rq legal sound e rights none; is_turn = refl }))

      by : (o : Option GrantRefusal) → grant_refusal net s.book (id_number s.ids id) rq ≡ o → (t : Turn) × IsGrantTurn kinds net s id rq t
      by (Some why) e = (reply_turn (grant_refused_text id why) (state_with_id s id), inr (record { why = why; refused = grant_early net s.book (id_number s.ids id) rq why e; is_turn = refl }))
      by None e = by_place e (sought net (slots_of net s.book) rq None)

  route_has_turn : (id : List ℕ) (agent line node : ℕ) → (t : Turn) × IsRouteTurn kinds net s id agent line node t
  route_has_turn id agent line node = by (route_refusal net s.book (id_number s.ids id) agent node) refl
    where
      by_vector : route_refusal net s.book (id_number s.ids id) agent node ≡ None → ((vector : ℕ) × (p : Place) × IsLeastVector net s.book agent line node vector p) ⊎ NoVector net s.book agent line node → (t : Turn) × IsRouteTurn kinds net s id agent line node t
      by_vector e (inl f) = (turn_with_grant net kinds s id (grant_of_route (id_number s.ids id) agent node f.0 f.1) (routed_text id f.0), inl (record { vector = f.0; place = f.1; placed = record { allowed = e; placed = f.2 }; is_turn = refl }))
      by_vector e (inr none) = (reply_turn (route_refused_text id routed.NoPlacement) (state_with_id s id), inr (record { why = routed.NoPlacement; refused = unrouted net s.book (id_number s.ids id) agent line node legal sound e none; is_turn = refl }))

      by : (o : Option RouteRefusal) → route_refusal net s.book (id_number s.ids id) agent node ≡ o → (t : Turn) × IsRouteTurn kinds net s id agent line node t
      by (Some why) e = (reply_turn (route_refused_text id why) (state_with_id s id), inr (record { why = why; refused = route_early net s.book (id_number s.ids id) agent line node why e; is_turn = refl }))
      by None e = by_vector e (sought_vector net s.book agent line node)

  gather_has_turn : (agent : ℕ) (rights : Rights) (pieces : List PieceTarget) → (t : Turn) × IsGatherTurn kinds net s agent rights pieces t
  gather_has_turn agent rights pieces = by (gather_refusal net s.book agent (numbered s.ids pieces)) refl
    where
      by_scatter : gather_refusal net s.book agent (numbered s.ids pieces) ≡ None → ((p : Scatter) × IsFirstScatter net (slots_of net s.book) agent rights (numbered s.ids pieces) p) ⊎ NoneScattered net (slots_of net s.book) agent rights (numbered s.ids pieces) → (t : Turn) × IsGatherTurn kinds net s agent rights pieces t
      by_scatter e (inl f) = (turn_with_grants net kinds s pieces (grants_of agent rights (numbered s.ids pieces) f.0) (gathered_text f.0.v (length pieces)), inl (record { place = f.0; placed = record { allowed = e; first = f.1 }; is_turn = refl }))
      by_scatter e (inr none) = (reply_turn (gather_refused_text scattered.NoPlacement) (state_with_ids s pieces), inr (record { why = scattered.NoPlacement; refused = record { allowed = e; none = none }; is_turn = refl }))

      by : (o : Option GatherRefusal) → gather_refusal net s.book agent (numbered s.ids pieces) ≡ o → (t : Turn) × IsGatherTurn kinds net s agent rights pieces t
      by (Some why) e = (reply_turn (gather_refused_text why) (state_with_ids s pieces), inr (record { why = why; refused = gather_early net s.book agent rights (numbered s.ids pieces) why e; is_turn = refl }))
      by None e = by_scatter e (sought_scatter net (slots_of net s.book) agent rights (numbered s.ids pieces))

  has_turn : (c : Command) → (t : Turn) × IsTurn kinds net s c t
  has_turn (Resolve target a m) = (reply_turn (reply kinds net s.book (Resolve target a m)) s, refl)
  has_turn (Lookup target a m) = (reply_turn (reply kinds net s.book (Lookup target a m)) s, refl)
  has_turn (View target m) = (reply_turn (reply kinds net s.book (View target m)) s, refl)
  has_turn (Grant id agent node base size m) = grant_has_turn id (request_of agent node base size m) (rights_there m)
  has_turn (Route id agent line node) = route_has_turn id (number_or_none agent.node) line (number_or_none node.node)
  has_turn (Revoke id) = revoke_has_turn kinds net s id
  has_turn Dump = (reply_turn (reply kinds net s.book Dump) s, refl)
  has_turn Split = (reply_turn (reply kinds net s.book Split) s, refl)
  has_turn (Absorb target) = (reply_turn (reply kinds net s.book (Absorb target)) s, refl)
  has_turn (Radix target pool) = (reply_turn (reply kinds net s.book (Radix target pool)) s, refl)
  has_turn (Gather agent pieces m) = gather_has_turn (number_or_none agent.node) (rights_of m) pieces

pub command_has_turn : CommandHasTurn
command_has_turn kinds net s c legal sound = has_turn kinds net s legal sound c

-- turn by turn, in the state that each leaves
turns_from : (kinds : List Meaning) (net : List NodeDecl) (s : State) (commands : List Command) → IsLegalNet net → IsKeptFaithful net s.book → (turns : List Turn) × AreTurns kinds net s commands turns
turns_from kinds net s [] legal kept = ([], refl)
turns_from kinds net s (c ∷ cs) legal kept =
    let t = command_has_turn kinds net s c legal kept.sound in
    let rest = turns_from kinds net t.0.next cs legal (turn_keeps kinds net s c t.0 legal kept t.1) in
    (t.0 ∷ rest.0, (t.0, rest.0, refl, t.1, rest.1))

pub script_has_turns : ScriptHasTurns
script_has_turns kinds net commands legal = turns_from kinds net start commands legal (empty_kept net legal)
