-- The turns of a script lead from book to book as they should, and so each first part of their events gives lookups what books owe.
use Rattle.std.proofs.Common.{◌≡◌, ◌∙◌, ap, sym, subst, refl, ℕ, zero, suc, inl, inr, true, List, [], ◌∷◌, ◌++◌, drop, take, IsTrue, append_assoc}
use Rattle.std.specs.List.{All}
use Rattle.std.proofs.lemmas.List.{take-append-drop}
use Rattle.dn_base.specs.declared.device.TableEvent.{TableEvent}
use Rattle.dn_net.specs.declared.node.NodeDecl.{NodeDecl}
use Rattle.dn_kind.specs.Kind.{IsLawful, Meaning}
use Rattle.dn_kind.specs.declared.rights.Rights.{Rights}
use Rattle.dn_kind.specs.Rights.{are_rights}
use Rattle.dn_kind.specs.Units.{IsLegalWith}
use Rattle.dn_placement.specs.declared.request.Request.{Request}
use Rattle.dn_book.specs.Book.{without_id}
use Rattle.dn_book.specs.Writes.{revoke_events}
use Rattle.dn_grant.specs.Grant.{grant_of_request}
use Rattle.dn_grant.proofs.Allowed.{allowed_grant}
use Rattle.dn_vector.specs.Route.{grant_of_route}
use Rattle.dn_vector.proofs.Allowed.{allowed_route}
use Rattle.dn_module.specs.declared.command.Command.{Command}
use Rattle.dn_module.specs.declared.command.PieceTarget.{PieceTarget}
use Rattle.dn_module.specs.declared.command.Command.TheVariants.{Resolve, Lookup, View, Grant, Route, Revoke, Dump, Split, Absorb, Radix, Gather}
use Rattle.dn_script.specs.Asked.{number_or_none, numbered, request_of, rights_of}
use Rattle.dn_script.specs.Books.{IsKeptFaithful}
use Rattle.dn_script.specs.Flown.{GivesLookups, LookupsAreGiven}
use Rattle.dn_script.specs.Changed.{revoked_text}
use Rattle.dn_script.specs.Ids.{id_number, with_id}
use Rattle.dn_script.specs.Played.{added_events, turn_at}
use Rattle.dn_script.specs.Turn.{AreTurns, IsGatherTurn, IsGrantTurn, IsRevokeTurn, IsRouteTurn, IsTurn, State, Turn, events_of, start}
use Rattle.dn_script.proofs.Books.{empty_kept, pieces_keep, placed_keeps, placed_route_keeps, rights_there, without_keeps}
use Rattle.dn_script.proofs.Flown.{given_owed}
use Rattle.dn_script.proofs.Moments.{TurnGoesOn, TurnsGoOn, gather_goes_on, grant_goes_on, revoke_goes_on, still_goes_on}

module _ (kinds : List Meaning) (net : List NodeDecl) (lawful : All IsLawful kinds) (legal : IsLegalWith kinds net) where
  along : (s : State) (t u : Turn) → t ≡ u → TurnGoesOn kinds net s u → TurnGoesOn kinds net s t
  along s t u e = subst (λ (v : Turn). TurnGoesOn kinds net s v) (sym e)

  grant_goes : (s : State) (id : List ℕ) (rq : Request) (t : Turn) → IsTrue (are_rights rq.rights) → IsKeptFaithful net s.book → IsGrantTurn kinds net s id rq t → TurnGoesOn kinds net s t
  grant_goes s id rq t rights k (inl g) =
      along s t _ g.is_turn (grant_goes_on kinds net lawful legal s.book s.cleared (grant_of_request (id_number s.ids id) rq g.place) k
      (allowed_grant net s.book (id_number s.ids id) rq g.place g.placed.allowed rights g.placed.first)
      (placed_keeps net s.book (id_number s.ids id) rq g.place legal.legal rights k g.placed))
  grant_goes s id rq t rights k (inr r) = along s t _ r.is_turn (still_goes_on kinds net lawful legal s.book s.cleared k)

  route_goes : (s : State) (id : List ℕ) (agent line node : ℕ) (t : Turn) → IsKeptFaithful net s.book → IsRouteTurn kinds net s id agent line node t → TurnGoesOn kinds net s t
  route_goes s id agent line node t k (inl g) =
      along s t _ g.is_turn (grant_goes_on kinds net lawful legal s.book s.cleared (grant_of_route (id_number s.ids id) agent node g.vector g.place) k
      (allowed_route net s.book (id_number s.ids id) agent line node g.vector g.place g.placed.allowed g.placed.placed)
      (placed_route_keeps net s.book (id_number s.ids id) agent line node g.vector g.place legal.legal k g.placed))
  route_goes s id agent line node t k (inr r) = along s t _ r.is_turn (still_goes_on kinds net lawful legal s.book s.cleared k)

  revoke_goes : (s : State) (id : List ℕ) (t : Turn) → IsKeptFaithful net s.book → IsRevokeTurn kinds net s id t → TurnGoesOn kinds net s t
  revoke_goes s id t k (inl g) =
      along s t _ (g.is_turn ∙ ap (λ n. record { events = revoke_events net kinds s.book g.grant; reply = revoked_text id; next = record { book = without_id n s.book; cleared = true; ids = with_id s.ids id } }) (sym g.has))
      (revoke_goes_on kinds net lawful legal s.book s.cleared g.grant k g.lives (without_keeps net s.book g.grant.id legal.legal k))
  revoke_goes s id t k (inr r) = along s t _ r.is_turn (still_goes_on kinds net lawful legal s.book s.cleared k)

  gather_goes : (s : State) (agent : ℕ) (rights : Rights) (pieces : List PieceTarget) (t : Turn) → IsTrue (are_rights rights) → IsKeptFaithful net s.book → IsGatherTurn kinds net s agent rights pieces t → TurnGoesOn kinds net s t
  gather_goes s agent rights pieces t allowed k (inl g) =
      along s t _ g.is_turn (gather_goes_on kinds net lawful legal s.book s.cleared agent rights (numbered s.ids pieces) g.place k allowed g.placed
      (pieces_keep net s.book agent rights (numbered s.ids pieces) g.place legal.legal allowed k g.placed))
  gather_goes s agent rights pieces t allowed k (inr r) = along s t _ r.is_turn (still_goes_on kinds net lawful legal s.book s.cleared k)

  turn_goes : (s : State) (c : Command) (t : Turn) → IsKeptFaithful net s.book → IsTurn kinds net s c t → TurnGoesOn kinds net s t
  turn_goes s (Grant id from target base size m) t k is = grant_goes s id (request_of from target base size m) t (rights_there m) k is
  turn_goes s (Route id from line target) t k is = route_goes s id (number_or_none from.node) line (number_or_none target.node) t k is
  turn_goes s (Revoke id) t k is = revoke_goes s id t k is
  turn_goes s (Resolve target a m) t k is = along s t _ is (still_goes_on kinds net lawful legal s.book s.cleared k)
  turn_goes s (Lookup target a m) t k is = along s t _ is (still_goes_on kinds net lawful legal s.book s.cleared k)
  turn_goes s (View target m) t k is = along s t _ is (still_goes_on kinds net lawful legal s.book s.cleared k)
  turn_goes s Dump t k is = along s t _ is (still_goes_on kinds net lawful legal s.book s.cleared k)
  turn_goes s Split t k is = along s t _ is (still_goes_on kinds net lawful legal s.book s.cleared k)
  turn_goes s (Absorb target) t k is = along s t _ is (still_goes_on kinds net lawful legal s.book s.cleared k)
  turn_goes s (Radix target pool) t k is = along s t _ is (still_goes_on kinds net lawful legal s.book s.cleared k)
  turn_goes s (Gather from pieces m) t k is = gather_goes s (number_or_none from.node) (rights_of m) pieces t (rights_there m) k is

  turns_go : (s : State) (cs : List Command) (ts : List Turn) → IsKeptFaithful net s.book → AreTurns kinds net s cs ts → TurnsGoOn kinds net s ts
  turns_go s [] ts k h = subst (TurnsGoOn kinds net s) (sym h) tt
  turns_go s (c ∷ cs) ts k h =
      let g = turn_goes s c h.0 k h.3 in
      subst (TurnsGoOn kinds net s) (sym h.2) (g, turns_go h.0.next cs h.1 g.kept h.4)

  -- so it is with each first part of the events of turns
  front_given : (cs : List Command) (ts : List Turn) → AreTurns kinds net start cs ts → (log rest : List TableEvent) → log ++ rest ≡ events_of ts → GivesLookups kinds net ts log
  front_given cs ts h log rest front events s n l names there is =
      given_owed kinds net lawful legal ts (turns_go start cs ts (empty_kept net legal.legal) h) log rest front events s n l names there is

-- what follows in the events of turns what was added of them
added_front : (ts : List Turn) (whole events : ℕ) → (rest : List TableEvent) × ((events_of (take whole ts) ++ take events (turn_at ts whole).events) ++ rest ≡ events_of ts)
added_front [] whole events = none whole events
  where
    none : (w e : ℕ) → (rest : List TableEvent) × ((events_of (take w []) ++ take e (turn_at [] w).events) ++ rest ≡ [])
    none zero zero = ([], refl)
    none zero (suc e) = ([], refl)
    none (suc w) zero = ([], refl)
    none (suc w) (suc e) = ([], refl)
added_front (t ∷ ts) zero events = (
  drop events t.events ++ events_of ts,
  sym (append_assoc (take events t.events) (drop events t.events) (events_of ts)) ∙ ap (λ (l : List TableEvent). l ++ events_of ts) (take-append-drop events t.events),
)
added_front (t ∷ ts) (suc whole) events =
    let r = added_front ts whole events in (
      r.0,
      ap (λ (l : List TableEvent). l ++ r.0) (append_assoc t.events (events_of (take whole ts)) (take events (turn_at ts whole).events))
          ∙ append_assoc t.events (events_of (take whole ts) ++ take events (turn_at ts whole).events) r.0
          ∙ ap (λ (l : List TableEvent). t.events ++ l) r.1,
    )

-- and so with what a run added
pub added_given : (kinds : List Meaning) (net : List NodeDecl) (cs : List Command) (ts : List Turn) → All IsLawful kinds → IsLegalWith kinds net → AreTurns kinds net start cs ts → (whole events : ℕ) → GivesLookups kinds net ts (added_events ts whole events)
added_given kinds net cs ts lawful legal h zero events = front_given kinds net lawful legal cs ts h [] (events_of ts) refl
added_given kinds net cs ts lawful legal h (suc whole) events =
    let r = added_front ts whole events in
    front_given kinds net lawful legal cs ts h (events_of (take whole ts) ++ take events (turn_at ts whole).events) r.0 r.1

pub lookups_are_given : LookupsAreGiven
lookups_are_given kinds net commands turns lawful legal h count =
    front_given kinds net lawful legal commands turns h (take count (events_of turns)) (drop count (events_of turns)) (take-append-drop count (events_of turns))
