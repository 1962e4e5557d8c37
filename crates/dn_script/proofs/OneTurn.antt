-- A command that meets a sound book has one turn, and a script over a legal net one list of turns.
use Rattle.std.proofs.Common.{◌≡◌, ◌∙◌, sym, ap, subst, refl, arith, ℕ, zero, suc, ◌<◌, ◌==◌, ◌⊎◌, inl, inr, false, true, List, [], ◌∷◌, length, take, Option, Some, None, eq-eqb}
use Rattle.dn_base.proofs.Members.{member_none}
use Rattle.std.proofs.lemmas.Option.{same_Some}
use Rattle.dn_net.specs.declared.node.NodeDecl.{NodeDecl}
use Rattle.dn_net.specs.Legal.{IsLegalNet}
use Rattle.dn_kind.specs.Kind.{Meaning}
use Rattle.dn_tables.specs.Placement.{Place}
use Rattle.dn_placement.specs.declared.request.Request.{Request}
use Rattle.dn_placement.proofs.Order.{first_is_one}
use Rattle.dn_book.specs.declared.grant.Grant.{Grant as GrantPart}
use Rattle.dn_book.specs.Book.{IsSound, slots_of, without_id}
use Rattle.dn_book.specs.Writes.{revoke_events}
use Rattle.dn_book.proofs.Live.{one_grant}
use Rattle.dn_grant.specs.Grant.{IsGrantRefused, IsUnplaced, grant_of_request}
use Rattle.dn_grant.specs.declared.refusal.GrantRefusal.{GrantRefusal}
use Rattle.dn_grant.specs.declared.refusal.GrantRefusal.TheVariants.{IdUsed, NoAgent, NoTarget, NotAccepted, BookFull, NoPlacement}
use Rattle.dn_grant.specs.Refusal.{grant_refusal}
use Rattle.dn_gather.specs.declared.scatter.Scatter.{Scatter}
use Rattle.dn_gather.specs.declared.piece.Piece.{Piece}
use Rattle.dn_gather.specs.Gather.{IsGatherRefused, IsUnscattered, grants_of}
use Rattle.dn_gather.specs.declared.refusal.GatherRefusal.{GatherRefusal}
use Rattle.dn_gather.specs.declared.refusal.GatherRefusal.TheVariants as gather
use Rattle.dn_gather.specs.Refusal.{gather_refusal}
use Rattle.dn_gather.proofs.Chosen.{first_scatter_is_one}
use Rattle.dn_kind.specs.declared.rights.Rights.{Rights}
use Rattle.dn_vector.specs.declared.refusal.RouteRefusal.{RouteRefusal}
use Rattle.dn_vector.specs.declared.refusal.RouteRefusal.TheVariants as route
use Rattle.dn_vector.specs.Refusal.{route_refusal}
use Rattle.dn_vector.specs.Route.{IsLeastVector, IsRouteRefused, IsUnplacedRoute, grant_of_route}
use Rattle.dn_vector.specs.Vectors.{vector_request}
use Rattle.dn_module.specs.declared.command.Command.{Command}
use Rattle.dn_module.specs.declared.command.PieceTarget.{PieceTarget}
use Rattle.dn_module.specs.declared.command.Command.TheVariants.{Resolve, Lookup, View, Grant, Route, Revoke, Dump, Split, Absorb, Radix, Gather}
use Rattle.dn_script.specs.Asked.{number_or_none, numbered, request_of, rights_of}
use Rattle.dn_script.specs.Books.{IsKeptFaithful}
use Rattle.dn_script.specs.Changed.{gather_refused_text, gathered_text, grant_refused_text, granted_text, revoked_text, route_refused_text, routed_text}
use Rattle.dn_script.specs.Ids.{id_number, with_id}
use Rattle.dn_script.specs.Turn.{AreTurns, FirstTurnsAreFirst, IsGatherTurn, IsGrantTurn, IsRevokeTurn, IsRouteTurn, State, Turn, TurnIsOne, TurnsAreOne, reply_turn, start, state_with_id, state_with_ids, turn_with_grant, turn_with_grants}
use Rattle.dn_script.proofs.Books.{empty_kept, turn_keeps}

-- a refusal is that for want of a placement, or the one that needs no search
told : (net : List NodeDecl) (book : List GrantPart) (id : ℕ) (rq : Request) (why : GrantRefusal) → IsGrantRefused net book id rq why → ((why ≡ NoPlacement) × IsUnplaced net book id rq) ⊎ (grant_refusal net book id rq ≡ Some why)
told net book id rq IdUsed r = inr r
told net book id rq NoAgent r = inr r
told net book id rq NoTarget r = inr r
told net book id rq (NotAccepted first) r = inr r
told net book id rq BookFull r = inr r
told net book id rq NoPlacement r = inl (refl, r)

told_route : (net : List NodeDecl) (book : List GrantPart) (id agent line node : ℕ) (why : RouteRefusal) → IsRouteRefused net book id agent line node why → ((why ≡ route.NoPlacement) × IsUnplacedRoute net book id agent line node) ⊎ (route_refusal net book id agent node ≡ Some why)
told_route net book id agent line node route.IdUsed r = inr r
told_route net book id agent line node route.NoAgent r = inr r
told_route net book id agent line node route.NoTarget r = inr r
told_route net book id agent line node route.BookFull r = inr r
told_route net book id agent line node route.NoPlacement r = inl (refl, r)

-- what is allowed is not refused
not_both : {A : Type 0} (o : Option A) (a : A) → o ≡ None → o ≡ Some a → ⊥
not_both o a e f = let c : None ≡ Some a = sym e ∙ f in cc

told_gather : (net : List NodeDecl) (book : List GrantPart) (agent : ℕ) (rights : Rights) (ps : List Piece) (why : GatherRefusal) → IsGatherRefused net book agent rights ps why → ((why ≡ gather.NoPlacement) × IsUnscattered net book agent rights ps) ⊎ (gather_refusal net book agent ps ≡ Some why)
told_gather net book agent rights ps (gather.IdUsed piece) r = inr r
told_gather net book agent rights ps gather.NoAgent r = inr r
told_gather net book agent rights ps (gather.NoTarget piece) r = inr r
told_gather net book agent rights ps (gather.NotAccepted piece first) r = inr r
told_gather net book agent rights ps gather.BookFull r = inr r
told_gather net book agent rights ps gather.NoPlacement r = inl (refl, r)

-- two refusals are one: each is that for want of a placement, or the one that needs no search
one_why : {W U : Type 0} (none why other : W) (o : Option W) → (U → o ≡ None) → ((why ≡ none) × U) ⊎ (o ≡ Some why) → ((other ≡ none) × U) ⊎ (o ≡ Some other) → why ≡ other
one_why none why other o allowed (inl e) (inl f) = e.0 ∙ sym f.0
one_why none why other o allowed (inl e) (inr f) = absurd (not_both o other (allowed e.1) f)
one_why none why other o allowed (inr e) (inl f) = absurd (not_both o why (allowed f.1) e)
one_why none why other o allowed (inr e) (inr f) = same_Some why other (sym e ∙ f)

-- what is allowed and placed is not refused
not_refused : {W U : Type 0} (none why : W) (o : Option W) → o ≡ None → (U → ⊥) → ((why ≡ none) × U) ⊎ (o ≡ Some why) → ⊥
not_refused none why o free placed (inl e) = placed e.1
not_refused none why o free placed (inr e) = not_both o why free e

-- pieces are granted at one place, or refused for one reason
gather_one : (kinds : List Meaning) (net : List NodeDecl) (s : State) (agent : ℕ) (rights : Rights) (pieces : List PieceTarget) (t u : Turn) → IsGatherTurn kinds net s agent rights pieces t → IsGatherTurn kinds net s agent rights pieces u → t ≡ u
gather_one kinds net s agent rights pieces t u (inl g) (inl h) =
    let ps : List Piece = numbered s.ids pieces in
    let same : g.place ≡ h.place = first_scatter_is_one net (slots_of net s.book) agent rights ps g.place h.place g.placed.first h.placed.first in
    g.is_turn ∙ ap (λ (p : Scatter). turn_with_grants net kinds s pieces (grants_of agent rights ps p) (gathered_text p.v (length pieces))) same ∙ sym h.is_turn
gather_one kinds net s agent rights pieces t u (inl g) (inr h) =
    let ps : List Piece = numbered s.ids pieces in
    absurd (not_refused gather.NoPlacement h.why (gather_refusal net s.book agent ps) g.placed.allowed (λ (n : IsUnscattered net s.book agent rights ps). n.none g.place g.placed.first.suited) (told_gather net s.book agent rights ps h.why h.refused))
gather_one kinds net s agent rights pieces t u (inr g) (inl h) =
    let ps : List Piece = numbered s.ids pieces in
    absurd (not_refused gather.NoPlacement g.why (gather_refusal net s.book agent ps) h.placed.allowed (λ (n : IsUnscattered net s.book agent rights ps). n.none h.place h.placed.first.suited) (told_gather net s.book agent rights ps g.why g.refused))
gather_one kinds net s agent rights pieces t u (inr g) (inr h) =
    let ps : List Piece = numbered s.ids pieces in
    let same : g.why ≡ h.why = one_why gather.NoPlacement g.why h.why (gather_refusal net s.book agent ps) (λ (n : IsUnscattered net s.book agent rights ps). n.allowed) (told_gather net s.book agent rights ps g.why g.refused) (told_gather net s.book agent rights ps h.why h.refused) in
    g.is_turn ∙ ap (λ why. reply_turn (gather_refused_text why) (state_with_ids s pieces)) same ∙ sym h.is_turn

module _ (kinds : List Meaning) (net : List NodeDecl) (s : State) (id : List ℕ) (t u : Turn) where
  abbrev number : ℕ
  number = id_number s.ids id

  grant_one : (rq : Request) → IsGrantTurn kinds net s id rq t → IsGrantTurn kinds net s id rq u → t ≡ u
  grant_one rq (inl g) (inl h) =
      let same : g.place ≡ h.place = first_is_one net (slots_of net s.book) rq None g.place h.place g.placed.first h.placed.first in
      g.is_turn ∙ ap (λ (p : Place). turn_with_grant net kinds s id (grant_of_request number rq p) (granted_text id p.v)) same ∙ sym h.is_turn
  grant_one rq (inl g) (inr h) = absurd (not_refused NoPlacement h.why (grant_refusal net s.book number rq) g.placed.allowed (λ (n : IsUnplaced net s.book number rq). n.none g.place g.placed.first.suited) (told net s.book number rq h.why h.refused))
  grant_one rq (inr g) (inl h) = absurd (not_refused NoPlacement g.why (grant_refusal net s.book number rq) h.placed.allowed (λ (n : IsUnplaced net s.book number rq). n.none h.place h.placed.first.suited) (told net s.book number rq g.why g.refused))
  grant_one rq (inr g) (inr h) =
      let same : g.why ≡ h.why = one_why NoPlacement g.why h.why (grant_refusal net s.book number rq) (λ (n : IsUnplaced net s.book number rq). n.allowed) (told net s.book number rq g.why g.refused) (told net s.book number rq h.why h.refused) in
      g.is_turn ∙ ap (λ why. reply_turn (grant_refused_text id why) (state_with_id s id)) same ∙ sym h.is_turn

  module _ (agent line node : ℕ) where
    -- the least vector is one, and so is its first placement

    one_vector : (v w : ℕ) (p q : Place) → IsLeastVector net s.book agent line node v p → IsLeastVector net s.book agent line node w q → v ≡ w
    one_vector v w p q f g = go (cases v w)
      where
        cases : (v w : ℕ) → (v < w) ⊎ ((w < v) ⊎ (v ≡ w))
        cases v w = grind arith

        go : (v < w) ⊎ ((w < v) ⊎ (v ≡ w)) → v ≡ w
        go (inl l) = absurd (g.least v l f.free p f.first.suited)
        go (inr (inl l)) = absurd (f.least w l g.free q g.first.suited)
        go (inr (inr e)) = e

    one_place : (v w : ℕ) (p q : Place) → v ≡ w → IsLeastVector net s.book agent line node v p → IsLeastVector net s.book agent line node w q → p ≡ q
    one_place v w p q e f g = first_is_one net (slots_of net s.book) (vector_request agent node v) (Some line) p q f.first (subst (λ (x : ℕ). IsLeastVector net s.book agent line node x q) (sym e) g).first

    route_one : IsRouteTurn kinds net s id agent line node t → IsRouteTurn kinds net s id agent line node u → t ≡ u
    route_one (inl g) (inl h) =
        let vector = one_vector g.vector h.vector g.place h.place g.placed.placed h.placed.placed in
        let place = one_place g.vector h.vector g.place h.place vector g.placed.placed h.placed.placed in
        g.is_turn
        ∙ ap (λ (v : ℕ). turn_with_grant net kinds s id (grant_of_route number agent node v g.place) (routed_text id v)) vector
        ∙ ap (λ (p : Place). turn_with_grant net kinds s id (grant_of_route number agent node h.vector p) (routed_text id h.vector)) place
        ∙ sym h.is_turn
    route_one (inl g) (inr h) = absurd (not_refused route.NoPlacement h.why (route_refusal net s.book number agent node) g.placed.allowed (λ (n : IsUnplacedRoute net s.book number agent line node). n.none g.vector g.placed.placed.free g.place g.placed.placed.first.suited) (told_route net s.book number agent line node h.why h.refused))
    route_one (inr g) (inl h) = absurd (not_refused route.NoPlacement g.why (route_refusal net s.book number agent node) h.placed.allowed (λ (n : IsUnplacedRoute net s.book number agent line node). n.none h.vector h.placed.placed.free h.place h.placed.placed.first.suited) (told_route net s.book number agent line node g.why g.refused))
    route_one (inr g) (inr h) =
        let same : g.why ≡ h.why = one_why route.NoPlacement g.why h.why (route_refusal net s.book number agent node) (λ (n : IsUnplacedRoute net s.book number agent line node). n.allowed) (told_route net s.book number agent line node g.why g.refused) (told_route net s.book number agent line node h.why h.refused) in
        g.is_turn ∙ ap (λ why. reply_turn (route_refused_text id why) (state_with_id s id)) same ∙ sym h.is_turn

  -- a live grant of an id is one

  abbrev revoked : GrantPart → Turn
  revoked k = record { events = revoke_events net kinds s.book k; reply = revoked_text id; next = record { book = without_id number s.book; cleared = true; ids = with_id s.ids id } }

  revoke_one : IsLegalNet net → IsSound net s.book → IsRevokeTurn kinds net s id t → IsRevokeTurn kinds net s id u → t ≡ u
  revoke_one legal sound (inl g) (inl h) =
      let same : h.grant ≡ g.grant = one_grant net legal s.book g.grant sound g.lives h.grant h.lives (h.has ∙ sym g.has) in
      g.is_turn
      ∙ ap revoked (sym same)
      ∙ sym h.is_turn
  revoke_one legal sound (inl g) (inr h) =
      let no = member_none (λ (k : GrantPart). k.id == number) s.book g.grant h.none g.lives in
      let is = eq-eqb g.grant.id number g.has in
      let c : true ≡ false = sym is ∙ no in
      cc
  revoke_one legal sound (inr g) (inl h) =
      let no = member_none (λ (k : GrantPart). k.id == number) s.book h.grant g.none h.lives in
      let is = eq-eqb h.grant.id number h.has in
      let c : true ≡ false = sym is ∙ no in
      cc
  revoke_one legal sound (inr g) (inr h) = g.is_turn ∙ sym h.is_turn

pub turn_is_one : TurnIsOne
turn_is_one kinds net s (Grant id from target base size m) t u legal sound g h = grant_one kinds net s id t u (request_of from target base size m) g h
turn_is_one kinds net s (Route id from line target) t u legal sound g h = route_one kinds net s id t u (number_or_none from.node) line (number_or_none target.node) g h
turn_is_one kinds net s (Revoke id) t u legal sound g h = revoke_one kinds net s id t u legal sound g h
turn_is_one kinds net s (Resolve target a m) t u legal sound g h = g ∙ sym h
turn_is_one kinds net s (Lookup target a m) t u legal sound g h = g ∙ sym h
turn_is_one kinds net s (View target m) t u legal sound g h = g ∙ sym h
turn_is_one kinds net s Dump t u legal sound g h = g ∙ sym h
turn_is_one kinds net s Split t u legal sound g h = g ∙ sym h
turn_is_one kinds net s (Absorb target) t u legal sound g h = g ∙ sym h
turn_is_one kinds net s (Radix target pool) t u legal sound g h = g ∙ sym h
turn_is_one kinds net s (Gather from pieces m) t u legal sound g h = gather_one kinds net s (number_or_none from.node) (rights_of m) pieces t u g h

-- turn by turn, in the state that both leave

one_by_one : (kinds : List Meaning) (net : List NodeDecl) (s : State) (cs : List Command) (ts us : List Turn) → IsLegalNet net → IsKeptFaithful net s.book → AreTurns kinds net s cs ts → AreTurns kinds net s cs us → ts ≡ us
one_by_one kinds net s [] ts us legal kept g h = g ∙ sym h
one_by_one kinds net s (c ∷ cs) ts us legal kept g h =
    let same : g.0 ≡ h.0 = turn_is_one kinds net s c g.0 h.0 legal kept.sound g.3 h.3 in
    let later : AreTurns kinds net g.0.next cs h.1 = subst (λ (t : Turn). AreTurns kinds net t.next cs h.1) (sym same) h.4 in
    let rest : g.1 ≡ h.1 = one_by_one kinds net g.0.next cs g.1 h.1 legal (turn_keeps kinds net s c g.0 legal kept g.3) g.4 later in
    g.2 ∙ ap (λ (l : List Turn). g.0 ∷ l) rest ∙ ap (λ (t : Turn). t ∷ h.1) same ∙ sym h.2

pub turns_are_one : TurnsAreOne
turns_are_one kinds net commands turns others legal g h = one_by_one kinds net start commands turns others legal (empty_kept net legal) g h

-- the first turns are turns of the first commands
front_turns : (kinds : List Meaning) (net : List NodeDecl) (s : State) (cs : List Command) (ts : List Turn) (count : ℕ) → AreTurns kinds net s cs ts → AreTurns kinds net s (take count cs) (take count ts)
front_turns kinds net s cs ts zero h = refl
front_turns kinds net s [] ts (suc count) h = ap (take (suc count)) h
front_turns kinds net s (c ∷ cs) ts (suc count) h = (h.0, take count h.1, ap (take (suc count)) h.2, h.3, front_turns kinds net h.0.next cs h.1 count h.4)

pub first_turns_are_first : FirstTurnsAreFirst
first_turns_are_first kinds net commands count first turns legal h all =
    turns_are_one kinds net (take count commands) first (take count turns) legal h (front_turns kinds net start commands turns count all)
