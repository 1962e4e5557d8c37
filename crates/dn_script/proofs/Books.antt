-- The books of a script stay sound and faithful, turn by turn.
use Rattle.std.proofs.Common.{◌≡◌, sym, subst, refl, ℕ, zero, suc, inl, inr, List, [], ◌∷◌, ◌++◌, take, IsTrue}
use Rattle.dn_net.specs.declared.node.NodeDecl.{NodeDecl}
use Rattle.dn_net.specs.Legal.{IsLegalNet}
use Rattle.dn_parse.specs.declared.syntax.Mode.{Mode}
use Rattle.dn_parse.specs.declared.syntax.Mode.TheVariants.{Unsaid, Read, Write}
use Rattle.dn_kind.specs.Kind.{Meaning}
use Rattle.dn_kind.specs.Rights.{are_rights}
use Rattle.dn_tables.specs.Placement.{Place}
use Rattle.dn_placement.specs.declared.request.Request.{Request}
use Rattle.dn_book.specs.declared.grant.Grant.{Grant as GrantPart}
use Rattle.dn_book.specs.Book.{without_id}
use Rattle.dn_book.proofs.Faithful.{empty_book_is_faithful, grant_keeps_book, revoke_keeps_book}
use Rattle.dn_grant.specs.Grant.{IsPlaced, grant_of_request}
use Rattle.dn_grant.proofs.Allowed.{allowed_grant}
use Rattle.dn_kind.specs.declared.rights.Rights.{Rights}
use Rattle.dn_gather.specs.Gather.{IsScattered, grants_of}
use Rattle.dn_gather.specs.declared.piece.Piece.{Piece}
use Rattle.dn_gather.specs.declared.scatter.Scatter.{Scatter}
use Rattle.dn_gather.proofs.Allowed.{scattered_grants}
use Rattle.dn_gather.proofs.Coming.{pieces_keep_book}
use Rattle.dn_vector.specs.Route.{IsPlacedRoute, grant_of_route}
use Rattle.dn_vector.proofs.Allowed.{allowed_route}
use Rattle.dn_module.specs.declared.command.Command.{Command}
use Rattle.dn_module.specs.declared.command.PieceTarget.{PieceTarget}
use Rattle.dn_module.specs.declared.command.Command.TheVariants.{Resolve, Lookup, View, Grant, Route, Revoke, Dump, Split, Absorb, Radix, Gather}
use Rattle.dn_script.specs.Asked.{number_or_none, numbered, request_of, rights_of}
use Rattle.dn_script.specs.Books.{BooksStayFaithful, IsKeptFaithful}
use Rattle.dn_script.specs.Ids.{id_number}
use Rattle.dn_script.specs.Turn.{AreTurns, IsGatherTurn, IsGrantTurn, IsRevokeTurn, IsRouteTurn, IsTurn, State, Turn, start, state_after}

-- a grant asks for rights
pub rights_there : (m : Mode) → IsTrue (are_rights (rights_of m))
rights_there Unsaid = refl
rights_there Read = refl
rights_there Write = refl

along : (net : List NodeDecl) (t u : Turn) → t ≡ u → IsKeptFaithful net u.next.book → IsKeptFaithful net t.next.book
along net t u e h = subst (λ (v : Turn). IsKeptFaithful net v.next.book) (sym e) h

-- a grant at an admissible placement keeps the book
pub placed_keeps : (net : List NodeDecl) (book : List GrantPart) (id : ℕ) (rq : Request) (p : Place) → IsLegalNet net → IsTrue (are_rights rq.rights) → IsKeptFaithful net book → IsPlaced net book id rq p → IsKeptFaithful net (book ++ grant_of_request id rq p ∷ [])
placed_keeps net book id rq p legal rights b placed =
    let keeps = grant_keeps_book net book (grant_of_request id rq p) legal b.sound (allowed_grant net book id rq p placed.allowed rights placed.first) in
    record { sound = keeps.0; faithful = keeps.1 b.faithful placed.first.suited.admissible }

-- so does a route
pub placed_route_keeps : (net : List NodeDecl) (book : List GrantPart) (id agent line node v : ℕ) (p : Place) → IsLegalNet net → IsKeptFaithful net book → IsPlacedRoute net book id agent line node v p → IsKeptFaithful net (book ++ grant_of_route id agent node v p ∷ [])
placed_route_keeps net book id agent line node v p legal b placed =
    let keeps = grant_keeps_book net book (grant_of_route id agent node v p) legal b.sound (allowed_route net book id agent line node v p placed.allowed placed.placed) in
    record { sound = keeps.0; faithful = keeps.1 b.faithful placed.placed.first.suited.admissible }

-- so do the grants of pieces at a scattered placement that is admissible as a whole
pub pieces_keep : (net : List NodeDecl) (book : List GrantPart) (agent : ℕ) (rights : Rights) (ps : List Piece) (place : Scatter) → IsLegalNet net → IsTrue (are_rights rights) → IsKeptFaithful net book → IsScattered net book agent rights ps place → IsKeptFaithful net (book ++ grants_of agent rights ps place)
pieces_keep net book agent rights ps place legal allowed b placed =
    let keeps = pieces_keep_book net book agent rights place.unit place.v ps place.hops legal b.sound (scattered_grants net book agent rights ps place allowed placed) in
    record { sound = keeps.0; faithful = keeps.1 b.faithful placed.first.suited.are_admissible }

-- and taking a grant out
pub without_keeps : (net : List NodeDecl) (book : List GrantPart) (id : ℕ) → IsLegalNet net → IsKeptFaithful net book → IsKeptFaithful net (without_id id book)
without_keeps net book id legal b =
    let keeps = revoke_keeps_book net book id legal b.sound in
    record { sound = keeps.0; faithful = keeps.1 b.faithful }

-- the turn of a grant keeps the book
grant_keeps : (kinds : List Meaning) (net : List NodeDecl) (s : State) (id : List ℕ) (rq : Request) (t : Turn) → IsLegalNet net → IsTrue (are_rights rq.rights) → IsKeptFaithful net s.book → IsGrantTurn kinds net s id rq t → IsKeptFaithful net t.next.book
grant_keeps kinds net s id rq t legal rights b (inl g) = along net t _ g.is_turn (placed_keeps net s.book (id_number s.ids id) rq g.place legal rights b g.placed)
grant_keeps kinds net s id rq t legal rights b (inr r) = along net t _ r.is_turn b

-- so does that of a route
route_keeps : (kinds : List Meaning) (net : List NodeDecl) (s : State) (id : List ℕ) (agent line node : ℕ) (t : Turn) → IsLegalNet net → IsKeptFaithful net s.book → IsRouteTurn kinds net s id agent line node t → IsKeptFaithful net t.next.book
route_keeps kinds net s id agent line node t legal b (inl g) = along net t _ g.is_turn (placed_route_keeps net s.book (id_number s.ids id) agent line node g.vector g.place legal b g.placed)
route_keeps kinds net s id agent line node t legal b (inr r) = along net t _ r.is_turn b

-- and that of a revoke
revoke_keeps : (kinds : List Meaning) (net : List NodeDecl) (s : State) (id : List ℕ) (t : Turn) → IsLegalNet net → IsKeptFaithful net s.book → IsRevokeTurn kinds net s id t → IsKeptFaithful net t.next.book
revoke_keeps kinds net s id t legal b (inl g) = along net t _ g.is_turn (without_keeps net s.book (id_number s.ids id) legal b)
revoke_keeps kinds net s id t legal b (inr r) = along net t _ r.is_turn b

-- and that of a gather
gather_keeps : (kinds : List Meaning) (net : List NodeDecl) (s : State) (agent : ℕ) (rights : Rights) (pieces : List PieceTarget) (t : Turn) → IsLegalNet net → IsTrue (are_rights rights) → IsKeptFaithful net s.book → IsGatherTurn kinds net s agent rights pieces t → IsKeptFaithful net t.next.book
gather_keeps kinds net s agent rights pieces t legal allowed b (inl g) = along net t _ g.is_turn (pieces_keep net s.book agent rights (numbered s.ids pieces) g.place legal allowed b g.placed)
gather_keeps kinds net s agent rights pieces t legal allowed b (inr r) = along net t _ r.is_turn b

-- each turn keeps the book
pub turn_keeps : (kinds : List Meaning) (net : List NodeDecl) (s : State) (c : Command) (t : Turn) → IsLegalNet net → IsKeptFaithful net s.book → IsTurn kinds net s c t → IsKeptFaithful net t.next.book
turn_keeps kinds net s (Grant id from target base size m) t legal b is = grant_keeps kinds net s id (request_of from target base size m) t legal (rights_there m) b is
turn_keeps kinds net s (Route id from line target) t legal b is = route_keeps kinds net s id (number_or_none from.node) line (number_or_none target.node) t legal b is
turn_keeps kinds net s (Revoke id) t legal b is = revoke_keeps kinds net s id t legal b is
turn_keeps kinds net s (Resolve target a m) t legal b is = along net t _ is b
turn_keeps kinds net s (Lookup target a m) t legal b is = along net t _ is b
turn_keeps kinds net s (View target m) t legal b is = along net t _ is b
turn_keeps kinds net s Dump t legal b is = along net t _ is b
turn_keeps kinds net s Split t legal b is = along net t _ is b
turn_keeps kinds net s (Absorb target) t legal b is = along net t _ is b
turn_keeps kinds net s (Radix target pool) t legal b is = along net t _ is b
turn_keeps kinds net s (Gather from pieces m) t legal b is = gather_keeps kinds net s (number_or_none from.node) (rights_of m) pieces t legal (rights_there m) b is

turns_keep : (kinds : List Meaning) (net : List NodeDecl) (s : State) (cs : List Command) (ts : List Turn) → IsLegalNet net → IsKeptFaithful net s.book → AreTurns kinds net s cs ts → (count : ℕ) → IsKeptFaithful net (state_after s (take count ts)).book
turns_keep kinds net s cs ts legal b h zero = b
turns_keep kinds net s [] ts legal b h (suc count) = subst (λ (l : List Turn). IsKeptFaithful net (state_after s (take (suc count) l)).book) (sym h) b
turns_keep kinds net s (c ∷ cs) ts legal b h (suc count) =
    subst (λ (l : List Turn). IsKeptFaithful net (state_after s (take (suc count) l)).book) (sym h.2)
    (turns_keep kinds net h.0.next cs h.1 legal (turn_keeps kinds net s c h.0 legal b h.3) h.4 count)

-- the empty book
pub empty_kept : (net : List NodeDecl) → IsLegalNet net → IsKeptFaithful net []
empty_kept net legal = let e = empty_book_is_faithful net legal in record { sound = e.0; faithful = e.1 }

-- each book of a script is sound and faithful
pub books_stay_faithful : BooksStayFaithful
books_stay_faithful kinds net commands turns legal h count = turns_keep kinds net start commands turns legal (empty_kept net legal) h count
