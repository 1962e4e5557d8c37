-- From what grants, routes, gathers and revokes say to the turns of a script.
use Rattle.std.specs.Option.{IfSome}
use Rattle.std.proofs.Common.{◌≡◌, ◌≢◌, ◌∙◌, ap, sym, subst, refl, arith, ℕ, suc, ◌≤◌, ◌<◌, ◌⊎◌, inl, inr, Bool, true, false, List, [], ◌∷◌, take, length, Option, Some, None, Result, Ok, Err, is_ok, OnOk, ◌==◌, ◌||◌, IsTrue, nat_le, eqb-true, leb-true}
use Rattle.std.proofs.Math.Seq.{take-length}
use Rattle.dn_base.specs.declared.device.TableEvent.{TableEvent}
use Rattle.dn_base.specs.declared.device.UnitWords.{UnitWords}
use Rattle.dn_base.specs.Device.{Logged, UnitSize}
use Rattle.dn_base.specs.Outside.{Added, IsWritten}
use Rattle.dn_base.proofs.Logs.{Logged-none}
use Rattle.dn_base.proofs.Told.{Added-none}
use Rattle.dn_base.proofs.Booleans.{and_parts, true_from_ne_false}
use Rattle.dn_net.specs.declared.node.NodeDecl.{NodeDecl}
use Rattle.dn_net.specs.Chain.{Member}
use Rattle.dn_kind.specs.Kind.{Meaning}
use Rattle.dn_tables.specs.Placement.{Place}
use Rattle.dn_placement.specs.declared.request.Request.{Request}
use Rattle.dn_placement.proofs.Order.{first_is_one}
use Rattle.dn_book.specs.declared.grant.Grant.{Grant}
use Rattle.dn_book.specs.Book.{has_id, slots_of, without_id}
use Rattle.dn_book.specs.Writes.{AreAdded, grant_events, revoke_events}
use Rattle.dn_grant.specs.Grant.{IsGrantLogged, IsGrantMade, grant_of_request}
use Rattle.dn_kind.specs.declared.rights.Rights.{Rights}
use Rattle.dn_gather.specs.declared.piece.Piece.{Piece}
use Rattle.dn_gather.specs.declared.scatter.Scatter.{Scatter}
use Rattle.dn_gather.specs.Gather.{IsGatherLogged, IsGatherMade, grants_of}
use Rattle.dn_gather.specs.Grants.{gather_events, grants_at}
use Rattle.dn_gather.specs.Scattered.{ArePlaced}
use Rattle.dn_tables.specs.declared.placement.Hop.{Hop}
use Rattle.dn_placement.specs.Slots.{Slots}
use Rattle.dn_gather.proofs.Chosen.{first_scatter_is_one}
use Rattle.dn_vector.specs.Route.{IsPlacedRoute, IsRouteLogged, IsRouteMade, grant_of_route}
use Rattle.dn_vector.specs.Vectors.{vector_request}
use Rattle.dn_book.specs.Book.{IsFaithful}
use Rattle.dn_book.specs.State.{BookState}
use Rattle.dn_book.specs.Tables.{IsKept}
use Rattle.dn_flat.specs.Levels.{AreFlats}
use Rattle.dn_image.specs.Image.{image}
use Rattle.dn_tables.specs.Set.{words_of}
use Rattle.dn_module.specs.declared.command.Command.{Command}
use Rattle.dn_module.specs.declared.command.PieceTarget.{PieceTarget}
use Rattle.dn_module.specs.declared.command.Target.{Target}
use Rattle.dn_module.specs.Commands.{has_few_pieces, names_within, nodes_within}
use Rattle.dn_parse.specs.declared.syntax.Mode.{Mode}
use Rattle.dn_module.specs.declared.command.Command.TheVariants.{Resolve, Lookup, View, Grant as GrantOf, Route, Revoke, Dump, Split, Absorb, Radix, Gather}
use Rattle.dn_script.specs.declared.state.Session.{Session as Kept}
use Rattle.dn_script.specs.declared.halt.RunHalt.{RunHalt}
use Rattle.dn_script.specs.declared.halt.RunHalt.TheVariants.{WriteFault, DeviceFault, NoMemory}
use Rattle.dn_script.specs.Asked.{numbered, with_ids}
use Rattle.dn_script.specs.Changed.{gathered_text, granted_text, revoke_refused_text, revoked_text, routed_text}
use Rattle.dn_script.specs.Halt.{ending_status, is_device_halt, is_write_halt}
use Rattle.dn_script.specs.Ids.{id_number, with_id}
use Rattle.dn_script.specs.Made.{TellsBook}
use Rattle.dn_script.specs.State.{CameThrough, CameThroughChange, IsChanged, IsFirstView, IsHalted, IsInside, IsState, state_view}
use Rattle.dn_script.specs.Stopped.{AreLeft}
use Rattle.dn_script.specs.Turn.{IsGatherTurn, IsGrantTurn, IsRevokeTurn, IsRouteTurn, IsTurn, State, Turn, cleared_after, is_change, reply, reply_turn, state_with_id, turn_with_grant, turn_with_grants}
use Rattle.dn_script.specs.Unmade.{AreUnmade}
use Rattle.dn_script.proofs.Sizes.{HasTables}

-- all events were added
added_all : (events : List TableEvent) (log log' : Option (List TableEvent)) → AreAdded events false log log' → Logged log log' events
added_all events log log' a = subst (λ es. Logged log log' es) (ap (λ n. take n events) (a.all refl) ∙ take-length events) a.logged

-- what a device has where a turn was left after all its events, at a status that is none of the device's
left_whole : (kinds : List Meaning) (net : List NodeDecl) (book : List Grant) (next : State) (t : Turn) (status : ℕ) (sizes : List UnitSize) (told : Option (List UnitWords)) → status ≢ 6 → t.next ≡ next → HasTables kinds net next.book sizes told → AreLeft kinds net book t.next.book status sizes told
left_whole kinds net book next t status sizes told other left has = record {
  units = has.units;
  stopped = λ six. absurd (other six);
  tables = λ _. subst (λ (z : State). TellsBook kinds net z.book told) (sym left) has.tables;
}

-- halts

-- there was none for the reply
pub halted_after : {D : Type 0} (kinds : List Meaning) (net : List NodeDecl) (book : List Grant) (P : Turn → Type 0) (next next' : State) (reply : List ℕ) (units : D → List UnitSize) (words : D → Option (List UnitWords)) (log : D → Option (List TableEvent)) (d d' : D) → IsChanged P next' reply (log d) (log d') → HasTables kinds net next'.book (units d') (words d') → CameThroughChange kinds net book P (Err NoMemory) next units words log d d'
halted_after kinds net book P next next' reply units words log d d' c has = λ told. inr (record {
  turn = c.turn;
  is_turn = c.is_turn;
  came = record {
    events = length c.turn.events;
    bytes = 0;
    logged = subst (λ es. Logged (log d) (log d') es) (sym (take-length c.turn.events)) c.logged;
    written = Added-none told told refl;
    in_order = λ _. refl;
    sink = λ x. absurd (omega (arith, x));
    device = λ x. absurd (omega (arith, x));
    between = λ _. refl;
  };
  left = left_whole kinds net book next' c.turn 7 (units d') (words d') (λ e. absurd (omega (arith, e))) c.left has;
})

-- the device failed among the events of a turn
pub stopped_inside : {D : Type 0} (kinds : List Meaning) (net : List NodeDecl) (book : List Grant) (P : Turn → Type 0) (t : Turn) (next : State) (units : D → List UnitSize) (words : D → Option (List UnitWords)) (log : D → Option (List TableEvent)) (d d' : D) → P t → AreAdded t.events true (log d) (log d') → AreLeft kinds net book t.next.book 6 (units d') (words d') → CameThroughChange kinds net book P (Err DeviceFault) next units words log d d'
stopped_inside kinds net book P t next units words log d d' is a left = λ told. inr (record {
  turn = t;
  is_turn = is;
  came = record {
    events = a.made;
    bytes = 0;
    logged = a.logged;
    written = Added-none told told refl;
    in_order = λ _. refl;
    sink = λ x. absurd (omega (arith, x));
    device = λ _. a.less refl;
    between = λ x. absurd (x refl);
  };
  left = left;
})

-- grants

-- a grant that was made
pub granted_turn : (kinds : List Meaning) (net : List NodeDecl) (s next : State) (id : List ℕ) (rq : Request) (v : ℕ) (book' : List Grant) (log log' : Option (List TableEvent)) (words' : List (List ℕ)) → IsGrantMade net s.book (id_number s.ids id) rq v book' → IsGrantLogged net kinds s.book s.cleared (id_number s.ids id) rq false log log' words' → record { book = book'; cleared = false; ids = with_id s.ids id } ≡ next → IsChanged (IsGrantTurn kinds net s id rq) next (granted_text id v) log log'
granted_turn kinds net s next id rq v book' log log' words' made logged left =
    let n : ℕ = id_number s.ids id in
    let same : logged.place ≡ made.place = first_is_one net (slots_of net s.book) rq None logged.place made.place logged.placed.first made.placed.first in
    let all : Logged log log' (grant_events net kinds s.book s.cleared (grant_of_request n rq logged.place)) = added_all _ log log' logged.added in
    record {
      turn = turn_with_grant net kinds s id (grant_of_request n rq made.place) (granted_text id made.place.v);
      is_turn = inl (record { place = made.place; placed = made.placed; is_turn = refl });
      logged = subst (λ (p : Place). Logged log log' (grant_events net kinds s.book s.cleared (grant_of_request n rq p))) same all;
      replied = ap (granted_text id) (sym made.address);
      left = ap (λ (b : List Grant). record { book = b; cleared = false; ids = with_id s.ids id }) (sym made.appended) ∙ left;
    }

-- the turn of a refusal that leaves this state, whose reply is this text
pub refused_turn : (P : Turn → Type 0) (after next : State) (own text : List ℕ) (log log' : Option (List TableEvent)) → P (reply_turn own after) → text ≡ own → log' ≡ log → after ≡ next → IsChanged P next text log log'
refused_turn P after next own text log log' turn is same left = record {
  turn = reply_turn own after;
  is_turn = turn;
  logged = Logged-none log log' same;
  replied = sym is;
  left = left;
}

-- routes

-- of two vectors that are the least none is less
not_less : (net : List NodeDecl) (book : List Grant) (n agent line node v w : ℕ) (p q : Place) → IsPlacedRoute net book n agent line node v p → IsPlacedRoute net book n agent line node w q → v < w → ⊥
not_less net book n agent line node v w p q a b l = b.placed.least v l a.placed.free p a.placed.first.suited

same_vector : (net : List NodeDecl) (book : List Grant) (n agent line node v w : ℕ) (p q : Place) → IsPlacedRoute net book n agent line node v p → IsPlacedRoute net book n agent line node w q → v ≡ w
same_vector net book n agent line node v w p q a b = by (grind arith)
  where
    by : (v < w) ⊎ ((w < v) ⊎ (v ≡ w)) → v ≡ w
    by (inl l) = absurd (not_less net book n agent line node v w p q a b l)
    by (inr (inl l)) = absurd (not_less net book n agent line node w v q p b a l)
    by (inr (inr e)) = e

same_place : (net : List NodeDecl) (book : List Grant) (n agent line node v w : ℕ) (p q : Place) → IsPlacedRoute net book n agent line node v p → IsPlacedRoute net book n agent line node w q → v ≡ w → p ≡ q
same_place net book n agent line node v w p q a b e =
    let c : IsPlacedRoute net book n agent line node w p = subst (λ u. IsPlacedRoute net book n agent line node u p) e a in
    first_is_one net (slots_of net book) (vector_request agent node w) (Some line) p q c.placed.first b.placed.first

-- a route that was made
pub routed_turn : (kinds : List Meaning) (net : List NodeDecl) (s next : State) (id : List ℕ) (agent line node v : ℕ) (book' : List Grant) (log log' : Option (List TableEvent)) (words' : List (List ℕ)) → IsRouteMade net s.book (id_number s.ids id) agent line node v book' → IsRouteLogged net kinds s.book s.cleared (id_number s.ids id) agent line node false log log' words' → record { book = book'; cleared = false; ids = with_id s.ids id } ≡ next → IsChanged (IsRouteTurn kinds net s id agent line node) next (routed_text id v) log log'
routed_turn kinds net s next id agent line node v book' log log' words' made logged left =
    let n : ℕ = id_number s.ids id in
    let vector : logged.vector ≡ v = same_vector net s.book n agent line node logged.vector v logged.place made.place logged.placed made.placed in
    let place : logged.place ≡ made.place = same_place net s.book n agent line node logged.vector v logged.place made.place logged.placed made.placed vector in
    let all : Logged log log' (grant_events net kinds s.book s.cleared (grant_of_route n agent node logged.vector logged.place)) = added_all _ log log' logged.added in
    let one : Logged log log' (grant_events net kinds s.book s.cleared (grant_of_route n agent node v logged.place)) = subst (λ u. Logged log log' (grant_events net kinds s.book s.cleared (grant_of_route n agent node u logged.place))) vector all in
    record {
      turn = turn_with_grant net kinds s id (grant_of_route n agent node v made.place) (routed_text id v);
      is_turn = inl (record { vector = v; place = made.place; placed = made.placed; is_turn = refl });
      logged = subst (λ (p : Place). Logged log log' (grant_events net kinds s.book s.cleared (grant_of_route n agent node v p))) place one;
      replied = refl;
      left = ap (λ (b : List Grant). record { book = b; cleared = false; ids = with_id s.ids id }) (sym made.appended) ∙ left;
    }

-- gathers

-- a command that asks for pieces asks for one to eight
pub pieces_few : (count : ℕ) (c : Command) (from : Target) (pieces : List PieceTarget) (m : Mode) → c ≡ Gather from pieces m → IsTrue (names_within count c) → (1 ≤ length pieces) × (length pieces ≤ 8)
pieces_few count c from pieces m is known =
    let asked : Command = Gather from pieces m in
    let counted : IsTrue (has_few_pieces asked) = (and_parts (has_few_pieces asked) (nodes_within count asked) (subst (λ (d : Command). IsTrue (names_within count d)) is known)).0 in
    let few = and_parts (nat_le 1 (length pieces)) (nat_le (length pieces) 8) counted in
    (leb-true 1 (length pieces) few.0, leb-true (length pieces) 8 few.1)

-- grants that came in leave no record that was cleared since the last fence, where there are any
cleared_none : (cleared : Bool) (gs : List Grant) → gs ≢ [] → cleared_after cleared gs ≡ false
cleared_none cleared [] some = absurd (some refl)
cleared_none cleared (g ∷ gs) some = refl

-- a gather that was made
gathered_turn : (kinds : List Meaning) (net : List NodeDecl) (s next : State) (agent : ℕ) (rights : Rights) (pieces : List PieceTarget) (v : ℕ) (book' : List Grant) (log log' : Option (List TableEvent)) (words' : List (List ℕ)) → (made : IsGatherMade net s.book agent rights (numbered s.ids pieces) v book') → IsGatherLogged net kinds s.book s.cleared agent rights (numbered s.ids pieces) false log log' words' book' → record { book = book'; cleared = cleared_after s.cleared (grants_of agent rights (numbered s.ids pieces) made.place); ids = with_ids s.ids pieces } ≡ next → IsChanged (IsGatherTurn kinds net s agent rights pieces) next (gathered_text v (length pieces)) log log'
gathered_turn kinds net s next agent rights pieces v book' log log' words' made logged left =
    let ps : List Piece = numbered s.ids pieces in
    let gs : List Grant = grants_of agent rights ps made.place in
    let same : logged.place ≡ made.place = first_scatter_is_one net (slots_of net s.book) agent rights ps logged.place made.place logged.placed.first made.placed.first in
    let all : Logged log log' (gather_events net kinds s.book s.cleared (grants_of agent rights ps logged.place)) = added_all _ log log' logged.committed.added in
    record {
      turn = turn_with_grants net kinds s pieces gs (gathered_text made.place.v (length pieces));
      is_turn = inl (record { place = made.place; placed = made.placed; is_turn = refl });
      logged = subst (λ (p : Scatter). Logged log log' (gather_events net kinds s.book s.cleared (grants_of agent rights ps p))) same all;
      replied = ap (λ a. gathered_text a (length pieces)) (sym made.address);
      left = ap (λ (b : List Grant). record { book = b; cleared = cleared_after s.cleared gs; ids = with_ids s.ids pieces }) (sym made.appended) ∙ left;
    }

-- revokes

-- a live grant of an id
pub lives : (id : ℕ) (book : List Grant) → has_id id book ≡ true → (g : Grant) × Member g book × (g.id ≡ id)
lives id [] e = cc
lives id (g ∷ gs) e = by (g.id == id) refl e (lives id gs)
  where
    by : (b : Bool) → (g.id == id) ≡ b → (b || has_id id gs) ≡ true → (has_id id gs ≡ true → (h : Grant) × Member h gs × (h.id ≡ id)) → (h : Grant) × Member h (g ∷ gs) × (h.id ≡ id)
    by true is f later = (g, inl refl, eqb-true g.id id is)
    by false is f later = let h = later f in (h.0, inr h.1, h.2)

-- a grant that was taken out
pub revoked_turn : (kinds : List Meaning) (net : List NodeDecl) (s next : State) (id : List ℕ) (book' : List Grant) (log log' : Option (List TableEvent)) → has_id (id_number s.ids id) s.book ≡ true → ((g : Grant) → Member g s.book → g.id ≡ id_number s.ids id → AreAdded (revoke_events net kinds s.book g) false log log') → book' ≡ without_id (id_number s.ids id) s.book → record { book = book'; cleared = true; ids = with_id s.ids id } ≡ next → IsChanged (IsRevokeTurn kinds net s id) next (revoked_text id) log log'
revoked_turn kinds net s next id book' log log' has added is left =
    let g = lives (id_number s.ids id) s.book has in
    record {
      turn = record { events = revoke_events net kinds s.book g.0; reply = revoked_text id; next = record { book = without_id (id_number s.ids id) s.book; cleared = true; ids = with_id s.ids id } };
      is_turn = inl (record { grant = g.0; lives = g.1; has = g.2; is_turn = refl });
      logged = added_all _ log log' (added g.0 g.1 g.2);
      replied = refl;
      left = ap (λ (b : List Grant). record { book = b; cleared = true; ids = with_id s.ids id }) (sym is) ∙ left;
    }

-- a revoke that was refused
pub not_revoked_turn : (kinds : List Meaning) (net : List NodeDecl) (s next : State) (id text : List ℕ) (log log' : Option (List TableEvent)) → has_id (id_number s.ids id) s.book ≡ false → text ≡ revoke_refused_text id → log' ≡ log → state_with_id s id ≡ next → IsChanged (IsRevokeTurn kinds net s id) next text log log'
not_revoked_turn kinds net s next id text log log' none is same left = refused_turn (IsRevokeTurn kinds net s id) (state_with_id s id) next (revoke_refused_text id) text log log' (inr (record { none = none; is_turn = refl })) is same left

-- replies

-- the reply was written, or a part of it
pub replied : {D : Type 0} (kinds : List Meaning) (net : List NodeDecl) (book : List Grant) (P : Turn → Type 0) (r : Result (Unit {0}) RunHalt) (next : State) (reply : List ℕ) (a b : Option (List ℕ)) (units : D → List UnitSize) (words : D → Option (List UnitWords)) (log : D → Option (List TableEvent)) (d d' : D) → IsChanged P next reply (log d) (log d') → IsWritten a b (is_ok r) (is_write_halt r) reply → is_device_halt r ≡ false → HasTables kinds net next.book (units d') (words d') → CameThrough kinds net book P r next a b units words log d d'
replied kinds net book P (Ok u) next reply a b units words log d d' c w none has = record {
  turn = c.turn;
  is_turn = c.is_turn;
  logged = c.logged;
  written = subst (λ l. Added a b l) (sym c.replied) (w.whole refl);
  left = c.left;
}
replied kinds net book P (Err h) next reply a b units words log d d' c w none has = inr (by h w none)
  where
    inside : (status bytes : ℕ) → status ≢ 6 → (status ≡ 3 → bytes < length reply) → Added a b (take bytes reply) → IsInside kinds net book P status a b (log d) (log d') (units d') (words d')
    inside status bytes not_device less added = record {
      turn = c.turn;
      is_turn = c.is_turn;
      came = record {
        events = length c.turn.events;
        bytes = bytes;
        logged = subst (λ es. Logged (log d) (log d') es) (sym (take-length c.turn.events)) c.logged;
        written = subst (λ l. Added a b (take bytes l)) (sym c.replied) added;
        in_order = λ l. absurd (omega (arith, l));
        sink = λ e. subst (λ (l : List ℕ). bytes < length l) (sym c.replied) (less e);
        device = λ e. absurd (not_device e);
        between = λ _. refl;
      };
      left = left_whole kinds net book next c.turn status (units d') (words d') not_device c.left has;
    }

    by : (k : RunHalt) → IsWritten a b false (is_write_halt {A = Unit {0}} (Err k)) reply → is_device_halt {A = Unit {0}} (Err k) ≡ false → IsInside kinds net book P (ending_status (Err k)) a b (log d) (log d') (units d') (words d')
    by WriteFault v n = let less = v.less refl in inside 3 less.0 (λ e. absurd (omega (arith, e))) (λ _. less.1) less.2
    by DeviceFault v n = absurd (cc)
    by NoMemory v n = inside 7 v.front.0 (λ e. absurd (omega (arith, e))) (λ e. absurd (omega (arith, e))) v.front.1

-- states

-- the state that a change leaves, of its parts
pub state_left : (k : Kept) (book : BookState) (ids : List (List ℕ)) (cleared : Bool) → k.book ≡ book → k.ids ≡ ids → book.cleared ≡ cleared → record { book = book.grants; cleared = cleared; ids = ids } ≡ state_view k
state_left k book ids cleared b i e =
    ap (λ (x : Bool). record { book = book.grants; cleared = x; ids = ids }) (sym e)
    ∙ ap (λ (x : List (List ℕ)). record { book = book.grants; cleared = book.cleared; ids = x }) (sym i)
    ∙ ap (λ (x : BookState). record { book = x.grants; cleared = x.cleared; ids = k.ids }) (sym b)

-- the state that a refusal leaves
pub state_named : (k : Kept) (s : State) (ids : List (List ℕ)) (book : BookState) → k.book ≡ book → s.book ≡ book.grants → s.cleared ≡ book.cleared → k.ids ≡ ids → record { book = s.book; cleared = s.cleared; ids = ids } ≡ state_view k
state_named k s ids book b g e i =
    ap (λ (x : List Grant). record { book = x; cleared = s.cleared; ids = ids }) g
    ∙ ap (λ (x : Bool). record { book = book.grants; cleared = x; ids = ids }) e
    ∙ ap (λ (x : List (List ℕ)). record { book = book.grants; cleared = book.cleared; ids = x }) (sym i)
    ∙ ap (λ (x : BookState). record { book = x.grants; cleared = x.cleared; ids = k.ids }) (sym b)

-- what is kept of a state where the book and the image are as they were
pub state_same : (kinds : List Meaning) (net : List NodeDecl) (k k' : Kept) → IsState kinds net k → k'.book ≡ k.book → k'.image ≡ k.image → IfSome k'.first (IsFirstView net) → IfSome k'.flats (AreFlats net) → AreUnmade net k'.unmade → IsState kinds net k'
state_same kinds net k k' s b i v f u = record {
  unfailed = subst (λ (x : BookState). x.unfailed ≡ true) (sym b) s.unfailed;
  faithful = subst (λ (x : BookState). IsFaithful net x.grants) (sym b) s.faithful;
  kept = subst (λ (x : BookState). IsKept net kinds x.grants x.set) (sym b) s.kept;
  bytes = subst (λ (o : Option (List ℕ)). IfSome o (λ bytes. bytes ≡ image net kinds (words_of k'.book.set))) (sym i) (subst (λ (x : BookState). IfSome k.image (λ bytes. bytes ≡ image net kinds (words_of x.set))) (sym b) s.bytes);
  first = v;
  flat = f;
  unmade = u;
}

-- the sort of a turn

-- a command that changes nothing has a turn of this sort
pub still_turn : (kinds : List Meaning) (net : List NodeDecl) (s : State) (c : Command) → is_change c ≡ false → IsTurn kinds net s c (reply_turn (reply kinds net s.book c) s)
still_turn kinds net s (Resolve target a m) e = refl
still_turn kinds net s (Lookup target a m) e = refl
still_turn kinds net s (View target m) e = refl
still_turn kinds net s Dump e = refl
still_turn kinds net s Split e = refl
still_turn kinds net s (Absorb target) e = refl
still_turn kinds net s (Radix target pool) e = refl
still_turn kinds net s (GrantOf id from target base size m) e = cc
still_turn kinds net s (Route id from line target) e = cc
still_turn kinds net s (Revoke id) e = cc
still_turn kinds net s (Gather from pieces m) e = cc

-- its reply was written, or a part of it, and the state stays
pub still_through : {D : Type 0} (kinds : List Meaning) (net : List NodeDecl) (s next : State) (c : Command) (r : Result (Unit {0}) RunHalt) (a b : Option (List ℕ)) (units : D → List UnitSize) (words : D → Option (List UnitWords)) (log : D → Option (List TableEvent)) (d : D) → is_change c ≡ false → s ≡ next → IsWritten a b (is_ok r) (is_write_halt r) (reply kinds net s.book c) → is_device_halt r ≡ false → HasTables kinds net s.book (units d) (words d) → CameThrough kinds net s.book (IsTurn kinds net s c) r next a b units words log d d
still_through kinds net s next c r a b units words log d e same w none has =
    replied kinds net s.book (IsTurn kinds net s c) r next (reply kinds net s.book c) a b units words log d d (record {
      turn = reply_turn (reply kinds net s.book c) s;
      is_turn = still_turn kinds net s c e;
      logged = Logged-none (log d) (log d) refl;
      replied = refl;
      left = same;
    }) w none (subst (λ (z : State). HasTables kinds net z.book (units d) (words d)) same has)

-- a change that halted wrote nothing
pub change_halted : {D : Type 0} (kinds : List Meaning) (net : List NodeDecl) (book : List Grant) (P : Turn → Type 0) (r : Result (List ℕ) RunHalt) (h : RunHalt) (r' : Result (Unit {0}) RunHalt) (next next' : State) (told : Option (List ℕ)) (units : D → List UnitSize) (words : D → Option (List UnitWords)) (log : D → Option (List TableEvent)) (d d' : D) → r ≡ Err h → r' ≡ Err h → CameThroughChange kinds net book P r next units words log d d' → CameThrough kinds net book P r' next' told told units words log d d'
change_halted kinds net book P r h r' next next' told units words log d d' e f c =
    let halted : (told : Option (List ℕ)) → IsHalted kinds net book P h told told units words log d d' = subst (λ (q : Result (List ℕ) RunHalt). CameThroughChange kinds net book P q next units words log d d') e c in
    subst (λ (q : Result (Unit {0}) RunHalt). CameThrough kinds net book P q next' told told units words log d d') (sym f) (halted told)

-- a state of which the book and the ids are as they were
pub state_kept : (k k' : Kept) → k'.book ≡ k.book → k'.ids ≡ k.ids → state_view k ≡ state_view k'
state_kept k k' b i =
    ap (λ (x : BookState). record { book = x.grants; cleared = x.cleared; ids = k.ids }) (sym b)
    ∙ ap (λ (x : List (List ℕ)). record { book = k'.book.grants; cleared = k'.book.cleared; ids = x }) (sym i)

-- what holds at all holds where there is an answer
pub on_ok : {A E : Type 0} (r : Result A E) (P : Type 0) → P → OnOk r P
on_ok (Ok a) P p = p
on_ok (Err e) P p = tt

-- a change of a state that is kept, made under the number of its id

-- pieces that are placed are as many grants
grants_some : (net : List NodeDecl) (slots : Slots) (agent : ℕ) (rights : Rights) (unit v : ℕ) (ps : List Piece) (hops : List Hop) → 1 ≤ length ps → ArePlaced net slots agent rights unit v ps hops → grants_at agent rights v ps hops ≢ []
grants_some net slots agent rights unit v [] hops some placed = absurd (omega (arith, some))
grants_some net slots agent rights unit v (p ∷ ps) [] some placed = absurd placed
grants_some net slots agent rights unit v (p ∷ ps) (hop ∷ hops) some placed = λ e. cc

-- as many pieces are asked for as the command has
numbered_length : (ids : List (List ℕ)) (pieces : List PieceTarget) → length (numbered ids pieces) ≡ length pieces
numbered_length ids [] = refl
numbered_length ids (p ∷ ps) = ap suc (numbered_length (with_id ids p.id) ps)

pub numbered_few : (ids : List (List ℕ)) (pieces : List PieceTarget) (asked : List Piece) → asked ≡ numbered ids pieces → 1 ≤ length pieces → length pieces ≤ 8 → (1 ≤ length asked) × (length asked ≤ 8)
numbered_few ids pieces asked is some few =
    let size : length asked ≡ length pieces = ap length is ∙ numbered_length ids pieces in
    (omega (arith, size, some), omega (arith, size, few))

pub state_gathered : (kinds : List Meaning) (net : List NodeDecl) (k after : Kept) (agent : ℕ) (rights : Rights) (pieces : List PieceTarget) (v : ℕ) (book : BookState) (log log' : Option (List TableEvent)) (words' : List (List ℕ)) → 1 ≤ length pieces → IsGatherMade net k.book.grants agent rights (numbered k.ids pieces) v book.grants → IsGatherLogged net kinds k.book.grants k.book.cleared agent rights (numbered k.ids pieces) false log log' words' book.grants → after.book ≡ book → after.ids ≡ with_ids k.ids pieces → book.cleared ≡ false → IsChanged (IsGatherTurn kinds net (state_view k) agent rights pieces) (state_view after) (gathered_text v (length pieces)) log log'
state_gathered kinds net k after agent rights pieces v book log log' words' some made logged b i fenced =
    let asked : 1 ≤ length (numbered k.ids pieces) = subst (λ (n : ℕ). 1 ≤ n) (sym (numbered_length k.ids pieces)) some in
    let gs : List Grant = grants_of agent rights (numbered k.ids pieces) made.place in
    let there = grants_some net (slots_of net k.book.grants) agent rights made.place.unit made.place.v (numbered k.ids pieces) made.place.hops asked made.placed.first.suited.are_placed in
    gathered_turn kinds net (state_view k) (state_view after) agent rights pieces v book.grants log log' words' made logged
    (state_left after book (with_ids k.ids pieces) (cleared_after k.book.cleared gs) b i (fenced ∙ sym (cleared_none k.book.cleared gs there)))

pub state_granted : (kinds : List Meaning) (net : List NodeDecl) (k after : Kept) (id : List ℕ) (rq : Request) (n v : ℕ) (book : BookState) (log log' : Option (List TableEvent)) (words' : List (List ℕ)) → n ≡ id_number k.ids id → IsGrantMade net k.book.grants n rq v book.grants → IsGrantLogged net kinds k.book.grants k.book.cleared n rq false log log' words' → after.book ≡ book → after.ids ≡ with_id k.ids id → book.cleared ≡ false → IsChanged (IsGrantTurn kinds net (state_view k) id rq) (state_view after) (granted_text id v) log log'
state_granted kinds net k after id rq n v book log log' words' number made logged b i fenced =
    granted_turn kinds net (state_view k) (state_view after) id rq v book.grants log log' words'
    (subst (λ m. IsGrantMade net k.book.grants m rq v book.grants) number made)
    (subst (λ m. IsGrantLogged net kinds k.book.grants k.book.cleared m rq false log log' words') number logged)
    (state_left after book (with_id k.ids id) false b i fenced)

pub state_routed : (kinds : List Meaning) (net : List NodeDecl) (k after : Kept) (id : List ℕ) (agent line node n v : ℕ) (book : BookState) (log log' : Option (List TableEvent)) (words' : List (List ℕ)) → n ≡ id_number k.ids id → IsRouteMade net k.book.grants n agent line node v book.grants → IsRouteLogged net kinds k.book.grants k.book.cleared n agent line node false log log' words' → after.book ≡ book → after.ids ≡ with_id k.ids id → book.cleared ≡ false → IsChanged (IsRouteTurn kinds net (state_view k) id agent line node) (state_view after) (routed_text id v) log log'
state_routed kinds net k after id agent line node n v book log log' words' number made logged b i fenced =
    routed_turn kinds net (state_view k) (state_view after) id agent line node v book.grants log log' words'
    (subst (λ m. IsRouteMade net k.book.grants m agent line node v book.grants) number made)
    (subst (λ m. IsRouteLogged net kinds k.book.grants k.book.cleared m agent line node false log log' words') number logged)
    (state_left after book (with_id k.ids id) false b i fenced)

pub state_revoked : (kinds : List Meaning) (net : List NodeDecl) (k after : Kept) (id : List ℕ) (n : ℕ) (book : BookState) (log log' : Option (List TableEvent)) → n ≡ id_number k.ids id → (has_id n k.book.grants ≡ false → ⊥) → ((g : Grant) → Member g k.book.grants → g.id ≡ n → AreAdded (revoke_events net kinds k.book.grants g) false log log') → book.grants ≡ without_id n k.book.grants → after.book ≡ book → after.ids ≡ with_id k.ids id → book.cleared ≡ true → IsChanged (IsRevokeTurn kinds net (state_view k) id) (state_view after) (revoked_text id) log log'
state_revoked kinds net k after id n book log log' number known added taken b i cleared =
    revoked_turn kinds net (state_view k) (state_view after) id book.grants log log'
    (subst (λ m. has_id m k.book.grants ≡ true) number (true_from_ne_false (has_id n k.book.grants) known))
    (λ g m e. added g m (e ∙ sym number))
    (taken ∙ ap (λ m. without_id m k.book.grants) number)
    (state_left after book (with_id k.ids id) true b i cleared)
