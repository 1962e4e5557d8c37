-- What a device tells of the tables: those of a book, and those that a fault left inside a turn.
use Rattle.std.proofs.Common.{◌≡◌, ◌∙◌, ap, sym, subst, refl, ℕ, inl, Bool, true, false, List, [], ◌∷◌, ◌++◌, length, Option, Some, Result, Ok, Err, IfOk}
use Rattle.std.specs.Option.{IfSome}
use Rattle.dn_base.specs.declared.device.TableEvent.{TableEvent}
use Rattle.dn_base.specs.declared.device.UnitWords.{UnitWords}
use Rattle.dn_base.specs.Device.{UnitSize}
use Rattle.dn_base.specs.Outside.{Faults, IsCounted}
use Rattle.dn_base.proofs.Counts.{counted_none}
use Rattle.dn_base.proofs.Told.{if_some_then}
use Rattle.dn_net.specs.declared.node.NodeDecl.{NodeDecl}
use Rattle.dn_net.specs.Chain.{Member}
use Rattle.dn_kind.specs.Kind.{Meaning}
use Rattle.dn_kind.specs.Kinded.{kinds_of}
use Rattle.dn_flat.specs.Levels.{AreFlats, FlatsView}
use Rattle.dn_tables.specs.declared.table.NodeTable.{NodeTable}
use Rattle.dn_tables.specs.Set.{FitsNet, IsOnDevice, IsSet, tables_of_set, words_of}
use Rattle.dn_tables.proofs.Devices.{device_told}
use Rattle.dn_placement.specs.declared.request.Request.{Request}
use Rattle.dn_book.specs.declared.grant.Grant.{Grant as GrantPart}
use Rattle.dn_book.specs.Between.{IsCaught}
use Rattle.dn_book.specs.Book.{has_id, without_id}
use Rattle.dn_book.specs.State.{BookState}
use Rattle.dn_book.specs.Writes.{AreAdded, revoke_events}
use Rattle.dn_grant.specs.declared.fault.GrantFault.{GrantFault}
use Rattle.dn_grant.specs.declared.fault.GrantFault.TheVariants.{Refused}
use Rattle.dn_grant.specs.declared.fault.GrantFault.TheVariants as grant_fault
use Rattle.dn_grant.specs.Done.{IsGrantDone}
use Rattle.dn_grant.specs.Grant.{IsGrantLogged, grant_of_request}
use Rattle.dn_kind.specs.declared.rights.Rights.{Rights}
use Rattle.dn_gather.specs.declared.piece.Piece.{Piece}
use Rattle.dn_gather.specs.Gather.{IsGatherLogged, grants_of}
use Rattle.dn_module.specs.declared.command.PieceTarget.{PieceTarget}
use Rattle.dn_vector.specs.Route.{IsRouteLogged, grant_of_route}
use Rattle.dn_script.specs.declared.halt.RunHalt.{RunHalt}
use Rattle.dn_script.specs.declared.halt.RunHalt.TheVariants.{DeviceFault, NoMemory}
use Rattle.dn_script.specs.Asked.{numbered}
use Rattle.dn_script.specs.Changed.{gathered_text, granted_text, revoked_text, routed_text}
use Rattle.dn_script.specs.Halt.{HaltsByDevice, refusal_or_halt, reply_or_halt}
use Rattle.dn_script.specs.Ids.{id_number, with_id}
use Rattle.dn_script.specs.declared.machine.Machine.{Machine}
use Rattle.dn_script.specs.declared.state.Session.{Session as Kept}
use Rattle.dn_script.specs.Machine.{IsMachine}
use Rattle.dn_script.specs.State.{CameThroughChange, IsChangeDone, IsChanged, IsReadyOn, IsState, state_view}
use Rattle.dn_script.specs.Stopped.{AreCaught, AreLeft}
use Rattle.dn_script.specs.Turn.{IsGatherTurn, IsGrantTurn, IsRevokeTurn, IsRouteTurn, State, Turn, reply_turn, turn_with_grant, turn_with_grants}
use Rattle.dn_script.proofs.Changes.{halted_after, lives, refused_turn, state_named, state_same, stopped_inside}
use Rattle.dn_script.proofs.Kept.{IsLawfulNet}
use Rattle.dn_script.proofs.Sizes.{fitted_sizes, ready_tables}

-- what the words of a set say of two books, the words that a device tells say
told_caught : (kinds : List Meaning) (net : List NodeDecl) (before after : List GrantPart) (set : List NodeTable) (sizes : List UnitSize) (told : Option (List UnitWords)) → FitsNet net kinds set → IsOnDevice set sizes told → IsCaught net kinds (words_of set) before after → IfSome told (AreCaught kinds net before after)
told_caught kinds net before after set sizes told fits on caught =
    if_some_then told (λ tables. tables ≡ tables_of_set set) (AreCaught kinds net before after) (λ tables e. (words_of set, e ∙ device_told set net (words_of set) fits.units refl, caught)) on.words

module _ {D : Type 0} (kinds : List Meaning) (net : List NodeDecl) (s next : State) (set : List NodeTable) (units : D → List UnitSize) (words : D → Option (List UnitWords)) (log : D → Option (List TableEvent)) (d d' : D) (known : IsLawfulNet kinds net) (fits : FitsNet net kinds set) (is : IsSet set) (on : IsOnDevice set (units d') (words d')) where
  -- what a device has where it failed in a turn, by what the words of its set say
  left_caught : (after : List GrantPart) → IsCaught net kinds (words_of set) s.book after → AreLeft kinds net s.book after 6 (units d') (words d')
  left_caught after caught = record {
    units = fitted_sizes kinds net set (units d') (words d') known fits is on;
    stopped = λ _. told_caught kinds net s.book after set (units d') (words d') fits on caught;
    tables = λ other. absurd (other refl);
  }

  -- what a grant leaves at which the device failed, under the number of its id
  pub grant_cut : (id : List ℕ) (rq : Request) (n : ℕ) → n ≡ id_number s.ids id → IsGrantLogged net kinds s.book s.cleared n rq true (log d) (log d') (words_of set) → CameThroughChange kinds net s.book (IsGrantTurn kinds net s id rq) (Err DeviceFault) next units words log d d'
  grant_cut id rq n number logged =
      let came : IsGrantLogged net kinds s.book s.cleared (id_number s.ids id) rq true (log d) (log d') (words_of set) = subst (λ i. IsGrantLogged net kinds s.book s.cleared i rq true (log d) (log d') (words_of set)) number logged in
      let g : GrantPart = grant_of_request (id_number s.ids id) rq came.place in
      stopped_inside kinds net s.book (IsGrantTurn kinds net s id rq) (turn_with_grant net kinds s id g (granted_text id came.place.v)) next units words log d d' (inl (record { place = came.place; placed = came.placed; is_turn = refl })) came.added (left_caught (s.book ++ g ∷ []) (came.caught refl))

  -- what a route leaves
  pub route_cut : (id : List ℕ) (agent line node n : ℕ) → n ≡ id_number s.ids id → IsRouteLogged net kinds s.book s.cleared n agent line node true (log d) (log d') (words_of set) → CameThroughChange kinds net s.book (IsRouteTurn kinds net s id agent line node) (Err DeviceFault) next units words log d d'
  route_cut id agent line node n number logged =
      let came : IsRouteLogged net kinds s.book s.cleared (id_number s.ids id) agent line node true (log d) (log d') (words_of set) = subst (λ i. IsRouteLogged net kinds s.book s.cleared i agent line node true (log d) (log d') (words_of set)) number logged in
      let g : GrantPart = grant_of_route (id_number s.ids id) agent node came.vector came.place in
      stopped_inside kinds net s.book (IsRouteTurn kinds net s id agent line node) (turn_with_grant net kinds s id g (routed_text id came.vector)) next units words log d d' (inl (record { vector = came.vector; place = came.place; placed = came.placed; is_turn = refl })) came.added (left_caught (s.book ++ g ∷ []) (came.caught refl))

  -- what a gather leaves, with its pieces under the numbers of their ids
  pub gather_cut : (agent : ℕ) (rights : Rights) (pieces : List PieceTarget) (asked : List Piece) (book : List GrantPart) → asked ≡ numbered s.ids pieces → IsGatherLogged net kinds s.book s.cleared agent rights asked true (log d) (log d') (words_of set) book → CameThroughChange kinds net s.book (IsGatherTurn kinds net s agent rights pieces) (Err DeviceFault) next units words log d d'
  gather_cut agent rights pieces asked book number logged =
      let came : IsGatherLogged net kinds s.book s.cleared agent rights (numbered s.ids pieces) true (log d) (log d') (words_of set) book = subst (λ (ps : List Piece). IsGatherLogged net kinds s.book s.cleared agent rights ps true (log d) (log d') (words_of set) book) number logged in
      let gs : List GrantPart = grants_of agent rights (numbered s.ids pieces) came.place in
      stopped_inside kinds net s.book (IsGatherTurn kinds net s agent rights pieces) (turn_with_grants net kinds s pieces gs (gathered_text came.place.v (length pieces))) next units words log d d' (inl (record { place = came.place; placed = came.placed; is_turn = refl })) came.committed.added (left_caught (s.book ++ gs) (came.committed.caught refl))

  -- what a revoke leaves
  pub revoke_cut : (id : List ℕ) → has_id (id_number s.ids id) s.book ≡ true → ((g : GrantPart) → Member g s.book → g.id ≡ id_number s.ids id → AreAdded (revoke_events net kinds s.book g) true (log d) (log d')) → IsCaught net kinds (words_of set) s.book (without_id (id_number s.ids id) s.book) → CameThroughChange kinds net s.book (IsRevokeTurn kinds net s id) (Err DeviceFault) next units words log d d'
  revoke_cut id has added caught =
      let g = lives (id_number s.ids id) s.book has in
      stopped_inside kinds net s.book (IsRevokeTurn kinds net s id) (record { events = revoke_events net kinds s.book g.0; reply = revoked_text id; next = record { book = without_id (id_number s.ids id) s.book; cleared = true; ids = with_id s.ids id } }) next units words log d d' (inl (record { grant = g.0; lives = g.1; has = g.2; is_turn = refl })) (added g.0 g.1 g.2) (left_caught (without_id (id_number s.ids id) s.book) caught)

-- a turn of one sort is one of another, by what both are made of
pub done_as : {A K : Type 0} {V : K → Type 0} {D : Type 0} (means : (k : K) × V k → Meaning) (m : Machine K V) (P : A → Turn → Type 0) (a b : A) (r : Result (List ℕ) RunHalt) (k k' : Kept) (units : D → List UnitSize) (words : D → Option (List UnitWords)) (faults : D → Faults) (log : D → Option (List TableEvent)) (d d' : D) → a ≡ b → IsChangeDone means m (P a) r k k' units words faults log d d' → IsChangeDone means m (P b) r k k' units words faults log d d'
done_as {A} means m P a b r k k' units words faults log d d' e = subst (λ (c : A). IsChangeDone means m (P c) r k k' units words faults log d d') e

-- a change that was gone through, and its reply, or no memory for that
pub done_replied : {K : Type 0} {V : K → Type 0} {D E : Type 0} (means : (k : K) × V k → Meaning) (m : Machine K V) (P : Turn → Type 0) (made : Result (List ℕ) E) (r : Result (List ℕ) RunHalt) (reply : List ℕ) (k k' : Kept) (units : D → List UnitSize) (words : D → Option (List UnitWords)) (faults : D → Faults) (log : D → Option (List TableEvent)) (d d' : D) → r ≡ reply_or_halt made → IfOk made (λ t. t ≡ reply) → IsChanged P (state_view k') reply (log d) (log d') → IsReadyOn means m k' (units d') (words d') → IsCounted (faults d) (faults d') false → IsChangeDone means m P r k k' units words faults log d d'
done_replied means m P (Ok text) r reply k k' units words faults log d d' e is changed ready counted =
    subst (λ (q : Result (List ℕ) RunHalt). IsChangeDone means m P q k k' units words faults log d d') (sym e) (record {
      changed = subst (λ (t : List ℕ). IsChanged P (state_view k') t (log d) (log d')) (sym is) changed;
      ready = ready;
      halted = record { no_write = refl; counted = counted };
    })
done_replied means m P (Err none) r reply k k' units words faults log d d' e is changed ready counted =
    subst (λ (q : Result (List ℕ) RunHalt). IsChangeDone means m P q k k' units words faults log d d') (sym e) (record {
      changed = halted_after (kinds_of means m.on.kinds.now) m.on.net.now k.book.grants P (state_view k') (state_view k') reply units words log d d' changed (ready_tables means m k' (units d') (words d') ready);
      ready = tt;
      halted = record { no_write = refl; counted = counted };
    })

-- a change at which the device failed
pub done_stopped : {K : Type 0} {V : K → Type 0} {D : Type 0} (means : (k : K) × V k → Meaning) (m : Machine K V) (P : Turn → Type 0) (k k' : Kept) (units : D → List UnitSize) (words : D → Option (List UnitWords)) (faults : D → Faults) (log : D → Option (List TableEvent)) (d d' : D) → CameThroughChange (kinds_of means m.on.kinds.now) m.on.net.now k.book.grants P (Err DeviceFault) (state_view k') units words log d d' → HaltsByDevice {A = List ℕ} (Err DeviceFault) (faults d) (faults d') → IsChangeDone means m P (Err DeviceFault) k k' units words faults log d d'
done_stopped means m P k k' units words faults log d d' changed halted = record {
  changed = changed;
  ready = tt;
  halted = halted;
}

-- what is kept where a change was refused: its id has a number, and what the nodes reach may be kept
abbrev pub refused_state : Kept → BookState → List (List ℕ) → Option FlatsView → Kept
refused_state k book ids flats = record { book = book; ids = ids; image = k.image; first = k.first; flats = flats; unmade = k.unmade }

-- a change that was refused: the book and the device are as they were
pub done_refused : {K : Type 0} {V : K → Type 0} {D E : Type 0} (means : (k : K) × V k → Meaning) (m : Machine K V) (P : Turn → Type 0) (made : Result (List ℕ) E) (r : Result (List ℕ) RunHalt) (text : List ℕ) (k : Kept) (book : BookState) (ids named : List (List ℕ)) (flats : Option FlatsView) (units : D → List UnitSize) (words : D → Option (List UnitWords)) (faults : D → Faults) (log : D → Option (List TableEvent)) (d d' : D) → r ≡ reply_or_halt made → IfOk made (λ t. t ≡ text) → IsMachine means m → IsState (kinds_of means m.on.kinds.now) m.on.net.now k → book ≡ k.book → ids ≡ named → IfSome flats (AreFlats m.on.net.now) → IsOnDevice book.set (units d') (words d') → faults d' ≡ faults d → (record { book = k.book.grants; cleared = k.book.cleared; ids = named } ≡ state_view (refused_state k book ids flats) → IsChanged P (state_view (refused_state k book ids flats)) text (log d) (log d')) → IsChangeDone means m P r k (refused_state k book ids flats) units words faults log d d'
done_refused means m P made r text k book ids named flats units words faults log d d' e said machine state same is reach on unfailed changed =
    let after : Kept = refused_state k book ids flats in
    done_replied means m P made r text k after units words faults log d d' e said
    (changed (state_named after (state_view k) named k.book same refl refl is))
    (record { machine = machine; state = state_same (kinds_of means m.on.kinds.now) m.on.net.now k after state same refl state.first reach state.unmade; on_device = on })
    (subst (λ f. IsCounted (faults d) f false) (sym unfailed) (counted_none (faults d)))

same_halt : {X : Type 0} (a b : RunHalt) → ◌≡◌ {A = Result X RunHalt} (Err a) (Err b) → ◌≡◌ {A = Result (List ℕ) RunHalt} (Err b) (Err a)
same_halt a b e = let is : a ≡ b = cc in ap (λ (x : RunHalt). Err x) (sym is)

-- A call that granted nothing and halts: `cut` says what it leaves where the device failed.
pub halted_done : {K : Type 0} {V : K → Type 0} {R D : Type 0} {means : (k : K) × V k → Meaning} {m : Machine K V} {P : Turn → Type 0} {k k' : Kept} {Outcome : Option (Result ℕ R) → List GrantPart → Type 0} {Added : Bool → Option (List TableEvent) → Option (List TableEvent) → Type 0} {book : BookState} {units : D → List UnitSize} {words : D → Option (List UnitWords)} {faults : D → Faults} {log : D → Option (List TableEvent)} {d d' : D} (fault : GrantFault R) (h : RunHalt) (r : Result (List ℕ) RunHalt) → IsGrantDone means m.on Outcome Added (Err fault) k.book book units words faults log d d' → refusal_or_halt fault ≡ Err h → r ≡ Err h → (Added true (log d) (log d') → CameThroughChange (kinds_of means m.on.kinds.now) m.on.net.now k.book.grants P (Err DeviceFault) (state_view k') units words log d d') → IsChangeDone means m P r k k' units words faults log d d'
halted_done (Refused why) h r done e is cut = cc
halted_done {K} {V} {R} {D} {means} {m} {P} {k} {k'} {Outcome} {Added} {book} {units} {words} {faults} {log} {d} {d'} grant_fault.Device h r done e is cut =
    subst (λ (q : Result (List ℕ) RunHalt). IsChangeDone means m P q k k' units words faults log d d') (sym (is ∙ same_halt DeviceFault h e))
    (done_stopped means m P k k' units words faults log d d' (cut (done.stopped refl)) (record { no_write = refl; counted = done.changed.counted }))
halted_done {K} {V} {R} {D} {means} {m} {P} {k} {k'} {Outcome} {Added} {book} {units} {words} {faults} {log} {d} {d'} grant_fault.OutOfMemory h r done e is cut =
    subst (λ (q : Result (List ℕ) RunHalt). IsChangeDone means m P q k k' units words faults log d d') (sym (is ∙ same_halt NoMemory h e)) (record {
      changed = λ told. inl (record { memory = refl; device_is = (done.unchanged refl (λ q. cc)).1; sink_is = refl });
      ready = tt;
      halted = record { no_write = refl; counted = done.changed.counted };
    })

-- a call that granted nothing and is refused
pub refusal_done : {K : Type 0} {V : K → Type 0} {R D E : Type 0} {means : (k : K) × V k → Meaning} {m : Machine K V} {P : Turn → Type 0} {k : Kept} {Outcome : Option (Result ℕ R) → List GrantPart → Type 0} {Added : Bool → Option (List TableEvent) → Option (List TableEvent) → Type 0} {book : BookState} {units : D → List UnitSize} {words : D → Option (List UnitWords)} {faults : D → Faults} {log : D → Option (List TableEvent)} {d d' : D} (fault : GrantFault R) (why : R) (ids named : List (List ℕ)) (flats : Option FlatsView) (made : Result (List ℕ) E) (r : Result (List ℕ) RunHalt) (text : List ℕ) → r ≡ reply_or_halt made → IfOk made (λ t. t ≡ text) → IsMachine means m → IsState (kinds_of means m.on.kinds.now) m.on.net.now k → IsGrantDone means m.on Outcome Added (Err fault) k.book book units words faults log d d' → refusal_or_halt fault ≡ Ok why → ids ≡ named → IfSome flats (AreFlats m.on.net.now) → (Outcome (Some (Err why)) book.grants → P (reply_turn text (record { book = k.book.grants; cleared = k.book.cleared; ids = named }))) → IsChangeDone means m P r k (refused_state k book ids flats) units words faults log d d'
refusal_done {K} {V} {R} {D} {E} {means} {m} {P} {k} {Outcome} {Added} {book} {units} {words} {faults} {log} {d} {d'} (Refused said) why ids named flats made r text by reply machine state done e names reach turn =
    let is : said ≡ why = cc in
    let same = done.unchanged refl (λ q. cc) in
    let before : State = record { book = k.book.grants; cleared = k.book.cleared; ids = named } in
    done_refused means m P made r text k book ids named flats units words faults log d d' by reply machine state same.0 names reach done.changed.on_device (ap faults same.1)
    (refused_turn P before (state_view (refused_state k book ids flats)) text text (log d) (log d') (turn (subst (λ (w : R). Outcome (Some (Err w)) book.grants) is done.turn)) refl (ap log same.1))
refusal_done grant_fault.Device why ids named flats made r text by reply machine state done e names reach turn = cc
refusal_done grant_fault.OutOfMemory why ids named flats made r text by reply machine state done e names reach turn = cc
