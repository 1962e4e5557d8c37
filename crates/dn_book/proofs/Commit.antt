-- From the parts of a commit to what its contract says.
use Rattle.std.proofs.Common.{◌≡◌, ℕ, ◌*◌, ◌<◌, Bool, true, false, if◌then◌else◌, ◌==◌, nat_eq, List, [], ◌∷◌, ◌++◌, filter, reverse, slice_get, Option, Some, None, IsSome, IsTrue, refl, sym, ap, ◌∙◌, subst, arith, eqb-true}
use Rattle.std.specs.List.{All, flat_map, list_any}
use Rattle.dn_base.specs.Device.{UnitSize, sizes_of}
use Rattle.dn_base.specs.declared.device.TableEvent.{TableEvent}
use Rattle.dn_base.specs.declared.device.UnitWords.{UnitWords}
use Rattle.std.specs.Option.{IfSome}
use Rattle.std.proofs.lemmas.Bool.{false≢true}
use Rattle.std.proofs.lemmas.Option.{same_Some}
use Rattle.dn_base.proofs.Orders.{lt-ltb}
use Rattle.dn_net.specs.declared.node.NodeDecl.{NodeDecl}
use Rattle.dn_net.specs.declared.node.Unit.{Unit as UnitPart}
use Rattle.dn_net.specs.Chain.{Member}
use Rattle.dn_net.specs.Decode.{unit_at}
use Rattle.dn_net.specs.Legal.{IsLegalNet}
use Rattle.dn_kind.specs.declared.unit_kind.Record.{Record}
use Rattle.dn_kind.specs.Kind.{Meaning, IsLawful}
use Rattle.dn_kind.specs.Rights.{both_rights}
use Rattle.dn_kind.specs.Units.{IsLegalWith, unit_shape}
use Rattle.dn_tables.specs.declared.placement.Hop.{Hop}
use Rattle.dn_tables.specs.declared.table.NodeTable.{NodeTable}
use Rattle.dn_tables.specs.declared.table.SlotUse.{SlotUse}
use Rattle.dn_tables.specs.Set.{FitsNet, IsOnDevice, has_slot, has_slot_by, packed_for, packed_by, tables_of_set, use_in, width_in, width_of_table, words_of}
use Rattle.dn_tables.specs.Writes.{put_writes, write_events, writes_from}
use Rattle.dn_tables.proofs.Kept.{table_of_unit}
use Rattle.dn_placement.specs.Records.{hop_rights}
use Rattle.dn_book.specs.declared.grant.Grant.{Grant}
use Rattle.dn_book.specs.Between.{IsCaught}
use Rattle.dn_book.specs.Book.{IsSound, is_taken, owns_slot, records_of, slots_of, uses_of, uses_slot}
use Rattle.dn_book.specs.Commands.{LeadsOver}
use Rattle.dn_book.specs.Events.{AreWritten}
use Rattle.dn_book.specs.Laws.{IsGrantFor}
use Rattle.dn_book.specs.Sets.{AreFit, AreHopsChanged, AreOpen, MayUse, after_puts, changed_by, hop_owner, is_used_by, one_use_more, put_log}
use Rattle.dn_book.specs.Tables.{IsKept, tables_of, use_of}
use Rattle.dn_book.specs.Writes.{Put, fence_events, grant_events, grant_slots, hop_slots, is_empty, joined_slots, kind_by, put_events, put_events_by, puts_of}
use Rattle.dn_book.proofs.Caught.{caught}
use Rattle.dn_book.proofs.Changes.{has_slot_kept}
use Rattle.dn_book.proofs.Commands.{grant_leads_over}
use Rattle.dn_book.proofs.Facts.{fit_then, fits_net_kept, none_any}
use Rattle.dn_book.proofs.Frames.{SameFrame, frame_puts, same_flat}
use Rattle.dn_book.proofs.Given.{GrantGives, by_owns, by_uses, gives_taken, unused_none}
use Rattle.dn_book.proofs.Live.{book_held, by_place, few_uses, gives_held, no_owner_of, picked_empty, put_gives, put_gives_behind, used_zero, uses_granted, hop_put_gives}
use Rattle.dn_book.proofs.Packed.{AreKindsOf, Holds, empty_there, kind_of, set_holds, width_is}
use Rattle.dn_book.proofs.Sound.{comes, granted_sound, placed_fit}
use Rattle.dn_book.proofs.Written.{written_words}
use Rattle.dn_tables.proofs.Units.{unit_fits}

-- WRITES BY A SET ARE THOSE BY THE NET

-- the width of the table of a unit
pub width_at : (net : List NodeDecl) (kinds : List Meaning) → AreKindsOf net kinds → (set : List NodeTable) → FitsNet net kinds set → (node : ℕ) (u : UnitPart) → unit_at net node ≡ Some u → (kind : Meaning) → slice_get kinds u.kind ≡ Some kind → width_in set node ≡ kind.words
width_at net kinds k set f node u e kind at =
    let d = kind_of net kinds k node u e in
    let there = table_of_unit set node u (unit_fits net kinds set f node ∙ e) in
    let same : d.kind ≡ kind = same_Some d.kind kind (sym d.at ∙ at) in
    ap width_of_table there.1 ∙ width_is net kinds set f node u d there.0 there.1 there.2 ∙ ap (λ (m : Meaning). m.words) same

pub put_log_is : (net : List NodeDecl) (kinds : List Meaning) → AreKindsOf net kinds → (set : List NodeTable) → FitsNet net kinds set → (ss : List Put) → put_log kinds set ss ≡ flat_map (put_events net kinds) ss
put_log_is net kinds k set f ss =
    same_flat (λ (s : Put). write_events s.unit (put_writes kinds set s.unit s.slot s.holds)) (put_events net kinds) one ss
  where
    one : (s : Put) → write_events s.unit (put_writes kinds set s.unit s.slot s.holds) ≡ put_events net kinds s
    one s = ap (λ o. write_events s.unit (writes_from (s.slot * width_in set s.unit) (packed_for kinds o s.holds))) (unit_fits net kinds set f s.unit) ∙ by (unit_at net s.unit) refl
      where
        by : (o : Option UnitPart) → unit_at net s.unit ≡ o → write_events s.unit (writes_from (s.slot * width_in set s.unit) (packed_for kinds o s.holds)) ≡ put_events_by o (kind_by kinds o) s
        by None e = refl
        by (Some u) e = kinds_of (slice_get kinds u.kind) refl
          where
            kinds_of : (c : Option Meaning) → slice_get kinds u.kind ≡ c → write_events s.unit (writes_from (s.slot * width_in set s.unit) (packed_by c u s.holds)) ≡ put_events_by (Some u) c s
            kinds_of None g = refl
            kinds_of (Some kind) g = ap (λ w. write_events s.unit (writes_from (s.slot * w) (kind.pack (unit_shape u) s.holds))) (width_at net kinds k set f s.unit u e kind g)

-- A GRANT THAT COMES TO A BOOK THAT IS KEPT

-- what is known before a commit
pub record Coming (net : List NodeDecl) (kinds : List Meaning) (book : List Grant) (g : Grant) (set : List NodeTable) : Type 0 where
  pub lawful : All IsLawful kinds
  pub legal : IsLegalWith kinds net
  pub kept : IsKept net kinds book set
  pub placed : IsGrantFor net book g

module _ (net : List NodeDecl) (kinds : List Meaning) (book : List Grant) (g : Grant) (set : List NodeTable) (c : Coming net kinds book g set) where
  legal : IsLegalNet net
  legal = c.legal.legal

  k : AreKindsOf net kinds
  k = record { lawful = c.lawful; shaped = c.legal.shaped }

  sound : IsSound net book
  sound = c.kept.sound

  pub coming_fit : AreFit net g.request.size g.placement.hops
  coming_fit = placed_fit net legal (slots_of net book) g.request g.placement c.placed.placed

  holds : Holds net kinds (records_of net book) set
  holds = record { fits = c.kept.fits; words = c.kept.words; held = book_held net legal book sound }

  -- a slot of the grant is there
  slot_there : (n q : ℕ) (t : Record) → GrantGives net g n q t → (u : UnitPart) × (unit_at net n ≡ Some u) × (q < u.slots) × IsTrue (has_slot set n q)
  slot_there n q t h =
      let u = (gives_held net g coming_fit c.placed.rights n q t h).unit in
      (u.0, u.1, u.2, subst (λ o. IsTrue (has_slot_by o q)) (sym (unit_fits net kinds set c.kept.fits n ∙ u.1)) (lt-ltb q u.0.slots u.2))

  use_there : (n q : ℕ) (t : Record) → GrantGives net g n q t → use_in set n q ≡ use_of net book n q
  use_there n q t h = c.kept.uses n q (slot_there n q t h).3

  -- what no live grant uses is empty
  used_is : (s : Put) → GrantGives net g s.unit s.slot s.holds → is_used_by 0 set s ≡ is_empty (records_of net book s.unit s.slot)
  used_is s h = ap (λ (u : SlotUse). u.uses == 0) (use_there s.unit s.slot s.holds h) ∙ used_zero net book s.unit s.slot

  pub coming_open : AreOpen set (joined_slots (grant_slots net g))
  coming_open s m used =
      let h = (put_gives net g coming_fit s m).gives in
      let u = slot_there s.unit s.slot s.holds h in
      let none : records_of net book s.unit s.slot ≡ None = by (records_of net book s.unit s.slot) refl (sym (used_is s h) ∙ used) in
      empty_there net kinds k (records_of net book) set holds s.unit s.slot u.0 u.1 u.2 none
    where
      by : (o : Option Record) → records_of net book s.unit s.slot ≡ o → is_empty o ≡ true → o ≡ None
      by None e f = refl
      by (Some r) e f = cc

  -- the slots that are put are those of the definition
  pub coming_puts : filter (is_used_by 0 set) (joined_slots (reverse (grant_slots net g))) ≡ puts_of net book g
  coming_puts = picked_empty (records_of net book) (is_used_by 0 set) (joined_slots (reverse (grant_slots net g))) (λ s m. used_is s (put_gives_behind net g coming_fit s m).gives)

  -- and so are the writes
  pub coming_log : put_log kinds set (filter (is_used_by 0 set) (joined_slots (reverse (grant_slots net g)))) ≡ flat_map (put_events net kinds) (puts_of net book g)
  coming_log = ap (put_log kinds set) coming_puts ∙ put_log_is net kinds k set c.kept.fits (puts_of net book g)

  -- the slots may come to the grant
  pub coming_uses : (set' : List NodeTable) → set' ≡ after_puts kinds set (filter (is_used_by 0 set) (joined_slots (reverse (grant_slots net g)))) → (place : ℕ) (hop : Hop) → slice_get g.placement.hops place ≡ Some hop → (s : Put) → Member s (hop_slots net g.request.size both_rights hop) → MayUse (hop_owner g.id g.placement.own place) set' s
  coming_uses set' made place hop at s m =
      let frame : SameFrame set set' = subst (SameFrame set) (sym made) (frame_puts kinds set (filter (is_used_by 0 set) (joined_slots (reverse (grant_slots net g))))) in
      let h = hop_put_gives net g coming_fit place hop at s m in
      let taken = gives_taken net g.request.size (hop_rights g.request.rights g.placement.own place) hop s.unit s.slot h.0 h.1.gives in
      let used : uses_slot net s.unit s.slot g ≡ true = by_uses net g s.unit s.slot place hop at taken in
      let same : use_in set' s.unit s.slot ≡ use_of net book s.unit s.slot = frame.use_of s.unit s.slot ∙ use_there s.unit s.slot h.0 (by_place net g place hop s.unit s.slot h.0 h.1) in
      let few = few_uses net book s.unit s.slot in
      let room = c.placed.few in
      let small : uses_of net book s.unit s.slot < 4096 = omega arith in
      record {
        few = subst (λ (u : SlotUse). u.uses < 4096) (sym same) small;
        unowned = ap (λ (u : SlotUse). u.owner) same ∙ no_owner_of net legal book g sound c.placed s.unit s.slot used;
        alone = λ o. ap (λ (u : SlotUse). u.uses) same ∙ alone taken (nat_eq place g.placement.own) refl o;
      }
    where
      alone : is_taken net g.request.size s.unit s.slot hop ≡ true → (b : Bool) → nat_eq place g.placement.own ≡ b → IsSome (if b then Some g.id else None) → uses_of net book s.unit s.slot ≡ 0
      alone taken false e o = cc
      alone taken true e o =
          let own : owns_slot net s.unit s.slot g ≡ true = by_owns net g s.unit s.slot hop (subst (λ m. slice_get g.placement.hops m ≡ Some hop) (eqb-true place g.placement.own e) at) taken in
          let f = (comes net legal book sound g c.placed.placed).free in
          let none : list_any (uses_slot net s.unit s.slot) book ≡ false = none_any (uses_slot net s.unit s.slot) book (λ x i e'. false≢true (sym (f s.unit s.slot x i own) ∙ e')) in
          eqb-true (uses_of net book s.unit s.slot) 0 (used_zero net book s.unit s.slot ∙ ap is_empty (unused_none net book s.unit s.slot none))

  -- THE BOOK AFTERWARDS

  after : IsSound net (book ++ g ∷ [])
  after = granted_sound net legal book g sound c.placed

  -- the events of a grant were written into the tables of the book
  pub coming_written : (cleared failed : Bool) (log log' : Option (List TableEvent)) (words : List (List ℕ)) → AreWritten (fence_events cleared ++ put_log kinds set (filter (is_used_by 0 set) (joined_slots (reverse (grant_slots net g))))) failed log log' (words_of set) words → AreWritten (grant_events net kinds book cleared g) failed log log' (tables_of net kinds book) words
  coming_written cleared failed log log' words w =
      subst (λ es. AreWritten (fence_events cleared ++ es) failed log log' (tables_of net kinds book) words) coming_log
      (subst (λ ws. AreWritten (fence_events cleared ++ put_log kinds set (filter (is_used_by 0 set) (joined_slots (reverse (grant_slots net g))))) failed log log' ws words) c.kept.words w)

  leads : (cleared : Bool) → LeadsOver net kinds book (book ++ g ∷ []) cleared false book (book ++ g ∷ []) (grant_events net kinds book cleared g)
  leads cleared = grant_leads_over net kinds book g cleared legal c.legal.shaped c.lawful sound c.placed

  -- at a stop each name resolves as before or as after
  pub coming_caught : (cleared failed : Bool) (log log' : Option (List TableEvent)) (words : List (List ℕ)) → AreWritten (grant_events net kinds book cleared g) failed log log' (tables_of net kinds book) words → IsCaught net kinds words book (book ++ g ∷ [])
  coming_caught cleared failed log log' words w = caught net kinds book (book ++ g ∷ []) cleared false book (book ++ g ∷ []) (grant_events net kinds book cleared g) legal (leads cleared) failed log log' words w

  pub committed : (cleared : Bool) (log log' : Option (List TableEvent)) (set' set'' : List NodeTable) → set' ≡ after_puts kinds set (filter (is_used_by 0 set) (joined_slots (reverse (grant_slots net g)))) → AreWritten (grant_events net kinds book cleared g) false log log' (tables_of net kinds book) (words_of set') → AreHopsChanged net g.request.size (λ place. one_use_more (hop_owner g.id g.placement.own place)) g.placement.hops set' set'' → IsKept net kinds (book ++ g ∷ []) set''
  committed cleared log log' set' set'' made written changed = record {
    sound = after;
    fits = new.fits;
    words = new.words;
    held = set_holds net kinds k (records_of net (book ++ g ∷ [])) set'' new;
    uses = uses;
  }
    where
      frame : SameFrame set set'
      frame = subst (SameFrame set) (sym made) (frame_puts kinds set (filter (is_used_by 0 set) (joined_slots (reverse (grant_slots net g)))))

      new : Holds net kinds (records_of net (book ++ g ∷ [])) set''
      new = record {
        fits = fits_net_kept net kinds set set'' (fit_then set set' set'' frame.fits changed.fits) c.kept.fits;
        words = changed.same_words ∙ written_words (grant_events net kinds book cleared g) log log' (tables_of net kinds book) (words_of set') written ∙ (leads cleared).leaves;
        held = book_held net legal (book ++ g ∷ []) after;
      }

      uses : (n q : ℕ) → IsTrue (has_slot set'' n q) → use_in set'' n q ≡ use_of net (book ++ g ∷ []) n q
      uses n q there =
          let before : IsTrue (has_slot set' n q) = sym (has_slot_kept set' set'' n q changed.fits.units) ∙ there in
          let first : IsTrue (has_slot set n q) = sym (has_slot_kept set set' n q frame.fits.units) ∙ before in
          changed.uses n q before
          ∙ ap (changed_by net g.request.size (λ place. one_use_more (hop_owner g.id g.placement.own place)) 0 g.placement.hops n q) (frame.use_of n q ∙ c.kept.uses n q first)
          ∙ uses_granted net legal book g sound c.placed n q

-- the device is that of a set whose uses were changed
pub told_on_device : (set set' : List NodeTable) (sizes : List UnitSize) (told : Option (List UnitWords)) → tables_of_set set' ≡ tables_of_set set → IsOnDevice set sizes told → IsOnDevice set' sizes told
told_on_device set set' sizes told e d = record {
  units = d.units ∙ ap sizes_of (sym e);
  words = subst (λ l. IfSome told (λ tables. tables ≡ l)) (sym e) d.words;
}
