-- From the parts of a revoke to what its contract says.
use Rattle.std.proofs.Common.{◌≡◌, ℕ, ◌*◌, ◌<◌, inl, inr, Bool, true, false, ◌==◌, List, [], ◌∷◌, ◌++◌, filter, slice_get, Option, Some, IsTrue, refl, sym, ap, ◌∙◌, subst}
use Rattle.std.specs.List.{All, flat_map}
use Rattle.dn_base.proofs.Orders.{lt-ltb}
use Rattle.dn_base.specs.declared.device.TableEvent.{TableEvent}
use Rattle.dn_net.specs.declared.node.NodeDecl.{NodeDecl}
use Rattle.dn_net.specs.declared.node.Unit.{Unit as UnitPart}
use Rattle.dn_net.specs.Chain.{Member}
use Rattle.dn_net.specs.Decode.{unit_at}
use Rattle.dn_kind.specs.Kind.{Meaning, IsLawful}
use Rattle.dn_kind.specs.Rights.{both_rights}
use Rattle.dn_kind.specs.Tables.{record_held}
use Rattle.dn_kind.specs.Units.{IsLegalWith}
use Rattle.dn_tables.specs.declared.placement.Hop.{Hop}
use Rattle.dn_tables.specs.declared.table.NodeTable.{NodeTable}
use Rattle.dn_tables.specs.declared.table.SlotUse.{SlotUse}
use Rattle.dn_tables.specs.Set.{FitsNet, has_slot, has_slot_by, use_in, width_in, words_of}
use Rattle.dn_tables.specs.Writes.{clear_writes, clears_from, write_events}
use Rattle.dn_placement.specs.Records.{hop_rights}
use Rattle.dn_book.specs.declared.grant.Grant.{Grant}
use Rattle.dn_book.specs.Between.{IsCaught}
use Rattle.dn_book.specs.Book.{IsSound, records_of, uses_slot, without_id}
use Rattle.dn_book.specs.Commands.{LeadsOver}
use Rattle.dn_book.specs.Events.{AreWritten}
use Rattle.dn_book.specs.Sets.{AreFit, AreHopsChanged, after_clears, changed_by, clear_log, is_used_by, one_use_less}
use Rattle.dn_book.specs.Tables.{IsKept, tables_of, use_of}
use Rattle.dn_book.specs.Writes.{Put, clear_events, clear_events_by, clears_of, grant_slots, hop_slots, is_empty, joined_slots, kind_by, revoke_events}
use Rattle.dn_book.proofs.Caught.{caught, other_or_one}
use Rattle.dn_book.proofs.Changes.{has_slot_kept}
use Rattle.dn_book.proofs.Commands.{revoke_leads_over}
use Rattle.dn_book.proofs.Commit.{width_at}
use Rattle.dn_book.proofs.Facts.{fit_then, fits_net_kept}
use Rattle.dn_book.proofs.Frames.{SameFrame, frame_clears}
use Rattle.dn_book.proofs.Given.{GrantGives, by_uses, gives_taken}
use Rattle.dn_book.proofs.Live.{book_held, by_place, clears_there, gives_held, hop_put_gives, picked_empty, put_gives, some_use, used_once, uses_revoked}
use Rattle.dn_book.proofs.Packed.{AreKindsOf, Holds, IsKind, kind_of, set_holds}
use Rattle.dn_book.proofs.Sound.{placed_fit, revoked_sound}
use Rattle.dn_book.proofs.Written.{written_words}
use Rattle.dn_tables.proofs.Units.{unit_fits}

-- what is made alike of each item of a list
same_flat_in : {X Y : Type 0} (f g : X → List Y) (xs : List X) → ((x : X) → Member x xs → f x ≡ g x) → flat_map f xs ≡ flat_map g xs
same_flat_in f g [] e = refl
same_flat_in {X} {Y} f g (x ∷ xs) e = ap (λ (l : List Y). l ++ flat_map f xs) (e x (inl refl)) ∙ ap (λ (l : List Y). g x ++ l) (same_flat_in f g xs (λ y m. e y (inr m)))

-- the clears by a set are those by the net, where the units are there
clear_log_is : (net : List NodeDecl) (kinds : List Meaning) → AreKindsOf net kinds → (set : List NodeTable) → FitsNet net kinds set → (ss : List Put) → ((s : Put) → Member s ss → (u : UnitPart) × (unit_at net s.unit ≡ Some u) × (s.slot < u.slots)) → clear_log set ss ≡ flat_map (clear_events net kinds) ss
clear_log_is net kinds k set f ss there =
    same_flat_in (λ (s : Put). write_events s.unit (clear_writes set s.unit s.slot)) (clear_events net kinds) ss one
  where
    one : (s : Put) → Member s ss → write_events s.unit (clear_writes set s.unit s.slot) ≡ clear_events net kinds s
    one s m =
        let u = there s m in
        let d : IsKind net kinds u.0 = kind_of net kinds k s.unit u.0 u.1 in
        let w : width_in set s.unit ≡ d.kind.words = width_at net kinds k set f s.unit u.0 u.1 d.kind d.at in
        ap (λ n. write_events s.unit (clears_from (s.slot * n) n)) w
        ∙ sym (ap (λ o. clear_events_by (kind_by kinds o) s) u.1 ∙ ap (λ c. clear_events_by c s) d.at)

-- A GRANT THAT GOES FROM A BOOK THAT IS KEPT

-- what is known before a revoke
pub record Going (net : List NodeDecl) (kinds : List Meaning) (book : List Grant) (g : Grant) (set : List NodeTable) : Type 0 where
  pub lawful : All IsLawful kinds
  pub legal : IsLegalWith kinds net
  pub kept : IsKept net kinds book set
  pub live : Member g book

module _ (net : List NodeDecl) (kinds : List Meaning) (book : List Grant) (g : Grant) (set : List NodeTable) (c : Going net kinds book g set) where
  k : AreKindsOf net kinds
  k = record { lawful = c.lawful; shaped = c.legal.shaped }

  pub going_fit : AreFit net g.request.size g.placement.hops
  going_fit = placed_fit net c.legal.legal _ g.request g.placement (c.kept.sound.grants g c.live).placed

  holds : Holds net kinds (records_of net book) set
  holds = record { fits = c.kept.fits; words = c.kept.words; held = book_held net c.legal.legal book c.kept.sound }

  use_there : (n q : ℕ) (t : _) → GrantGives net g n q t → use_in set n q ≡ use_of net book n q
  use_there n q t h =
      let u = (gives_held net g going_fit (c.kept.sound.grants g c.live).rights n q t h).unit in
      c.kept.uses n q (subst (λ o. IsTrue (has_slot_by o q)) (sym (unit_fits net kinds set c.kept.fits n ∙ u.1)) (lt-ltb q u.0.slots u.2))

  used : (n q : ℕ) (t : _) → GrantGives net g n q t → uses_slot net n q g ≡ true
  used n q t h = by_uses net g n q h.place h.hop h.is_hop (gives_taken net g.request.size (hop_rights g.request.rights g.placement.own h.place) h.hop n q t h.gives)

  -- the slots that are cleared are those of the definition
  pub going_clears : filter (is_used_by 1 set) (joined_slots (grant_slots net g)) ≡ clears_of net book g
  going_clears = picked_empty (records_of net (without_id g.id book)) (is_used_by 1 set) (joined_slots (grant_slots net g)) once
    where
      once : (s : Put) → Member s (joined_slots (grant_slots net g)) → is_used_by 1 set s ≡ is_empty (records_of net (without_id g.id book) s.unit s.slot)
      once s m =
          let h = (put_gives net g going_fit s m).gives in
          ap (λ (u : SlotUse). u.uses == 1) (use_there s.unit s.slot s.holds h) ∙ used_once net c.legal.legal book g c.kept.sound c.live s.unit s.slot (used s.unit s.slot s.holds h)

  -- and so are the writes
  pub going_log : clear_log set (filter (is_used_by 1 set) (joined_slots (grant_slots net g))) ≡ flat_map (clear_events net kinds) (clears_of net book g)
  going_log = ap (clear_log set) going_clears ∙ clear_log_is net kinds k set c.kept.fits (clears_of net book g) (clears_there net c.legal.legal book g c.kept.sound c.live)

  -- the grant uses its slots
  pub going_uses : (set' : List NodeTable) → set' ≡ after_clears set (filter (is_used_by 1 set) (joined_slots (grant_slots net g))) → (place : ℕ) (hop : Hop) → slice_get g.placement.hops place ≡ Some hop → (s : Put) → Member s (hop_slots net g.request.size both_rights hop) → 0 < (use_in set' s.unit s.slot).uses
  going_uses set' made place hop at s m =
      let frame : SameFrame set set' = subst (SameFrame set) (sym made) (frame_clears set (filter (is_used_by 1 set) (joined_slots (grant_slots net g)))) in
      let h = hop_put_gives net g going_fit place hop at s m in
      let b = by_place net g place hop s.unit s.slot h.0 h.1 in
      let same : use_in set' s.unit s.slot ≡ use_of net book s.unit s.slot = frame.use_of s.unit s.slot ∙ use_there s.unit s.slot h.0 b in
      subst (λ (u : SlotUse). 0 < u.uses) (sym same) (some_use net c.legal.legal book g c.kept.sound c.live s.unit s.slot (used s.unit s.slot h.0 b))

  -- THE BOOK AFTERWARDS

  after : IsSound net (without_id g.id book)
  after = revoked_sound net g.id book c.kept.sound

  -- the events of a revoke were written into the tables of the book
  pub going_written : (failed : Bool) (log log' : Option (List TableEvent)) (words : List (List ℕ)) → AreWritten (clear_log set (filter (is_used_by 1 set) (joined_slots (grant_slots net g)))) failed log log' (words_of set) words → AreWritten (revoke_events net kinds book g) failed log log' (tables_of net kinds book) words
  going_written failed log log' words w =
      subst (λ es. AreWritten es failed log log' (tables_of net kinds book) words) going_log
      (subst (λ ws. AreWritten (clear_log set (filter (is_used_by 1 set) (joined_slots (grant_slots net g)))) failed log log' ws words) c.kept.words w)

  leads : LeadsOver net kinds book (without_id g.id book) false true (without_id g.id book) book (revoke_events net kinds book g)
  leads = revoke_leads_over net kinds book g false c.legal.legal c.legal.shaped c.lawful c.kept.sound c.live

  -- at a stop each name resolves as before or as after
  pub going_caught : (failed : Bool) (log log' : Option (List TableEvent)) (words : List (List ℕ)) → AreWritten (revoke_events net kinds book g) failed log log' (tables_of net kinds book) words → IsCaught net kinds words book (without_id g.id book)
  going_caught failed log log' words w =
      other_or_one net (record_held net kinds words) (records_of net (without_id g.id book)) (records_of net book)
      (caught net kinds book (without_id g.id book) false true (without_id g.id book) book (revoke_events net kinds book g) c.legal.legal leads failed log log' words w)

  pub revoked : (log log' : Option (List TableEvent)) (set' set'' : List NodeTable) → set' ≡ after_clears set (filter (is_used_by 1 set) (joined_slots (grant_slots net g))) → AreWritten (revoke_events net kinds book g) false log log' (tables_of net kinds book) (words_of set') → AreHopsChanged net g.request.size (λ place. one_use_less) g.placement.hops set' set'' → IsKept net kinds (without_id g.id book) set''
  revoked log log' set' set'' made written changed = record {
    sound = after;
    fits = new.fits;
    words = new.words;
    held = set_holds net kinds k (records_of net (without_id g.id book)) set'' new;
    uses = uses;
  }
    where
      frame : SameFrame set set'
      frame = subst (SameFrame set) (sym made) (frame_clears set (filter (is_used_by 1 set) (joined_slots (grant_slots net g))))

      new : Holds net kinds (records_of net (without_id g.id book)) set''
      new = record {
        fits = fits_net_kept net kinds set set'' (fit_then set set' set'' frame.fits changed.fits) c.kept.fits;
        words = changed.same_words ∙ written_words (revoke_events net kinds book g) log log' (tables_of net kinds book) (words_of set') written ∙ leads.leaves;
        held = book_held net c.legal.legal (without_id g.id book) after;
      }

      uses : (n q : ℕ) → IsTrue (has_slot set'' n q) → use_in set'' n q ≡ use_of net (without_id g.id book) n q
      uses n q there =
          let before : IsTrue (has_slot set' n q) = sym (has_slot_kept set' set'' n q changed.fits.units) ∙ there in
          let first : IsTrue (has_slot set n q) = sym (has_slot_kept set set' n q frame.fits.units) ∙ before in
          changed.uses n q before
          ∙ ap (changed_by net g.request.size (λ place. one_use_less) 0 g.placement.hops n q) (frame.use_of n q ∙ c.kept.uses n q first)
          ∙ uses_revoked net c.legal.legal book g c.kept.sound c.live n q
