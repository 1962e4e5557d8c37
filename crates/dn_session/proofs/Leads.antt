-- The events of a grant and of a revoke lead from the tables of a session to the next.
use Rattle.std.proofs.Common.{◌≡◌, subst, refl, arith, ℕ, ◌≤◌, ◌⊎◌, inl, inr, IsTrue, Bool, false, true, List, [], ◌∷◌, ◌++◌, length, take}
use Rattle.std.specs.List.{All}
use Rattle.dn_base.specs.declared.device.TableEvent.{TableEvent}
use Rattle.dn_net.specs.declared.node.NodeDecl.{NodeDecl}
use Rattle.dn_net.specs.Chain.{Member}
use Rattle.dn_net.specs.Legal.{IsLegalNet}
use Rattle.dn_kind.specs.Kind.{IsLawful}
use Rattle.dn_kind.specs.Rights.{are_rights}
use Rattle.dn_kind.specs.Tables.{Held, record_held}
use Rattle.dn_kind.specs.Units.{IsLegalWith}
use Rattle.dn_book.specs.declared.grant.Grant.{Grant}
use Rattle.dn_book.specs.Between.{IsCaught, IsOneOrOther}
use Rattle.dn_book.specs.Book.{IsSound, records_of, slots_of, without_id}
use Rattle.dn_book.specs.Commands.{LeadsOver}
use Rattle.dn_book.specs.Events.{after_events, held_at}
use Rattle.dn_book.specs.Going.{AreGoing}
use Rattle.dn_book.specs.Laws.{IsGrantFor}
use Rattle.dn_book.specs.Tables.{tables_of}
use Rattle.dn_book.specs.Writes.{grant_events, revoke_events}
use Rattle.dn_book.proofs.Between.{between_is_one_or_other}
use Rattle.dn_book.proofs.Caught.{other_or_one}
use Rattle.dn_book.proofs.Commands.{grant_leads_over, revoke_leads_over}
use Rattle.dn_kind.specs.declared.rights.Rights.{Rights}
use Rattle.dn_tables.specs.declared.placement.Hop.{Hop}
use Rattle.dn_gather.specs.declared.piece.Piece.{Piece}
use Rattle.dn_gather.specs.declared.scatter.Scatter.{Scatter}
use Rattle.dn_gather.specs.Gather.{IsScattered, grants_of}
use Rattle.dn_gather.specs.Grants.{AreGrantsFor, gather_events, grants_at}
use Rattle.dn_gather.specs.Scattered.{ArePlaced}
use Rattle.dn_script.specs.Turn.{cleared_after}
use Rattle.dn_gather.proofs.Allowed.{scattered_grants}
use Rattle.dn_gather.proofs.Coming.{pieces_keep_book}
use Rattle.dn_script.specs.Books.{IsKeptFaithful}
use Rattle.dn_script.proofs.Moments.{gather_goes_on}
use Rattle.dn_session.specs.Changing.{EventsLeadTo, LieBetween}
use Rattle.dn_session.specs.Shipped.{shipped_kinds}

-- tables in which some of the events came
leads_caught : (net : List NodeDecl) (book next : List Grant) (cleared last : Bool) (less more : List Grant) (events : List TableEvent) → IsLegalNet net → LeadsOver net shipped_kinds book next cleared last less more events → (count : ℕ) → count ≤ length events → IsCaught net shipped_kinds (after_events (take count events) (tables_of net shipped_kinds book)) less more
leads_caught net book next cleared last less more events legal leads count few =
    let here = leads.between count few in
    between_is_one_or_other net (records_of net less) (held_at net shipped_kinds (tables_of net shipped_kinds book) events count) (records_of net more) legal here.0 here.1

-- records between those of two books, whichever has more
between : (net : List NodeDecl) (h : Held) (before next : List Grant) → IsLegalNet net → LieBetween net h before next ⊎ LieBetween net h next before → IsOneOrOther net h (records_of net before) (records_of net next)
between net h before next legal (inl l) = between_is_one_or_other net (records_of net before) h (records_of net next) legal l.0 l.1
between net h before next legal (inr l) = other_or_one net h (records_of net next) (records_of net before) (between_is_one_or_other net (records_of net next) h (records_of net before) legal l.0 l.1)

module _ (net : List NodeDecl) (book : List Grant) (g : Grant) (cleared : Bool) (lawful : All IsLawful shipped_kinds) (legal : IsLegalWith shipped_kinds net) (sound : IsSound net book) where
  pub grant_leads : IsGrantFor net book g → EventsLeadTo net book (book ++ g ∷ []) cleared false (grant_events net shipped_kinds book cleared g)
  grant_leads f =
      let over = grant_leads_over net shipped_kinds book g cleared legal.legal legal.shaped lawful sound f in
      record { leaves = over.leaves; between = λ count few. inl (over.between count few); caught = leads_caught net book _ cleared false book (book ++ g ∷ []) _ legal.legal over; going = over.going }

  pub revoke_leads : Member g book → EventsLeadTo net book (without_id g.id book) cleared true (revoke_events net shipped_kinds book g)
  revoke_leads live =
      let over = revoke_leads_over net shipped_kinds book g cleared legal.legal legal.shaped lawful sound live in
      record {
        leaves = over.leaves;
        between = λ count few. inr (over.between count few);
        caught = λ count few. other_or_one net (record_held net shipped_kinds (after_events (take count (revoke_events net shipped_kinds book g)) (tables_of net shipped_kinds book))) (records_of net (without_id g.id book)) (records_of net book) (leads_caught net book _ cleared true (without_id g.id book) book _ legal.legal over count few);
        going = over.going;
      }

-- the events of the grants of pieces, one after another
module _ (net : List NodeDecl) (book : List Grant) (cleared : Bool) (agent : ℕ) (rights : Rights) (ps : List Piece) (place : Scatter) (lawful : All IsLawful shipped_kinds) (legal : IsLegalWith shipped_kinds net) (kept : IsKeptFaithful net book) (with_rights : IsTrue (are_rights rights)) (placed : IsScattered net book agent rights ps place) where
  -- with them the book stays sound and faithful
  pub gathered_kept : IsKeptFaithful net (book ++ grants_of agent rights ps place)
  gathered_kept =
      let come : AreGrantsFor net book agent rights place.unit place.v ps place.hops = scattered_grants net book agent rights ps place with_rights placed in
      let keeps = pieces_keep_book net book agent rights place.unit place.v ps place.hops legal.legal kept.sound come in
      record { sound = keeps.0; faithful = keeps.1 kept.faithful placed.first.suited.are_admissible }

  pub gather_leads : 1 ≤ length ps → EventsLeadTo net book (book ++ grants_of agent rights ps place) cleared false (gather_events net shipped_kinds book cleared (grants_of agent rights ps place))
  gather_leads some =
      let next : List Grant = book ++ grants_of agent rights ps place in
      let events : List TableEvent = gather_events net shipped_kinds book cleared (grants_of agent rights ps place) in
      let r = gather_goes_on shipped_kinds net lawful legal book cleared agent rights ps place kept with_rights placed gathered_kept in
      record {
        leaves = r.leaves;
        between = r.between;
        caught = λ count few. between net (held_at net shipped_kinds (tables_of net shipped_kinds book) events count) book next legal.legal (r.between count few);
        going = subst (λ (last : Bool). AreGoing net shipped_kinds (tables_of net shipped_kinds book) cleared events last) (none_cleared ps place.hops place.v some placed.first.suited.are_placed) r.going;
      }
    where
      -- some were granted, so a fence came since the last clear
      none_cleared : (qs : List Piece) (hops : List Hop) (v : ℕ) → 1 ≤ length qs → ArePlaced net (slots_of net book) agent rights place.unit v qs hops → cleared_after cleared (grants_at agent rights v qs hops) ≡ false
      none_cleared [] hops v l p = absurd (omega arith)
      none_cleared (q ∷ qs) [] v l p = absurd p
      none_cleared (q ∷ qs) (hop ∷ hops) v l p = refl
