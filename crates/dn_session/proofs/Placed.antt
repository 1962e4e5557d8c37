-- A request for which no refusal holds, at the placement that is found for it.
use Rattle.std.proofs.Common.{◌≡◌, ◌∙◌, ℕ, List, [], ◌∷◌, ◌++◌, Option, Some, None, IsTrue}
use Rattle.dn_net.specs.declared.node.NodeDecl.{NodeDecl}
use Rattle.dn_net.specs.Legal.{IsLegalNet}
use Rattle.dn_kind.specs.Rights.{are_rights}
use Rattle.dn_tables.specs.Placement.{Place}
use Rattle.dn_placement.specs.declared.request.Request.{Request}
use Rattle.dn_placement.specs.Order.{IsAt, IsFirst, NoneSuited}
use Rattle.dn_view.proofs.AddedLaw.{refusal_is_complete}
use Rattle.dn_book.specs.declared.grant.Grant.{Grant}
use Rattle.dn_book.specs.Book.{IsFaithful, IsSound, slots_of}
use Rattle.dn_book.specs.Laws.{IsGrantFor}
use Rattle.dn_book.proofs.Begun.{book_is_proper}
use Rattle.dn_book.proofs.Faithful.{grant_keeps_book}
use Rattle.dn_place.specs.Requests.{IsRequest}
use Rattle.dn_grant.specs.Grant.{grant_of_request}
use Rattle.dn_grant.specs.Refusal.{grant_refusal}
use Rattle.dn_grant.proofs.Allowed.{allowed_is, allowed_within}
use Rattle.dn_session.specs.Granting.{IsUnplacedAt, NoAdditionAt}

module _ (net : List NodeDecl) (book : List Grant) (id : ℕ) (rq : Request) (at : Option ℕ) (allowed : grant_refusal net book id rq ≡ None) (rights : IsTrue (are_rights rq.rights)) where
  -- a placement may be looked for
  pub may_ask : IsRequest net rq
  may_ask =
      let is = allowed_is net book id rq allowed in
      let within = allowed_within net book id rq is in
      record { agent = is.agent; rights = rights; some = within.0; buffer = within.1 }

  -- its grant may come into the book
  pub placed_grant : (p : Place) → IsFirst net (slots_of net book) rq at p → IsGrantFor net book (grant_of_request id rq p)
  placed_grant p first =
      let is = allowed_is net book id rq allowed in
      record { few = is.few; new = is.new; agent = is.agent; rights = rights; placed = first.suited.is_placement }

  -- with it a faithful book stays so
  pub placed_faithful : (p : Place) → IsLegalNet net → IsSound net book → IsFirst net (slots_of net book) rq at p → IsFaithful net book → IsFaithful net (book ++ grant_of_request id rq p ∷ [])
  placed_faithful p legal sound first faithful =
      (grant_keeps_book net book (grant_of_request id rq p) legal sound (placed_grant p first)).1 faithful first.suited.admissible

  -- where no placement is admissible, no addition gives one address either
  pub unplaced_at : IsLegalNet net → IsSound net book → NoneSuited net (slots_of net book) rq at → IsUnplacedAt net book id rq at
  unplaced_at legal sound none = record { allowed = allowed; none = none; complete = complete }
    where
      complete : rq.size ≡ 1 → NoAdditionAt net book rq at
      complete one v added is_at ad ex =
          let is = allowed_is net book id rq allowed in
          let proper = book_is_proper net book legal sound in
          let p = refusal_is_complete net (slots_of net book) rq v added legal proper is.agent rights one ad ex in
          none p.0 (record { is_placement = p.1.is_placement; is_at = at_of at is_at p.1.is_at; admissible = p.1.admissible })
        where
          at_of : (o : Option ℕ) → IsAt o v → {w : ℕ} → w ≡ v → IsAt o w
          at_of None i e = tt
          at_of (Some a) i e = e ∙ i
