-- What the events of a grant and of a revoke do to the tables of a book, one event after the other.
use Rattle.std.specs.Prelude.{◌≡◌, ℕ, ◌≤◌, Bool, true, false, List, [], ◌∷◌, ◌++◌, length}
use Rattle.std.specs.List.{All}
use Rattle.dn_base.specs.declared.device.TableEvent.{TableEvent}
use Rattle.dn_net.specs.declared.node.NodeDecl.{NodeDecl}
use Rattle.dn_net.specs.Chain.{Member}
use Rattle.dn_net.specs.Legal.{IsLegalNet}
use Rattle.dn_kind.specs.Kind.{IsLawful, Meaning}
use Rattle.dn_kind.specs.Tables.{Extends}
use Rattle.dn_kind.specs.Units.{KeepsUnitShape}
use Rattle.dn_book.specs.declared.grant.Grant.{Grant}
use Rattle.dn_book.specs.Book.{IsSound, records_of, without_id}
use Rattle.dn_book.specs.Events.{after_events, held_at}
use Rattle.dn_book.specs.Going.{AreGoing}
use Rattle.dn_book.specs.Laws.{IsGrantFor}
use Rattle.dn_book.specs.Tables.{tables_of}
use Rattle.dn_book.specs.Writes.{grant_events, revoke_events}

-- Events lead from the tables of one book to those of the next. No record is added after a clear
-- without a fence between them, and after each number of the events the tables hold records between
-- those of two books.
pub record LeadsOver (net : List NodeDecl) (kinds : List Meaning) (book next : List Grant)
    (cleared last : Bool) (less more : List Grant) (events : List TableEvent) : Type 0 where
  pub going : AreGoing net kinds (tables_of net kinds book) cleared events last
  pub leaves : after_events events (tables_of net kinds book) ≡ tables_of net kinds next
  pub between : (count : ℕ) → count ≤ length events →
      Extends (records_of net less) (held_at net kinds (tables_of net kinds book) events count)
      × Extends (held_at net kinds (tables_of net kinds book) events count) (records_of net more)

-- The events of a grant lead from a sound book to the one with it.
abbrev pub GrantLeadsOver : Type 0
GrantLeadsOver = (net : List NodeDecl) (kinds : List Meaning) (book : List Grant) (g : Grant)
    (cleared : Bool) → IsLegalNet net → KeepsUnitShape kinds net → All IsLawful kinds →
    IsSound net book → IsGrantFor net book g → LeadsOver net kinds book (book ++ g ∷ []) cleared false
    book (book ++ g ∷ []) (grant_events net kinds book cleared g)

-- The events of taking a live grant out lead from a sound book to the one without it.
abbrev pub RevokeLeadsOver : Type 0
RevokeLeadsOver = (net : List NodeDecl) (kinds : List Meaning) (book : List Grant) (g : Grant)
    (cleared : Bool) → IsLegalNet net → KeepsUnitShape kinds net → All IsLawful kinds →
    IsSound net book → Member g book → LeadsOver net kinds book (without_id g.id book) cleared true
    (without_id g.id book) book (revoke_events net kinds book g)
