-- The laws on books: a sound and faithful book stays so as grants come and go, and owes what its
-- records give.
use Rattle.std.specs.Prelude.{◌≡◌, ℕ, ◌<◌, ◌≤◌, ◌↔◌, false, List, [], ◌∷◌, ◌++◌, length, slice_get, IsTrue}
use Rattle.std.specs.List.{All}
use Rattle.dn_net.specs.declared.node.Name.{Name}
use Rattle.dn_net.specs.declared.node.NodeDecl.{NodeDecl}
use Rattle.dn_net.specs.Chain.{Member}
use Rattle.dn_net.specs.Decode.{is_agent_at}
use Rattle.dn_net.specs.Legal.{IsLegalNet}
use Rattle.dn_kind.specs.declared.rights.Access.{Access}
use Rattle.dn_kind.specs.Kind.{Meaning, IsLawful}
use Rattle.dn_kind.specs.Rights.{are_rights}
use Rattle.dn_kind.specs.Tables.{allowing, record_held, resolved_names_under}
use Rattle.dn_kind.specs.Units.{KeepsUnitShape}
use Rattle.dn_placement.specs.Exposure.{IsAdmissible}
use Rattle.dn_placement.specs.Placement.{IsPlacement}
use Rattle.dn_book.specs.declared.grant.Grant.{Grant}
use Rattle.dn_book.specs.Book.{IsFaithful, IsSound, Owes, has_id, owed_names, records_of, slots_of, without_id}
use Rattle.dn_book.specs.Tables.{tables_of}
use Rattle.dn_book.specs.Writes.{clears_of}

-- what a grant must be to come into a book: its id is new, there is room, and it is a placement in
-- the slots as the book leaves them
pub record IsGrantFor (net : List NodeDecl) (book : List Grant) (g : Grant) : Type 0 where
  pub few : length book < 4096
  pub new : has_id g.id book ≡ false
  pub agent : IsTrue (is_agent_at (slice_get net g.request.agent))
  pub rights : IsTrue (are_rights g.request.rights)
  pub placed : IsPlacement net (slots_of net book) g.request g.placement

-- The empty book is sound and faithful.
abbrev pub EmptyBookIsFaithful : Type 0
EmptyBookIsFaithful = (net : List NodeDecl) → IsLegalNet net →
    IsSound net [] × IsFaithful net []

-- A sound book is sound with one more grant that is a placement, and faithful where it was so and the
-- placement is admissible.
abbrev pub GrantKeepsBook : Type 0
GrantKeepsBook = (net : List NodeDecl) (book : List Grant) (g : Grant) → IsLegalNet net →
    IsSound net book → IsGrantFor net book g → IsSound net (book ++ g ∷ [])
    × (IsFaithful net book → IsAdmissible net (records_of net book) g.request g.placement →
    IsFaithful net (book ++ g ∷ []))

-- A sound book is sound without the grants of an id, and faithful where it was so.
abbrev pub RevokeKeepsBook : Type 0
RevokeKeepsBook = (net : List NodeDecl) (book : List Grant) (id : ℕ) → IsLegalNet net →
    IsSound net book → IsSound net (without_id id book)
    × (IsFaithful net book → IsFaithful net (without_id id book))

-- Taking a live grant out of a sound book clears a slot at least: no other grant uses those of its own
-- hop.
abbrev pub RevokeClearsSome : Type 0
RevokeClearsSome = (net : List NodeDecl) (book : List Grant) (g : Grant) → IsLegalNet net →
    IsSound net book → Member g book → 1 ≤ length (clears_of net book g)

-- The tables of a sound book hold exactly the records of the book.
abbrev pub TablesHoldRecords : Type 0
TablesHoldRecords = (net : List NodeDecl) (kinds : List Meaning) (book : List Grant) →
    IsLegalNet net → KeepsUnitShape kinds net → All IsLawful kinds → IsSound net book →
    (node slot : ℕ) → record_held net kinds (tables_of net kinds book) node slot
    ≡ records_of net book node slot

-- The list of names has exactly those that a book owes.
abbrev pub OwedNamesAreOwed : Type 0
OwedNamesAreOwed = (net : List NodeDecl) (book : List Grant) (access : Access) (x y : Name) →
    Member y (owed_names net book access x) ↔ Owes net book access x y

-- A faithful book owes to each agent what its addresses resolve to under the records of the book.
abbrev pub OwedNamesAreResolved : Type 0
OwedNamesAreResolved = (net : List NodeDecl) (book : List Grant) → IsFaithful net book →
    (access : Access) (x : Name) → IsTrue (is_agent_at (slice_get net x.node)) →
    owed_names net book access x
    ≡ resolved_names_under net (allowing access (records_of net book)) x
