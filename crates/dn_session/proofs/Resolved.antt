-- What names resolve to in a session, and what nodes see.
use Rattle.std.proofs.Common.{◌≡◌, ◌∙◌, ap, subst, ℕ, List, slice_get, Result, Ok, Err, IfOk, IsTrue}
use Rattle.dn_interval.specs.declared.row.Row.{Row}
use Rattle.dn_interval.specs.Rows.{AreNormal}
use Rattle.dn_interval.proofs.Normal.{normal_like}
use Rattle.dn_net.specs.declared.node.NodeDecl.{NodeDecl}
use Rattle.dn_net.specs.Decode.{is_agent_at}
use Rattle.dn_kind.specs.declared.rights.Access.{Access}
use Rattle.dn_kind.specs.Kind.{Meaning}
use Rattle.dn_kind.specs.Tables.{Held, allowing}
use Rattle.dn_tables.specs.declared.table.NodeTable.{NodeTable}
use Rattle.dn_tables.specs.Set.{record_kept}
use Rattle.dn_walk.specs.Ends.{name_of_end}
use Rattle.dn_view.specs.Views.{AreViewed}
use Rattle.dn_book.specs.declared.grant.Grant.{Grant}
use Rattle.dn_book.specs.Book.{IsFaithful, records_of}
use Rattle.dn_book.specs.State.{BookState}
use Rattle.dn_book.specs.Tables.{IsKept}
use Rattle.dn_session.specs.Seeing.{OwesFrom}
use Rattle.dn_session.specs.Shipped.{shipped_kinds}

-- the tables of a session hold the records of its grants
pub kept_are : (net : List NodeDecl) (ks : List Meaning) (book : BookState) → ks ≡ shipped_kinds → IsKept net shipped_kinds book.grants book.set → ◌≡◌ {A = Held} (record_kept ks book.set) (records_of net book.grants)
kept_are net ks book shipped kept = ap (λ (l : List Meaning). record_kept l book.set) shipped ∙ (λ i n q. kept.held n q i)

-- so what holds under its tables holds under these records
pub under_kept : (P : Held → Type 0) (net : List NodeDecl) (ks : List Meaning) (book : BookState) (set : List NodeTable) → set ≡ book.set → ks ≡ shipped_kinds → IsKept net shipped_kinds book.grants book.set → P (record_kept ks set) → P (records_of net book.grants)
under_kept P net ks book set same shipped kept is = subst P (ap (record_kept ks) same ∙ kept_are net ks book shipped kept) is

-- what holds of a result that is done gives something else
pub if_ok_then : {A E : Type 0} {P Q : A → Type 0} (result : Result A E) → IfOk result P → ((a : A) → P a → Q a) → IfOk result Q
if_ok_then (Ok a) p f = f a p
if_ok_then (Err e) p f = tt

-- the rows of an agent give what is owed to it
pub rows_owed : (net : List NodeDecl) (book : List Grant) (access : Access) (node : ℕ) (rows : List Row) → IsFaithful net book → IsTrue (is_agent_at (slice_get net node)) → AreViewed net (allowing access (records_of net book)) node rows → AreNormal (OwesFrom net book access node) rows
rows_owed net book access node rows faithful agent seen =
    normal_like _ (OwesFrom net book access node) rows (λ a y t. faithful access (record { node = node; addr = a }) (name_of_end y) agent) seen
