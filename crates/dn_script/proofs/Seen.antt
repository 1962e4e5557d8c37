-- The rows of what a node's addresses come to under records, and that they are those of what is owed.
use Rattle.std.proofs.Common.{◌≡◌, ◌∙◌, ap, sym, subst, ℕ, ◌↔◌, List, map, slice_get, IsTrue}
use Rattle.dn_interval.specs.declared.row.End.{End}
use Rattle.dn_interval.specs.declared.row.Row.{Row}
use Rattle.dn_interval.specs.Rows.{AreNormal}
use Rattle.dn_interval.specs.Listed.{Seen, SeenApart, SeenGive, listed_rows, seen_view}
use Rattle.dn_interval.proofs.Fronts.{listed_are_normal}
use Rattle.dn_net.specs.declared.node.NodeDecl.{NodeDecl}
use Rattle.dn_net.specs.Decode.{is_agent_at}
use Rattle.dn_kind.specs.declared.rights.Access.{Access}
use Rattle.dn_kind.specs.Kind.{Meaning}
use Rattle.dn_kind.specs.Tables.{Held, allowing, record_allowing}
use Rattle.dn_tables.specs.Set.{record_kept}
use Rattle.dn_view.specs.Views.{AreViewed, ResolvesFromUnder}
use Rattle.dn_book.specs.declared.grant.Grant.{Grant}
use Rattle.dn_book.specs.Book.{IsFaithful, owed_names, records_of}
use Rattle.dn_book.proofs.Owed.{owed_names_are_resolved}
use Rattle.dn_walk.specs.Ends.{end_of}
use Rattle.dn_audit.specs.Told.{ends_under}
use Rattle.dn_audit.proofs.Told.{ends_under_ascend, resolved_end, rows_listed}
use Rattle.dn_script.specs.declared.state.Session.{Session as Kept}
use Rattle.dn_script.specs.State.{IsState}
use Rattle.dn_script.specs.Viewed.{OwedRowsAreNormal, owed_rows}

-- the records of a book for an access
pub held_same : (net : List NodeDecl) (book : List Grant) (access : Access) (h : Held) → ((node slot : ℕ) → h node slot ≡ records_of net book node slot) → ◌≡◌ {A = Held} (allowing access h) (allowing access (records_of net book))
held_same net book access h same = λ i node slot. ap (record_allowing access) (same node slot) i

-- what a faithful book owes to the addresses of an agent is what these come to under the records of the book
ends_owed : (net : List NodeDecl) (book : List Grant) (access : Access) (n : ℕ) → IsFaithful net book → IsTrue (is_agent_at (slice_get net n)) → ◌≡◌ {A = ℕ → List End} (ends_under net (allowing access (records_of net book)) n) (λ a. map end_of (owed_names net book access (record { node = n; addr = a })))
ends_owed net book access n faithful agent = λ i a. ap (map end_of) (sym (owed_names_are_resolved net book faithful access (record { node = n; addr = a }) agent)) i

-- rows that are normal under the records of a faithful book are the rows of what it owes to an agent
pub rows_are_owed : (net : List NodeDecl) (book : List Grant) (access : Access) (n : ℕ) (h : Held) (rows : List Row) → IsFaithful net book → IsTrue (is_agent_at (slice_get net n)) → ((node slot : ℕ) → h node slot ≡ records_of net book node slot) → AreNormal (ResolvesFromUnder net (allowing access h) n) rows → map seen_view rows ≡ owed_rows net book access n
rows_are_owed net book access n h rows faithful agent same normal =
    rows_listed net (allowing access h) n rows normal
    ∙ ap (λ (k : Held). listed_rows (ends_under net k n)) (held_same net book access h same)
    ∙ ap listed_rows (ends_owed net book access n faithful agent)

-- the rows of what is owed are normal rows of what an agent's addresses resolve to under the records of the book
pub owed_rows_are_normal : OwedRowsAreNormal
owed_rows_are_normal net book faithful access n agent =
    let h : Held = allowing access (records_of net book) in
    let law = listed_are_normal (ends_under net h n) (ends_under_ascend net h n) in
    let owed = ends_owed net book access n faithful agent in
    record {
      apart = subst (λ (names : ℕ → List End). SeenApart 0 (listed_rows names)) owed law.0;
      exact = λ a y l. subst (λ (names : ℕ → List End). ResolvesFromUnder net h n a y ↔ SeenGive (listed_rows names) a y) owed ((λ r. (law.1 a y l).0 ((resolved_end net h n a y).1 r)), (λ g. (resolved_end net h n a y).0 ((law.1 a y l).1 g)));
    }

-- so what holds of the rows that a node sees under the tables of a book that is kept holds of those of what it owes
pub seen_is_owed : (net : List NodeDecl) (kinds : List Meaning) (k : Kept) (access : Access) (n : ℕ) (rows : List Row) (P : List Seen → Type 0) → IsState kinds net k → IsTrue (is_agent_at (slice_get net n)) → AreViewed net (allowing access (record_kept kinds k.book.set)) n rows → P (map seen_view rows) → P (owed_rows net k.book.grants access n)
seen_is_owed net kinds k access n rows P state agent normal p =
    subst P (rows_are_owed net k.book.grants access n (record_kept kinds k.book.set) rows state.faithful agent state.kept.held normal) p

-- the same of what it sees under any tables
pub fixed_is_owed : (net : List NodeDecl) (kinds : List Meaning) (k : Kept) (access : Access) (n : ℕ) (rows : List Row) (P : List Seen → Type 0) → IsState kinds net k → IsTrue (is_agent_at (slice_get net n)) → ((h : Held) → AreViewed net h n rows) → P (map seen_view rows) → P (owed_rows net k.book.grants access n)
fixed_is_owed net kinds k access n rows P state agent fixed p =
    seen_is_owed net kinds k access n rows P state agent (fixed (allowing access (record_kept kinds k.book.set))) p
