-- A session is one still after each call.
use Rattle.std.proofs.Common.{◌≡◌, sym, subst, refl, Bool, List, Result, Ok, Err, OnOk, OnErr}
use Rattle.std.specs.List.{All}
use Rattle.dn_base.specs.declared.device.TableEvent.{TableEvent}
use Rattle.dn_base.specs.Device.{UnitSize}
use Rattle.dn_net.specs.declared.node.NodeDecl.{NodeDecl}
use Rattle.dn_kind.specs.declared.kinds.Kinds.{Kinds}
use Rattle.dn_kind.specs.Kind.{IsLawful, Meaning}
use Rattle.dn_kind.specs.Kinded.{AreKinds, kinds_of}
use Rattle.dn_flat.specs.Levels.{FlatsView}
use Rattle.dn_book.specs.declared.grant.Grant.{Grant}
use Rattle.dn_book.specs.Book.{IsFaithful}
use Rattle.dn_book.specs.State.{BookState}
use Rattle.dn_book.specs.Tables.{IsKept}
use Rattle.dn_tables.proofs.Slots.{all_of_map}
use Rattle.dn_queue.specs.Queue.{QueueState}
use Rattle.dn_queue.specs.Changing.{AreUnchanged, IsBookChanged}
use Rattle.dn_session.specs.Changing.{IsSessionChanged, EventsLeadTo}
use Rattle.dn_session.specs.Open.{IsOpen, SessionState}
use Rattle.dn_session.specs.Shipped.{shipped_kinds}

-- what a session is, seen from outside
abbrev pub seen : List NodeDecl → BookState → QueueState → SessionState
seen net book queue = record { net = net; book = book; pending = queue.events }

-- its book was changed, and is faithful
pub changed_open : (net : List NodeDecl) (flats : FlatsView) (ks : List Meaning) (next : List Grant) (cleared : Bool) (events : List TableEvent) (book book' : BookState) (queue queue' : QueueState) → ks ≡ shipped_kinds → IsOpen net flats book queue.units → IsBookChanged net ks next cleared events book book' queue queue' → IsFaithful net next → IsOpen net flats book' queue'.units
changed_open net flats ks next cleared events book book' queue queue' shipped is done faithful = record {
  legal = is.legal;
  flat = is.flat;
  faithful = subst (λ (gs : List Grant). IsFaithful net gs) (sym done.grants) faithful;
  unfailed = done.unfailed;
  kept = subst (λ (gs : List Grant). IsKept net shipped_kinds gs book'.set) (sym done.grants) (subst (λ (l : List Meaning). IsKept net l next book'.set) shipped done.kept);
  on_device = done.on_device;
}

-- so it is changed, seen from outside
pub changed_seen : (net : List NodeDecl) (ks : List Meaning) (next : List Grant) (cleared : Bool) (events : List TableEvent) (book book' : BookState) (queue queue' : QueueState) → IsBookChanged net ks next cleared events book book' queue queue' → EventsLeadTo net book.grants next book.cleared cleared events → IsSessionChanged next cleared events (seen net book queue) (seen net book' queue')
changed_seen net ks next cleared events book book' queue queue' done leads =
    record { net = refl; grants = done.grants; fenced = done.fenced; pending = done.pending; leads = leads }

-- nothing was changed
pub unchanged_open : (net : List NodeDecl) (flats : FlatsView) (book book' : BookState) (queue queue' : QueueState) → IsOpen net flats book queue.units → AreUnchanged book book' queue queue' → IsOpen net flats book' queue'.units
unchanged_open net flats book book' queue queue' is same =
    subst (λ (b : BookState). IsOpen net flats b queue'.units) (sym same.stays) (subst (λ (us : List UnitSize). IsOpen net flats book us) (sym same.units) is)

pub unchanged_seen : (net : List NodeDecl) (book book' : BookState) (queue queue' : QueueState) → AreUnchanged book book' queue queue' → seen net book' queue' ≡ seen net book queue
unchanged_seen net book book' queue queue' same = λ i. record { net = net; book = same.stays i; pending = same.events i }

-- a call changed it whole, or changed nothing
pub after_change : {E : Type 0} (net : List NodeDecl) (flats : FlatsView) (ks : List Meaning) (next : List Grant) (cleared : Bool) (events : List TableEvent) (book book' : BookState) (queue queue' : QueueState) → ks ≡ shipped_kinds → IsOpen net flats book queue.units → IsFaithful net next → (result : Result (Unit {0}) E) → OnOk result (IsBookChanged net ks next cleared events book book' queue queue') → OnErr result (AreUnchanged book book' queue queue') → IsOpen net flats book' queue'.units
after_change net flats ks next cleared events book book' queue queue' shipped is faithful (Ok u) done same = changed_open net flats ks next cleared events book book' queue queue' shipped is done faithful
after_change net flats ks next cleared events book book' queue queue' shipped is faithful (Err e) done same = unchanged_open net flats book book' queue queue' is same

-- the shipped kinds are lawful, since those of the list are
pub shipped_lawful : {K : Type 0} {V : K → Type 0} (means : (k : K) × V k → Meaning) (kinds : Kinds K V) → AreKinds means kinds → kinds_of means kinds ≡ shipped_kinds → All IsLawful shipped_kinds
shipped_lawful means kinds are shipped = subst (λ (ks : List Meaning). All IsLawful ks) shipped (all_of_map _ kinds.list.items are.lawful)
