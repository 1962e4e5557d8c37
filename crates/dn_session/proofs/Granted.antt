-- What a session comes to at a grant.
use Rattle.std.proofs.Common.{◌≡◌, ap, sym, subst, ℕ, false, List, [], ◌∷◌, ◌++◌, Option, None, Result, Ok, Err, IfOk, IsTrue}
use Rattle.std.specs.List.{All}
use Rattle.dn_net.specs.declared.node.NodeDecl.{NodeDecl}
use Rattle.dn_kind.specs.Kind.{IsLawful, Meaning}
use Rattle.dn_kind.specs.Rights.{are_rights}
use Rattle.dn_flat.specs.Levels.{FlatsView}
use Rattle.dn_tables.specs.Placement.{Place}
use Rattle.dn_placement.specs.declared.request.Request.{Request}
use Rattle.dn_placement.specs.Order.{IsFirst}
use Rattle.dn_book.specs.Book.{slots_of}
use Rattle.dn_book.specs.State.{BookState}
use Rattle.dn_book.specs.Writes.{grant_events}
use Rattle.dn_grant.specs.declared.refusal.GrantRefusal.{GrantRefusal}
use Rattle.dn_grant.specs.declared.refusal.GrantRefusal.TheVariants.{NoPlacement}
use Rattle.dn_grant.specs.Grant.{grant_of_request}
use Rattle.dn_grant.specs.Refusal.{grant_refusal}
use Rattle.dn_queue.specs.declared.change.ChangeFault.{ChangeFault}
use Rattle.dn_queue.specs.declared.change.ChangeFault.TheVariants.{Refused}
use Rattle.dn_queue.specs.Changing.{IsBookChanged}
use Rattle.dn_queue.specs.Queue.{QueueState}
use Rattle.dn_session.specs.Granting.{IsSessionGranted, IsRefused, IsUnplacedAt}
use Rattle.dn_session.specs.Open.{IsOpen, SessionState}
use Rattle.dn_session.specs.Shipped.{shipped_kinds}
use Rattle.dn_session.proofs.Kept.{changed_seen, seen}
use Rattle.dn_session.proofs.Leads.{grant_leads}
use Rattle.dn_session.proofs.Placed.{placed_grant}

-- the request is granted
pub granted_seen : (net : List NodeDecl) (flats : FlatsView) (ks : List Meaning) (book book' : BookState) (queue queue' : QueueState) (id : ℕ) (rq : Request) (at : Option ℕ) (p : Place) (v : ℕ) → ks ≡ shipped_kinds → All IsLawful shipped_kinds → IsOpen net flats book queue.units → grant_refusal net book.grants id rq ≡ None → IsTrue (are_rights rq.rights) → IsFirst net (slots_of net book.grants) rq at p → v ≡ p.v → IsBookChanged net ks (book.grants ++ grant_of_request id rq p ∷ []) false (grant_events net ks book.grants book.cleared (grant_of_request id rq p)) book book' queue queue' → IsSessionGranted (seen net book queue) id rq at v (seen net book' queue')
granted_seen net flats ks book book' queue queue' id rq at p v shipped lawful is allowed rights first address done = record {
  place = p;
  placed = record { allowed = allowed; first = first };
  address = address;
  changed = changed_seen net shipped_kinds _ _ _ book book' queue queue'
      (subst (λ (l : List Meaning). IsBookChanged net l (book.grants ++ grant_of_request id rq p ∷ []) false (grant_events net l book.grants book.cleared (grant_of_request id rq p)) book book' queue queue') shipped done)
      (grant_leads net book.grants (grant_of_request id rq p) book.cleared lawful is.legal is.kept.sound (placed_grant net book.grants id rq at allowed rights p first));
}

-- the refusal that is told
abbrev why_of : Result ℕ (ChangeFault GrantRefusal) → GrantRefusal
why_of (Err (Refused why)) = why
why_of _ = NoPlacement

-- that no placement is admissible is told
pub unplaced_told : (s : SessionState) (id : ℕ) (rq : Request) (at : Option ℕ) → IsUnplacedAt s.net s.book.grants id rq at → (why : GrantRefusal) → ◌≡◌ {A = Result ℕ (ChangeFault GrantRefusal)} (Err (Refused NoPlacement)) (Err (Refused why)) → IsRefused s id rq at why
unplaced_told s id rq at is why e = subst (IsRefused s id rq at) (ap why_of e) is

-- the first address is answered
pub granted_told : (s s' : SessionState) (id : ℕ) (rq : Request) (at : Option ℕ) (result : Result ℕ (ChangeFault GrantRefusal)) (v : ℕ) → result ≡ Ok v → IsSessionGranted s id rq at v s' → IfOk result (λ w. IsSessionGranted s id rq at w s')
granted_told s s' id rq at result v e is = subst (λ (r : Result ℕ (ChangeFault GrantRefusal)). IfOk r (λ w. IsSessionGranted s id rq at w s')) (sym e) is

-- none is
pub none_told : (s s' : SessionState) (id : ℕ) (rq : Request) (at : Option ℕ) (result : Result ℕ (ChangeFault GrantRefusal)) (why : ChangeFault GrantRefusal) → result ≡ Err why → IfOk result (λ w. IsSessionGranted s id rq at w s')
none_told s s' id rq at result why e = subst (λ (r : Result ℕ (ChangeFault GrantRefusal)). IfOk r (λ w. IsSessionGranted s id rq at w s')) (sym e) tt
