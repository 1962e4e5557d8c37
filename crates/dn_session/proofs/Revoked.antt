-- What a session comes to at a revoke.
use Rattle.std.proofs.Common.{◌≡◌, subst, ℕ, true, List, ◌==◌, Result, Ok, Err, OnOk, eqb-true}
use Rattle.std.specs.List.{All}
use Rattle.dn_base.proofs.Members.{any_member}
use Rattle.dn_net.specs.declared.node.NodeDecl.{NodeDecl}
use Rattle.dn_kind.specs.Kind.{IsLawful, Meaning}
use Rattle.dn_flat.specs.Levels.{FlatsView}
use Rattle.dn_book.specs.declared.grant.Grant.{Grant}
use Rattle.dn_book.specs.Book.{has_id, without_id}
use Rattle.dn_book.specs.State.{BookState}
use Rattle.dn_book.specs.Writes.{revoke_events}
use Rattle.dn_book.proofs.Ids.{IsLive}
use Rattle.dn_queue.specs.Changing.{IsBookChanged}
use Rattle.dn_queue.specs.Queue.{QueueState}
use Rattle.dn_session.specs.Changing.{EventsLeadTo}
use Rattle.dn_session.specs.Open.{IsOpen}
use Rattle.dn_session.specs.Revoking.{IsSessionRevoked}
use Rattle.dn_session.specs.Shipped.{shipped_kinds}
use Rattle.dn_session.proofs.Kept.{changed_seen, seen}
use Rattle.dn_session.proofs.Leads.{revoke_leads}

-- a grant of the id lives
pub some_live : (gs : List Grant) (id : ℕ) → has_id id gs ≡ true → (g : Grant) × IsLive gs id g
some_live gs id e = let a = any_member (λ (g : Grant). g.id == id) gs e in (a.0, record { live = a.1; same = eqb-true a.0.id id a.2 })

-- it was taken out
pub revoked_seen : (net : List NodeDecl) (flats : FlatsView) (ks : List Meaning) (book book' : BookState) (queue queue' : QueueState) (id : ℕ) (g : Grant) → ks ≡ shipped_kinds → All IsLawful shipped_kinds → IsOpen net flats book queue.units → IsLive book.grants id g → IsBookChanged net ks (without_id id book.grants) true (revoke_events net ks book.grants g) book book' queue queue' → IsSessionRevoked (seen net book queue) id (seen net book' queue')
revoked_seen net flats ks book book' queue queue' id g shipped lawful is live done = record {
  grant = g;
  live = live.live;
  same = live.same;
  changed = changed_seen net shipped_kinds _ _ _ book book' queue queue'
      (subst (λ (l : List Meaning). IsBookChanged net l (without_id id book.grants) true (revoke_events net l book.grants g) book book' queue queue') shipped done)
      (subst (λ n. EventsLeadTo net book.grants (without_id n book.grants) book.cleared true (revoke_events net shipped_kinds book.grants g)) live.same (revoke_leads net book.grants g book.cleared lawful is.legal is.kept.sound live.live));
}

-- what holds of a call that was done gives something else
pub on_ok_then : {A E : Type 0} {P Q : Type 0} (result : Result A E) → OnOk result P → (P → Q) → OnOk result Q
on_ok_then (Ok a) p f = f p
on_ok_then (Err e) p f = tt
