-- What taking a grant out of a session comes to.
use Rattle.std.specs.Prelude.{◌≡◌, ℕ, true}
use Rattle.dn_net.specs.Chain.{Member}
use Rattle.dn_book.specs.declared.grant.Grant.{Grant}
use Rattle.dn_book.specs.Book.{without_id}
use Rattle.dn_book.specs.Writes.{revoke_events}
use Rattle.dn_session.specs.Changing.{IsSessionChanged}
use Rattle.dn_session.specs.Open.{SessionState}
use Rattle.dn_session.specs.Shipped.{shipped_kinds}

-- the live grant of the id was taken out, and its events are pending after those that were
pub record IsSessionRevoked (s : SessionState) (id : ℕ) (s' : SessionState) : Type 0 where
  pub grant : Grant
  pub live : Member grant s.book.grants
  pub same : grant.id ≡ id
  pub changed : IsSessionChanged (without_id id s.book.grants) true
      (revoke_events s.net shipped_kinds s.book.grants grant) s s'
