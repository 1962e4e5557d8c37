-- What a session comes to at a buffer in pieces.
use Rattle.std.proofs.Common.{◌≡◌, ap, subst, ℕ, ◌≤◌, false, List, ◌++◌, length, Result, Ok, Err, IfOk, OnErr, IsTrue}
use Rattle.std.specs.List.{All}
use Rattle.dn_net.specs.declared.node.NodeDecl.{NodeDecl}
use Rattle.dn_kind.specs.declared.rights.Rights.{Rights}
use Rattle.dn_kind.specs.Kind.{IsLawful, Meaning}
use Rattle.dn_kind.specs.Rights.{are_rights}
use Rattle.dn_flat.specs.Levels.{FlatsView}
use Rattle.dn_book.specs.State.{BookState}
use Rattle.dn_gather.specs.declared.piece.Piece.{Piece}
use Rattle.dn_gather.specs.declared.refusal.GatherRefusal.{GatherRefusal}
use Rattle.dn_gather.specs.declared.refusal.GatherRefusal.TheVariants.{NoPlacement}
use Rattle.dn_gather.specs.Gather.{IsGatherRefused, grants_of}
use Rattle.dn_gather.specs.Grants.{gather_events}
use Rattle.dn_queue.specs.declared.change.ChangeFault.{ChangeFault}
use Rattle.dn_queue.specs.declared.change.ChangeFault.TheVariants.{Refused}
use Rattle.dn_queue.specs.Changing.{AreUnchanged, IsBookChanged}
use Rattle.dn_queue.specs.Queue.{QueueState}
use Rattle.dn_session.specs.Gathering.{IsBookGathered, IsGathered}
use Rattle.dn_session.specs.Open.{IsOpen, SessionState}
use Rattle.dn_session.specs.Shipped.{shipped_kinds}
use Rattle.dn_session.proofs.Kept.{changed_open, changed_seen, seen, unchanged_open}
use Rattle.dn_session.proofs.Leads.{gather_leads, gathered_kept}

module _ {E : Type 0} (net : List NodeDecl) (flats : FlatsView) (ks : List Meaning) (agent : ℕ) (rights : Rights) (ps : List Piece) (book book' : BookState) (queue queue' : QueueState) (shipped : ks ≡ shipped_kinds) (lawful : All IsLawful shipped_kinds) (with_rights : IsTrue (are_rights rights)) (is : IsOpen net flats book queue.units) where
  -- a session is one still
  pub gather_open : (result : Result ℕ E) → IfOk result (λ v. IsBookGathered net ks agent rights ps v book book' queue queue') → OnErr result (AreUnchanged book book' queue queue') → IsOpen net flats book' queue'.units
  gather_open (Ok v) done same =
      changed_open net flats ks _ _ _ book book' queue queue' shipped is done.changed
      (gathered_kept net book.grants book.cleared agent rights ps done.place lawful is.legal (record { sound = is.kept.sound; faithful = is.faithful }) with_rights done.placed).faithful
  gather_open (Err e) done same = unchanged_open net flats book book' queue queue' is same

  -- the pieces are granted
  pub gather_seen : 1 ≤ length ps → (result : Result ℕ E) → IfOk result (λ v. IsBookGathered net ks agent rights ps v book book' queue queue') → IfOk result (λ v. IsGathered (seen net book queue) agent rights ps v (seen net book' queue'))
  gather_seen some (Ok v) done = record {
    place = done.place;
    placed = done.placed;
    address = done.address;
    changed = changed_seen net shipped_kinds _ _ _ book book' queue queue'
        (subst (λ (l : List Meaning). IsBookChanged net l (book.grants ++ grants_of agent rights ps done.place) false (gather_events net l book.grants book.cleared (grants_of agent rights ps done.place)) book book' queue queue') shipped done.changed)
        (gather_leads net book.grants book.cleared agent rights ps done.place lawful is.legal (record { sound = is.kept.sound; faithful = is.faithful }) with_rights done.placed some);
  }
  gather_seen some (Err e) done = tt

-- the refusal that is told
abbrev pub why_of : Result ℕ (ChangeFault GatherRefusal) → GatherRefusal
why_of (Err (Refused why)) = why
why_of _ = NoPlacement

pub refusal_told : (s : SessionState) (agent : ℕ) (rights : Rights) (ps : List Piece) (told : GatherRefusal) → IsGatherRefused s.net s.book.grants agent rights ps told → (why : GatherRefusal) → ◌≡◌ {A = Result ℕ (ChangeFault GatherRefusal)} (Err (Refused told)) (Err (Refused why)) → IsGatherRefused s.net s.book.grants agent rights ps why
refusal_told s agent rights ps told is why e = subst (IsGatherRefused s.net s.book.grants agent rights ps) (ap why_of e) is
