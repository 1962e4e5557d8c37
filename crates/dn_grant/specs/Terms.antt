-- The words of the crate that clauses cite, from one place.
pub use Rattle.dn_grant.specs.Done.{IsGrantDone, MayGrant}
pub use Rattle.dn_grant.specs.Faults.{grant_answer, is_grant_fault}
pub use Rattle.dn_grant.specs.Grant.{IsGrantLogged, IsGrantOutcome, IsGrantRefused, NoAddition}
pub use Rattle.dn_grant.specs.Refusal.{grant_refusal}
