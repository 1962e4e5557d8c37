use Rattle.std.proofs.Common.{◌≡◌, ℕ, ◌++◌, drop, take}
use Rattle.std.specs.List.{list_any}
use Rattle.dn_interval.specs.declared.row.End.{End}
use Rattle.dn_interval.specs.Strands.{segs_give}
use Rattle.dn_audit.specs.declared.claims.Claim.{Claim}
use Rattle.dn_audit.specs.Claims.{claim_gives, several_rows}
use Rattle.dn_audit.proofs.shared.push_rows.Given as goal

abbrev pub invariant-loop-claim : goal.invariant-loop-claim
invariant-loop-claim l = (a : ℕ) (y : End) → segs_give l.segs.items a y ≡ list_any (λ (c : Claim). claim_gives c a y) (take l.claim-index l.claims)

abbrev pub invariant-loop-row : goal.invariant-loop-row
invariant-loop-row l = l.shared ++ several_rows l.node (drop l.row-index l.rows) ≡ l.initial.shared ++ several_rows l.node l.rows
