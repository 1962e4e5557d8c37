use Rattle.std.proofs.Common.{◌≡◌, ◌+◌, ℕ, Bool, List, length, sym, subst, arith}
use Rattle.dn_audit.specs.declared.claims.Claim.{Claim}
use Rattle.dn_audit.specs.declared.report.Shared.{Shared}
use Rattle.dn_audit.specs.Claims.{claimed, claims_give, views_have}
use Rattle.dn_audit.specs.Shared.{AreSharedBy, AreSharedIn}
use Rattle.dn_audit.proofs.Joined.{AreJoined, joined_all, joined_more, unclaimed}
use Rattle.dn_audit.proofs.shared.shared_names.Goals as goal

pub loop-node-preserved : goal.loop-node-preserved
loop-node-preserved c =
    let has : ℕ → ℕ → ℕ → Bool = claimed c.in_ok-claims.claims.items in
    let rows = c.in_ok-push_rows.ensures in
    let own : AreSharedIn c.loop-node.node (has c.loop-node.node) rows.0 = subst (λ (cs : List Claim). AreSharedIn c.loop-node.node (claims_give cs) rows.0) c.claims_to.ensures rows.2 in
    subst (λ (ss : List Shared). AreJoined has (c.loop-node.node + 1) ss) (sym rows.1) (joined_more has c.loop-node.node c.loop-node.shared rows.0 c.loop-node.invariant own)

pub returns : goal.returns
returns c =
    let claims : List (List Claim) = c.in_ok-claims.claims.items in
    let ended = c.loop-node-test.false in
    let count : length claims ≡ c.args.count = c.in_ok-claims.ensures.count in
    let by : AreSharedBy (claimed claims) c.loop-node.shared = joined_all (claimed claims) c.loop-node.node c.loop-node.shared c.loop-node.invariant (λ m agent a l. unclaimed claims m agent a (omega (arith, ended, count, l))) in
    let same : ◌≡◌ {A = ℕ → ℕ → ℕ → Bool} (claimed claims) (views_have c.args.views.now) = (λ i n q a. c.in_ok-claims.ensures.claimed n q a i) in
    subst (λ (has : ℕ → ℕ → ℕ → Bool). AreSharedBy has c.loop-node.shared) same by
