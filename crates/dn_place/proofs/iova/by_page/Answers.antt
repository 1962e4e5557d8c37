use Rattle.std.proofs.Common.{◌-◌, ◌∙◌, arith, sym}
use Rattle.std.proofs.lemmas.Bool.{false≢true}
use Rattle.dn_place.specs.Hops.{hops_view}
use Rattle.dn_place.specs.Searches.{sought}
use Rattle.dn_place.proofs.Levels.{next_one}
use Rattle.dn_place.proofs.Wholes.{backs_begun, backs_found, backs_refused, backs_unsuited, backs_done, none_owned, placed}
use Rattle.dn_place.proofs.iova.by_page.Goals as goal
use Rattle.dn_place.proofs.iova.by_page.Goals.{then-can_own+in_ok-is_exact+else-branch+else-has_both, else-can_own}

pub loop-back-init : goal.loop-back-init
loop-back-init g c = backs_begun _ _ _ _

pub is_exact-requires-clause-own : goal.is_exact-requires-clause-own
is_exact-requires-clause-own g c = omega (arith, c.count-count.ensures, c.loop-back-test.true)

pub is_exact-requires-clause-placed : goal.is_exact-requires-clause-placed
is_exact-requires-clause-placed g c = placed (sought (λ k. (goal.UnitKind-dyn g k).meaning k.1) c.args.search) (hops_view c.args.hops) c.args.v (c.count-count.result - c.loop-back.back) c.args.page c.requires.search.ready c.requires.addressed.chosen c.requires.addressed.some c.requires.addressed.fits c.requires.addressed.meets (c.can_own.ensures.yes c.if-can_own.true)

pub returns-then-branch : goal.returns-then-branch
returns-then-branch g c =
    let can = c.can_own.ensures.yes c.if-can_own.true in
    let is = placed (sought (λ k. (goal.UnitKind-dyn g k).meaning k.1) c.args.search) (hops_view c.args.hops) c.args.v (c.count-count.result - c.loop-back.back) c.args.page c.requires.search.ready c.requires.addressed.chosen c.requires.addressed.some c.requires.addressed.fits c.requires.addressed.meets can in
    rw c.into_placement.ensures (backs_found (sought (λ k. (goal.UnitKind-dyn g k).meaning k.1) c.args.search) (hops_view c.args.hops) c.args.v c.args.page c.loop-back.back (c.count-count.result - c.loop-back.back)
    (omega (arith, c.count-count.ensures)) can
    (record { is_placement = is; is_at = c.requires.addressed.at; admissible = c.in_ok-is_exact.ensures.0 c.if-branch.true })
    c.loop-back.invariant)

pub returns-then-has_both : goal.returns-then-has_both
returns-then-has_both g c = none_owned (sought (λ k. (goal.UnitKind-dyn g k).meaning k.1) c.args.search) (hops_view c.args.hops) c.args.v (c.count-count.result - c.loop-back.back) c.args.page
    (c.has_both.ensures c.if-has_both.true)
    (λ is. false≢true (sym c.if-branch.false ∙ c.in_ok-is_exact.ensures.1 is))

pub loop-back-preserved : goal.loop-back-preserved
loop-back-preserved g c = elim c.if-can_own.branch [
  | then-can_own+in_ok-is_exact+else-branch+else-has_both w ↦ next_one _ _ _ c.loop-back.invariant (backs_unsuited (sought (λ k. (goal.UnitKind-dyn g k).meaning k.1) c.args.search) (hops_view c.args.hops) c.args.v c.args.page c.loop-back.back (c.count-count.result - c.loop-back.back) (omega (arith, c.count-count.ensures)) (λ is. false≢true (sym w.if-branch.false ∙ w.in_ok-is_exact.ensures.1 is.admissible)))
  | else-can_own w ↦ next_one _ _ _ c.loop-back.invariant (backs_refused (sought (λ k. (goal.UnitKind-dyn g k).meaning k.1) c.args.search) (hops_view c.args.hops) c.args.v c.args.page c.loop-back.back (c.count-count.result - c.loop-back.back) (omega (arith, c.count-count.ensures)) (c.can_own.ensures.no w.if-can_own.false))
]

pub returns : goal.returns
returns g c = backs_done (sought (λ k. (goal.UnitKind-dyn g k).meaning k.1) c.args.search) (hops_view c.args.hops) c.args.v c.args.page c.loop-back.back (omega (arith, c.count-count.ensures)) c.loop-back.invariant
