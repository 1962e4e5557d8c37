use Rattle.std.proofs.Common.{List, ℕ, subst, sym}
use Rattle.dn_gather.specs.Grounds.{StandsOn}
use Rattle.dn_gather.specs.Stands.{AreAt}
use Rattle.dn_gather.proofs.Placing.{none_standing}
use Rattle.dn_gather.proofs.search.hops_at.Goals as goal

pub choice-requires-clause-stands : goal.choice-requires-clause-stands
choice-requires-clause-stands g c =
    let gr = c.args.ground in
    subst (λ (xs : List ℕ). AreAt (StandsOn gr) gr.translator.now.page c.args.v gr.wanted.pieces.now xs) (sym c.deref.ensures.value) (rw c.in-Some.is at c.in_ok-xs.ensures.some)

pub returns-in-None-clause-none : goal.returns-in-None-clause-none
returns-in-None-clause-none g c = λ is. none_standing (λ k. (goal.UnitKind-dyn g k).meaning k.1) c.args.ground c.requires.ground c.args.v (c.in_ok-xs.ensures.none c.in-None.is)
