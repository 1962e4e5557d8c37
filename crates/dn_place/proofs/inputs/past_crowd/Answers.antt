use Rattle.std.proofs.Common.{arith}
use Rattle.std.proofs.lemmas.Nat.{pow_pos}
use Rattle.dn_place.specs.Searches.{sought}
use Rattle.dn_place.proofs.Crowds.{crowd_at}
use Rattle.dn_place.proofs.Pages.{input_bound, page_few}
use Rattle.dn_place.proofs.inputs.past_crowd.Goals as goal

pub power-requires : goal.power-requires
power-requires g c = let f = c.requires.search.ready.bounds _ _ c.requires.within.unit in omega (arith, f.page)

pub past_last-requires-clause-some : goal.past_last-requires-clause-some
past_last-requires-clause-some g c = omega (arith, c.power.ensures, pow_pos c.args.translator.now.page)

pub past_last-requires-clause-few : goal.past_last-requires-clause-few
past_last-requires-clause-few g c = let f = c.requires.search.ready.bounds _ _ c.requires.within.unit in omega (arith, c.power.ensures, page_few c.args.translator.now.page f.page)

pub returns-in-Some : goal.returns-in-Some
returns-in-Some g c =
    let f = c.requires.search.ready.bounds _ _ c.requires.within.unit in
    record {
      onward = omega (arith, c.in-Some.ensures.from, c.past_last.ensures.past);
      agree = rw c.power.ensures at c.past_last.ensures.agree;
      few = omega (arith, c.past_last.ensures.next, c.power.ensures, page_few c.args.translator.now.page f.page, c.in-Some.span.within);
      crowded = λ x a b e. crowd_at (sought (λ k. (goal.UnitKind-dyn g k).meaning k.1) c.args.search) c.args.hop.unit c.in-Some.span c.args.hop.x x c.past_last.result c.args.translator.now.page c.requires.search.ready.some c.in-Some.ensures.crowded (omega (arith, c.in-Some.ensures.to)) (rw c.power.ensures at c.past_last.ensures.next) (rw c.power.ensures at c.past_last.ensures.agree) a b e;
    }

pub returns-in-None-clause-few : goal.returns-in-None-clause-few
returns-in-None-clause-few g c =
    let f = c.requires.search.ready.bounds _ _ c.requires.within.unit in
    omega (arith, input_bound c.args.translator.now.slots c.args.translator.now.page f.page f.few, c.requires.within.ends)
