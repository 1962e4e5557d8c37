use Rattle.std.proofs.Common.{[], ◌∷◌, subst}
use Rattle.std.proofs.lemmas.Result.{IfOk-weaker}
use Rattle.dn_place.specs.Candidates.{IsFirstOrNone, NoneUnder}
use Rattle.dn_place.specs.Searches.{sought}
use Rattle.dn_place.proofs.Levels.{found_first, next_one}
use Rattle.dn_place.proofs.Tops.{counts_begun, last_count, none_chosen}
use Rattle.dn_place.proofs.first.first_found.Goals as goal

pub with_first-requires-clause-chosen : goal.with_first-requires-clause-chosen
with_first-requires-clause-chosen g c = none_chosen (sought (λ k. (goal.UnitKind-dyn g k).meaning k.1) c.args.lone) c.args.lone.count c.requires.search.most

pub returns-in-Some-2 : goal.returns-in-Some-2
returns-in-Some-2 g c =
    let s = sought (λ k. (goal.UnitKind-dyn g k).meaning k.1) c.args.lone in
    let none = subst (λ n. NoneUnder s (n ∷ [])) c.requires.one (rw c.in_default.is at c.in_ok-placement.ensures) in
    found_first s [] 2 c.in-Some-2.placement (next_one s [] 1 (counts_begun s) none) (rw c.in-Some-2.is at c.in_ok-placement-2.ensures)

pub returns : goal.returns
returns g c =
    let s = sought (λ k. (goal.UnitKind-dyn g k).meaning k.1) c.args.lone in
    let none = subst (λ n. NoneUnder s (n ∷ [])) c.requires.one (rw c.in_default.is at c.in_ok-placement.ensures) in
    let second : NoneUnder s (2 ∷ []) = rw c.in_default-2.is at c.in_ok-placement-2.ensures in
    IfOk-weaker c.with_third.result (λ found. IsFirstOrNone s (3 ∷ []) found) (λ found. IsFirstOrNone s [] found) (λ found a. last_count s (next_one s [] 2 (next_one s [] 1 (counts_begun s) none) second) found a) c.with_third.ensures
