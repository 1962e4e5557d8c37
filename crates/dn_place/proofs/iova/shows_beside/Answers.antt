use Rattle.std.proofs.Common.{◌∙◌, ◌+◌, ◌-◌, ◌%◌, ◌^◌, ◌<◌, ◌≤◌, ◌∷◌, [], ℕ, IsTrue, sym, subst, arith, refl}
use Rattle.std.proofs.lemmas.Result.{IfOk-weaker}
use Rattle.dn_place.specs.Blocks.{ShowsWithin}
use Rattle.dn_place.specs.Candidates.{NoneUnder, to_address}
use Rattle.dn_place.specs.Searches.{sought}
use Rattle.dn_place.proofs.Beside.{beside_after, beside_before, lone_hop, rest_small}
use Rattle.dn_place.proofs.Pages.{input_bound}
use Rattle.dn_place.proofs.iova.shows_beside.Goals as goal

pub shows_some-requires-clause-there : goal.shows_some-requires-clause-there
shows_some-requires-clause-there g c =
    let s = sought (λ k. (goal.UnitKind-dyn g k).meaning k.1) c.args.search in
    let u = c.in-Some.translator.now in
    let k = lone_hop s c.args.hop u c.in-Some-port_of.node c.args.way c.in-Some.ensures.some (sym c.port_of.ensures ∙ c.in-Some-port_of.is) c.requires.addressed c.requires.way in
    (c.requires.search.ready.bounds _ _ k.unit).there _ _ k.port

pub overflow_add-rest : goal.overflow_add-rest
overflow_add-rest g c =
    let s = sought (λ k. (goal.UnitKind-dyn g k).meaning k.1) c.args.search in
    let u = c.in-Some.translator.now in
    let k = lone_hop s c.args.hop u c.in-Some-port_of.node c.args.way c.in-Some.ensures.some (sym c.port_of.ensures ∙ c.in-Some-port_of.is) c.requires.addressed c.requires.way in
    let f = c.requires.search.ready.bounds _ _ k.unit in
    omega (arith, k.within, input_bound u.slots u.page f.page f.few)

pub returns-then-branch : goal.returns-then-branch
returns-then-branch g c =
    let s = sought (λ k. (goal.UnitKind-dyn g k).meaning k.1) c.args.search in
    let u = c.in-Some.translator.now in
    let k = lone_hop s c.args.hop u c.in-Some-port_of.node c.args.way c.in-Some.ensures.some (sym c.port_of.ensures ∙ c.in-Some-port_of.is) c.requires.addressed c.requires.way in
    let n : ℕ = c.args.search.request.size in
    let more : ℕ = c.min-more.result in
    let small : (c.args.hop.x + (n - 1)) % 2 ^ u.page + more < 2 ^ u.page = rest_small u.page (c.args.hop.x + (n - 1)) c.power-page.result more c.power-page.ensures (omega (arith, c.min-more.ensures)) in
    let to : c.args.way.v + (n - 1) + more ≤ c.args.way.last = omega (arith, c.min-more.ensures, k.leads.to, c.requires.search.ready.some) in
    λ _. beside_after s c.requires.search.ready c.args.hop u c.in-Some-port_of.node c.args.way k.unit k.port k.agree k.leads (c.args.hop.y + (n - 1)) more
    refl small to
    (c.in_ok-shows_some.ensures c.if-branch.true)

pub returns : goal.returns
returns g c =
    let s = sought (λ k. (goal.UnitKind-dyn g k).meaning k.1) c.args.search in
    let u = c.in-Some.translator.now in
    let k = lone_hop s c.args.hop u c.in-Some-port_of.node c.args.way c.in-Some.ensures.some (sym c.port_of.ensures ∙ c.in-Some-port_of.is) c.requires.addressed c.requires.way in
    let fewer : ℕ = c.min-fewer.result in
    let small : fewer ≤ c.args.hop.x % 2 ^ u.page = subst (λ w. fewer ≤ c.args.hop.x % w) c.power-page.ensures (omega (arith, c.min-fewer.ensures)) in
    let from : c.args.way.first + fewer ≤ c.args.way.v = omega (arith, c.min-fewer.ensures, k.leads.from) in
    IfOk-weaker c.shows_some-2.result
    (λ b. IsTrue b → ShowsWithin s.net c.in-Some-port_of.node (c.args.hop.y - fewer) (c.args.hop.y - 1))
    (λ b. IsTrue b → NoneUnder s (to_address 1 (c.args.hop ∷ []) c.args.way.v))
    (λ b f t. beside_before s c.requires.search.ready c.args.hop u c.in-Some-port_of.node c.args.way k.unit k.port k.agree k.leads fewer small from (f t) (omega (arith, c.if-fewer-eq0.false)))
    c.shows_some-2.ensures
