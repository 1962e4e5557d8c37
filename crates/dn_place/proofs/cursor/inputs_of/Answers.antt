use Rattle.std.proofs.Common.{◌≡◌, ◌∙◌, ℕ, suc, ◌+◌, ◌-◌, ◌*◌, ◌%◌, ◌^◌, ◌≤◌, length, ap, subst, arith}
use Rattle.dn_net.specs.declared.node.Unit.{Unit as UnitPart}
use Rattle.dn_place.specs.declared.cursor.Inputs.{Inputs}
use Rattle.dn_place.specs.Exits.{IsOutput}
use Rattle.dn_place.specs.Hops.{hops_view}
use Rattle.dn_place.specs.Searches.{sought}
use Rattle.dn_place.proofs.Cursors.{all_inputs, all_inputs_go, chosen_go, chosen_inputs, none_asked_for, none_fits, one_input, one_input_goes, same_unit}
use Rattle.dn_place.proofs.Pages.{input_bound}
use Rattle.dn_place.proofs.cursor.inputs_of.Goals as goal

pub overflow_mul-end : goal.overflow_mul-end
overflow_mul-end g c =
    let f = c.in-Some.ensures.bounds in
    rw (c.power-page.ensures, c.from.ensures) (omega (arith, input_bound c.in-Some.translator.now.slots c.in-Some.translator.now.page f.page f.few))

pub returns-then-end-size-clause-all : goal.returns-then-end-size-clause-all
returns-then-end-size-clause-all g c = λ q v.
    let search = c.args.search in
    let u = c.in-Some.translator.now in
    let all : c.from.result * c.power-page.result ≡ u.slots * 2 ^ u.page = ap (λ n. n * c.power-page.result) c.from.ensures ∙ ap (λ n. u.slots * n) c.power-page.ensures in
    none_fits (sought (λ k. (goal.UnitKind-dyn g k).meaning k.1) search) search.count (hops_view c.args.nearer) c.args.unit c.args.exit.port c.args.exit.y u c.requires.more c.in-Some.ensures.some (omega (arith, all, c.if-end-size.true)) q v

pub returns-in-None-clause-inputs : goal.returns-in-None-clause-inputs
returns-in-None-clause-inputs g c =
    let search = c.args.search in
    let s = sought (λ k. (goal.UnitKind-dyn g k).meaning k.1) search in
    let nearer = hops_view c.args.nearer in
    let exit = c.args.exit in
    let u = c.in-Some.translator.now in
    let is = c.in-Some.ensures.some in
    let o = c.requires.output in
    let output = subst (λ (v : UnitPart). IsOutput s.net v s.request nearer exit.port exit.y) (same_unit s.net c.args.unit o.u u o.is_unit is) o.leads in
    let all : c.from.result * c.power-page.result ≡ u.slots * 2 ^ u.page = ap (λ n. n * c.power-page.result) c.from.ensures ∙ ap (λ n. u.slots * n) c.power-page.ensures in
    let last : ℕ = c.from.result * c.power-page.result - search.request.size in
    let end : last + search.request.size ≡ u.slots * 2 ^ u.page = omega (arith, all, c.if-end-size.false) in
    all_inputs s search.count nearer c.args.unit exit.port exit.y c.power-page.result last 0 u c.requires.search.ready c.requires.more is output c.power-page.ensures end

pub returns-in-None-clause-all : goal.returns-in-None-clause-all
returns-in-None-clause-all g c = λ q v.
    let search = c.args.search in
    let u = c.in-Some.translator.now in
    all_inputs_go (sought (λ k. (goal.UnitKind-dyn g k).meaning k.1) search) search.count (hops_view c.args.nearer) c.args.unit c.args.exit.port c.args.exit.y c.power-page.result (c.from.result * c.power-page.result - search.request.size) 0 u c.requires.more c.in-Some.ensures.some c.power-page.ensures q v

pub returns-in-Some-entry_at-clause-inputs : goal.returns-in-Some-entry_at-clause-inputs
returns-in-Some-entry_at-clause-inputs g c =
    let search = c.args.search in
    let s = sought (λ k. (goal.UnitKind-dyn g k).meaning k.1) search in
    let nearer = hops_view c.args.nearer in
    let exit = c.args.exit in
    let u = c.in-Some.translator.now in
    let is = c.in-Some.ensures.some in
    let o = c.requires.output in
    let output = subst (λ (v : UnitPart). IsOutput s.net v s.request nearer exit.port exit.y) (same_unit s.net c.args.unit o.u u o.is_unit is) o.leads in
    let all : c.from.result * c.power-page.result ≡ u.slots * 2 ^ u.page = ap (λ n. n * c.power-page.result) c.from.ensures ∙ ap (λ n. u.slots * n) c.power-page.ensures in
    let last : ℕ = c.from.result * c.power-page.result - search.request.size in
    let end : last + search.request.size ≡ u.slots * 2 ^ u.page = omega (arith, all, c.if-end-size.false) in
    let z = c.in-Some-entry_at.entry in
    let one : search.count ≡ suc (length nearer) = (let k = c.in-Some-entry_at.ensures.first in omega (arith, k, c.count.ensures)) in
    let page : ℕ = c.power-page.result in
    let j : Inputs = record { unit = c.args.unit; port = exit.port; y = exit.y; page = page; x = z.base; last = z.base; free = 0; handed = 0 } in
    chosen_inputs s search.count nearer c.only_input.result j (z.base ≤ last) (z.base % page ≡ exit.y % page) c.only_input.ensures.is c.only_input.ensures.within c.only_input.ensures.agree
    (λ low agree. one_input s search.count nearer c.args.unit exit.port exit.y page last 0 u search.reach.now.entry z c.requires.search.ready c.requires.search.reach.entry c.requires.more one c.in-Some-entry_at.ensures.entry is output c.power-page.ensures end low agree)

pub returns-in-Some-entry_at-clause-all : goal.returns-in-Some-entry_at-clause-all
returns-in-Some-entry_at-clause-all g c = λ q v.
    let search = c.args.search in
    let s = sought (λ k. (goal.UnitKind-dyn g k).meaning k.1) search in
    let nearer = hops_view c.args.nearer in
    let exit = c.args.exit in
    let u = c.in-Some.translator.now in
    let is = c.in-Some.ensures.some in
    let o = c.requires.output in
    let output = subst (λ (v : UnitPart). IsOutput s.net v s.request nearer exit.port exit.y) (same_unit s.net c.args.unit o.u u o.is_unit is) o.leads in
    let all : c.from.result * c.power-page.result ≡ u.slots * 2 ^ u.page = ap (λ n. n * c.power-page.result) c.from.ensures ∙ ap (λ n. u.slots * n) c.power-page.ensures in
    let last : ℕ = c.from.result * c.power-page.result - search.request.size in
    let end : last + search.request.size ≡ u.slots * 2 ^ u.page = omega (arith, all, c.if-end-size.false) in
    let z = c.in-Some-entry_at.entry in
    let one : search.count ≡ suc (length nearer) = (let k = c.in-Some-entry_at.ensures.first in omega (arith, k, c.count.ensures)) in
    let page : ℕ = c.power-page.result in
    let j : Inputs = record { unit = c.args.unit; port = exit.port; y = exit.y; page = page; x = z.base; last = z.base; free = 0; handed = 0 } in
    chosen_go s search.count nearer c.only_input.result j (z.base ≤ last) (z.base % page ≡ exit.y % page) q c.only_input.ensures.is c.only_input.ensures.none
    (λ none. none_asked_for s search.count nearer c.args.unit exit.port exit.y page last u search.reach.now.entry z c.requires.search.ready c.requires.search.reach.entry c.requires.more one c.in-Some-entry_at.ensures.entry is c.power-page.ensures end none q v)
    (one_input_goes s search.count nearer c.args.unit exit.port exit.y page 0 u search.reach.now.entry z c.requires.search.ready c.requires.search.reach.entry c.requires.more one c.in-Some-entry_at.ensures.entry is q v)
