use Rattle.std.proofs.Common.{◌∙◌, ◌%◌, ◌^◌, ap, arith, get_or, pow_pos, refl, sym}
use Rattle.std.proofs.Math.Nat.{mod-lt}
use Rattle.std.proofs.lemmas.Bool.{false≢true}
use Rattle.dn_tables.specs.declared.placement.Hop.{Hop}
use Rattle.dn_place.specs.declared.exits.Exit.{Exit}
use Rattle.dn_gather.specs.Grounds.{request_for}
use Rattle.dn_gather.proofs.Ranked.{agreeing, exits_ranked}
use Rattle.dn_gather.proofs.Tries.{Serves, hop_by, tries_begun, tries_done, tries_found, tries_on, tries_placed}
use Rattle.dn_gather.proofs.choice.first_hop.Goals as goal

pub agreeing_from-from-requires-clause-place : goal.agreeing_from-from-requires-clause-place
agreeing_from-from-requires-clause-place g c = rw c.power.ensures (mod-lt c.args.x (pow_pos c.args.ground.translator.now.page))

pub agreeing_from-from-requires-clause-ranked : goal.agreeing_from-from-requires-clause-ranked
agreeing_from-from-requires-clause-ranked g c = exits_ranked c.args.ground.wanted.system.on.net.now c.args.ground.translator.now (request_for c.args.ground.wanted c.args.piece) c.args.exits.now c.requires.sized.some c.requires.ground.bounds c.requires.exits

pub outputs-init : goal.outputs-init
outputs-init g c =
    let gr = c.args.ground in
    tries_begun (λ k. (goal.UnitKind-dyn g k).meaning k.1) gr c.requires.ground c.args.piece c.args.a c.args.x c.args.exits.now c.requires.sized c.requires.exits c.requires.stands c.agreeing_from-from.result
    (rw c.power.ensures at c.agreeing_from-from.ensures.from) c.agreeing_from-from.ensures.within

pub is_exact-requires-clause-placed : goal.is_exact-requires-clause-placed
is_exact-requires-clause-placed g c =
    let gr = c.args.ground in
    let a = agreeing gr.translator.now.page (c.args.x % 2 ^ gr.translator.now.page) c.outputs.k c.args.exits.now (record { port = 0; y = 0; rank = 0 }) (rw c.power.ensures at (sym c.agrees_at.ensures ∙ c.outputs-test.true)) in
    rw c.hop_of-hop.ensures (tries_placed (λ k. (goal.UnitKind-dyn g k).meaning k.1) gr c.requires.ground c.args.piece c.args.a c.args.x c.args.exits.now c.requires.sized c.requires.exits c.requires.stands c.outputs.k (get_or c.args.exits.now c.outputs.k (record { port = 0; y = 0; rank = 0 })) a.at a.agree)

pub returns-then-branch-clause-some : goal.returns-then-branch-clause-some
returns-then-branch-clause-some g c =
    let gr = c.args.ground in
    let e : Exit = get_or c.args.exits.now c.outputs.k (record { port = 0; y = 0; rank = 0 }) in
    let a = agreeing gr.translator.now.page (c.args.x % 2 ^ gr.translator.now.page) c.outputs.k c.args.exits.now (record { port = 0; y = 0; rank = 0 }) (rw c.power.ensures at (sym c.agrees_at.ensures ∙ c.outputs-test.true)) in
    let placed = tries_placed (λ k. (goal.UnitKind-dyn g k).meaning k.1) gr c.requires.ground c.args.piece c.args.a c.args.x c.args.exits.now c.requires.sized c.requires.exits c.requires.stands c.outputs.k e a.at a.agree in
    let suited : Serves (λ k. (goal.UnitKind-dyn g k).meaning k.1) gr c.args.piece c.args.a (hop_by gr c.args.x e) = record { placed = placed; in_unit = refl; admissible = rw c.hop_of-hop.ensures at (c.in_ok-is_exact.ensures.0 c.if-branch.true) } in
    rw c.hop_of-hop.ensures (tries_found (λ k. (goal.UnitKind-dyn g k).meaning k.1) gr c.requires.ground c.args.piece c.args.a c.args.x c.args.exits.now c.requires.sized c.requires.exits c.requires.stands c.agreeing_from-from.result c.outputs.k e a.at a.agree suited c.outputs.invariant)

pub returns-then-branch-clause-input : goal.returns-then-branch-clause-input
returns-then-branch-clause-input g c = ap (λ (h : Hop). h.x) c.hop_of-hop.ensures

pub outputs-preserved : goal.outputs-preserved
outputs-preserved g c =
    let gr = c.args.ground in
    let e : Exit = get_or c.args.exits.now c.outputs.k (record { port = 0; y = 0; rank = 0 }) in
    let a = agreeing gr.translator.now.page (c.args.x % 2 ^ gr.translator.now.page) c.outputs.k c.args.exits.now (record { port = 0; y = 0; rank = 0 }) (rw c.power.ensures at (sym c.agrees_at.ensures ∙ c.outputs-test.true)) in
    tries_on (λ k. (goal.UnitKind-dyn g k).meaning k.1) gr c.requires.ground c.args.piece c.args.a c.args.x c.args.exits.now c.requires.sized c.requires.exits c.requires.stands c.agreeing_from-from.result c.outputs.k e a.at
    (λ s. false≢true (sym c.if-branch.false ∙ c.in_ok-is_exact.ensures.1 (rw c.hop_of-hop.ensures s.admissible))) c.outputs.invariant

pub returns-clause-none : goal.returns-clause-none
returns-clause-none g c = λ is.
    let gr = c.args.ground in
    tries_done (λ k. (goal.UnitKind-dyn g k).meaning k.1) gr c.requires.ground c.args.piece c.args.a c.args.x c.args.exits.now c.requires.sized c.requires.exits c.requires.stands c.agreeing_from-from.result c.outputs.k
    (rw c.power.ensures at c.agreeing_from-from.ensures.from) (rw c.power.ensures at (sym c.agrees_at.ensures ∙ c.outputs-test.false)) c.outputs.invariant

pub bounds-exits-k : goal.bounds-exits-k
bounds-exits-k g c =
    let gr = c.args.ground in
    (agreeing gr.translator.now.page (c.args.x % 2 ^ gr.translator.now.page) c.outputs.k c.args.exits.now (record { port = 0; y = 0; rank = 0 }) (rw c.power.ensures at (sym c.agrees_at.ensures ∙ c.outputs-test.true))).there

pub outputs-smaller : goal.outputs-smaller
outputs-smaller g c =
    let gr = c.args.ground in
    let there = (agreeing gr.translator.now.page (c.args.x % 2 ^ gr.translator.now.page) c.outputs.k c.args.exits.now (record { port = 0; y = 0; rank = 0 }) (rw c.power.ensures at (sym c.agrees_at.ensures ∙ c.outputs-test.true))).there in
    omega (arith, there)
