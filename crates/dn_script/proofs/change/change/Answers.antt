use Rattle.std.proofs.Common.{◌≡◌, ◌≤◌, length, subst, sym, List, ℕ}
use Rattle.dn_kind.specs.Kind.{Meaning}
use Rattle.dn_kind.specs.Kinded.{kinds_of}
use Rattle.dn_kind.specs.declared.rights.Rights.{Rights}
use Rattle.dn_module.specs.declared.command.PieceTarget.{PieceTarget}
use Rattle.dn_placement.specs.declared.request.Request.{Request}
use Rattle.dn_script.specs.Asked.{number_or_none, request_of, rights_of}
use Rattle.dn_script.specs.State.{state_view}
use Rattle.dn_script.specs.Turn.{IsGatherTurn, IsGrantTurn, IsRevokeTurn, IsRouteTurn, IsTurn, State}
use Rattle.dn_script.proofs.Changes.{pieces_few}
use Rattle.dn_script.proofs.Stopped.{done_as}
use Rattle.dn_script.proofs.change.change.Goals as goal

pub returns-in-Grant : goal.returns-in-Grant
returns-in-Grant g c =
    let kinds : List Meaning = kinds_of (λ k. (goal.UnitKind-dyn g k).meaning k.1) c.args.machine.on.kinds.now in
    let net = c.args.machine.on.net.now in
    let s : State = state_view c.args.state.now in
    let asked : List ℕ × Request = (c.in-Grant.id, request_of c.in-Grant.from c.in-Grant.target c.in-Grant.base c.in-Grant.size c.in-Grant.mode) in
    let same : ◌≡◌ {A = List ℕ × Request} (c.as_str-id.result.now, c.request_of-request.result) asked = λ i. (c.as_str-id.ensures i, c.request_of-request.ensures.value i) in
    done_as _ _ (IsTurn kinds net s) _ _ _ _ _ _ _ _ _ _ _ (sym c.in-Grant.is) (done_as _ _ (λ (a : List ℕ × Request). IsGrantTurn kinds net s a.0 a.1) _ asked _ _ _ _ _ _ _ _ _ same c.grant_change.ensures)

pub returns-in-Route : goal.returns-in-Route
returns-in-Route g c =
    let kinds : List Meaning = kinds_of (λ k. (goal.UnitKind-dyn g k).meaning k.1) c.args.machine.on.kinds.now in
    let net = c.args.machine.on.net.now in
    let s : State = state_view c.args.state.now in
    let asked : List ℕ × ℕ × ℕ = (c.in-Route.id, number_or_none c.in-Route.from.node, number_or_none c.in-Route.target.node) in
    let same : ◌≡◌ {A = List ℕ × ℕ × ℕ} (c.as_str-id-in-Route.result.now, c.number_or_none-agent.result, c.number_or_none-node.result) asked = λ i. (c.as_str-id-in-Route.ensures i, c.number_or_none-agent.ensures i, c.number_or_none-node.ensures i) in
    done_as _ _ (IsTurn kinds net s) _ _ _ _ _ _ _ _ _ _ _ (sym c.in-Route.is) (done_as _ _ (λ (a : List ℕ × ℕ × ℕ). IsRouteTurn kinds net s a.0 a.1 c.in-Route.line a.2) _ asked _ _ _ _ _ _ _ _ _ same c.route_change.ensures)

pub returns-in-Revoke : goal.returns-in-Revoke
returns-in-Revoke g c =
    let kinds : List Meaning = kinds_of (λ k. (goal.UnitKind-dyn g k).meaning k.1) c.args.machine.on.kinds.now in
    let net = c.args.machine.on.net.now in
    let s : State = state_view c.args.state.now in
    done_as _ _ (IsTurn kinds net s) _ _ _ _ _ _ _ _ _ _ _ (sym c.in-Revoke.is) (done_as _ _ (IsRevokeTurn kinds net s) _ _ _ _ _ _ _ _ _ _ _ c.as_str.ensures c.revoke_change.ensures)

pub returns-in-Gather : goal.returns-in-Gather
returns-in-Gather g c =
    let kinds : List Meaning = kinds_of (λ k. (goal.UnitKind-dyn g k).meaning k.1) c.args.machine.on.kinds.now in
    let net = c.args.machine.on.net.now in
    let s : State = state_view c.args.state.now in
    let asked : ℕ × Rights × List PieceTarget = (number_or_none c.in-Gather.from.node, rights_of c.in-Gather.mode, c.in-Gather.pieces) in
    let same : ◌≡◌ {A = ℕ × Rights × List PieceTarget} (c.number_or_none-agent-in-Gather.result, c.rights_of-rights.result, c.as_slice-pieces.result.now) asked = λ i. (c.number_or_none-agent-in-Gather.ensures i, c.rights_of-rights.ensures.value i, c.as_slice-pieces.ensures i) in
    done_as _ _ (IsTurn kinds net s) _ _ _ _ _ _ _ _ _ _ _ (sym c.in-Gather.is) (done_as _ _ (λ (a : ℕ × Rights × List PieceTarget). IsGatherTurn kinds net s a.0 a.1 a.2) _ asked _ _ _ _ _ _ _ _ _ same c.gather_change.ensures)

pub gather_change-requires-clause-some : goal.gather_change-requires-clause-some
gather_change-requires-clause-some g c = subst (λ (ps : List PieceTarget). 1 ≤ length ps) (sym c.as_slice-pieces.ensures) (pieces_few (length c.args.machine.on.net.now) c.args.command.now c.in-Gather.from c.in-Gather.pieces c.in-Gather.mode c.in-Gather.is c.requires.known).0

pub gather_change-requires-clause-few : goal.gather_change-requires-clause-few
gather_change-requires-clause-few g c = subst (λ (ps : List PieceTarget). length ps ≤ 8) (sym c.as_slice-pieces.ensures) (pieces_few (length c.args.machine.on.net.now) c.args.command.now c.in-Gather.from c.in-Gather.pieces c.in-Gather.mode c.in-Gather.is c.requires.known).1
