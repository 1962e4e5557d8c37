use Rattle.std.proofs.Common.{List, [], ◌+◌, ◌++◌, ◌∷◌, get_or, subst, sym, take, ap, ◌∙◌}
use Rattle.dn_base.proofs.Lists.{take_past}
use Rattle.dn_placement.specs.declared.request.Request.{Request}
use Rattle.dn_place.specs.declared.exits.Exit.{Exit}
use Rattle.dn_place.specs.Exits.{AreExits}
use Rattle.dn_place.specs.Requests.{IsRequest}
use Rattle.dn_gather.specs.declared.piece.Piece.{Piece}
use Rattle.dn_gather.specs.Grounds.{AreExitsOfPieces}
use Rattle.dn_gather.proofs.Placing.{exits_more}
use Rattle.dn_gather.proofs.search.all_exits.Goals as goal

pub loop-piece-init : goal.loop-piece-init
loop-piece-init g c =
    let w = c.args.wanted in
    subst (λ (all : List (List Exit)). AreExitsOfPieces w.system.on.net.now c.args.translator.now w.agent w.rights [] all) (sym c.new-all.ensures.items) tt

pub exits-requires-clause-request : goal.exits-requires-clause-request
exits-requires-clause-request g c =
    let w = c.args.wanted in
    let sized = c.requires.wanted.pieces.each c.loop-piece.piece-index (record { id = 0; node = 0; base = 0; size = 0 }) c.loop-piece-test.true in
    subst (λ (r : Request). IsRequest w.system.on.net.now r) (sym c.piece_request-request.ensures) (record { agent = c.requires.wanted.agent; rights = c.requires.wanted.rights; some = sized.some; buffer = sized.buffer })

pub loop-piece-preserved : goal.loop-piece-preserved
loop-piece-preserved g c =
    let w = c.args.wanted in
    let ps = w.pieces.now in
    let p : Piece = get_or ps c.loop-piece.piece-index (record { id = 0; node = 0; base = 0; size = 0 }) in
    let old : List (List Exit) = c.loop-piece.all.items in
    let here = subst (λ (r : Request). AreExits w.system.on.net.now c.args.translator.now r c.in_ok-exits.exits.items) c.piece_request-request.ensures c.in_ok-exits.ensures in
    subst (λ (all : List (List Exit)). AreExitsOfPieces w.system.on.net.now c.args.translator.now w.agent w.rights (take (c.loop-piece.piece-index + 1) ps) all) (sym (c.in_ok-push.ensures.items ∙ ap (λ (es : List Exit). old ++ es ∷ []) c.from_vec.ensures))
    (exits_more w.system.on.net.now c.args.translator.now w.agent w.rights ps c.loop-piece.piece-index (record { id = 0; node = 0; base = 0; size = 0 }) old c.in_ok-exits.exits.items c.loop-piece-test.true c.loop-piece.invariant here)

pub returns : goal.returns
returns g c =
    let w = c.args.wanted in
    subst (λ (qs : List Piece). AreExitsOfPieces w.system.on.net.now c.args.translator.now w.agent w.rights qs c.loop-piece.all.items) (take_past w.pieces.now c.loop-piece.piece-index c.loop-piece-test.false) c.loop-piece.invariant
