use Rattle.std.proofs.Common.{◌∙◌, ◌≤◌, ℕ, List, arith, get_or, length, subst, sym}
use Rattle.std.proofs.lemmas.List.{length-take-le}
use Rattle.std.proofs.lemmas.List.Elements.{All-take}
use Rattle.dn_place.specs.declared.exits.Exit.{Exit}
use Rattle.dn_gather.specs.declared.piece.Piece.{Piece}
use Rattle.dn_gather.specs.Grounds.{AreExitsOn, IsSized}
use Rattle.dn_gather.proofs.Standing.{exits_at, item_here}
use Rattle.dn_gather.proofs.part.part_at.Goals as goal

pub total-requires-clause-each : goal.total-requires-clause-each
total-requires-clause-each g c = All-take IsSized c.args.i c.args.ground.wanted.pieces.now c.requires.ground.wanted.pieces.each

pub total-requires-clause-most : goal.total-requires-clause-most
total-requires-clause-most g c =
    let ps = c.args.ground.wanted.pieces.now in
    let most : length ps ≤ 8 = c.requires.ground.wanted.pieces.few in
    subst (λ (n : ℕ). n ≤ 8) (sym (length-take-le c.args.i ps (omega (arith, c.requires.there)))) (omega (arith, most, c.requires.there))

pub bounds-lists-i : goal.bounds-lists-i
bounds-lists-i g c = omega (arith, c.requires.there, c.requires.ground.count)

pub returns : goal.returns
returns g c =
    let gr = c.args.ground in
    let ps = gr.wanted.pieces.now in
    let list : List Exit = c.index-lists-i.result in
    let none : Piece = record { id = 0; node = 0; base = 0; size = 0 } in
    let piece : Piece = get_or ps c.args.i none in
    record {
      item = item_here ps c.args.i none c.requires.there;
      address = omega (arith, c.total.ensures.sum);
      few = omega (arith, c.requires.few, c.total.ensures.few);
      sized = c.requires.ground.wanted.pieces.each c.args.i none c.requires.there;
      exits = subst (λ (es : List Exit). AreExitsOn gr piece es) (sym (c.as_slice.ensures ∙ c.index-lists-i.is)) (exits_at gr.wanted.system.on.net.now gr.translator.now gr.wanted.agent gr.wanted.rights ps gr.exits.now c.args.i none list c.requires.ground.exits c.requires.there);
    }
