-- One piece more gets its number.
use Rattle.std.proofs.Common.{◌≡◌, ◌+◌, ◌∙◌, ◌++◌, [], ◌∷◌, ap, sym, drop, List, ℕ, append_assoc, append-nil}
use Rattle.std.proofs.Math.ListN.{drop_of_length-le}
use Rattle.dn_base.proofs.Lists.{drop_at}
use Rattle.dn_module.specs.declared.command.PieceTarget.{PieceTarget}
use Rattle.dn_gather.specs.declared.piece.Piece.{Piece}
use Rattle.dn_script.specs.Asked.{numbered, piece_of, with_ids}
use Rattle.dn_script.specs.Ids.{id_number, with_id}
use Rattle.dn_script.proofs.pieces.number_pieces.Goals as goal

pub loop-piece-preserved : goal.loop-piece-preserved
loop-piece-preserved c =
    let ids : List (List ℕ) = c.loop-piece.ids in
    let made : List Piece = c.loop-piece.asked.items in
    let p : PieceTarget = c.piece-item.result in
    let rest : List PieceTarget = drop (c.loop-piece.piece-index + 1) c.args.pieces.now in
    let split : drop c.loop-piece.piece-index c.args.pieces.now ≡ p ∷ rest = drop_at c.args.pieces.now c.loop-piece.piece-index p c.loop-piece-test.true c.piece-item.is in
    let named : c.number.new.self ≡ with_id ids p.id = c.in_ok-number.ensures.ids ∙ ap (with_id ids) c.as_str.ensures in
    let number : c.in_ok-number.number ≡ id_number ids p.id = c.in_ok-number.ensures.number ∙ ap (id_number ids) c.as_str.ensures in
    let piece : c.piece_of.result ≡ piece_of (id_number ids p.id) p = c.piece_of.ensures ∙ ap (λ n. piece_of n p) number in
    record {
      so_far = ap (λ (l : List Piece). l ++ numbered c.number.new.self rest) c.in_ok-push.ensures.items
          ∙ append_assoc made (c.piece_of.result ∷ []) (numbered c.number.new.self rest)
          ∙ ap (λ (q : Piece). made ++ q ∷ numbered c.number.new.self rest) piece
          ∙ ap (λ (s : List (List ℕ)). made ++ piece_of (id_number ids p.id) p ∷ numbered s rest) named
          ∙ ap (λ (l : List PieceTarget). made ++ numbered ids l) (sym split)
          ∙ c.loop-piece.invariant.so_far;
      named = ap (λ (s : List (List ℕ)). with_ids s rest) named ∙ ap (with_ids ids) (sym split) ∙ c.loop-piece.invariant.named;
    }

pub returns-clause-pieces : goal.returns-clause-pieces
returns-clause-pieces c =
    let none : drop c.loop-piece.piece-index c.args.pieces.now ≡ [] = drop_of_length-le c.args.pieces.now c.loop-piece-test.false in
    sym (append-nil c.loop-piece.asked.items) ∙ ap (λ (l : List PieceTarget). c.loop-piece.asked.items ++ numbered c.loop-piece.ids l) (sym none) ∙ c.loop-piece.invariant.so_far

pub returns-clause-ids : goal.returns-clause-ids
returns-clause-ids c =
    let none : drop c.loop-piece.piece-index c.args.pieces.now ≡ [] = drop_of_length-le c.args.pieces.now c.loop-piece-test.false in
    ap (with_ids c.loop-piece.ids) (sym none) ∙ c.loop-piece.invariant.named
