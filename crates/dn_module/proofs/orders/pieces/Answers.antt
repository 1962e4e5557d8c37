use Rattle.std.proofs.Common.{rules, ◌≡◌, ◌∙◌, ap, ℕ, ◌+◌, ◌<◌, List, [], ◌∷◌, ◌++◌, drop, get_or, length, map, Result, Ok, IsTrue, sym, subst}
use Rattle.dn_base.proofs.Lists.{drop_at, list_all-last}
use Rattle.dn_parse.specs.Views.{piece_view}
use Rattle.dn_module.specs.declared.command.PieceTarget.{PieceTarget}
use Rattle.dn_module.specs.Commands.{node_within, piece_target, pieces_within}
use Rattle.dn_scope.specs.Values.{◌>>=◌, each}
use Rattle.dn_scope.proofs.Each.{after_one, followed}
use Rattle.dn_module.proofs.orders.pieces.Goals as goal

-- one more piece is made, of which the list is seen
made_seen : {W X Y E : Type 0} (f : X → Result Y E) (g : W → X) (xs : List W) (i : ℕ) (x : W) (y : Y) (made longer : List Y) → i < length xs → x ≡ get_or xs i x → f (g x) ≡ Ok y → longer ≡ made ++ y ∷ [] → each f (map g xs) ≡ followed made (each f (map g (drop i xs))) → each f (map g xs) ≡ followed longer (each f (map g (drop (i + 1) xs)))
made_seen f g xs i x y made longer h at is e so_far =
    let rest = each f (map g (drop (i + 1) xs)) in
    so_far
    ∙ ap (λ l. followed made (each f (map g l))) (drop_at xs i x h at)
    ∙ ap (λ o. followed made (o >>= (λ y. rest >>= (λ ys. Ok (y ∷ ys))))) is
    ∙ after_one made y rest
    ∙ ap (λ l. followed l rest) (sym e)

pub loop-expr-preserved : goal.loop-expr-preserved
loop-expr-preserved c =
    let asked = c.args.asked.now in
    let i = c.loop-expr.expr-index in
    let longer : c.push.new.self ≡ c.loop-expr.made ++ c.in_ok-piece.piece ∷ [] = search rules in
    record {
      made = made_seen (piece_target c.args.names.now) piece_view asked i c.expr-item.result c.in_ok-piece.piece c.loop-expr.made c.push.new.self c.loop-expr-test.true c.expr-item.is c.in_ok-piece.ensures.made longer c.loop-expr.invariant.made;
      known = subst (λ (ps : List PieceTarget). IsTrue (pieces_within (length c.args.names.now) ps)) (sym longer) (list_all-last (λ (p : PieceTarget). node_within (length c.args.names.now) p.node.node) c.loop-expr.made c.in_ok-piece.piece c.loop-expr.invariant.known c.in_ok-piece.ensures.known);
    }
