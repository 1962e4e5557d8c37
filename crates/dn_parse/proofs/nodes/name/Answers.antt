use Rattle.std.proofs.Common.{◌≡◌, ◌∙◌, ap, sym, subst, refl, [], ◌∷◌, map, Ok, arith}
use Rattle.dn_token.specs.Cursor.{cursor_view}
use Rattle.std.proofs.lemmas.Result.{err_from_is_err_and}
use Rattle.dn_parse.specs.Views.{part_view}
use Rattle.dn_parse.specs.Descent.{next_part_at, name_at}
use Rattle.dn_parse.proofs.Members.{pushed_found}
use Rattle.dn_parse.proofs.Series.{Found, halted, found_all, found_first, found_stop}
use Rattle.dn_parse.proofs.Firsts.{name_first, name_stop, no_part, part_found, part_stops}
use Rattle.dn_parse.proofs.nodes.name.Goals as goal

pub returns-in_err-first-clause-gives : goal.returns-in_err-first-clause-gives
returns-in_err-first-clause-gives c =
    let p = err_from_is_err_and c.from_residual.result c.from_residual.ensures.1 in
    rw (p.1, p.2) (halted _ _ _ c.in_err-first.ensures.gives (name_stop c.args.depth (cursor_view c.args.tokens.now)))

pub parts-init : goal.parts-init
parts-init c =
    let one : part_view c.in_ok-first.first ∷ [] ≡ map part_view c.of-parts.result = ap (map part_view) (sym c.of-parts.ensures) in
    record {
      shorter = c.in_ok-first.ensures.shorter;
      before = subst (λ l. Found (next_part_at c.args.depth) (name_at c.args.depth (cursor_view c.args.tokens.now)) l (cursor_view c.part.new.tokens)) one (found_first _ _ _ (name_first c.args.depth _ _ _ c.in_ok-first.ensures.gives));
    }

pub parts-preserved : goal.parts-preserved
parts-preserved c =
    let is = part_found c.args.depth (cursor_view c.parts.tokens) _ _ _ c.parts-test.ensures.gives c.in_ok-part.ensures.gives in
    let less = c.parts-test.ensures.shorter refl in
    record {
      shorter = omega (arith, c.in_ok-part.ensures.shorter, less, c.parts.invariant.shorter);
      before = pushed_found part_view _ _ (cursor_view c.parts.tokens) _ _ c.parts.invariant.before is (omega (arith, c.in_ok-part.ensures.shorter, less)) c.in_ok-parts.ensures;
    }

pub returns-in_err-part-clause-gives : goal.returns-in_err-part-clause-gives
returns-in_err-part-clause-gives c =
    let p = err_from_is_err_and c.from_residual-in_err-part.result c.from_residual-in_err-part.ensures.1 in
    rw (p.1, p.2) (halted _ _ _ c.in_err-part.ensures.gives (λ s e. found_stop c.parts.invariant.before s (part_stops c.args.depth (cursor_view c.parts.tokens) _ s c.parts-test.ensures.gives e)))

pub returns-clause-gives : goal.returns-clause-gives
returns-clause-gives c =
    let none = no_part c.args.depth (cursor_view c.parts.tokens) c.parts-test.ensures.gives.0 in
    found_all c.parts.invariant.before none ∙ ap (λ ts. Ok (map part_view c.parts.parts, ts)) (sym c.parts-test.ensures.gives.1)
