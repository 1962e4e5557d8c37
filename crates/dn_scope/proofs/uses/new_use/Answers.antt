use Rattle.std.proofs.Common.{◌∙◌, sym, ap, option_map, Ok}
use Rattle.dn_parse.specs.Views.{name_view}
use Rattle.dn_scope.specs.Values.{◌>>=◌}
use Rattle.dn_scope.specs.Faults.{at_line}
use Rattle.dn_scope.specs.Stack.{found_view, known_view}
use Rattle.dn_scope.specs.Replace.{in_declared}
use Rattle.dn_scope.proofs.Bindings.{use_is, unfit_use, flaw_at, body_works}
use Rattle.dn_scope.proofs.uses.new_use.Goals as goal

pub returns-then-not-fit : goal.returns-then-not-fit
returns-then-not-fit c =
    unfit_use c.args.line c.args.scope.now c.args.args.now (in_declared c.args.scope.now (name_view c.args.prefix.now)) c.in-Some.number (known_view c.in-Some.known.now) _ (ap (λ f. option_map (λ k. found_view (k.0, k.1.now)) f) c.in-Some.is) (sym c.fit.ensures ∙ c.if-not-fit.true)

pub returns-in-Ok : goal.returns-in-Ok
returns-in-Ok c =
    let m = known_view c.in-Some.known.now in
    use_is c.args.line c.args.scope.now c.args.args.now (in_declared c.args.scope.now (name_view c.args.prefix.now)) c.in-Some.number m _ (ap (λ f. option_map (λ k. found_view (k.0, k.1.now)) f) c.in-Some.is) _ c.in-Some.known.now.words (sym c.fit.ensures ∙ c.if-not-fit.false)
    ∙ ap (λ o. at_line c.args.line o >>= body_works c.in-Some.number m) c.in-Ok.ensures
    ∙ ap (λ l. Ok l) (sym c.new.ensures)

pub returns-in-Err : goal.returns-in-Err
returns-in-Err c =
    let m = known_view c.in-Some.known.now in
    rw c.at.ensures (flaw_at c.args.line c.in-Err.fault _ (body_works c.in-Some.number m) _
    (use_is c.args.line c.args.scope.now c.args.args.now (in_declared c.args.scope.now (name_view c.args.prefix.now)) c.in-Some.number m _ (ap (λ f. option_map (λ k. found_view (k.0, k.1.now)) f) c.in-Some.is) _ c.in-Some.known.now.words (sym c.fit.ensures ∙ c.if-not-fit.false))
    c.in-Err.ensures)
