use Rattle.std.proofs.Common.{◌∙◌, sym, map}
use Rattle.std.proofs.lemmas.List.{length-map}
use Rattle.dn_parse.specs.Views.{param_view, arg_view}
use Rattle.dn_scope.proofs.Bindings.{unfit}
use Rattle.dn_scope.proofs.uses.fit.Goals as goal

pub returns-then-params-args : goal.returns-then-params-args
returns-then-params-args c =
    let ps = c.args.params.now in
    let xs = c.args.args.now in
    unfit (map param_view ps) (map arg_view xs) (λ e. c.if-params-args.true (sym (length-map ps param_view) ∙ e ∙ length-map xs arg_view))
