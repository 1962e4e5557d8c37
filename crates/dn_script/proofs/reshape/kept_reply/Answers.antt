-- One more is kept.
use Rattle.std.proofs.Common.{sym, subst, List}
use Rattle.std.specs.List.{All}
use Rattle.std.proofs.lemmas.List.Elements.{All-push}
use Rattle.dn_script.specs.declared.reshape.Unfit.{Unfit}
use Rattle.dn_script.specs.Unmade.{IsUnfit}
use Rattle.dn_script.proofs.reshape.kept_reply.Goals as goal

pub returns-clause-unfit : goal.returns-clause-unfit
returns-clause-unfit c net is all = subst (λ (l : List Unfit). All (IsUnfit net) l) (sym c.in_ok-push.ensures.ok) (All-push (IsUnfit net) c.args.unfit.now c.args.one all is)

pub returns-in_err-push-clause-unfit : goal.returns-in_err-push-clause-unfit
returns-in_err-push-clause-unfit c net is all = subst (λ (l : List Unfit). All (IsUnfit net) l) (sym c.in_err-push.ensures.err) all
