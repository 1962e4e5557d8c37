-- The spans of the set are the maximal spans of the blocks.
use Rattle.std.proofs.Common.{◌∙◌, ap, map}
use Rattle.std.proofs.lemmas.Result.{IfOk-weaker}
use Rattle.dn_walk.specs.Legs.{span_view}
use Rattle.dn_shape.proofs.Maximal.{set_spans}
use Rattle.dn_shape.proofs.spans.maximal_accepts.Goals as goal

pub returns : goal.returns
returns c =
    IfOk-weaker c.blocks_of.result _ _ (λ v h. set_spans c.args.checked.net.now c.args.checked.node c.in_ok-set.set v.items c.args.checked.rules c.args.checked.there c.spans.ensures.maximal c.in_ok-set.ensures (h ∙ ap (map span_view) c.spans.ensures.value)) c.blocks_of.ensures
