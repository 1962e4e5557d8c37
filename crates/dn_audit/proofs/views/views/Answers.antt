use Rattle.std.proofs.Common.{◌∙◌, ◌+◌, ◌++◌, ◌∷◌, [], ◌<◌, if◌then◌else◌, List, drop, length, map, slice_get, ap, sym, arith}
use Rattle.dn_net.specs.declared.node.NodeDecl.{NodeDecl}
use Rattle.dn_net.specs.Decode.{is_agent_at}
use Rattle.dn_kind.specs.declared.rights.Access.TheVariants.{Write}
use Rattle.dn_audit.specs.Views.{Viewer, viewer_of, viewers}
use Rattle.dn_audit.proofs.Viewers.{viewers_next, viewers_two}
use Rattle.dn_audit.proofs.views.views.Goals as goal

pub loop-node-preserved : goal.loop-node-preserved
loop-node-preserved g c =
    let net : List NodeDecl = c.args.system.on.net.now in
    let there : c.loop-node.node < length net = (let t = c.loop-node-test.true in let n = c.nodes-node-end.ensures in omega (arith, t, n)) in
    let old : List Viewer = map viewer_of c.loop-node.views in
    let rest : List Viewer = viewers (c.loop-node.node + 1) (drop (c.loop-node.node + 1) net) in
    record {
      viewers = ap (λ (l : List Viewer). l ++ rest) (c.in_ok-push_view-2.ensures.viewers ∙ ap (λ (l : List Viewer). l ++ (if is_agent_at (slice_get net c.loop-node.node) then record { agent = c.loop-node.node; access = Write } ∷ [] else [])) c.in_ok-push_view.ensures.viewers)
          ∙ viewers_two c.loop-node.node (is_agent_at (slice_get net c.loop-node.node)) old rest
          ∙ ap (λ (l : List Viewer). old ++ l) (sym (viewers_next net c.loop-node.node there))
          ∙ c.loop-node.invariant.viewers;
      seen = c.in_ok-push_view-2.ensures.seen;
      within = c.in_ok-push_view-2.ensures.within;
    }
