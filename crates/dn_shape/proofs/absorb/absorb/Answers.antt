-- What the net past the node keeps.
use Rattle.std.proofs.Common.{ℕ, List, rules, ◌≡◌, ◌∙◌, ◌<◌, Option, Some, None, length, slice_get, ap, sym, subst}
use Rattle.std.proofs.lemmas.Result.{IfOk-weaker}
use Rattle.dn_base.specs.Answers.{Answers}
use Rattle.dn_net.specs.declared.node.NodeDecl.{NodeDecl}
use Rattle.dn_shape.specs.declared.fault.Why.{Why}
use Rattle.dn_shape.specs.Absorb.{net_past, net_unless, why_not, why_not_at}
use Rattle.dn_shape.specs.Faults.{absorb_fault_view}
use Rattle.dn_shape.specs.Views.{HaveEqualViews, IsRuledNet}
use Rattle.dn_shape.proofs.Absorbed.{absorb_keeps_views}
use Rattle.dn_shape.proofs.Led.{absorb_keeps_rules}
use Rattle.dn_shape.proofs.Read.{rest_at}
use Rattle.dn_shape.proofs.absorb.absorb.Goals as goal

-- what the net past a node that can be absorbed keeps, the net that was made keeps
made_keeps : (P : List NodeDecl → Type 0) (net made : List NodeDecl) (node : ℕ) (why : Option Why) → node < length net → why ≡ why_not_at net node (slice_get net node) → why ≡ None → made ≡ net_past net node → ((n : NodeDecl) → slice_get net node ≡ Some n → why_not net node n ≡ None → P (net_past net node)) → P made
made_keeps P net made node why there told none is keeps =
    let r = rest_at net node there in
    subst P (sym is) (keeps r.node r.at (ap (why_not_at net node) (sym r.at) ∙ sym told ∙ none))

pub returns-clause-made : goal.returns-clause-made
returns-clause-made c =
    let net = c.args.net.now in
    let none : why_not_at net c.args.node (slice_get net c.args.node) ≡ None = sym c.why_not.ensures ∙ c.in_default.is in
    subst (λ (o : Option Why). Answers (λ n. n) absorb_fault_view c.net_past.result (net_unless (net_past net c.args.node) o)) (sym none) c.net_past.ensures.made

pub returns-clause-rules : goal.returns-clause-rules
returns-clause-rules c =
    let net = c.args.net.now in
    IfOk-weaker c.net_past.result _ _ (λ made is. made_keeps IsRuledNet net made c.args.node _ c.requires.there c.why_not.ensures c.in_default.is is (λ n at fit. (absorb_keeps_rules net c.requires.legal c.args.node n at fit).0)) c.net_past.ensures.is

pub returns-clause-views : goal.returns-clause-views
returns-clause-views c =
    let net = c.args.net.now in
    IfOk-weaker c.net_past.result _ _ (λ made is. made_keeps (HaveEqualViews (λ x. x) net) net made c.args.node _ c.requires.there c.why_not.ensures c.in_default.is is (λ n at fit. absorb_keeps_views net c.requires.legal c.args.node n at fit)) c.net_past.ensures.is
