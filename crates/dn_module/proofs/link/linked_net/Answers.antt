use Rattle.std.proofs.Common.{arith, ◌≡◌, ◌∙◌, ap, sym, subst, List, [], ◌∷◌, ◌++◌, map, take, get_or, Bool, true, ◌&&◌}
use Rattle.std.proofs.lemmas.List.{map_more, take_all}
use Rattle.std.proofs.lemmas.List.Folds.{list_all_more}
use Rattle.std.specs.List.{list_all}
use Rattle.dn_net.specs.declared.node.NodeDecl.{NodeDecl}
use Rattle.dn_module.specs.declared.draft.Draft.{Draft}
use Rattle.dn_module.specs.Drafts.{node_in, node_of, refers_to_known}
use Rattle.dn_scope.proofs.Each.{made_next}
use Rattle.dn_module.proofs.NewNames.{new_name, formed_at}
use Rattle.dn_module.proofs.Closed.{closed}
use Rattle.dn_module.proofs.link.linked_net.Goals as goal

pub add-requires-clause-new_name : goal.add-requires-clause-new_name
add-requires-clause-new_name c = new_name c.args.names.now c.args.drafts.now c.loop-draft.draft-index c.draft-item.result c.in_ok-decl.decl c.loop-draft.net c.loop-draft-test.true c.draft-item.is c.requires.different c.in_ok-decl.ensures.node c.loop-draft.invariant.so_far

pub add-requires-clause-formed : goal.add-requires-clause-formed
add-requires-clause-formed c = formed_at c.args.names.now c.args.drafts.now c.loop-draft.draft-index c.draft-item.result c.in_ok-decl.decl c.loop-draft-test.true c.draft-item.is c.requires.formed c.in_ok-decl.ensures.node

pub loop-draft-preserved : goal.loop-draft-preserved
loop-draft-preserved c =
    let known = c.args.names.now in
    let ds = c.args.drafts.now in
    let i = c.loop-draft.draft-index in
    let before = c.loop-draft.net in
    let d = c.draft-item.result in
    let decl = c.in_ok-decl.decl in
    let at = c.draft-item.is in
    let longer : c.add.new.self ≡ before ++ decl ∷ [] = c.in_ok-add.ensures.ok.1 in
    record {
      made = made_next (node_of known) ds i d decl before c.add.new.self c.loop-draft-test.true at c.in_ok-decl.ensures.made longer c.loop-draft.invariant.made;
      so_far = longer ∙ ap (λ (n : List NodeDecl). n ++ decl ∷ []) c.loop-draft.invariant.so_far ∙ ap (λ (n : NodeDecl). map (node_in known) (take i ds) ++ n ∷ []) (c.in_ok-decl.ensures.node ∙ ap (node_in known) at) ∙ sym (map_more (node_in known) ds i d c.loop-draft-test.true);
      known = list_all_more (refers_to_known known) ds i d c.loop-draft-test.true ∙ ap (λ (b : Bool). b && refers_to_known known (get_or ds i d)) c.loop-draft.invariant.known ∙ ap (refers_to_known known) (sym at) ∙ c.in_ok-decl.ensures.known;
    }

pub returns-clause-closed : goal.returns-clause-closed
returns-clause-closed c =
    let known = c.args.names.now in
    let ds = c.args.drafts.now in
    let i = c.loop-draft.draft-index in
    let all : take i ds ≡ ds = take_all i ds (let b = c.loop-draft-test.false in omega arith) in
    closed known ds c.loop-draft.net c.requires.named (c.loop-draft.invariant.so_far ∙ ap (map (node_in known)) all) (subst (λ (l : List Draft). list_all (refers_to_known known) l ≡ true) all c.loop-draft.invariant.known)
