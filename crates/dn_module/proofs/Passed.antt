-- What a test passes of the node of each declaration, it passes of each node of a text.
use Rattle.std.proofs.Common.{◌≡◌, refl, subst, ℕ, zero, suc, Bool, true, false, cond, not, nat_lt, List, [], ◌∷◌, ◌++◌, length, IsTrue, Option, Some, None, IfOk, Result, Ok, Err}
use Rattle.std.specs.List.{list_all, position_or_len}
use Rattle.std.specs.Str.{bytes_eq}
use Rattle.dn_base.specs.Answers.{Answers}
use Rattle.dn_parse.specs.Tree.{Part, Role as RoleOf, plain_role, agent_role, vectors_role, Spec, Expression, Declaration, node, unit, Item, declared, module_of, instance, loop, Tree}
use Rattle.dn_net.specs.declared.node.Block.{Block}
use Rattle.dn_net.specs.declared.node.NodeDecl.{NodeDecl}
use Rattle.dn_net.specs.declared.node.Role.TheVariants.{Unit as UnitRole}
use Rattle.dn_net.specs.Decode.{is_unit, is_formed}
use Rattle.dn_kind.specs.Kind.{Meaning, kind_place}
use Rattle.dn_kind.specs.Units.{has_kind}
use Rattle.dn_module.specs.declared.draft.Draft.{Draft}
use Rattle.dn_module.specs.declared.draft.DraftEntry.{DraftEntry}
use Rattle.dn_module.specs.declared.draft.DraftUnit.{DraftUnit}
use Rattle.dn_module.specs.declared.expansion.Expanded.{Expanded}
use Rattle.dn_scope.specs.declared.fault.ExpandFault.{ExpandFault}
use Rattle.dn_scope.specs.Values.{◌>>=◌, each, value_within, full_name, full_name_or_none}
use Rattle.dn_module.specs.Drafts.{block_of, entry_of, role_of, known_kind, bare_draft, node_draft, unit_draft, draft_of_declaration, names, limit_passed, draft_by_limit, with_draft, refers_to_known, node_in, node_of}
use Rattle.dn_scope.specs.Numbered.{is_known}
use Rattle.dn_module.specs.Commands.{commands_of}
use Rattle.dn_module.specs.Expand.{ExpansionState, nothing_yet, loop_of, item_rewriting, rewriting, all_rewritings, most_steps, expansion_of}
use Rattle.dn_scope.specs.Uses.{Visibility, outside, Work, statement, turns, statements, with_module, usable_modules, module_from, use_rewriting}
use Rattle.dn_module.specs.Finish.{outcome_of, outcome_view}
use Rattle.dn_scope.specs.Faults.{ExpansionFault, is_duplicate, is_unknown, expand_fault_view}
use Rattle.dn_base.proofs.Booleans.{and_parts}
use Rattle.dn_base.proofs.Lists.{list_all-last}
use Rattle.dn_module.proofs.Whole.{body_state, whole}
use Rattle.dn_module.proofs.Yields.{Yields, any, bind, given, at_yields, yielded}

-- each draft passes
abbrev pub AllPass : (Draft → Bool) → List Draft → Type 0
AllPass P ds = IsTrue (list_all P ds)

-- the drafts behind a step pass
abbrev pub Next : (Draft → Bool) → List Work × ExpansionState → Type 0
Next P n = AllPass P n.1.drafts

-- all drafts that are made pass
module _ (kinds : List Meaning) (P : Draft → Bool) (each_passes : (line : ℕ) (d : Declaration) → Yields (λ x. IsTrue (P x)) (draft_of_declaration kinds line d)) where
  added : (ds : List Draft) (d : Draft) → AllPass P ds → IsTrue (P d) → Yields (AllPass P) (with_draft ds d)
  added ds d all h = go (is_known (names ds) d.name) (limit_passed ds d)
    where
      go : (b : Bool) (o : Option ℕ) → Yields (AllPass P) (cond {A = Result (List Draft) ExpansionFault} b (Err (is_duplicate d.line)) (draft_by_limit o ds d))
      go true o = record { it = tt }
      go false None = record { it = list_all-last P ds d all h }
      go false (Some limit) = record { it = tt }

  item_passes : (s : Visibility) (state : ExpansionState) (i : Item) → AllPass P state.drafts → Yields (Next P) (item_rewriting kinds s state i)
  item_passes s state (declared line d) all = bind (draft_of_declaration kinds line d) _ (each_passes line d) (λ draft h. bind (with_draft state.drafts draft) _ (added state.drafts draft all h) (λ ds g. given g))
  item_passes s state (module_of line title params body) all = bind (with_module state.modules line (record { title = title; params = params; body = body })) _ (any _) (λ modules h. given all)
  item_passes s state (instance line title args prefix) all = bind (use_rewriting line args prefix (module_from 0 title (usable_modules s state.modules))) _ (any _) (λ works h. given all)
  item_passes s state (loop line w from upto body) all = bind (loop_of s line w from upto body) _ (any _) (λ works h. given all)

  work_passes : (state : ExpansionState) (w : Work) → AllPass P state.drafts → Yields (Next P) (rewriting kinds state w)
  work_passes state (statement s i) all = item_passes s state i all
  work_passes state (turns s line w a b body) all = record { it = all }

  pub all_pass : (left : ℕ) (ws : List Work) (state : ExpansionState) → AllPass P state.drafts → Yields (λ made. AllPass P made.drafts) (all_rewritings kinds left ws state)
  all_pass zero [] state all = record { it = all }
  all_pass (suc left) [] state all = record { it = all }
  all_pass zero (w ∷ ws) state all = record { it = tt }
  all_pass (suc left) (w ∷ ws) state all = bind (rewriting kinds state w) _ (work_passes state w all) (λ next h. all_pass left (next.0 ++ ws) next.1 h)

  pub body_passes : (tree : Tree) → Yields (λ made. AllPass P made.drafts) (body_state kinds tree)
  body_passes tree = all_pass most_steps (statements outside tree.body) nothing_yet refl

-- the kind of a unit is there
kind_below : (kinds : List Meaning) (name : List ℕ) → Yields (λ n. IsTrue (nat_lt n (length kinds))) (known_kind (kind_place kinds name))
kind_below kinds name = go (nat_lt place (length kinds)) refl
  where
    place : ℕ
    place = position_or_len (λ k. bytes_eq name k.name) kinds

    go : (b : Bool) → nat_lt place (length kinds) ≡ b → Yields (λ n. IsTrue (nat_lt n (length kinds))) (known_kind (cond b (Some place) None))
    go true e = record { it = e }
    go false e = record { it = tt }

-- the node of each declaration is so, where a node of any parts and a unit of any kind are
module _ (kinds : List Meaning) (P : Draft → Type 0) (of_node : (line : ℕ) (role : RoleOf) (name : List ℕ) (accepts : List Block) (entries : List DraftEntry) (over : Option (List ℕ)) → P (record { line = line; role = role_of role; name = name; accepts = accepts; entries = entries; over = over; unit = None })) (of_unit : (line : ℕ) (name : List ℕ) (u : DraftUnit) → IsTrue (nat_lt u.kind (length kinds)) → P (bare_draft line UnitRole name (Some u))) where
  node_yields : (line : ℕ) (role : RoleOf) (name : List Part) (spec : Spec) → Yields P (node_draft line role name spec)
  node_yields line role name spec =
      bind (full_name name) _ (any _) (λ text h. bind (each block_of spec.accepts) _ (any _) (λ accepts h. bind (each entry_of spec.entries) _ (any _) (λ entries h. bind (full_name_or_none spec.over) _ (any _) (λ over h. given (of_node line role text accepts entries over)))))

  unit_yields : (line : ℕ) (name : List Part) (kind : List ℕ) (page slots reach : Expression) (ports : List (List Part)) → Yields P (unit_draft kinds line name kind page slots reach ports)
  unit_yields line name kind page slots reach ports =
      bind (full_name name) _ (any _) (λ text h. bind (known_kind (kind_place kinds kind)) _ (kind_below kinds kind) (λ number below. bind (value_within 255 page) _ (any _) (λ p h. bind (value_within 4294967295 slots) _ (any _) (λ s h. bind (value_within 255 reach) _ (any _) (λ r h. bind (each full_name ports) _ (any _) (λ texts h. given (of_unit line text _ below)))))))

  declared_yields : (line : ℕ) (d : Declaration) → Yields P (draft_of_declaration kinds line d)
  declared_yields line (node role name spec) = at_yields P line (node_draft line role name spec) (node_yields line role name spec)
  declared_yields line (unit name kind page slots reach ports) = at_yields P line (unit_draft kinds line name kind page slots reach ports) (unit_yields line name kind page slots reach ports)

role_is_none : (r : RoleOf) → IsTrue (not (is_unit (role_of r)))
role_is_none plain_role = refl
role_is_none agent_role = refl
role_is_none vectors_role = refl

-- the node of each declaration is formed, and the kind of each is there
declared_formed : (kinds : List Meaning) (known : List (List ℕ)) (line : ℕ) (d : Declaration) → Yields (λ x. IsTrue (is_formed (node_in known x))) (draft_of_declaration kinds line d)
declared_formed kinds known = declared_yields kinds (λ x. IsTrue (is_formed (node_in known x))) (λ line role name accepts entries over. role_is_none role) (λ line name u below. refl)

declared_kinded : (kinds : List Meaning) (known : List (List ℕ)) (line : ℕ) (d : Declaration) → Yields (λ x. IsTrue (has_kind (length kinds) (node_in known x).unit)) (draft_of_declaration kinds line d)
declared_kinded kinds known = declared_yields kinds (λ x. IsTrue (has_kind (length kinds) (node_in known x).unit)) (λ line role name accepts entries over. refl) (λ line name u below. below)

-- the nodes of drafts pass, where their drafts do
module _ (Q : NodeDecl → Bool) (known : List (List ℕ)) where
  node_passes : (d : Draft) → IsTrue (Q (node_in known d)) → Yields (λ n. IsTrue (Q n)) (node_of known d)
  node_passes d h = go (refers_to_known known d)
    where
      go : (b : Bool) → Yields (λ n. IsTrue (Q n)) (cond {A = Result NodeDecl ExpansionFault} b (Ok (node_in known d)) (Err (is_unknown d.line)))
      go true = record { it = h }
      go false = record { it = tt }

  pub nodes_pass : (ds : List Draft) → AllPass (λ d. Q (node_in known d)) ds → Yields (λ ns. IsTrue (list_all Q ns)) (each (node_of known) ds)
  nodes_pass [] all = record { it = refl }
  nodes_pass (d ∷ ds) all =
      let parts = and_parts (Q (node_in known d)) (list_all (λ e. Q (node_in known e)) ds) all in
      bind (node_of known d) _ (node_passes d parts.0) (λ n h. bind (each (node_of known) ds) _ (nodes_pass ds parts.1) (λ ns g. given (rw h g)))

-- all nodes of a text pass, where those of its declarations do
pub text_passes : (kinds : List Meaning) (Q : NodeDecl → Bool) (tree : Tree) → ((known : List (List ℕ)) (line : ℕ) (d : Declaration) → Yields (λ x. IsTrue (Q (node_in known x))) (draft_of_declaration kinds line d)) → Yields (λ o. IsTrue (list_all Q o.net)) (expansion_of kinds tree)
text_passes kinds Q tree each_passes = rw (whole kinds tree) (go (body_state kinds tree) refl)
  where
    passes : (known : List (List ℕ)) → Yields (λ made. AllPass (λ d. Q (node_in known d)) made.drafts) (body_state kinds tree)
    passes known = body_passes kinds (λ d. Q (node_in known d)) (each_passes known) tree

    go : (r : Result ExpansionState ExpansionFault) → body_state kinds tree ≡ r → Yields (λ o. IsTrue (list_all Q o.net)) (r >>= λ state. outcome_of state.drafts tree.commands)
    go (Err e) is = record { it = tt }
    go (Ok state) is =
        let known = names state.drafts in
        bind (commands_of known tree.commands) _ (any _) (λ commands h. bind (each (node_of known) state.drafts) _ (nodes_pass Q known state.drafts (yielded _ _ state (passes known) is)) (λ net g. given g))

-- the kind of each unit of a text is there
pub kinds_are : (kinds : List Meaning) (tree : Tree) → Yields (λ o. IsTrue (list_all (λ n. has_kind (length kinds) n.unit) o.net)) (expansion_of kinds tree)
kinds_are kinds tree = text_passes kinds (λ n. has_kind (length kinds) n.unit) tree (declared_kinded kinds)

pub kinds_of_answer : (kinds : List Meaning) (count : ℕ) (tree : Tree) (r : Result Expanded ExpandFault) → length kinds ≡ count → Answers outcome_view expand_fault_view r (expansion_of kinds tree) → IfOk r (λ e. IsTrue (list_all (λ n. has_kind count n.unit) e.net))
kinds_of_answer kinds count tree (Err e) same is = tt
kinds_of_answer kinds count tree (Ok e) same is = subst (λ n. IsTrue (list_all (λ m. has_kind n m.unit) e.net)) same (yielded _ _ (outcome_view e) (kinds_are kinds tree) is)

-- what the statements made is formed
pub drafts_formed : (kinds : List Meaning) (tree : Tree) (state : ExpansionState) → body_state kinds tree ≡ Ok state → (list_all (λ d. is_formed (node_in (names state.drafts) d)) state.drafts) ≡ true
drafts_formed kinds tree state is = yielded _ _ state (body_passes kinds (λ d. is_formed (node_in (names state.drafts) d)) (declared_formed kinds (names state.drafts)) tree) is
