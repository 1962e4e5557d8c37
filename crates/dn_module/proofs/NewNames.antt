-- The names of drafts, of which none comes twice.
use Rattle.std.proofs.Common.{◌≡◌, ◌∙◌, ap, sym, refl, ℕ, ◌+◌, ◌<◌, List, ◌++◌, map, take, drop, get_or, true, false, Bool, length, ◌||◌}
use Rattle.std.proofs.lemmas.Bool.{false≢true}
use Rattle.std.proofs.lemmas.List.Folds.{list_all_at}
use Rattle.std.proofs.lemmas.List.{map_more, map-append, take-append-drop}
use Rattle.std.specs.List.{list_all, list_any}
use Rattle.std.specs.Str.{bytes_eq}
use Rattle.dn_module.specs.declared.draft.Draft.{Draft}
use Rattle.dn_net.specs.declared.node.NodeDecl.{NodeDecl}
use Rattle.dn_net.specs.Decode.{is_formed}
use Rattle.dn_base.proofs.Lists.{list_any-map}
use Rattle.dn_scope.specs.Numbered.{is_known}
use Rattle.dn_module.specs.Drafts.{node_in}
use Rattle.dn_scope.specs.Uses.{has_twice}
use Rattle.dn_scope.proofs.Known.{twice-append, twice-push}

-- the names before a declaration and its own
twice_more : (nodes : List Draft) (i : ℕ) (node : Draft) → i < length nodes → node ≡ get_or nodes i node → has_twice (map (λ d. d.name) (take (i + 1) nodes)) ≡ (is_known (map (λ d. d.name) (take i nodes)) node.name || has_twice (map (λ d. d.name) (take i nodes)))
twice_more nodes i node h e =
    ap has_twice (map_more (λ (d : Draft). d.name) nodes i node h)
    ∙ twice-push (map (λ d. d.name) (take i nodes)) (get_or nodes i node).name
    ∙ ap (λ (d : Draft). is_known (map (λ d. d.name) (take i nodes)) d.name || has_twice (map (λ d. d.name) (take i nodes))) (sym e)

twice_front : (nodes : List Draft) (i : ℕ) → has_twice (map (λ d. d.name) (take i nodes)) ≡ true → has_twice (map (λ d. d.name) nodes) ≡ true
twice_front nodes i h =
    let parts : map (λ (d : Draft). d.name) nodes ≡ map (λ d. d.name) (take i nodes) ++ map (λ d. d.name) (drop i nodes) = ap (map (λ (d : Draft). d.name)) (sym (take-append-drop i nodes)) ∙ map-append (λ (d : Draft). d.name) (take i nodes) (drop i nodes) in
    ap has_twice parts ∙ twice-append (map (λ d. d.name) (take i nodes)) (map (λ d. d.name) (drop i nodes)) h

-- a name that was there before comes twice
met_before : (nodes : List Draft) (i : ℕ) (node : Draft) → i < length nodes → node ≡ get_or nodes i node → is_known (map (λ d. d.name) (take i nodes)) node.name ≡ true → has_twice (map (λ d. d.name) nodes) ≡ true
met_before nodes i node h e k =
    twice_front nodes (i + 1) (twice_more nodes i node h e ∙ ap (λ b. b || has_twice (map (λ d. d.name) (take i nodes))) k)

not_known : (nodes : List Draft) (i : ℕ) (node : Draft) (b : Bool) → i < length nodes → node ≡ get_or nodes i node → has_twice (map (λ d. d.name) nodes) ≡ false → is_known (map (λ d. d.name) (take i nodes)) node.name ≡ b → is_known (map (λ d. d.name) (take i nodes)) node.name ≡ false
not_known nodes i node false h e d k = k
not_known nodes i node true h e d k = absurd (false≢true (sym d ∙ met_before nodes i node h e k))

-- where no name comes twice, that of a declaration is new to the net of those before it
pub new_name : (known : List (List ℕ)) (nodes : List Draft) (i : ℕ) (node : Draft) (decl : NodeDecl) (net : List NodeDecl) → i < length nodes → node ≡ get_or nodes i node → has_twice (map (λ d. d.name) nodes) ≡ false → decl ≡ node_in known node → net ≡ map (node_in known) (take i nodes) → list_any (λ d. bytes_eq decl.text d.text) net ≡ false
new_name known nodes i node decl net h e d is net_is =
    let before = take i nodes in
    let at : list_any (λ d. bytes_eq node.name d.text) (map (node_in known) before) ≡ is_known (map (λ d. d.name) before) node.name =
    list_any-map (node_in known) (λ d. bytes_eq node.name d.text) before ∙ sym (list_any-map (λ (d : Draft). d.name) (bytes_eq node.name) before) in
    ap (λ (n : NodeDecl). list_any (λ d. bytes_eq n.text d.text) net) is
    ∙ ap (list_any (λ (d : NodeDecl). bytes_eq node.name d.text)) net_is
    ∙ at ∙ not_known nodes i node _ h e d refl

-- a node of a draft is formed where those of all drafts are
pub formed_at : (known : List (List ℕ)) (nodes : List Draft) (i : ℕ) (node : Draft) (decl : NodeDecl) → i < length nodes → node ≡ get_or nodes i node → list_all (λ d. is_formed (node_in known d)) nodes ≡ true → decl ≡ node_in known node → is_formed decl ≡ true
formed_at known nodes i node decl h at all is =
    ap is_formed is ∙ ap (λ (d : Draft). is_formed (node_in known d)) at ∙ passes_at _ refl
  where
    passes_at : (b : Bool) → is_formed (node_in known (get_or nodes i node)) ≡ b → is_formed (node_in known (get_or nodes i node)) ≡ true
    passes_at true at = at
    passes_at false at = absurd (false≢true (sym (list_all_at (λ (d : Draft). is_formed (node_in known d)) nodes i node h at) ∙ all))
