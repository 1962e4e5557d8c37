-- The nodes to which a platform refers are there.
use Rattle.std.proofs.Common.{◌≡◌, ◌∙◌, ap, sym, refl, ℕ, nat_lt, List, [], ◌∷◌, map, true, length, Option, None, Some, option_map, ◌&&◌}
use Rattle.std.proofs.lemmas.List.{length-map}
use Rattle.std.specs.List.{list_all}
use Rattle.std.specs.Str.{bytes_eq}
use Rattle.dn_net.specs.declared.node.NodeDecl.{NodeDecl}
use Rattle.dn_net.specs.Decode.{refers_within, over_within, ports_within, is_closed}
use Rattle.dn_module.specs.declared.draft.Draft.{Draft}
use Rattle.dn_module.specs.declared.draft.DraftEntry.{DraftEntry}
use Rattle.dn_module.specs.declared.draft.DraftDest.{DraftDest}
use Rattle.dn_module.specs.declared.draft.DraftUnit.{DraftUnit}
use Rattle.dn_scope.specs.Numbered.{is_known}
use Rattle.dn_module.specs.Drafts.{node_number_of, dest_in, entry_in, unit_by_numbers, node_in, dests_known, over_known, ports_known, refers_to_known}
use Rattle.dn_module.specs.Commands.{names_within}
use Rattle.dn_module.specs.declared.command.Command.{Command}
use Rattle.dn_base.proofs.Lists.{prefix_len-any}

known_below : (known : List (List ℕ)) (text : List ℕ) → nat_lt (node_number_of known text) (length known) ≡ is_known known text
known_below known text = prefix_len-any (bytes_eq text) known

dests_within : (known : List (List ℕ)) (ds : List DraftDest) → list_all (λ d. nat_lt d.node (length known)) (map (dest_in known) ds) ≡ dests_known known ds
dests_within known [] = refl
dests_within known (d ∷ ds) =
    ap (λ b. b && list_all (λ d. nat_lt d.node (length known)) (map (dest_in known) ds)) (known_below known d.to)
    ∙ ap (λ b. is_known known d.to && b) (dests_within known ds)

entries_within : (known : List (List ℕ)) (es : List DraftEntry) → list_all (λ e. list_all (λ d. nat_lt d.node (length known)) e.dests) (map (entry_in known) es) ≡ list_all (λ e. dests_known known e.dests) es
entries_within known [] = refl
entries_within known (e ∷ es) =
    ap (λ b. b && list_all (λ e. list_all (λ d. nat_lt d.node (length known)) e.dests) (map (entry_in known) es)) (dests_within known e.dests)
    ∙ ap (λ b. dests_known known e.dests && b) (entries_within known es)

over_is_within : (known : List (List ℕ)) (over : Option (List ℕ)) → over_within (length known) (option_map (node_number_of known) over) ≡ over_known known over
over_is_within known None = refl
over_is_within known (Some text) = known_below known text

numbers_within : (known ts : List (List ℕ)) → list_all (λ p. nat_lt p (length known)) (map (node_number_of known) ts) ≡ list_all (is_known known) ts
numbers_within known [] = refl
numbers_within known (t ∷ ts) =
    ap (λ b. b && list_all (λ p. nat_lt p (length known)) (map (node_number_of known) ts)) (known_below known t)
    ∙ ap (λ b. is_known known t && b) (numbers_within known ts)

ports_are_within : (known : List (List ℕ)) (unit : Option DraftUnit) → ports_within (length known) (option_map (unit_by_numbers known) unit) ≡ ports_known known unit
ports_are_within known None = refl
ports_are_within known (Some u) = numbers_within known u.ports

refers : (known : List (List ℕ)) (d : Draft) → refers_within (length known) (node_in known d) ≡ refers_to_known known d
refers known d = λ i. entries_within known d.entries i && (over_is_within known d.over i && ports_are_within known d.unit i)

all_refer : (known : List (List ℕ)) (nodes : List Draft) → list_all (refers_within (length known)) (map (node_in known) nodes) ≡ list_all (refers_to_known known) nodes
all_refer known [] = refl
all_refer known (d ∷ nodes) =
    ap (λ b. b && list_all (refers_within (length known)) (map (node_in known) nodes)) (refers known d)
    ∙ ap (λ b. refers_to_known known d && b) (all_refer known nodes)

-- the numbers of the names are those of the nodes
pub net_length : (known : List (List ℕ)) (nodes : List Draft) (net : List NodeDecl) → known ≡ map (λ d. d.name) nodes → net ≡ map (node_in known) nodes → length net ≡ length known
net_length known nodes net k n = ap length n ∙ length-map nodes (node_in known) ∙ sym (ap length k ∙ length-map nodes (λ (d : Draft). d.name))

pub closed : (known : List (List ℕ)) (nodes : List Draft) (net : List NodeDecl) → known ≡ map (λ d. d.name) nodes → net ≡ map (node_in known) nodes → list_all (refers_to_known known) nodes ≡ true → is_closed net ≡ true
closed known nodes net k n h =
    ap (λ count. list_all (refers_within count) net) (net_length known nodes net k n)
    ∙ ap (list_all (refers_within (length known))) n
    ∙ all_refer known nodes ∙ h

-- where the commands name only nodes of the names, they name only nodes of the net
pub known_nodes : (known : List (List ℕ)) (nodes : List Draft) (net : List NodeDecl) (commands : List Command) → known ≡ map (λ d. d.name) nodes → net ≡ map (node_in known) nodes → list_all (names_within (length known)) commands ≡ true → list_all (names_within (length net)) commands ≡ true
known_nodes known nodes net commands k n c =
    ap (λ count. list_all (names_within count) commands) (net_length known nodes net k n) ∙ c
