-- Where nothing is replaced, a tree stays as it is.
use Rattle.std.proofs.Common.{◌≡◌, ap, refl, List, [], ◌∷◌, map, Option, None, Some, option_map}
use Rattle.dn_parse.specs.Tree.{Part, Block, Dest, Entry, Spec, Arg, number_arg, node_arg, Declaration, node, unit, Item, declared, module_of, instance, loop, Items, no_items, and_item}
use Rattle.dn_scope.specs.Replace.{in_part, in_reference, in_block, in_dest, in_entry, in_spec, in_arg, in_declaration, in_item, in_items}
use Rattle.dn_scope.proofs.Outside.{nothing_replaced, expression_stays, index_stays, parts_stay}

map_same : {X : Type 0} (f : X → X) → ((x : X) → f x ≡ x) → (xs : List X) → map f xs ≡ xs
map_same f same [] = refl
map_same f same (x ∷ xs) = λ i. same x i ∷ map_same f same xs i

option_same : {X : Type 0} (f : X → X) → ((x : X) → f x ≡ x) → (o : Option X) → option_map f o ≡ o
option_same f same None = refl
option_same f same (Some x) = ap (λ y. Some y) (same x)

part_same : (p : Part) → in_part [] p ≡ p
part_same p = λ i. record { title = p.title; index = index_stays p.index i }

block_same : (b : Block) → in_block [] b ≡ b
block_same b = λ i. record { lo = expression_stays b.lo i; hi = index_stays b.hi i }

dest_same : (d : Dest) → in_dest nothing_replaced d ≡ d
dest_same d = λ i. record { name = parts_stay d.name i; addr = index_stays d.addr i }

entry_same : (e : Entry) → in_entry nothing_replaced e ≡ e
entry_same e = λ i. record { block = block_same e.block i; dests = map_same (in_dest nothing_replaced) dest_same e.dests i }

spec_same : (s : Spec) → in_spec nothing_replaced s ≡ s
spec_same s = λ i. record {
  accepts = map_same (in_block []) block_same s.accepts i;
  entries = map_same (in_entry nothing_replaced) entry_same s.entries i;
  over = option_same (in_reference nothing_replaced) parts_stay s.over i;
}

arg_same : (a : Arg) → in_arg nothing_replaced a ≡ a
arg_same (number_arg e) = ap number_arg (expression_stays e)
arg_same (node_arg ps) = ap node_arg (parts_stay ps)

declaration_same : (d : Declaration) → in_declaration nothing_replaced d ≡ d
declaration_same (node role name spec) = λ i. node role (parts_stay name i) (spec_same spec i)
declaration_same (unit name kind page slots reach ports) = λ i. unit (parts_stay name i) kind (expression_stays page i) (expression_stays slots i) (expression_stays reach i) (map_same (in_reference nothing_replaced) parts_stay ports i)

mutual
  item_same : (i : Item) → in_item nothing_replaced i ≡ i
  item_same (declared line d) = ap (declared line) (declaration_same d)
  item_same (module_of line title params body) = refl
  item_same (instance line title args text) = λ i. instance line title (map_same (in_arg nothing_replaced) arg_same args i) (parts_stay text i)
  item_same (loop line w from upto body) = λ i. loop line w (expression_stays from i) (expression_stays upto i) (items_same body i)

  pub items_same : (is : Items) → in_items nothing_replaced is ≡ is
  items_same no_items = refl
  items_same (and_item i is) = λ j. and_item (item_same i j) (items_same is j)
