-- Replacing numbers for variables and full names for names keeps a tree well formed.
use Rattle.std.proofs.Common.{inl, inr, ap, refl, ℕ, ◌<◌, ◌^◌, Bool, true, false, cond, not, List, [], ◌∷◌, map, Option, Some, None, option_map, bytes_eq, arith}
use Rattle.std.proofs.lemmas.List.{length-map}
use Rattle.dn_base.proofs.Lists.{Each}
use Rattle.dn_parse.specs.Tree.{Expression, constant, variable, sum, product, minus, Expressions, no_expressions, and_expression, Part, Block, Dest, Entry, Spec, Arg, number_arg, node_arg, Declaration, node, unit, Item, declared, module_of, instance, loop, Items, no_items, and_item}
use Rattle.dn_scope.specs.Replace.{value_for_word, without_word, Naming, as_they_stand, under, Replacement, replacement_hiding, number_or, in_expression, in_expressions, in_option, in_part, prefixed_name, in_declared, word_of_name, node_by, named_or, in_reference, in_block, in_dest, in_entry, in_spec, in_arg, in_declaration, in_item, in_items}
use Rattle.dn_print.proofs.Titles.{IsFullName}
use Rattle.dn_print.proofs.Formed.{Maybe}
use Rattle.dn_print.proofs.Trees.{Small, AllSmall, GoodPart, Some1, GoodName, SmallBlock, NamedDest, NamedEntry, GoodSpec, GoodDeclaration, GoodArg, GoodItem, GoodItems, some_each}
use Rattle.dn_print.proofs.Places.{each_map}

-- what is put in for variables and for names
abbrev pub Standing : {A : Type 0} → (A → Type 0) → List (List ℕ × A) → Type 0
Standing P bs = Each (λ b. P b.1) bs

abbrev pub IsSmallNumber : ℕ → Type 0
IsSmallNumber n = n < 2 ^ 64

abbrev pub GoodNaming : Naming → Type 0
GoodNaming as_they_stand = Unit {0}
GoodNaming (under prefix nodes) = IsFullName prefix × Standing IsFullName nodes

abbrev pub GoodReplacement : Replacement → Type 0
GoodReplacement r = Standing IsSmallNumber r.numbers × GoodNaming r.naming

looked_good : {A : Type 0} (P : A → Type 0) (w : List ℕ) (bs : List (List ℕ × A)) → Standing P bs → Maybe P (value_for_word w bs)
looked_good P w [] h = tt
looked_good P w (b ∷ bs) h = go (bytes_eq w b.0) (looked_good P w bs h.1)
  where
    go : (t : Bool) → Maybe P (value_for_word w bs) → Maybe P (cond t (Some b.1) (value_for_word w bs))
    go true more = h.0
    go false more = more

without_good : {A : Type 0} (P : A → Type 0) (w : List ℕ) (bs : List (List ℕ × A)) → Standing P bs → Standing P (without_word w bs)
without_good P w [] h = tt
without_good {A} P w (b ∷ bs) h = go (not (bytes_eq w b.0)) (without_good P w bs h.1)
  where
    go : (t : Bool) → Standing P (without_word w bs) → Standing P (cond t (b ∷ without_word w bs) (without_word w bs))
    go true more = (h.0, more)
    go false more = more

hiding_good : (w : List ℕ) (r : Replacement) → GoodReplacement r → GoodReplacement (replacement_hiding w r)
hiding_good w r h = (without_good IsSmallNumber w r.numbers h.0, h.1)

some_map : {X Y : Type 0} (P : X → Type 0) (Q : Y → Type 0) (f : X → Y) (xs : List X) → ((x : X) → P x → Q (f x)) → Some1 P xs → Some1 Q (map f xs)
some_map P Q f [] k h = absurd h
some_map P Q f (x ∷ xs) k h = (k x h.0, each_map P Q f k xs h.1)

maybe_map : {X Y : Type 0} (P : X → Type 0) (Q : Y → Type 0) (f : X → Y) (o : Option X) → ((x : X) → P x → Q (f x)) → Maybe P o → Maybe Q (option_map f o)
maybe_map P Q f None k h = tt
maybe_map P Q f (Some x) k h = k x h

number_good : (w : List ℕ) (o : Option ℕ) → Maybe IsSmallNumber o → Small (number_or w o)
number_good w None h = tt
number_good w (Some n) h = h

-- expressions
mutual
  expression_kept : (ns : List (List ℕ × ℕ)) → Standing IsSmallNumber ns → (e : Expression) → Small e → Small (in_expression ns e)
  expression_kept ns g (constant n) h = h
  expression_kept ns g (variable w) h = number_good w (value_for_word w ns) (looked_good IsSmallNumber w ns g)
  expression_kept ns g (sum es) h = expressions_kept ns g es h
  expression_kept ns g (product es) h = expressions_kept ns g es h
  expression_kept ns g (minus e f) h = (expression_kept ns g e h.0, expression_kept ns g f h.1)

  expressions_kept : (ns : List (List ℕ × ℕ)) → Standing IsSmallNumber ns → (es : Expressions) → AllSmall es → AllSmall (in_expressions ns es)
  expressions_kept ns g no_expressions h = tt
  expressions_kept ns g (and_expression e es) h = (expression_kept ns g e h.0, expressions_kept ns g es h.1)

option_kept : (ns : List (List ℕ × ℕ)) → Standing IsSmallNumber ns → (o : Option Expression) → Maybe Small o → Maybe Small (in_option ns o)
option_kept ns g o h = maybe_map Small Small (in_expression ns) o (expression_kept ns g) h

-- names
part_kept : (ns : List (List ℕ × ℕ)) → Standing IsSmallNumber ns → (p : Part) → GoodPart p → GoodPart (in_part ns p)
part_kept ns g p (inl h) = inl (h.0, option_kept ns g p.index h.1)
part_kept ns g p (inr h) = inr (h.0, ap (in_option ns) h.1)

prefixed_good : (naming : Naming) (ps : List Part) → GoodNaming naming → GoodName ps → GoodName (prefixed_name naming ps)
prefixed_good as_they_stand ps g h = h
prefixed_good (under prefix nodes) ps g h = (inr (g.0, refl), some_each GoodPart ps h)

declared_kept : (r : Replacement) → GoodReplacement r → (ps : List Part) → GoodName ps → GoodName (in_declared r ps)
declared_kept r g ps h = prefixed_good r.naming (map (in_part r.numbers) ps) g.1 (some_map GoodPart GoodPart (in_part r.numbers) ps (part_kept r.numbers g.0) h)

node_good : (naming : Naming) (o : Option (List ℕ)) → GoodNaming naming → Maybe IsFullName (node_by naming o)
node_good as_they_stand None g = tt
node_good as_they_stand (Some w) g = tt
node_good (under prefix nodes) None g = tt
node_good (under prefix nodes) (Some w) g = looked_good IsFullName w nodes g.1

named_good : (o : Option (List ℕ)) (ps : List Part) → Maybe IsFullName o → GoodName ps → GoodName (named_or o ps)
named_good None ps g h = h
named_good (Some text) ps g h = (inr (g, refl), tt)

reference_kept : (r : Replacement) → GoodReplacement r → (ps : List Part) → GoodName ps → GoodName (in_reference r ps)
reference_kept r g ps h = named_good (node_by r.naming (word_of_name ps)) (in_declared r ps) (node_good r.naming (word_of_name ps) g.1) (declared_kept r g ps h)

-- declarations
block_kept : (ns : List (List ℕ × ℕ)) → Standing IsSmallNumber ns → (b : Block) → SmallBlock b → SmallBlock (in_block ns b)
block_kept ns g b h = (expression_kept ns g b.lo h.0, option_kept ns g b.hi h.1)

dest_kept : (r : Replacement) → GoodReplacement r → (d : Dest) → NamedDest d → NamedDest (in_dest r d)
dest_kept r g d h = (reference_kept r g d.name h.0, option_kept r.numbers g.0 d.addr h.1)

entry_kept : (r : Replacement) → GoodReplacement r → (e : Entry) → NamedEntry e → NamedEntry (in_entry r e)
entry_kept r g e h =
    let same = length-map e.dests (in_dest r) in
    let some = h.2 in
    let few = h.3 in
    (block_kept r.numbers g.0 e.block h.0, each_map NamedDest NamedDest (in_dest r) (dest_kept r g) e.dests h.1, omega (arith, same, some), omega (arith, same, few))

spec_kept : (r : Replacement) → GoodReplacement r → (s : Spec) → GoodSpec s → GoodSpec (in_spec r s)
spec_kept r g s h = (
  each_map SmallBlock SmallBlock (in_block r.numbers) (block_kept r.numbers g.0) s.accepts h.0,
  each_map NamedEntry NamedEntry (in_entry r) (entry_kept r g) s.entries h.1,
  maybe_map GoodName GoodName (in_reference r) s.over (reference_kept r g) h.2,
)

arg_kept : (r : Replacement) → GoodReplacement r → (a : Arg) → GoodArg a → GoodArg (in_arg r a)
arg_kept r g (number_arg e) h = expression_kept r.numbers g.0 e h
arg_kept r g (node_arg ps) h = reference_kept r g ps h

declaration_kept : (r : Replacement) → GoodReplacement r → (d : Declaration) → GoodDeclaration d → GoodDeclaration (in_declaration r d)
declaration_kept r g (node role name spec) h = (declared_kept r g name h.0, spec_kept r g spec h.1)
declaration_kept r g (unit name kind page slots reach ports) h =
    let same = length-map ports (in_reference r) in
    let some = h.3 in
    let few = h.4 in
    (declared_kept r g name h.0, h.1, each_map GoodName GoodName (in_reference r) (reference_kept r g) ports h.2, omega (arith, same, some), omega (arith, same, few))

-- statements
mutual
  item_kept : (i : Item) (r : Replacement) → GoodReplacement r → GoodItem i → GoodItem (in_item r i)
  item_kept (declared line d) r g h = declaration_kept r g d h
  item_kept (module_of line title params body) r g h = h
  item_kept (instance line title args prefix) r g h = (each_map GoodArg GoodArg (in_arg r) (arg_kept r g) args h.0, declared_kept r g prefix h.1)
  item_kept (loop line w from upto body) r g h = (expression_kept r.numbers g.0 from h.0, expression_kept r.numbers g.0 upto h.1, items_kept body (replacement_hiding w r) (hiding_good w r g) h.2)

  pub items_kept : (is : Items) (r : Replacement) → GoodReplacement r → GoodItems is → GoodItems (in_items r is)
  items_kept no_items r g h = tt
  items_kept (and_item i is) r g h = (item_kept i r g h.0, items_kept is r g h.1)
