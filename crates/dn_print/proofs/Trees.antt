-- Trees whose numbers fit in 64 bits and whose names are of words that are not reserved, or of full names.
use Rattle.std.proofs.Common.{◌≡◌, ◌⊎◌, ◌<◌, ◌≤◌, ◌^◌, List, [], ◌∷◌, length, None}
use Rattle.dn_base.proofs.Lists.{Each}
use Rattle.dn_parse.specs.Tree.{Expression, constant, variable, sum, product, minus, Expressions, no_expressions, and_expression, Part, Block, Dest, Entry, Spec, Arg, number_arg, node_arg, Declaration, node, unit, Statement, declares, heads_module, uses, heads_loop, ends, begins, orders, Item, declared, module_of, instance, loop, Items, no_items, and_item}
use Rattle.dn_print.proofs.Titles.{Title, IsFullName}
use Rattle.dn_print.proofs.Words.{IsWord}
use Rattle.dn_print.proofs.Formed.{Maybe}

abbrev mutual
  pub Small : Expression → Type 0
  Small (constant n) = n < 2 ^ 64
  Small (variable w) = Unit {0}
  Small (sum es) = AllSmall es
  Small (product es) = AllSmall es
  Small (minus e f) = Small e × Small f

  pub AllSmall : Expressions → Type 0
  AllSmall no_expressions = Unit {0}
  AllSmall (and_expression e es) = Small e × AllSmall es

-- a word with an index or without, or a full name
abbrev pub GoodPart : Part → Type 0
GoodPart p = (Title p.title × Maybe Small p.index) ⊎ (IsFullName p.title × (p.index ≡ None))

-- one or more
abbrev pub Some1 : {X : Type 0} → (X → Type 0) → List X → Type 0
Some1 P [] = ⊥
Some1 P (x ∷ xs) = P x × Each P xs

pub some_each : {X : Type 0} (P : X → Type 0) (xs : List X) → Some1 P xs → Each P xs
some_each P [] h = tt
some_each P (x ∷ xs) h = h

abbrev pub GoodName : List Part → Type 0
GoodName ps = Some1 GoodPart ps

abbrev pub SmallBlock : Block → Type 0
SmallBlock b = Small b.lo × Maybe Small b.hi

abbrev pub NamedDest : Dest → Type 0
NamedDest d = GoodName d.name × Maybe Small d.addr

abbrev pub NamedEntry : Entry → Type 0
NamedEntry e = SmallBlock e.block × Each NamedDest e.dests × (1 ≤ length e.dests) × (length e.dests ≤ 8)

abbrev pub GoodSpec : Spec → Type 0
GoodSpec s = Each SmallBlock s.accepts × Each NamedEntry s.entries × Maybe GoodName s.over

abbrev pub GoodDeclaration : Declaration → Type 0
GoodDeclaration (node role name spec) = GoodName name × GoodSpec spec
GoodDeclaration (unit name kind page slots reach ports) = GoodName name × IsWord kind × Each GoodName ports × (1 ≤ length ports) × (length ports ≤ 8)

abbrev pub GoodArg : Arg → Type 0
GoodArg (number_arg e) = Small e
GoodArg (node_arg n) = GoodName n

abbrev pub GoodStatement : Statement → Type 0
GoodStatement (declares d) = GoodDeclaration d
GoodStatement (heads_module w ps) = Unit {0}
GoodStatement (uses w xs n) = Each GoodArg xs × GoodName n
GoodStatement (heads_loop w from upto) = Small from × Small upto
GoodStatement ends = Unit {0}
GoodStatement begins = Unit {0}
GoodStatement (orders o) = Unit {0}

abbrev mutual
  pub GoodItem : Item → Type 0
  GoodItem (declared line d) = GoodDeclaration d
  GoodItem (module_of line w ps body) = GoodItems body
  GoodItem (instance line w xs n) = Each GoodArg xs × GoodName n
  GoodItem (loop line w from upto body) = Small from × Small upto × GoodItems body

  pub GoodItems : Items → Type 0
  GoodItems no_items = Unit {0}
  GoodItems (and_item i is) = GoodItem i × GoodItems is
