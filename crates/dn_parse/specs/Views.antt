-- The tree that the code's tree is.
use Rattle.std.specs.Prelude.{List, [], map, reverse, Option, None, Some, option_map}
use Rattle.std.specs.Global.{Box}
use Rattle.dn_parse.specs.declared.syntax.Expr.{Expr}
use Rattle.dn_parse.specs.declared.syntax.Expr.TheOpen.{Expr-F, Number, Variable, Sum, Product, Minus}
use Rattle.dn_parse.specs.declared.syntax.Expr.TheFolds.{fold-Expr}
use Rattle.dn_parse.specs.declared.syntax.PartExpr.{PartExpr}
use Rattle.dn_parse.specs.declared.syntax.BlockExpr.{BlockExpr}
use Rattle.dn_parse.specs.declared.syntax.DestExpr.{DestExpr}
use Rattle.dn_parse.specs.declared.syntax.EntryExpr.{EntryExpr}
use Rattle.dn_parse.specs.declared.syntax.Spec.{Spec as CodeSpec}
use Rattle.dn_parse.specs.declared.syntax.UnitExpr.{UnitExpr}
use Rattle.dn_parse.specs.declared.syntax.GrantExpr.{GrantExpr}
use Rattle.dn_parse.specs.declared.syntax.RouteExpr.{RouteExpr}
use Rattle.dn_parse.specs.declared.syntax.PieceExpr.{PieceExpr}
use Rattle.dn_parse.specs.declared.syntax.Param.{Param as CodeParam}
use Rattle.dn_parse.specs.declared.syntax.Param.TheVariants.{Num as NumParam, Node as NodeParam}
use Rattle.dn_parse.specs.declared.syntax.Arg.{Arg as CodeArg}
use Rattle.dn_parse.specs.declared.syntax.Arg.TheVariants.{Num as NumArg, Node as NodeArg}
use Rattle.dn_parse.specs.declared.syntax.DeclRole.{DeclRole}
use Rattle.dn_parse.specs.declared.syntax.DeclRole.TheVariants.{Plain, Agent, Vectors}
use Rattle.dn_parse.specs.declared.syntax.Decl.{Decl as CodeDeclaration}
use Rattle.dn_parse.specs.declared.syntax.Decl.TheVariants.{Node, Unit as UnitCase}
use Rattle.dn_parse.specs.declared.syntax.Order.{Order as CodeOrder}
use Rattle.dn_parse.specs.declared.syntax.Order.TheVariants.{Resolve, Lookup, View, Grant, Route, Revoke, Dump, Split, Absorb, Radix, Gather}
use Rattle.dn_parse.specs.declared.statements.Statement.{Statement as CodeStatement}
use Rattle.dn_parse.specs.declared.statements.Statement.TheVariants.{Decl as DeclCase, Module as ModuleCase, Instance as InstanceCase, Loop as LoopCase, End as EndCase, Begin as BeginCase, Order as OrderCase}
use Rattle.dn_parse.specs.declared.syntax.Stmt.{Stmt}
use Rattle.dn_parse.specs.declared.syntax.Stmt.TheOpen.{Stmt-F, Decl as StmtDecl, Module as StmtModule, Instance as StmtInstance, Loop as StmtLoop}
use Rattle.dn_parse.specs.declared.syntax.Stmt.TheFolds.{fold-Stmt}
use Rattle.dn_parse.specs.declared.syntax.Cmd.{Cmd as CodeCommand}
use Rattle.dn_parse.specs.declared.syntax.Tree.{Tree as CodeTree}
use Rattle.dn_parse.specs.Script.{script_view}
use Rattle.dn_parse.specs.declared.blocks.Opener.{Opener as CodeOpener}
use Rattle.dn_parse.specs.declared.blocks.Opener.TheVariants.{Module as OpenerModule, Loop as OpenerLoop}
use Rattle.dn_parse.specs.declared.blocks.Frame.{Frame as CodeFrame}
use Rattle.dn_parse.specs.declared.blocks.Blocks.{Blocks as CodeBlocks}
use Rattle.dn_parse.specs.Whole.{Opener, opens_module, opens_loop, Frame, Blocks}
use Rattle.dn_parse.specs.Tree.{Expression, constant, variable, sum, product, minus, expressions, Part, Block, Dest, Entry, Role, plain_role, agent_role, vectors_role, Spec, Param, number_param, node_param, Arg, number_arg, node_arg, Declaration, node, unit, Order, resolve, lookup, view, grant, route, revoke, dump, split, absorb, radix, gather, Piece, Statement, declares, heads_module, uses, heads_loop, ends, begins, orders, Item, declared, module_of, instance, loop, items, Command, Tree}

-- one level of an expression, with its parts in their places
abbrev pub expr_step : Expr-F Expression → Expression
expr_step (Number n) = constant n
expr_step (Variable t) = variable t.now
expr_step (Sum v) = sum (expressions v.items)
expr_step (Product v) = product (expressions v.items)
expr_step (Minus a b) = minus a.value b.value

-- an expression
abbrev pub expr_view : Expr → Expression
expr_view = fold-Expr Expression expr_step

-- an expression that may be left out
abbrev pub maybe_expr_view : Option Expr → Option Expression
maybe_expr_view o = option_map expr_view o

-- an index that may be left out
abbrev pub index_view : Option (Box Expr) → Option Expression
index_view o = option_map (λ b. expr_view b.value) o

-- a part of a name
abbrev pub part_view : PartExpr → Part
part_view p = record { title = p.title.now; index = index_view p.index }

-- a name
abbrev pub name_view : List PartExpr → List Part
name_view ps = map part_view ps

-- a block
abbrev pub block_view : BlockExpr → Block
block_view b = record { lo = expr_view b.lo; hi = maybe_expr_view b.hi }

-- a destination
abbrev pub dest_view : DestExpr → Dest
dest_view d = record { name = name_view d.name; addr = maybe_expr_view d.addr }

-- a map entry
abbrev pub entry_view : EntryExpr → Entry
entry_view m = record { block = block_view m.block; dests = map dest_view m.dests }

-- a name that may be left out
abbrev pub maybe_name_view : Option (List PartExpr) → Option (List Part)
maybe_name_view o = option_map name_view o

-- the parts of a node, of which there may be none
abbrev pub spec_view : Option (Box CodeSpec) → Spec
spec_view None = record { accepts = []; entries = []; over = None }
spec_view (Some s) = record { accepts = map block_view s.value.accepts; entries = map entry_view s.value.entries; over = maybe_name_view s.value.over }

-- a parameter of a module
abbrev pub param_view : CodeParam → Param
param_view (NumParam w) = number_param w.now
param_view (NodeParam w) = node_param w.now

-- an argument of a use
abbrev pub arg_view : CodeArg → Arg
arg_view (NumArg e) = number_arg (expr_view e)
arg_view (NodeArg n) = node_arg (name_view n)

-- what a node is declared as
abbrev pub role_view : DeclRole → Role
role_view Plain = plain_role
role_view Agent = agent_role
role_view Vectors = vectors_role

-- a unit
abbrev pub unit_view : UnitExpr → Declaration
unit_view u = unit (name_view u.name) u.kind.now (expr_view u.page) (expr_view u.slots) (expr_view u.reach) (map name_view u.ports)

-- a declaration
abbrev pub declaration_view : CodeDeclaration → Declaration
declaration_view (Node role name spec) = node (role_view role) (name_view name) (spec_view spec)
declaration_view (UnitCase u) = unit_view u.value

-- what a grant asks for
abbrev pub grant_view : GrantExpr → Order
grant_view g = grant g.id.now (name_view g.agent) (name_view g.node) (expr_view g.base) (expr_view g.size) g.mode

-- what a route asks for
abbrev pub route_view : RouteExpr → Order
route_view r = route r.id.now (name_view r.agent) (expr_view r.line) (name_view r.node)

-- a piece that a gather asks for
abbrev pub piece_view : PieceExpr → Piece
piece_view p = record { id = p.id.now; node = name_view p.node; base = expr_view p.base; size = expr_view p.size }

-- what a command asks for
abbrev pub order_view : CodeOrder → Order
order_view (Resolve n e m) = resolve (name_view n) (expr_view e) m
order_view (Lookup n e m) = lookup (name_view n) (expr_view e) m
order_view (View n m) = view (name_view n) m
order_view (Grant g) = grant_view g.value
order_view (Route r) = route_view r.value
order_view (Revoke w) = revoke w.now
order_view Dump = dump
order_view Split = split
order_view (Absorb n) = absorb (name_view n)
order_view (Radix n e) = radix (name_view n) (expr_view e)
order_view (Gather a ps m) = gather (name_view a) (map piece_view ps) m

-- one statement
abbrev pub statement_view : CodeStatement → Statement
statement_view (DeclCase d) = declares (declaration_view d)
statement_view (ModuleCase w ps) = heads_module w.now (map param_view ps)
statement_view (InstanceCase w xs n) = uses w.now (map arg_view xs) (name_view n.value)
statement_view (LoopCase w from upto) = heads_loop w.now (expr_view from) (expr_view upto)
statement_view EndCase = ends
statement_view BeginCase = begins
statement_view (OrderCase o) = orders (order_view o)

-- one level of a statement of the tree, with the statements in it in their places
abbrev pub stmt_step : Stmt-F Item → Item
stmt_step (StmtDecl line d) = declared line (declaration_view d)
stmt_step (StmtModule line w ps body) = module_of line w.now (map param_view ps) (items body.items)
stmt_step (StmtInstance line w xs n) = instance line w.now (map arg_view xs) (name_view n.value)
stmt_step (StmtLoop line w from upto body) = loop line w.now (expr_view from.value) (expr_view upto.value) (items body.items)

-- a statement of the tree
abbrev pub item_view : Stmt → Item
item_view = fold-Stmt Item stmt_step

-- a command, with its line
abbrev pub command_view : CodeCommand → Command
command_view c = record { line = c.line; order = order_view c.order }

-- the tree of a text
abbrev pub tree_view : CodeTree → Tree
tree_view s = record { body = items (map item_view s.body.items); commands = script_view s.commands }

-- the open blocks: the code keeps the innermost last
abbrev pub opener_view : CodeOpener → Opener
opener_view (OpenerModule w ps) = opens_module w.now (map param_view ps)
opener_view (OpenerLoop w from upto) = opens_loop w.now (expr_view from) (expr_view upto)

-- an open block
abbrev pub frame_view : CodeFrame → Frame
frame_view f = record { line = f.line; opener = opener_view f.opener; before = map item_view f.before.items }

-- the blocks before the commands, of which the code keeps the innermost last
abbrev pub blocks_view : CodeBlocks → Blocks
blocks_view b = record { frames = reverse (map frame_view b.frames.items); body = map item_view b.body.items; begun = b.begun; commands = [] }
