-- What the machine of expansion still has to do, read off its stack.
use Rattle.std.specs.Prelude.{ℕ, suc, Bool, true, if◌then◌else◌, nat_lt, List, [], ◌∷◌, ◌++◌, map, reverse, drop, Option, Some, None}
use Rattle.dn_parse.specs.declared.syntax.Stmt.{Stmt}
use Rattle.dn_parse.specs.Tree.{Items, items}
use Rattle.dn_parse.specs.Views.{item_view, param_view}
use Rattle.dn_scope.specs.declared.modules.Module.{Module as CodeModule}
use Rattle.dn_scope.specs.declared.modules.Known.{Known}
use Rattle.dn_scope.specs.declared.modules.Modules.{Modules}
use Rattle.dn_scope.specs.declared.modules.Visible.{Visible}
use Rattle.dn_scope.specs.declared.modules.Visible.TheVariants.{All, First}
use Rattle.dn_scope.specs.declared.stack.Turns.{Turns}
use Rattle.dn_scope.specs.declared.stack.Rest.{Rest}
use Rattle.dn_scope.specs.declared.stack.Work.{Work as CodeWork}
use Rattle.dn_scope.specs.declared.stack.Work.TheVariants.{Statement, Turn}
use Rattle.dn_scope.specs.declared.stack.Use.{Use}
use Rattle.dn_scope.specs.declared.stack.Stack.{Stack}
use Rattle.dn_scope.specs.Uses.{Module, Visibility, outside, within_module, Work, statement, turns, statements, turn_of}
use Rattle.dn_scope.specs.Replace.{Replacement, in_item, in_items, replacement_hiding}

-- which modules a statement may use
abbrev pub visibility_view : Visible → Visibility
visibility_view All = outside
visibility_view (First count) = within_module count

-- whether a statement may use the module with this number
abbrev pub may_use : Visibility → ℕ → Bool
may_use outside number = true
may_use (within_module before) number = nat_lt number before

-- the statements of a body
abbrev pub body_view : List Stmt → Items
body_view body = items (map item_view body)

-- a module
abbrev pub module_view : CodeModule → Module
module_view m = record { title = m.title.now; params = map param_view m.params.now; body = body_view m.body.now }

-- a module that is known
abbrev pub known_view : Known → Module
known_view k = module_view k.module

-- a module that was found, with its number
abbrev pub found_view : ℕ × Known → ℕ × Module
found_view k = (k.0, known_view k.1)

-- the modules, in order
abbrev pub modules_view : Modules → List Module
modules_view ms = map known_view ms.modules.items

-- the body of a loop with what is replaced round it
abbrev pub loop_body : Replacement → Turns → Items
loop_body r t = in_items (replacement_hiding t.variable.now r) (body_view t.body.now)

-- the turns of a loop
abbrev pub turns_view : Visibility → Replacement → Turns → Work
turns_view s r t = turns s t.line t.variable.now t.next t.last (loop_body r t)

-- the turns that are left, where there are any
abbrev pub turns_works : Visibility → Replacement → Option Turns → List Work
turns_works s r None = []
turns_works s r (Some t) = turns_view s r t ∷ []

-- the turns after the next one
abbrev pub after_works : Visibility → Replacement → Turns → List Work
after_works s r t = if nat_lt t.next t.last then turns s t.line t.variable.now (suc t.next) t.last (loop_body r t) ∷ [] else []

-- what the next turn becomes
abbrev pub turn_works : Visibility → Replacement → Turns → List Work
turn_works s r t = turn_of s t.line t.variable.now t.next t.last (loop_body r t)

-- what is next
abbrev pub work_view : Visibility → Replacement → CodeWork → Work
work_view s r (Statement i) = statement s (in_item r (item_view i.now))
work_view s r (Turn t) = turns_view s r t

-- what is left of a body
abbrev pub rest_works : Visibility → Replacement → Rest → List Work
rest_works s r b = turns_works s r b.turns ++ statements s (in_items r (body_view b.statements.now))

-- a body from its first
abbrev pub first_works : Visibility → Replacement → Option (CodeWork × Rest) → List Work
first_works s r None = []
first_works s r (Some f) = work_view s r f.0 ∷ rest_works s r f.1

-- outside of the innermost loop
abbrev pub outside_of : Replacement → Replacement
outside_of r = record { numbers = drop 1 r.numbers; naming = r.naming }

-- bodies in one another, the innermost first
abbrev pub bodies_works : Visibility → Replacement → List Rest → List Work
bodies_works s r [] = []
bodies_works s r (b ∷ bs) = rest_works s r b ++ bodies_works s (outside_of r) bs

-- what is left of a use
abbrev pub use_view : Use → List Work
use_view u = bodies_works (visibility_view u.visible) u.scope (u.inner ∷ reverse u.outer.items)

-- uses in one another, the innermost first
abbrev pub uses_view : List Use → List Work
uses_view [] = []
uses_view (u ∷ us) = use_view u ++ uses_view us

-- all that is left
abbrev pub stack_view : Stack → List Work
stack_view st = uses_view (st.inner ∷ reverse st.outer.items)
