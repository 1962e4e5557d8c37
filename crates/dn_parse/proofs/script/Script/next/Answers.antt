use Rattle.std.proofs.Common.{rules, ◌≡◌, ◌∙◌, ap, sym, subst, IsTrue, ℕ, ◌<◌, List, Some, None, arith}
use Rattle.std.proofs.lemmas.Bool.{and_parts}
use Rattle.dn_token.specs.Token.{Token}
use Rattle.dn_token.specs.Cursor.{cursor_view}
use Rattle.dn_parse.specs.Tree.{Command}
use Rattle.dn_parse.specs.Whole.{first_line}
use Rattle.dn_parse.specs.Views.{command_view}
use Rattle.dn_parse.specs.Commands.{commands_from, next_command}
use Rattle.dn_parse.specs.Plain.{is_plain_order, are_plain}
use Rattle.dn_parse.specs.Script.{script_view}
use Rattle.dn_parse.proofs.Scripts.{no_line, answered_is, stands, memory_alone, others, front_is}
use Rattle.dn_parse.proofs.script.Script.next.Goals as goal

pub returns-then-self-eq0 : goal.returns-then-self-eq0
unfolding script_view commands_from
returns-then-self-eq0 c = ap (λ (n : ℕ). commands_from n (cursor_view c.args.self.first)) c.if-self-eq0.true

pub unreachable-requires : goal.unreachable-requires
unreachable-requires c =
    let some : 0 < c.args.self.count = omega (arith, c.if-self-eq0.false) in
    let none : first_line (cursor_view c.args.self.first) ≡ None = sym c.first_line.ensures ∙ c.in_default.is in
    stands c.args.self.count (cursor_view c.args.self.first) some c.args.self.read (no_line (cursor_view c.args.self.first) none)

pub invariant_of-result : goal.invariant_of-result
invariant_of-result c =
    let some : 0 < c.args.self.count = omega (arith, c.if-self-eq0.false) in
    let p : Command × List Token = (command_view c.in-Ok-Some.command, cursor_view c.command.new.tokens) in
    let next : next_command (cursor_view c.args.self.first) ≡ Some p = answered_is _ c.in-Some.line c.in-Ok-Some.field-0 (Some c.in-Ok-Some.command) (cursor_view c.command.new.tokens) (sym c.first_line.ensures ∙ c.in-Some.is) c.in-Ok-Some.ensures.gives (search rules) in
    let front = front_is c.args.self.count (cursor_view c.args.self.first) p some next in
    record {
      read = others c.args.self.count (cursor_view c.args.self.first) p some c.args.self.read next;
      known = λ h. (and_parts (is_plain_order p.0.order) _ (subst (λ (cs : List Command). IsTrue (are_plain cs)) front (c.args.self.known h))).1;
    }

pub returns-in-Ok-Some : goal.returns-in-Ok-Some
unfolding script_view
returns-in-Ok-Some c =
    let some : 0 < c.args.self.count = omega (arith, c.if-self-eq0.false) in
    let p : Command × List Token = (command_view c.in-Ok-Some.command, cursor_view c.command.new.tokens) in
    let next : next_command (cursor_view c.args.self.first) ≡ Some p = answered_is _ c.in-Some.line c.in-Ok-Some.field-0 (Some c.in-Ok-Some.command) (cursor_view c.command.new.tokens) (sym c.first_line.ensures ∙ c.in-Some.is) c.in-Ok-Some.ensures.gives (search rules) in
    front_is c.args.self.count (cursor_view c.args.self.first) p some next

pub unreachable-requires-in-Ok-None : goal.unreachable-requires-in-Ok-None
unreachable-requires-in-Ok-None c =
    let some : 0 < c.args.self.count = omega (arith, c.if-self-eq0.false) in
    let none : next_command (cursor_view c.args.self.first) ≡ None = answered_is _ c.in-Some.line c.in-Ok-None.field-0 None (cursor_view c.command.new.tokens) (sym c.first_line.ensures ∙ c.in-Some.is) c.in-Ok-None.ensures.gives (search rules) in
    stands c.args.self.count (cursor_view c.args.self.first) some c.args.self.read none

pub unreachable-requires-in_default-halt : goal.unreachable-requires-in_default-halt
unreachable-requires-in_default-halt c =
    let some : 0 < c.args.self.count = omega (arith, c.if-self-eq0.false) in
    let line : first_line (cursor_view c.args.self.first) ≡ Some c.in-Some.line = sym c.first_line.ensures ∙ c.in-Some.is in
    c.in_default-halt.not-OutOfMemory (memory_alone c.args.self.count (cursor_view c.args.self.first) c.in-Some.line c.in-Err.halt some c.args.self.read line c.in-Err.ensures.gives)
