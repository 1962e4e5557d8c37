use Rattle.std.proofs.Common.{rules, ◌≡◌, ◌∙◌, ap, sym, subst, ℕ, List, length, IsTrue}
use Rattle.std.specs.List.{list_all}
use Rattle.dn_parse.specs.Script.{script_view}
use Rattle.dn_module.specs.declared.command.Command.{Command}
use Rattle.dn_module.specs.Commands.{commands_of, commands_or_none, names_within}
use Rattle.dn_module.proofs.Gathers.{all_within}
use Rattle.dn_module.proofs.expand.finish.Goals as goal

pub invariant_of-result : goal.invariant_of-result
invariant_of-result c =
    let known = c.names.result.now in
    let same : ◌≡◌ {A = List (List ℕ)} c.into_names.result known = search rules in
    let made : commands_or_none (commands_of known (script_view c.args.asked)) ≡ c.new-commands.result = ap commands_or_none (ap (λ n. commands_of n (script_view c.args.asked)) (sym same) ∙ c.new-commands.ensures) in
    let count : length c.in_ok-net.net ≡ length known = search rules in
    record {
      closed = c.in_ok-net.ensures.closed;
      known = subst (λ (n : ℕ). IsTrue (list_all (names_within n) c.new-commands.result)) (sym count) (subst (λ (cs : List Command). IsTrue (list_all (names_within (length known)) cs)) made (all_within (length known) known c.args.asked c.in_ok-check_commands.ensures.known));
    }
