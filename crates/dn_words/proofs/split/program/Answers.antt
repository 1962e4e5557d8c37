use Rattle.std.proofs.Common.{◌≡◌, ◌∙◌, ap, ap₂, rules, true, codes}
use Rattle.std.proofs.lemmas.Result.{IfOk-weaker}
use Rattle.clap.specs.Words.{App, app_of, new_app, rule_of, with_rule}
use Rattle.clap.specs.Simple.{app_of_fields}
use Rattle.dn_words.specs.Split.{bare_program, command_rule, number_rule}
use Rattle.dn_words.proofs.split.program.Goals as goal

pub returns : goal.returns
returns c =
    let command_is : rule_of c.required-command.result ≡ command_rule = search rules in
    let number_is : rule_of c.new-number.result ≡ number_rule = search rules in
    let named_is : app_of c.new-2.result ≡ new_app (codes "netconf") = c.new-2.ensures.app in
    let bare_is : app_of c.disable_help_flag.result ≡ bare_program =
    ap app_of_fields c.disable_help_flag.ensures
    ∙ ap (λ (a : App). record a { top = record a.top { disable_help_flag = true } }) (ap app_of_fields c.no_binary_name.ensures
    ∙ ap (λ (a : App). record a { top = record a.top { no_binary_name = true } }) named_is) in
    let one_is : app_of c.in_ok-arg.field-0 ≡ with_rule bare_program command_rule = c.in_ok-arg.ensures.shape (search rules) ∙ ap₂ with_rule bare_is command_is in
    IfOk-weaker c.arg-2.result _ _ (λ r added. added.shape (search rules) ∙ ap₂ with_rule one_is number_is) c.arg-2.ensures
