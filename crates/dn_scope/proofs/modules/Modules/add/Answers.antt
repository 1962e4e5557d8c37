use Rattle.std.proofs.Common.{◌∙◌, sym, ap, arith, map, ◌||◌, is_some, [], ◌∷◌, ◌++◌, Ok}
use Rattle.std.proofs.lemmas.List.{map-append}
use Rattle.dn_scope.specs.declared.modules.Known.{Known}
use Rattle.dn_scope.specs.Uses.{has_twice, word_of_param}
use Rattle.dn_scope.specs.Stack.{module_view, known_view, modules_view}
use Rattle.dn_base.proofs.Lists.{length-last}
use Rattle.dn_scope.proofs.Known.{found_is}
use Rattle.dn_scope.proofs.Naming.{module_room, module_known, module_twice, module_added, by_answer, is_once}
use Rattle.dn_scope.proofs.modules.Modules.add.Goals as goal

pub returns-then-is_some-clause-added : goal.returns-then-is_some-clause-added
returns-then-is_some-clause-added c =
    let self = c.args.self.now in
    let m = module_view c.args.module in
    module_twice (modules_view self) c.args.line m (module_room self.modules.items (omega arith))
    (ap (λ b. b || has_twice (map word_of_param m.params)) (module_known self.names self.modules.items m.title c.find.result self.same c.find.ensures ∙ sym c.is_some.ensures ∙ c.if-is_some.true))

pub put-requires-clause-new_name : goal.put-requires-clause-new_name
put-requires-clause-new_name c =
    found_is c.args.self.now.names c.args.module.title.now c.find.result c.find.ensures ∙ sym c.is_some.ensures ∙ c.if-is_some.false

pub invariant_of-self : goal.invariant_of-self
invariant_of-self c =
    let self = c.args.self.now in
    let ms = self.modules.items in
    by_answer c.put.result c.put.ensures.names c.put.ensures.modules c.put.ensures.names_err c.put.ensures.modules_err
    (λ names modules. record {
      same = names ∙ ap (λ l. l ++ c.args.module.title.now ∷ []) self.same ∙ sym (map-append (λ (n : Known). n.module.title.now) ms (_ ∷ [])) ∙ ap (map (λ (n : Known). n.module.title.now)) (sym modules);
      few = rw modules (rw (length-last ms _) (omega arith));
    })
    (λ names modules. record {
      same = names ∙ self.same ∙ ap (map (λ (n : Known). n.module.title.now)) (sym modules);
      few = rw modules self.few;
    })

pub returns-clause-added : goal.returns-clause-added
returns-clause-added c =
    let self = c.args.self.now in
    let m = module_view c.args.module in
    let different = is_once (has_twice (map word_of_param m.params)) (ap (λ o. is_some o) (sym c.in-Some.is) ∙ c.in_ok-titles.ensures.different) in
    module_added (modules_view self) c.args.line m (module_room self.modules.items (omega arith))
    (ap (λ b. b || has_twice (map word_of_param m.params)) (module_known self.names self.modules.items m.title c.find.result self.same c.find.ensures ∙ sym c.is_some.ensures ∙ c.if-is_some.false) ∙ different)
    ∙ ap (λ l. Ok l) (sym (map-append known_view self.modules.items (_ ∷ [])) ∙ ap (map known_view) (sym c.in_ok-put.ensures.modules))
