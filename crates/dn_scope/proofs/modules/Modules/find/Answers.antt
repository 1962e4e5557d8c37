use Rattle.std.proofs.Common.{◌≡◌, ◌∙◌, sym, ap, refl, position, slice_get, option_map, Some}
use Rattle.std.proofs.lemmas.Option.{slice_get-map, slice_get_read}
use Rattle.std.proofs.lemmas.Bool.{ltb-true}
use Rattle.std.specs.Str.{bytes_eq}
use Rattle.dn_scope.specs.Stack.{visibility_view, known_view, modules_view}
use Rattle.dn_scope.proofs.Naming.{no_module, hidden_module, found_module, titles_are}
use Rattle.dn_scope.proofs.modules.Modules.find.Goals as goal

pub returns-in_err-number : goal.returns-in_err-number
returns-in_err-number c =
    let self = c.args.self.now in
    let titles = self.same ∙ sym (titles_are self.modules.items) in
    record { found = rw c.from_residual.ensures (sym (no_module c.args.title.now (modules_view self) (visibility_view c.args.visible) (ap (position (bytes_eq c.args.title.now)) (sym titles) ∙ sym c.find.ensures ∙ c.in_err-number.was))) }

pub returns-then-not-includes : goal.returns-then-not-includes
returns-then-not-includes c =
    let self = c.args.self.now in
    let titles = self.same ∙ sym (titles_are self.modules.items) in
    record { found = sym (hidden_module c.args.title.now (modules_view self) (visibility_view c.args.visible) c.in_ok-number.number (ap (position (bytes_eq c.args.title.now)) (sym titles) ∙ sym c.find.ensures ∙ c.in_ok-number.was) (sym c.includes.ensures ∙ c.if-not-includes.true)) }

pub returns-in-Some : goal.returns-in-Some
returns-in-Some c =
    let self = c.args.self.now in
    let titles = self.same ∙ sym (titles_are self.modules.items) in
    let at : slice_get self.modules.items c.in_ok-number.number ≡ Some c.in-Some.known.now =
    (λ i. slice_get (sym c.deref.ensures.value i) (sym c.from.ensures i))
    ∙ slice_get_read c.deref.result.now _ c.from.result c.in-Some.known.now refl (ltb-true _ _ (sym c.in-Some.ensures.lookup.0)) c.in-Some.ensures.lookup.1 in
    record {
      found = sym (found_module c.args.title.now (modules_view self) (visibility_view c.args.visible) c.in_ok-number.number (known_view c.in-Some.known.now)
          (ap (position (bytes_eq c.args.title.now)) (sym titles) ∙ sym c.find.ensures ∙ c.in_ok-number.was)
          (slice_get-map known_view self.modules.items c.in_ok-number.number ∙ ap (option_map known_view) at)
          (sym c.includes.ensures ∙ c.if-not-includes.false));
    }
