use Rattle.std.proofs.Common.{rules, ◌≡◌, ◌∙◌, ap, sym, true, false, not, map, is_some, List, ℕ}
use Rattle.std.specs.List.{list_any}
use Rattle.std.specs.Rc.{rc_str_bytes}
use Rattle.std.specs.Str.{bytes_eq}
use Rattle.dn_scope.proofs.Numbers.{found_any}
use Rattle.dn_scope.proofs.text_table.TextTable.add.Goals as goal

pub returns-then-is_some-clause-is_new : goal.returns-then-is_some-clause-is_new
returns-then-is_some-clause-is_new c =
    let some : is_some c.number.result ≡ true = search rules in
    sym (ap not (sym (found_any (bytes_eq c.args.text.now) c.args.self.now) ∙ ap is_some (sym c.number.ensures.number) ∙ some))

pub put-requires-clause-new_text : goal.put-requires-clause-new_text
put-requires-clause-new_text c =
    let none : is_some c.number.result ≡ false = search rules in
    ap (λ (w : List ℕ). list_any (bytes_eq w) (map (λ s. rc_str_bytes s) c.self.inside.texts.items)) c.in_ok-text.ensures.ok
    ∙ ap (list_any (bytes_eq c.args.text.now)) c.self.view_is
    ∙ sym (found_any (bytes_eq c.args.text.now) c.args.self.now)
    ∙ ap is_some (sym c.number.ensures.number)
    ∙ none

pub returns-clause-is_new : goal.returns-clause-is_new
returns-clause-is_new c =
    let none : is_some c.number.result ≡ false = search rules in
    sym (ap not (sym (found_any (bytes_eq c.args.text.now) c.args.self.now) ∙ ap is_some (sym c.number.ensures.number) ∙ none))
