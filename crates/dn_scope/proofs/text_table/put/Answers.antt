use Rattle.std.proofs.Common.{◌≡◌, ◌++◌, ◌∷◌, [], length, sym, subst, rules}
use Rattle.std.specs.Rc.{rc_str_bytes}
use Rattle.dn_scope.specs.Numbered.{AreNumbered}
use Rattle.dn_scope.proofs.Numbers.{put_numbered}
use Rattle.dn_scope.proofs.text_table.put.Goals as goal

pub returns-clause-numbered : goal.returns-clause-numbered
returns-clause-numbered c =
    let last : c.push_reserved.new.self.items ≡ c.args.texts.now.items ++ c.args.text ∷ [] = search rules in
    let same : rc_str_bytes c.in_ok-key.key ≡ rc_str_bytes c.args.text = search rules in
    let count : c.len-number.result ≡ length c.args.texts.now.items = search rules in
    subst (λ ts. AreNumbered (λ s. rc_str_bytes s) c.insert.new.self.entries ts) (sym last) (put_numbered (λ s. rc_str_bytes s) c.args.numbers.now.entries c.insert.new.self.entries c.args.texts.now.items c.args.text c.in_ok-key.key _ c.requires.numbered c.requires.new_text same count c.in_ok-insert.ensures.entries)
