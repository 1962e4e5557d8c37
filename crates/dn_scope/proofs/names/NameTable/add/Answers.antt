use Rattle.std.proofs.Common.{◌∙◌, sym, ap, not, List, ℕ}
use Rattle.std.specs.Rc.{rc_str_bytes}
use Rattle.std.specs.List.{list_any}
use Rattle.std.specs.Str.{bytes_eq}
use Rattle.dn_base.proofs.Lists.{list_any-map}
use Rattle.dn_scope.proofs.names.NameTable.add.Goals as goal

pub returns-clause-is_new : goal.returns-clause-is_new
returns-clause-is_new c =
    let keys = c.self.inside.names.keys in
    c.in_ok-is_new.ensures.added
    ∙ ap (λ (t : List ℕ). not (list_any (λ k. bytes_eq t (rc_str_bytes k)) keys)) c.into_shared.ensures
    ∙ ap not (sym (list_any-map (λ s. rc_str_bytes s) (bytes_eq c.args.name) keys) ∙ ap (list_any (bytes_eq c.args.name)) c.self.view_is)
