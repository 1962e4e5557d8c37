use Rattle.std.proofs.Common.{◌∙◌, refl}
use Rattle.std.specs.Rc.{rc_str_bytes}
use Rattle.std.specs.Str.{bytes_eq}
use Rattle.dn_net.specs.Parts.{declaration_by}
use Rattle.dn_net.proofs.Places.{position-keys}
use Rattle.dn_net.proofs.net.Net.find.Goals as goal

pub returns-in-Some : goal.returns-in-Some
returns-in-Some c = rw (← c.self.view_is) (c.in-Some.ensures.index ∙ position-keys (declaration_by (λ s. rc_str_bytes s)) (λ d. bytes_eq c.args.text.now d.text) (λ k. bytes_eq c.args.text.now (rc_str_bytes k)) (λ e. refl) c.self.inside.nodes.entries)

pub returns-in-None : goal.returns-in-None
returns-in-None c = rw (← c.self.view_is) (c.in-None.ensures.index ∙ position-keys (declaration_by (λ s. rc_str_bytes s)) (λ d. bytes_eq c.args.text.now d.text) (λ k. bytes_eq c.args.text.now (rc_str_bytes k)) (λ e. refl) c.self.inside.nodes.entries)
