use Rattle.std.proofs.Common.{◌∙◌, ap, map, length, refl, arith, ◌<◌}
use Rattle.std.specs.Rc.{rc_str_bytes}
use Rattle.std.specs.Str.{bytes_eq}
use Rattle.dn_base.proofs.Lists.{length-last, map-last, list_all-last}
use Rattle.dn_net.specs.Parts.{declaration_by, over_is_based}
use Rattle.dn_net.specs.Decode.{is_formed}
use Rattle.dn_net.specs.Legal.{node_limit}
use Rattle.dn_net.proofs.Places.{insert_entry-new, declared_new, length-map, names_still_differ}
use Rattle.dn_net.proofs.net.Net.add.Goals as goal

pub invariant_of-self : goal.invariant_of-self
invariant_of-self c = rw c.in_err-insert.ensures.err c.self.invariant

pub invariant_of-self-2 : goal.invariant_of-self-2
invariant_of-self-2 c =
    let new = insert_entry-new (declaration_by (λ s. rc_str_bytes s)) (λ d. bytes_eq c.args.decl.text d.text) (λ x y. bytes_eq (rc_str_bytes x) (rc_str_bytes y)) c.into_shared.result c.in_ok-parts.parts (λ e. ap (λ t. bytes_eq t (rc_str_bytes e.0)) c.into_shared.ensures) c.self.inside.nodes.entries (rw (← c.self.view_is) at c.requires.new_name) in
    let shown = declared_new (λ s. rc_str_bytes s) c.into_shared.result c.args.decl c.in_ok-parts.parts c.into_shared.ensures c.in_ok-parts.ensures.role c.in_ok-parts.ensures.accepts c.in_ok-parts.ensures.entries c.in_ok-parts.ensures.over c.in_ok-parts.ensures.unit in
    let room : length (map (declaration_by (λ s. rc_str_bytes s)) c.self.inside.nodes.entries) < node_limit = rw (← c.self.view_is) at c.requires.room in
    let same = length-map (declaration_by (λ s. rc_str_bytes s)) c.self.inside.nodes.entries in
    rw (c.in_ok-insert.ensures.entries, new) record {
      small = rw (length-last c.self.inside.nodes.entries) (omega (arith, room, same));
      formed = rw (map-last (declaration_by (λ s. rc_str_bytes s)) c.self.inside.nodes.entries, shown) (list_all-last is_formed (map (declaration_by (λ s. rc_str_bytes s)) c.self.inside.nodes.entries) c.args.decl c.self.invariant.formed c.requires.formed);
      names_differ = rw (map-last (declaration_by (λ s. rc_str_bytes s)) c.self.inside.nodes.entries, shown) (names_still_differ (map (declaration_by (λ s. rc_str_bytes s)) c.self.inside.nodes.entries) c.args.decl c.self.invariant.names_differ (rw (← c.self.view_is) at c.requires.new_name));
      based = list_all-last (λ e. over_is_based e.1.over) c.self.inside.nodes.entries _ c.self.invariant.based c.in_ok-parts.ensures.based;
    }

pub returns-clause-ok : goal.returns-clause-ok
returns-clause-ok c =
    let new = insert_entry-new (declaration_by (λ s. rc_str_bytes s)) (λ d. bytes_eq c.args.decl.text d.text) (λ x y. bytes_eq (rc_str_bytes x) (rc_str_bytes y)) c.into_shared.result c.in_ok-parts.parts (λ e. ap (λ t. bytes_eq t (rc_str_bytes e.0)) c.into_shared.ensures) c.self.inside.nodes.entries (rw (← c.self.view_is) at c.requires.new_name) in
    let shown = declared_new (λ s. rc_str_bytes s) c.into_shared.result c.args.decl c.in_ok-parts.parts c.into_shared.ensures c.in_ok-parts.ensures.role c.in_ok-parts.ensures.accepts c.in_ok-parts.ensures.entries c.in_ok-parts.ensures.over c.in_ok-parts.ensures.unit in
    (c.nodes-number.ensures, ap (map (declaration_by (λ s. rc_str_bytes s))) (c.in_ok-insert.ensures.entries ∙ new) ∙ map-last (declaration_by (λ s. rc_str_bytes s)) c.self.inside.nodes.entries _ ∙ rw (shown, c.self.view_is) refl)
