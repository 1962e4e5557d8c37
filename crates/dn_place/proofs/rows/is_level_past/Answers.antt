use Rattle.std.proofs.Common.{◌∙◌, List, ap, subst, sym}
use Rattle.std.specs.List.{list_all}
use Rattle.dn_interval.specs.declared.row.Row.{Row}
use Rattle.dn_interval.specs.Rows.{Apart}
use Rattle.dn_place.specs.Rows.{is_past}
use Rattle.dn_place.proofs.Toward.{past_none, past_some}
use Rattle.dn_place.proofs.rows.is_level_past.Goals as goal

pub returns-clause-yes : goal.returns-clause-yes
returns-clause-yes c = λ yes. past_none c.args.rows.now c.args.a c.args.size (ap (λ (rs : List Row). list_all (is_past c.args.a c.args.size) rs) (sym c.rows.ensures.value) ∙ sym c.are_past.ensures ∙ yes)

pub returns-clause-no : goal.returns-clause-no
returns-clause-no c = λ no. past_some c.args.rows.now c.args.a c.args.size c.rows.ensures.apart c.requires.some (ap (λ (rs : List Row). list_all (is_past c.args.a c.args.size) rs) (sym c.rows.ensures.value) ∙ sym c.are_past.ensures ∙ no)

pub are_past-requires-clause-apart : goal.are_past-requires-clause-apart
are_past-requires-clause-apart c = subst (λ (rs : List Row). Apart 0 rs) (sym c.rows.ensures.value) c.rows.ensures.apart
