use Rattle.std.proofs.Common.{rules, ◌≡◌, ◌∙◌, sym, subst, List, IsTrue}
use Rattle.std.specs.List.{list_all}
use Rattle.dn_kind.specs.Kind.{Meaning}
use Rattle.dn_kind.specs.Kinded.{kinds_of}
use Rattle.dn_tables.specs.declared.table.NodeTable.{NodeTable}
use Rattle.dn_tables.specs.Set.{is_zero, fresh_set, FitsNet}
use Rattle.dn_tables.proofs.Fresh.{fresh_all_zero, fresh_fits_net}
use Rattle.dn_tables.proofs.set.TableSet.make.Goals as goal

pub make_units-requires-clause-zero : goal.make_units-requires-clause-zero
make_units-requires-clause-zero g c =
    let kinds : List Meaning = kinds_of (λ k. (goal.UnitKind-dyn g k).meaning k.1) c.args.on.kinds.now in
    let made : c.in_ok-set.set ≡ fresh_set kinds c.args.on.net.now = search rules in
    subst (λ (l : List NodeTable). IsTrue (list_all is_zero l)) (sym (c.as_slice.ensures.value ∙ c.set.view_is ∙ made)) (fresh_all_zero kinds c.args.on.net.now)

pub returns-clause-fits : goal.returns-clause-fits
returns-clause-fits g c =
    let kinds : List Meaning = kinds_of (λ k. (goal.UnitKind-dyn g k).meaning k.1) c.args.on.kinds.now in
    let made : c.in_ok-set.set ≡ fresh_set kinds c.args.on.net.now = search rules in
    subst (FitsNet c.args.on.net.now kinds) (sym made) (fresh_fits_net kinds c.args.on.net.now c.requires.on.shaped)
