use Rattle.std.proofs.Common.{◌∙◌, IsSome, refl, subst, sym}
use Rattle.dn_kind.specs.Kinded.{kinds_of}
use Rattle.dn_tables.proofs.Units.{unit_fits}
use Rattle.dn_place.proofs.kept.words_in_use.Goals as goal

pub words-requires : goal.words-requires
words-requires g c =
    let kinds = kinds_of (λ k. (goal.UnitKind-dyn g k).meaning k.1) c.args.system.on.kinds.now in
    subst (λ o. IsSome o) (sym (unit_fits c.args.system.on.net.now kinds c.args.tables.now c.requires.fits c.args.unit ∙ c.in-Some.ensures.some)) refl
