use Rattle.std.proofs.Common.{◌∙◌, ap, subst, List}
use Rattle.dn_base.specs.Device.{PlacedAt, sizes_of}
use Rattle.dn_base.specs.declared.device.UnitWords.{UnitWords}
use Rattle.dn_base.proofs.Placed.{set_placed, sizes_kept}
use Rattle.dn_base.proofs.memory_tables.set_word.Goals as goal

pub returns-clause-words : goal.returns-clause-words
returns-clause-words c =
    set_placed c.args.tables.now.items c.args.unit c.args.word c.args.value c.place_of-place.result c.index_mut-table.result.now c.set.new.self (subst (λ (ts : List UnitWords). PlacedAt ts c.args.unit c.args.word c.place_of-place.result) c.as_slice.ensures.value c.place_of-place.ensures) c.index_mut-table.ensures.value c.set.ensures

pub returns-clause-sizes : goal.returns-clause-sizes
returns-clause-sizes c =
    ap sizes_of (set_placed c.args.tables.now.items c.args.unit c.args.word c.args.value c.place_of-place.result c.index_mut-table.result.now c.set.new.self (subst (λ (ts : List UnitWords). PlacedAt ts c.args.unit c.args.word c.place_of-place.result) c.as_slice.ensures.value c.place_of-place.ensures) c.index_mut-table.ensures.value c.set.ensures) ∙ sizes_kept c.args.tables.now.items c.args.unit c.args.word c.args.value
