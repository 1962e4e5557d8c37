use Rattle.std.proofs.Common.{◌∙◌, ◌++◌, ap, sym, List, ℕ}
use Rattle.std.specs.Option.{option_copied}
use Rattle.dn_base.proofs.Told.{on_ok_then}
use Rattle.dn_kind.specs.Kind.{Meaning}
use Rattle.dn_kind.specs.Kinded.{kinds_of}
use Rattle.dn_tables.specs.Set.{words_in}
use Rattle.dn_image.specs.Bytes.{word_bytes}
use Rattle.dn_image.specs.Image.{head_of, unit_bytes}
use Rattle.dn_image.proofs.Places.{kind_within}
use Rattle.dn_image.proofs.write.push_node.Goals as goal

pub record_width-width-requires-clause-known : goal.record_width-width-requires-clause-known
record_width-width-requires-clause-known g c = kind_within (λ k. (goal.UnitKind-dyn g (k.vtable, k.value)).meaning k.value) c.args.kinds.now.list.items c.args.tables.now c.args.node c.args.unit c.in-Some.unit c.requires.fits c.requires.unit c.in-Some.is

pub returns-in-Some : goal.returns-in-Some
returns-in-Some g c =
    let kinds : List Meaning = kinds_of (λ k. (goal.UnitKind-dyn g k).meaning k.1) c.args.kinds.now in
    on_ok_then c.push_unit.result _ _ (λ e.
    e
    ∙ ap (λ (w : List ℕ). c.args.out.now.items ++ (head_of c.args.node c.record_width-width.result c.in-Some.unit.now.slots ++ word_bytes w)) c.words.ensures.value
    ∙ ap (λ n. c.args.out.now.items ++ (head_of c.args.node n c.in-Some.unit.now.slots ++ word_bytes (words_in c.args.tables.now c.args.node))) c.record_width-width.ensures.width
    ∙ ap (λ o. c.args.out.now.items ++ unit_bytes kinds c.args.node (option_copied o) (words_in c.args.tables.now c.args.node)) (sym c.in-Some.is)) c.push_unit.ensures
