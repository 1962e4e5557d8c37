use Rattle.std.proofs.Common.{◌≡◌, ◌∙◌, ◌++◌, ◌∷◌, [], ap, sym, replicate, List, ℕ}
use Rattle.std.specs.Option.{option_map}
use Rattle.dn_base.specs.declared.device.UnitWords.{UnitWords}
use Rattle.dn_base.proofs.Told.{on_ok_then}
use Rattle.dn_tables.specs.Set.{table_on_device}
use Rattle.dn_tables.proofs.Fresh.{zero_words}
use Rattle.dn_tables.proofs.set.make_unit.Goals as goal

pub returns-in-Some-clause-words : goal.returns-in-Some-clause-words
returns-in-Some-clause-words g c =
    let table : List UnitWords = table_on_device c.args.node c.args.table.now.words c.args.table.now.unit in
    let here : record { unit = c.args.node; words = replicate c.len.result 0 } ∷ [] ≡ table =
    ap (λ n. record { unit = c.args.node; words = replicate n 0 } ∷ []) c.len.ensures
    ∙ ap (λ (ws : List ℕ). record { unit = c.args.node; words = ws } ∷ []) (sym (zero_words c.args.table.now.words c.requires.zero))
    ∙ ap (table_on_device c.args.node c.args.table.now.words) (sym c.in-Some.is) in
    on_ok_then c.make.result _ _ (λ e. e ∙ ap (λ (l : List UnitWords). option_map (λ told. told ++ l) (g.D.Tables.words c.args.device.now)) here) c.make.ensures.words
