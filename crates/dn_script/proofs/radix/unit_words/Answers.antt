-- The words of the unit in the set are those in the tables of the book.
use Rattle.std.proofs.Common.{◌≡◌, ◌∙◌, ◌≤◌, [], ap, sym, subst, length, slice_index_or, List, ℕ, IfOk, Option, IsSome}
use Rattle.std.proofs.lemmas.Result.{IfOk-weaker}
use Rattle.dn_net.specs.declared.node.Unit.{Unit as UnitPart}
use Rattle.dn_net.specs.Decode.{unit_at}
use Rattle.dn_kind.specs.Kind.{Meaning}
use Rattle.dn_kind.specs.Kinded.{kinds_of}
use Rattle.dn_tables.specs.declared.table.NodeTable.{NodeTable}
use Rattle.dn_tables.specs.Set.{unit_in, words_in}
use Rattle.dn_tables.proofs.Units.{unit_fits}
use Rattle.dn_script.proofs.Pages.{few_in, words_at}
use Rattle.dn_script.proofs.radix.unit_words.Goals as goal

pub words-requires : goal.words-requires
words-requires g c =
    let kinds : List Meaning = kinds_of (λ k. (goal.UnitKind-dyn g k).meaning k.1) c.args.machine.on.kinds.now in
    let net = c.args.machine.on.net.now in
    let set = c.args.state.now.book.set in
    let unit : unit_in set c.args.unit ≡ unit_at net c.args.unit = unit_fits net kinds set c.requires.ready.state.kept.fits c.args.unit in
    subst (λ (s : List NodeTable). IsSome (unit_in s c.args.unit)) (sym c.tables-tables.ensures) (subst (λ (o : Option UnitPart). IsSome o) (sym unit) c.requires.unit)

pub returns-clause-words : goal.returns-clause-words
returns-clause-words g c =
    let book = c.args.state.now.book in
    subst (λ (l : List ℕ). IfOk c.list_of.result (λ v. v.items ≡ l))
    (c.words.ensures.value
    ∙ ap (λ (s : List NodeTable). words_in s c.args.unit) c.tables-tables.ensures
    ∙ words_at book.set c.args.unit
    ∙ ap (λ (t : List (List ℕ)). slice_index_or t c.args.unit []) c.requires.ready.state.kept.words) c.list_of.ensures

pub returns-clause-few : goal.returns-clause-few
returns-clause-few g c =
    let few : length (words_in c.tables-tables.result.now c.args.unit) ≤ 1048576 = few_in c.tables-tables.result.now c.args.unit c.words.ensures.set.sized in
    IfOk-weaker c.list_of.result _ _ (λ v is. subst (λ (l : List ℕ). length l ≤ 1048576) (sym (is ∙ c.words.ensures.value)) few) c.list_of.ensures
