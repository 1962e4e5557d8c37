use Rattle.std.proofs.Common.{◌≡◌, ◌∙◌, refl, sym, rules, inl, List, false, is_err}
use Rattle.dn_kind.specs.Kind.{Meaning}
use Rattle.dn_kind.specs.Kinded.{kinds_of}
use Rattle.dn_book.specs.Sets.{put_at}
use Rattle.dn_book.proofs.Facts.{ok_by_err}
use Rattle.dn_book.proofs.Parts.{put_one, put_passed}
use Rattle.dn_book.proofs.puts.put_slot.Goals as goal

pub put-requires-clause-empty : goal.put-requires-clause-empty
put-requires-clause-empty g c =
    c.requires.opened (put_at c.args.unit c.args.slot c.args.holds) (inl refl) (sym c.is_unused.ensures ∙ c.if-is_unused.true)

pub returns-in_err-put-clause-put : goal.returns-in_err-put-clause-put
returns-in_err-put-clause-put g c =
    let kinds : List Meaning = kinds_of (λ k. (goal.UnitKind-dyn g k).meaning k.1) c.args.kinds.now in
    let same : is_err c.from_residual.result ≡ is_err c.put.result = search rules in
    put_one kinds (put_at c.args.unit c.args.slot c.args.holds) (is_err c.put.result) (is_err c.from_residual.result) _ _ _ _ c.args.tables.now c.put.new.self (sym c.is_unused.ensures ∙ c.if-is_unused.true) same (ok_by_err c.put.result _ c.put.ensures.ok) c.put.ensures.fits c.put.ensures.made

pub returns-in_ok-put-clause-put : goal.returns-in_ok-put-clause-put
returns-in_ok-put-clause-put g c =
    let kinds : List Meaning = kinds_of (λ k. (goal.UnitKind-dyn g k).meaning k.1) c.args.kinds.now in
    let same : false ≡ is_err c.put.result = search rules in
    put_one kinds (put_at c.args.unit c.args.slot c.args.holds) (is_err c.put.result) false _ _ _ _ c.args.tables.now c.put.new.self (sym c.is_unused.ensures ∙ c.if-is_unused.true) same (ok_by_err c.put.result _ c.put.ensures.ok) c.put.ensures.fits c.put.ensures.made

pub returns-else-is_unused-clause-put : goal.returns-else-is_unused-clause-put
returns-else-is_unused-clause-put g c =
    let kinds : List Meaning = kinds_of (λ k. (goal.UnitKind-dyn g k).meaning k.1) c.args.kinds.now in
    put_passed kinds (put_at c.args.unit c.args.slot c.args.holds) _ _ c.args.tables.now c.args.tables.now (sym c.is_unused.ensures ∙ c.if-is_unused.false) refl refl
