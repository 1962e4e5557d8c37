use Rattle.std.proofs.Common.{◌≡◌, ◌∙◌, refl, sym, rules, false, is_err}
use Rattle.dn_book.specs.Sets.{put_at}
use Rattle.dn_book.proofs.Facts.{ok_by_err}
use Rattle.dn_book.proofs.Parts.{clear_one, clear_passed}
use Rattle.dn_book.proofs.clears.clear_slot.Goals as goal

pub returns-in_err-clear-clause-cleared : goal.returns-in_err-clear-clause-cleared
returns-in_err-clear-clause-cleared g c holds =
    let same : is_err c.from_residual.result ≡ is_err c.clear.result = search rules in
    clear_one (put_at c.args.unit c.args.slot holds) (is_err c.clear.result) (is_err c.from_residual.result) _ _ _ _ c.args.tables.now c.clear.new.self (sym c.is_used_alone.ensures ∙ c.if-is_used_alone.true) same (ok_by_err c.clear.result _ c.clear.ensures.ok) c.clear.ensures.fits c.clear.ensures.made

pub returns-in_ok-clear-clause-cleared : goal.returns-in_ok-clear-clause-cleared
returns-in_ok-clear-clause-cleared g c holds =
    let same : false ≡ is_err c.clear.result = search rules in
    clear_one (put_at c.args.unit c.args.slot holds) (is_err c.clear.result) false _ _ _ _ c.args.tables.now c.clear.new.self (sym c.is_used_alone.ensures ∙ c.if-is_used_alone.true) same (ok_by_err c.clear.result _ c.clear.ensures.ok) c.clear.ensures.fits c.clear.ensures.made

pub returns-else-is_used_alone-clause-cleared : goal.returns-else-is_used_alone-clause-cleared
returns-else-is_used_alone-clause-cleared g c holds =
    clear_passed (put_at c.args.unit c.args.slot holds) _ _ c.args.tables.now c.args.tables.now (sym c.is_used_alone.ensures ∙ c.if-is_used_alone.false) refl refl
