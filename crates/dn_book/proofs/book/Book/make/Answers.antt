use Rattle.std.proofs.Common.{sym, ap, subst, List}
use Rattle.dn_kind.specs.Kind.{Meaning}
use Rattle.dn_kind.specs.Kinded.{kinds_of}
use Rattle.dn_tables.proofs.Slots.{all_of_map}
use Rattle.dn_book.specs.declared.grant.Grant.{Grant}
use Rattle.dn_book.specs.Book.{IsFaithful}
use Rattle.dn_book.specs.State.{GrantsState}
use Rattle.dn_book.specs.Tables.{IsKept}
use Rattle.dn_book.proofs.Begun.{begun_kept}
use Rattle.dn_book.proofs.Faithful.{empty_book_is_faithful}
use Rattle.dn_book.proofs.Packed.{AreKindsOf}
use Rattle.dn_book.proofs.book.Book.make.Goals as goal

pub returns-clause-kept : goal.returns-clause-kept
returns-clause-kept g c =
    let kinds : List Meaning = kinds_of (λ k. (goal.UnitKind-dyn g k).meaning k.1) c.args.on.kinds.now in
    let are : AreKindsOf c.args.on.net.now kinds = record { lawful = all_of_map _ c.args.on.kinds.now.list.items c.requires.on.lawful; shaped = c.requires.on.legal.shaped } in
    subst (λ (b : List Grant). IsKept c.args.on.net.now kinds b c.in_ok-make.field-0) (sym (ap (λ (s : GrantsState). s.live) c.new.ensures)) (begun_kept c.args.on.net.now kinds are c.requires.on.legal.legal c.in_ok-make.field-0 c.in_ok-make.ensures.fits c.in_ok-make.ensures.ok)

pub returns-clause-faithful : goal.returns-clause-faithful
returns-clause-faithful g c =
    subst (λ (b : List Grant). IsFaithful c.args.on.net.now b) (sym (ap (λ (s : GrantsState). s.live) c.new.ensures)) (empty_book_is_faithful c.args.on.net.now c.requires.on.legal.legal).1
