use Rattle.std.proofs.Common.{rules, ◌≡◌, ◌∙◌, ◌<◌, ◌++◌, ◌∷◌, [], ap, sym, subst, refl, arith, List, get_or, length, true, is_err}
use Rattle.dn_base.proofs.Counts.{counted_none, counted_then}
use Rattle.dn_kind.specs.Kind.{Meaning}
use Rattle.dn_kind.specs.Kinded.{kinds_of}
use Rattle.dn_tables.specs.declared.placement.Hop.{Hop}
use Rattle.dn_tables.specs.Set.{words_of}
use Rattle.dn_book.specs.declared.grant.Grant.{Grant}
use Rattle.dn_book.specs.Laws.{IsGrantFor}
use Rattle.dn_book.proofs.Facts.{changed_book}
use Rattle.dn_gather.specs.declared.piece.Piece.{Piece}
use Rattle.dn_gather.specs.Commits.{AreCommitted}
use Rattle.dn_gather.specs.Gather.{grants_of}
use Rattle.dn_gather.specs.Grants.{piece_grant}
use Rattle.dn_gather.proofs.Committing.{all_came, all_left, count_grants, fenced, less_left, next_comes, next_is, none_came, one_came, one_stopped}
use Rattle.dn_gather.proofs.commits.commit_pieces.Given.{Over}
use Rattle.dn_gather.proofs.commits.commit_pieces.Goals.{After-grant_of-grant}
use Rattle.dn_gather.proofs.commits.commit_pieces.Goals as goal

abbrev no_piece : Piece
no_piece = record { id = 0; node = 0; base = 0; size = 0 }

abbrev no_hop : Hop
no_hop = record { unit = 0; port = 0; x = 0; y = 0 }

-- the grant of the next piece
next : (g : Over) (c : After-grant_of-grant g) → c.grant_of-grant.result ≡ piece_grant c.args.agent c.args.rights c.loop-k.a (get_or c.args.pieces.now c.loop-k.k no_piece) (get_or c.args.scatter.now.hops c.loop-k.k no_hop)
next g c =
    let lent : c.as_slice-hops.result.now ≡ c.args.scatter.now.hops = search rules in
    subst (λ (hops : List Hop). c.grant_of-grant.result ≡ piece_grant c.args.agent c.args.rights c.loop-k.a (get_or c.args.pieces.now c.loop-k.k no_piece) (get_or hops c.loop-k.k no_hop)) lent c.grant_of-grant.ensures

-- it is one of the grants
there : (g : Over) (c : After-grant_of-grant g) → c.loop-k.k < length (grants_of c.args.agent c.args.rights c.args.pieces.now c.args.scatter.now)
there g c =
    let n = count_grants c.args.on.net.now c.args.agent c.args.rights c.args.scatter.now.unit c.args.scatter.now.v c.args.pieces.now c.args.scatter.now.hops c.loop-k.invariant.left.many in
    let l = c.loop-k-test.true in
    omega (arith, n, l)

same : (g : Over) (c : After-grant_of-grant g) → c.grant_of-grant.result ≡ get_or (grants_of c.args.agent c.args.rights c.args.pieces.now c.args.scatter.now) c.loop-k.k c.grant_of-grant.result
same g c = next g c ∙ next_is c.args.on.net.now c.args.agent c.args.rights c.args.scatter.now.unit c.args.scatter.now.v c.args.pieces.now c.args.scatter.now.hops c.loop-k.k c.loop-k.a c.loop-k.book.grants no_piece no_hop c.loop-k-test.true c.loop-k.invariant.left c.grant_of-grant.result

pub commit_piece-requires-clause-placed : goal.commit_piece-requires-clause-placed
commit_piece-requires-clause-placed g c =
    subst (λ (x : Grant). IsGrantFor c.args.on.net.now c.loop-k.book.grants x) (sym (next g (goal.at.commit_piece-requires-clause-placed g c).After-grant_of-grant))
    (next_comes c.args.on.net.now c.args.agent c.args.rights c.args.scatter.now.unit c.args.scatter.now.v c.args.pieces.now c.args.scatter.now.hops c.loop-k.k c.loop-k.a c.loop-k.book.grants no_piece no_hop c.loop-k-test.true c.loop-k.invariant.left)

pub loop-k-init : goal.loop-k-init
loop-k-init g c =
    let kinds : List Meaning = kinds_of (λ k. (goal.UnitKind-dyn g k).meaning k.1) c.args.on.kinds.now in
    record {
      ready = c.requires.ready;
      came = none_came c.args.on.net.now kinds c.args.book.now.grants c.args.book.now.cleared (grants_of c.args.agent c.args.rights c.args.pieces.now c.args.scatter.now) (g.D.Tables.log c.args.device.now);
      left = all_left c.args.on.net.now c.args.agent c.args.rights c.args.scatter.now.unit c.args.scatter.now.v c.args.pieces.now c.args.scatter.now.hops c.args.book.now.grants c.requires.placed;
      room = (let r = c.requires.room in omega (arith, r));
      counted = counted_none (g.D.Tables.faults c.args.device.now);
    }

pub loop-k-preserved : goal.loop-k-preserved
loop-k-preserved g c =
    let kinds : List Meaning = kinds_of (λ k. (goal.UnitKind-dyn g k).meaning k.1) c.args.on.kinds.now in
    let at = (goal.at.loop-k-preserved g c).After-grant_of-grant in
    let made = c.in_ok-commit_piece.ensures in
    record {
      ready = record { kinded = c.requires.ready.kinded; unfailed = made.changed.unfailed; kept = made.changed.kept; on_device = made.changed.on_device };
      came = one_came c.args.on.net.now kinds c.args.book.now.grants c.args.book.now.cleared (grants_of c.args.agent c.args.rights c.args.pieces.now c.args.scatter.now) c.loop-k.k c.grant_of-grant.result c.grant_of-grant.result _ _ _ c.loop-k.book.grants c.commit_piece.new.book.grants c.loop-k.book.cleared c.commit_piece.new.book.cleared (there g at) (same g at) c.loop-k.invariant.came made.added made.granted made.changed.fenced;
      left = less_left c.args.on.net.now c.args.agent c.args.rights c.args.scatter.now.unit c.args.scatter.now.v c.args.pieces.now c.args.scatter.now.hops c.loop-k.k c.loop-k.a c.loop-k.book.grants no_piece no_hop c.loop-k-test.true c.loop-k.invariant.left c.commit_piece.new.book.grants (made.granted ∙ ap (λ (x : Grant). c.loop-k.book.grants ++ x ∷ []) (next g at));
      room = (let r = c.loop-k.invariant.room in let s = made.spare in let l = c.loop-k-test.true in omega (arith, r, s, l));
      counted = counted_then _ _ _ _ c.loop-k.invariant.counted made.changed.counted;
    }

pub returns-in_err-commit_piece-clause-committed : goal.returns-in_err-commit_piece-clause-committed
returns-in_err-commit_piece-clause-committed g c =
    let kinds : List Meaning = kinds_of (λ k. (goal.UnitKind-dyn g k).meaning k.1) c.args.on.kinds.now in
    let at = (goal.at.returns-in_err-commit_piece-clause-committed g c).After-grant_of-grant in
    let failed : is_err c.from_residual.result ≡ true = search rules in
    let stop = c.in_err-commit_piece.ensures in
    subst (λ f. AreCommitted c.args.on.net.now kinds c.args.book.now.grants c.args.book.now.cleared (grants_of c.args.agent c.args.rights c.args.pieces.now c.args.scatter.now) f (g.D.Tables.log c.args.device.now) (g.D.Tables.log c.commit_piece.new.device) (words_of c.commit_piece.new.book.set) c.commit_piece.new.book.grants) (sym failed)
    (one_stopped c.args.on.net.now kinds c.args.book.now.grants c.args.book.now.cleared (grants_of c.args.agent c.args.rights c.args.pieces.now c.args.scatter.now) c.loop-k.k c.grant_of-grant.result c.grant_of-grant.result _ _ _ c.loop-k.book.grants c.commit_piece.new.book.grants c.loop-k.book.cleared (words_of c.commit_piece.new.book.set) c.requires.ready.kinded.legal.legal (there g at) (same g at) c.loop-k.invariant.came stop.added (stop.caught refl) stop.refused)

pub returns-clause-committed : goal.returns-clause-committed
returns-clause-committed g c =
    let kinds : List Meaning = kinds_of (λ k. (goal.UnitKind-dyn g k).meaning k.1) c.args.on.kinds.now in
    let n = count_grants c.args.on.net.now c.args.agent c.args.rights c.args.scatter.now.unit c.args.scatter.now.v c.args.pieces.now c.args.scatter.now.hops c.loop-k.invariant.left.many in
    let l = c.loop-k-test.false in
    all_came c.args.on.net.now kinds c.args.book.now.grants c.args.book.now.cleared (grants_of c.args.agent c.args.rights c.args.pieces.now c.args.scatter.now) c.loop-k.k _ _ c.loop-k.book.grants c.loop-k.book.cleared (words_of c.loop-k.book.set) (omega (arith, n, l)) c.loop-k.invariant.came

pub returns-clause-changed : goal.returns-clause-changed
returns-clause-changed g c =
    let n = count_grants c.args.on.net.now c.args.agent c.args.rights c.args.scatter.now.unit c.args.scatter.now.v c.args.pieces.now c.args.scatter.now.hops c.loop-k.invariant.left.many in
    let l = c.loop-k-test.false in
    let some = c.requires.some in
    let gs : List Grant = grants_of c.args.agent c.args.rights c.args.pieces.now c.args.scatter.now in
    changed_book _ _ _ _ c.loop-k.book _ _ _ _ c.loop-k.invariant.ready.kept
    (c.loop-k.invariant.came.due ∙ fenced c.args.book.now.cleared gs c.loop-k.k (omega (arith, n, some)) (omega (arith, n, l)))
    c.loop-k.invariant.ready.unfailed c.loop-k.invariant.ready.on_device c.loop-k.invariant.counted
