use Rattle.std.proofs.Common.{◌+◌, ◌-◌, ℕ, List, [], ◌∷◌, arith, drop, length, subst, suc, sym, take}
use Rattle.dn_gather.specs.declared.piece.Piece.{Piece}
use Rattle.dn_gather.specs.Grounds.{CanStandOn, StandsOn, total}
use Rattle.dn_gather.specs.Stands.{AreAt, AreFew, IsPartedFrom}
use Rattle.dn_gather.proofs.Placing.{stands_few, stands_once}
use Rattle.dn_gather.proofs.Standing.{after_item, at_few, crossed, front_at, of_all, of_none, part_after, to_item}
use Rattle.dn_gather.proofs.stands.stands.Given.{Over}
use Rattle.dn_gather.proofs.stands.stands.Goals.{In-Some}
use Rattle.dn_gather.proofs.stands.stands.Goals as goal

pub pieces-init : goal.pieces-init
pieces-init g c =
    let gr = c.args.ground in
    let ps = gr.wanted.pieces.now in
    record {
      within = omega arith;
      stands = subst (λ (xs : List ℕ). AreAt (StandsOn gr) gr.translator.now.page (c.args.v + total (take (length ps) ps)) (drop (length ps) ps) xs) (sym c.new-xs.ensures.items) (of_none (λ n qs. AreAt (StandsOn gr) gr.translator.now.page n qs []) c.args.v (length ps) ps (omega arith) (λ n. tt));
    }

pub part_at-part-requires-clause-there : goal.part_at-part-requires-clause-there
part_at-part-requires-clause-there g c = omega (arith, c.pieces-test.true, c.pieces.invariant.within)

pub returns-in_default-clause-none : goal.returns-in_default-clause-none
returns-in_default-clause-none g c = λ is xs are.
    let gr = c.args.ground in
    let t = c.part_at-part.ensures in
    let f = front_at (CanStandOn gr) gr.translator.now.page c.args.v (c.pieces.i - 1) c.part_at-part.result.a gr.wanted.pieces.now xs c.part_at-part.result.piece t.item t.address are in
    c.in_default.ensures.none f.x f.here

-- the pieces after this one stand at their inputs
after : (g : Over) (c : In-Some g) → AreAt (StandsOn c.args.ground) c.args.ground.translator.now.page (c.part_at-part.result.a + c.part_at-part.result.piece.size) (drop (suc (c.pieces.i - 1)) c.args.ground.wanted.pieces.now) c.pieces.xs.items
after g c =
    let t = c.part_at-part.ensures in
    after_item (λ n qs. AreAt (StandsOn c.args.ground) c.args.ground.translator.now.page n qs c.pieces.xs.items) c.args.v c.pieces.i c.part_at-part.result.a c.args.ground.wanted.pieces.now c.part_at-part.result.piece c.pieces-test.true t.item t.address c.pieces.invariant.stands

pub is_parted-requires-clause-few : goal.is_parted-requires-clause-few
is_parted-requires-clause-few g c = (stands_few (λ k. (goal.UnitKind-dyn g k).meaning k.1) c.args.ground c.requires.ground c.part_at-part.result.piece c.part_at-part.result.a c.in-Some.x c.in-Some.ensures.some).1

pub is_parted-requires-clause-some : goal.is_parted-requires-clause-some
is_parted-requires-clause-some g c = c.in-Some.ensures.some.some

pub is_parted-requires-clause-others : goal.is_parted-requires-clause-others
is_parted-requires-clause-others g c =
    let gr = c.args.ground in
    let ps = gr.wanted.pieces.now in
    let i = c.pieces.i - 1 in
    let few : AreFew (drop (suc i) ps) c.pieces.xs.items = at_few (StandsOn gr) gr.translator.now.page (c.part_at-part.result.a + c.part_at-part.result.piece.size) (drop (suc i) ps) c.pieces.xs.items (stands_few (λ k. (goal.UnitKind-dyn g k).meaning k.1) gr c.requires.ground) (after g (goal.at.is_parted-requires-clause-others g c).In-Some) in
    subst (λ (xs : List ℕ). AreFew (take (length ps - (i + 1)) (drop (i + 1) ps)) xs) (sym c.deref.ensures.value) (subst (λ (qs : List Piece). AreFew qs c.pieces.xs.items) (sym (part_after ps i)) few)

pub returns-then-not-is_parted-clause-none : goal.returns-then-not-is_parted-clause-none
returns-then-not-is_parted-clause-none g c = λ is zs are.
    let gr = c.args.ground in
    let ps = gr.wanted.pieces.now in
    let page = gr.translator.now.page in
    let i = c.pieces.i - 1 in
    let p : Piece = c.part_at-part.result.piece in
    let t = c.part_at-part.ensures in
    crossed (StandsOn gr) (CanStandOn gr) page c.args.v i c.part_at-part.result.a c.in-Some.x ps c.pieces.xs.items zs p t.item t.address (stands_once (λ k. (goal.UnitKind-dyn g k).meaning k.1) gr c.requires.ground) c.in-Some.ensures.some (after g (goal.at.returns-then-not-is_parted-clause-none g c).In-Some)
    (λ parted. c.is_parted.ensures.no c.if-not-is_parted.true
    (subst (λ (xs : List ℕ). IsPartedFrom page c.in-Some.x p.size (take (length ps - (i + 1)) (drop (i + 1) ps)) xs) (sym c.deref.ensures.value) (subst (λ (qs : List Piece). IsPartedFrom page c.in-Some.x p.size qs c.pieces.xs.items) (sym (part_after ps i)) parted)))
    are

pub pieces-preserved : goal.pieces-preserved
pieces-preserved g c =
    let gr = c.args.ground in
    let ps = gr.wanted.pieces.now in
    let i = c.pieces.i - 1 in
    let t = c.part_at-part.ensures in
    let parted : IsPartedFrom gr.translator.now.page c.in-Some.x c.part_at-part.result.piece.size (drop (suc i) ps) c.pieces.xs.items =
    subst (λ (qs : List Piece). IsPartedFrom gr.translator.now.page c.in-Some.x c.part_at-part.result.piece.size qs c.pieces.xs.items) (part_after ps i) (subst (λ (xs : List ℕ). IsPartedFrom gr.translator.now.page c.in-Some.x c.part_at-part.result.piece.size (take (length ps - (i + 1)) (drop (i + 1) ps)) xs) c.deref.ensures.value (c.is_parted.ensures.yes c.if-not-is_parted.false)) in
    record {
      within = omega (arith, c.pieces.invariant.within);
      stands = subst (λ (xs : List ℕ). AreAt (StandsOn gr) gr.translator.now.page (c.args.v + total (take i ps)) (drop i ps) xs) (sym c.in_ok-insert.ensures.items) (to_item (λ n qs. AreAt (StandsOn gr) gr.translator.now.page n qs (c.in-Some.x ∷ c.pieces.xs.items)) c.args.v i c.part_at-part.result.a ps c.part_at-part.result.piece t.item t.address (c.in-Some.ensures.some, parted, after g (goal.at.pieces-preserved g c).In-Some));
    }

pub returns-clause-some : goal.returns-clause-some
returns-clause-some g c =
    let gr = c.args.ground in
    of_all (λ n qs. AreAt (StandsOn gr) gr.translator.now.page n qs c.pieces.xs.items) c.args.v c.pieces.i gr.wanted.pieces.now (omega (arith, c.pieces-test.false)) c.pieces.invariant.stands
