use Rattle.std.proofs.Common.{◌≡◌, ◌∙◌, ◌+◌, ◌-◌, ℕ, List, [], ◌∷◌, ap, arith, drop, length, subst, suc, sym, take}
use Rattle.std.proofs.Math.ListN.{drop_of_length-le}
use Rattle.dn_tables.specs.declared.placement.Hop.{Hop}
use Rattle.dn_gather.specs.declared.piece.Piece.{Piece}
use Rattle.dn_gather.specs.Firsts.{AreFirstHops}
use Rattle.dn_gather.specs.Grounds.{StandsOn, total, wanted_slots}
use Rattle.dn_gather.proofs.Choosing.{first_before, hop_inputs}
use Rattle.dn_gather.proofs.Placing.{none_of_hop}
use Rattle.dn_gather.proofs.Standing.{after_item, at_count, front_at, item_of, of_all, of_none, others_of, to_item}
use Rattle.dn_gather.proofs.choice.choice.Goals as goal

pub pieces-init : goal.pieces-init
pieces-init g c =
    let gr = c.args.ground in
    let ps = gr.wanted.pieces.now in
    let from = length c.args.xs.now in
    let count = at_count (StandsOn gr) gr.translator.now.page c.args.v ps c.args.xs.now c.requires.stands in
    record {
      within = omega (arith, count);
      count = count;
      inputs = subst (λ (hs : List Hop). hop_inputs hs ≡ drop from c.args.xs.now) (sym c.new-hops.ensures.items) (sym (drop_of_length-le c.args.xs.now (omega arith)));
      hops = subst (λ (hs : List Hop). AreFirstHops gr.wanted.system.on.net.now (wanted_slots (λ k. (goal.UnitKind-dyn g k).meaning k.1) gr.wanted) gr.wanted.agent gr.wanted.rights gr.unit (c.args.v + total (take from ps)) (drop from ps) hs) (sym c.new-hops.ensures.items)
          (of_none (λ n qs. AreFirstHops gr.wanted.system.on.net.now (wanted_slots (λ k. (goal.UnitKind-dyn g k).meaning k.1) gr.wanted) gr.wanted.agent gr.wanted.rights gr.unit n qs []) c.args.v from ps (omega (arith, count)) (λ n. tt));
    }

pub part_at-part-requires-clause-there : goal.part_at-part-requires-clause-there
part_at-part-requires-clause-there g c = omega (arith, c.pieces-test.true, c.pieces.invariant.within)

pub bounds-xs-i : goal.bounds-xs-i
bounds-xs-i g c = omega (arith, c.pieces-test.true, c.pieces.invariant.within, c.pieces.invariant.count)

pub first_hop-requires-clause-stands : goal.first_hop-requires-clause-stands
first_hop-requires-clause-stands g c =
    let gr = c.args.ground in
    let i = c.pieces.i - 1 in
    let t = c.part_at-part.ensures in
    let f = front_at (StandsOn gr) gr.translator.now.page c.args.v i c.part_at-part.result.a gr.wanted.pieces.now c.args.xs.now c.part_at-part.result.piece t.item t.address c.requires.stands in
    subst (λ (n : ℕ). StandsOn gr c.part_at-part.result.piece c.part_at-part.result.a n) (sym (item_of c.args.xs.now f.rest i f.x f.is)) f.here

pub returns-in_default-clause-none : goal.returns-in_default-clause-none
returns-in_default-clause-none g c = λ is.
    let gr = c.args.ground in
    let t = c.part_at-part.ensures in
    none_of_hop (λ k. (goal.UnitKind-dyn g k).meaning k.1) gr.wanted gr.unit c.args.v (c.pieces.i - 1) c.part_at-part.result.a c.part_at-part.result.piece t.item t.address (c.in_ok-hop.ensures.none c.in_default.is)

pub pieces-preserved : goal.pieces-preserved
pieces-preserved g c =
    let gr = c.args.ground in
    let ps = gr.wanted.pieces.now in
    let net = gr.wanted.system.on.net.now in
    let slots = wanted_slots (λ k. (goal.UnitKind-dyn g k).meaning k.1) gr.wanted in
    let i = c.pieces.i - 1 in
    let p : Piece = c.part_at-part.result.piece in
    let a = c.part_at-part.result.a in
    let old : List Hop = c.pieces.hops.items in
    let t = c.part_at-part.ensures in
    let f = front_at (StandsOn gr) gr.translator.now.page c.args.v i a ps c.args.xs.now p t.item t.address c.requires.stands in
    let input = rw c.in-Some.is at c.in_ok-hop.ensures.input in
    let first = rw c.in-Some.is at c.in_ok-hop.ensures.some in
    let rest = after_item (λ n qs. AreFirstHops net slots gr.wanted.agent gr.wanted.rights gr.unit n qs old) c.args.v c.pieces.i a ps p c.pieces-test.true t.item t.address c.pieces.invariant.hops in
    let next : c.pieces.i ≡ suc i = omega (arith, c.pieces-test.true) in
    let others : hop_inputs old ≡ f.rest = c.pieces.invariant.inputs ∙ ap (λ n. drop n c.args.xs.now) next ∙ others_of c.args.xs.now f.rest i f.x f.is in
    let here : c.in-Some.hop.x ≡ f.x = input ∙ item_of c.args.xs.now f.rest i f.x f.is in
    record {
      within = omega (arith, c.pieces.invariant.within);
      count = c.pieces.invariant.count;
      inputs = subst (λ (hs : List Hop). hop_inputs hs ≡ drop i c.args.xs.now) (sym c.in_ok-insert.ensures.items) (both c.in-Some.hop.x f.x (hop_inputs old) f.rest here others ∙ sym f.is);
      hops = subst (λ (hs : List Hop). AreFirstHops net slots gr.wanted.agent gr.wanted.rights gr.unit (c.args.v + total (take i ps)) (drop i ps) hs) (sym c.in_ok-insert.ensures.items)
          (to_item (λ n qs. AreFirstHops net slots gr.wanted.agent gr.wanted.rights gr.unit n qs (c.in-Some.hop ∷ old)) c.args.v i a ps p t.item t.address
          (first_before net slots gr.translator.now gr.wanted.agent gr.wanted.rights gr.unit a f.x p (drop (suc i) ps) c.in-Some.hop old f.rest c.requires.ground.is_unit first here others f.parted rest));
    }
  where
    both : (x z : ℕ) (xs zs : List ℕ) → x ≡ z → xs ≡ zs → x ∷ xs ≡ z ∷ zs
    both x z xs zs e k = ap (λ n. n ∷ xs) e ∙ ap (λ l. z ∷ l) k

pub returns-clause-some : goal.returns-clause-some
returns-clause-some g c =
    let gr = c.args.ground in
    of_all (λ n qs. AreFirstHops gr.wanted.system.on.net.now (wanted_slots (λ k. (goal.UnitKind-dyn g k).meaning k.1) gr.wanted) gr.wanted.agent gr.wanted.rights gr.unit n qs c.pieces.hops.items) c.args.v c.pieces.i gr.wanted.pieces.now (omega (arith, c.pieces-test.false)) c.pieces.invariant.hops
