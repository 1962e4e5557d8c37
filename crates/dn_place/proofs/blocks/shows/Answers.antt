use Rattle.std.proofs.Common.{◌≡◌, ◌==◌, ◌<◌, ℕ, Bool, true, false, not, length, rules, subst, sym}
use Rattle.dn_place.proofs.BlockRows.{shown_within}
use Rattle.dn_place.proofs.blocks.shows.Goals as goal

pub push_accepted-requires : goal.push_accepted-requires
push_accepted-requires g c = subst (λ (n : ℕ). c.args.node < n) (sym c.requires.system.flat.every) c.requires.there

pub returns : goal.returns
returns g c some =
    let same : c.is_empty.result ≡ (length c.push_accepted.new.segs.items == 0) = search rules in
    let there : c.args.node < length c.args.system.flats.now.nodes = subst (λ (n : ℕ). c.args.node < n) (sym c.requires.system.flat.every) c.requires.there in
    shown_within c.args.system.on.net.now c.args.system.flats.now c.requires.system.flat c.args.node there c.args.span c.new-segs.result.items c.push_accepted.new.segs.items c.new-segs.ensures.items c.in_ok-push_accepted.ensures (none c.is_empty.result (length c.push_accepted.new.segs.items == 0) same some)
  where
    none : (b d : Bool) → b ≡ d → not b ≡ true → d ≡ false
    none true d e n = cc
    none false d e n = cc
