-- Rows on the edges of blocks send whole blocks.
use Rattle.std.proofs.Common.{ℕ, ◌<◌, ◌≡◌, ◌^◌, List, true, subst, sym}
use Rattle.dn_interval.specs.declared.row.Row.{Row}
use Rattle.dn_place.specs.Blocks.{layers_fit}
use Rattle.dn_place.proofs.BlockRows.{levels_send}
use Rattle.dn_place.proofs.blocks.node_bits.Goals as goal

pub returns : goal.returns
returns g c = λ block e.
    let o = c.layers_bits.ensures block e in
    (o.0, levels_send c.args.system.on.net.now c.args.node block c.of.result.now (c.requires.system.flat.each c.args.node c.of.result.now c.of.ensures) (subst (λ (ls : List (List Row)). layers_fit (2 ^ block) ls ≡ true) c.as_slice-layers.ensures o.1))

pub of-requires : goal.of-requires
of-requires g c = subst (λ (n : ℕ). c.args.node < n) (sym c.requires.system.flat.every) c.requires.there
