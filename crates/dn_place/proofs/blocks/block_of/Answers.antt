-- The bits tell of the rows, and the bound of the pages.
use Rattle.std.proofs.Common.{arith}
use Rattle.dn_place.proofs.BlockRows.{one_blocks}
use Rattle.dn_place.proofs.blocks.block_of.Goals as goal

pub returns-then-is_of_pages : goal.returns-then-is_of_pages
returns-then-is_of_pages g c = one_blocks c.args.system.on.net.now

pub returns : goal.returns
returns g c = record {
  sends = c.nodes_bits-bits.ensures c.exponent_of.result c.exponent_of.ensures.divides;
  pages = λ n u e. (let l = c.least_page.ensures.least n u e in omega (arith, c.exponent_of.ensures.most, l));
}
