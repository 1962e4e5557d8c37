use Rattle.dn_kinds.proofs.Lawful.{pages_are_lawful, radix_is_lawful, remap_is_lawful, vectors_are_lawful}
use Rattle.dn_kinds.proofs.listed.listed_are_lawful.Goals as goal

pub returns : goal.returns
returns c = record {
  pages = pages_are_lawful;
  remap = remap_is_lawful;
  vectors = vectors_are_lawful;
  radix = radix_is_lawful;
}
