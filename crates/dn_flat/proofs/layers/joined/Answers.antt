-- A sort changes no name.
use Rattle.std.proofs.Common.{◌∙◌, ap, sym}
use Rattle.std.proofs.lemmas.List.Sorted.{list_any-IsPermutation}
use Rattle.dn_interval.specs.declared.strand.Strand.{Strand}
use Rattle.dn_interval.specs.Strands.{strand_gives, strands_give}
use Rattle.std.proofs.lemmas.Result.{IfOk-weaker}
use Rattle.dn_flat.proofs.layers.joined.Goals as goal

pub returns : goal.returns
returns c =
    let segs = c.args.segs.now in
    IfOk-weaker c.segs_of.result _ _
    (λ out f a z low. f a z
    ∙ ap (λ s. strands_give s a z) c.as_slice.ensures.value
    ∙ sym (list_any-IsPermutation (λ (s : Strand). strand_gives s a z) c.in_ok-strands.strands.items c.sort_by_key.new.self.items c.sort_by_key.ensures.permutation)
    ∙ c.in_ok-strands.ensures.same a z)
    c.segs_of.ensures
