-- A sort changes no name, and keeps each strand maximal.
use Rattle.std.proofs.Common.{◌≡◌, ◌∙◌, ℕ, List, sym, ap, subst, rules}
use Rattle.std.specs.List.{All}
use Rattle.std.specs.List.Sorted.{IsSorted, IsPermutation}
use Rattle.std.proofs.lemmas.List.Sorted.{answers_always, list_any-IsPermutation, All-permutation, IsNonDecreasingBy-from_sort}
use Rattle.dn_interval.specs.declared.strand.Strand.{Strand}
use Rattle.dn_interval.specs.declared.row.End.{End}
use Rattle.dn_interval.specs.Strands.{strand_gives, strands_give, strand_cmp, IsMaximal}
use Rattle.dn_interval.proofs.strands.strands_of.Goals as goal

permuted : (xs ys : List Strand) → IsPermutation xs ys → (a : ℕ) (y : End) → strands_give xs a y ≡ strands_give ys a y
permuted xs ys p a y = list_any-IsPermutation (λ s. strand_gives s a y) xs ys p

maximal_permuted : (xs ys : List Strand) → IsPermutation xs ys → All (IsMaximal (strands_give xs)) xs → All (IsMaximal (strands_give ys)) ys
maximal_permuted xs ys p m = λ k d l a y e b. sym (permuted xs ys p a y) ∙ (All-permutation (IsMaximal (strands_give xs)) xs ys p m) k d l a y e b

pub joined_strands-requires : goal.joined_strands-requires
joined_strands-requires c =
    subst (IsSorted strand_cmp) (sym c.as_slice.ensures.value) (c.in_ok-sort_by_key.ensures.sorted (λ (s : Strand). (s.node, s.slide, s.span.lo)) (answers_always _ _ _ (λ f a r g h. search rules)))

pub returns-clause-same : goal.returns-clause-same
returns-clause-same c = λ a y.
    sym (permuted c.in_ok-strands.strands.items c.sort_by_key-2.new.self.items c.sort_by_key-2.ensures.permutation a y)
    ∙ c.in_ok-strands.ensures.same a y
    ∙ ap (λ t. strands_give t a y) c.as_slice.ensures.value
    ∙ sym (permuted c.in_ok-single.single.items c.sort_by_key.new.self.items c.sort_by_key.ensures.permutation a y)
    ∙ c.in_ok-single.ensures a y

pub returns-clause-maximal : goal.returns-clause-maximal
returns-clause-maximal c = maximal_permuted c.in_ok-strands.strands.items c.sort_by_key-2.new.self.items c.sort_by_key-2.ensures.permutation c.in_ok-strands.ensures.maximal

pub returns-clause-sorted : goal.returns-clause-sorted
returns-clause-sorted c =
    IsNonDecreasingBy-from_sort (λ (s : Strand). s.span.lo) _ (c.in_ok-sort_by_key-2.ensures.sorted (λ (s : Strand). s.span.lo) (answers_always _ _ _ (λ f a r g h. search rules)))
