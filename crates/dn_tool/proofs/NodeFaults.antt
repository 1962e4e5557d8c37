-- The node that a broken rule names is there.
use Rattle.std.proofs.Common.{rules, arith, ◌≡◌, ◌∙◌, subst, refl, ℕ, ◌+◌, ◌<◌, ◌≤◌, if◌then◌else◌, Bool, true, false, List, [], ◌∷◌, length, Option, IfSome, Some, None}
use Rattle.std.proofs.lemmas.Option.{none-some, same_Some}
use Rattle.dn_net.specs.declared.node.NodeDecl.{NodeDecl}
use Rattle.dn_net.specs.Rules.{BrokenNode, out_of_range, overlapping, repeating, past_space, node_fault, node_fault_from, first_fault, fault_of_node, later_fault, is_in_range, least_overlap, repeats, passes_vector_space}
use Rattle.dn_tool.specs.Refused.{IsNodeWithin}

within_more : (a b : ℕ) (f : BrokenNode) → a ≤ b → IsNodeWithin a f → IsNodeWithin b f
within_more a b (out_of_range n) l h = omega (arith, l, h)
within_more a b (overlapping n x) l h = omega (arith, l, h)
within_more a b (repeating n) l h = omega (arith, l, h)
within_more a b (past_space n) l h = omega (arith, l, h)

next : (n : ℕ) → n < n + 1
next n = omega arith

by_space : (number : ℕ) (p : Bool) (g : BrokenNode) → (if p then None else Some (past_space number)) ≡ Some g → IsNodeWithin (number + 1) g
by_space number true g e = absurd (none-some g e)
by_space number false g e = subst (IsNodeWithin (number + 1)) (same_Some (past_space number) g e) (next number)

by_repeat : (number : ℕ) (r p : Bool) (g : BrokenNode) → (if r then Some (repeating number) else (if p then None else Some (past_space number))) ≡ Some g → IsNodeWithin (number + 1) g
by_repeat number true p g e = subst (IsNodeWithin (number + 1)) (same_Some (repeating number) g e) (next number)
by_repeat number false p g e = by_space number p g e

by_overlap : (number : ℕ) (n : NodeDecl) (o : Option ℕ) (g : BrokenNode) → later_fault number n o ≡ Some g → IsNodeWithin (number + 1) g
by_overlap number n (Some a) g e = subst (IsNodeWithin (number + 1)) (same_Some (overlapping number a) g e) (next number)
by_overlap number n None g e = by_repeat number (repeats n) (passes_vector_space n) g e

by_range : (number : ℕ) (n : NodeDecl) (b : Bool) (g : BrokenNode) → (if b then later_fault number n (least_overlap n) else Some (out_of_range number)) ≡ Some g → IsNodeWithin (number + 1) g
by_range number n true g e = by_overlap number n (least_overlap n) g e
by_range number n false g e = subst (IsNodeWithin (number + 1)) (same_Some (out_of_range number) g e) (next number)

of_node : (number : ℕ) (n : NodeDecl) (g : BrokenNode) → fault_of_node number n ≡ Some g → IsNodeWithin (number + 1) g
of_node number n g e = by_range number n (is_in_range n) g e

faults_from : (number : ℕ) (net : List NodeDecl) (f : BrokenNode) → node_fault_from number net ≡ Some f → IsNodeWithin (number + length net) f
faults_from number [] f e = absurd (none-some f e)
faults_from number (n ∷ ns) f e = go (faults_from (number + 1) ns f) (fault_of_node number n) refl e
  where
    go : (node_fault_from (number + 1) ns ≡ Some f → IsNodeWithin ((number + 1) + length ns) f) → (o : Option BrokenNode) → fault_of_node number n ≡ o → first_fault o (node_fault_from (number + 1) ns) ≡ Some f → IsNodeWithin (number + length (n ∷ ns)) f
    go after (Some g) at k = within_more (number + 1) (number + length (n ∷ ns)) f (search (rules, arith)) (of_node number n f (at ∙ k))
    go after None at k = within_more ((number + 1) + length ns) (number + length (n ∷ ns)) f (search (rules, arith)) (after k)

zero_first : (net : List NodeDecl) → 0 + length net ≡ length net
zero_first net = omega arith

-- the node of the first broken rule is there
pub fault_within : (net : List NodeDecl) (v : Option BrokenNode) → IfSome v (λ b. node_fault net ≡ Some b) → IfSome v (IsNodeWithin (length net))
fault_within net None h = tt
fault_within net (Some b) h = subst (λ c. IsNodeWithin c b) (zero_first net) (faults_from 0 net b h)
