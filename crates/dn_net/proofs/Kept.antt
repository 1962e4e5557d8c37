-- Nodes that keep the node rules: what their blocks are, and that a net breaks none of the rules exactly where each node keeps them.
use Rattle.std.proofs.Common.{◌≡◌, ℕ, zero, suc, ◌+◌, ◌<◌, ◌≤◌, ◌⊎◌, inl, inr, Bool, true, false, if◌then◌else◌, List, [], ◌∷◌, Option, Some, None, option_map, IsSome, refl, sym, ◌∙◌, subst, slice_get, true≢false, All}
use Rattle.std.proofs.lemmas.Bool.{cases_lt, lt-ltb}
use Rattle.std.proofs.lemmas.Option.{get_or_from_slice_get, slice_get_within, slice_get-get_or}
use Rattle.dn_base.proofs.Booleans.{or_left}
use Rattle.dn_net.specs.declared.node.Entry.{Entry}
use Rattle.dn_net.specs.declared.node.NodeDecl.{NodeDecl}
use Rattle.dn_net.specs.Rules.{BrokenNode, out_of_range, repeating, past_space, is_in_range, overlaps, map_blocks_at, least_overlap, repeats, passes_vector_space, later_fault, fault_of_node, first_fault, node_fault_from, node_fault, KeepsRules}
use Rattle.dn_net.proofs.Faults.{least_is_none, no_fault}
use Rattle.dn_net.proofs.Least.{least_overlap_is_least, maps_at}

-- each node of a net that keeps the rules
pub kept_at : (net : List NodeDecl) (i : ℕ) → All KeepsRules net → (d : NodeDecl) → slice_get net i ≡ Some d → KeepsRules d
kept_at net i each d at = subst (λ n. KeepsRules n) (get_or_from_slice_get net i d d at) (each i d (slice_get_within net i d at))

-- no address lies in two map blocks of a node that keeps the rules
pub few_maps : (d : NodeDecl) → KeepsRules d → (a : ℕ) → map_blocks_at d a ≤ 1
few_maps d kept a = by (cases_lt 1 (map_blocks_at d a))
  where
    by : (1 < map_blocks_at d a) ⊎ (map_blocks_at d a ≤ 1) → map_blocks_at d a ≤ 1
    by (inr l) = l
    by (inl l) = absurd (true≢false (sym (or_left _ _ (lt-ltb _ _ l)) ∙ kept.apart a))

pub entries_apart : (o : Option NodeDecl) (es : List Entry) → ((d : NodeDecl) → o ≡ Some d → KeepsRules d) → option_map (λ d. d.entries) o ≡ Some es → (a : ℕ) → maps_at es a ≤ 1
entries_apart None es kept at a = cc
entries_apart (Some d) es kept at a =
    let e : d.entries ≡ es = cc in
    subst (λ l. maps_at l a ≤ 1) e (few_maps d (kept d refl) a)

-- where no address is the least that overlaps, none overlaps
none_overlaps : (d : NodeDecl) → least_overlap d ≡ None → (a : ℕ) → overlaps d a ≡ false
none_overlaps d none a = by (overlaps d a) refl
  where
    some : (o : Option ℕ) → o ≡ None → IsSome o → true ≡ false
    some None e h = cc
    some (Some x) e h = cc

    by : (b : Bool) → overlaps d a ≡ b → b ≡ false
    by false e = refl
    by true e = some (least_overlap d) none ((least_overlap_is_least d).1 a e)

-- a node that breaks no rule keeps the rules
node_kept : (number : ℕ) (d : NodeDecl) → fault_of_node number d ≡ None → KeepsRules d
node_kept number d h = in_range (is_in_range d) refl h
  where
    space : is_in_range d ≡ true → least_overlap d ≡ None → repeats d ≡ false → (b : Bool) → passes_vector_space d ≡ b → (if b then None else Some (past_space number)) ≡ None → KeepsRules d
    space r o t true e h = record { in_range = r; apart = none_overlaps d o; once = t; space = e }
    space r o t false e h = cc

    once : is_in_range d ≡ true → least_overlap d ≡ None → (b : Bool) → repeats d ≡ b → (if b then Some (repeating number) else (if passes_vector_space d then None else Some (past_space number))) ≡ None → KeepsRules d
    once r o true e h = cc
    once r o false e h = space r o e (passes_vector_space d) refl h

    apart : is_in_range d ≡ true → (o : Option ℕ) → least_overlap d ≡ o → later_fault number d o ≡ None → KeepsRules d
    apart r None e h = once r e (repeats d) refl h
    apart r (Some a) e h = cc

    in_range : (b : Bool) → is_in_range d ≡ b → (if b then later_fault number d (least_overlap d) else Some (out_of_range number)) ≡ None → KeepsRules d
    in_range true e h = apart e (least_overlap d) refl h
    in_range false e h = cc

first_none : (f g : Option BrokenNode) → first_fault f g ≡ None → (f ≡ None) × (g ≡ None)
first_none None g h = (refl, h)
first_none (Some f) g h = cc

kept_from : (number : ℕ) (net : List NodeDecl) (i : ℕ) (d : NodeDecl) → node_fault_from number net ≡ None → slice_get net i ≡ Some d → KeepsRules d
kept_from number [] i d h at = cc
kept_from number (n ∷ net) zero d h at =
    let s : n ≡ d = cc in
    subst (λ m. KeepsRules m) s (node_kept number n (first_none (fault_of_node number n) (node_fault_from (number + 1) net) h).0)
kept_from number (n ∷ net) (suc i) d h at = kept_from (number + 1) net i d (first_none (fault_of_node number n) (node_fault_from (number + 1) net) h).1 at

-- each node of a net that breaks no node rule keeps the rules
pub each_kept : (net : List NodeDecl) → node_fault net ≡ None → All KeepsRules net
each_kept net h = λ k d l. kept_from 0 net k _ h (slice_get-get_or net k d l)

faultless_from : (number : ℕ) (net : List NodeDecl) → ((i : ℕ) (d : NodeDecl) → slice_get net i ≡ Some d → KeepsRules d) → node_fault_from number net ≡ None
faultless_from number [] kept = refl
faultless_from number (n ∷ net) kept =
    let k = kept 0 n refl in
    rw (no_fault number n k.in_range (least_is_none n k.apart) k.once k.space) (faultless_from (number + 1) net (λ i d at. kept (suc i) d at))

-- and where each node keeps them no rule is broken
pub none_broken : (net : List NodeDecl) → All KeepsRules net → node_fault net ≡ None
none_broken net each = faultless_from 0 net (λ i d at. kept_at net i each d at)
