-- The first rule that a node breaks, from what its parts say.
use Rattle.std.proofs.Common.{◌≡◌, ℕ, zero, suc, ◌+◌, ◌<◌, ◌≤◌, Bool, true, false, ◌&&◌, ◌||◌, not, nat_le, List, [], ◌∷◌, Option, Some, None, option_map, is_some, IsSome, IfSome, refl, sym, ap, ◌∙◌, subst, arith, IsTrue, length, slice_get, drop}
use Rattle.std.specs.List.{list_all, list_any}
use Rattle.dn_base.proofs.Booleans.{and_parts}
use Rattle.dn_base.proofs.Orders.{le_antisymm}
use Rattle.dn_base.proofs.Lists.{item_there}
use Rattle.dn_net.specs.declared.node.Block.{Block}
use Rattle.dn_net.specs.declared.node.Entry.{Entry}
use Rattle.dn_net.specs.declared.node.Role.{Role}
use Rattle.dn_net.specs.declared.node.Unit.{Unit as UnitPart}
use Rattle.dn_net.specs.declared.node.NodeDecl.{NodeDecl}
use Rattle.dn_net.specs.declared.spans.NodeBlock.{NodeBlock}
use Rattle.dn_net.specs.Decode.{top}
use Rattle.dn_net.specs.Spans.{overlaps_in, is_accepted_in}
use Rattle.dn_net.specs.Rules.{BrokenNode, out_of_range, overlapping, repeating, past_space, is_in_range, block_in_range, entry_in_range, dests_repeat, unit_repeats, is_vectors, count_below, overlaps, least_overlap, repeats, passes_vector_space, fault_of_node, first_fault, node_fault_from}
use Rattle.dn_net.proofs.Least.{least_overlap_is_least}
use Rattle.dn_net.proofs.Blocks.{AreBlocksOf, spans_overlap, spans_count}

-- a part of a node that is there
pub part_is : {Y : Type 0} (f : NodeDecl → Y) (o : Option NodeDecl) (d : NodeDecl) (y : Y) → o ≡ Some d → option_map f o ≡ Some y → f d ≡ y
part_is f None d y e g = cc
part_is f (Some n) d y e g = let s : n ≡ d = cc in let t : f n ≡ y = cc in ap f (sym s) ∙ t

-- the least address that overlaps is the only one
pub least_is : (d : NodeDecl) (x : ℕ) → overlaps d x ≡ true → ((b : ℕ) → overlaps d b ≡ true → x ≤ b) → least_overlap d ≡ Some x
least_is d x h least = by (least_overlap d) refl ((least_overlap_is_least d).1 x h)
  where
    by : (o : Option ℕ) → least_overlap d ≡ o → IsSome (least_overlap d) → o ≡ Some x
    by None e some = cc
    by (Some y) e some = let r = (least_overlap_is_least d).0 y e in ap (λ n. Some n) (le_antisymm (r.none_less x h) (least y r.overlap))

pub least_is_none : (d : NodeDecl) → ((b : ℕ) → overlaps d b ≡ false) → least_overlap d ≡ None
least_is_none d none = by (least_overlap d) refl
  where
    by : (o : Option ℕ) → least_overlap d ≡ o → o ≡ None
    by None e = refl
    by (Some y) e = let r = (least_overlap_is_least d).0 y e in let f : true ≡ false = sym r.overlap ∙ none y in cc

-- what the parts of a node and its blocks in any order say of its rules
module _ (o : Option NodeDecl) (d : NodeDecl) (at : o ≡ Some d) (accepts : List Block) (entries : List Entry) (accs : option_map (λ d. d.accepts) o ≡ Some accepts) (ents : option_map (λ d. d.entries) o ≡ Some entries) where
  acc : d.accepts ≡ accepts
  acc = part_is (λ d. d.accepts) o d accepts at accs

  ent : d.entries ≡ entries
  ent = part_is (λ d. d.entries) o d entries at ents

  pub range_is : (b : Bool) → (list_all block_in_range accepts && list_all entry_in_range entries) ≡ b → is_in_range d ≡ b
  range_is b h = (λ i. list_all block_in_range (acc i) && list_all entry_in_range (ent i)) ∙ h

  pub range_parts : (list_all block_in_range accepts && list_all entry_in_range entries) ≡ true → IsTrue (list_all block_in_range d.accepts) × IsTrue (list_all entry_in_range d.entries)
  range_parts h = and_parts (list_all block_in_range d.accepts) (list_all entry_in_range d.entries) (range_is true h)

  pub repeats_is : (b : Bool) (u : Option UnitPart) → option_map (λ d. d.unit) o ≡ Some u → (list_any (λ e. dests_repeat e.dests) entries || unit_repeats u) ≡ b → repeats d ≡ b
  repeats_is b u us h = let e = part_is (λ d. d.unit) o d u at us in (λ i. list_any (λ e. dests_repeat e.dests) (ent i) || unit_repeats (e i)) ∙ h

  module _ (spans : List NodeBlock) (of_node : AreBlocksOf d spans) where
    pub overlap_is : (x : ℕ) → IsTrue (overlaps_in spans x) → ((b : ℕ) → IsTrue (overlaps_in spans b) → x ≤ b) → least_overlap d ≡ Some x
    overlap_is x h least = least_is d x (sym (spans_overlap d spans of_node x) ∙ h) (λ b k. least b (spans_overlap d spans of_node b ∙ k))

    pub no_overlap_is : ((b : ℕ) → overlaps_in spans b ≡ false) → least_overlap d ≡ None
    no_overlap_is none = least_is_none d (λ b. sym (spans_overlap d spans of_node b) ∙ none b)

    pub space_is : (b : Bool) (role : Role) (over : Option ℕ) → option_map (λ d. d.role) o ≡ Some role → option_map (λ d. d.over) o ≡ Some over → (not (is_vectors role) || ((nat_le (length entries) 0 && not (is_some over)) && nat_le (count_below (is_accepted_in spans) (top + 1)) 4096)) ≡ b → passes_vector_space d ≡ b
    space_is b role over rs os h =
        let r = part_is (λ d. d.role) o d role at rs in
        let p = part_is (λ d. d.over) o d over at os in
        (λ i. not (is_vectors (r i)) || ((nat_le (length (ent i)) 0 && not (is_some (p i))) && nat_le (sym (spans_count d spans of_node) i) 4096)) ∙ h

pub fault_range : (number : ℕ) (d : NodeDecl) → is_in_range d ≡ false → fault_of_node number d ≡ Some (out_of_range number)
fault_range number d range = rw range refl

pub fault_overlap : (number : ℕ) (d : NodeDecl) (x : ℕ) → is_in_range d ≡ true → least_overlap d ≡ Some x → fault_of_node number d ≡ Some (overlapping number x)
fault_overlap number d x range least = rw (range, least) refl

pub fault_repeat : (number : ℕ) (d : NodeDecl) → is_in_range d ≡ true → least_overlap d ≡ None → repeats d ≡ true → fault_of_node number d ≡ Some (repeating number)
fault_repeat number d range least again = rw (range, least, again) refl

pub fault_space : (number : ℕ) (d : NodeDecl) → is_in_range d ≡ true → least_overlap d ≡ None → repeats d ≡ false → passes_vector_space d ≡ false → fault_of_node number d ≡ Some (past_space number)
fault_space number d range least again space = rw (range, least, again, space) refl

pub no_fault : (number : ℕ) (d : NodeDecl) → is_in_range d ≡ true → least_overlap d ≡ None → repeats d ≡ false → passes_vector_space d ≡ true → fault_of_node number d ≡ None
no_fault number d range least again space = rw (range, least, again, space) refl

drop_there : (net : List NodeDecl) (i : ℕ) (d : NodeDecl) → slice_get net i ≡ Some d → drop i net ≡ d ∷ drop (suc i) net
drop_there [] i d at = cc
drop_there (x ∷ net) zero d at = let s : x ≡ d = cc in ap (λ y. y ∷ net) s
drop_there (x ∷ net) (suc i) d at = drop_there net i d at

-- the first fault from a node on
pub fault_from : (number : ℕ) (net : List NodeDecl) (d : NodeDecl) → slice_get net number ≡ Some d → node_fault_from number (drop number net) ≡ first_fault (fault_of_node number d) (node_fault_from (number + 1) (drop (number + 1) net))
fault_from number net d at =
    let e : suc number ≡ number + 1 = omega arith in
    let f = subst (λ n. drop number net ≡ d ∷ drop n net) e (drop_there net number d at) in
    ap (λ l. node_fault_from number l) f

pub fault_here : (number : ℕ) (net : List NodeDecl) (whole : Option BrokenNode) (o : Option BrokenNode) → whole ≡ node_fault_from number (drop number net) → number < length net → ((d : NodeDecl) → slice_get net number ≡ Some d → IfSome o (λ f. fault_of_node number d ≡ Some f)) → IfSome o (λ f. whole ≡ Some f)
fault_here number net whole None same h broken = tt
fault_here number net whole (Some e) same h broken =
    let d = item_there net number h in
    same ∙ fault_from number net d.0 d.1 ∙ ap (λ f. first_fault f (node_fault_from (number + 1) (drop (number + 1) net))) (broken d.0 d.1)

pub fault_later : (number : ℕ) (net : List NodeDecl) → number < length net → ((d : NodeDecl) → slice_get net number ≡ Some d → fault_of_node number d ≡ None) → node_fault_from number (drop number net) ≡ node_fault_from (number + 1) (drop (number + 1) net)
fault_later number net h kept =
    let d = item_there net number h in
    fault_from number net d.0 d.1 ∙ ap (λ f. first_fault f (node_fault_from (number + 1) (drop (number + 1) net))) (kept d.0 d.1)
