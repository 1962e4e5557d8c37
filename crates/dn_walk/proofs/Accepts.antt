-- Sets of addresses that are made from accept blocks, and those of all nodes.
use Rattle.std.proofs.Common.{◌≡◌, ℕ, zero, suc, ◌<◌, ◌≤◌, inl, inr, Bool, true, false, ◌&&◌, nat_le, List, [], ◌∷◌, length, get_or, slice_get, Option, Some, None, option_map, IsTrue, refl, sym, ap, ◌∙◌, arith, leb-true, le-leb}
use Rattle.std.specs.List.{list_all}
use Rattle.std.proofs.lemmas.Bool.{or_cases, and_parts, false≢true, cases_lt}
use Rattle.std.proofs.lemmas.List.{get_or_past}
use Rattle.dn_base.proofs.Booleans.{and-false}
use Rattle.dn_interval.specs.declared.span.Span.{Span}
use Rattle.dn_interval.specs.Spans.{has}
use Rattle.dn_net.specs.declared.node.Block.{Block}
use Rattle.dn_net.specs.declared.node.NodeDecl.{NodeDecl}
use Rattle.dn_net.specs.Decode.{top, within, in_some_block, is_accepted_at}
use Rattle.dn_net.specs.Rules.{block_in_range}

below_top : (bs : List Block) (a : ℕ) → IsTrue (list_all block_in_range bs) → in_some_block a bs ≡ true → a ≤ top
below_top [] a e f = absurd (false≢true f)
below_top (b ∷ bs) a e f =
    let p = and_parts (block_in_range b) (list_all block_in_range bs) e in
    let q = and_parts (nat_le b.lo b.hi) (nat_le b.hi top) p.0 in
    let hi : b.hi ≤ top = leb-true b.hi top q.1 in
    elim (or_cases (within a b) (in_some_block a bs) f) [
      | inl g ↦ let h : a ≤ b.hi = leb-true a b.hi (and_parts (nat_le b.lo a) (nat_le a b.hi) g).1 in omega arith
      | inr g ↦ below_top bs a p.1 g
    ]

-- a set of the addresses of a node's accept blocks has what the node accepts
pub accepted_by : (o : Option NodeDecl) (bs : List Block) (set : List Span) → IsTrue (list_all block_in_range bs) → option_map (λ (d : NodeDecl). d.accepts) o ≡ Some bs → ((a : ℕ) → has set a ≡ in_some_block a bs) → (a : ℕ) → has set a ≡ is_accepted_at a o
accepted_by None bs set range at same a = cc
accepted_by (Some d) bs set range at same a =
    let e : bs ≡ d.accepts = cc in
    same a ∙ sym (go (in_some_block a bs) refl) ∙ ap (λ l. nat_le a top && in_some_block a l) e
  where
    go : (b : Bool) → in_some_block a bs ≡ b → (nat_le a top && in_some_block a bs) ≡ in_some_block a bs
    go true f = ap (λ t. t && in_some_block a bs) (le-leb a top (below_top bs a range f))
    go false f = rw f (and-false (nat_le a top))

none_past : (net : List NodeDecl) (n a : ℕ) → length net ≤ n → is_accepted_at a (slice_get net n) ≡ false
none_past [] n a l = refl
none_past (d ∷ net) zero a l = absurd (omega arith)
none_past (d ∷ net) (suc n) a l = none_past net n a (omega arith)

-- the sets of all nodes
pub every_set : (net : List NodeDecl) (sets : List (List Span)) → length sets ≡ length net → ((n a : ℕ) → n < length net → has (get_or sets n []) a ≡ is_accepted_at a (slice_get net n)) → (n a : ℕ) → has (get_or sets n []) a ≡ is_accepted_at a (slice_get net n)
every_set net sets e f n a = elim (cases_lt n (length net)) [
  | inl l ↦ f n a l
  | inr l ↦ ap (λ s. has s a) (get_or_past sets n [] (omega arith)) ∙ sym (none_past net n a l)
]
