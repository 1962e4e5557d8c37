-- The first address that a node does not accept: behind the blocks that go on from one another.
use Rattle.std.proofs.Common.{◌≡◌, ◌∙◌, sym, ap, refl, subst, ℕ, zero, suc, ◌+◌, ◌-◌, ◌<◌, ◌≤◌, ◌⊎◌, inl, inr, Bool, true, false, if◌then◌else◌, ◌&&◌, ◌||◌, nat_eq, nat_le, List, [], ◌∷◌, Option, Some, None, IsTrue, arith, leb-true}
use Rattle.std.specs.List.{list_all}
use Rattle.std.proofs.lemmas.Bool.{cases_lt, and_parts, le-leb, lt-ltb}
use Rattle.dn_base.proofs.Booleans.{and-false}
use Rattle.dn_base.proofs.Orders.{lt-not_le}
use Rattle.dn_net.specs.declared.node.Block.{Block}
use Rattle.dn_net.specs.declared.node.NodeDecl.{NodeDecl}
use Rattle.dn_net.specs.Decode.{top, within, in_some_block, is_accepted_at}
use Rattle.dn_net.specs.Rules.{block_in_range}
use Rattle.dn_net.proofs.Least.{within_from}
use Rattle.dn_net.proofs.Woven.{Ascends, lower}
use Rattle.dn_place.specs.Targets.{refused_address, unaccepted_from}

-- an address that does not lie in the first of some blocks lies in one of them where it lies in one of the others
by_others : (a : ℕ) (b : Block) (bs : List Block) → within a b ≡ false → in_some_block a (b ∷ bs) ≡ in_some_block a bs
by_others a b bs e = rw e refl

below : (a : ℕ) (b : Block) → a < b.lo → within a b ≡ false
below a b l = rw (lt-not_le a b.lo (lt-ltb a b.lo l)) refl

behind : (a : ℕ) (b : Block) → b.hi < a → within a b ≡ false
behind a b l = by (nat_le b.lo a)
  where
    by : (s : Bool) → (s && nat_le a b.hi) ≡ false
    by false = refl
    by true = lt-not_le b.hi a (lt-ltb b.hi a l)

-- none of some blocks in order has an address below the first of them
none_below : (a n : ℕ) (bs : List Block) → a < n → Ascends (λ (b : Block). b.lo) n bs → in_some_block a bs ≡ false
none_below a n [] l up = refl
none_below a n (b ∷ bs) l up =
    let lo : n ≤ b.lo = up.0 in
    let less : a < b.lo = omega (arith, l, lo) in
    by_others a b bs (below a b less) ∙ none_below a b.lo bs less up.1

-- so far came a pass over blocks in order, of which these are left: all addresses from the base on before
-- the first lie in some block, and from there on those left have what all have
pub record IsPassed (base first : ℕ) (bs rest : List Block) : Type 0 where
  pub from : base ≤ first
  pub inside : (a : ℕ) → base ≤ a → a < first → in_some_block a bs ≡ true
  pub left : (a : ℕ) → first ≤ a → in_some_block a rest ≡ in_some_block a bs
  pub order : Ascends (λ (b : Block). b.lo) 0 rest

pub none_passed : (base : ℕ) (bs : List Block) → Ascends (λ (b : Block). b.lo) 0 bs → IsPassed base base bs bs
none_passed base bs up = record { from = omega arith; inside = λ a l m. absurd (omega arith); left = λ a l. refl; order = up }

-- past a block that has the first
pub passed_in : (base first : ℕ) (bs : List Block) (b : Block) (rest : List Block) → IsPassed base first bs (b ∷ rest) → b.lo ≤ first → first ≤ b.hi → IsPassed base (b.hi + 1) bs rest
passed_in base first bs b rest p lo hi = record {
  from = (let f = p.from in omega arith);
  inside = λ a l m. by a l m (cases_lt a first);
  left = λ a l. sym (by_others a b rest (behind a b (omega arith))) ∙ p.left a (omega arith);
  order = lower (λ (x : Block). x.lo) 0 b.lo rest (omega arith) p.order.1;
}
  where
    by : (a : ℕ) → base ≤ a → a < b.hi + 1 → (a < first) ⊎ (first ≤ a) → in_some_block a bs ≡ true
    by a l m (inl n) = p.inside a l n
    by a l m (inr n) =
        let has : within a b ≡ true = within_from a b (omega arith) (omega arith) in
        sym (p.left a n) ∙ ap (λ (s : Bool). s || in_some_block a rest) has

-- past a block that ends before it
pub passed_by : (base first : ℕ) (bs : List Block) (b : Block) (rest : List Block) → IsPassed base first bs (b ∷ rest) → b.hi < first → IsPassed base first bs rest
passed_by base first bs b rest p hi = record {
  from = p.from;
  inside = p.inside;
  left = λ a l. sym (by_others a b rest (behind a b (omega arith))) ∙ p.left a l;
  order = lower (λ (x : Block). x.lo) 0 b.lo rest (omega arith) p.order.1;
}

-- no block has the first where one begins past it, or none is left
pub outside_before : (base first : ℕ) (bs : List Block) (b : Block) (rest : List Block) → IsPassed base first bs (b ∷ rest) → first < b.lo → in_some_block first bs ≡ false
outside_before base first bs b rest p lo =
    sym (p.left first (omega arith))
    ∙ by_others first b rest (below first b lo)
    ∙ none_below first b.lo rest lo p.order.1

pub outside_last : (base first : ℕ) (bs : List Block) → IsPassed base first bs [] → in_some_block first bs ≡ false
outside_last base first bs p = sym (p.left first (omega arith))

-- blocks in range have no address past the last
none_past : (bs : List Block) (a : ℕ) → IsTrue (list_all block_in_range bs) → in_some_block a bs ≡ true → a ≤ top
none_past [] a range e = cc
none_past (b ∷ bs) a range e =
    let range' = and_parts (block_in_range b) (list_all block_in_range bs) range in
    by (within a b) refl e range'.0 (none_past bs a range'.1)
  where
    by : (s : Bool) → within a b ≡ s → (s || in_some_block a bs) ≡ true → IsTrue (block_in_range b) → (in_some_block a bs ≡ true → a ≤ top) → a ≤ top
    by true w e r others =
        let h : b.hi ≤ top = leb-true b.hi top (and_parts (nat_le b.lo b.hi) (nat_le b.hi top) r).1 in
        let l : a ≤ b.hi = leb-true a b.hi (and_parts (nat_le b.lo a) (nat_le a b.hi) w).1 in
        omega (arith, h, l)
    by false w e r others = others e

-- a node accepts just what rows of the same addresses as its blocks have
pub rows_accept : (d : NodeDecl) (a : ℕ) (rows : List Block) → IsTrue (list_all block_in_range d.accepts) → in_some_block a rows ≡ in_some_block a d.accepts → is_accepted_at a (Some d) ≡ in_some_block a rows
rows_accept d a rows range same = by (in_some_block a d.accepts) refl ∙ sym same
  where
    by : (s : Bool) → in_some_block a d.accepts ≡ s → (nat_le a top && in_some_block a d.accepts) ≡ in_some_block a d.accepts
    by true e = rw (le-leb a top (none_past d.accepts a range e)) refl
    by false e = rw e (and-false (nat_le a top))

-- an address that is accepted is not past the last
pub accepted_low : (n : Option NodeDecl) (a : ℕ) → is_accepted_at a n ≡ true → a ≤ top
accepted_low None a e = cc
accepted_low (Some d) a e = leb-true a top (and_parts (nat_le a top) (in_some_block a d.accepts) e).0

-- an address is not accepted, and all before it from the base on are
pub record IsFirstUnaccepted (n : Option NodeDecl) (base first : ℕ) : Type 0 where
  pub from : base ≤ first
  pub accepted : (a : ℕ) → base ≤ a → a < first → is_accepted_at a n ≡ true
  pub unaccepted : is_accepted_at first n ≡ false

-- where the first address that is not accepted is one of so many, it is found there
pub found_from : (n : Option NodeDecl) (size base first : ℕ) → IsFirstUnaccepted n base first →
    first - base < size → unaccepted_from n base size ≡ Some first
found_from n zero base first is l = absurd (omega arith)
found_from n (suc size) base first is l = elim (cases_lt base first) [
  | inl more ↦ rw (is.accepted base (omega arith) more) (found_from n size (base + 1) first (onward n base first is more) (omega arith))
  | inr last ↦ (
      let e : base ≡ first = (let f = is.from in omega arith) in
      rw (subst (λ x. is_accepted_at x n ≡ false) (sym e) is.unaccepted) (ap Some e))
]
  where
    onward : (n : Option NodeDecl) (base first : ℕ) → IsFirstUnaccepted n base first → base < first → IsFirstUnaccepted n (base + 1) first
    onward n base first is l = record {
      from = omega arith;
      accepted = λ a m k. is.accepted a (omega arith) k;
      unaccepted = is.unaccepted;
    }

-- where it is none of them, none is found
pub none_from : (n : Option NodeDecl) (size base first : ℕ) →
    ((a : ℕ) → base ≤ a → a < first → is_accepted_at a n ≡ true) → base + size ≤ first →
    unaccepted_from n base size ≡ None
none_from n zero base first all l = refl
none_from n (suc size) base first all l =
    rw (all base (omega arith) (omega arith))
    (none_from n size (base + 1) first (λ a m k. all a (omega arith) k) (omega arith))

-- the refusal of a buffer that is not empty is for the first address that is not accepted, where it
-- is one of the buffer's
pub refused_found : (n : Option NodeDecl) (base size first : ℕ) → IsFirstUnaccepted n base first →
    nat_eq size 0 ≡ false → first - base < size → refused_address n base size ≡ Some first
refused_found n base size first is some l = rw some (found_from n size base first is l)

pub refused_none : (n : Option NodeDecl) (base size first : ℕ) → IsFirstUnaccepted n base first →
    nat_eq size 0 ≡ false → size ≤ first - base → refused_address n base size ≡ None
refused_none n base size first is some l =
    rw some (none_from n size base first is.accepted (let f = is.from in omega arith))

-- a buffer that is not refused is not empty, and ends at the last address or before
pub accepted_within : (n : Option NodeDecl) (base size : ℕ) → refused_address n base size ≡ None →
    (1 ≤ size) × (base + size ≤ top + 1)
accepted_within n base size e = go (nat_eq size 0) refl e
  where
    last : (size base : ℕ) → unaccepted_from n base (suc size) ≡ None → base + size ≤ top
    last zero base e = by (is_accepted_at base n) refl e
      where
        by : (b : Bool) → is_accepted_at base n ≡ b → (if b then unaccepted_from n (base + 1) zero else Some base) ≡ None → base + zero ≤ top
        by true h e = (let l = accepted_low n base h in omega arith)
        by false h e = cc
    last (suc size) base e = by (is_accepted_at base n) refl e (last size (base + 1))
      where
        by : (b : Bool) → is_accepted_at base n ≡ b → (if b then unaccepted_from n (base + 1) (suc size) else Some base) ≡ None →
            (unaccepted_from n (base + 1) (suc size) ≡ None → base + 1 + size ≤ top) → base + suc size ≤ top
        by true h e on = (let l = on e in omega arith)
        by false h e on = cc

    some : (size : ℕ) → nat_eq size 0 ≡ false → unaccepted_from n base size ≡ None → (1 ≤ size) × (base + size ≤ top + 1)
    some zero e h = cc
    some (suc size) e h = (omega arith, (let l = last size base h in omega arith))

    go : (b : Bool) → nat_eq size 0 ≡ b → (if b then Some base else unaccepted_from n base size) ≡ None → (1 ≤ size) × (base + size ≤ top + 1)
    go true e h = cc
    go false e h = some size e h
