-- The first number and the least name that pass a test, and the shortest cycle.
use Rattle.std.proofs.Common.{◌≡◌, ℕ, zero, suc, ◌+◌, ◌-◌, ◌<◌, ◌≤◌, ◌⊎◌, inl, inr, Bool, true, false, if◌then◌else◌, nat_lt, List, length, Option, Some, None, option_map, is_some, refl, sym, ap, ◌∙◌, subst, arith, IsTrue}
use Rattle.std.proofs.lemmas.Bool.{lt-ltb, eq-eqb}
use Rattle.dn_base.proofs.Booleans.{or_left, or_right, and_from}
use Rattle.dn_net.specs.declared.node.Name.{Name}
use Rattle.dn_net.specs.declared.node.NodeDecl.{NodeDecl}
use Rattle.dn_net.specs.Chain.{IsChain}
use Rattle.dn_net.specs.Decode.{top, step_limit, Step}
use Rattle.dn_net.specs.Names.{name_lt}
use Rattle.dn_net.specs.Firsts.{or_else, first_below, least_in, least_below, least_name}
use Rattle.dn_net.specs.WalkRules.{comes_back, has_cycle, shortest_within, shortest_cycle, IsShortestCycle, ShortestCycleIsShortest}
use Rattle.dn_net.specs.Rules.{KeepsNodeRules}
use Rattle.dn_net.proofs.Cycles.{comes_to_is_chain, stepping_in_range}

first_below-zero : (p : ℕ → Bool) → first_below p 0 ≡ None
unfolding first_below
first_below-zero p = refl

first_below-suc : (p : ℕ → Bool) (n : ℕ) → first_below p (suc n) ≡ or_else (first_below p n) (if p n then Some n else None)
unfolding first_below
first_below-suc p n = refl

-- a number below a bound is the last one, or below it
last_or_below : (b n : ℕ) → b < suc n → (b ≡ n) ⊎ (b < n)
last_or_below b n l = grind arith

-- the first of the numbers that pass, or that none does
pub record IsFirst (p : ℕ → Bool) (n a : ℕ) : Type 0 where
  pub passes : p a ≡ true
  pub below : a < n
  pub none_less : (b : ℕ) → b < a → p b ≡ false

abbrev pub IsFirstOr : (ℕ → Bool) → ℕ → Option ℕ → Type 0
IsFirstOr p n None = (b : ℕ) → b < n → p b ≡ false
IsFirstOr p n (Some a) = IsFirst p n a

pub first_is : (p : ℕ → Bool) (n : ℕ) → IsFirstOr p n (first_below p n)
first_is p zero = subst (λ o. IsFirstOr p 0 o) (sym (first_below-zero p)) (λ b l. absurd (omega arith))
first_is p (suc n) = subst (λ o. IsFirstOr p (suc n) o) (sym (first_below-suc p n)) (by (first_below p n) (first_is p n) (p n) refl)
  where
    by : (o : Option ℕ) → IsFirstOr p n o → (v : Bool) → p n ≡ v → IsFirstOr p (suc n) (or_else o (if v then Some n else None))
    by (Some a) f v e = let l : a < n = f.below in record { passes = f.passes; below = (omega arith); none_less = f.none_less }
    by None f true e = record { passes = e; below = (omega arith); none_less = f }
    by None f false e = λ b l. elim (last_or_below b n l) [ inl s ↦ ap p s ∙ e | inr k ↦ f b k ]

-- the order of names
pub lower_node : (x y : Name) → x.node < y.node → IsTrue (name_lt x y)
lower_node x y l = or_left _ _ (lt-ltb x.node y.node l)

pub lower_addr : (x y : Name) → x.node ≡ y.node → x.addr < y.addr → IsTrue (name_lt x y)
lower_addr x y e l = or_right (nat_lt x.node y.node) _ (and_from _ _ (eq-eqb x.node y.node e) (lt-ltb x.addr y.addr l))

-- the name comes before the other, or is it
abbrev pub NoLater : Name → Name → Type 0
NoLater x y = IsTrue (name_lt x y) ⊎ (x ≡ y)

-- the least name of the first so many nodes that passes, or that none does
pub record IsLeastName (p : Name → Bool) (n : ℕ) (x : Name) : Type 0 where
  pub passes : p x ≡ true
  pub node : x.node < n
  pub addr : x.addr ≤ top
  pub least : (z : Name) → z.node < n → z.addr ≤ top → p z ≡ true → NoLater x z

abbrev pub IsLeastNameOr : (Name → Bool) → ℕ → Option Name → Type 0
IsLeastNameOr p n None = (z : Name) → z.node < n → z.addr ≤ top → p z ≡ true → ⊥
IsLeastNameOr p n (Some x) = IsLeastName p n x

-- of one node
record IsLeastOf (p : Name → Bool) (n : ℕ) (x : Name) : Type 0 where
  passes : p x ≡ true
  node : x.node ≡ n
  addr : x.addr ≤ top
  least : (z : Name) → z.node ≡ n → z.addr ≤ top → p z ≡ true → NoLater x z

abbrev IsLeastOfOr : (Name → Bool) → ℕ → Option Name → Type 0
IsLeastOfOr p n None = (z : Name) → z.node ≡ n → z.addr ≤ top → p z ≡ true → ⊥
IsLeastOfOr p n (Some x) = IsLeastOf p n x

at_node : (p : Name → Bool) (n : ℕ) (z : Name) → z.node ≡ n → p z ≡ true → p (record { node = n; addr = z.addr }) ≡ true
at_node p n z e h = subst (λ m. p (record { node = m; addr = z.addr }) ≡ true) e h

least_in_is : (p : Name → Bool) (n bound : ℕ) → bound ≡ top + 1 → IsLeastOfOr p n (option_map (λ a. record { node = n; addr = a }) (first_below (λ a. p (record { node = n; addr = a })) bound))
least_in_is p n bound eb = by (first_below q bound) (first_is q bound)
  where
    q : ℕ → Bool
    q a = p (record { node = n; addr = a })

    order : (a b : ℕ) → (b < a) ⊎ ((a < b) ⊎ (a ≡ b))
    order a b = grind arith

    by : (o : Option ℕ) → IsFirstOr q bound o → IsLeastOfOr p n (option_map (λ a. record { node = n; addr = a }) o)
    by None f = λ z e l h. let b : z.addr < bound = omega arith in let g : false ≡ true = sym (f z.addr b) ∙ at_node p n z e h in cc
    by (Some a) f = record { passes = f.passes; node = refl; addr = (let l : a < bound = f.below in omega arith); least = least }
      where
        least : (z : Name) → z.node ≡ n → z.addr ≤ top → p z ≡ true → NoLater (record { node = n; addr = a }) z
        least z e l h = elim (order a z.addr) [
          | inl k ↦ (let g : false ≡ true = sym (f.none_less z.addr k) ∙ at_node p n z e h in cc)
          | inr (inl k) ↦ inl (lower_addr (record { node = n; addr = a }) z (sym e) k)
          | inr (inr k) ↦ inr (λ i. record { node = sym e i; addr = k i })
        ]

pub least_below_is : (p : Name → Bool) (n : ℕ) → IsLeastNameOr p n (least_below p n)
least_below_is p zero = λ z l t h. absurd (omega arith)
least_below_is p (suc n) = by (least_below p n) (least_below_is p n) (least_in p n) (least_in_is p n (top + 1) refl)
  where
    by : (o : Option Name) → IsLeastNameOr p n o → (u : Option Name) → IsLeastOfOr p n u → IsLeastNameOr p (suc n) (or_else o u)
    by (Some x) f u g = record { passes = f.passes; node = (let k : x.node < n = f.node in omega arith); addr = f.addr; least = least }
      where
        least : (z : Name) → z.node < suc n → z.addr ≤ top → p z ≡ true → NoLater x z
        least z l t h = elim (last_or_below z.node n l) [
          | inl e ↦ (let k : x.node < n = f.node in inl (lower_node x z (omega arith)))
          | inr k ↦ f.least z k t h
        ]
    by None f None g = λ z l t h. elim (last_or_below z.node n l) [ inl e ↦ g z e t h | inr k ↦ f z k t h ]
    by None f (Some x) g = record { passes = g.passes; node = (let e : x.node ≡ n = g.node in omega arith); addr = g.addr; least = (λ z l t h. elim (last_or_below z.node n l) [ inl e ↦ g.least z e t h | inr k ↦ absurd (f z k t h) ]) }

pub least_name_is : (net : List NodeDecl) (p : Name → Bool) (o : Option Name) → least_name net p ≡ o → IsLeastNameOr p (length net) o
least_name_is net p o e = subst (λ o. IsLeastNameOr p (length net) o) e (least_below_is p (length net))

-- whether some name comes back
no_cycle : (net : List NodeDecl) → KeepsNodeRules net → (k : ℕ) → 1 ≤ k → has_cycle net k ≡ false → (x : Name) → IsChain (Step net) k x x → ⊥
no_cycle net checked k l h x c = by (least_name net (comes_back net k)) refl h
  where
    by : (o : Option Name) → least_name net (comes_back net k) ≡ o → is_some o ≡ false → ⊥
    by None e f = let i = stepping_in_range net checked k x x l c in least_name_is net (comes_back net k) None e x i.0 i.1 ((comes_to_is_chain net k x x).1 c)
    by (Some y) e f = cc

a_cycle : (net : List NodeDecl) (k : ℕ) → has_cycle net k ≡ true → (x : Name) × IsChain (Step net) k x x
a_cycle net k h = by (least_name net (comes_back net k)) refl h
  where
    by : (o : Option Name) → least_name net (comes_back net k) ≡ o → is_some o ≡ true → (x : Name) × IsChain (Step net) k x x
    by None e f = cc
    by (Some y) e f = (y, (comes_to_is_chain net k y y).0 (least_name_is net (comes_back net k) (Some y) e).passes)

-- the shortest cycle of at most so many steps, or that there is none
pub record IsShortest (net : List NodeDecl) (n c : ℕ) : Type 0 where
  pub least : 1 ≤ c
  pub most : c ≤ n
  pub cycle : (x : Name) × IsChain (Step net) c x x
  pub none_less : (k : ℕ) (x : Name) → 1 ≤ k → k < c → IsChain (Step net) k x x → ⊥

abbrev pub IsShortestOr : List NodeDecl → ℕ → Option ℕ → Type 0
IsShortestOr net n None = (k : ℕ) (x : Name) → 1 ≤ k → k ≤ n → IsChain (Step net) k x x → ⊥
IsShortestOr net n (Some c) = IsShortest net n c

pub shortest_within_is : (net : List NodeDecl) → KeepsNodeRules net → (n : ℕ) → IsShortestOr net n (shortest_within net n)
shortest_within_is net checked zero = λ k x l m c. absurd (omega arith)
shortest_within_is net checked (suc n) = by (shortest_within net n) (shortest_within_is net checked n) (has_cycle net (suc n)) refl
  where
    last_or : (k : ℕ) → k ≤ suc n → (k ≡ suc n) ⊎ (k ≤ n)
    last_or k l = grind arith

    by : (o : Option ℕ) → IsShortestOr net n o → (v : Bool) → has_cycle net (suc n) ≡ v → IsShortestOr net (suc n) (or_else o (if v then Some (suc n) else None))
    by (Some c) f v e = record { least = f.least; most = (let l : c ≤ n = f.most in omega arith); cycle = f.cycle; none_less = f.none_less }
    by None f true e = record { least = (omega arith); most = (omega arith); cycle = a_cycle net (suc n) e; none_less = (λ k x l m c. f k x l (omega arith) c) }
    by None f false e = λ k x l m c. elim (last_or k m) [
      | inl s ↦ no_cycle net checked (suc n) (omega arith) e x (subst (λ j. IsChain (Step net) j x x) s c)
      | inr j ↦ f k x l j c
    ]

pub shortest_is : (net : List NodeDecl) → shortest_cycle net ≡ shortest_within net (step_limit - 1)
unfolding shortest_cycle
shortest_is net = refl

-- there are steps to take
pub some_steps : 1 ≤ step_limit
unfolding step_limit
some_steps = omega arith

pub shortest_cycle_is : (net : List NodeDecl) → KeepsNodeRules net → (o : Option ℕ) → shortest_cycle net ≡ o → IsShortestOr net (step_limit - 1) o
shortest_cycle_is net checked o e = subst (λ u. IsShortestOr net (step_limit - 1) u) (sym (shortest_is net) ∙ e) (shortest_within_is net checked (step_limit - 1))

pub shortest_cycle_is_shortest : ShortestCycleIsShortest
shortest_cycle_is_shortest net checked = (some, none)
  where
    less : (c limit : ℕ) → 1 ≤ limit → c ≤ limit - 1 → c < limit
    less c limit l m = omega arith

    no_more : (c limit : ℕ) → c < limit → c ≤ limit - 1
    no_more c limit l = omega arith

    some : (c : ℕ) → shortest_cycle net ≡ Some c → IsShortestCycle net c
    some c e =
        let f = shortest_cycle_is net checked (Some c) e in
        record { least = f.least; most = less c step_limit some_steps f.most; cycle = f.cycle; none_less = f.none_less }

    none : shortest_cycle net ≡ None → (k : ℕ) (x : Name) → 1 ≤ k → k < step_limit → IsChain (Step net) k x x → ⊥
    none e k x l m c = shortest_cycle_is net checked None e k x l (no_more k step_limit m) c
