-- The normal rows of claims that have two names or more are the rows of shared addresses.
use Rattle.std.proofs.Common.{◌≡◌, ℕ, suc, ◌+◌, ◌-◌, ◌<◌, ◌≤◌, ◌⊎◌, ◌↔◌, inl, inr, Bool, true, false, ◌&&◌, nat_lt, nat_eq, List, [], ◌∷◌, map, refl, sym, ap, ◌∙◌, subst, arith, IsTrue, if◌then◌else◌, ltb-true, eqb-true}
use Rattle.std.proofs.lemmas.Bool.{or_cases, or_left, or_right, and_parts, and_from, cases_lt, eq-eqb}
use Rattle.std.specs.List.{list_any}
use Rattle.dn_interval.specs.declared.row.Seg.{Seg}
use Rattle.dn_interval.specs.Strands.{segs_give}
use Rattle.dn_interval.specs.Rows.{SegmentsGive}
use Rattle.dn_interval.proofs.Names.{segs_from, segs_to}
use Rattle.dn_audit.specs.declared.claims.Claim.{Claim}
use Rattle.dn_base.specs.Members.{Member}
use Rattle.dn_interval.specs.declared.row.End.{End}
use Rattle.dn_interval.specs.declared.row.Row.{Row}
use Rattle.dn_interval.specs.declared.span.TheConstants.{TOP}
use Rattle.dn_interval.specs.Spans.{in_span}
use Rattle.dn_interval.specs.Rows.{further_end, end_lt, AllAbove, Ascending, Apart, Parted, GivenBy, AreNormal}
use Rattle.dn_interval.proofs.Membership.{in_from, lo_of, hi_of}
use Rattle.dn_interval.proofs.Normal.{behind_first, nothing_below, member_moved, within_first}
use Rattle.dn_audit.specs.declared.report.Shared.{Shared}
use Rattle.dn_audit.specs.Claims.{claim_gives, claim_has, claims_give, is_several, several_rows, shared_by}
use Rattle.dn_audit.specs.Shared.{AllAfter, AreOfNode, AreRising, AreSeveral, AreOthers, StandApart, IsSharedWith, HaveTwo, AreShared}

-- of a node
module _ (node : ℕ) where
  pub several_one : (r : Row) (rows : List Row) → is_several r.ends ≡ true → several_rows node (r ∷ rows) ≡ shared_by node r.span r.ends ∷ several_rows node rows
  several_one r rows e = ap (λ b. if b then shared_by node r.span r.ends ∷ several_rows node rows else several_rows node rows) e

  pub several_none : (r : Row) (rows : List Row) → is_several r.ends ≡ false → several_rows node (r ∷ rows) ≡ several_rows node rows
  several_none r rows e = ap (λ b. if b then shared_by node r.span r.ends ∷ several_rows node rows else several_rows node rows) e

  -- the names of an address are at the address itself
  abbrev pub AreOwn : List Row → Type 0
  AreOwn rows = (a : ℕ) (y : End) → a ≤ TOP → GivenBy rows a y → y.base ≡ a

  -- each name is at this address
  abbrev pub AreAt : ℕ → List End → Type 0
  AreAt lo [] = Unit {0}
  AreAt lo (e ∷ es) = (e.base ≡ lo) × AreAt lo es

  at_each : (lo : ℕ) (es : List End) → ((e : End) → Member e es → e.base ≡ lo) → AreAt lo es
  at_each lo [] f = tt
  at_each lo (e ∷ es) f = (f e (inl refl), at_each lo es (λ d m. f d (inr m)))

  at_own : (r : Row) (rows : List Row) → AreOwn (r ∷ rows) → AreAt r.span.lo r.ends
  at_own r rows own = at_each r.span.lo r.ends (λ e m.
      let low : r.span.lo ≤ r.span.hi = r.span.ordered in
      let top : r.span.hi ≤ TOP = r.span.within in
      let here : (further_end (r.span.lo - r.span.lo) e).base ≡ r.span.lo = own r.span.lo (further_end (r.span.lo - r.span.lo) e) (omega (arith, low, top)) (inl (in_from r.span r.span.lo (omega arith) low, member_moved (r.span.lo - r.span.lo) r.ends e m)) in
      omega (arith, here))

  rest_own : (r : Row) (rows : List Row) → AreOwn (r ∷ rows) → AreOwn rows
  rest_own r rows own a y l g = own a y l (inr g)

  -- names of one address ascend by their agents

  later : (x y : End) → IsTrue (end_lt x y) → x.base ≡ y.base → x.node < y.node
  later x y e same = by (or_cases (nat_lt x.node y.node) (nat_eq x.node y.node && nat_lt x.base y.base) e)
    where
      by : (nat_lt x.node y.node ≡ true) ⊎ ((nat_eq x.node y.node && nat_lt x.base y.base) ≡ true) → x.node < y.node
      by (inl p) = ltb-true x.node y.node p
      by (inr p) = let q = ltb-true x.base y.base (and_parts (nat_eq x.node y.node) (nat_lt x.base y.base) p).1 in absurd (omega (arith, q, same))

  after : (lo : ℕ) (e : End) (es : List End) → e.base ≡ lo → AreAt lo es → AllAbove e es → AllAfter e.node (map (λ (d : End). d.node) es)
  after lo e [] at each above = tt
  after lo e (f ∷ fs) at each above = (later e f above.0 (at ∙ sym each.0), after lo e fs at each.1 above.1)

  rising : (lo : ℕ) (es : List End) → AreAt lo es → Ascending es → AreRising (map (λ (d : End). d.node) es)
  rising lo [] at up = tt
  rising lo (e ∷ es) at up = (after lo e es at.0 at.1 up.0, rising lo es at.1 up.1)

  several : (es : List End) → is_several es ≡ true → AreSeveral (map (λ (d : End). d.node) es)
  several [] e = cc
  several (d ∷ []) e = cc
  several (d ∷ (f ∷ es)) e = tt

  -- names of one address with the agents of others are these, moved on
  names_eq : (lo lo' d : ℕ) (es fs : List End) → AreAt lo es → AreAt lo' fs → lo ≡ lo' + d → map (λ (t : End). t.node) es ≡ map (λ (t : End). t.node) fs → es ≡ map (further_end d) fs
  names_eq lo lo' d [] [] p q e same = refl
  names_eq lo lo' d [] (f ∷ fs) p q e same = cc
  names_eq lo lo' d (x ∷ es) [] p q e same = cc
  names_eq lo lo' d (x ∷ es) (f ∷ fs) p q e same =
      let n : x.node ≡ f.node = cc in
      let rest : map (λ (t : End). t.node) es ≡ map (λ (t : End). t.node) fs = cc in
      let a = p.0 in
      let c = q.0 in
      let b : x.base ≡ f.base + d = omega (arith, a, c, e) in
      let head : x ≡ further_end d f = two x (further_end d f) n b in
      let tail : es ≡ map (further_end d) fs = names_eq lo lo' d es fs p.1 q.1 e rest in
      join head tail
    where
      two : (u v : End) → u.node ≡ v.node → u.base ≡ v.base → u ≡ v
      two u v h k = ap (λ (n : ℕ). record { node = n; base = u.base }) h ∙ ap (λ (n : ℕ). record { node = v.node; base = n }) k

      join : {u v : End} {us vs : List End} → u ≡ v → us ≡ vs → u ∷ us ≡ v ∷ vs
      join h k = cc

  lower : (from from' : ℕ) (ss : List Shared) → from ≤ from' → StandApart from' ss → StandApart from ss
  lower from from' [] l s = tt
  lower from from' (t ∷ ts) l s = (let k = s.0 in omega (arith, k, l), s.1, s.2, s.3, s.4)

  -- the first row stands at an address or above it
  abbrev pub HeadFrom : ℕ → List Shared → Type 0
  HeadFrom from [] = Unit {0}
  HeadFrom from (t ∷ ts) = from ≤ t.span.lo

  head_lower : (from from' : ℕ) (ss : List Shared) → from ≤ from' → HeadFrom from' ss → HeadFrom from ss
  head_lower from from' [] l h = tt
  head_lower from from' (t ∷ ts) l h = omega (arith, l, h)

  head_from : (from : ℕ) (qs : List Row) → Apart from qs → HeadFrom from (several_rows node qs)
  head_from from [] p = tt
  head_from from (r ∷ rows) p = by (is_several r.ends) refl (head_from (suc r.span.hi) rows p.4)
    where
      by : (b : Bool) → is_several r.ends ≡ b → HeadFrom (suc r.span.hi) (several_rows node rows) → HeadFrom from (several_rows node (r ∷ rows))
      by true e h = subst (λ ss. HeadFrom from ss) (sym (several_one r rows e)) p.0
      by false e h =
          let low : r.span.lo ≤ r.span.hi = r.span.ordered in
          let first : from ≤ r.span.lo = p.0 in
          subst (λ ss. HeadFrom from ss) (sym (several_none r rows e)) (head_lower from (suc r.span.hi) (several_rows node rows) (omega (arith, low, first)) h)

  far : (r : Shared) (from : ℕ) (ss : List Shared) → suc r.span.hi < from → HeadFrom from ss → AreOthers r ss
  far r from [] l h = tt
  far r from (t ∷ ts) l h = λ touch same. absurd (omega (arith, h, l, touch))

  -- the row that follows is of other agents where it touches
  others : (r : Row) (qs : List Row) → AreAt r.span.lo r.ends → Parted r qs → Apart (suc r.span.hi) qs → AreOwn qs → AreOthers (shared_by node r.span r.ends) (several_rows node qs)
  others r [] at parted q own = tt
  others r (t ∷ ts) at parted q own = go (is_several t.ends) refl
    where
      go : (b : Bool) → is_several t.ends ≡ b → AreOthers (shared_by node r.span r.ends) (several_rows node (t ∷ ts))
      go true e = subst (λ ss. AreOthers (shared_by node r.span r.ends) ss) (sym (several_one t ts e)) (λ touch same.
          let low : r.span.lo ≤ r.span.hi = r.span.ordered in
          parted touch (names_eq t.span.lo r.span.lo (suc r.span.hi - r.span.lo) t.ends r.ends (at_own t ts own) at (omega (arith, touch, low)) same))
      go false e =
          let from' : suc r.span.hi ≤ t.span.lo = q.0 in
          let low : t.span.lo ≤ t.span.hi = t.span.ordered in
          subst (λ ss. AreOthers (shared_by node r.span r.ends) ss) (sym (several_none t ts e)) (far (shared_by node r.span r.ends) (suc t.span.hi) (several_rows node ts) (omega (arith, from', low)) (head_from (suc t.span.hi) ts q.4))

  stand : (from : ℕ) (rows : List Row) → Apart from rows → AreOwn rows → StandApart from (several_rows node rows)
  stand from [] p own = tt
  stand from (r ∷ rows) p own = by (is_several r.ends) refl (stand (suc r.span.hi) rows p.4 (rest_own r rows own))
    where
      at : AreAt r.span.lo r.ends
      at = at_own r rows own

      by : (b : Bool) → is_several r.ends ≡ b → StandApart (suc r.span.hi) (several_rows node rows) → StandApart from (several_rows node (r ∷ rows))
      by true e rest = subst (λ ss. StandApart from ss) (sym (several_one r rows e)) (p.0, several r.ends e, rising r.span.lo r.ends at p.2, others r rows at p.3 p.4 (rest_own r rows own), rest)
      by false e rest =
          let low : r.span.lo ≤ r.span.hi = r.span.ordered in
          let first : from ≤ r.span.lo = p.0 in
          subst (λ ss. StandApart from ss) (sym (several_none r rows e)) (lower from (suc r.span.hi) (several_rows node rows) (omega (arith, low, first)) rest)

  -- the agent at an address
  abbrev pub own_name : ℕ → ℕ → End
  own_name g a = record { node = g; base = a }

  -- what a row of several gives
  own_member : (lo d g : ℕ) (es : List End) → AreAt lo es → Member g (map (λ (t : End). t.node) es) → Member (own_name g (lo + d)) (map (further_end d) es)
  own_member lo d g [] at m = absurd m
  own_member lo d g (e ∷ es) at (inl same) = inl (ap (λ (n : ℕ). record { node = n; base = e.base + d }) same ∙ ap (λ (n : ℕ). record { node = g; base = n + d }) at.0)
  own_member lo d g (e ∷ es) at (inr m) = inr (own_member lo d g es at.1 m)

  node_member : (d : ℕ) (es : List End) (y : End) → Member y (map (further_end d) es) → Member y.node (map (λ (t : End). t.node) es)
  node_member d [] y m = absurd m
  node_member d (e ∷ es) y (inl same) = inl (ap (λ (t : End). t.node) same)
  node_member d (e ∷ es) y (inr m) = inr (node_member d es y m)

  given_own : (r : Row) (rows : List Row) (a g : ℕ) → AreAt r.span.lo r.ends → IsTrue (in_span r.span a) → Member g (map (λ (t : End). t.node) r.ends) → GivenBy (r ∷ rows) a (own_name g a)
  given_own r rows a g at i m =
      let l = lo_of r.span a i in
      let e : r.span.lo + (a - r.span.lo) ≡ a = omega (arith, l) in
      inl (i, subst (λ (n : ℕ). Member (own_name g n) (map (further_end (a - r.span.lo)) r.ends)) e (own_member r.span.lo (a - r.span.lo) g r.ends at m))

  -- two agents of the rows at an address
  abbrev pub TwoGiven : List Row → ℕ → Type 0
  TwoGiven rows a = (p : ℕ) × (q : ℕ) × (p < q) × GivenBy rows a (own_name p a) × GivenBy rows a (own_name q a)

  first_two : (es : List End) → is_several es ≡ true → AreRising (map (λ (t : End). t.node) es) → (p : ℕ) × (q : ℕ) × (p < q) × Member p (map (λ (t : End). t.node) es) × Member q (map (λ (t : End). t.node) es)
  first_two [] e up = cc
  first_two (d ∷ []) e up = cc
  first_two (d ∷ (f ∷ es)) e up = (d.node, f.node, up.0.0, inl refl, inr (inl refl))

  out : (from : ℕ) (rows : List Row) → Apart from rows → AreOwn rows → (a g : ℕ) → IsSharedWith (several_rows node rows) a g → GivenBy rows a (own_name g a) × TwoGiven rows a
  out from [] p own a g s = absurd s
  out from (r ∷ rows) p own a g s = by (is_several r.ends) refl (λ k. out (suc r.span.hi) rows p.4 (rest_own r rows own) a g k) s
    where
      at : AreAt r.span.lo r.ends
      at = at_own r rows own

      lifted : GivenBy rows a (own_name g a) × TwoGiven rows a → GivenBy (r ∷ rows) a (own_name g a) × TwoGiven (r ∷ rows) a
      lifted k = (inr k.0, (k.1.0, k.1.1, k.1.2, inr k.1.3, inr k.1.4))

      by : (b : Bool) → is_several r.ends ≡ b → (IsSharedWith (several_rows node rows) a g → GivenBy rows a (own_name g a) × TwoGiven rows a) → IsSharedWith (several_rows node (r ∷ rows)) a g → GivenBy (r ∷ rows) a (own_name g a) × TwoGiven (r ∷ rows) a
      by true e ih s = go (subst (λ ss. IsSharedWith ss a g) (several_one r rows e) s)
        where
          go : IsSharedWith (shared_by node r.span r.ends ∷ several_rows node rows) a g → GivenBy (r ∷ rows) a (own_name g a) × TwoGiven (r ∷ rows) a
          go (inl k) =
              let two = first_two r.ends e (rising r.span.lo r.ends at p.2) in
              (given_own r rows a g at k.0 k.1, (two.0, two.1, two.2, given_own r rows a two.0 at k.0 two.3, given_own r rows a two.1 at k.0 two.4))
          go (inr k) = lifted (ih k)
      by false e ih s = lifted (ih (subst (λ ss. IsSharedWith ss a g) (several_none r rows e) s))

  -- a list with two names is one of several
  two_several : (es : List End) (p q : ℕ) → p < q → Member p (map (λ (t : End). t.node) es) → Member q (map (λ (t : End). t.node) es) → is_several es ≡ true
  two_several [] p q l m n = absurd m
  two_several (e ∷ []) p q l (inl a) (inl b) = absurd (omega (arith, l, a, b))
  two_several (e ∷ []) p q l (inl a) (inr n) = absurd n
  two_several (e ∷ []) p q l (inr m) n = absurd m
  two_several (e ∷ (f ∷ es)) p q l m n = refl

  within : (from : ℕ) (rows : List Row) → Apart from rows → (a g : ℕ) → GivenBy rows a (own_name g a) → TwoGiven rows a → IsSharedWith (several_rows node rows) a g
  within from [] p a g k two = absurd k
  within from (r ∷ rows) p a g (inl k) two =
      let lo = lo_of r.span a k.0 in
      let hi = hi_of r.span a k.0 in
      let m = (within_first from r rows p a (own_name two.0 a) lo hi).0 two.3 in
      let n = (within_first from r rows p a (own_name two.1 a) lo hi).0 two.4 in
      let e = two_several r.ends two.0 two.1 two.2 (node_member (a - r.span.lo) r.ends (own_name two.0 a) m) (node_member (a - r.span.lo) r.ends (own_name two.1 a) n) in
      subst (λ ss. IsSharedWith ss a g) (sym (several_one r rows e)) (inl (k.0, node_member (a - r.span.lo) r.ends (own_name g a) k.1))
  within from (r ∷ rows) p a g (inr k) two = by (λ t. within (suc r.span.hi) rows p.4 a g k t) (cases_lt r.span.hi a)
    where
      by : (TwoGiven rows a → IsSharedWith (several_rows node rows) a g) → (r.span.hi < a) ⊎ (a ≤ r.span.hi) → IsSharedWith (several_rows node (r ∷ rows)) a g
      by ih (inl l) = go (is_several r.ends) refl (ih (two.0, two.1, two.2, behind_first r rows a (own_name two.0 a) l two.3, behind_first r rows a (own_name two.1 a) l two.4))
        where
          go : (b : Bool) → is_several r.ends ≡ b → IsSharedWith (several_rows node rows) a g → IsSharedWith (several_rows node (r ∷ rows)) a g
          go true e s = subst (λ ss. IsSharedWith ss a g) (sym (several_one r rows e)) (inr s)
          go false e s = subst (λ ss. IsSharedWith ss a g) (sym (several_none r rows e)) s
      by ih (inr l) = absurd (nothing_below (suc r.span.hi) rows p.4 a (own_name g a) (omega arith) k)

  -- what the rows give is which agent has which address
  pub are_shared : (has : ℕ → ℕ → Bool) (rows : List Row) → Apart 0 rows → ((a : ℕ) (y : End) → a ≤ TOP → GivenBy rows a y ↔ (IsTrue (has y.node a) × (y.base ≡ a))) → AreShared has (several_rows node rows)
  are_shared has rows p means = record { apart = stand 0 rows p own; exact = λ a g l. (there a g l, back a g l) }
    where
      own : AreOwn rows
      own a y l k = ((means a y l).0 k).1

      there : (a g : ℕ) → a ≤ TOP → IsSharedWith (several_rows node rows) a g → IsTrue (has g a) × HaveTwo has a
      there a g l s =
          let k = out 0 rows p own a g s in
          (((means a (own_name g a) l).0 k.0).0, (k.1.0, k.1.1, k.1.2, ((means a (own_name k.1.0 a) l).0 k.1.3).0, ((means a (own_name k.1.1 a) l).0 k.1.4).0))

      back : (a g : ℕ) → a ≤ TOP → IsTrue (has g a) × HaveTwo has a → IsSharedWith (several_rows node rows) a g
      back a g l (h, two) = within 0 rows p a g ((means a (own_name g a) l).1 (h, refl)) (two.0, two.1, two.2, (means a (own_name two.0 a) l).1 (two.3, refl), (means a (own_name two.1 a) l).1 (two.4, refl))

  -- claims as names

  claim_means : (cs : List Claim) (a : ℕ) (y : End) → list_any (λ (c : Claim). claim_gives c a y) cs ≡ true → (claims_give cs y.node a ≡ true) × (y.base ≡ a)
  claim_means [] a y e = cc
  claim_means (c ∷ cs) a y e = by (or_cases (claim_gives c a y) (list_any (λ (d : Claim). claim_gives d a y) cs) e) (claim_means cs a y)
    where
      by : (claim_gives c a y ≡ true) ⊎ (list_any (λ (d : Claim). claim_gives d a y) cs ≡ true) → (list_any (λ (d : Claim). claim_gives d a y) cs ≡ true → (claims_give cs y.node a ≡ true) × (y.base ≡ a)) → (claims_give (c ∷ cs) y.node a ≡ true) × (y.base ≡ a)
      by (inl h) ih = let p = and_parts (claim_has c y.node a) (nat_eq y.base a) h in (or_left (claim_has c y.node a) (claims_give cs y.node a) p.0, eqb-true y.base a p.1)
      by (inr h) ih = let p = ih h in (or_right (claim_has c y.node a) (claims_give cs y.node a) p.0, p.1)

  claim_meant : (cs : List Claim) (a : ℕ) (y : End) → claims_give cs y.node a ≡ true → y.base ≡ a → list_any (λ (c : Claim). claim_gives c a y) cs ≡ true
  claim_meant [] a y h e = cc
  claim_meant (c ∷ cs) a y h e = by (or_cases (claim_has c y.node a) (claims_give cs y.node a) h) (λ k. claim_meant cs a y k e)
    where
      by : (claim_has c y.node a ≡ true) ⊎ (claims_give cs y.node a ≡ true) → (claims_give cs y.node a ≡ true → list_any (λ (d : Claim). claim_gives d a y) cs ≡ true) → list_any (λ (d : Claim). claim_gives d a y) (c ∷ cs) ≡ true
      by (inl k) ih = or_left (claim_gives c a y) (list_any (λ (d : Claim). claim_gives d a y) cs) (and_from (claim_has c y.node a) (nat_eq y.base a) k (eq-eqb y.base a e))
      by (inr k) ih = or_right (claim_gives c a y) (list_any (λ (d : Claim). claim_gives d a y) cs) (ih k)

  -- the normal rows of the segments of claims, without those of one agent, are the rows of shared addresses
  pub claims_shared : (cs : List Claim) (segs : List Seg) (rows : List Row) → ((a : ℕ) (y : End) → segs_give segs a y ≡ list_any (λ (c : Claim). claim_gives c a y) cs) → AreNormal (SegmentsGive segs) rows → AreShared (claims_give cs) (several_rows node rows)
  claims_shared cs segs rows same normal = are_shared (claims_give cs) rows normal.apart means
    where
      means : (a : ℕ) (y : End) → a ≤ TOP → GivenBy rows a y ↔ (IsTrue (claims_give cs y.node a) × (y.base ≡ a))
      means a y l = (
        (λ k. claim_means cs a y (sym (same a y) ∙ segs_from segs a y ((normal.exact a y l).1 k))),
        (λ (h, e). (normal.exact a y l).0 (segs_to segs a y (same a y ∙ claim_meant cs a y h e))),
      )

  -- each of them is of the node
  pub several_of_node : (rows : List Row) → AreOfNode node (several_rows node rows)
  several_of_node [] = tt
  several_of_node (r ∷ rows) = by (is_several r.ends) refl (several_of_node rows)
    where
      by : (b : Bool) → is_several r.ends ≡ b → AreOfNode node (several_rows node rows) → AreOfNode node (several_rows node (r ∷ rows))
      by true e rest = subst (λ ss. AreOfNode node ss) (sym (several_one r rows e)) (refl, rest)
      by false e rest = subst (λ ss. AreOfNode node ss) (sym (several_none r rows e)) rest
