-- The legs that a walk meets stand together, and what it makes of one of them.
use Rattle.std.proofs.Common.{◌≡◌, ℕ, ◌+◌, ◌-◌, ◌<◌, ◌≤◌, ◌⊎◌, inl, inr, Bool, true, false, ◌&&◌, if◌then◌else◌, nat_le, nat_lt, ltb, leb, min, max, List, length, get_or, take, drop, refl, arith, IsTrue, ltb-true, leb-true}
use Rattle.std.proofs.lemmas.Bool.{ltb-false, leb-false, cases_lt}
use Rattle.std.specs.List.{filter}
use Rattle.std.specs.List.Sorted.{IsPartitionPoint}
use Rattle.dn_base.proofs.Orders.{not_lt-le, lt-not_le}
use Rattle.dn_net.specs.Walks.{greater_of, lesser_of, last_of_run}
use Rattle.dn_interval.specs.declared.row.Seg.{Seg}
use Rattle.dn_walk.specs.Legs.{BareLeg, leg_view}
use Rattle.dn_walk.specs.Rows.{BareWalk}
use Rattle.dn_walk.specs.Levels.{bare_meets, told_run}
use Rattle.dn_walk.proofs.Picks.{between_is}

-- the last address at which it comes out
abbrev pub bare_last_out : BareWalk → ℕ
bare_last_out t = last_of_run (told_run t)

abbrev pub Ends : ℕ → List Seg → ℕ → Type 0
Ends base legs i = IsPartitionPoint (λ s. ltb s.span.hi base ≡ true) (λ s. ltb s.span.hi base ≡ false) legs i

abbrev pub Begins : ℕ → List Seg → ℕ → Type 0
Begins last legs j = IsPartitionPoint (λ s. leb s.span.lo last ≡ true) (λ s. leb s.span.lo last ≡ false) legs j

pub in_turn : (base last : ℕ) (legs : List Seg) (i j : ℕ) → base ≤ last → i ≤ length legs → Ends base legs i → Begins last legs j → i ≤ j
in_turn base last legs i j o w e b = by (cases_lt j i)
  where
    by : (j < i) ⊎ (i ≤ j) → i ≤ j
    by (inr l) = l
    by (inl l) =
        let d : Seg = record { span = record { lo = 0; hi = 0; ordered = omega arith; within = omega arith }; node = 0; base = 0; fits = omega arith } in
        let g = get_or legs j d in
        let p : g.span.hi < base = ltb-true _ _ (e.0 j d (omega arith) l) in
        let q : last < g.span.lo = leb-false _ _ (b.1 j d (omega arith) (omega arith)) in
        let r : g.span.lo ≤ g.span.hi = g.span.ordered in
        absurd (omega arith)

pub met_is : (t : BareWalk) (legs : List Seg) (i j : ℕ) → i ≤ length legs → j ≤ length legs → Ends t.base legs i → Begins (bare_last_out t) legs j → take (j - i) (drop i legs) ≡ filter (λ s. bare_meets t (leg_view s)) legs
met_is t legs i j w v e b =
    let o : t.base ≤ t.base + (t.hi - t.lo) = omega arith in
    between_is (λ (s : Seg). nat_le t.base s.span.hi) (λ (s : Seg). nat_le s.span.lo (bare_last_out t)) legs i j (in_turn t.base (bare_last_out t) legs i j o w e b) v
    record {
      low = λ k d l. lt-not_le _ _ (e.0 k d (omega arith) l);
      high = λ k d l m. not_lt-le _ _ (e.1 k d l m);
      begun = λ k d l. b.0 k d (omega arith) l;
      over = λ k d l m. b.1 k d l m;
    }

pub meets_parts : (t : BareWalk) (l : BareLeg) → IsTrue (bare_meets t l) → (t.base ≤ l.hi) × (l.lo ≤ bare_last_out t)
meets_parts t l h = by (nat_le t.base l.hi) (nat_le l.lo (bare_last_out t)) refl refl h
  where
    by : (a b : Bool) → nat_le t.base l.hi ≡ a → nat_le l.lo (bare_last_out t) ≡ b → IsTrue (a && b) → (t.base ≤ l.hi) × (l.lo ≤ bare_last_out t)
    by true true e f h = (leb-true _ _ e, leb-true _ _ f)
    by true false e f h = cc
    by false b e f h = cc

-- of two numbers, by a test of one against the other
chosen : (a b x y m : ℕ) → (a < b → m ≡ x) → (b ≤ a → m ≡ y) → m ≡ (if nat_lt a b then x else y)
chosen a b x y m less more = by (nat_lt a b) refl
  where
    by : (c : Bool) → nat_lt a b ≡ c → m ≡ (if c then x else y)
    by true e = less (ltb-true a b e)
    by false e = more (ltb-false a b e)

pub max_is : (a b : ℕ) → max a b ≡ greater_of a b
max_is a b = chosen a b b a (max a b) (λ l. omega arith) (λ l. omega arith)

pub min_is : (a b : ℕ) → min a b ≡ lesser_of a b
min_is a b = chosen b a b a (min a b) (λ l. omega arith) (λ l. omega arith)
