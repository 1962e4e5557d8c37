-- Outputs in the order of their ranks: which of them agree with an input.
use Rattle.std.proofs.Common.{◌≡◌, ℕ, zero, suc, ◌+◌, ◌-◌, ◌*◌, ◌/◌, ◌%◌, ◌^◌, ◌<◌, ◌≤◌, ◌⊎◌, inl, inr, true, false, nat_lt, List, [], ◌∷◌, length, get_or, slice_get, Option, Some, None, refl, sym, ap, ◌∙◌, subst, arith, pow_pos, ltb-true, ltb-false}
use Rattle.std.specs.List.Sorted.{IsPartitionPoint}
use Rattle.std.proofs.Math.Nat.{mod-add-div', mod-lt, mod-le}
use Rattle.std.proofs.lemmas.Bool.{cases_lt, eq-eqb, eqb-true}
use Rattle.std.proofs.lemmas.Nat.{mod-mul-add}
use Rattle.std.proofs.lemmas.Option.{slice_get_within, get_or_from_slice_get}
use Rattle.dn_net.specs.declared.node.NodeDecl.{NodeDecl}
use Rattle.dn_net.specs.declared.node.Unit.{Unit as UnitPart}
use Rattle.dn_placement.specs.declared.request.Request.{Request}
use Rattle.dn_view.proofs.Pages.{power_below}
use Rattle.dn_place.specs.declared.exits.Exit.{Exit}
use Rattle.dn_place.specs.Exits.{AreExits, IsRankedExit}
use Rattle.dn_place.specs.Sought.{HasUnitBounds}
use Rattle.dn_gather.specs.Outputs.{AgreeFrom, AreRanked, IsRanked, NoneAgree, agrees_at, first_place, next_place}

-- the outputs that give a piece have their ranks
pub exits_ranked : (net : List NodeDecl) (u : UnitPart) (rq : Request) (exits : List Exit) → 1 ≤ rq.size → HasUnitBounds net u → AreExits net u rq exits → AreRanked u.page exits
exits_ranked net u rq exits some bounds are = record { each = λ k d l. one (get_or exits k d) (are.each k d l); order = are.order }
  where
    one : (e : Exit) → IsRankedExit net u rq e → IsRanked u.page e
    one e r = record {
      rank = r.ranked;
      port = omega (arith, slice_get_within u.ports e.port r.gives.node r.gives.is_port, bounds.ports);
      reached = omega (arith, r.gives.reached, power_below u.reach bounds.reach);
    }

-- between which ranks an output of this place in a slot stands
rank_from : (page : ℕ) (e : Exit) → IsRanked page e → e.y % 2 ^ page * 576460752303423488 ≤ e.rank
rank_from page e r = omega (arith, r.rank)

rank_below : (page : ℕ) (e : Exit) → IsRanked page e → e.rank < (e.y % 2 ^ page + 1) * 576460752303423488
rank_below page e r = omega (arith, r.rank, r.port, r.reached)

-- ranks that ascend have places that ascend
pub places_ascend : (page : ℕ) (a b : Exit) → IsRanked page a → IsRanked page b → a.rank ≤ b.rank → a.y % 2 ^ page ≤ b.y % 2 ^ page
places_ascend page a b r s l = omega (arith, rank_from page a r, rank_below page b s)

pub agree_from : (page place at : ℕ) (exits : List Exit) → AreRanked page exits → IsPartitionPoint (λ (e : Exit). nat_lt e.rank (place * 576460752303423488) ≡ true) (λ (e : Exit). nat_lt e.rank (place * 576460752303423488) ≡ false) exits at → at ≤ length exits → AgreeFrom page place exits at
agree_from page place at exits are point within = record {
  before = λ k d u v. low (get_or exits k d) (are.each k d (omega arith)) (point.0 k d u v);
  after = λ k d u v. high (get_or exits k d) (are.each k d v) (point.1 k d u v);
}
  where
    low : (e : Exit) → IsRanked page e → nat_lt e.rank (place * 576460752303423488) ≡ true → e.y % 2 ^ page < place
    low e r t = omega (arith, rank_from page e r, ltb-true e.rank (place * 576460752303423488) t)

    high : (e : Exit) → IsRanked page e → nat_lt e.rank (place * 576460752303423488) ≡ false → place ≤ e.y % 2 ^ page
    high e r t = omega (arith, rank_below page e r, ltb-false e.rank (place * 576460752303423488) t)

-- a number in the slot of another, so many on
mod_within : (x d p : ℕ) → x % p + d < p → (x + d) % p ≡ x % p + d
mod_within x d p l = ap (λ n. n % p) whole ∙ mod-mul-add (x / p) p (x % p + d) l
  where
    whole : x + d ≡ x / p * p + (x % p + d)
    whole = omega (arith, mod-add-div' x p)

-- a number in the slot after that of another
mod_past : (x d p : ℕ) → d < p → (x - x % p + p + d) % p ≡ d
mod_past x d p l = ap (λ n. n % p) whole ∙ mod-mul-add (x / p + 1) p d l
  where
    more : (x / p + 1) * p ≡ x / p * p + p
    more = one (x / p) p
      where
        one : (a b : ℕ) → (a + 1) * b ≡ a * b + b
        one a b = omega arith

    whole : x - x % p + p + d ≡ (x / p + 1) * p + d
    whole = omega (arith, mod-add-div' x p, more)

-- no output has a place between that of an input and that of the next output
pub none_between : (page x at : ℕ) (exits : List Exit) (e : Exit) → AreRanked page exits → AgreeFrom page (x % 2 ^ page) exits at → slice_get exits at ≡ Some e → (z : ℕ) → x ≤ z → z < x - x % 2 ^ page + e.y % 2 ^ page → NoneAgree page (z % 2 ^ page) exits
none_between page x at exits e are from is z l m = λ k d r same. by k d r same (cases_lt k at)
  where
    p : ℕ
    p = 2 ^ page

    there : at < length exits
    there = slice_get_within exits at e is

    item : (d : Exit) → get_or exits at d ≡ e
    item d = get_or_from_slice_get exits at e d is

    less : e.y % 2 ^ page < 2 ^ page
    less = mod-lt e.y (pow_pos page)

    rest : x % 2 ^ page ≤ x
    rest = mod-le x (2 ^ page)

    place : z % 2 ^ page ≡ x % 2 ^ page + (z - x)
    place = ap (λ n. n % 2 ^ page) (let s : z ≡ x + (z - x) = omega (arith, l) in s) ∙ mod_within x (z - x) (2 ^ page) (omega (arith, l, m, less, rest))

    by : (k : ℕ) (d : Exit) → k < length exits → (get_or exits k d).y % 2 ^ page ≡ z % 2 ^ page → (k < at) ⊎ (at ≤ k) → ⊥
    by k d r same (inl n) = omega (arith, place, same, from.before k d (omega arith) n)
    by k d r same (inr n) =
        let up : e.y % 2 ^ page ≤ (get_or exits k d).y % 2 ^ page =
        subst (λ (q : Exit). q.y % 2 ^ page ≤ (get_or exits k d).y % 2 ^ page) (item d)
        (places_ascend page (get_or exits at d) (get_or exits k d) (are.each at d there) (are.each k d r) (are.order at k d n r)) in
        omega (arith, place, same, up, l, m, rest)

-- no output has a place from that of an input on: so it is up to the first output in the next slot
pub none_past : (page x at : ℕ) (exits : List Exit) (e : Exit) → AreRanked page exits → AgreeFrom page (x % 2 ^ page) exits at → length exits ≤ at → slice_get exits 0 ≡ Some e → (z : ℕ) → x ≤ z → z < x - x % 2 ^ page + 2 ^ page + e.y % 2 ^ page → NoneAgree page (z % 2 ^ page) exits
none_past page x at exits e are from past is z l m = λ k d r same. by k d r same (cases_lt z (x - x % 2 ^ page + 2 ^ page))
  where
    less : e.y % 2 ^ page < 2 ^ page
    less = mod-lt e.y (pow_pos page)

    rest : x % 2 ^ page ≤ x
    rest = mod-le x (2 ^ page)

    within : x % 2 ^ page < 2 ^ page
    within = mod-lt x (pow_pos page)

    by : (k : ℕ) (d : Exit) → k < length exits → (get_or exits k d).y % 2 ^ page ≡ z % 2 ^ page → (z < x - x % 2 ^ page + 2 ^ page) ⊎ (x - x % 2 ^ page + 2 ^ page ≤ z) → ⊥
    by k d r same (inl n) =
        let place : z % 2 ^ page ≡ x % 2 ^ page + (z - x) = ap (λ n. n % 2 ^ page) (let s : z ≡ x + (z - x) = omega (arith, l) in s) ∙ mod_within x (z - x) (2 ^ page) (omega (arith, l, n, rest)) in
        omega (arith, place, same, from.before k d (omega arith) (omega (arith, r, past)))
    by k d r same (inr n) =
        let on : z ≡ x - x % 2 ^ page + 2 ^ page + (z - (x - x % 2 ^ page + 2 ^ page)) = omega (arith, n) in
        let place : z % 2 ^ page ≡ z - (x - x % 2 ^ page + 2 ^ page) = ap (λ n. n % 2 ^ page) on ∙ mod_past x (z - (x - x % 2 ^ page + 2 ^ page)) (2 ^ page) (omega (arith, m, n, less)) in
        let up : e.y % 2 ^ page ≤ (get_or exits k d).y % 2 ^ page =
        subst (λ (q : Exit). q.y % 2 ^ page ≤ (get_or exits k d).y % 2 ^ page) (get_or_from_slice_get exits 0 e d is)
        (places_ascend page (get_or exits 0 d) (get_or exits k d) (are.each 0 d (omega arith)) (are.each k d r) (are.order 0 k d (omega arith) r)) in
        omega (arith, place, same, up, m, n)

-- and where there is none at all
pub none_on : (page x at : ℕ) (exits : List Exit) → AreRanked page exits → AgreeFrom page (x % 2 ^ page) exits at → length exits ≤ at → (z : ℕ) → x ≤ z → z < x - x % 2 ^ page + 2 ^ page + first_place (2 ^ page) exits → NoneAgree page (z % 2 ^ page) exits
none_on page x at [] are from past z l m = λ k d r same. absurd (omega arith)
none_on page x at (e ∷ es) are from past z l m = none_past page x at (e ∷ es) e are from past refl z l m

-- where a list ends
past_end : (xs : List Exit) (at : ℕ) → slice_get xs at ≡ None → length xs ≤ at
past_end [] at e = omega arith
past_end (x ∷ xs) zero e = cc
past_end (x ∷ xs) (suc at) e = (let l = past_end xs at e in omega (arith, l))

pub first_below : (size : ℕ) (exits : List Exit) → 1 ≤ size → first_place size exits < size
first_below size [] some = omega (arith, some)
first_below size (e ∷ es) some = mod-lt e.y some

-- the place to which an input goes on: it is no lesser one, and near
pub next_from : (page place at : ℕ) (exits : List Exit) → AgreeFrom page place exits at → place < 2 ^ page → place ≤ next_place (2 ^ page) (slice_get exits at) exits
next_from page place at exits from within = by (slice_get exits at) refl
  where
    by : (o : Option Exit) → slice_get exits at ≡ o → place ≤ next_place (2 ^ page) o exits
    by None is = omega (arith, within)
    by (Some e) is = subst (λ (q : Exit). place ≤ q.y % 2 ^ page) (get_or_from_slice_get exits at e e is) (from.after at e (omega arith) (slice_get_within exits at e is))

pub next_below : (size at : ℕ) (exits : List Exit) → 1 ≤ size → next_place size (slice_get exits at) exits < size + size
next_below size at exits some = by (slice_get exits at)
  where
    by : (o : Option Exit) → next_place size o exits < size + size
    by None = (let l = first_below size exits some in omega (arith, l))
    by (Some e) = (let l : e.y % size < size = mod-lt e.y some in omega (arith, l))

-- and no output agrees before
pub next_none : (page x at : ℕ) (exits : List Exit) → AreRanked page exits → AgreeFrom page (x % 2 ^ page) exits at → (z : ℕ) → x ≤ z → z < x - x % 2 ^ page + next_place (2 ^ page) (slice_get exits at) exits → NoneAgree page (z % 2 ^ page) exits
next_none page x at exits are from z l = by (slice_get exits at) refl
  where
    by : (o : Option Exit) → slice_get exits at ≡ o → z < x - x % 2 ^ page + next_place (2 ^ page) o exits → NoneAgree page (z % 2 ^ page) exits
    by None is m = none_on page x at exits are from (past_end exits at is) z l (omega (arith, m))
    by (Some e) is m = none_between page x at exits e are from is z l m

-- no output agrees where the one at the place does not
pub none_here : (page place at : ℕ) (exits : List Exit) → AreRanked page exits → AgreeFrom page place exits at → agrees_at page place (slice_get exits at) ≡ false → NoneAgree page place exits
none_here page place at exits are from not = by (slice_get exits at) refl not
  where
    never : true ≡ false → ⊥
    never e = cc

    by : (o : Option Exit) → slice_get exits at ≡ o → agrees_at page place o ≡ false → NoneAgree page place exits
    by None is not = λ k d r same. out k d r same (cases_lt k at)
      where
        out : (k : ℕ) (d : Exit) → k < length exits → (get_or exits k d).y % 2 ^ page ≡ place → (k < at) ⊎ (at ≤ k) → ⊥
        out k d r same (inl l) = (let b = from.before k d (omega arith) l in omega (arith, b, same))
        out k d r same (inr l) = (let b = past_end exits at is in omega (arith, b, r, l))
    by (Some e) is not = λ k d r same. out k d r same (cases_lt k at)
      where
        there : at < length exits
        there = slice_get_within exits at e is

        differ : e.y % 2 ^ page ≡ place → ⊥
        differ same = never (sym (eq-eqb (e.y % 2 ^ page) place same) ∙ not)

        here : place ≤ e.y % 2 ^ page
        here = subst (λ (q : Exit). place ≤ q.y % 2 ^ page) (get_or_from_slice_get exits at e e is) (from.after at e (omega arith) there)

        out : (k : ℕ) (d : Exit) → k < length exits → (get_or exits k d).y % 2 ^ page ≡ place → (k < at) ⊎ (at ≤ k) → ⊥
        out k d r same (inl l) = (let b = from.before k d (omega arith) l in omega (arith, b, same))
        out k d r same (inr l) =
            let up : e.y % 2 ^ page ≤ (get_or exits k d).y % 2 ^ page =
            subst (λ (q : Exit). q.y % 2 ^ page ≤ (get_or exits k d).y % 2 ^ page) (get_or_from_slice_get exits at e d is)
            (places_ascend page (get_or exits at d) (get_or exits k d) (are.each at d there) (are.each k d r) (are.order at k d l r)) in
            differ (omega (arith, up, same, here))

-- the output at a place of the list that agrees
pub record Agreeing (page place k : ℕ) (exits : List Exit) (d : Exit) : Type 0 where
  pub there : k < length exits
  pub at : slice_get exits k ≡ Some (get_or exits k d)
  pub agree : (get_or exits k d).y % 2 ^ page ≡ place

pub agreeing : (page place k : ℕ) (exits : List Exit) (d : Exit) → agrees_at page place (slice_get exits k) ≡ true → Agreeing page place k exits d
agreeing page place k exits d on = by (slice_get exits k) refl on
  where
    by : (o : Option Exit) → slice_get exits k ≡ o → agrees_at page place o ≡ true → Agreeing page place k exits d
    by None is on = cc
    by (Some e) is on =
        let item : get_or exits k d ≡ e = get_or_from_slice_get exits k e d is in
        record {
          there = slice_get_within exits k e is;
          at = is ∙ ap Some (sym item);
          agree = ap (λ (q : Exit). q.y % 2 ^ page) item ∙ eqb-true (e.y % 2 ^ page) place on;
        }
