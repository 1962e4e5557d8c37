-- How many lookups are in flight, and which is the first of them, as one begins, and as one moves on.
use Rattle.std.proofs.Common.{◌≡◌, ◌∙◌, ap, sym, subst, refl, ℕ, zero, suc, ◌+◌, ◌-◌, ◌<◌, ◌≤◌, Bool, true, false, if◌then◌else◌, List, [], ◌∷◌, ◌++◌, length, take, position, Option, Some, None, slice_get, slice_set, IsTrue, arith}
use Rattle.std.specs.List.{list_all}
use Rattle.std.proofs.lemmas.Grind.{common_steps}
use Rattle.std.proofs.lemmas.Option.{same_Some}
use Rattle.dn_base.proofs.Booleans.{and_from, and_parts}
use Rattle.dn_net.specs.declared.node.NodeDecl.{NodeDecl}
use Rattle.dn_kind.specs.Tables.{Held}
use Rattle.dn_flight.specs.declared.flights.Flight.{Flight}
use Rattle.dn_flight.specs.declared.lookup.LookState.{LookState}
use Rattle.dn_flight.specs.declared.lookup.LookState.TheVariants.{At, Ended}
use Rattle.dn_flight.specs.declared.lookup.Lookup.{Lookup}
use Rattle.dn_flight.specs.Counted.{AreCounted, flying_count, one_if}
use Rattle.dn_flight.specs.Flight.{read_at, read_by}
use Rattle.dn_flight.specs.Lookups.{IsFlightAt, has_landed, is_flying, is_in_flight, lookup_limit, moved, with_state}

-- in flight or ended
flying_not_landed : (s : LookState) → has_landed s ≡ true → is_flying s ≡ false
flying_not_landed (At x) e = cc
flying_not_landed (Ended names) e = refl

landed_not_flying : (s : LookState) → is_flying s ≡ false → has_landed s ≡ true
landed_not_flying (At x) e = cc
landed_not_flying (Ended names) e = refl

-- A LOOKUP THAT BEGINS

count_push : (ls : List Lookup) (l : Lookup) → flying_count (ls ++ l ∷ []) ≡ flying_count ls + one_if (is_flying l.state)
count_push [] l = by (is_flying l.state)
  where
    by : (b : Bool) → (if b then suc 0 else 0) ≡ 0 + one_if b
    by true = refl
    by false = refl
count_push (k ∷ ls) l = by (is_flying k.state) (count_push ls l)
  where
    by : (b : Bool) → flying_count (ls ++ l ∷ []) ≡ flying_count ls + one_if (is_flying l.state) → (if b then suc (flying_count (ls ++ l ∷ [])) else flying_count (ls ++ l ∷ [])) ≡ (if b then suc (flying_count ls) else flying_count ls) + one_if (is_flying l.state)
    by true e = omega arith
    by false e = e

take_front : (ls : List Lookup) (l : Lookup) (n : ℕ) → n ≤ length ls → take n (ls ++ l ∷ []) ≡ take n ls
take_front ls l zero le = refl
take_front [] l (suc n) le = absurd (omega arith)
take_front (k ∷ ls) l (suc n) le = ap (λ (xs : List Lookup). k ∷ xs) (take_front ls l n (omega arith))

length_push : (ls : List Lookup) (l : Lookup) → length (ls ++ l ∷ []) ≡ suc (length ls)
length_push [] l = refl
length_push (k ∷ ls) l = ap suc (length_push ls l)

pub one_small : (b : Bool) → one_if b ≤ 1
one_small true = omega arith
one_small false = omega arith

-- there are no more in flight than there are
pub count_small : (ls : List Lookup) → flying_count ls ≤ length ls
count_small [] = omega arith
count_small (l ∷ ls) = by (is_flying l.state) (count_small ls)
  where
    by : (b : Bool) → flying_count ls ≤ length ls → (if b then suc (flying_count ls) else flying_count ls) ≤ suc (length ls)
    by true e = omega arith
    by false e = omega arith

pub push_counted : (ls : List Lookup) (l : Lookup) (flying flying' first : ℕ) → length ls < lookup_limit → flying' ≡ flying + one_if (is_flying l.state) → AreCounted ls flying first → AreCounted (ls ++ l ∷ []) flying' first
push_counted ls l flying flying' first room is c = record {
  few = (let e = length_push ls l in omega arith);
  count = is ∙ ap (λ n. n + one_if (is_flying l.state)) c.count ∙ sym (count_push ls l);
  within = (let e = length_push ls l in let w : first ≤ length ls = c.within in omega arith);
  landed = subst (λ (xs : List Lookup). IsTrue (list_all (λ k. has_landed k.state) xs)) (sym (take_front ls l first c.within)) c.landed;
}

-- A LOOKUP THAT MOVES ON

pub length_with_state : (ls : List Lookup) (n : ℕ) (s : LookState) → length (with_state ls n s) ≡ length ls
length_with_state [] n s = refl
length_with_state (l ∷ ls) zero s = refl
length_with_state (l ∷ ls) (suc n) s = ap suc (length_with_state ls n s)

pub set_is : (ls : List Lookup) (n : ℕ) (l : Lookup) (s : LookState) → slice_get ls n ≡ Some l → slice_set ls n (moved l s) ≡ with_state ls n s
set_is [] n l s e = cc
set_is (k ∷ ls) zero l s e = ap (λ (o : Lookup). moved o s ∷ ls) (sym (same_Some k l e))
set_is (k ∷ ls) (suc n) l s e = ap (λ (xs : List Lookup). k ∷ xs) (set_is ls n l s e)

pub read_is : (net : List NodeDecl) (h : Held) (ls : List Lookup) (n : ℕ) (l : Lookup) → slice_get ls n ≡ Some l → read_at net h ls n ≡ with_state ls n (read_by net h l.access l.state)
read_is net h [] n l e = cc
read_is net h (k ∷ ls) zero l e = ap (λ (o : Lookup). moved k (read_by net h o.access o.state) ∷ ls) (same_Some k l e)
read_is net h (k ∷ ls) (suc n) l e = ap (λ (xs : List Lookup). k ∷ xs) (read_is net h ls n l e)

pub in_flight_there : (ls : List Lookup) (n : ℕ) (o : Option Lookup) → slice_get ls n ≡ o → IsTrue (is_in_flight o) → (l : Lookup) × (slice_get ls n ≡ Some l) × (is_flying l.state ≡ true)
in_flight_there ls n None e f = cc
in_flight_there ls n (Some l) e f = (l, e, f)

-- the count falls by one where the lookup ends
count_state : (ls : List Lookup) (n : ℕ) (l : Lookup) (s : LookState) → slice_get ls n ≡ Some l → is_flying l.state ≡ true → suc (flying_count (with_state ls n s)) ≡ flying_count ls + one_if (is_flying s)
count_state [] n l s e f = cc
count_state (k ∷ ls) zero l s e f = by (is_flying k.state) (is_flying s) (ap (λ (o : Lookup). is_flying o.state) (same_Some k l e) ∙ f)
  where
    by : (a b : Bool) → a ≡ true → suc (if b then suc (flying_count ls) else flying_count ls) ≡ (if a then suc (flying_count ls) else flying_count ls) + one_if b
    by true true e = omega arith
    by true false e = omega arith
    by false b e = cc
count_state (k ∷ ls) (suc n) l s e f = by (is_flying k.state) (count_state ls n l s e f)
  where
    by : (a : Bool) → suc (flying_count (with_state ls n s)) ≡ flying_count ls + one_if (is_flying s) → suc (if a then suc (flying_count (with_state ls n s)) else flying_count (with_state ls n s)) ≡ (if a then suc (flying_count ls) else flying_count ls) + one_if (is_flying s)
    by true e = omega arith
    by false e = e

-- a lookup in flight stands after those before a place that have all ended
landed_state : (ls : List Lookup) (n first : ℕ) (l : Lookup) (s : LookState) → slice_get ls n ≡ Some l → is_flying l.state ≡ true → IsTrue (list_all (λ k. has_landed k.state) (take first ls)) → IsTrue (list_all (λ k. has_landed k.state) (take first (with_state ls n s)))
landed_state ls n zero l s e f a = refl
landed_state [] n (suc first) l s e f a = cc
landed_state (k ∷ ls) zero (suc first) l s e f a =
    let p = and_parts (has_landed k.state) (list_all (λ k. has_landed k.state) (take first ls)) a in
    let g : true ≡ false = sym (ap (λ (o : Lookup). is_flying o.state) (same_Some k l e) ∙ f) ∙ flying_not_landed k.state p.0 in
    cc
landed_state (k ∷ ls) (suc n) (suc first) l s e f a =
    let p = and_parts (has_landed k.state) (list_all (λ k. has_landed k.state) (take first ls)) a in
    and_from (has_landed k.state) (list_all (λ k. has_landed k.state) (take first (with_state ls n s))) p.0 (landed_state ls n first l s e f p.1)

pub some_flying : (ls : List Lookup) (n : ℕ) (l : Lookup) → slice_get ls n ≡ Some l → is_flying l.state ≡ true → 1 ≤ flying_count ls
some_flying ls n l e f = let c = count_state ls n l (Ended []) e f in omega arith

pub state_counted : (ls : List Lookup) (n : ℕ) (l : Lookup) (s : LookState) (flying flying' first : ℕ) → slice_get ls n ≡ Some l → is_flying l.state ≡ true → flying' ≡ flying - 1 + one_if (is_flying s) → AreCounted ls flying first → AreCounted (with_state ls n s) flying' first
state_counted ls n l s flying flying' first e f is c = record {
  few = (let m = length_with_state ls n s in let w : length ls ≤ lookup_limit = c.few in omega arith);
  count = (let m = count_state ls n l s e f in let o = some_flying ls n l e f in let w : flying ≡ flying_count ls = c.count in omega arith);
  within = (let m = length_with_state ls n s in let w : first ≤ length ls = c.within in omega arith);
  landed = landed_state ls n first l s e f c.landed;
}

-- THE FIRST IN FLIGHT

-- none, where the count is 0
pub none_first : (ls : List Lookup) → flying_count ls ≡ 0 → position (λ l. is_flying l.state) ls ≡ None
none_first [] e = refl
none_first (l ∷ ls) e = by (is_flying l.state) refl e (λ e. none_first ls e)
  where
    by : (b : Bool) → is_flying l.state ≡ b → (if b then suc (flying_count ls) else flying_count ls) ≡ 0 → (flying_count ls ≡ 0 → position (λ l. is_flying l.state) ls ≡ None) → position (λ l. is_flying l.state) (l ∷ ls) ≡ None
    by true f e rest = cc
    by false f e rest = let h = rest e in grind (arith, common_steps, h, f)

pub is_first : (ls : List Lookup) (n : ℕ) → IsTrue (list_all (λ l. has_landed l.state) (take n ls)) → IsTrue (is_in_flight (slice_get ls n)) → position (λ l. is_flying l.state) ls ≡ Some n
is_first [] n a f = cc
is_first (l ∷ ls) zero a f = grind (arith, common_steps, f)
is_first (l ∷ ls) (suc n) a f =
    let p = and_parts (has_landed l.state) (list_all (λ l. has_landed l.state) (take n ls)) a in
    let g : is_flying l.state ≡ false = flying_not_landed l.state p.0 in
    let h = is_first ls n p.1 f in
    grind (arith, common_steps, h, g)

-- where all before a place have ended and some are in flight, the place is within the list
pub first_within : (ls : List Lookup) (n : ℕ) → IsTrue (list_all (λ l. has_landed l.state) (take n ls)) → 1 ≤ flying_count ls → n < length ls
first_within [] n a e = absurd (omega arith)
first_within (l ∷ ls) zero a e = omega arith
first_within (l ∷ ls) (suc n) a e =
    let p = and_parts (has_landed l.state) (list_all (λ l. has_landed l.state) (take n ls)) a in
    by (is_flying l.state) (flying_not_landed l.state p.0) e (λ e. first_within ls n p.1 e)
  where
    by : (b : Bool) → b ≡ false → 1 ≤ (if b then suc (flying_count ls) else flying_count ls) → (1 ≤ flying_count ls → n < length ls) → suc n < length (l ∷ ls)
    by true g e rest = cc
    by false g e rest = let h = rest e in omega arith

-- one more that has ended
pub landed_next : (ls : List Lookup) (n : ℕ) → IsTrue (list_all (λ l. has_landed l.state) (take n ls)) → is_in_flight (slice_get ls n) ≡ false → IsTrue (list_all (λ l. has_landed l.state) (take (n + 1) ls))
landed_next ls n a f = subst (λ k. IsTrue (list_all (λ l. has_landed l.state) (take k ls))) (one n) (go ls n a f)
  where
    one : (n : ℕ) → suc n ≡ n + 1
    one n = omega arith

    go : (ls : List Lookup) (n : ℕ) → IsTrue (list_all (λ l. has_landed l.state) (take n ls)) → is_in_flight (slice_get ls n) ≡ false → IsTrue (list_all (λ l. has_landed l.state) (take (suc n) ls))
    go [] n a f = refl
    go (l ∷ ls) zero a f = and_from (has_landed l.state) true (landed_not_flying l.state f) refl
    go (l ∷ ls) (suc n) a f =
        let p = and_parts (has_landed l.state) (list_all (λ l. has_landed l.state) (take n ls)) a in
        and_from (has_landed l.state) (list_all (λ l. has_landed l.state) (take (suc n) ls)) p.0 (go ls n p.1 f)

-- a flight says that its lookup is in flight
pub flight_flies : (o : Option Lookup) (f : Flight) → IsFlightAt o f → IsTrue (is_in_flight o)
flight_flies o f i = ap is_in_flight i.there ∙ ap is_flying i.state
