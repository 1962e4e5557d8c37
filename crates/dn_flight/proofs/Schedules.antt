-- What a schedule has done once so many of its events have come: its world, and how far the log has come.
use Rattle.std.proofs.Common.{◌≡◌, ◌∙◌, ap, sym, subst, refl, ℕ, zero, suc, ◌+◌, ◌≤◌, ◌⊎◌, inl, inr, List, [], ◌∷◌, ◌++◌, length, take, drop, Some, slice_get, arith}
use Rattle.std.proofs.lemmas.List.{length-append}
use Rattle.std.proofs.lemmas.Option.{same_Some}
use Rattle.dn_base.specs.declared.device.TableEvent.{TableEvent}
use Rattle.dn_base.specs.declared.device.TableEvent.TheVariants as device
use Rattle.dn_net.specs.declared.node.NodeDecl.{NodeDecl}
use Rattle.dn_kind.specs.Kind.{Meaning}
use Rattle.dn_kind.specs.Tables.{Held, record_held}
use Rattle.dn_book.specs.Events.{after_events, held_at}
use Rattle.dn_flight.specs.declared.event.Event.{Event}
use Rattle.dn_flight.specs.declared.event.Event.TheVariants.{Begin, Fence, Read, Write}
use Rattle.dn_flight.specs.declared.lookup.Lookup.{Lookup}
use Rattle.dn_flight.specs.Flight.{read_at, read_on, stepped}
use Rattle.dn_flight.specs.Schedules.{AreAllowed, MayCome, device_events, moment, world_after}
use Rattle.dn_flight.specs.State.{WorldState}

-- LISTS

pub take_next : {X : Type 0} (xs : List X) (m : ℕ) (x : X) → slice_get xs m ≡ Some x → take (suc m) xs ≡ take m xs ++ x ∷ []
take_next [] m x e = cc
take_next (y ∷ ys) zero x e = ap (λ z. z ∷ []) (same_Some y x e)
take_next {X} (y ∷ ys) (suc m) x e = ap (λ (l : List X). y ∷ l) (take_next ys m x e)

take_and_drop : {X : Type 0} (xs : List X) (m : ℕ) → xs ≡ take m xs ++ drop m xs
take_and_drop xs zero = refl
take_and_drop [] (suc m) = refl
take_and_drop {X} (x ∷ xs) (suc m) = ap (λ (l : List X). x ∷ l) (take_and_drop xs m)

take_front : {X : Type 0} (xs ys : List X) → take (length xs) (xs ++ ys) ≡ xs
take_front [] ys = refl
take_front {X} (x ∷ xs) ys = ap (λ (l : List X). x ∷ l) (take_front xs ys)

pub front_item : {X : Type 0} (xs : List X) (y : X) (ys : List X) → slice_get (xs ++ y ∷ ys) (length xs) ≡ Some y
front_item [] y ys = refl
front_item (x ∷ xs) y ys = front_item xs y ys

append_three : {X : Type 0} (xs ys zs : List X) → (xs ++ ys) ++ zs ≡ xs ++ (ys ++ zs)
append_three [] ys zs = refl
append_three {X} (x ∷ xs) ys zs = ap (λ (l : List X). x ∷ l) (append_three xs ys zs)

pub last_cases : {X : Type 0} (xs : List X) (x y : X) (n : ℕ) → slice_get (xs ++ x ∷ []) n ≡ Some y → (slice_get xs n ≡ Some y) ⊎ ((n ≡ length xs) × (x ≡ y))
last_cases [] x y zero e = inr (refl, same_Some x y e)
last_cases [] x y (suc n) e = cc
last_cases (z ∷ zs) x y zero e = inl e
last_cases (z ∷ zs) x y (suc n) e = elim (last_cases zs x y n e) [ inl f ↦ inl f | inr f ↦ inr (ap suc f.0, f.1) ]

-- LOOKUPS THAT READ

pub read_cases : (net : List NodeDecl) (h : Held) (ls : List Lookup) (j n : ℕ) (l : Lookup) → slice_get (read_at net h ls j) n ≡ Some l → (slice_get ls n ≡ Some l) ⊎ ((n ≡ j) × ((o : Lookup) × (slice_get ls n ≡ Some o) × (read_on net h o ≡ l)))
read_cases net h [] j n l e = inl e
read_cases net h (o ∷ ls) zero zero l e = inr (refl, (o, refl, same_Some (read_on net h o) l e))
read_cases net h (o ∷ ls) zero (suc n) l e = inl e
read_cases net h (o ∷ ls) (suc j) zero l e = inl e
read_cases net h (o ∷ ls) (suc j) (suc n) l e = elim (read_cases net h ls j n l e) [ inl f ↦ inl f | inr f ↦ inr (ap suc f.0, f.1) ]

-- WORLDS

pub world_append : (net : List NodeDecl) (kinds : List Meaning) (w : WorldState) (es fs : List Event) → world_after net kinds w (es ++ fs) ≡ world_after net kinds (world_after net kinds w es) fs
world_append net kinds w [] fs = refl
world_append net kinds w (e ∷ es) fs = world_append net kinds (stepped net kinds e w) es fs

pub world_next : (net : List NodeDecl) (kinds : List Meaning) (w : WorldState) (es : List Event) (m : ℕ) (e : Event) → slice_get es m ≡ Some e → world_after net kinds w (take (suc m) es) ≡ stepped net kinds e (world_after net kinds w (take m es))
world_next net kinds w es m e at = ap (world_after net kinds w) (take_next es m e at) ∙ world_append net kinds w (take m es) (e ∷ [])

pub may_come : (net : List NodeDecl) (kinds : List Meaning) (w : WorldState) (es : List Event) (m : ℕ) (e : Event) → AreAllowed net kinds w es → slice_get es m ≡ Some e → MayCome net (world_after net kinds w (take m es)) e
may_come net kinds w [] m e a at = cc
may_come net kinds w (f ∷ es) zero e a at = subst (MayCome net w) (same_Some f e at) a.0
may_come net kinds w (f ∷ es) (suc m) e a at = may_come net kinds (stepped net kinds f w) es m e a.1 at

-- THE LOG

device_append : (es fs : List Event) → device_events (es ++ fs) ≡ device_events es ++ device_events fs
device_append [] fs = refl
device_append (Begin agent start access ∷ es) fs = device_append es fs
device_append (Read n ∷ es) fs = device_append es fs
device_append (Write unit word value ∷ es) fs = ap (λ (l : List TableEvent). device.Write unit word value ∷ l) (device_append es fs)
device_append (Fence ∷ es) fs = ap (λ (l : List TableEvent). device.Fence ∷ l) (device_append es fs)

-- the events of the log that have come are the first of it
log_front : (es : List Event) (m : ℕ) → device_events es ≡ device_events (take m es) ++ device_events (drop m es)
log_front es m = ap device_events (take_and_drop es m) ∙ device_append (take m es) (drop m es)

log_so_far : (log : List TableEvent) (es : List Event) (m : ℕ) → device_events es ≡ log → take (moment es m) log ≡ device_events (take m es)
log_so_far log es m e =
    ap (take (moment es m)) (sym e ∙ log_front es m) ∙ take_front (device_events (take m es)) (device_events (drop m es))

pub moment_within : (log : List TableEvent) (es : List Event) (m : ℕ) → device_events es ≡ log → moment es m ≤ length log
moment_within log es m e =
    let f : length log ≡ length (device_events (take m es)) + length (device_events (drop m es)) = ap length (sym e ∙ log_front es m) ∙ length-append (device_events (take m es)) (device_events (drop m es)) in
    omega arith

moment_next : (es : List Event) (m : ℕ) (e : Event) → slice_get es m ≡ Some e → moment es (suc m) ≡ moment es m + length (device_events (e ∷ []))
moment_next es m e at =
    ap (λ l. length (device_events l)) (take_next es m e at) ∙ ap length (device_append (take m es) (e ∷ [])) ∙ length-append (device_events (take m es)) (device_events (e ∷ []))

pub moment_grows : (es : List Event) (m : ℕ) (e : Event) → slice_get es m ≡ Some e → moment es m ≤ moment es (suc m)
moment_grows es m e at = let f = moment_next es m e at in grow (moment es m) (length (device_events (e ∷ []))) (moment es (suc m)) f
  where
    grow : (a b c : ℕ) → c ≡ a + b → a ≤ c
    grow a b c e = omega arith

pub quiet_moment : (es : List Event) (m : ℕ) (e : Event) → slice_get es m ≡ Some e → device_events (e ∷ []) ≡ [] → moment es (suc m) ≡ moment es m
quiet_moment es m e at none = same (moment es m) (length (device_events (e ∷ []))) (moment es (suc m)) (moment_next es m e at) (ap length none)
  where
    same : (a b c : ℕ) → c ≡ a + b → b ≡ 0 → c ≡ a
    same a b c x y = omega arith

-- the event of the log that comes by this one
pub log_item : (log : List TableEvent) (es : List Event) (m : ℕ) (e : Event) (t : TableEvent) → device_events es ≡ log → slice_get es m ≡ Some e → device_events (e ∷ []) ≡ t ∷ [] → (slice_get log (moment es m) ≡ Some t) × (moment es (suc m) ≡ suc (moment es m))
log_item log es m e t is at one = (here, more)
  where
    front : device_events (take (suc m) es) ≡ device_events (take m es) ++ t ∷ []
    front = ap device_events (take_next es m e at) ∙ device_append (take m es) (e ∷ []) ∙ ap (λ (l : List TableEvent). device_events (take m es) ++ l) one

    all : log ≡ device_events (take m es) ++ t ∷ device_events (drop (suc m) es)
    all = sym is ∙ log_front es (suc m) ∙ ap (λ (l : List TableEvent). l ++ device_events (drop (suc m) es)) front ∙ append_three (device_events (take m es)) (t ∷ []) (device_events (drop (suc m) es))

    here : slice_get log (moment es m) ≡ Some t
    here = ap (λ l. slice_get l (moment es m)) all ∙ front_item (device_events (take m es)) t (device_events (drop (suc m) es))

    more : moment es (suc m) ≡ suc (moment es m)
    more =
        let f : moment es (suc m) ≡ moment es m + length (device_events (e ∷ [])) = moment_next es m e at in
        let g : length (device_events (e ∷ [])) ≡ 1 = ap length one in
        sum (moment es m) (length (device_events (e ∷ []))) (moment es (suc m)) f g
      where
        sum : (a b c : ℕ) → c ≡ a + b → b ≡ 1 → c ≡ suc a
        sum a b c x y = omega arith

-- the words of the world are those after the events of the log that have come
words_after : (net : List NodeDecl) (kinds : List Meaning) (w : WorldState) (es : List Event) → (world_after net kinds w es).words ≡ after_events (device_events es) w.words
words_after net kinds w [] = refl
words_after net kinds w (Begin agent start access ∷ es) = words_after net kinds (stepped net kinds (Begin agent start access) w) es
words_after net kinds w (Read n ∷ es) = words_after net kinds (stepped net kinds (Read n) w) es
words_after net kinds w (Write unit word value ∷ es) = words_after net kinds (stepped net kinds (Write unit word value) w) es
words_after net kinds w (Fence ∷ es) = words_after net kinds (stepped net kinds Fence w) es

pub held_now : (net : List NodeDecl) (kinds : List Meaning) (w : WorldState) (log : List TableEvent) (es : List Event) (m : ℕ) → device_events es ≡ log → ◌≡◌ {A = Held} (record_held net kinds (world_after net kinds w (take m es)).words) (held_at net kinds w.words log (moment es m))
held_now net kinds w log es m is =
    ap (λ ws. record_held net kinds ws) (words_after net kinds w (take m es) ∙ ap (λ l. after_events l w.words) (sym (log_so_far log es m is)))
