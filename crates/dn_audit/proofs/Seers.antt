-- The agents that see a name, as the definitions list them, are those that see it.
use Rattle.std.proofs.Common.{◌≡◌, ℕ, zero, suc, ◌+◌, ◌<◌, ◌≤◌, ◌⊎◌, ◌↔◌, inl, inr, Bool, true, false, ◌||◌, if◌then◌else◌, List, [], ◌∷◌, filter, length, slice_get, refl, sym, ap, ◌∙◌, arith, IsTrue}
use Rattle.std.specs.List.{list_any, range_with_len}
use Rattle.std.proofs.lemmas.Bool.{and_from, and_parts, false≢true, or_cases, or_left, or_right}
use Rattle.dn_base.specs.Members.{Member}
use Rattle.dn_interval.specs.declared.span.TheConstants.{TOP}
use Rattle.dn_net.specs.declared.node.Name.{Name}
use Rattle.dn_net.specs.declared.node.NodeDecl.{NodeDecl}
use Rattle.dn_net.specs.Decode.{is_accepted, is_accepted_at, is_agent_at}
use Rattle.dn_net.specs.Names.{name_eq}
use Rattle.dn_net.proofs.Resolution.{end_names_are_ends, found_by_test, test_finds}
use Rattle.dn_kind.specs.declared.rights.Access.{Access}
use Rattle.dn_kind.specs.declared.rights.Access.TheVariants.{Read, Write}
use Rattle.dn_kind.specs.Tables.{Held, ResolvesUnder, allowing, resolved_names_under, step_limit_under, steps_under}
use Rattle.dn_audit.specs.Shared.{AllAfter, AreRising}
use Rattle.dn_audit.specs.Told.{holds_from, holds_somewhere, if_several, seers, sees, sees_for}
use Rattle.dn_audit.specs.Views.{Sees, TwoSee}

-- SOMEWHERE

-- where a test holds of one of so many addresses from one on
record HoldsAt (p : ℕ → Bool) (k a : ℕ) : Type 0 where
  pub at : ℕ
  pub from : a ≤ at
  pub before : at < a + k
  pub holds : p at ≡ true

held_at : (p : ℕ → Bool) (k a : ℕ) → holds_from p k a ≡ true → HoldsAt p k a
unfolding holds_from
held_at p zero a e = absurd (false≢true e)
held_at p (suc k) a e = by (or_cases (p a) (holds_from p k (suc a)) e) (held_at p k (suc a))
  where
    by : (p a ≡ true) ⊎ (holds_from p k (suc a) ≡ true) → (holds_from p k (suc a) ≡ true → HoldsAt p k (suc a)) → HoldsAt p (suc k) a
    by (inl h) ih = record { at = a; from = omega arith; before = omega arith; holds = h }
    by (inr h) ih =
        let r = ih h in
        let f = r.from in
        let b = r.before in
        record { at = r.at; from = omega (arith, f); before = omega (arith, b); holds = r.holds }

at_held : (p : ℕ → Bool) (k a b : ℕ) → a ≤ b → b < a + k → p b ≡ true → holds_from p k a ≡ true
unfolding holds_from
at_held p zero a b l u e = absurd (omega (arith, l, u))
at_held p (suc k) a b l u e = by (cases a b l) (at_held p k (suc a) b)
  where
    cases : (a b : ℕ) → a ≤ b → (a ≡ b) ⊎ (suc a ≤ b)
    cases a b l = grind arith

    by : (a ≡ b) ⊎ (suc a ≤ b) → (suc a ≤ b → b < suc a + k → p b ≡ true → holds_from p k (suc a) ≡ true) → (p a || holds_from p k (suc a)) ≡ true
    by (inl same) ih = or_left (p a) (holds_from p k (suc a)) (ap p same ∙ e)
    by (inr less) ih = or_right (p a) (holds_from p k (suc a)) (ih less (omega (arith, u)) e)

somewhere : (p : ℕ → Bool) → holds_somewhere p ≡ true → (a : ℕ) × (a ≤ TOP) × (p a ≡ true)
unfolding holds_somewhere
somewhere p e =
    let r = held_at p (TOP + 1) 0 e in
    let b = r.before in
    (r.at, omega (arith, b), r.holds)

found_somewhere : (p : ℕ → Bool) (a : ℕ) → a ≤ TOP → p a ≡ true → holds_somewhere p ≡ true
unfolding holds_somewhere
found_somewhere p a l e = at_held p (TOP + 1) 0 a (omega arith) (omega (arith, l)) e

-- WHO SEES A NAME

seen_for : (net : List NodeDecl) (h : Held) (agent : ℕ) (x : Name) (access : Access) → sees_for net h agent x access ≡ true → (a : ℕ) × (a ≤ TOP) × ResolvesUnder net (allowing access h) (record { node = agent; addr = a }) x
seen_for net h agent x access e =
    let k : Held = allowing access h in
    let r = somewhere (λ a. list_any (name_eq x) (resolved_names_under net k (record { node = agent; addr = a }))) e in
    let from : Name = record { node = agent; addr = r.0 } in
    (r.0, r.1, (end_names_are_ends (steps_under net k) (is_accepted net) step_limit_under from x).0 (found_by_test x (resolved_names_under net k from) r.2))

for_seen : (net : List NodeDecl) (h : Held) (agent : ℕ) (x : Name) (access : Access) (a : ℕ) → a ≤ TOP → ResolvesUnder net (allowing access h) (record { node = agent; addr = a }) x → sees_for net h agent x access ≡ true
for_seen net h agent x access a l r =
    let k : Held = allowing access h in
    let from : Name = record { node = agent; addr = a } in
    found_somewhere (λ b. list_any (name_eq x) (resolved_names_under net k (record { node = agent; addr = b }))) a l (test_finds x (resolved_names_under net k from) ((end_names_are_ends (steps_under net k) (is_accepted net) step_limit_under from x).1 r))

-- the test of who sees a name
pub sees_is : (net : List NodeDecl) (h : Held) (x : Name) (agent : ℕ) → sees net h x agent ≡ true → Sees net h agent x
sees_is net h x agent e =
    let p = and_parts (is_agent_at (slice_get net agent)) (sees_for net h agent x Read || sees_for net h agent x Write) e in
    (p.0, by (or_cases (sees_for net h agent x Read) (sees_for net h agent x Write) p.1))
  where
    by : (sees_for net h agent x Read ≡ true) ⊎ (sees_for net h agent x Write ≡ true) → (access : Access) × (a : ℕ) × (a ≤ TOP) × ResolvesUnder net (allowing access h) (record { node = agent; addr = a }) x
    by (inl r) = let s = seen_for net h agent x Read r in (Read, s.0, s.1, s.2)
    by (inr w) = let s = seen_for net h agent x Write w in (Write, s.0, s.1, s.2)

pub is_sees : (net : List NodeDecl) (h : Held) (x : Name) (agent : ℕ) → Sees net h agent x → sees net h x agent ≡ true
is_sees net h x agent (there, (access, a, l, r)) = and_from (is_agent_at (slice_get net agent)) (sees_for net h agent x Read || sees_for net h agent x Write) there (by access r)
  where
    by : (access : Access) → ResolvesUnder net (allowing access h) (record { node = agent; addr = a }) x → (sees_for net h agent x Read || sees_for net h agent x Write) ≡ true
    by Read r = or_left (sees_for net h agent x Read) (sees_for net h agent x Write) (for_seen net h agent x Read a l r)
    by Write r = or_right (sees_for net h agent x Read) (sees_for net h agent x Write) (for_seen net h agent x Write a l r)

-- an agent is one of the nodes, and so is the node of a name that is seen
pub agent_there : (net : List NodeDecl) (agent : ℕ) → IsTrue (is_agent_at (slice_get net agent)) → agent < length net
agent_there [] agent t = absurd (false≢true t)
agent_there (n ∷ ns) zero t = omega arith
agent_there (n ∷ ns) (suc agent) t = let l = agent_there ns agent t in omega (arith, l)

accepted_there : (net : List NodeDecl) (node a : ℕ) → IsTrue (is_accepted_at a (slice_get net node)) → node < length net
accepted_there [] node a t = absurd (false≢true t)
accepted_there (n ∷ ns) zero a t = omega arith
accepted_there (n ∷ ns) (suc node) a t = let l = accepted_there ns node a t in omega (arith, l)

pub seer_there : (net : List NodeDecl) (h : Held) (agent : ℕ) (x : Name) → Sees net h agent x → agent < length net
seer_there net h agent x s = agent_there net agent s.0

pub seen_there : (net : List NodeDecl) (h : Held) (agent : ℕ) (x : Name) → Sees net h agent x → x.node < length net
seen_there net h agent x (there, (access, a, l, (accepted, within))) = accepted_there net x.node x.addr accepted

-- THE LIST OF THEM

passing : (p : ℕ → Bool) (xs : List ℕ) (n : ℕ) → Member n (filter p xs) → Member n xs × (p n ≡ true)
passing p [] n m = absurd m
passing p (x ∷ xs) n m = by (p x) refl (passing p xs n) m
  where
    by : (b : Bool) → p x ≡ b → (Member n (filter p xs) → Member n xs × (p n ≡ true)) → Member n (if b then x ∷ filter p xs else filter p xs) → Member n (x ∷ xs) × (p n ≡ true)
    by true e ih (inl same) = (inl same, ap p (sym same) ∙ e)
    by true e ih (inr m) = let r = ih m in (inr r.0, r.1)
    by false e ih m = let r = ih m in (inr r.0, r.1)

passes : (p : ℕ → Bool) (xs : List ℕ) (n : ℕ) → Member n xs → p n ≡ true → Member n (filter p xs)
passes p [] n m e = absurd m
passes p (x ∷ xs) n m e = by (p x) refl (passes p xs n) m
  where
    by : (b : Bool) → p x ≡ b → (Member n xs → p n ≡ true → Member n (filter p xs)) → Member n (x ∷ xs) → Member n (if b then x ∷ filter p xs else filter p xs)
    by true f ih (inl same) = inl same
    by true f ih (inr m) = inr (ih m e)
    by false f ih (inl same) = absurd (false≢true (sym f ∙ ap p same ∙ e))
    by false f ih (inr m) = ih m e

in_range : (a k n : ℕ) → a ≤ n → n < a + k → Member n (range_with_len a k)
in_range a zero n l u = absurd (omega (arith, l, u))
in_range a (suc k) n l u = by (cases a n l) (λ m. in_range (a + 1) k n m (omega (arith, u)))
  where
    cases : (a n : ℕ) → a ≤ n → (a ≡ n) ⊎ (a + 1 ≤ n)
    cases a n l = grind arith

    by : (a ≡ n) ⊎ (a + 1 ≤ n) → (a + 1 ≤ n → Member n (range_with_len (a + 1) k)) → Member n (a ∷ range_with_len (a + 1) k)
    by (inl e) ih = inl e
    by (inr m) ih = inr (ih m)

after_range : (m a k : ℕ) → m < a → AllAfter m (range_with_len a k)
after_range m a zero l = tt
after_range m a (suc k) l = (l, after_range m (a + 1) k (omega (arith, l)))

range_rises : (a k : ℕ) → AreRising (range_with_len a k)
range_rises a zero = tt
range_rises a (suc k) = (after_range a (a + 1) k (omega arith), range_rises (a + 1) k)

after_filter : (p : ℕ → Bool) (m : ℕ) (xs : List ℕ) → AllAfter m xs → AllAfter m (filter p xs)
after_filter p m [] a = tt
after_filter p m (x ∷ xs) a = by (p x) (after_filter p m xs a.1)
  where
    by : (b : Bool) → AllAfter m (filter p xs) → AllAfter m (if b then x ∷ filter p xs else filter p xs)
    by true r = (a.0, r)
    by false r = r

filter_rises : (p : ℕ → Bool) (xs : List ℕ) → AreRising xs → AreRising (filter p xs)
filter_rises p [] r = tt
filter_rises p (x ∷ xs) r = by (p x) (filter_rises p xs r.1)
  where
    by : (b : Bool) → AreRising (filter p xs) → AreRising (if b then x ∷ filter p xs else filter p xs)
    by true s = (after_filter p x xs r.0, s)
    by false s = s

pub seers_rise : (net : List NodeDecl) (h : Held) (x : Name) → AreRising (seers net h x)
seers_rise net h x = filter_rises (sees net h x) (range_with_len 0 (length net)) (range_rises 0 (length net))

pub seer_in : (net : List NodeDecl) (h : Held) (x : Name) (agent : ℕ) → Member agent (seers net h x) ↔ Sees net h agent x
seer_in net h x agent = (
  (λ m. sees_is net h x agent (passing (sees net h x) (range_with_len 0 (length net)) agent m).1),
  (λ s. passes (sees net h x) (range_with_len 0 (length net)) agent (in_range 0 (length net) agent (omega arith) (let l = seer_there net h agent x s in omega (arith, l))) (is_sees net h x agent s)),
)

-- WHERE THERE ARE SEVERAL

after_member : (m n : ℕ) (xs : List ℕ) → AllAfter m xs → Member n xs → m < n
after_member m n [] a i = absurd i
after_member m n (x ∷ xs) a (inl e) = let l = a.0 in omega (arith, l, e)
after_member m n (x ∷ xs) a (inr i) = after_member m n xs a.1 i

-- two of them
abbrev pub AreTwo : List ℕ → Type 0
AreTwo xs = (g : ℕ) × (k : ℕ) × (g < k) × Member g xs × Member k xs

several_in : (xs : List ℕ) (n : ℕ) → AreRising xs → Member n (if_several xs) → Member n xs × AreTwo xs
several_in [] n r m = absurd m
several_in (x ∷ []) n r m = absurd m
several_in (x ∷ (y ∷ ys)) n r m = (m, (x, y, r.0.0, inl refl, inr (inl refl)))

in_several : (xs : List ℕ) (n : ℕ) → Member n xs → AreTwo xs → Member n (if_several xs)
in_several [] n m t = absurd m
in_several (x ∷ []) n m (g, k, l, inl e, inl f) = absurd (omega (arith, l, e, f))
in_several (x ∷ []) n m (g, k, l, inr e, f) = absurd e
in_several (x ∷ []) n m (g, k, l, inl e, inr f) = absurd f
in_several (x ∷ (y ∷ ys)) n m t = m

pub several_rise : (xs : List ℕ) → AreRising xs → AreRising (if_several xs)
several_rise [] r = tt
several_rise (x ∷ []) r = tt
several_rise (x ∷ (y ∷ ys)) r = r

pub sharer_in : (net : List NodeDecl) (h : Held) (x : Name) (agent : ℕ) → Member agent (if_several (seers net h x)) ↔ (Sees net h agent x × TwoSee net h x)
sharer_in net h x agent = (
  (λ m. let r = several_in (seers net h x) agent (seers_rise net h x) m in ((seer_in net h x agent).0 r.0, (r.1.0, r.1.1, r.1.2, (seer_in net h x r.1.0).0 r.1.3, (seer_in net h x r.1.1).0 r.1.4))),
  (λ (s, (g, k, l, a, b)). in_several (seers net h x) agent ((seer_in net h x agent).1 s) (g, k, l, (seer_in net h x g).1 a, (seer_in net h x k).1 b)),
)
