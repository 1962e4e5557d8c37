-- One pass over the blocks of a node in the order of their first addresses.
use Rattle.std.proofs.Common.{◌≡◌, ℕ, zero, suc, ◌+◌, ◌<◌, ◌≤◌, ◌⊎◌, inl, inr, Bool, true, false, cond, if◌then◌else◌, ◌&&◌, ◌||◌, not, nat_le, nat_lt, List, [], ◌∷◌, Option, Some, None, refl, sym, ap, ◌∙◌, subst, arith, leb-true, ltb-true, IsTrue, All, length, get_or, drop, drop-cons}
use Rattle.std.proofs.lemmas.Bool.{cases_lt, lt-ltb, leb-false, ltb-false, lt-leb}
use Rattle.std.proofs.lemmas.List.Sums.{sum_by-cons}
use Rattle.dn_net.specs.declared.node.Block.{Block}
use Rattle.dn_net.specs.declared.spans.NodeBlock.{NodeBlock}
use Rattle.std.specs.List.Sorted.{IsNonDecreasingBy}
use Rattle.dn_base.proofs.Booleans.{or_cases, and_parts, or_left, or_right, and_from, and-false, or_parts}
use Rattle.dn_net.specs.Decode.{within, top}
use Rattle.dn_net.specs.Rules.{block_in_range}
use Rattle.dn_net.specs.Spans.{maps_in, accepts_in, overlaps_in}
use Rattle.dn_net.proofs.Least.{within_from}

-- the first span that meets what lies before it, where the map blocks and the accept blocks so far end before these addresses
abbrev pub meets : ℕ → ℕ → NodeBlock → Bool
meets m a s = nat_lt s.block.lo m || (s.mapped && nat_lt s.block.lo a)

abbrev pub past_maps : ℕ → NodeBlock → ℕ
past_maps m s = if s.mapped then s.block.hi + 1 else m

abbrev pub past_accepts : ℕ → NodeBlock → ℕ
past_accepts a s = if s.mapped then a else (if nat_le a s.block.hi then s.block.hi + 1 else a)

abbrev pub sweep : ℕ → ℕ → List NodeBlock → Option ℕ
sweep m a [] = None
sweep m a (s ∷ ss) = if meets m a s then Some s.block.lo else sweep (past_maps m s) (past_accepts a s) ss

-- each span starts no earlier than the one before, and ends no earlier than it starts
abbrev pub Rising : ℕ → List NodeBlock → Type 0
Rising l [] = Unit {0}
Rising l (s ∷ ss) = (l ≤ s.block.lo) × (s.block.lo ≤ s.block.hi) × Rising s.block.lo ss

-- 1 or 0
abbrev pub one_if : Bool → ℕ
one_if b = cond b 1 0

pub maps_in-cons : (s : NodeBlock) (ss : List NodeBlock) (c : ℕ) → maps_in (s ∷ ss) c ≡ one_if (s.mapped && within c s.block) + maps_in ss c
maps_in-cons s ss c = sum_by-cons (λ s. cond (s.mapped && within c s.block) 1 0) s ss

pub accepts_in-cons : (s : NodeBlock) (ss : List NodeBlock) (c : ℕ) → accepts_in (s ∷ ss) c ≡ one_if (not s.mapped && within c s.block) + accepts_in ss c
accepts_in-cons s ss c = sum_by-cons (λ s. cond (not s.mapped && within c s.block) 1 0) s ss

pub within_early : (b : Block) (c : ℕ) → c < b.lo → within c b ≡ false
within_early b c h = rw (lt-leb b.lo c h) refl

pub within_late : (b : Block) (c : ℕ) → b.hi < c → within c b ≡ false
within_late b c h = rw (lt-leb c b.hi h) (and-false (nat_le b.lo c))

-- nothing lies before the first address of rising spans
pub early : (l : ℕ) (ss : List NodeBlock) (c : ℕ) → Rising l ss → c < l → (maps_in ss c ≡ 0) × (accepts_in ss c ≡ 0)
early l [] c r h = (refl, refl)
early l (s ∷ ss) c r h =
    let first : l ≤ s.block.lo = r.0 in
    let out : within c s.block ≡ false = within_early s.block c (omega arith) in
    let rest = early s.block.lo ss c r.2 (omega arith) in
    let p : one_if (s.mapped && within c s.block) ≡ 0 = rw (out, and-false s.mapped) refl in
    let q : one_if (not s.mapped && within c s.block) ≡ 0 = rw (out, and-false (not s.mapped)) refl in
    (maps_in-cons s ss c ∙ omega (arith, p, rest.0), accepts_in-cons s ss c ∙ omega (arith, q, rest.1))

-- what has the address, of the spans so far and of those that come
abbrev pub maps_with : ℕ → List NodeBlock → ℕ → ℕ
maps_with m ss c = one_if (nat_lt c m) + maps_in ss c

abbrev pub accepts_with : ℕ → List NodeBlock → ℕ → ℕ
accepts_with a ss c = one_if (nat_lt c a) + accepts_in ss c

pub record IsShared (m a : ℕ) (ss : List NodeBlock) (c : ℕ) : Type 0 where
  pub mapped : 0 < maps_with m ss c
  pub more : 1 < maps_with m ss c + accepts_with a ss c

pub record IsFirstShared (m a l : ℕ) (ss : List NodeBlock) (x : ℕ) : Type 0 where
  pub from : l ≤ x
  pub shared : IsShared m a ss x
  pub least : (c : ℕ) → l ≤ c → IsShared m a ss c → x ≤ c

abbrev pub IsSweep : ℕ → ℕ → ℕ → List NodeBlock → Option ℕ → Type 0
IsSweep m a l ss None = (c : ℕ) → l ≤ c → IsShared m a ss c → ⊥
IsSweep m a l ss (Some x) = IsFirstShared m a l ss x

one_if_lt : (c m : ℕ) → ((c < m) × (one_if (nat_lt c m) ≡ 1)) ⊎ ((m ≤ c) × (one_if (nat_lt c m) ≡ 0))
one_if_lt c m = by (nat_lt c m) refl
  where
    by : (b : Bool) → nat_lt c m ≡ b → ((c < m) × (one_if (nat_lt c m) ≡ 1)) ⊎ ((m ≤ c) × (one_if (nat_lt c m) ≡ 0))
    by true e = inl (ltb-true c m e, ap one_if e)
    by false e = inr (ltb-false c m e, ap one_if e)

-- before the first span that comes nothing is shared, where the map blocks or the accept blocks so far have ended
before : (m a l b : ℕ) (ss : List NodeBlock) (c : ℕ) → Rising b ss → (m ≤ l) ⊎ (a ≤ l) → l ≤ c → c < b → IsShared m a ss c → ⊥
before m a l b ss c r ended from h s =
    let none = early b ss c r h in
    let p : 0 < one_if (nat_lt c m) + maps_in ss c = s.mapped in
    let q : 1 < (one_if (nat_lt c m) + maps_in ss c) + (one_if (nat_lt c a) + accepts_in ss c) = s.more in
    by (one_if_lt c m) (one_if_lt c a) ended none p q
  where
    by : ((c < m) × (one_if (nat_lt c m) ≡ 1)) ⊎ ((m ≤ c) × (one_if (nat_lt c m) ≡ 0)) → ((c < a) × (one_if (nat_lt c a) ≡ 1)) ⊎ ((a ≤ c) × (one_if (nat_lt c a) ≡ 0)) → (m ≤ l) ⊎ (a ≤ l) → (maps_in ss c ≡ 0) × (accepts_in ss c ≡ 0) → 0 < one_if (nat_lt c m) + maps_in ss c → 1 < (one_if (nat_lt c m) + maps_in ss c) + (one_if (nat_lt c a) + accepts_in ss c) → ⊥
    by (inl u) (inl v) (inl e) none p q = let f = u.0 in omega arith
    by (inl u) (inl v) (inr e) none p q = let f = v.0 in omega arith
    by (inl u) (inr v) e none p q = omega (arith, u.1, v.1, none.0, none.1)
    by (inr u) v e none p q = omega (arith, u.1, none.0)

-- what is known of a span that does not meet what lies before it
record IsApart (m a : ℕ) (s : NodeBlock) : Type 0 where
  pub maps : m ≤ s.block.lo
  pub accepts : s.mapped ≡ true → a ≤ s.block.lo

apart : (m a : ℕ) (s : NodeBlock) → meets m a s ≡ false → IsApart m a s
apart m a s e =
    let f = or_parts (nat_lt s.block.lo m) (s.mapped && nat_lt s.block.lo a) e in
    record { maps = ltb-false _ _ f.0; accepts = λ is. let g : nat_lt s.block.lo a ≡ false = rw is at f.1 in ltb-false _ _ g }

ended_after : (m a : ℕ) (s : NodeBlock) (k : Bool) → s.mapped ≡ k → IsApart m a s → (past_maps m s ≤ s.block.lo) ⊎ (past_accepts a s ≤ s.block.lo)
ended_after m a s true is h = inr (rw is (h.accepts is))
ended_after m a s false is h = inl (rw is h.maps)

one_if_within : (b : Block) (c : ℕ) → b.lo ≤ c → ((c ≤ b.hi) × (one_if (within c b) ≡ 1)) ⊎ ((b.hi < c) × (one_if (within c b) ≡ 0))
one_if_within b c from = by (nat_le c b.hi) refl
  where
    by : (k : Bool) → nat_le c b.hi ≡ k → ((c ≤ b.hi) × (one_if (within c b) ≡ 1)) ⊎ ((b.hi < c) × (one_if (within c b) ≡ 0))
    by true e = let l = leb-true c b.hi e in inl (l, ap one_if (within_from c b from l))
    by false e = let l = leb-false c b.hi e in inr (l, ap one_if (within_late b c l))

-- an address from the span's first on is in as many map blocks as before
kept_maps : (m a : ℕ) (s : NodeBlock) (ss : List NodeBlock) (c : ℕ) (k : Bool) → s.mapped ≡ k → IsApart m a s → s.block.lo ≤ c → maps_with m (s ∷ ss) c ≡ maps_with (past_maps m s) ss c
kept_maps m a s ss c true is h from = rw (maps_in-cons s ss c, is) (by (one_if_lt c m) (one_if_lt c (s.block.hi + 1)) (one_if_within s.block c from))
  where
    by : ((c < m) × (one_if (nat_lt c m) ≡ 1)) ⊎ ((m ≤ c) × (one_if (nat_lt c m) ≡ 0)) → ((c < s.block.hi + 1) × (one_if (nat_lt c (s.block.hi + 1)) ≡ 1)) ⊎ ((s.block.hi + 1 ≤ c) × (one_if (nat_lt c (s.block.hi + 1)) ≡ 0)) → ((c ≤ s.block.hi) × (one_if (within c s.block) ≡ 1)) ⊎ ((s.block.hi < c) × (one_if (within c s.block) ≡ 0)) → one_if (nat_lt c m) + (one_if (within c s.block) + maps_in ss c) ≡ one_if (nat_lt c (s.block.hi + 1)) + maps_in ss c
    by (inl u) v w = let f = u.0 in let g = h.maps in absurd (omega arith)
    by (inr u) (inl v) (inl w) = omega (arith, u.1, v.1, w.1)
    by (inr u) (inr v) (inr w) = omega (arith, u.1, v.1, w.1)
    by (inr u) (inl v) (inr w) = let f = v.0 in let g = w.0 in absurd (omega arith)
    by (inr u) (inr v) (inl w) = let f = v.0 in let g = w.0 in absurd (omega arith)
kept_maps m a s ss c false is h from = rw (maps_in-cons s ss c, is) (omega arith)

-- and in some accept block where it was before
record AreKept (new old : ℕ) : Type 0 where
  pub no_more : new ≤ old
  pub some : 0 < old → 0 < new

kept_accepts : (m a : ℕ) (s : NodeBlock) (ss : List NodeBlock) (c : ℕ) (k : Bool) → s.mapped ≡ k → IsApart m a s → s.block.lo ≤ c → AreKept (accepts_with (past_accepts a s) ss c) (accepts_with a (s ∷ ss) c)
kept_accepts m a s ss c true is h from = rw (accepts_in-cons s ss c, is) record { no_more = omega arith; some = λ p. omega arith }
kept_accepts m a s ss c false is h from = rw (accepts_in-cons s ss c, is) (reach (nat_le a s.block.hi) refl)
  where
    later : a ≤ s.block.hi → ((c < a) × (one_if (nat_lt c a) ≡ 1)) ⊎ ((a ≤ c) × (one_if (nat_lt c a) ≡ 0)) → ((c < s.block.hi + 1) × (one_if (nat_lt c (s.block.hi + 1)) ≡ 1)) ⊎ ((s.block.hi + 1 ≤ c) × (one_if (nat_lt c (s.block.hi + 1)) ≡ 0)) → ((c ≤ s.block.hi) × (one_if (within c s.block) ≡ 1)) ⊎ ((s.block.hi < c) × (one_if (within c s.block) ≡ 0)) → AreKept (one_if (nat_lt c (s.block.hi + 1)) + accepts_in ss c) (one_if (nat_lt c a) + (one_if (within c s.block) + accepts_in ss c))
    later le u (inl v) (inl w) = record { no_more = omega (arith, v.1, w.1); some = λ p. omega (arith, v.1) }
    later le (inl u) (inr v) w = let f = u.0 in let g = v.0 in absurd (omega arith)
    later le (inr u) (inr v) (inr w) = record { no_more = omega (arith, v.1); some = λ p. omega (arith, u.1, v.1, w.1) }
    later le u (inl v) (inr w) = let f = v.0 in let g = w.0 in absurd (omega arith)
    later le (inr u) (inr v) (inl w) = let f = v.0 in let g = w.0 in absurd (omega arith)

    same : s.block.hi < a → ((c < a) × (one_if (nat_lt c a) ≡ 1)) ⊎ ((a ≤ c) × (one_if (nat_lt c a) ≡ 0)) → ((c ≤ s.block.hi) × (one_if (within c s.block) ≡ 1)) ⊎ ((s.block.hi < c) × (one_if (within c s.block) ≡ 0)) → AreKept (one_if (nat_lt c a) + accepts_in ss c) (one_if (nat_lt c a) + (one_if (within c s.block) + accepts_in ss c))
    same lt (inl u) w = record { no_more = omega arith; some = λ p. omega (arith, u.1) }
    same lt (inr u) (inl w) = let f = u.0 in let g = w.0 in absurd (omega arith)
    same lt (inr u) (inr w) = record { no_more = omega arith; some = λ p. omega (arith, w.1) }

    reach : (k : Bool) → nat_le a s.block.hi ≡ k → AreKept (one_if (nat_lt c (if k then s.block.hi + 1 else a)) + accepts_in ss c) (one_if (nat_lt c a) + (one_if (within c s.block) + accepts_in ss c))
    reach true e = later (leb-true a s.block.hi e) (one_if_lt c a) (one_if_lt c (s.block.hi + 1)) (one_if_within s.block c from)
    reach false e = same (leb-false a s.block.hi e) (one_if_lt c a) (one_if_within s.block c from)

shared_on : (k l j i : ℕ) → k ≡ l → AreKept i j → 0 < k → 1 < k + j → (0 < l) × (1 < l + i)
shared_on k l zero i same kept p q = (omega arith, omega arith)
shared_on k l (suc j) i same kept p q = let h = kept.some (omega arith) in (omega arith, omega arith)

shared_after : (m a : ℕ) (s : NodeBlock) (ss : List NodeBlock) (c : ℕ) → IsApart m a s → s.block.lo ≤ c → IsShared m a (s ∷ ss) c → IsShared (past_maps m s) (past_accepts a s) ss c
shared_after m a s ss c h from sh =
    let r = shared_on _ _ _ _ (kept_maps m a s ss c s.mapped refl h from) (kept_accepts m a s ss c s.mapped refl h from) sh.mapped sh.more in
    record { mapped = r.0; more = r.1 }

shared_before : (m a : ℕ) (s : NodeBlock) (ss : List NodeBlock) (c : ℕ) → IsApart m a s → s.block.lo ≤ c → IsShared (past_maps m s) (past_accepts a s) ss c → IsShared m a (s ∷ ss) c
shared_before m a s ss c h from sh =
    let same = kept_maps m a s ss c s.mapped refl h from in
    let kept = kept_accepts m a s ss c s.mapped refl h from in
    let p = sh.mapped in
    let q = sh.more in
    let n = kept.no_more in
    record { mapped = omega (arith, same, p); more = omega (arith, same, q, n) }

-- a span that meets what lies before it shares its first address
met : (m a : ℕ) (s : NodeBlock) (ss : List NodeBlock) (k : Bool) → s.mapped ≡ k → s.block.lo ≤ s.block.hi → meets m a s ≡ true → IsShared m a (s ∷ ss) s.block.lo
met m a s ss k is valid e =
    let here : within s.block.lo s.block ≡ true = within_from s.block.lo s.block (omega arith) valid in
    by k is here (or_cases (nat_lt s.block.lo m) (s.mapped && nat_lt s.block.lo a) e)
  where
    by : (k : Bool) → s.mapped ≡ k → within s.block.lo s.block ≡ true → (nat_lt s.block.lo m ≡ true) ⊎ ((s.mapped && nat_lt s.block.lo a) ≡ true) → IsShared m a (s ∷ ss) s.block.lo
    by true is here (inl f) =
        let p = maps_in-cons s ss s.block.lo in
        let one : one_if (s.mapped && within s.block.lo s.block) ≡ 1 = rw (is, here) refl in
        let lt : one_if (nat_lt s.block.lo m) ≡ 1 = ap one_if f in
        record { mapped = omega (arith, p, one); more = omega (arith, p, one, lt) }
    by true is here (inr f) =
        let p = maps_in-cons s ss s.block.lo in
        let one : one_if (s.mapped && within s.block.lo s.block) ≡ 1 = rw (is, here) refl in
        let lt : one_if (nat_lt s.block.lo a) ≡ 1 = ap one_if (and_parts s.mapped (nat_lt s.block.lo a) f).1 in
        record { mapped = omega (arith, p, one); more = omega (arith, p, one, lt) }
    by false is here (inl f) =
        let p = accepts_in-cons s ss s.block.lo in
        let one : one_if (not s.mapped && within s.block.lo s.block) ≡ 1 = rw (is, here) refl in
        let lt : one_if (nat_lt s.block.lo m) ≡ 1 = ap one_if f in
        record { mapped = omega (arith, lt); more = omega (arith, p, one, lt) }
    by false is here (inr f) = let g = (and_parts s.mapped (nat_lt s.block.lo a) f).0 in let h : false ≡ true = sym is ∙ g in cc

-- the sweep finds the least shared address from an address on
pub swept : (m a l : ℕ) (ss : List NodeBlock) → Rising l ss → (m ≤ l) ⊎ (a ≤ l) → IsSweep m a l ss (sweep m a ss)
swept m a l [] r ended = λ c from sh. before m a l (c + 1) [] c tt ended from (omega arith) sh
swept m a l (s ∷ ss) r ended = by (meets m a s) refl (swept (past_maps m s) (past_accepts a s) s.block.lo ss r.2)
  where
    none : (c : ℕ) → l ≤ c → c < s.block.lo → IsShared m a (s ∷ ss) c → ⊥
    none c from lt sh = before m a l s.block.lo (s ∷ ss) c (omega arith, r.1, r.2) ended from lt sh

    on : IsApart m a s → (o : Option ℕ) → IsSweep (past_maps m s) (past_accepts a s) s.block.lo ss o → IsSweep m a l (s ∷ ss) o
    on h None ih = λ c from sh. elim (cases_lt c s.block.lo) [ inl lt ↦ none c from lt sh | inr le ↦ ih c le (shared_after m a s ss c h le sh) ]
    on h (Some x) ih =
        let first : l ≤ s.block.lo = r.0 in
        let at = ih.from in
        record {
          from = omega arith;
          shared = shared_before m a s ss x h at ih.shared;
          least = λ c from sh. elim (cases_lt c s.block.lo) [ inl lt ↦ absurd (none c from lt sh) | inr le ↦ ih.least c le (shared_after m a s ss c h le sh) ];
        }

    by : (b : Bool) → meets m a s ≡ b → ((past_maps m s ≤ s.block.lo) ⊎ (past_accepts a s ≤ s.block.lo) → IsSweep (past_maps m s) (past_accepts a s) s.block.lo ss (sweep (past_maps m s) (past_accepts a s) ss)) → IsSweep m a l (s ∷ ss) (if b then Some s.block.lo else sweep (past_maps m s) (past_accepts a s) ss)
    by true e ih = record {
      from = r.0;
      shared = met m a s ss s.mapped refl r.1 e;
      least = λ c from sh. elim (cases_lt c s.block.lo) [ inl lt ↦ absurd (none c from lt sh) | inr le ↦ le ];
    }
    by false e ih = let h = apart m a s e in on h (sweep (past_maps m s) (past_accepts a s) ss) (ih (ended_after m a s s.mapped refl h))

overlap_shared : (ss : List NodeBlock) (c : ℕ) → overlaps_in ss c ≡ true → IsShared 0 0 ss c
overlap_shared ss c h = by (or_cases (nat_lt 1 (maps_in ss c)) (nat_lt 0 (maps_in ss c) && nat_lt 0 (accepts_in ss c)) h)
  where
    by : (nat_lt 1 (maps_in ss c) ≡ true) ⊎ ((nat_lt 0 (maps_in ss c) && nat_lt 0 (accepts_in ss c)) ≡ true) → IsShared 0 0 ss c
    by (inl e) = let p = ltb-true _ _ e in record { mapped = omega arith; more = omega arith }
    by (inr e) =
        let b = and_parts (nat_lt 0 (maps_in ss c)) (nat_lt 0 (accepts_in ss c)) e in
        let p = ltb-true _ _ b.0 in
        let q = ltb-true _ _ b.1 in
        record { mapped = omega arith; more = omega arith }

overlap_shown : (ss : List NodeBlock) (c : ℕ) → IsShared 0 0 ss c → overlaps_in ss c ≡ true
overlap_shown ss c sh = by (one_if_lt c 0) (cases_lt 1 (maps_in ss c))
  where
    by : ((c < 0) × (one_if (nat_lt c 0) ≡ 1)) ⊎ ((0 ≤ c) × (one_if (nat_lt c 0) ≡ 0)) → (1 < maps_in ss c) ⊎ (maps_in ss c ≤ 1) → overlaps_in ss c ≡ true
    by (inl u) v = let f = u.0 in absurd (omega arith)
    by (inr u) (inl v) = or_left _ _ (lt-ltb _ _ v)
    by (inr u) (inr v) =
        let p = sh.mapped in
        let q = sh.more in
        let k : 0 < maps_in ss c = omega (arith, u.1, p) in
        let j : 0 < accepts_in ss c = omega (arith, u.1, q, v) in
        or_right _ _ (and_from _ _ (lt-ltb _ _ k) (lt-ltb _ _ j))

-- spans that are in range and in the order of their first addresses
pub rising : (l : ℕ) (ss : List NodeBlock) → All (λ s. IsTrue (block_in_range s.block)) ss → IsNonDecreasingBy (λ s. s.block.lo) ss → ((s : NodeBlock) → 0 < length ss → l ≤ (get_or ss 0 s).block.lo) → Rising l ss
rising l [] valid up first = tt
rising l (s ∷ ss) valid up first =
    let here = and_parts (nat_le s.block.lo s.block.hi) (nat_le s.block.hi top) (valid 0 s (omega arith)) in
    (first s (omega arith), leb-true _ _ here.0, rising s.block.lo ss (λ k d h. valid (suc k) d (omega arith)) (λ i j d h k. up (suc i) (suc j) d (omega arith) (omega arith)) (λ d h. up 0 1 d (omega arith) (omega arith)))

pub found_overlap : (ss : List NodeBlock) (x : ℕ) → All (λ s. IsTrue (block_in_range s.block)) ss → IsNonDecreasingBy (λ s. s.block.lo) ss → sweep 0 0 ss ≡ Some x → IsTrue (overlaps_in ss x) × ((b : ℕ) → IsTrue (overlaps_in ss b) → x ≤ b)
found_overlap ss x valid up e =
    let r : IsSweep 0 0 0 ss (Some x) = subst (λ o. IsSweep 0 0 0 ss o) e (swept 0 0 0 ss (rising 0 ss valid up (λ d h. omega arith)) (inl (omega arith))) in
    (overlap_shown ss x r.shared, λ b h. r.least b (omega arith) (overlap_shared ss b h))

pub no_overlap : (ss : List NodeBlock) → All (λ s. IsTrue (block_in_range s.block)) ss → IsNonDecreasingBy (λ s. s.block.lo) ss → sweep 0 0 ss ≡ None → (b : ℕ) → overlaps_in ss b ≡ false
no_overlap ss valid up e b =
    let r : IsSweep 0 0 0 ss None = subst (λ o. IsSweep 0 0 0 ss o) e (swept 0 0 0 ss (rising 0 ss valid up (λ d h. omega arith)) (inl (omega arith))) in
    by (overlaps_in ss b) refl r
  where
    by : (t : Bool) → overlaps_in ss b ≡ t → IsSweep 0 0 0 ss None → t ≡ false
    by true h r = absurd (r b (omega arith) (overlap_shared ss b h))
    by false h r = refl

pub sweep_at : (m a : ℕ) (ss : List NodeBlock) (i : ℕ) (d : NodeBlock) → i < length ss → meets m a (get_or ss i d) ≡ true → sweep m a (drop i ss) ≡ Some (get_or ss i d).block.lo
sweep_at m a ss i d h e = rw (drop-cons ss i d h, e) refl
