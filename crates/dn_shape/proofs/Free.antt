-- The first name of a new node that names no node.
use Rattle.std.proofs.Common.{◌≡◌, ℕ, zero, suc, ◌+◌, ◌-◌, ◌^◌, ◌<◌, ◌≤◌, ◌⊎◌, inl, inr, Bool, true, false, if◌then◌else◌, List, [], ◌∷◌, ◌++◌, map, length, cond, not, nat_lt, is_some, position, Option, Some, None, codes, refl, sym, ap, ◌∙◌, subst, arith}
use Rattle.std.specs.Fmt.{decimal}
use Rattle.std.specs.List.{prefix_len}
use Rattle.std.specs.Str.{bytes_eq}
use Rattle.std.proofs.lemmas.Fmt.{decimal_injective}
use Rattle.std.proofs.lemmas.List.{append_cancel_left}
use Rattle.std.proofs.lemmas.Slice.Eq.{bytes_eq-Decides}
use Rattle.dn_base.specs.Members.{Member}
use Rattle.dn_base.proofs.Members.{any_member, member_map}
use Rattle.dn_base.proofs.Lists.{length-map, prefix_len-any}
use Rattle.dn_net.specs.declared.node.NodeDecl.{NodeDecl}
use Rattle.dn_shape.specs.Split.{accepter_text, is_named, first_failing, free_number, FreeNumberIsFirst}
use Rattle.dn_shape.proofs.Pigeons.{Distinct, no_longer}

-- each number before the first that fails passes
pub passes_before : (test : ℕ → Bool) (n k j : ℕ) → k ≤ j → j < first_failing test n k → test j ≡ true
passes_before test zero k j l m = absurd (omega arith)
passes_before test (suc n) k j l m = by (λ s t. passes_before test n (suc k) j s t) (test k) refl m
  where
    later : (suc k ≤ j → j < first_failing test n (suc k) → test j ≡ true) → test k ≡ true → (k ≡ j) ⊎ (suc k ≤ j) → j < first_failing test n (suc k) → test j ≡ true
    later ih e (inl s) m = subst (λ i. test i ≡ true) s e
    later ih e (inr s) m = ih s m

    cases : (k j : ℕ) → k ≤ j → (k ≡ j) ⊎ (suc k ≤ j)
    cases k j l = grind arith

    by : (suc k ≤ j → j < first_failing test n (suc k) → test j ≡ true) → (b : Bool) → test k ≡ b → j < (if b then first_failing test n (suc k) else k) → test j ≡ true
    by ih true e m = later ih e (cases k j l) m
    by ih false e m = absurd (omega arith)

-- it fails, or all that were tried pass
pub fails_or_last : (test : ℕ → Bool) (n k : ℕ) → (test (first_failing test n k) ≡ false) ⊎ (first_failing test n k ≡ k + n)
fails_or_last test zero k = inr (omega arith)
fails_or_last test (suc n) k = by (fails_or_last test n (suc k)) (test k) refl
  where
    further : (test (first_failing test n (suc k)) ≡ false) ⊎ (first_failing test n (suc k) ≡ suc k + n) → (test (first_failing test n (suc k)) ≡ false) ⊎ (first_failing test n (suc k) ≡ k + suc n)
    further (inl e) = inl e
    further (inr e) = inr (omega arith)

    by : (test (first_failing test n (suc k)) ≡ false) ⊎ (first_failing test n (suc k) ≡ suc k + n) → (b : Bool) → test k ≡ b → (test (if b then first_failing test n (suc k) else k) ≡ false) ⊎ ((if b then first_failing test n (suc k) else k) ≡ k + suc n)
    by ih true e = further ih
    by ih false e = inl e

pub named_member : (net : List NodeDecl) (text : List ℕ) → is_named net text ≡ true → Member text (map (λ (d : NodeDecl). d.text) net)
named_member net text e =
    let r = any_member (λ (d : NodeDecl). bytes_eq text d.text) net e in
    subst (λ t. Member t (map (λ (d : NodeDecl). d.text) net)) (sym ((bytes_eq-Decides text r.0.text).0 r.2)) (member_map (λ (d : NodeDecl). d.text) net r.0 r.1)

-- the names with the first so many numbers
abbrev texts_below : List ℕ → ℕ → List (List ℕ)
texts_below text zero = []
texts_below text (suc k) = accepter_text text k ∷ texts_below text k

texts_length : (text : List ℕ) (k : ℕ) → length (texts_below text k) ≡ k
texts_length text zero = refl
texts_length text (suc k) = ap suc (texts_length text k)

member_below : (text t : List ℕ) (k : ℕ) → Member t (texts_below text k) → (j : ℕ) × (j < k) × (accepter_text text j ≡ t)
member_below text t zero m = absurd m
member_below text t (suc k) (inl e) = (k, omega arith, e)
member_below text t (suc k) (inr m) =
    let r = member_below text t k m in
    let l : r.0 < k = r.1 in
    (r.0, omega arith, r.2)

same_number : (text : List ℕ) (j k : ℕ) → j < 2 ^ 64 → k < 2 ^ 64 → accepter_text text j ≡ accepter_text text k → j ≡ k
same_number text j k l m e = decimal_injective j k l m (append_cancel_left (codes ".acc") (decimal j) (decimal k) (append_cancel_left text (codes ".acc" ++ decimal j) (codes ".acc" ++ decimal k) e))

texts_distinct : (text : List ℕ) (k : ℕ) → k ≤ 2 ^ 64 → Distinct (texts_below text k)
texts_distinct text zero l = tt
texts_distinct text (suc k) l = (apart, texts_distinct text k (omega arith))
  where
    apart : Member (accepter_text text k) (texts_below text k) → ⊥
    apart m =
        let r = member_below text (accepter_text text k) k m in
        let s : r.0 < k = r.1 in
        let e : r.0 ≡ k = same_number text r.0 k (omega arith) (omega arith) r.2 in
        omega arith

-- not all of one number more than there are nodes are taken
not_all : (net : List NodeDecl) (text : List ℕ) → length net < 2 ^ 63 → ((j : ℕ) → j ≤ length net → is_named net (accepter_text text j) ≡ true) → ⊥
not_all net text small taken =
    let l = no_longer (texts_below text (suc (length net))) (map (λ (d : NodeDecl). d.text) net) (texts_distinct text (suc (length net)) (omega arith)) named in
    let a = texts_length text (suc (length net)) in
    let b = length-map net (λ (d : NodeDecl). d.text) in
    omega (arith, l, a, b)
  where
    named : (t : List ℕ) → Member t (texts_below text (suc (length net))) → Member t (map (λ (d : NodeDecl). d.text) net)
    named t m =
        let r = member_below text t (suc (length net)) m in
        let s : r.0 < suc (length net) = r.1 in
        subst (λ u. Member u (map (λ (d : NodeDecl). d.text) net)) r.2 (named_member net (accepter_text text r.0) (taken r.0 (omega arith)))

pub free_number_is_first : FreeNumberIsFirst
free_number_is_first net text small = (free, λ k l. passes_before (λ k. is_named net (accepter_text text k)) (length net) 0 k (omega arith) l)
  where
    cases : (j k : ℕ) → j ≤ k → (j < k) ⊎ (k ≡ j)
    cases j k l = grind arith

    taken : first_failing (λ k. is_named net (accepter_text text k)) (length net) 0 ≡ 0 + length net → (b : Bool) → is_named net (accepter_text text (free_number net text)) ≡ b → b ≡ false
    taken e false f = refl
    taken e true f = absurd (not_all net text small (λ j l. each j (cases j (free_number net text) (omega arith))))
      where
        each : (j : ℕ) → (j < free_number net text) ⊎ (free_number net text ≡ j) → is_named net (accepter_text text j) ≡ true
        each j (inl m) = passes_before (λ k. is_named net (accepter_text text k)) (length net) 0 j (omega arith) m
        each j (inr s) = subst (λ i. is_named net (accepter_text text i) ≡ true) s f

    free : is_named net (accepter_text text (free_number net text)) ≡ false
    free = elim (fails_or_last (λ k. is_named net (accepter_text text k)) (length net) 0) [
      | inl e ↦ e
      | inr e ↦ taken e (is_named net (accepter_text text (free_number net text))) refl
    ]

-- the place of a name tells whether a node has it
place_named : (net : List NodeDecl) (t : List ℕ) → is_some (position (λ (d : NodeDecl). bytes_eq t d.text) net) ≡ is_named net t
place_named net t = shown (nat_lt (prefix_len (λ d. not (bytes_eq t d.text)) net) (length net)) ∙ prefix_len-any (λ (d : NodeDecl). bytes_eq t d.text) net
  where
    shown : (b : Bool) → is_some (cond b (Some (prefix_len (λ (d : NodeDecl). not (bytes_eq t d.text)) net)) None) ≡ b
    shown true = refl
    shown false = refl

named_by : (net : List NodeDecl) (text : List ℕ) (k : ℕ) (t : List ℕ) (o : Option ℕ) (b : Bool) → t ≡ accepter_text text k → o ≡ position (λ (d : NodeDecl). bytes_eq t d.text) net → is_some o ≡ b → is_named net (accepter_text text k) ≡ b
named_by net text k t o b e f h = ap (is_named net) (sym e) ∙ sym (place_named net t) ∙ ap is_some (sym f) ∙ h

-- one number after another: it is free, or the next are tried
pub found_free : (net : List NodeDecl) (text : List ℕ) (k n : ℕ) (t : List ℕ) (o : Option ℕ) → k < n → t ≡ accepter_text text k → o ≡ position (λ (d : NodeDecl). bytes_eq t d.text) net → is_some o ≡ false → k ≡ first_failing (λ j. is_named net (accepter_text text j)) (n - k) k
found_free net text k n t o l e f h =
    let s : n - k ≡ suc (n - (k + 1)) = omega arith in
    sym (ap (λ d. first_failing (λ j. is_named net (accepter_text text j)) d k) s ∙ ap (λ b. if b then first_failing (λ j. is_named net (accepter_text text j)) (n - (k + 1)) (suc k) else k) (named_by net text k t o false e f h))

pub found_taken : (net : List NodeDecl) (text : List ℕ) (k n : ℕ) (t : List ℕ) (o : Option ℕ) → k < n → t ≡ accepter_text text k → o ≡ position (λ (d : NodeDecl). bytes_eq t d.text) net → is_some o ≡ true → first_failing (λ j. is_named net (accepter_text text j)) (n - (k + 1)) (k + 1) ≡ first_failing (λ j. is_named net (accepter_text text j)) (n - k) k
found_taken net text k n t o l e f h =
    let s : n - k ≡ suc (n - (k + 1)) = omega arith in
    let next : k + 1 ≡ suc k = omega arith in
    ap (first_failing (λ j. is_named net (accepter_text text j)) (n - (k + 1))) next
    ∙ sym (ap (λ d. first_failing (λ j. is_named net (accepter_text text j)) d k) s ∙ ap (λ b. if b then first_failing (λ j. is_named net (accepter_text text j)) (n - (k + 1)) (suc k) else k) (named_by net text k t o true e f h))
