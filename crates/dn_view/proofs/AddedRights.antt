-- Rights as masks of records, and records that are joined.
use Rattle.std.proofs.Common.{◌≡◌, ◌∙◌, sym, ap, refl, subst, ℕ, ◌≤◌, ◌⊎◌, inl, inr, Bool, true, false, if◌then◌else◌, nat_le, Option, Some, None, IsTrue, arith, leb-true}
use Rattle.std.proofs.lemmas.Bool.{and_parts}
use Rattle.dn_kind.specs.declared.rights.Access.{Access}
use Rattle.dn_kind.specs.declared.rights.Access.TheVariants.{Read, Write}
use Rattle.dn_kind.specs.declared.rights.Rights.{Rights}
use Rattle.dn_kind.specs.declared.unit_kind.Record.{Record}
use Rattle.dn_kind.specs.Rights.{allows, are_rights, both_rights}
use Rattle.dn_kind.specs.Tables.{Extends, Held, allowing, record_allowing}
use Rattle.dn_placement.specs.Records.{joined_records, or_record}

-- one, two or three
few_cases : (n : ℕ) → 1 ≤ n → n ≤ 3 → (n ≡ 1) ⊎ ((n ≡ 2) ⊎ (n ≡ 3))
few_cases n l m = grind arith

rights_cases : (r : Rights) → IsTrue (are_rights r) → (r.0 ≡ 1) ⊎ ((r.0 ≡ 2) ⊎ (r.0 ≡ 3))
rights_cases r is =
    let b = and_parts (nat_le 1 r.0) (nat_le r.0 3) is in
    few_cases r.0 (leb-true 1 r.0 b.0) (leb-true r.0 3 b.1)

-- rights allow some access
pub some_allowed : (r : Rights) → IsTrue (are_rights r) → (access : Access) × IsTrue (allows r access)
some_allowed r is = elim (rights_cases r is) [
  | inl e ↦ (Read, subst (λ n. IsTrue (allows (record { 0 = n }) Read)) (sym e) refl)
  | inr f ↦ (elim f [
    | inl e ↦ (Write, subst (λ n. IsTrue (allows (record { 0 = n }) Write)) (sym e) refl)
    | inr e ↦ (Read, subst (λ n. IsTrue (allows (record { 0 = n }) Read)) (sym e) refl)
  ])
]

-- rights are both, or there is an access that they do not allow
pub both_or_not : (r : Rights) → IsTrue (are_rights r) →
    (r ≡ both_rights) ⊎ ((access : Access) × (allows r access ≡ false))
both_or_not r is = elim (rights_cases r is) [
  | inl e ↦ inr (Write, subst (λ n. allows (record { 0 = n }) Write ≡ false) (sym e) refl)
  | inr f ↦ (elim f [
    | inl e ↦ inr (Read, subst (λ n. allows (record { 0 = n }) Read ≡ false) (sym e) refl)
    | inr e ↦ inl (ap (λ n. record { 0 = n }) e)
  ])
]

-- a record that is left by a mask was there, and allows the access
allowed_is : (access : Access) (o : Option Record) (r : Record) → record_allowing access o ≡ Some r →
    (o ≡ Some r) × IsTrue (allows r.rights access)
allowed_is access None r e = cc
allowed_is access (Some t) r e = by (allows t.rights access) refl e
  where
    by : (b : Bool) → allows t.rights access ≡ b → (if b then Some t else None) ≡ Some r →
        (Some t ≡ Some r) × IsTrue (allows r.rights access)
    by true f e = let same : t ≡ r = cc in (e, subst (λ s. IsTrue (allows s.rights access)) same f)
    by false f e = cc

pub allowed_there : (access : Access) (h : Held) (n q : ℕ) (r : Record) →
    allowing access h n q ≡ Some r → (h n q ≡ Some r) × IsTrue (allows r.rights access)
allowed_there access h n q r e = allowed_is access (h n q) r e

-- a record that allows the access is left
pub allowed_here : (access : Access) (h : Held) (n q : ℕ) (r : Record) → h n q ≡ Some r →
    IsTrue (allows r.rights access) → allowing access h n q ≡ Some r
allowed_here access h n q r e a = ap (record_allowing access) e ∙ left (allows r.rights access) a
  where
    left : (b : Bool) → IsTrue b → (if b then Some r else None) ≡ Some r
    left true t = refl
    left false t = cc

pub mask_less : (access : Access) (h : Held) → Extends (allowing access h) h
mask_less access h n q r e = (allowed_there access h n q r e).0

-- joined records
pub joined_left : (h g : Held) → Extends h (joined_records h g)
joined_left h g n q r e = ap (λ o. or_record o (g n q)) e

pub joined_cases : (h g : Held) (n q : ℕ) (r : Record) → joined_records h g n q ≡ Some r →
    (h n q ≡ Some r) ⊎ ((h n q ≡ None) × (g n q ≡ Some r))
joined_cases h g n q r e = go (h n q) refl e
  where
    go : (o : Option Record) → h n q ≡ o → or_record o (g n q) ≡ Some r →
        (h n q ≡ Some r) ⊎ ((h n q ≡ None) × (g n q ≡ Some r))
    go None is s = inr (is, s)
    go (Some t) is s = inl (is ∙ s)

pub joined_below : (h g f : Held) → Extends h f → Extends g f → Extends (joined_records h g) f
joined_below h g f a b n q r e = elim (joined_cases h g n q r e) [
  | inl s ↦ a n q r s
  | inr s ↦ b n q r s.1
]

-- where both extend to the same, the second stand in both
pub joined_right : (h g f : Held) → Extends h f → Extends g f → Extends g (joined_records h g)
joined_right h g f a b n q r e = go (h n q) refl
  where
    go : (o : Option Record) → h n q ≡ o → joined_records h g n q ≡ Some r
    go None is = ap (λ o. or_record o (g n q)) is ∙ e
    go (Some t) is =
        let same : t ≡ r = (let f : Some t ≡ Some r = sym (a n q t is) ∙ b n q r e in cc) in
        ap (λ o. or_record o (g n q)) (is ∙ ap Some same)
