-- The units of a net in the order of their numbers, and the search over them.
use Rattle.std.proofs.Common.{◌≡◌, ℕ, suc, ◌+◌, ◌<◌, ◌≤◌, ◌⊎◌, inl, inr, true, false, List, [], ◌∷◌, ◌++◌, length, Option, Some, None, is_some, refl, sym, ap, ◌∙◌, subst, arith, append_assoc}
use Rattle.std.proofs.lemmas.Bool.{cases_order}
use Rattle.dn_net.specs.declared.node.NodeDecl.{NodeDecl}
use Rattle.dn_net.specs.declared.node.Unit.{Unit as UnitPart}
use Rattle.dn_net.specs.Decode.{unit_at}
use Rattle.dn_place.specs.Marks.{AreUnitsFrom}
use Rattle.dn_place.proofs.Pages.{unit_there}

-- what is listed, and what the units from a number on are, is the whole
abbrev pub Lists : List NodeDecl → ℕ → List ℕ → Type 0
Lists net bound units = (rest : List ℕ) → AreUnitsFrom net bound rest → AreUnitsFrom net 0 (units ++ rest)

pub lists_begun : (net : List NodeDecl) → Lists net 0 []
lists_begun net rest a = a

-- one number less, at which there is no unit
lower : (net : List NodeDecl) (bound : ℕ) (rest : List ℕ) → unit_at net bound ≡ None → AreUnitsFrom net (bound + 1) rest → AreUnitsFrom net bound rest
lower net bound [] none a = λ n u l is. go n u l is (cases_order n bound)
  where
    go : (n : ℕ) (u : UnitPart) → bound ≤ n → unit_at net n ≡ Some u → (n ≡ bound) ⊎ ((n < bound) ⊎ (bound < n)) → ⊥
    go n u l is (inl e) = never u (sym is ∙ ap (unit_at net) e ∙ none)
      where
        never : (u : UnitPart) → Some u ≡ None → ⊥
        never u p = cc
    go n u l is (inr (inl m)) = omega arith
    go n u l is (inr (inr m)) = a n u (omega arith) is
lower net bound (m ∷ rest) none a = ((let l = a.0 in omega arith), (λ n u l k is. go n u l k is (cases_order n bound)), a.2)
  where
    go : (n : ℕ) (u : UnitPart) → bound ≤ n → n < m → unit_at net n ≡ Some u → (n ≡ bound) ⊎ ((n < bound) ⊎ (bound < n)) → ⊥
    go n u l k is (inl e) = never u (sym is ∙ ap (unit_at net) e ∙ none)
      where
        never : (u : UnitPart) → Some u ≡ None → ⊥
        never u p = cc
    go n u l k is (inr (inl j)) = omega arith
    go n u l k is (inr (inr j)) = a.1 n u (omega arith) k is

pub lists_on : (net : List NodeDecl) (node : ℕ) (old new : List ℕ) → (is_some (unit_at net node) ≡ true → new ≡ old ++ node ∷ []) → (is_some (unit_at net node) ≡ false → new ≡ old) → Lists net node old → Lists net (node + 1) new
lists_on net node old new unit none done rest a = go (unit_at net node) refl
  where
    go : (o : Option UnitPart) → unit_at net node ≡ o → AreUnitsFrom net 0 (new ++ rest)
    go None e = subst (λ (l : List ℕ). AreUnitsFrom net 0 (l ++ rest)) (sym (none (ap is_some e))) (done rest (lower net node rest e a))
    go (Some u) e =
        let next : AreUnitsFrom net (suc node) rest = subst (λ (n : ℕ). AreUnitsFrom net n rest) (omega arith) a in
        subst (λ (l : List ℕ). AreUnitsFrom net 0 (l ++ rest)) (sym (unit (ap is_some e)))
        (subst (λ (l : List ℕ). AreUnitsFrom net 0 l) (sym (append_assoc old (node ∷ []) rest)) (done (node ∷ rest) ((omega arith), (λ n u l k is. omega arith), next)))

pub lists_done : (net : List NodeDecl) (node : ℕ) (units : List ℕ) → length net ≤ node → Lists net node units → AreUnitsFrom net 0 units
lists_done net node units l done = subst (λ (us : List ℕ). AreUnitsFrom net 0 us) (nil units) (done [] (λ n u k is. let t = unit_there net n u is in omega arith))
  where
    nil : (xs : List ℕ) → xs ++ [] ≡ xs
    nil [] = refl
    nil (x ∷ xs) = ap (λ l. x ∷ l) (nil xs)
