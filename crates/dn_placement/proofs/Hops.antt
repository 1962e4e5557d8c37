-- The numbers of hops.
use Rattle.std.proofs.Common.{◌≡◌, ℕ, ◌*◌, List, [], ◌∷◌, ◌++◌, length, IsTrue, refl, sym, ap, ◌∙◌, arith, append_assoc, length-append}
use Rattle.dn_kind.specs.declared.rights.Rights.{Rights}
use Rattle.dn_kind.specs.Rights.{are_rights}
use Rattle.dn_tables.specs.declared.placement.Hop.{Hop}
use Rattle.dn_placement.specs.Records.{hop_rights}
use Rattle.dn_placement.specs.Order.{hops_key}
use Rattle.dn_placement.proofs.Keys.{append_none}

-- the numbers of a hop
abbrev pub numbers : Hop → List ℕ → List ℕ
numbers h rest = h.unit ∷ h.port ∷ h.y ∷ h.x ∷ rest

same_hop : (h k : Hop) → h.unit ≡ k.unit → h.port ≡ k.port → h.x ≡ k.x → h.y ≡ k.y → h ≡ k
same_hop h k a b c d = made h.unit k.unit h.port k.port h.x k.x h.y k.y a b c d
  where
    made : (u u' p p' x x' y y' : ℕ) → u ≡ u' → p ≡ p' → x ≡ x' → y ≡ y' → ◌≡◌ {A = Hop} (record { unit = u; port = p; x = x; y = y }) (record { unit = u'; port = p'; x = x'; y = y' })
    made u u' p p' x x' y y' a b c d = cc

-- hops of the same number whose numbers begin the same list are the same hops
pub same_hops : (a b : List Hop) (c d : List ℕ) → length a ≡ length b → hops_key a ++ c ≡ hops_key b ++ d → (a ≡ b) × (c ≡ d)
same_hops [] [] c d l e = (refl, e)
same_hops [] (k ∷ ks) c d l e = absurd (omega arith)
same_hops (h ∷ hs) [] c d l e = absurd (omega arith)
same_hops (h ∷ hs) (k ∷ ks) c d l e = go (same_hops hs ks (numbers h c) (numbers k d) (omega arith) (sym (append_assoc (hops_key hs) (numbers h []) c) ∙ e ∙ append_assoc (hops_key ks) (numbers k []) d))
  where
    consed : (u v : Hop) (us vs : List Hop) → u ≡ v → us ≡ vs → u ∷ us ≡ v ∷ vs
    consed u v us vs p q = cc

    parts : (u p y x u' p' y' x' : ℕ) (m n : List ℕ) → (u ∷ p ∷ y ∷ x ∷ m) ≡ (u' ∷ p' ∷ y' ∷ x' ∷ n) → (u ≡ u') × (p ≡ p') × (y ≡ y') × (x ≡ x') × (m ≡ n)
    parts u p y x u' p' y' x' m n e = (cc, cc, cc, cc, cc)

    go : (hs ≡ ks) × (numbers h c ≡ numbers k d) → (h ∷ hs ≡ k ∷ ks) × (c ≡ d)
    go w = let v = parts h.unit h.port h.y h.x k.unit k.port k.y k.x c d w.1 in (consed h k hs ks (same_hop h k v.0 v.1 v.3 v.2) w.0, v.4)

-- the numbers of hops behind others come first
pub hops_key-append : (a b : List Hop) → hops_key (a ++ b) ≡ hops_key b ++ hops_key a
hops_key-append [] b = sym (append_none (hops_key b))
hops_key-append (h ∷ a) b = ap (λ l. l ++ numbers h []) (hops_key-append a b) ∙ append_assoc (hops_key b) (hops_key a) (numbers h [])

pub length_key : (hops : List Hop) → length (hops_key hops) ≡ 4 * length hops
length_key [] = refl
length_key (h ∷ hops) = length-append (hops_key hops) (numbers h []) ∙ omega (arith, length_key hops)

-- the rights of each hop are rights
pub rights_of : (r : Rights) (own place : ℕ) → IsTrue (are_rights r) → IsTrue (are_rights (hop_rights r own place))
rights_of r own place h = grind arith
