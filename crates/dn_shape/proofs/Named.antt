-- Full names that differ, in lists of nodes.
use Rattle.std.proofs.Common.{◌≡◌, ◌≢◌, ℕ, zero, suc, ◌+◌, ◌<◌, inl, inr, Bool, true, false, List, [], ◌∷◌, ◌++◌, map, length, get_or, refl, sym, ap, ◌∙◌, subst, arith}
use Rattle.std.specs.List.{AllPairs, list_any}
use Rattle.std.specs.Str.{bytes_eq}
use Rattle.std.proofs.lemmas.List.{length-append}
use Rattle.std.proofs.lemmas.Slice.Eq.{bytes_eq-Decides}
use Rattle.dn_base.specs.Members.{Member}
use Rattle.dn_base.proofs.Members.{any_member}
use Rattle.dn_base.proofs.Lists.{length-map}
use Rattle.dn_net.specs.declared.node.NodeDecl.{NodeDecl}

-- no two nodes have one full name
abbrev pub NamesDiffer : List NodeDecl → Type 0
NamesDiffer net = AllPairs (λ (n m : NodeDecl). n.text ≢ m.text) net

-- the full names of nodes
abbrev pub texts : List NodeDecl → List (List ℕ)
texts net = map (λ (d : NodeDecl). d.text) net

text_at : (net : List NodeDecl) (i : ℕ) (d : NodeDecl) → (get_or net i d).text ≡ get_or (texts net) i d.text
text_at [] i d = refl
text_at (n ∷ net) zero d = refl
text_at (n ∷ net) (suc i) d = text_at net i d

-- nodes with the same names differ alike
pub differ_as : (xs ys : List NodeDecl) → texts xs ≡ texts ys → NamesDiffer ys → NamesDiffer xs
differ_as xs ys e differ i j d l m h =
    let a = length-map xs (λ (d : NodeDecl). d.text) in
    let b = length-map ys (λ (d : NodeDecl). d.text) in
    let c : length (texts xs) ≡ length (texts ys) = ap length e in
    let one : (k : ℕ) → (get_or ys k d).text ≡ (get_or xs k d).text = λ k. text_at ys k d ∙ ap (λ l. get_or l k d.text) (sym e) ∙ sym (text_at xs k d) in
    differ i j d l (omega (arith, a, b, c, m)) (one i ∙ h ∙ sym (one j))

behind : {X : Type 0} (xs ys : List X) (x d : X) → get_or (xs ++ x ∷ ys) (length xs) d ≡ x
behind [] ys x d = refl
behind (z ∷ xs) ys x d = behind xs ys x d

-- what holds of each two items holds of one and of one behind it
pub pair_of : {X : Type 0} (R : X → X → Type 0) (xs ys : List X) (x y : X) → AllPairs R (xs ++ x ∷ ys) → Member y xs → R y x
pair_of R [] ys x y all m = absurd m
pair_of R (z ∷ xs) ys x y all (inl e) =
    let a : length (xs ++ x ∷ ys) ≡ length xs + suc (length ys) = length-append xs (x ∷ ys) in
    let l : suc (length xs) < suc (length (xs ++ x ∷ ys)) = omega arith in
    subst (λ w. R w x) e (subst (λ w. R z w) (behind xs ys x z) (all 0 (suc (length xs)) z (omega arith) l))
pair_of R (z ∷ xs) ys x y all (inr m) = pair_of R xs ys x y (λ i j d l h. all (suc i) (suc j) d (omega arith) (omega arith)) m

-- the name of a node is not among those before it
pub new_before : (xs ys : List NodeDecl) (n : NodeDecl) → NamesDiffer (xs ++ n ∷ ys) → list_any (λ (d : NodeDecl). bytes_eq n.text d.text) xs ≡ false
new_before xs ys n differ = by (list_any (λ (d : NodeDecl). bytes_eq n.text d.text) xs) refl
  where
    by : (b : Bool) → list_any (λ (d : NodeDecl). bytes_eq n.text d.text) xs ≡ b → b ≡ false
    by false e = refl
    by true e =
        let r = any_member (λ (d : NodeDecl). bytes_eq n.text d.text) xs e in
        absurd (pair_of (λ (n m : NodeDecl). n.text ≢ m.text) xs ys n r.0 differ r.1 (sym ((bytes_eq-Decides n.text r.0.text).0 r.2)))

-- the same of a node that is one of a list
pub new_node : (xs ys all : List NodeDecl) (n d : NodeDecl) → n ≡ d → xs ++ n ∷ ys ≡ all → NamesDiffer all → list_any (λ (e : NodeDecl). bytes_eq d.text e.text) xs ≡ false
new_node xs ys all n d e f differ = subst (λ (m : NodeDecl). list_any (λ (g : NodeDecl). bytes_eq m.text g.text) xs ≡ false) e (new_before xs ys n (subst NamesDiffer (sym f) differ))
