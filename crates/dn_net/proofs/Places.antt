-- Where a full name stands in the entries that a net keeps, and what is true of each item of a list.
use Rattle.std.proofs.Common.{◌≡◌, ◌≢◌, get_or, true≢false, ◌∙◌, ap, sym, refl, ℕ, zero, suc, ◌<◌, List, [], ◌∷◌, ◌++◌, map, true, false, Bool, not, length, arith, position, option_map}
use Rattle.std.proofs.lemmas.Bool.{or_parts}
use Rattle.std.proofs.lemmas.List.Quantifiers.{all_pairs_push}
use Rattle.std.proofs.lemmas.Slice.Eq.{bytes_eq-Decides}
use Rattle.std.specs.List.{AllPairs, list_any, prefix_len}
use Rattle.std.specs.Str.{bytes_eq}
use Rattle.std.specs.Map.{keys_of}
use Rattle.indexmap.specs.IndexMap.{insert_entry}
use Rattle.dn_net.specs.declared.node.Dest.{Dest}
use Rattle.dn_net.specs.declared.node.NodeDecl.{NodeDecl}
use Rattle.dn_net.specs.declared.net.Parts.{Parts}
use Rattle.dn_net.specs.Parts.{declaration_by}

pub length-map : {X Y : Type 0} (f : X → Y) (xs : List X) → length (map f xs) ≡ length xs
length-map f [] = refl
length-map f (x ∷ xs) = simp (length-map f xs)

prefix_len-keys : {K V Y : Type 0} (f : K × V → Y) (p : Y → Bool) (q : K → Bool) → ((e : K × V) → q e.0 ≡ p (f e)) → (es : List (K × V)) → prefix_len q (keys_of es) ≡ prefix_len p (map f es)
prefix_len-keys f p q same [] = refl
prefix_len-keys f p q same (e ∷ es) = simp (same e, prefix_len-keys f p q same es)

length-keys : {K V : Type 0} (es : List (K × V)) → length (keys_of es) ≡ length es
length-keys [] = refl
length-keys (e ∷ es) = simp (length-keys es)

-- the place of a key is that of what is shown of its entry
pub position-keys : {K V Y : Type 0} (f : K × V → Y) (p : Y → Bool) (q : K → Bool) → ((e : K × V) → q e.0 ≡ p (f e)) → (es : List (K × V)) → position q (keys_of es) ≡ position p (map f es)
position-keys f p q same es = simp (prefix_len-keys f (λ y. not (p y)) (λ k. not (q k)) (λ e. ap not (same e)) es, length-map f es, length-keys es)

-- an entry of a new key goes last
pub insert_entry-new : {K V Y : Type 0} (f : K × V → Y) (p : Y → Bool) (eq : K → K → Bool) (k : K) (v : V) → ((e : K × V) → eq k e.0 ≡ p (f e)) → (es : List (K × V)) → list_any p (map f es) ≡ false → insert_entry eq es k v ≡ es ++ (k, v) ∷ []
insert_entry-new f p eq k v same [] h = refl
insert_entry-new f p eq k v same (e ∷ es) h =
    let parts = or_parts (p (f e)) (list_any p (map f es)) h in
    simp (same e, parts.0, insert_entry-new f p eq k v same es parts.1)

-- the declaration of an added node is shown as it was given
pub declared_new : {S : Type 0} (text : S → List ℕ) (k : S) (decl : NodeDecl) (parts : Parts) → text k ≡ decl.text → parts.role ≡ decl.role → parts.accepts ≡ decl.accepts → parts.entries ≡ decl.entries → option_map (λ (d : Dest). d.node) parts.over ≡ decl.over → parts.unit ≡ decl.unit → declaration_by text (k, parts) ≡ decl
declared_new text k decl parts t r a e o u = λ i. record { text = t i; role = r i; accepts = a i; entries = e i; over = o i; unit = u i }

any_false-at : {X : Type 0} (p : X → Bool) (xs : List X) (k : ℕ) (d : X) → list_any p xs ≡ false → k < length xs → p (get_or xs k d) ≡ false
any_false-at p [] k d h l = absurd (omega arith)
any_false-at p (x ∷ xs) zero d h l = (or_parts (p x) (list_any p xs) h).0
any_false-at p (x ∷ xs) (suc k) d h l = any_false-at p xs k d (or_parts (p x) (list_any p xs) h).1 (omega arith)

-- the name of a node that is added last differs from those before it
pub names_still_differ : (net : List NodeDecl) (decl : NodeDecl) → AllPairs (λ (n m : NodeDecl). n.text ≢ m.text) net → list_any (λ (d : NodeDecl). bytes_eq decl.text d.text) net ≡ false → AllPairs (λ (n m : NodeDecl). n.text ≢ m.text) (net ++ decl ∷ [])
names_still_differ net decl differ new = all_pairs_push (λ (n m : NodeDecl). n.text ≢ m.text) net decl differ (λ k d l e. true≢false (sym (same (get_or net k d).text e) ∙ any_false-at (λ (d : NodeDecl). bytes_eq decl.text d.text) net k d new l))
  where
    same : (text : List ℕ) → text ≡ decl.text → bytes_eq decl.text text ≡ true
    same text e = (bytes_eq-Decides decl.text text).1 (sym e)
