-- The grants of a book by their ids: the one that an id finds, one that came last and goes again.
use Rattle.std.proofs.Common.{◌≡◌, ℕ, inl, inr, Bool, true, false, cond, if◌then◌else◌, ◌||◌, ◌==◌, not, List, [], ◌∷◌, ◌++◌, find, Some, None, refl, sym, ap, ◌∙◌, eqb-true, eq-eqb}
use Rattle.std.proofs.lemmas.Option.{same_Some}
use Rattle.dn_base.proofs.Members.{member_any}
use Rattle.dn_net.specs.Chain.{Member}
use Rattle.dn_book.specs.declared.grant.Grant.{Grant}
use Rattle.dn_book.specs.Book.{has_id, without_id}

-- the grant that came last is the one of its id
pub found_behind : (gs : List Grant) (g : Grant) → has_id g.id gs ≡ false → find (λ (h : Grant). h.id == g.id) (gs ++ g ∷ []) ≡ Some g
found_behind [] g h = ap (λ b. cond b (Some g) None) (eq-eqb g.id g.id refl)
found_behind (k ∷ gs) g h = go (λ f. found_behind gs g f) (k.id == g.id) refl
  where
    go : (has_id g.id gs ≡ false → find (λ (h : Grant). h.id == g.id) (gs ++ g ∷ []) ≡ Some g) → (b : Bool) → (k.id == g.id) ≡ b → find (λ (h : Grant). h.id == g.id) ((k ∷ gs) ++ g ∷ []) ≡ Some g
    go rest true f = let no : true ≡ false = sym (ap (λ b. b || has_id g.id gs) f) ∙ h in cc
    go rest false f =
        ap (λ b. cond b (Some k) (find (λ (h : Grant). h.id == g.id) (gs ++ g ∷ []))) f
        ∙ rest (sym (ap (λ b. b || has_id g.id gs) f) ∙ h)

pub is_behind : (gs all : List Grant) (g l : Grant) → has_id g.id gs ≡ false → all ≡ gs ++ g ∷ [] → Some l ≡ find (λ (h : Grant). h.id == g.id) all → l ≡ g
is_behind gs all g l h e f = same_Some l g (f ∙ ap (λ (x : List Grant). find (λ (h : Grant). h.id == g.id) x) e ∙ found_behind gs g h)

pub some_behind : (gs all : List Grant) (g : Grant) → has_id g.id gs ≡ false → all ≡ gs ++ g ∷ [] → None ≡ find (λ (h : Grant). h.id == g.id) all → ⊥
some_behind gs all g h e f = let no : None ≡ Some g = f ∙ ap (λ (x : List Grant). find (λ (h : Grant). h.id == g.id) x) e ∙ found_behind gs g h in cc

-- without it the others are as they were
pub taken_back : (gs all : List Grant) (g : Grant) → has_id g.id gs ≡ false → all ≡ gs ++ g ∷ [] → without_id g.id all ≡ gs
taken_back gs all g h e = ap (λ (x : List Grant). without_id g.id x) e ∙ back gs h
  where
    back : (gs : List Grant) → has_id g.id gs ≡ false → without_id g.id (gs ++ g ∷ []) ≡ gs
    back [] h = ap (λ b. if not b then g ∷ [] else []) (eq-eqb g.id g.id refl)
    back (k ∷ gs) h = go (k.id == g.id) refl (λ f. back gs f)
      where
        go : (b : Bool) → (k.id == g.id) ≡ b → (has_id g.id gs ≡ false → without_id g.id (gs ++ g ∷ []) ≡ gs) → without_id g.id ((k ∷ gs) ++ g ∷ []) ≡ k ∷ gs
        go true f rest = let no : true ≡ false = sym (ap (λ b. b || has_id g.id gs) f) ∙ h in cc
        go false f rest =
            ap (λ b. if not b then k ∷ without_id g.id (gs ++ g ∷ []) else without_id g.id (gs ++ g ∷ [])) f
            ∙ ap (λ (x : List Grant). k ∷ x) (rest (sym (ap (λ b. b || has_id g.id gs) f) ∙ h))

-- the grant that an id finds is live, and has it
pub record IsLive (gs : List Grant) (id : ℕ) (g : Grant) : Type 0 where
  pub live : Member g gs
  pub same : g.id ≡ id

pub live_found : (gs : List Grant) (id : ℕ) (g : Grant) → Some g ≡ find (λ (h : Grant). h.id == id) gs → IsLive gs id g
live_found [] id g e = let no : Some g ≡ None = e in cc
live_found (k ∷ gs) id g e = go (λ f. live_found gs id g f) (k.id == id) refl
  where
    go : (Some g ≡ find (λ (h : Grant). h.id == id) gs → IsLive gs id g) → (b : Bool) → (k.id == id) ≡ b → IsLive (k ∷ gs) id g
    go rest true f =
        let is : g ≡ k = same_Some g k (e ∙ ap (λ b. cond b (Some k) (find (λ (h : Grant). h.id == id) gs)) f) in
        record { live = inl (sym is); same = ap (λ (w : Grant). w.id) is ∙ eqb-true k.id id f }
    go rest false f =
        let deeper = rest (e ∙ ap (λ b. cond b (Some k) (find (λ (h : Grant). h.id == id) gs)) f) in
        record { live = inr deeper.live; same = deeper.same }

pub none_live : (gs : List Grant) (id : ℕ) → None ≡ find (λ (h : Grant). h.id == id) gs → has_id id gs ≡ false
none_live [] id e = refl
none_live (k ∷ gs) id e = go (λ f. none_live gs id f) (k.id == id) refl
  where
    go : (None ≡ find (λ (h : Grant). h.id == id) gs → has_id id gs ≡ false) → (b : Bool) → (k.id == id) ≡ b → has_id id (k ∷ gs) ≡ false
    go rest true f = let no : None ≡ Some k = e ∙ ap (λ b. cond b (Some k) (find (λ (h : Grant). h.id == id) gs)) f in cc
    go rest false f =
        ap (λ b. b || has_id id gs) f
        ∙ rest (e ∙ ap (λ b. cond b (Some k) (find (λ (h : Grant). h.id == id) gs)) f)

pub has_live : (gs : List Grant) (id : ℕ) (g : Grant) → IsLive gs id g → has_id id gs ≡ true
has_live gs id g f = member_any (λ (h : Grant). h.id == id) gs g f.live (eq-eqb g.id id f.same)
