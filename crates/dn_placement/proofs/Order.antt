-- The order of placements is strict, and of two different placements of one request one comes first.
use Rattle.std.proofs.Common.{◌≡◌, ℕ, ◌+◌, ◌-◌, ◌*◌, ◌<◌, ◌⊎◌, inl, inr, false, List, [], ◌∷◌, ◌++◌, length, slice_get, sym, ◌∙◌, arith, length-append}
use Rattle.std.proofs.lemmas.Bool.{cases_order, false≢true}
use Rattle.std.proofs.lemmas.Option.{slice_get_within}
use Rattle.dn_base.proofs.Booleans.{not-true}
use Rattle.dn_net.specs.declared.node.NodeDecl.{NodeDecl}
use Rattle.dn_tables.specs.declared.placement.Hop.{Hop}
use Rattle.dn_tables.specs.Placement.{Place}
use Rattle.dn_placement.specs.declared.request.Request.{Request}
use Rattle.dn_placement.specs.Order.{hops_key, hop_page, key_of, precedes, FirstIsOne, PlacementsAreOrdered}
use Rattle.dn_placement.specs.Placement.{IsPlacement}
use Rattle.dn_placement.specs.Slots.{Slots}
use Rattle.dn_placement.proofs.Hops.{same_hops, length_key}
use Rattle.dn_placement.proofs.Keys.{not_itself, before_both, lower, neither}

-- placements with one address, the same hops and one own hop are one
pub same_placement : (p q : Place) → p.v ≡ q.v → p.hops ≡ q.hops → p.own ≡ q.own → p ≡ q
same_placement p q a b c = made p.v q.v p.hops q.hops p.own q.own a b c
  where
    made : (v w : ℕ) (h k : List Hop) (m n : ℕ) → v ≡ w → h ≡ k → m ≡ n → ◌≡◌ {A = Place} (record { v = v; hops = h; own = m }) (record { v = w; hops = k; own = n })
    made v w h k m n a b c = cc

-- of two placements of one request, of which neither comes before the other, there is one
pub one_of_two : (net : List NodeDecl) (slots : Slots) (rq : Request) (p q : Place) → IsPlacement net slots rq p → IsPlacement net slots rq q → precedes net p q ≡ false → precedes net q p ≡ false → p ≡ q
one_of_two net slots rq p q a b f g = go (cases_order (length p.hops) (length q.hops))
  where
    tail : Place → List ℕ
    tail x = x.v ∷ hop_page net (slice_get x.hops x.own) ∷ (length x.hops - x.own) ∷ []

    body : Place → List ℕ
    body x = hops_key x.hops ++ tail x

    long : (x : Place) → length (body x) ≡ 4 * length x.hops + 3
    long x = length-append (hops_key x.hops) (tail x) ∙ omega (arith, length_key x.hops)

    parts : (u s t u' s' t' : ℕ) → (u ∷ s ∷ t ∷ []) ≡ (u' ∷ s' ∷ t' ∷ []) → (u ≡ u') × (t ≡ t')
    parts u s t u' s' t' e = (cc, cc)

    tails : (u v : ℕ) (us vs : List ℕ) → u ∷ us ≡ v ∷ vs → us ≡ vs
    tails u v us vs e = cc

    same : length p.hops ≡ length q.hops → p ≡ q
    same e =
        let l : length (key_of net p) ≡ length (key_of net q) = omega (arith, long p, long q) in
        let k = tails (length p.hops) (length q.hops) (body p) (body q) (neither (key_of net p) (key_of net q) l f g) in
        let w = same_hops p.hops q.hops (tail p) (tail q) e k in
        let t = parts p.v (hop_page net (slice_get p.hops p.own)) (length p.hops - p.own) q.v (hop_page net (slice_get q.hops q.own)) (length q.hops - q.own) w.1 in
        same_placement p q t.0 w.0 (omega (arith, t.1, slice_get_within p.hops p.own a.own a.is_own, slice_get_within q.hops q.own b.own b.is_own))

    go : (length p.hops ≡ length q.hops) ⊎ ((length p.hops < length q.hops) ⊎ (length q.hops < length p.hops)) → p ≡ q
    go (inl e) = same e
    go (inr (inl l)) = absurd (false≢true (sym f ∙ lower (length p.hops) (length q.hops) (body p) (body q) l))
    go (inr (inr l)) = absurd (false≢true (sym g ∙ lower (length q.hops) (length p.hops) (body q) (body p) l))

pub placements_are_ordered : PlacementsAreOrdered
placements_are_ordered = record {
  irreflexive = λ net p. not_itself (key_of net p);
  transitive = λ net p q r. before_both (key_of net p) (key_of net q) (key_of net r);
  total = one_of_two;
}

pub first_is_one : FirstIsOne
first_is_one net slots rq at p q f g =
    one_of_two net slots rq p q f.suited.is_placement g.suited.is_placement (not-true (precedes net p q) (g.least p f.suited)) (not-true (precedes net q p) (f.least q g.suited))
