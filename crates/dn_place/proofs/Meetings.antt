-- What a stretch of addresses meets, by the relations of the net and by the rows of its node.
use Rattle.std.proofs.Common.{◌≡◌, ℕ, ◌+◌, ◌-◌, ◌≤◌, inl, inr, List, [], ◌∷◌, map, refl, sym, ap, ◌∙◌, subst, arith}
use Rattle.dn_interval.specs.declared.row.End.{End}
use Rattle.dn_interval.specs.declared.row.Row.{Row}
use Rattle.dn_interval.specs.Rows.{Member, further_end, Apart, GivenBy}
use Rattle.dn_interval.proofs.Membership.{in_from}
use Rattle.dn_net.specs.Decode.{top}
use Rattle.dn_flat.specs.Views.{ResolvesFrom, StopsFrom}
use Rattle.dn_tables.specs.declared.placement.Hop.{Hop}
use Rattle.dn_placement.specs.Placement.{Meets, name_on}
use Rattle.dn_walk.specs.Ends.{end_of, name_of_end}
use Rattle.dn_place.specs.Rows.{AreToward, ComesOnly, GivesOnly, InRow, IsClear, wanted_name}
use Rattle.dn_place.proofs.Stretches.{head_gives}
use Rattle.dn_place.specs.Sought.{ReachOneStop, Sought}
use Rattle.dn_place.proofs.Walks.{Walked}

-- what is met is what the addresses come to
meets_only : (s : Sought) (n a : ℕ) (hops : List Hop) → ReachOneStop s.net → Meets s.net s.request n a hops → ComesOnly s.net s.request hops n a
meets_only s n a [] one m = λ i z l. ((λ r. sym (ap end_of (((m i l).0 (name_of_end z)).0 r))), (λ e. subst (λ (w : End). ResolvesFrom s.net n (a + i) w) e (((m i l).0 (name_on s.request.node s.request.base i)).1 refl)))
meets_only s n a (hop ∷ hops) one m = λ i z l. ((λ r. ap end_of (one (name_on n a i) (name_on hop.unit hop.x i) (name_of_end z) (m i l) r)), (λ e. subst (λ (w : End). StopsFrom s.net n (a + i) w) e (m i l)))

-- so it is what the rows of the node give
pub meets_gives : (s : Sought) (n a : ℕ) (hops : List Hop) (rows : List Row) → AreToward s.net s.request hops n rows → ReachOneStop s.net → a + s.request.size ≤ top + 1 → Meets s.net s.request n a hops → GivesOnly rows (wanted_name s.request hops) s.request.size a
meets_gives s n a hops rows f one fits m = λ i l z.
    let only = meets_only s n a hops one m in
    ((λ g. (only i z l).0 (f.given (a + i) z (omega arith) g)), (λ e. subst (λ (w : End). GivenBy rows (a + i) w) e (f.whole a fits only i l)))

pub row_gives : (bound : ℕ) (r : Row) (rest : List Row) (t : End) (size a : ℕ) → Apart bound (r ∷ rest) → InRow r t size a → GivesOnly (r ∷ rest) t size a
row_gives bound r rest t size a p w i l z = ((λ g. there (head_gives bound r rest (a + i) z p (omega (arith, w.to)) g)), back)
  where
    moves : (e : End) → e ≡ record { node = t.node; base = w.first } → further_end (a + i - r.span.lo) e ≡ further_end i t
    moves e q = ap (further_end (a + i - r.span.lo)) q ∙ made (w.first + (a + i - r.span.lo)) (t.base + i) (omega (arith, w.base, w.from))
      where
        made : (m n : ℕ) → m ≡ n → ◌≡◌ {A = End} (record { node = t.node; base = m }) (record { node = t.node; base = n })
        made m n x = cc

    there : (r.span.lo ≤ a + i) × Member z (map (further_end (a + i - r.span.lo)) r.ends) → further_end i t ≡ z
    there g = go (subst (λ (es : List End). Member z (map (further_end (a + i - r.span.lo)) es)) w.ends g.1)
      where
        go : Member z (map (further_end (a + i - r.span.lo)) (record { node = t.node; base = w.first } ∷ [])) → further_end i t ≡ z
        go (inl e) = sym (moves (record { node = t.node; base = w.first }) refl) ∙ e
        go (inr e) = absurd e

    back : further_end i t ≡ z → GivenBy (r ∷ rest) (a + i) z
    back e = inl (in_from r.span (a + i) (omega (arith, w.from)) (omega (arith, w.to)), subst (λ (es : List End). Member z (map (further_end (a + i - r.span.lo)) es)) (sym w.ends) (inl (moves (record { node = t.node; base = w.first }) refl ∙ e)))

pub gives_meets : (s : Sought) (n a : ℕ) (hops : List Hop) (rows : List Row) → AreToward s.net s.request hops n rows → a + s.request.size ≤ top + 1 → GivesOnly rows (wanted_name s.request hops) s.request.size a → IsClear s.net n hops a s.request.size → Meets s.net s.request n a hops
gives_meets s n a [] rows f fits g c = λ i l.
    let t : End = further_end i (wanted_name s.request []) in
    let here : GivenBy rows (a + i) t = (g i l t).1 refl in
    ((λ z. ((λ r. sym (ap name_of_end ((g i l (end_of z)).0 (f.all (a + i) i (end_of z) (omega arith) l here r)))), (λ e. f.given (a + i) (end_of z) (omega arith) ((g i l (end_of z)).1 (sym (ap end_of e)))))), (λ z x. c i l (end_of z) x))
gives_meets s n a (hop ∷ hops) rows f fits g c = λ i l. f.given (a + i) (record { node = hop.unit; base = hop.x + i }) (omega arith) ((g i l (record { node = hop.unit; base = hop.x + i })).1 refl)

-- a stretch in the row to which a walk has come meets what is wanted
pub walk_meets : (s : Sought) (front : List ℕ) (n : ℕ) (hops : List Hop) (rows : List Row) (r : Row) (rest : List Row) (y : ℕ) → AreToward s.net s.request hops n rows → y + s.request.size ≤ top + 1 → Walked s front rows (r ∷ rest) → InRow r (wanted_name s.request hops) s.request.size y → IsClear s.net n hops y s.request.size → Meets s.net s.request n y hops
walk_meets s front n hops rows r rest y f fits w i c = gives_meets s n y hops rows f fits all c
  where
    all : GivesOnly rows (wanted_name s.request hops) s.request.size y
    all k l z =
        let from : w.bound ≤ y + k = omega (arith, w.apart.0, i.from) in
        let h = w.holds (y + k) z from in
        let g = row_gives w.bound r rest (wanted_name s.request hops) s.request.size y w.apart i k l z in
        ((λ x. g.0 (h.0 x)), (λ x. h.1 (g.1 x)))

-- where a stop is reached from the stretch, it meets no buffer
pub unclear : (s : Sought) (n y : ℕ) (hops : List Hop) → (IsClear s.net n hops y s.request.size → ⊥) → Meets s.net s.request n y hops → ⊥
unclear s n y [] shut m = shut (λ i l z x. (m i l).1 (name_of_end z) x)
unclear s n y (hop ∷ hops) shut m = shut tt
