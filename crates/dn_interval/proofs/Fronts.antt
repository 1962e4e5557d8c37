-- What stands in front of the rows above an address keeps them normal, so the rows that are made address by address are.
use Rattle.std.proofs.Common.{◌≡◌, ℕ, zero, suc, ◌+◌, ◌-◌, ◌<◌, ◌≤◌, ◌↔◌, inl, inr, Bool, true, false, ◌&&◌, cond, nat_eq, List, [], ◌∷◌, map, refl, sym, ap, ◌∙◌, subst, arith, eqb-true, eq-eqb}
use Rattle.std.proofs.lemmas.Bool.{and_parts, and_from, cases_lt, false≢true}
use Rattle.dn_interval.specs.declared.row.End.{End}
use Rattle.dn_interval.specs.declared.span.TheConstants.{TOP}
use Rattle.dn_interval.specs.Rows.{Member, further_end, Ascending, HasEnds}
use Rattle.dn_interval.specs.Listed.{Seen, same_ends, row_in_front, rows_from, listed_rows, SeenParted, SeenApart, SeenGive, ListedRowsAreNormal}
use Rattle.dn_interval.proofs.Normal.{moved_none}
use Rattle.dn_interval.proofs.Listing.{is_same, moved_more, one_list_of_ends}

-- The rows stand at an address or above it, and give what the function gives from there on.
record Made (names : ℕ → List End) (from : ℕ) (rows : List Seen) : Type 0 where
  apart : SeenApart from rows
  exact : (a : ℕ) (y : End) → from ≤ a → a ≤ TOP → Member y (names a) ↔ SeenGive rows a y

-- below the rows nothing is given
pub none_below : (from : ℕ) (rows : List Seen) → SeenApart from rows → (a : ℕ) (y : End) → a < from → SeenGive rows a y → ⊥
none_below from [] p a y l g = g
none_below from (r ∷ rs) p a y l (inl g) = omega (arith, p.0, g.0)
none_below from (r ∷ rs) p a y l (inr g) = none_below (suc r.hi) rs p.6 a y (omega (arith, p.0, p.1)) g

apart_from : (from to : ℕ) (rows : List Seen) → SeenApart from rows → to ≤ from → SeenApart to rows
apart_from from to [] p l = tt
apart_from from to (r ∷ rs) p l = (omega (arith, p.0), p.1, p.2, p.3, p.4, p.5, p.6)

-- other rows give what they are to give at the address, and above it what these give
onward : (names : ℕ → List End) (a : ℕ) (es : List End) (rows others : List Seen) → names a ≡ es → Made names (suc a) rows → ((y : End) → Member y es ↔ SeenGive others a y) → ((b : ℕ) (y : End) → a < b → SeenGive rows b y ↔ SeenGive others b y) → (b : ℕ) (y : End) → a ≤ b → b ≤ TOP → Member y (names b) ↔ SeenGive others b y
onward names a es rows others n v here above b y l t = elim (cases_lt a b) [
  | inl m ↦ (λ g. (above b y m).0 ((v.exact b y m t).0 g), λ g. (v.exact b y m t).1 ((above b y m).1 g))
  | inr m ↦
      let e : a ≡ b = omega arith in
      let f : names b ≡ es = ap names (sym e) ∙ n in (
        (λ g. subst (λ c. SeenGive others c y) e ((here y).0 (subst (Member y) f g))),
        (λ g. subst (Member y) (sym f) ((here y).1 (subst (λ c. SeenGive others c y) (sym e) g))),
      )
]

-- the address has no names
no_front : (names : ℕ → List End) (a : ℕ) (rows : List Seen) → names a ≡ [] → Made names (suc a) rows → Made names a rows
no_front names a rows n v = record {
  apart = apart_from (suc a) a rows v.apart (omega arith);
  exact = onward names a [] rows rows n v
      (λ y. ((λ m. absurd m), (λ g. none_below (suc a) rows v.apart a y (omega arith) g)))
      (λ b y l. ((λ g. g), (λ g. g)));
}

-- names that are not moved
unmoved : (a : ℕ) (es : List End) → map (further_end (a - a)) es ≡ es
unmoved a es = let z : a - a ≡ 0 = omega arith in ap (λ k. map (further_end k) es) z ∙ moved_none es

-- the address has a row of its own
module _ (names : ℕ → List End) (a : ℕ) (es : List End) (rows : List Seen) where
  abbrev own : Seen
  own = record { lo = a; hi = a; ends = es }

  own_front : names a ≡ es → HasEnds es → Ascending es → a ≤ TOP → SeenParted own rows → Made names (suc a) rows → Made names a (own ∷ rows)
  own_front n h up top p v = record {
    apart = (omega arith, omega arith, top, h, up, p, v.apart);
    exact = onward names a es rows (own ∷ rows) n v (λ y. ((λ m. here y m), (λ g. back y g))) (λ b y l. ((λ g. inr g), (λ g. above b y l g)));
  }
    where
      here : (y : End) → Member y es → SeenGive (own ∷ rows) a y
      here y m = inl (omega arith, omega arith, subst (Member y) (sym (unmoved a es)) m)

      back : (y : End) → SeenGive (own ∷ rows) a y → Member y es
      back y (inl g) = subst (Member y) (unmoved a es) g.2
      back y (inr g) = absurd (none_below (suc a) rows v.apart a y (omega arith) g)

      above : (b : ℕ) (y : End) → a < b → SeenGive (own ∷ rows) b y → SeenGive rows b y
      above b y l (inl g) = absurd (omega (arith, g.1))
      above b y l (inr g) = g

-- the next row goes on with the names of the address
module _ (names : ℕ → List End) (a : ℕ) (es : List End) (r : Seen) (rows : List Seen) where
  abbrev longer : Seen
  longer = record { lo = a; hi = r.hi; ends = es }

  longer_parted : (rs : List Seen) → r.lo ≡ suc a → r.lo ≤ r.hi → r.ends ≡ map (further_end 1) es → SeenParted r rs → SeenParted longer rs
  longer_parted [] e o f p = tt
  longer_parted (s ∷ ss) e o f p = λ l n.
      let k : suc (suc r.hi - r.lo) ≡ suc r.hi - a = omega (arith, e, o) in
      p l (n ∙ ap (λ t. map (further_end t) es) (sym k) ∙ sym (moved_more (suc r.hi - r.lo) es) ∙ ap (map (further_end (suc r.hi - r.lo))) (sym f))

  on : (b : ℕ) → r.lo ≡ suc a → r.ends ≡ map (further_end 1) es → suc a ≤ b → map (further_end (b - r.lo)) r.ends ≡ map (further_end (b - a)) es
  on b e f l =
      let k : suc (b - r.lo) ≡ b - a = omega (arith, e) in
      ap (map (further_end (b - r.lo))) f ∙ moved_more (b - r.lo) es ∙ ap (λ t. map (further_end t) es) k

  longer_front : names a ≡ es → HasEnds es → Ascending es → r.lo ≡ suc a → r.ends ≡ map (further_end 1) es → Made names (suc a) (r ∷ rows) → Made names a (longer ∷ rows)
  longer_front n h up e f v = record {
    apart = (omega arith, omega (arith, e, v.apart.1), v.apart.2, h, up, longer_parted rows e v.apart.1 f v.apart.5, v.apart.6);
    exact = onward names a es (r ∷ rows) (longer ∷ rows) n v (λ y. ((λ m. here y m), (λ g. back y g))) (λ b y l. ((λ g. there b y l g), (λ g. above b y l g)));
  }
    where
      here : (y : End) → Member y es → SeenGive (longer ∷ rows) a y
      here y m = inl (omega arith, omega (arith, e, v.apart.1), subst (Member y) (sym (unmoved a es)) m)

      back : (y : End) → SeenGive (longer ∷ rows) a y → Member y es
      back y (inl g) = subst (Member y) (unmoved a es) g.2
      back y (inr g) = absurd (none_below (suc r.hi) rows v.apart.6 a y (omega (arith, e, v.apart.1)) g)

      there : (b : ℕ) (y : End) → a < b → SeenGive (r ∷ rows) b y → SeenGive (longer ∷ rows) b y
      there b y l (inl g) = inl (omega arith, g.1, subst (Member y) (on b e f l) g.2)
      there b y l (inr g) = inr g

      above : (b : ℕ) (y : End) → a < b → SeenGive (longer ∷ rows) b y → SeenGive (r ∷ rows) b y
      above b y l (inl g) = inl (omega (arith, e), g.1, subst (Member y) (sym (on b e f l)) g.2)
      above b y l (inr g) = inr g

-- the rows from an address on, where those from the next one on are made
front : (names : ℕ → List End) (a : ℕ) (es : List End) (rows : List Seen) → names a ≡ es → Ascending es → a ≤ TOP → Made names (suc a) rows → Made names a (row_in_front a es rows)
front names a [] rows n up top v = no_front names a rows n v
front names a (e ∷ es) [] n up top v = own_front names a (e ∷ es) [] n tt up top tt v
front names a (e ∷ es) (r ∷ rows) n up top v = go (nat_eq r.lo (suc a) && same_ends r.ends (map (further_end 1) (e ∷ es))) refl
  where
    parted : (nat_eq r.lo (suc a) && same_ends r.ends (map (further_end 1) (e ∷ es))) ≡ false → r.lo ≡ suc a → r.ends ≡ map (further_end (suc a - a)) (e ∷ es) → ⊥
    parted f l m =
        let k : suc a - a ≡ 1 = omega arith in
        let m1 : r.ends ≡ map (further_end 1) (e ∷ es) = m ∙ ap (λ t. map (further_end t) (e ∷ es)) k in
        let same : same_ends r.ends (map (further_end 1) (e ∷ es)) ≡ true = ap (λ t. same_ends t (map (further_end 1) (e ∷ es))) m1 ∙ is_same (map (further_end 1) (e ∷ es)) in
        false≢true (sym f ∙ and_from (nat_eq r.lo (suc a)) (same_ends r.ends (map (further_end 1) (e ∷ es))) (eq-eqb r.lo (suc a) l) same)

    go : (b : Bool) → (nat_eq r.lo (suc a) && same_ends r.ends (map (further_end 1) (e ∷ es))) ≡ b → Made names a (cond b (record { lo = a; hi = r.hi; ends = e ∷ es } ∷ rows) (record { lo = a; hi = a; ends = e ∷ es } ∷ (r ∷ rows)))
    go true f =
        let p = and_parts (nat_eq r.lo (suc a)) (same_ends r.ends (map (further_end 1) (e ∷ es))) f in
        longer_front names a (e ∷ es) r rows n tt up (eqb-true r.lo (suc a) p.0) (one_list_of_ends r.ends (map (further_end 1) (e ∷ es)) p.1) v
    go false f = own_front names a (e ∷ es) (r ∷ rows) n tt up top (parted f) v

made_from : (names : ℕ → List End) → ((a : ℕ) → Ascending (names a)) → (k a : ℕ) → k + a ≡ TOP + 1 → Made names a (rows_from names k a)
unfolding rows_from
made_from names up zero a e = record { apart = tt; exact = λ b y l t. absurd (omega (arith, e, l, t)) }
made_from names up (suc k) a e = front names a (names a) (rows_from names k (suc a)) refl (up a) (omega (arith, e)) (made_from names up k (suc a) (omega (arith, e)))

pub listed_are_normal : ListedRowsAreNormal
unfolding listed_rows
listed_are_normal names up =
    let k : (TOP + 1) + 0 ≡ TOP + 1 = omega arith in
    let v = made_from names up (TOP + 1) 0 k in
    (v.apart, λ a y t. v.exact a y (omega arith) t)
