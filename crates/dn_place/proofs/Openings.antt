-- What the key of a placement says of its hops.
use Rattle.std.proofs.Common.{◌≡◌, ℕ, suc, ◌-◌, ◌<◌, List, [], ◌∷◌, ◌++◌, length, take, drop, slice_get, refl, sym, ap, ◌∙◌, subst, arith, append_assoc, length-drop}
use Rattle.std.proofs.lemmas.List.{take-append-drop}
use Rattle.dn_tables.specs.declared.placement.Hop.{Hop}
use Rattle.dn_tables.specs.Placement.{Place}
use Rattle.dn_place.specs.Sought.{Sought}
use Rattle.dn_placement.specs.Order.{hop_page, hops_key, key_of}
use Rattle.dn_placement.specs.Placement.{Joins, Leads}
use Rattle.dn_placement.proofs.Hops.{hops_key-append, numbers, same_hops}
use Rattle.dn_place.specs.Candidates.{IsUnder, key_of_hops}

-- a placement that ends with these hops has another before them
pub record Opened (s : Sought) (hops : List Hop) (q : Place) (front : List ℕ) : Type 0 where
  pub before : List Hop
  pub hop : Hop
  pub ends : q.hops ≡ before ++ (hop ∷ hops)
  pub rest : List ℕ
  pub key : key_of s.net q ≡ front ++ numbers hop rest
  pub joins : Joins s.net s.slots s.request hop hops

pub leads_on : (s : Sought) (a b : List Hop) → Leads s.net s.slots s.request (a ++ b) → Leads s.net s.slots s.request b
leads_on s [] b l = l
leads_on s (h ∷ a) b l = leads_on s a b l.1

-- so many of the last elements of a list, and the one before them
pub record Cut (xs : List Hop) (n : ℕ) : Type 0 where
  pub before : List Hop
  pub at : Hop
  pub after : List Hop
  pub ends : xs ≡ before ++ (at ∷ after)
  pub count : length after ≡ n

cut : (xs : List Hop) (n : ℕ) → n < length xs → Cut xs n
cut xs n l = go (drop d xs) refl
  where
    d : ℕ
    d = length xs - suc n

    long : length (drop d xs) ≡ suc n
    long = length-drop d xs ∙ omega arith

    go : (ys : List Hop) → drop d xs ≡ ys → Cut xs n
    go [] e = absurd (let k : length (drop d xs) ≡ 0 = ap length e in omega (arith, long))
    go (y ∷ ys) e = record {
      before = take d xs;
      at = y;
      after = ys;
      ends = sym (take-append-drop d xs) ∙ ap (λ l. take d xs ++ l) e;
      count = let k : length (drop d xs) ≡ suc (length ys) = ap length e in omega (arith, long);
    }

pub opened : (s : Sought) (count : ℕ) (hops : List Hop) (q : Place) → length hops < count → IsUnder s (key_of_hops count hops) q → Opened s hops q (key_of_hops count hops)
opened s count hops q l u = record {
  before = w.before;
  hop = w.at;
  ends = w.ends ∙ ap (λ m. w.before ++ (w.at ∷ m)) same.0;
  rest = hops_key w.before ++ tail;
  key = u.begins.1 ∙ ap (λ m. count ∷ (hops_key hops ++ m)) (sym same.1);
  joins = subst (λ m. Joins s.net s.slots s.request w.at m) same.0 (leads_on s w.before (w.at ∷ w.after) (subst (λ m. Leads s.net s.slots s.request m) w.ends u.is.is_placement.leads)).0;
}
  where
    tail : List ℕ
    tail = q.v ∷ hop_page s.net (slice_get q.hops q.own) ∷ (length q.hops - q.own) ∷ []

    parts : (m n : ℕ) (xs ys : List ℕ) → (m ∷ xs) ≡ (n ∷ ys) → (m ≡ n) × (xs ≡ ys)
    parts m n xs ys e = (cc, cc)

    key : (length q.hops ≡ count) × (hops_key q.hops ++ tail ≡ hops_key hops ++ u.begins.0)
    key = parts (length q.hops) count (hops_key q.hops ++ tail) (hops_key hops ++ u.begins.0) u.begins.1

    w : Cut q.hops (length hops)
    w = cut q.hops (length hops) (subst (λ n. length hops < n) (sym key.0) l)

    split : hops_key q.hops ++ tail ≡ hops_key w.after ++ numbers w.at (hops_key w.before ++ tail)
    split =
        ap (λ m. hops_key m ++ tail) w.ends
        ∙ ap (λ m. m ++ tail) (hops_key-append w.before (w.at ∷ w.after))
        ∙ append_assoc (hops_key w.after ++ numbers w.at []) (hops_key w.before) tail
        ∙ append_assoc (hops_key w.after) (numbers w.at []) (hops_key w.before ++ tail)

    same : (w.after ≡ hops) × (numbers w.at (hops_key w.before ++ tail) ≡ u.begins.0)
    same = same_hops w.after hops (numbers w.at (hops_key w.before ++ tail)) u.begins.0 w.count (sym split ∙ key.1)
