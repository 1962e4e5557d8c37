-- All numbers of hops.
use Rattle.std.proofs.Common.{◌≡◌, ℕ, ◌-◌, ◌≤◌, List, [], ◌∷◌, ◌++◌, length, slice_get, Option, Some, None, refl, arith}
use Rattle.dn_tables.specs.Placement.{Place}
use Rattle.dn_place.specs.Sought.{Sought}
use Rattle.dn_placement.specs.Order.{IsSuited, hop_page, hops_key, key_of}
use Rattle.dn_place.specs.Candidates.{IsUnder, NoneUnder, IsChosen, IsFirstOrNone}
use Rattle.dn_place.proofs.Levels.{NoneBelow, begun, found_first, leapt, next_one, none_left}

-- placements of so many hops

count_of : (s : Sought) (q : Place) (j : ℕ) → IsUnder s ([] ++ j ∷ []) q → length q.hops ≡ j
count_of s q j u = heads (length q.hops) j (hops_key q.hops ++ (q.v ∷ hop_page s.net (slice_get q.hops q.own) ∷ (length q.hops - q.own) ∷ [])) u.begins.0 u.begins.1
  where
    heads : (a d : ℕ) (m r : List ℕ) → (a ∷ m) ≡ (d ∷ r) → a ≡ d
    heads a d m r p = cc

pub counts_begun : (s : Sought) → NoneBelow s [] 1
counts_begun s = leapt s [] 0 1 (begun s []) (λ q j a b u. absurd (omega (arith, count_of s q j u, u.is.is_placement.least)))

pub counts_done : (s : Sought) (bound : ℕ) → 4 ≤ bound → NoneBelow s [] bound → NoneUnder s []
counts_done s bound l below = none_left s [] bound below (λ q u. (length q.hops, omega (arith, u.is.is_placement.most), (hops_key q.hops ++ (q.v ∷ hop_page s.net (slice_get q.hops q.own) ∷ (length q.hops - q.own) ∷ []), refl)))

-- with the greatest number of hops the search ends
pub last_count : (s : Sought) → NoneBelow s [] 3 → (found : Option Place) → IsFirstOrNone s (3 ∷ []) found → IsFirstOrNone s [] found
last_count s below None a = counts_done s 4 (omega arith) (next_one s [] 3 below a)
last_count s below (Some p) a = found_first s [] 3 p below a

pub none_chosen : (s : Sought) (count : ℕ) → count ≤ 3 → IsChosen s count []
none_chosen s count m = record { leads = tt; most = m; within = omega arith }

pub under_all : (s : Sought) (q : Place) → IsSuited s.net s.slots s.request s.at q → IsUnder s [] q
under_all s q p = record { is = p; begins = (key_of s.net q, refl) }
