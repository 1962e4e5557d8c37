-- The list of live walks has exactly the live walks.
use Rattle.std.proofs.Common.{◌≡◌, ℕ, zero, suc, ◌≤◌, ◌⊎◌, inl, inr, List, length, sym, subst, arith}
use Rattle.dn_net.specs.declared.node.Name.{Name}
use Rattle.dn_net.specs.declared.node.NodeDecl.{NodeDecl}
use Rattle.dn_net.specs.Chain.{Member}
use Rattle.dn_net.specs.Walks.{Choice, IsLive, Walk, in_order, starts_before, level, live_walks}
use Rattle.dn_net.specs.WalkRules.{IsListed, LiveWalksAreAll}
use Rattle.dn_base.proofs.Members.{member_left, member_right, member_cases}
use Rattle.dn_net.proofs.Choices.{chain_of_choices}
use Rattle.dn_net.proofs.Cycles.{stepping_in_range}
use Rattle.dn_net.proofs.Levels.{level_is_row, live_of_row, row_of_choices}
use Rattle.dn_net.proofs.Members.{member_order}

-- a walk of the list is one of a level
pub level_of_listed : (net : List NodeDecl) (k : ℕ) (w : Walk) → Member w (live_walks net k) → (j : ℕ) × (1 ≤ j) × (j ≤ k) × Member w (level net j)
level_of_listed net zero w m = absurd m
level_of_listed net (suc k) w m = elim (member_cases (live_walks net k) (in_order starts_before (level net (suc k))) w m) [
  | inl n ↦ (let r = level_of_listed net k w n in let l : r.0 ≤ k = r.2 in (r.0, r.1, (omega arith), r.3))
  | inr n ↦ (suc k, (omega arith), (omega arith), (member_order starts_before (level net (suc k)) w).0 n)
]

-- and back
pub listed_of_level : (net : List NodeDecl) (k j : ℕ) (w : Walk) → 1 ≤ j → j ≤ k → Member w (level net j) → Member w (live_walks net k)
listed_of_level net zero j w l h m = absurd (omega arith)
listed_of_level net (suc k) j w l h m = by (λ i. listed_of_level net k j w l i m) (last_or j k h)
  where
    last_or : (j k : ℕ) → j ≤ suc k → (j ≡ suc k) ⊎ (j ≤ k)
    last_or j k l = grind arith

    by : (j ≤ k → Member w (live_walks net k)) → (j ≡ suc k) ⊎ (j ≤ k) → Member w (live_walks net (suc k))
    by ih (inl e) = member_right (live_walks net k) (in_order starts_before (level net (suc k))) w ((member_order starts_before (level net (suc k)) w).1 (subst (λ i. Member w (level net i)) e m))
    by ih (inr i) = member_left (live_walks net k) (in_order starts_before (level net (suc k))) w (ih i)

pub live_walks_are_all : LiveWalksAreAll
live_walks_are_all net checked k = (listed, all)
  where
    listed : (w : Walk) → Member w (live_walks net k) → IsListed net w × (1 ≤ length w.choices) × (length w.choices ≤ k)
    listed w m =
        let r = level_of_listed net k w m in
        let s = level_is_row net checked r.0 w r.3 in
        (record { live = live_of_row net checked r.0 w s; high = s.low; follows = s.follows }, subst (λ n. 1 ≤ n) (sym s.long) r.1, subst (λ n. n ≤ k) (sym s.long) r.2)

    all : (start : ℕ) (choices : List Choice) → IsLive net start choices → 1 ≤ length choices → length choices ≤ k → (w : Walk) × Member w (live_walks net k) × (w.start ≡ start) × (w.choices ≡ choices)
    all start choices live l h =
        let x : Name = record { node = start; addr = live.0 } in
        let i = stepping_in_range net checked (length choices) x live.1 l (chain_of_choices net checked.each choices x live.1 live.3) in
        let r = row_of_choices net checked x live.1 choices i.0 i.1 live.3 in
        (r.0, listed_of_level net k (length choices) r.0 l h r.1, r.2, r.3)
