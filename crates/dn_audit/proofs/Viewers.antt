-- The views of the agents of a net, node by node.
use Rattle.std.proofs.Common.{◌≡◌, ℕ, zero, suc, ◌+◌, ◌<◌, ◌≤◌, List, [], ◌∷◌, ◌++◌, drop, length, slice_get, refl, ap, ◌∙◌, Bool, true, false, if◌then◌else◌, append_assoc, arith}
use Rattle.dn_net.specs.declared.node.NodeDecl.{NodeDecl}
use Rattle.dn_net.specs.Decode.{is_agent_at}
use Rattle.dn_kind.specs.declared.rights.Access.{Access}
use Rattle.dn_kind.specs.declared.rights.Access.TheVariants.{Read, Write}
use Rattle.dn_kind.specs.Tables.{Held}
use Rattle.dn_audit.specs.declared.report.Seen.{Seen}
use Rattle.dn_audit.specs.Views.{AreSeen, IsSeen, Viewer, viewers, viewers_at}

-- one view more
pub seen_more : (net : List NodeDecl) (h : Held) (views : List Seen) (s : Seen) → AreSeen net h views → IsSeen net h s → AreSeen net h (views ++ s ∷ [])
seen_more net h [] s a v = (v, tt)
seen_more net h (t ∷ views) s a v = (a.0, seen_more net h views s a.1 v)

-- the viewers from a node on
viewers_from : (net : List NodeDecl) (first i : ℕ) → i < length net → viewers first (drop i net) ≡ viewers_at first (is_agent_at (slice_get net i)) ++ viewers (first + 1) (drop (i + 1) net)
viewers_from [] first i l = absurd (omega (arith, l))
viewers_from (n ∷ ns) first zero l =
    let e : suc first ≡ first + 1 = omega arith in
    ap (λ k. viewers_at first (is_agent_at (slice_get (n ∷ ns) 0)) ++ viewers k ns) e
viewers_from (n ∷ ns) first (suc i) l =
    let e : suc (i + 1) ≡ suc i + 1 = omega arith in
    viewers_from ns first i (omega (arith, l))
    ∙ ap (λ k. viewers_at first (is_agent_at (slice_get ns i)) ++ viewers (first + 1) (drop k (n ∷ ns))) e

-- those of a node, for reading and then for writing
pub viewers_two : (node : ℕ) (b : Bool) (old rest : List Viewer) → ((old ++ (if b then record { agent = node; access = Read } ∷ [] else [])) ++ (if b then record { agent = node; access = Write } ∷ [] else [])) ++ rest ≡ old ++ (viewers_at node b ++ rest)
viewers_two node b old rest =
    append_assoc (old ++ one Read b) (one Write b) rest ∙ append_assoc old (one Read b) (one Write b ++ rest) ∙ ap (λ (l : List Viewer). old ++ l) (by b)
  where
    one : Access → Bool → List Viewer
    one access b = if b then record { agent = node; access = access } ∷ [] else []

    by : (b : Bool) → one Read b ++ (one Write b ++ rest) ≡ viewers_at node b ++ rest
    by true = refl
    by false = refl

pub viewers_next : (net : List NodeDecl) (i : ℕ) → i < length net → viewers i (drop i net) ≡ viewers_at i (is_agent_at (slice_get net i)) ++ viewers (i + 1) (drop (i + 1) net)
viewers_next net i l = viewers_from net i i l

-- behind the last node there are none
pub viewers_end : (net : List NodeDecl) (first i : ℕ) → length net ≤ i → viewers first (drop i net) ≡ []
viewers_end [] first zero l = refl
viewers_end [] first (suc i) l = refl
viewers_end (n ∷ ns) first zero l = absurd (omega (arith, l))
viewers_end (n ∷ ns) first (suc i) l = viewers_end ns first i (omega (arith, l))
