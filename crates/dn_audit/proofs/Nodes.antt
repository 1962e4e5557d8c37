-- Each node that a report names is one of the net.
use Rattle.std.proofs.Common.{◌≡◌, ℕ, zero, suc, ◌+◌, ◌<◌, ◌≤◌, inl, inr, Bool, true, false, if◌then◌else◌, ◌&&◌, not, is_some, nat_lt, List, [], ◌∷◌, ◌++◌, drop, length, map, Option, Some, None, refl, ap, ◌∙◌, subst, arith, lt-ltb, IsTrue}
use Rattle.std.specs.List.{list_all}
use Rattle.std.proofs.lemmas.Bool.{and_from, and_parts}
use Rattle.dn_base.specs.Members.{Member}
use Rattle.dn_interval.specs.Rows.{ends_within}
use Rattle.dn_net.specs.declared.node.NodeDecl.{NodeDecl}
use Rattle.dn_net.specs.declared.node.Unit.{Unit as UnitPart}
use Rattle.dn_kind.specs.declared.unit_kind.Record.{Record}
use Rattle.dn_kind.specs.Kind.{Meaning}
use Rattle.dn_kind.specs.Tables.{Held}
use Rattle.dn_tables.specs.Set.{first_words}
use Rattle.dn_image.specs.Image.{ImageWords, width_of}
use Rattle.dn_audit.specs.declared.report.AuditReport.{AuditReport}
use Rattle.dn_audit.specs.declared.report.Seen.{Seen}
use Rattle.dn_audit.specs.declared.report.Shared.{Shared}
use Rattle.dn_audit.specs.declared.report.Shut.{Shut}
use Rattle.dn_audit.specs.Audit.{AreSharedNames, IsAudit}
use Rattle.dn_audit.specs.Claims.{are_within}
use Rattle.dn_audit.specs.Records.{has_gate, image_records, shut_from, shut_of_nodes, shut_of_unit, shut_slot}
use Rattle.dn_audit.specs.Nodes.{is_seen_within, is_shared_within, is_within_nodes}
use Rattle.dn_audit.specs.Views.{Viewer, viewer_of, viewers}
use Rattle.dn_audit.proofs.Seeing.{agents_listed, viewed_by}
use Rattle.dn_audit.proofs.Seers.{agent_there, seer_there}
use Rattle.dn_audit.proofs.Told.{agent_sees, row_there}

-- what passes at each item passes at all
all_members : {X : Type 0} (p : X → Bool) (xs : List X) → ((x : X) → Member x xs → p x ≡ true) → list_all p xs ≡ true
all_members p [] each = refl
all_members p (x ∷ xs) each = and_from (p x) (list_all p xs) (each x (inl refl)) (all_members p xs (λ y m. each y (inr m)))

all_joined : {X : Type 0} (p : X → Bool) (xs ys : List X) → list_all p xs ≡ true → list_all p ys ≡ true → list_all p (xs ++ ys) ≡ true
all_joined p [] ys a b = b
all_joined p (x ∷ xs) ys a b =
    let q = and_parts (p x) (list_all p xs) a in
    and_from (p x) (list_all p (xs ++ ys)) q.0 (all_joined p xs ys q.1 b)

-- THE VIEWS

viewer_there : (net : List NodeDecl) (views : List Seen) (s : Seen) → map viewer_of views ≡ viewers 0 net → Member s views → s.agent < length net
viewer_there net views s are m =
    let v = agents_listed 0 net (viewer_of s) (subst (λ (l : List Viewer). Member (viewer_of s) l) are (viewed_by views s m)) in
    let l = agent_there net v.place v.agent in
    let e = v.same in
    omega (arith, l, e)

views_there : (count : ℕ) (views : List Seen) → ((s : Seen) → Member s views → s.agent < count) → are_within count views ≡ true → list_all (is_seen_within count) views ≡ true
views_there count [] each w = refl
views_there count (s ∷ views) each w =
    let q = and_parts (ends_within count s.rows) (are_within count views) w in
    let here : is_seen_within count s ≡ true = and_from (nat_lt s.agent count) (ends_within count s.rows) (lt-ltb s.agent count (each s (inl refl))) q.0 in
    and_from (is_seen_within count s) (list_all (is_seen_within count) views) here (views_there count views (λ t m. each t (inr m)) q.1)

-- THE SHUT-OUT RECORDS

shut_there : (count node width : ℕ) (ws : List ℕ) (records : ℕ → Option Record) (slot slots : ℕ) → nat_lt node count ≡ true → list_all (λ (s : Shut). nat_lt s.unit count) (shut_from node width ws records slot slots) ≡ true
shut_there count node width ws records slot zero l = refl
shut_there count node width ws records slot (suc slots) l = all_joined (λ (s : Shut). nat_lt s.unit count) (shut_slot node width ws records slot) (shut_from node width ws records (suc slot) slots) (here (has_gate width ws slot && not (is_some (records slot)))) (shut_there count node width ws records (suc slot) slots l)
  where
    here : (b : Bool) → list_all (λ (s : Shut). nat_lt s.unit count) (if b then record { unit = node; slot = slot } ∷ [] else []) ≡ true
    here true = and_from (nat_lt node count) true l refl
    here false = refl

unit_shut_there : (kinds : List Meaning) (count node : ℕ) (u : Option UnitPart) (ws : List ℕ) (records : ℕ → Option Record) → node < count → list_all (λ (s : Shut). nat_lt s.unit count) (shut_of_unit kinds node u ws records) ≡ true
unit_shut_there kinds count node None ws records l = refl
unit_shut_there kinds count node (Some u) ws records l = shut_there count node (width_of kinds u) ws records 0 u.slots (lt-ltb node count l)

nodes_shut_there : (kinds : List Meaning) (h : Held) (count node : ℕ) (ns : List NodeDecl) (words : List (List ℕ)) → node + length ns ≤ count → list_all (λ (s : Shut). nat_lt s.unit count) (shut_of_nodes kinds h node ns words) ≡ true
nodes_shut_there kinds h count node [] words l = refl
nodes_shut_there kinds h count node (n ∷ ns) words l = all_joined (λ (s : Shut). nat_lt s.unit count) (shut_of_unit kinds node n.unit (first_words words) (h node)) (shut_of_nodes kinds h (suc node) ns (drop 1 words)) (unit_shut_there kinds count node n.unit (first_words words) (h node) (omega (arith, l))) (nodes_shut_there kinds h count (suc node) ns (drop 1 words) (omega (arith, l)))

-- THE SHARED ADDRESSES

sharers_there : (net : List NodeDecl) (h : Held) (rows : List Shared) → AreSharedNames net h rows → list_all (is_shared_within (length net)) rows ≡ true
sharers_there net h rows names = all_members (is_shared_within (length net)) rows (λ r m. and_from (nat_lt r.node (length net)) (list_all (λ g. nat_lt g (length net)) r.agents) (lt-ltb r.node (length net) (row_there net h rows r names m)) (all_members (λ g. nat_lt g (length net)) r.agents (λ g k. lt-ltb g (length net) (seer_there net h g (record { node = r.node; addr = r.span.lo }) (agent_sees net h rows r g names m k)))))

pub within_nodes : (net : List NodeDecl) (kinds : List Meaning) (bytes : List ℕ) (i : ImageWords) (r : AuditReport) → IsAudit net kinds bytes i r → IsTrue (are_within (length net) r.views) → IsTrue (is_within_nodes (length net) r)
within_nodes net kinds bytes i r a w =
    let h : Held = image_records net kinds i in
    let count : ℕ = length net in
    let views = views_there count r.views (λ s m. viewer_there net r.views s a.viewers m) w in
    let shut : list_all (λ (s : Shut). nat_lt s.unit count) r.shut ≡ true = ap (list_all (λ (s : Shut). nat_lt s.unit count)) a.shut ∙ nodes_shut_there kinds h count 0 net i.words (omega arith) in
    let shared = sharers_there net h r.shared a.shared in
    and_from (list_all (is_seen_within count) r.views) (list_all (λ (s : Shut). nat_lt s.unit count) r.shut && list_all (is_shared_within count) r.shared) views (and_from (list_all (λ (s : Shut). nat_lt s.unit count) r.shut) (list_all (is_shared_within count) r.shared) shut shared)
