-- Nodes that were added one after another, each with a new name and within the limits: so are the same nodes with other lines.
use Rattle.std.proofs.Common.{◌≡◌, ◌∙◌, ap, ap₂, sym, refl, subst, ℕ, ◌+◌, ◌≤◌, Bool, true, false, cond, ◌&&◌, if◌then◌else◌, nat_lt, List, [], ◌∷◌, ◌++◌, map, length, length-append, fold, Option, Some, None, Ok, Err, arith, append_assoc, append-nil, ltb-false}
use Rattle.std.proofs.lemmas.List.{length-map, map-append}
use Rattle.dn_module.specs.declared.draft.Draft.{Draft}
use Rattle.dn_net.specs.Decode.{is_agent, is_unit}
use Rattle.dn_module.specs.Drafts.{names, agents_among, units_among, parts_of_draft, all_parts, limit_passed, draft_by_limit, with_draft}
use Rattle.dn_scope.specs.Numbered.{is_known}
use Rattle.dn_scope.specs.Faults.{is_duplicate}

-- a node without its line, and with another
abbrev pub bare : Draft → Draft
bare d = record { line = 0; role = d.role; name = d.name; accepts = d.accepts; entries = d.entries; over = d.over; unit = d.unit }

abbrev pub reline : ℕ → Draft → Draft
reline line d = record { line = line; role = d.role; name = d.name; accepts = d.accepts; entries = d.entries; over = d.over; unit = d.unit }

-- one node a line
abbrev pub relined : ℕ → List Draft → List Draft
relined line [] = []
relined line (d ∷ ds) = reline line d ∷ relined (line + 1) ds

pub names_relined : (line : ℕ) (ds : List Draft) → names (relined line ds) ≡ names ds
names_relined line [] = refl
names_relined line (d ∷ ds) = ap (λ (l : List (List ℕ)). d.name ∷ l) (names_relined (line + 1) ds)

names_bare : (ds : List Draft) → names (map bare ds) ≡ names ds
names_bare [] = refl
names_bare (d ∷ ds) = ap (λ (l : List (List ℕ)). d.name ∷ l) (names_bare ds)

agents_from : (n : ℕ) (ds : List Draft) → fold (λ (a : ℕ) (d : Draft). a + cond (is_agent d.role) 1 0) n (map bare ds) ≡ fold (λ (a : ℕ) (d : Draft). a + cond (is_agent d.role) 1 0) n ds
agents_from n [] = refl
agents_from n (d ∷ ds) = agents_from (n + cond (is_agent d.role) 1 0) ds

agents_bare : (ds : List Draft) → agents_among (map bare ds) ≡ agents_among ds
agents_bare ds = agents_from 0 ds

units_from : (n : ℕ) (ds : List Draft) → fold (λ (a : ℕ) (d : Draft). a + cond (is_unit d.role) 1 0) n (map bare ds) ≡ fold (λ (a : ℕ) (d : Draft). a + cond (is_unit d.role) 1 0) n ds
units_from n [] = refl
units_from n (d ∷ ds) = units_from (n + cond (is_unit d.role) 1 0) ds

units_bare : (ds : List Draft) → units_among (map bare ds) ≡ units_among ds
units_bare ds = units_from 0 ds

parts_from : (n : ℕ) (ds : List Draft) → fold ◌+◌ n (map parts_of_draft (map bare ds)) ≡ fold ◌+◌ n (map parts_of_draft ds)
parts_from n [] = refl
parts_from n (d ∷ ds) = parts_from (n + parts_of_draft d) ds

parts_bare : (ds : List Draft) → all_parts (map bare ds) ≡ all_parts ds
parts_bare ds = parts_from 0 ds

-- the limit that one more node passes, by the numbers of the nodes, the agents, the units and the parts so far
abbrev limit_by : ℕ → ℕ → ℕ → ℕ → Draft → Option ℕ
limit_by nodes agents units parts d =
    if nat_lt 1024 (nodes + 1) then Some 1024
    else (if is_agent d.role && nat_lt 64 (agents + 1) then Some 64
    else (if is_unit d.role && nat_lt 64 (units + 1) then Some 64
    else (if nat_lt 16384 (parts + parts_of_draft d) then Some 16384 else None)))

limit_is : (acc : List Draft) (d : Draft) → limit_passed acc d ≡ limit_by (length acc) (agents_among acc) (units_among acc) (all_parts acc) d
limit_is acc d = refl

limit_bare : (acc : List Draft) (d : Draft) → limit_passed (map bare acc) (bare d) ≡ limit_passed acc d
limit_bare acc d =
    limit_is (map bare acc) (bare d)
    ∙ ap (λ (n : ℕ). limit_by n (agents_among (map bare acc)) (units_among (map bare acc)) (all_parts (map bare acc)) d) (length-map acc bare)
    ∙ ap (λ (n : ℕ). limit_by (length acc) n (units_among (map bare acc)) (all_parts (map bare acc)) d) (agents_bare acc)
    ∙ ap (λ (n : ℕ). limit_by (length acc) (agents_among acc) n (all_parts (map bare acc)) d) (units_bare acc)
    ∙ ap (λ (n : ℕ). limit_by (length acc) (agents_among acc) (units_among acc) n d) (parts_bare acc)
    ∙ sym (limit_is acc d)

-- one more node fits
abbrev pub Fits : List Draft → Draft → Type 0
Fits acc d = (is_known (names acc) d.name ≡ false) × (limit_passed acc d ≡ None)

fits_bare : (acc : List Draft) (d : Draft) → Fits acc d → Fits (map bare acc) (bare d)
fits_bare acc d h = (ap (λ (l : List (List ℕ)). is_known l d.name) (names_bare acc) ∙ h.0, limit_bare acc d ∙ h.1)

bare_fits : (acc : List Draft) (d : Draft) → Fits (map bare acc) (bare d) → Fits acc d
bare_fits acc d h = (ap (λ (l : List (List ℕ)). is_known l d.name) (sym (names_bare acc)) ∙ h.0, sym (limit_bare acc d) ∙ h.1)

pub fits_alike : (acc acc' : List Draft) (d d' : Draft) → map bare acc ≡ map bare acc' → bare d ≡ bare d' → Fits acc d → Fits acc' d'
fits_alike acc acc' d d' e g h =
    bare_fits acc' d' (subst (λ (l : List Draft). Fits l (bare d')) e (subst (λ (b : Draft). Fits (map bare acc) b) g (fits_bare acc d h)))

pub fits_added : (acc : List Draft) (d : Draft) → Fits acc d → with_draft acc d ≡ Ok (acc ++ d ∷ [])
fits_added acc d h = rw (h.0, h.1) refl

pub added_fits : (acc ds : List Draft) (d : Draft) → with_draft acc d ≡ Ok ds → Fits acc d × (ds ≡ acc ++ d ∷ [])
added_fits acc ds d e = go (is_known (names acc) d.name) refl (limit_passed acc d) refl e
  where
    go : (b : Bool) → is_known (names acc) d.name ≡ b → (o : Option ℕ) → limit_passed acc d ≡ o → cond b (Err (is_duplicate d.line)) (draft_by_limit o acc d) ≡ Ok ds → Fits acc d × (ds ≡ acc ++ d ∷ [])
    go true p o q g = cc
    go false p None q g = ((p, q), (let s : acc ++ d ∷ [] ≡ ds = cc in sym s))
    go false p (Some n) q g = cc

-- each node fits behind those before it
abbrev pub Grown : List Draft → List Draft → Type 0
Grown acc [] = Unit {0}
Grown acc (d ∷ ds) = Fits acc d × Grown (acc ++ d ∷ []) ds

pub grown_more : (acc ds : List Draft) (d : Draft) → Grown acc ds → Fits (acc ++ ds) d → Grown acc (ds ++ d ∷ [])
grown_more acc [] d h f = (subst (λ (l : List Draft). Fits l d) (append-nil acc) f, tt)
grown_more acc (e ∷ ds) d h f = (h.0, grown_more (acc ++ e ∷ []) ds d h.1 (subst (λ (l : List Draft). Fits l d) (sym (append_assoc acc (e ∷ []) ds)) f))

below : (acc : List Draft) (d : Draft) → limit_passed acc d ≡ None → length acc + 1 ≤ 1024
below acc d e = go (nat_lt 1024 (length acc + 1)) refl e
  where
    go : (b : Bool) → nat_lt 1024 (length acc + 1) ≡ b → cond {A = Option ℕ} b (Some 1024) (if is_agent d.role && nat_lt 64 (agents_among acc + 1) then Some 64 else (if is_unit d.role && nat_lt 64 (units_among acc + 1) then Some 64 else (if nat_lt 16384 (all_parts acc + parts_of_draft d) then Some 16384 else None))) ≡ None → length acc + 1 ≤ 1024
    go true p g = cc
    go false p g = let n = ltb-false 1024 (length acc + 1) p in omega (arith, n)

-- there are at most 1,024
pub grown_few : (acc ds : List Draft) → Grown acc ds → length acc ≤ 1024 → length acc + length ds ≤ 1024
grown_few acc [] h l = omega (arith, l)
grown_few acc (d ∷ ds) h l =
    let b = below acc d h.0.1 in
    let n = length-append acc (d ∷ []) in
    let m = grown_few (acc ++ d ∷ []) ds h.1 (omega (arith, b, n)) in
    omega (arith, m, n)

pub map_bare_more : (acc acc' : List Draft) (d d' : Draft) → map bare acc ≡ map bare acc' → bare d ≡ bare d' → map bare (acc ++ d ∷ []) ≡ map bare (acc' ++ d' ∷ [])
map_bare_more acc acc' d d' e g =
    map-append bare acc (d ∷ []) ∙ ap₂ (λ (l : List Draft) (b : Draft). l ++ b ∷ []) e g ∙ sym (map-append bare acc' (d' ∷ []))
