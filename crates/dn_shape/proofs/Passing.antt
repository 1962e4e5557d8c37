-- The steps of a node that is led past another: by its rows it decodes to the names past that node.
use Rattle.std.proofs.Common.{◌≡◌, ℕ, suc, ◌-◌, ◌≤◌, ◌↔◌, inl, inr, Bool, true, false, if◌then◌else◌, nat_le, List, [], ◌∷◌, map, slice_get, Some, None, refl, sym, ap, ◌∙◌, subst, arith, leb-true}
use Rattle.std.proofs.lemmas.Bool.{false≢true}
use Rattle.dn_base.specs.Members.{Member}
use Rattle.dn_interval.specs.declared.row.End.{End}
use Rattle.dn_interval.specs.declared.span.TheConstants.{TOP}
use Rattle.dn_interval.specs.Rows.{Ascending, further_end as end_moved}
use Rattle.dn_interval.specs.Listed.{Seen, SeenApart, SeenGive}
use Rattle.dn_interval.proofs.Fronts.{listed_are_normal, none_below}
use Rattle.dn_net.specs.declared.node.Name.{Name}
use Rattle.dn_net.specs.declared.node.NodeDecl.{NodeDecl}
use Rattle.dn_net.specs.Decode.{top, within, in_some_block, dest_name, by_entries, decode, sent_names, steps, Step}
use Rattle.dn_net.specs.Names.{each_step}
use Rattle.dn_net.proofs.Ascending.{sorted_ascending}
use Rattle.dn_net.proofs.Least.{within_from, within_to}
use Rattle.dn_net.proofs.Resolution.{names_in, each_in}
use Rattle.dn_walk.proofs.Ends.{end_in, ends_ascend}
use Rattle.dn_walk.specs.Ends.{end_of}
use Rattle.dn_shape.specs.Absorb.{names_past, steps_past, rows_past, dest_of_end, entry_of_row, node_led_past}

-- a name of a row as a name of the net
abbrev pub end_name : End → Name
end_name e = record { node = e.node; addr = e.base }

-- the names past a node, as the rows have them
abbrev pub ends_past : List NodeDecl → ℕ → ℕ → ℕ → List End
ends_past net m i a = map end_of (steps_past net m (record { node = i; addr = a }))

pub ends_past_ascend : (net : List NodeDecl) (m i a : ℕ) → Ascending (ends_past net m i a)
ends_past_ascend net m i a = ends_ascend (steps_past net m (record { node = i; addr = a })) (sorted_ascending (each_step (names_past net m) (steps net (record { node = i; addr = a }))))

-- the destinations of a row, moved on, are its names
sent_of_row : (k : ℕ) (es : List End) (y : Name) → Member y (map (dest_name k) (map dest_of_end es)) ↔ Member (end_of y) (map (end_moved k) es)
sent_of_row k [] y = ((λ m. m), (λ m. m))
sent_of_row k (e ∷ es) y =
    let later = sent_of_row k es y in (
      (λ m. elim m [ inl s ↦ inl (ap end_of s) | inr n ↦ inr (later.0 n) ]),
      (λ m. elim m [ inl s ↦ inl (ap end_name s) | inr n ↦ inr (later.1 n) ]),
    )

-- an address goes by the row that has it to the names which the rows give
by_rows : (from : ℕ) (rows : List Seen) → SeenApart from rows → (a : ℕ) (y : Name) → Member y (sent_names (by_entries a None (map entry_of_row rows))) ↔ SeenGive rows a (end_of y)
by_rows from [] apart a y = ((λ m. m), (λ m. m))
by_rows from (r ∷ rows) apart a y = by (within a (record { lo = r.lo; hi = r.hi })) refl (by_rows (suc r.hi) rows apart.6 a y)
  where
    by : (b : Bool) → within a (record { lo = r.lo; hi = r.hi }) ≡ b → Member y (sent_names (by_entries a None (map entry_of_row rows))) ↔ SeenGive rows a (end_of y) → Member y (sent_names (if b then Some (record { dests = map dest_of_end r.ends; offset = a - r.lo }) else by_entries a None (map entry_of_row rows))) ↔ SeenGive (r ∷ rows) a (end_of y)
    by true w ih =
        let here = within_to a (record { lo = r.lo; hi = r.hi }) w in
        let sent = sent_of_row (a - r.lo) r.ends y in
        let high : a ≤ r.hi = here.1 in (
          (λ m. inl (here.0, here.1, sent.0 m)),
          (λ g. elim g [ inl h ↦ sent.1 h.2 | inr h ↦ absurd (none_below (suc r.hi) rows apart.6 a (end_of y) (omega arith) h) ]),
        )
    by false w ih = ((λ m. inr (ih.0 m)), (λ g. elim g [ inl h ↦ absurd (false≢true (sym w ∙ within_from a (record { lo = r.lo; hi = r.hi }) h.0 h.1)) | inr h ↦ ih.1 h ]))

-- the names past a node: each is a step, or a step of a step into that node
pub past_in : (net : List NodeDecl) (m : ℕ) (x y : Name) → Member y (steps_past net m x) ↔ ((z : Name) × Step net x z × Member y (names_past net m z))
past_in net m x y =
    let a = names_in (each_step (names_past net m) (steps net x)) y in
    let b = each_in (names_past net m) (steps net x) y in
    ((λ h. b.0 (a.0 h)), (λ h. a.1 (b.1 h)))

-- the node that is led past another decodes an address to the names past that node
pub led_steps : (net : List NodeDecl) (m i a : ℕ) (n : NodeDecl) (y : Name) → slice_get net i ≡ Some n → Member y (sent_names (decode a (Some (node_led_past net m i n)))) ↔ Member y (steps_past net m (record { node = i; addr = a }))
led_steps net m i a n y at = by (nat_le a top) refl (in_some_block a n.accepts) refl
  where
    nowhere : steps net (record { node = i; addr = a }) ≡ [] → ⊥ ↔ Member y (steps_past net m (record { node = i; addr = a }))
    nowhere e = ((λ f. absurd f), (λ h. let r = (past_in net m (record { node = i; addr = a }) y).0 h in subst (λ l. Member r.0 l) e r.1))

    from : (p q : Bool) → nat_le a top ≡ p → in_some_block a n.accepts ≡ q → steps net (record { node = i; addr = a }) ≡ sent_names (if p then (if q then None else by_entries a n.over n.entries) else None)
    from p q e f = ap (λ o. sent_names (decode a o)) at ∙ ap (λ t. sent_names (if t then (if in_some_block a n.accepts then None else by_entries a n.over n.entries) else None)) e ∙ ap (λ t. sent_names (if p then (if t then None else by_entries a n.over n.entries) else None)) f

    by : (p : Bool) → nat_le a top ≡ p → (q : Bool) → in_some_block a n.accepts ≡ q → Member y (sent_names (if p then (if q then None else by_entries a None (map entry_of_row (rows_past net m i))) else None)) ↔ Member y (steps_past net m (record { node = i; addr = a }))
    by false e q f = nowhere (from false q e f)
    by true e true f = nowhere (from true true e f)
    by true e false f =
        let normal = listed_are_normal (ends_past net m i) (ends_past_ascend net m i) in
        let rows = by_rows 0 (rows_past net m i) normal.0 a y in
        let low : a ≤ TOP = leb-true a top e in
        let give = normal.1 a (end_of y) low in
        let same = end_in (steps_past net m (record { node = i; addr = a })) y in
        ((λ h. same.0 (give.1 (rows.0 h))), (λ h. rows.1 (give.0 (same.1 h))))
