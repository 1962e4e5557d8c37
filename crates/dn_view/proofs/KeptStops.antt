-- Names in units to which addresses of agents come by records, level by level.
use Rattle.std.proofs.Common.{◌≡◌, ℕ, suc, ◌+◌, ◌-◌, ◌<◌, ◌≤◌, ◌⊎◌, inl, inr, ◌&&◌, nat_eq, true, false, List, [], ◌∷◌, ◌++◌, length, slice_get, IsTrue, sym, ◌∙◌, arith}
use Rattle.std.proofs.lemmas.Bool.{and_parts, false≢true, or_cases}
use Rattle.std.proofs.lemmas.List.Folds.{list_any-append}
use Rattle.dn_interval.specs.declared.row.End.{End}
use Rattle.dn_interval.specs.declared.row.Seg.{Seg}
use Rattle.dn_interval.specs.declared.span.TheConstants.{TOP}
use Rattle.dn_interval.specs.Spans.{in_span}
use Rattle.dn_interval.specs.Strands.{seg_gives, segs_give}
use Rattle.dn_interval.proofs.Membership.{hi_of}
use Rattle.dn_net.specs.declared.node.Name.{Name}
use Rattle.dn_net.specs.declared.node.NodeDecl.{NodeDecl}
use Rattle.dn_net.specs.Decode.{is_agent_at}
use Rattle.dn_net.specs.Legal.{IsLegalNet}
use Rattle.dn_net.proofs.Chains.{chain_join}
use Rattle.dn_kind.specs.Tables.{AreHeld, Held, StepUnder}
use Rattle.dn_walk.specs.Ends.{name_of_end}
use Rattle.dn_flat.specs.Levels.{AreFlats, FlatsView, levels_give}
use Rattle.dn_flat.specs.Views.{StopsFrom}
use Rattle.dn_view.specs.declared.part.FlatPart.TheVariants.{Stops}
use Rattle.dn_view.specs.KeptStops.{IsKeptStop, ListKeptStops}
use Rattle.dn_view.specs.Passes.{part_gives, segs_pass, stops_of}
use Rattle.dn_view.proofs.Passed.{passed_stops, stops_given}
use Rattle.dn_view.proofs.Ways.{net_chain, stop_step}

-- what gives a name to an address gives it to one at or below the last
pub segs_low : (segs : List Seg) (a : ℕ) (z : End) → segs_give segs a z ≡ true → a ≤ TOP
segs_low [] a z e = absurd (false≢true e)
segs_low (s ∷ segs) a z e = elim (or_cases (seg_gives s a z) (segs_give segs a z) e) [
  | inl g ↦ (let h = hi_of s.span a (and_parts (in_span s.span a) (nat_eq s.node z.node && nat_eq (s.base + (a - s.span.lo)) z.base) g).0 in omega (arith, h, s.span.within))
  | inr g ↦ segs_low segs a z g
]

-- the stops of another agent are such names
pub own_kept : (net : List NodeDecl) → IsLegalNet net → (h : Held) (flats : FlatsView) → AreFlats net flats → (agent node : ℕ) → IsTrue (is_agent_at (slice_get net node)) → (node ≡ agent → ⊥) → node < length net → (segs : List Seg) → ((a : ℕ) (z : End) → a ≤ TOP → segs_give segs a z ≡ levels_give (stops_of flats node) a z) → ListKeptStops net h agent segs
own_kept net legal h flats are agent node is other there segs same = λ a z e.
    let low = segs_low segs a z e in
    let st : StopsFrom net node a z = (stops_given net flats are node there a z low).0 (sym (same a z low) ∙ e) in
    record {
      from = record { node = node; addr = a };
      is_agent = is;
      other = other;
      comes = (st.1.0, net_chain net legal h st.1.0 (record { node = node; addr = a }) (name_of_end z) st.1.2);
      stop = st.0;
    }

-- and so is what such names come to through a unit
pub passed_kept : (net : List NodeDecl) → IsLegalNet net → (h : Held) → AreHeld net h → (flats : FlatsView) → AreFlats net flats → (agent : ℕ) (segs stops : List Seg) → ((a : ℕ) (z : End) → segs_give stops a z ≡ segs_pass net h (part_gives Stops flats) segs a z) → ListKeptStops net h agent segs → ListKeptStops net h agent stops
passed_kept net legal h held flats are agent segs stops same listed = λ a z e.
    let r = (passed_stops net legal h held flats are segs a z).0 (sym (same a z) ∙ e) in
    let k : IsKeptStop net h agent (name_of_end r.0) = listed a r.0 r.1 in
    let w : Name = r.2.0 in
    let st = r.2.2 in
    record {
      from = k.from;
      is_agent = k.is_agent;
      other = k.other;
      comes = (k.comes.0 + suc st.1.0, chain_join (StepUnder net h) k.comes.0 (suc st.1.0) k.from (name_of_end r.0) (name_of_end z) k.comes.1 (w, stop_step net legal h (name_of_end r.0) w k.stop r.2.1, net_chain net legal h st.1.0 w (name_of_end z) st.1.2));
      stop = st.0;
    }

-- two lists of such names, one after the other
pub joined_kept : (net : List NodeDecl) (h : Held) (agent : ℕ) (segs more : List Seg) → ListKeptStops net h agent segs → ListKeptStops net h agent more → ListKeptStops net h agent (segs ++ more)
joined_kept net h agent segs more f g = λ a z e. elim (or_cases (segs_give segs a z) (segs_give more a z) (sym (list_any-append (λ (s : Seg). seg_gives s a z) segs more) ∙ e)) [
  | inl l ↦ f a z l
  | inr r ↦ g a z r
]
