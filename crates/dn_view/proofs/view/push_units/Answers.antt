-- The stops of the node, or none of them comes to anything.
use Rattle.std.proofs.Common.{◌≡◌, ◌≤◌, ◌⊎◌, ◌↔◌, ◌∙◌, inl, inr, ℕ, List, true, refl, sym, ap, subst, IsTrue}
use Rattle.dn_base.proofs.Told.{on_ok_then}
use Rattle.dn_interval.specs.declared.row.End.{End}
use Rattle.dn_interval.specs.declared.row.Seg.{Seg}
use Rattle.dn_interval.specs.declared.span.TheConstants.{TOP}
use Rattle.dn_interval.specs.Strands.{segs_give}
use Rattle.dn_kind.specs.Kinded.{kinds_of}
use Rattle.dn_kind.specs.Tables.{Held, allowing}
use Rattle.dn_flat.specs.Levels.{is_among, levels_give, units_in}
use Rattle.dn_tables.specs.Set.{record_kept}
use Rattle.dn_walk.specs.Ends.{name_of_end}
use Rattle.dn_view.specs.Passes.{stops_of}
use Rattle.dn_view.specs.Through.{ComesThrough}
use Rattle.dn_view.proofs.Viewed.{by_same, none_through, unit_listed}
use Rattle.dn_view.proofs.view.push_units.Goals as goal

pub returns-then-not-some_hold : goal.returns-then-not-some_hold
returns-then-not-some_hold g c a z low =
    let net = c.args.system.on.net.now in
    let h : Held = record_kept (kinds_of (λ k. (goal.UnitKind-dyn g k).meaning k.1) c.args.system.on.kinds.now) c.args.tables.now in
    let flats = c.args.system.flats.now in
    let units = c.as_slice-units.ensures ∙ sym (ap units_in c.of.ensures) in
    let none : (s : End) → levels_give (stops_of flats c.args.node) a s ≡ true → ComesThrough net (allowing c.args.access h) (name_of_end s) (name_of_end z) → ⊥ = λ s given k.
    none_through net h c.args.access (name_of_end s) (name_of_end z) (c.if-not-some_hold.ensures refl s.node (subst (λ (ns : List ℕ). is_among s.node ns ≡ true) (sym units) (unit_listed net flats c.requires.system.flat c.args.node c.requires.there a s low given))) k in
    ((λ e. inl e), (λ x. elim x [ inl e ↦ e | inr k ↦ absurd (none k.0 k.1 k.2) ]))

pub returns : goal.returns
returns g c =
    let net = c.args.system.on.net.now in
    let h : Held = allowing c.args.access (record_kept (kinds_of (λ k. (goal.UnitKind-dyn g k).meaning k.1) c.args.system.on.kinds.now) c.args.tables.now) in
    let old : List Seg = c.args.shown.now.items in
    let new : List Seg = c.push_through.new.shown.items in
    let stops : List Seg = c.in_ok-stops.stops.items in
    let layers = stops_of c.args.system.flats.now c.args.node in
    on_ok_then c.push_through.result
    ((a : ℕ) (z : End) → a ≤ TOP → IsTrue (segs_give new a z) ↔ (IsTrue (segs_give old a z) ⊎ ((s : End) × IsTrue (segs_give stops a s) × ComesThrough net h (name_of_end s) (name_of_end z))))
    ((a : ℕ) (z : End) → a ≤ TOP → IsTrue (segs_give new a z) ↔ (IsTrue (segs_give old a z) ⊎ ((s : End) × IsTrue (levels_give layers a s) × ComesThrough net h (name_of_end s) (name_of_end z))))
    (λ f a z low. by_same (segs_give stops a) (levels_give layers a) (λ s. c.in_ok-stops.ensures a s low) (f a z low))
    c.push_through.ensures
