-- Layers give what their rows give, and what the segments give of which they are made.
use Rattle.std.proofs.Common.{◌≡◌, ℕ, ◌≤◌, true, ◌||◌, List, [], ◌∷◌, ◌++◌, sym, ap, ◌∙◌}
use Rattle.std.proofs.lemmas.List.Folds.{list_any-append}
use Rattle.dn_base.proofs.Members.{any_member, member_any}
use Rattle.dn_base.proofs.Booleans.{same_tests, or-false}
use Rattle.dn_interval.specs.declared.row.End.{End}
use Rattle.dn_interval.specs.declared.row.Row.{Row}
use Rattle.dn_interval.specs.declared.row.Seg.{Seg}
use Rattle.dn_interval.specs.declared.span.TheConstants.{TOP}
use Rattle.dn_interval.specs.Rows.{AreNormal, GivenBy, Member, SegmentsGive}
use Rattle.dn_interval.specs.Strands.{rows_give, segs_give}
use Rattle.dn_interval.proofs.Names.{rows_from, rows_to, segs_from, segs_to}
use Rattle.dn_flat.specs.Levels.{levels_give}

-- one of the layers has the name

pub layers_to : (layers : List (List Row)) (a : ℕ) (y : End) → levels_give layers a y ≡ true → (rows : List Row) × Member rows layers × GivenBy rows a y
layers_to layers a y e = let r = any_member (λ rows. rows_give rows a y) layers e in (r.0, r.1, rows_to r.0 a y r.2)

pub layers_from : (layers : List (List Row)) (a : ℕ) (y : End) (rows : List Row) → Member rows layers → GivenBy rows a y → levels_give layers a y ≡ true
layers_from layers a y rows m g = member_any (λ rows. rows_give rows a y) layers rows m (rows_from rows a y g)

-- normal rows of segments give what these give
pub same_given : (segs : List Seg) (rows : List Row) → AreNormal (SegmentsGive segs) rows → (a : ℕ) (z : End) → a ≤ TOP → rows_give rows a z ≡ segs_give segs a z
same_given segs rows n a z low = same_tests (rows_give rows a z) (segs_give segs a z)
    (λ e. segs_from segs a z ((n.exact a z low).1 (rows_to rows a z e)))
    (λ e. rows_from rows a z ((n.exact a z low).0 (segs_to segs a z e)))

-- one more layer, or none where there is no segment

pub one_more : (old new : List (List Row)) (layer : List Row) (segs : List Seg) (a : ℕ) (z : End) → a ≤ TOP → new ≡ old ++ layer ∷ [] → AreNormal (SegmentsGive segs) layer → levels_give new a z ≡ (levels_give old a z || segs_give segs a z)
one_more old new layer segs a z low e n =
    ap (λ ls. levels_give ls a z) e
    ∙ list_any-append (λ rows. rows_give rows a z) old (layer ∷ [])
    ∙ ap (λ t. levels_give old a z || t) (or-false (rows_give layer a z) ∙ same_given segs layer n a z low)

pub no_more : (layers : List (List Row)) (segs : List Seg) (a : ℕ) (z : End) → segs ≡ [] → levels_give layers a z ≡ (levels_give layers a z || segs_give segs a z)
no_more layers segs a z e = sym (ap (λ s. levels_give layers a z || segs_give s a z) e ∙ or-false (levels_give layers a z))

-- a run that becomes a layer
pub run_ended : (old new : List (List Row)) (run none : List Seg) (a : ℕ) (z : End) → levels_give new a z ≡ (levels_give old a z || segs_give run a z) → none ≡ [] → (levels_give new a z || segs_give none a z) ≡ (levels_give old a z || segs_give run a z)
run_ended old new run none a z e f = ap (λ s. levels_give new a z || segs_give s a z) f ∙ (or-false (levels_give new a z) ∙ e)
