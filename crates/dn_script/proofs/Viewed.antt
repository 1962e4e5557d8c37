-- The text of a view.
use Rattle.std.proofs.Common.{◌≡◌, ◌∙◌, ap, sym, subst, ℕ, Bool, List, ◌++◌, length, map, IsTrue}
use Rattle.std.specs.List.{flat_map, list_all}
use Rattle.std.proofs.lemmas.Grind.{flat_map-append}
use Rattle.std.proofs.lemmas.List.Folds.{flat_map-map, list_all-append}
use Rattle.dn_base.proofs.Booleans.{and_parts}
use Rattle.dn_interval.specs.declared.row.Row.{Row}
use Rattle.dn_interval.specs.Listed.{Seen, seen_view}
use Rattle.dn_net.specs.declared.node.NodeDecl.{NodeDecl}
use Rattle.dn_parse.specs.declared.syntax.Mode.{Mode}
use Rattle.dn_print.specs.Rows.{row_text, rows_text}
use Rattle.dn_script.specs.Viewed.{view_heading, viewed_text}

-- rows below their heading
pub viewed_told : (net : List NodeDecl) (text : List ℕ) (m : Mode) (heading out : List ℕ) (count : ℕ) (rows : List Seen) → heading ≡ view_heading text m count → count ≡ length rows → out ≡ heading ++ rows_text net rows → out ≡ viewed_text net text m rows
viewed_told net text m heading out count rows h n o = o ∙ ap (λ (t : List ℕ). t ++ rows_text net rows) (h ∙ ap (view_heading text m) n)

-- the lines of some items, and of those after them
pub lines_parted : {X : Type 0} (line : X → List ℕ) (rest piece later : List X) (text : List ℕ) → rest ≡ piece ++ later → text ≡ flat_map line piece → flat_map line rest ≡ text ++ flat_map line later
lines_parted line rest piece later text e is =
    ap (flat_map line) e ∙ flat_map-append line piece later ∙ ap (λ (t : List ℕ). t ++ flat_map line later) (sym is)

-- what holds of all holds of both parts
pub all_parted : {X : Type 0} (p : X → Bool) (rest piece later : List X) → rest ≡ piece ++ later → IsTrue (list_all p rest) → IsTrue (list_all p piece) × IsTrue (list_all p later)
all_parted {X} p rest piece later e there =
    and_parts (list_all p piece) (list_all p later)
    (sym (list_all-append p piece later) ∙ subst (λ (xs : List X). IsTrue (list_all p xs)) e there)

-- rows, each as its line has it
pub lines_of_rows : (net : List NodeDecl) (rows : List Row) → rows_text net (map seen_view rows) ≡ flat_map (λ (r : Row). row_text net (seen_view r)) rows
lines_of_rows net rows = flat_map-map (row_text net) seen_view rows
