-- The rows of a view: what a node's addresses resolve to, made address by address.
use Rattle.std.proofs.Common.{◌≡◌, ◌∙◌, ap, sym, ℕ, ◌↔◌, List, map, length}
use Rattle.std.proofs.lemmas.List.{length-map}
use Rattle.dn_interval.specs.declared.row.End.{End}
use Rattle.dn_interval.specs.declared.row.Row.{Row}
use Rattle.dn_interval.specs.Rows.{Member as EndIn, AreNormal}
use Rattle.dn_interval.specs.Listed.{seen_view}
use Rattle.dn_interval.proofs.Fronts.{listed_are_normal}
use Rattle.dn_interval.proofs.Listing.{normal_are_listed}
use Rattle.dn_net.specs.declared.node.Name.{Name}
use Rattle.dn_net.specs.declared.node.NodeDecl.{NodeDecl}
use Rattle.dn_net.specs.Decode.{is_accepted, steps, step_limit}
use Rattle.dn_net.specs.Names.{resolved_names}
use Rattle.dn_net.proofs.Ascending.{end_names_ascend}
use Rattle.dn_net.proofs.Resolution.{end_names_are_ends}
use Rattle.dn_walk.proofs.Ends.{end_in, ends_ascend}
use Rattle.dn_walk.specs.Ends.{end_of, name_of_end}
use Rattle.dn_flat.specs.Views.{ResolvesFrom, view_rows, ViewRowsAreNormal}

-- the ends that an address of a node resolves to
abbrev pub ends_at : List NodeDecl → ℕ → ℕ → List End
ends_at net n a = map end_of (resolved_names net (record { node = n; addr = a }))

resolves_end : (net : List NodeDecl) (n a : ℕ) (y : End) → EndIn y (ends_at net n a) ↔ ResolvesFrom net n a y
resolves_end net n a y =
    let x : Name = record { node = n; addr = a } in
    let in_list = end_in (resolved_names net x) (name_of_end y) in
    let law = end_names_are_ends (steps net) (is_accepted net) step_limit x (name_of_end y) in
    ((λ m. law.0 (in_list.0 m)), (λ r. in_list.1 (law.1 r)))

-- rows that are normal for the resolution are the rows of the view
pub rows_are_view : (net : List NodeDecl) (n : ℕ) (rows : List Row) → AreNormal (ResolvesFrom net n) rows → map seen_view rows ≡ view_rows net n
rows_are_view net n rows normal =
    normal_are_listed (ends_at net n) (λ a. ends_ascend (resolved_names net (record { node = n; addr = a })) (end_names_ascend (steps net) (is_accepted net) step_limit (record { node = n; addr = a }))) rows (record {
      apart = normal.apart;
      exact = λ a y h. ((λ m. (normal.exact a y h).0 ((resolves_end net n a y).0 m)), (λ g. (resolves_end net n a y).1 ((normal.exact a y h).1 g)));
    })

-- and there are as many
pub rows_count : (net : List NodeDecl) (n : ℕ) (rows : List Row) → map seen_view rows ≡ view_rows net n → length rows ≡ length (view_rows net n)
rows_count net n rows e = sym (length-map rows seen_view) ∙ ap length e

-- the rows of the view are normal for the resolution
pub view_rows_are_normal : ViewRowsAreNormal
view_rows_are_normal net n =
    let law = listed_are_normal (ends_at net n) (λ a. ends_ascend (resolved_names net (record { node = n; addr = a })) (end_names_ascend (steps net) (is_accepted net) step_limit (record { node = n; addr = a }))) in
    record {
      apart = law.0;
      exact = λ a y h. ((λ r. (law.1 a y h).0 ((resolves_end net n a y).1 r)), (λ g. (resolves_end net n a y).0 ((law.1 a y h).1 g)));
    }
