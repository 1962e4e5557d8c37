-- The next node has the place of the other.
use Rattle.std.proofs.Common.{rules, ◌≡◌, ◌∙◌, ◌++◌, [], ◌∷◌, List, ℕ, Some, refl, ap, sym, subst, arith, length, map, slice_get, slice_index_or}
use Rattle.std.proofs.lemmas.List.{length-map}
use Rattle.std.proofs.lemmas.Option.{slice_get_read}
use Rattle.dn_flat.specs.declared.levels.Levels.{Levels}
use Rattle.dn_flat.specs.Shared.{levels_at}
use Rattle.dn_flat.proofs.Sharing.{shared_more}
use Rattle.dn_flat.proofs.shared.Shared.share.Goals as goal

pub returns : goal.returns
returns c = λ levels is.
    let made = c.self.inside.made.items in
    let places = c.self.inside.places.items in
    let other = c.args.other in
    let place = c.index-place.result.now in
    let long : length places ≡ length c.args.self.now = sym (length-map places (levels_at made)) ∙ ap length c.self.view_is in
    let from : c.from.result ≡ other = search rules in
    let at : slice_get places other ≡ Some place = slice_get_read places (length places) other place refl (omega (arith, long, c.requires)) (subst (λ n. place ≡ slice_index_or places n place) from c.index-place.ensures) in
    let seen : slice_get (map (levels_at made) places) other ≡ Some levels = ap (λ (fs : List Levels). slice_get fs other) c.self.view_is ∙ is in
    ap (λ (ps : List ℕ). map (levels_at made) ps) c.in_ok-push.ensures.items
    ∙ shared_more made places other place levels at seen
    ∙ ap (λ (fs : List Levels). fs ++ levels ∷ []) c.self.view_is
