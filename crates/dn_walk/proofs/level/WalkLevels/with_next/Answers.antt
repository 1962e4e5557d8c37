-- One level more, and as many walks less room.
use Rattle.std.proofs.Common.{◌≡◌, ◌∙◌, ◌+◌, ◌-◌, ◌++◌, [], ◌∷◌, sym, ap, map, length, vec_len, arith, rules, subst}
use Rattle.std.proofs.lemmas.List.{length_push}
use Rattle.dn_net.proofs.Places.{length-map}
use Rattle.dn_walk.specs.Rows.{row_view}
use Rattle.dn_walk.specs.Levels.{bare_levels, bare_level, bare_walks}
use Rattle.dn_net.specs.WalkRules.{walk_limit}
use Rattle.std.proofs.lemmas.Result.{err_from_is_err_and}
use Rattle.dn_walk.proofs.BareWalks.{rows_are, wide_weaker, grown_wide, grown_room, grown_level, grown_sorted}
use Rattle.dn_walk.proofs.level.WalkLevels.with_next.Goals as goal

pub extended_rows-requires-clause-rows : goal.extended_rows-requires-clause-rows
extended_rows-requires-clause-rows c =
    rows_are c.args.legs.now c.requires.legs (length c.args.self.sorted.items) 64 c.requires.shallow c.deref.result.now (ap (map row_view) c.deref.ensures.value ∙ c.requires.levels.newest)

pub returns-in_err-next-clause-wide : goal.returns-in_err-next-clause-wide
returns-in_err-next-clause-wide c =
    let legs = c.args.legs.now in
    let newest : map row_view c.deref.result.now ≡ bare_level legs (length c.args.self.sorted.items) = ap (map row_view) c.deref.ensures.value ∙ c.requires.levels.newest in
    let wide = grown_wide legs (length c.args.self.sorted.items) c.args.self.room (map row_view c.deref.result.now) newest c.requires.levels.room in
    let p = err_from_is_err_and c.from_residual.result c.from_residual.ensures.1 in
    rw (p.1, p.2) (wide_weaker _ _ _ wide c.in_err-next.ensures.wide)

pub returns-clause-levels : goal.returns-clause-levels
returns-clause-levels c =
    let legs = c.args.legs.now in
    let k = length c.args.self.sorted.items in
    let newest : map row_view c.deref.result.now ≡ bare_level legs k = ap (map row_view) c.deref.ensures.value ∙ c.requires.levels.newest in
    let items : c.push.new.self.items ≡ c.args.self.sorted.items ++ c.in_ok-level.level ∷ [] = search rules in
    let more : length c.push.new.self.items ≡ k + 1 = ap length items ∙ length_push c.args.self.sorted.items c.in_ok-level.level in
    let made = c.in_ok-next.ensures.made in
    let items_are : vec_len c.in_ok-next.next ≡ length c.in_ok-next.next.items = search rules in
    let size : c.len.result ≡ length (map row_view c.in_ok-next.next.items) = c.len.ensures ∙ items_are ∙ sym (length-map row_view c.in_ok-next.next.items) in
    record {
      sorted = ap (map (map row_view)) items ∙ grown_sorted legs k c.args.self.sorted.items c.args.self.newest.items c.in_ok-level.level c.requires.levels.sorted c.requires.levels.newest c.in_ok-level.ensures ∙ ap (bare_levels legs) (sym more);
      newest = grown_level legs k (map row_view c.deref.result.now) (map row_view c.in_ok-next.next.items) newest made ∙ ap (bare_level legs) (sym more);
      room = subst (λ m. (c.args.self.room - c.len.result) + length (bare_walks legs m) ≡ walk_limit) (sym more) (grown_room legs k c.args.self.room c.len.result (map row_view c.deref.result.now) (map row_view c.in_ok-next.next.items) newest made c.requires.levels.room size (omega (arith, c.len.ensures, c.in_ok-next.ensures.fits)));
    }
