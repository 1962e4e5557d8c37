-- No level is sorted yet, and there is all of the room.
use Rattle.std.proofs.Common.{◌≡◌, ◌∙◌, ◌+◌, sym, ap, subst, map, length, [], refl}
use Rattle.dn_net.specs.WalkRules.{walk_limit}
use Rattle.dn_walk.specs.Rows.{row_view}
use Rattle.dn_walk.specs.Levels.{bare_level, bare_levels, bare_walks, bare_still_walks}
use Rattle.dn_walk.proofs.BareWalks.{level-zero, walks-zero, levels-zero}
use Rattle.dn_walk.proofs.level.WalkLevels.new.Goals as goal

limit : walk_limit ≡ 1048576
unfolding walk_limit
limit = refl

pub returns-clause-levels : goal.returns-clause-levels
returns-clause-levels c = λ legs n.
    let none : c.new.result.items ≡ [] = c.new.ensures.items in
    let zero : length c.new.result.items ≡ 0 = ap length none in
    let walks : length (bare_walks legs 0) ≡ 0 = ap length (walks-zero legs) in
    record {
      sorted = ap (map (map row_view)) none ∙ sym (levels-zero legs) ∙ ap (bare_levels legs) (sym zero);
      newest = c.in_ok-still_rows.ensures ∙ ap (bare_still_walks 0) (sym n) ∙ sym (level-zero legs) ∙ ap (bare_level legs) (sym zero);
      room = subst (λ k. 1048576 + length (bare_walks legs k) ≡ walk_limit) (sym zero) (ap (λ n. 1048576 + n) walks ∙ sym limit);
    }
