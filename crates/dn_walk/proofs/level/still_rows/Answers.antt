-- One node more.
use Rattle.std.proofs.Common.{◌≡◌, ◌∙◌, ◌+◌, ◌++◌, ◌∷◌, [], suc, sym, ap, map, arith}
use Rattle.std.proofs.lemmas.List.{map-append}
use Rattle.dn_walk.specs.Rows.{row_view}
use Rattle.dn_walk.specs.Levels.{bare_still_walk, bare_still_walks}
use Rattle.dn_walk.proofs.BareWalks.{stills_more}
use Rattle.dn_walk.proofs.level.still_rows.Goals as goal

pub loop-node-preserved : goal.loop-node-preserved
loop-node-preserved c =
    let n = c.loop-node.node in
    let a : suc n ≡ n + 1 = omega arith in
    let b : n ≡ 0 + n = omega arith in
    ap (map row_view) c.in_ok-push.ensures.items
    ∙ map-append row_view c.loop-node.rows.items _
    ∙ ap (λ l. l ++ bare_still_walk n ∷ []) c.loop-node.invariant
    ∙ ap (λ m. bare_still_walks 0 n ++ bare_still_walk m ∷ []) b
    ∙ sym (stills_more 0 n)
    ∙ ap (bare_still_walks 0) a
