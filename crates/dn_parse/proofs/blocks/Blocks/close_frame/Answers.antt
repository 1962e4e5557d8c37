use Rattle.std.proofs.Common.{rules, ◌≡◌, ◌∙◌, ap, sym, map, reverse, List, [], ◌∷◌, ◌++◌, Ok}
use Rattle.std.proofs.lemmas.List.{map-append}
use Rattle.std.specs.Option.{option_to_list}
use Rattle.dn_parse.specs.Tree.{Item}
use Rattle.dn_parse.specs.Whole.{closed_block}
use Rattle.dn_parse.specs.Views.{frame_view, item_view, blocks_view}
use Rattle.dn_parse.proofs.Judge.{without_last}
use Rattle.dn_parse.proofs.blocks.Blocks.close_frame.Goals as goal

pub returns : goal.returns
returns c =
    let at = c.args.self.now in
    let f = c.in-Some.frame in
    let frames : at.frames.items ≡ c.pop.new.self.items ++ f ∷ [] = c.pop.ensures.items ∙ ap (λ o. c.pop.new.self.items ++ option_to_list o) c.in-Some.is in
    let inside : c.replace-body.result.items ≡ at.body.items = search rules in
    let before : c.replace-body.new.dest.items ≡ f.before.items = search rules in
    let closed : closed_block (frame_view f) (map item_view at.body.items) ≡ item_view c.in_ok-block.block = ap (λ l. closed_block (frame_view f) (map item_view l)) (sym inside) ∙ sym (c.in_ok-block.ensures (map item_view f.before.items)) in
    let body : (frame_view f).before ++ closed_block (frame_view f) (map item_view at.body.items) ∷ [] ≡ map item_view c.push.new.self.items = ap (λ (i : Item). map item_view f.before.items ++ i ∷ []) closed ∙ ap (λ l. map item_view l ++ item_view c.in_ok-block.block ∷ []) (sym before) ∙ sym (ap (map item_view) c.in_ok-push.ensures.items ∙ map-append item_view _ _) in
    without_last (blocks_view at) c.pop.new.self.items f at.frames.items frames ∙ ap (λ (l : List Item). Ok (record { frames = reverse (map frame_view c.pop.new.self.items); body = l; begun = at.begun; commands = [] })) body
