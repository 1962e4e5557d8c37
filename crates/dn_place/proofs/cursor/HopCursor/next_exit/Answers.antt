use Rattle.std.proofs.Common.{◌≡◌, ◌∙◌, ◌+◌, ◌<◌, ◌∷◌, ℕ, suc, List, get_or, drop, length, ap, refl, sym, arith}
use Rattle.std.proofs.Math.Seq.{drop-cons}
use Rattle.dn_place.specs.declared.exits.Exit.{Exit}
use Rattle.dn_place.specs.Hops.{hops_view}
use Rattle.dn_place.specs.Searches.{sought}
use Rattle.dn_place.proofs.Cursors.{exit_begun, next_output}
use Rattle.dn_place.proofs.cursor.HopCursor.next_exit.Goals as goal

-- what is read past the end of outputs
abbrev no_exit : Exit
no_exit = record { port = 0; y = 0; rank = 0 }

-- the outputs from a place on are the one there, and those after it
rest_is : (items lent : List Exit) (at : ℕ) → lent ≡ items → at < length items → drop at items ≡ get_or lent at no_exit ∷ drop (at + 1) items
rest_is items lent at e l = drop-cons items at no_exit l ∙ ap (λ (x : Exit). x ∷ drop (suc at) items) (ap (λ (es : List Exit). get_or es at no_exit) (sym e)) ∙ ap (λ n. get_or lent at no_exit ∷ drop n items) (let p : suc at ≡ at + 1 = omega arith in p)

pub inputs_of-self-requires-clause-output : goal.inputs_of-self-requires-clause-output
inputs_of-self-requires-clause-output g c =
    let s = sought (λ k. (goal.UnitKind-dyn g k).meaning k.1) c.args.search in
    let count = c.args.search.count in
    let nearer = hops_view c.args.nearer in
    let units = c.args.search.reach.now.units.items in
    let old = c.args.self.now in
    let lent = c.as_slice-exits.ensures.value in
    let less : old.at < length old.exits.items = omega (arith, ap length lent, c.if-self-exits.false) in
    next_output s count nearer units old (get_or c.as_slice-exits.result.now old.at no_exit) c.requires.cursor (rest_is old.exits.items c.as_slice-exits.result.now old.at lent less)

pub returns-clause-yes : goal.returns-clause-yes
returns-clause-yes g c = λ is.
    let s = sought (λ k. (goal.UnitKind-dyn g k).meaning k.1) c.args.search in
    let count = c.args.search.count in
    let nearer = hops_view c.args.nearer in
    let units = c.args.search.reach.now.units.items in
    let old = c.args.self.now in
    let lent = c.as_slice-exits.ensures.value in
    let less : old.at < length old.exits.items = omega (arith, ap length lent, c.if-self-exits.false) in
    let made = c.inputs_of-self.ensures in
    exit_begun s count nearer units old _ (get_or c.as_slice-exits.result.now old.at no_exit) c.requires.search.ready c.requires.cursor c.requires.none less (rest_is old.exits.items c.as_slice-exits.result.now old.at lent less) refl refl refl refl made.inputs made.unit made.port made.output made.all
