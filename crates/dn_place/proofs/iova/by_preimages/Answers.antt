use Rattle.std.proofs.Common.{◌∙◌, length, sym, refl}
use Rattle.std.proofs.lemmas.Bool.{false≢true}
use Rattle.std.proofs.lemmas.Result.{IfOk-weaker}
use Rattle.dn_place.specs.Candidates.{IsFirstOrNone, key_of_hops, to_address}
use Rattle.dn_place.specs.Hops.{hops_view}
use Rattle.dn_place.specs.Searches.{sought}
use Rattle.dn_place.proofs.Turned.{none_asked, none_leads, only_way, way_addressed, way_asked, way_not_asked}
use Rattle.dn_place.proofs.iova.by_preimages.Goals as goal

pub way_to-requires : goal.way_to-requires
way_to-requires g c = c.requires.search.ready.some

pub returns-in_default : goal.returns-in_default
returns-in_default g c =
    let s = sought (λ k. (goal.UnitKind-dyn g k).meaning k.1) c.args.search in
    let hops = hops_view c.args.hops in
    none_leads s hops c.requires.search.ready c.requires.some (none_asked s hops c.args.search.request c.wanted_name-input.result c.args.rows.now refl c.wanted_name-input.ensures c.requires.rows c.in_default.ensures.none)

pub returns-then-not-is_at : goal.returns-then-not-is_at
returns-then-not-is_at g c =
    let s = sought (λ k. (goal.UnitKind-dyn g k).meaning k.1) c.args.search in
    let hops = hops_view c.args.hops in
    let leads = way_asked s hops c.args.search.request c.wanted_name-input.result c.in-Some.way c.args.rows.now refl c.wanted_name-input.ensures c.requires.rows c.in-Some.ensures.some in
    way_not_asked s hops c.in-Some.way c.requires.search.ready c.requires.some leads (λ at. false≢true (sym c.if-not-is_at.true ∙ c.is_at.ensures.1 at))

pub by_way-requires-clause-addressed : goal.by_way-requires-clause-addressed
by_way-requires-clause-addressed g c =
    let s = sought (λ k. (goal.UnitKind-dyn g k).meaning k.1) c.args.search in
    let hops = hops_view c.args.hops in
    let leads = way_asked s hops c.args.search.request c.wanted_name-input.result c.in-Some.way c.args.rows.now refl c.wanted_name-input.ensures c.requires.rows c.in-Some.ensures.some in
    way_addressed s hops c.in-Some.way c.requires.chosen c.requires.some (c.is_at.ensures.0 c.if-not-is_at.false) leads

pub by_way-requires-clause-way : goal.by_way-requires-clause-way
by_way-requires-clause-way g c = way_asked (sought (λ k. (goal.UnitKind-dyn g k).meaning k.1) c.args.search) (hops_view c.args.hops) c.args.search.request c.wanted_name-input.result c.in-Some.way c.args.rows.now refl c.wanted_name-input.ensures c.requires.rows c.in-Some.ensures.some

pub returns : goal.returns
returns g c =
    let s = sought (λ k. (goal.UnitKind-dyn g k).meaning k.1) c.args.search in
    let hops = hops_view c.args.hops in
    let leads = way_asked s hops c.args.search.request c.wanted_name-input.result c.in-Some.way c.args.rows.now refl c.wanted_name-input.ensures c.requires.rows c.in-Some.ensures.some in
    IfOk-weaker c.by_way.result (λ found. IsFirstOrNone s (to_address (length hops) hops c.in-Some.way.v) found) (λ found. IsFirstOrNone s (key_of_hops (length hops) hops) found)
    (λ found a. only_way s hops c.in-Some.way found c.requires.search.ready c.requires.some leads a)
    c.by_way.ensures
