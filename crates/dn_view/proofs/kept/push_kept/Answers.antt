use Rattle.std.proofs.Common.{◌≡◌, ◌∙◌, ◌<◌, ◌++◌, length, List, IsTrue, sym, subst, arith, slice_get}
use Rattle.dn_interval.specs.declared.row.Seg.{Seg}
use Rattle.dn_net.specs.Decode.{is_agent_at}
use Rattle.dn_net.proofs.Stops.{agent_there}
use Rattle.dn_kind.specs.Tables.{AreHeld, Held}
use Rattle.dn_view.specs.Courses.{course_records}
use Rattle.dn_view.specs.KeptStops.{ListKeptStops}
use Rattle.dn_view.proofs.Courses.{course_held}
use Rattle.dn_view.proofs.KeptStops.{joined_kept, own_kept, passed_kept}
use Rattle.dn_view.proofs.kept.push_kept.Goals as goal

pub node_stops-requires : goal.node_stops-requires
node_stops-requires g c =
    let is : IsTrue (is_agent_at (slice_get c.args.course.system.on.net.now c.args.node)) = sym c.is_agent.ensures ∙ c.if-not-is_agent.false in
    omega (arith, agent_there c.args.course.system.on.net.now c.args.node is, c.requires.course.system.flat.every)

pub returns : goal.returns
returns g c =
    let net = c.args.course.system.on.net.now in
    let legal = c.requires.course.system.kinded.legal.legal in
    let h : Held = course_records (λ k. (goal.UnitKind-dyn g k).meaning k.1) c.args.course in
    let held : AreHeld net h = course_held (λ k. (goal.UnitKind-dyn g k).meaning k.1) c.args.course c.requires.course in
    let flats = c.args.course.system.flats.now in
    let flat = c.requires.course.system.flat in
    let agent = c.args.agent in
    let is : IsTrue (is_agent_at (slice_get net c.args.node)) = sym c.is_agent.ensures ∙ c.if-not-is_agent.false in
    let first : List Seg = c.in_ok-first.first.items in
    let second : List Seg = c.in_ok-second.second.items in
    let third : List Seg = c.in_ok-third.third.items in
    let own : ListKeptStops net h agent first = own_kept net legal h flats flat agent c.args.node is c.if-node-agent.false (agent_there net c.args.node is) first c.in_ok-first.ensures in
    let one : ListKeptStops net h agent second = passed_kept net legal h held flats flat agent c.as_slice.result.now second c.in_ok-second.ensures (subst (λ (l : List Seg). ListKeptStops net h agent l) (sym c.as_slice.ensures.value) own) in
    let two : ListKeptStops net h agent third = passed_kept net legal h held flats flat agent c.as_slice-2.result.now third c.in_ok-third.ensures (subst (λ (l : List Seg). ListKeptStops net h agent l) (sym c.as_slice-2.ensures.value) one) in
    let more : ListKeptStops net h agent c.extend_from_slice.new.self.items = subst (λ (l : List Seg). ListKeptStops net h agent l) (sym c.in_ok-extend_from_slice.ensures.items) (joined_kept net h agent c.args.stops.now.items c.as_slice-3.result.now c.requires.listed (subst (λ (l : List Seg). ListKeptStops net h agent l) (sym c.as_slice-3.ensures.value) one)) in
    subst (λ (l : List Seg). ListKeptStops net h agent l) (sym c.in_ok-extend_from_slice-2.ensures.items) (joined_kept net h agent c.extend_from_slice.new.self.items c.as_slice-4.result.now more (subst (λ (l : List Seg). ListKeptStops net h agent l) (sym c.as_slice-4.ensures.value) two))
