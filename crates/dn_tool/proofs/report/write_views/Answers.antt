-- One view more, or a stop in it.
use Rattle.std.proofs.Common.{rules, ◌≡◌, ◌<◌, ◌+◌, ◌++◌, ap, subst, refl, drop, length, map, get_or, List, ℕ, IsTrue}
use Rattle.std.specs.List.{flat_map, list_all}
use Rattle.std.proofs.Math.ListN.{drop_of_length-le}
use Rattle.std.proofs.lemmas.List.Folds.{flat_map-map}
use Rattle.dn_base.proofs.Booleans.{and_parts}
use Rattle.dn_base.proofs.Counts.{counted_none, counted_then}
use Rattle.dn_base.proofs.Lists.{drop_at}
use Rattle.dn_net.specs.declared.node.NodeDecl.{NodeDecl}
use Rattle.dn_audit.specs.declared.report.Seen.{Seen}
use Rattle.dn_audit.specs.Nodes.{is_seen_within}
use Rattle.dn_audit.specs.Text.{seen_text}
use Rattle.dn_audit.specs.Told.{seen_told}
use Rattle.dn_script.proofs.Written.{IsSoFar, begun, ended, gone_on, stopped_there}
use Rattle.dn_tool.proofs.report.write_views.Goals as goal

-- the text of the views that are left is that of the first and that of those after it
first_view : (net : List NodeDecl) (views : List Seen) (i : ℕ) (s : Seen) → i < length views → s ≡ get_or views i s → flat_map (λ v. seen_text net (seen_told v)) (drop i views) ≡ seen_text net (seen_told s) ++ flat_map (λ v. seen_text net (seen_told v)) (drop (i + 1) views)
first_view net views i s l is = ap (flat_map (λ v. seen_text net (seen_told v))) (drop_at views i s l is)

-- and the nodes of both are there
both_there : (count : ℕ) (views : List Seen) (i : ℕ) (s : Seen) → i < length views → s ≡ get_or views i s → IsTrue (list_all (is_seen_within count) (drop i views)) → IsTrue (is_seen_within count s) × IsTrue (list_all (is_seen_within count) (drop (i + 1) views))
both_there count views i s l is there = and_parts (is_seen_within count s) (list_all (is_seen_within count) (drop (i + 1) views)) (subst (λ (vs : List Seen). IsTrue (list_all (is_seen_within count) vs)) (drop_at views i s l is) there)

pub loop-seen-init : goal.loop-seen-init
loop-seen-init g c =
    let all = flat_map (seen_text c.args.net.now) (map seen_told c.args.views.now) in
    record {
      so_far = subst (λ (rest : List ℕ). IsSoFar (g.K.Sink.written c.args.sink.now) (g.K.Sink.written c.args.sink.now) rest all) (flat_map-map (seen_text c.args.net.now) seen_told c.args.views.now) (begun _ all);
      counted = counted_none _;
      there = c.requires;
    }

pub write_view-requires : goal.write_view-requires
write_view-requires g c = (both_there (length c.args.net.now) c.args.views.now c.loop-seen.seen-index c.seen-item.result c.loop-seen-test.true c.seen-item.is c.loop-seen.invariant.there).0

pub loop-seen-preserved : goal.loop-seen-preserved
loop-seen-preserved g c =
    let first = first_view c.args.net.now c.args.views.now c.loop-seen.seen-index c.seen-item.result c.loop-seen-test.true c.seen-item.is in
    record {
      so_far = gone_on _ _ _ (seen_text c.args.net.now (seen_told c.seen-item.result)) _ _ _ c.loop-seen.invariant.so_far first (c.in_ok-write_view.ensures.written.whole refl);
      counted = counted_then _ _ _ _ c.loop-seen.invariant.counted c.in_ok-write_view.ensures.halted.counted;
      there = (both_there (length c.args.net.now) c.args.views.now c.loop-seen.seen-index c.seen-item.result c.loop-seen-test.true c.seen-item.is c.loop-seen.invariant.there).1;
    }

pub returns-in_err-write_view : goal.returns-in_err-write_view
returns-in_err-write_view g c =
    let first = first_view c.args.net.now c.args.views.now c.loop-seen.seen-index c.seen-item.result c.loop-seen-test.true c.seen-item.is in
    let s = stopped_there c.from_residual.result c.write_view.result _ _ _ (seen_text c.args.net.now (seen_told c.seen-item.result)) _ _ _ _ _ _ (search rules) (search rules) (search rules) (search rules) c.loop-seen.invariant.so_far first c.write_view.ensures.written c.loop-seen.invariant.counted c.write_view.ensures.halted.counted in
    record { written = s.0; halted = s.1 }

pub returns : goal.returns
returns g c = record {
  written = ended _ _ _ _ c.loop-seen.invariant.so_far (ap (flat_map (λ v. seen_text c.args.net.now (seen_told v))) (drop_of_length-le c.args.views.now (search rules)));
  halted = record { no_device = refl; counted = c.loop-seen.invariant.counted };
}
