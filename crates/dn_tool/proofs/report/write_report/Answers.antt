-- The parts of the text one after the other, or a stop in one of them.
use Rattle.std.proofs.Common.{rules, ◌∙◌, ◌++◌, sym, subst, refl, map, List, ℕ}
use Rattle.std.specs.List.{flat_map}
use Rattle.std.proofs.lemmas.List.Folds.{flat_map-map}
use Rattle.dn_base.specs.Outside.{Added}
use Rattle.dn_audit.specs.declared.report.Seen.{Seen}
use Rattle.dn_audit.specs.declared.report.Shared.{Shared}
use Rattle.dn_audit.specs.declared.report.Shut.{Shut}
use Rattle.dn_audit.specs.Text.{audit_heading, seen_text, shared_text, shut_text}
use Rattle.dn_audit.specs.Told.{report_told, seen_told, shared_told}
use Rattle.dn_script.specs.Halt.{Writes}
use Rattle.dn_script.proofs.Written.{stopped_first, then_written}
use Rattle.dn_tool.proofs.report.write_report.Given.{Over}
use Rattle.dn_tool.proofs.report.write_report.Goals.{In_ok-write_output, In_ok-write_views}
use Rattle.dn_tool.proofs.report.write_report.Goals as goal

-- the heading was written, and then the views
headed : (g : Over) (c : In_ok-write_output g) → Added (g.K.Sink.written c.args.sink.now) (g.K.Sink.written c.write_output.new.sink) (audit_heading (report_told c.args.report.now))
headed g c = subst (λ (l : List ℕ). Added (g.K.Sink.written c.args.sink.now) (g.K.Sink.written c.write_output.new.sink) l) (c.as_bytes.ensures.value ∙ c.in_ok-heading.ensures) (c.in_ok-write_output.ensures.written.whole refl)

viewed : (g : Over) (c : In_ok-write_views g) → Added (g.K.Sink.written c.write_output.new.sink) (g.K.Sink.written c.write_views.new.sink) (flat_map (seen_text c.args.net.now) (map seen_told c.args.report.now.views))
viewed g c = subst (λ (vs : List Seen). Added (g.K.Sink.written c.write_output.new.sink) (g.K.Sink.written c.write_views.new.sink) (flat_map (seen_text c.args.net.now) (map seen_told vs))) c.as_slice.ensures (c.in_ok-write_views.ensures.written.whole refl)

pub returns-in_err-write_output-clause-written : goal.returns-in_err-write_output-clause-written
returns-in_err-write_output-clause-written g c =
    let net = c.args.net.now in
    let r = c.args.report.now in
    let later = flat_map (seen_text net) (map seen_told r.views) ++ (flat_map (shut_text net) r.shut ++ flat_map (shared_text net) (map shared_told r.shared)) in
    let written : Writes c.write_output.result (g.K.Sink.written c.args.sink.now) (g.K.Sink.written c.write_output.new.sink) (audit_heading (report_told r)) = subst (λ (l : List ℕ). Writes c.write_output.result (g.K.Sink.written c.args.sink.now) (g.K.Sink.written c.write_output.new.sink) l) (c.as_bytes.ensures.value ∙ c.in_ok-heading.ensures) c.write_output.ensures.written in
    stopped_first c.from_residual-in_err-write_output.result c.write_output.result _ _ (audit_heading (report_told r)) later (search rules) (search rules) (search rules) written

pub returns-in_err-write_views-clause-written : goal.returns-in_err-write_views-clause-written
returns-in_err-write_views-clause-written g c =
    let net = c.args.net.now in
    let r = c.args.report.now in
    let views = flat_map (seen_text net) (map seen_told r.views) in
    let later = flat_map (shut_text net) r.shut ++ flat_map (shared_text net) (map shared_told r.shared) in
    let written : Writes c.write_views.result (g.K.Sink.written c.write_output.new.sink) (g.K.Sink.written c.write_views.new.sink) views = subst (λ (vs : List Seen). Writes c.write_views.result (g.K.Sink.written c.write_output.new.sink) (g.K.Sink.written c.write_views.new.sink) (flat_map (seen_text net) (map seen_told vs))) c.as_slice.ensures c.write_views.ensures.written in
    then_written _ _ _ _ _ (audit_heading (report_told r)) (views ++ later) (headed g (goal.at.returns-in_err-write_views-clause-written g c).In_ok-write_output)
    (stopped_first c.from_residual-in_err-write_views.result c.write_views.result _ _ views later (search rules) (search rules) (search rules) written)

pub returns-in_err-write_lines-clause-written : goal.returns-in_err-write_lines-clause-written
returns-in_err-write_lines-clause-written g c =
    let net = c.args.net.now in
    let r = c.args.report.now in
    let views = flat_map (seen_text net) (map seen_told r.views) in
    let shut = flat_map (shut_text net) r.shut in
    let later = flat_map (shared_text net) (map shared_told r.shared) in
    let at = goal.at.returns-in_err-write_lines-clause-written g c in
    let written : Writes c.write_lines.result (g.K.Sink.written c.write_views.new.sink) (g.K.Sink.written c.write_lines.new.sink) shut = subst (λ (l : List Shut). Writes c.write_lines.result (g.K.Sink.written c.write_views.new.sink) (g.K.Sink.written c.write_lines.new.sink) (flat_map (shut_text net) l)) c.as_slice-2.ensures c.write_lines.ensures.written in
    then_written _ _ _ _ _ (audit_heading (report_told r)) (views ++ (shut ++ later)) (headed g at.In_ok-write_output)
    (then_written _ _ _ _ _ views (shut ++ later) (viewed g at.In_ok-write_views)
    (stopped_first c.from_residual-in_err-write_lines.result c.write_lines.result _ _ shut later (search rules) (search rules) (search rules) written))

pub returns-clause-written : goal.returns-clause-written
returns-clause-written g c =
    let net = c.args.net.now in
    let r = c.args.report.now in
    let views = flat_map (seen_text net) (map seen_told r.views) in
    let shut = flat_map (shut_text net) r.shut in
    let shared = flat_map (shared_text net) (map shared_told r.shared) in
    let at = goal.at.returns-clause-written g c in
    let added : Added (g.K.Sink.written c.write_views.new.sink) (g.K.Sink.written c.write_lines.new.sink) shut = subst (λ (l : List Shut). Added (g.K.Sink.written c.write_views.new.sink) (g.K.Sink.written c.write_lines.new.sink) (flat_map (shut_text net) l)) c.as_slice-2.ensures (c.in_ok-write_lines.ensures.written.whole refl) in
    let lines : Writes c.write_lines-2.result (g.K.Sink.written c.write_lines.new.sink) (g.K.Sink.written c.write_lines-2.new.sink) (flat_map (λ (s : Shared). shared_text net (shared_told s)) r.shared) = subst (λ (l : List Shared). Writes c.write_lines-2.result (g.K.Sink.written c.write_lines.new.sink) (g.K.Sink.written c.write_lines-2.new.sink) (flat_map (λ (s : Shared). shared_text net (shared_told s)) l)) c.as_slice-3.ensures c.write_lines-2.ensures.written in
    let written : Writes c.write_lines-2.result (g.K.Sink.written c.write_lines.new.sink) (g.K.Sink.written c.write_lines-2.new.sink) shared = subst (λ (l : List ℕ). Writes c.write_lines-2.result (g.K.Sink.written c.write_lines.new.sink) (g.K.Sink.written c.write_lines-2.new.sink) l) (sym (flat_map-map (shared_text net) shared_told r.shared)) lines in
    then_written _ _ _ _ _ (audit_heading (report_told r)) (views ++ (shut ++ shared)) (headed g at.In_ok-write_output)
    (then_written _ _ _ _ _ views (shut ++ shared) (viewed g at.In_ok-write_views)
    (then_written _ _ _ _ _ shut shared added written))
