use Rattle.std.proofs.Common.{◌+◌, ◌≤◌, ℕ, sym}
use Rattle.dn_base.proofs.Told.{if_some_then}
use Rattle.dn_interval.specs.declared.span.TheConstants.{TOP}
use Rattle.dn_place.specs.Rows.{InRow}
use Rattle.dn_place.proofs.Agents.{row_fits}
use Rattle.dn_place.proofs.Marked.{none_given}
use Rattle.dn_view.proofs.Ways.{one_stop}
use Rattle.dn_gather.specs.Stands.{Enters, inputs}
use Rattle.dn_gather.proofs.Entering.{entered_given, entered_row, if_none_then, row_enters}
use Rattle.dn_gather.proofs.windows.input_at.Goals as goal

pub returns-in_err-row-clause-none : goal.returns-in_err-row-clause-none
returns-in_err-row-clause-none g c =
    rw c.from_residual.ensures (λ x fits within enters. none_given c.args.ground.windows.now c.args.a (record { node = c.args.ground.unit; base = x }) (sym c.in_err-row.ensures.none)
    (entered_given c.args.ground.wanted.system.on.net.now c.args.ground.wanted.agent c.args.ground.unit (inputs c.args.ground.translator.now) c.args.a c.args.size x c.args.ground.windows.now c.requires.ground.windows c.requires.some fits within enters))

pub returns-clause-some : goal.returns-clause-some
returns-clause-some g c =
    let gr = c.args.ground in
    if_some_then c.input_in.result (λ x. InRow c.in_ok-row.row.now (record { node = gr.unit; base = x }) c.args.size c.args.a) (λ x. Enters gr.wanted.system.on.net.now gr.wanted.agent c.args.a c.args.size gr.unit x)
    (λ x i. row_enters gr.wanted.system.on.net.now gr.wanted.agent gr.unit (inputs gr.translator.now) c.args.a c.args.size x gr.windows.now c.in_ok-row.row.now c.requires.ground.windows c.in_ok-row.ensures.found.0 i) c.input_in.ensures.some

pub returns-clause-fits : goal.returns-clause-fits
returns-clause-fits g c =
    if_some_then c.input_in.result (λ x. InRow c.in_ok-row.row.now (record { node = c.args.ground.unit; base = x }) c.args.size c.args.a) (λ x. c.args.a + c.args.size ≤ TOP + 1)
    (λ x i. row_fits c.in_ok-row.row.now (record { node = c.args.ground.unit; base = x }) c.args.size c.args.a i) c.input_in.ensures.some

pub returns-clause-none : goal.returns-clause-none
returns-clause-none g c =
    let gr = c.args.ground in
    let net = gr.wanted.system.on.net.now in
    if_none_then c.input_in.result ((x : ℕ) → InRow c.in_ok-row.row.now (record { node = gr.unit; base = x }) c.args.size c.args.a → ⊥) ((x : ℕ) → c.args.a + c.args.size ≤ TOP + 1 → x + c.args.size ≤ inputs gr.translator.now → Enters net gr.wanted.agent c.args.a c.args.size gr.unit x → ⊥)
    (λ none x fits within enters. none x (entered_row net gr.wanted.agent gr.unit (inputs gr.translator.now) c.args.a c.args.size x gr.windows.now c.in_ok-row.row.now (one_stop net c.requires.ground.wanted.system.kinded.legal.legal) c.requires.ground.windows c.in_ok-row.ensures.found.0 c.in_ok-row.ensures.found.1 c.requires.some fits within enters)) c.input_in.ensures.none
