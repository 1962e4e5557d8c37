use Rattle.std.proofs.Common.{◌≡◌, ◌∙◌, ◌==◌, ◌++◌, [], ◌∷◌, ap, sym, refl, codes, length, rules, Some}
use Rattle.netconf_c.proofs.Opened.{few_kinds}
use Rattle.netconf_c.proofs.Ran.{on_done, ran}
use Rattle.netconf_c.proofs.run.run_with.Goals as goal

pub run-status-requires-clause-few_kinds : goal.run-status-requires-clause-few_kinds
run-status-requires-clause-few_kinds g c = few_kinds _ c.args.kinds.now.list.items c.requires.shipped

pub returns : goal.returns
returns g c =
    let memory : c.run-status.result ≡ 7 → ⊥ = search rules in
    ran _ _ _ _ _ _ c.args.text.now _ _ _ _ _ _ c.requires.shipped
    (on_done c.push.result (sym c.if-is_err.ensures.value) c.push.ensures.ok ∙ ap (λ w. w ++ codes "run" ∷ []) c.new-words.ensures)
    (ap (λ s. Some s.left) c.new-source.ensures ∙ ap Some c.in-Ok.ensures.items)
    (ap (λ s. s.written) c.new-sink.ensures)
    c.run-status.ensures.statuses c.run-status.ensures.wrong_words
    (c.run-status.ensures.read.counted.never (ap (λ s. length s.calls.failing == 0) c.new-source.ensures ∙ ap (λ xs. length xs == 0) c.new.ensures.items)).0
    (c.run-status.ensures.sink_counted.never (ap (λ s. length s.calls.failing == 0) c.new-sink.ensures ∙ ap (λ xs. length xs == 0) c.new-2.ensures.items)).0
    (c.run-status.ensures.device_counted.never refl).0
    memory c.run-status.ensures.answered
