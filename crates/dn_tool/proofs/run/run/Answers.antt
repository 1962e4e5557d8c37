use Rattle.std.proofs.Common.{rules, ◌≡◌, ◌∙◌, ◌<◌, ◌++◌, ap, sym, subst, ℕ, length, take, List, Option, Some, inl, inr, true, false, true≢false, refl}
use Rattle.dn_base.specs.Outside.{AtEnd}
use Rattle.dn_kind.specs.Kind.{Meaning}
use Rattle.dn_kind.specs.Kinded.{kinds_of}
use Rattle.dn_tables.proofs.Slots.{all_of_map}
use Rattle.dn_words.specs.declared.words.Task.{Task}
use Rattle.dn_words.specs.Words.{task_of}
use Rattle.dn_tool.specs.Answer.{Answer, IsAnswered, answer, bytes_answer, is_script, task_reads}
use Rattle.dn_script.specs.Halt.{ending_status}
use Rattle.dn_tool.specs.Input.{limit_for}
use Rattle.dn_tool.proofs.Inputs.{asked_reads, gave_all, input_answer, read_is_not_shown, task_is_read, told_is, told_or}
use Rattle.dn_tool.proofs.Unanswered.{did_nothing}
use Rattle.dn_tool.proofs.run.run.Given.{Over}
use Rattle.dn_tool.proofs.run.run.Goals.{In-Ok}
use Rattle.dn_tool.proofs.run.run.Goals as goal

-- what holds of the answer to what was read holds of the answer to all bytes, where the source tells them
whole : (g : Over) (c : In-Ok g) (P : Answer → Type 0) → P (bytes_answer c.in-Ok-Some.task (kinds_of (λ k. (goal.UnitKind-dyn g k).meaning k.1) c.args.kinds.now) c.in-Ok.bytes.items) → P (answer c.args.words.now (kinds_of (λ k. (goal.UnitKind-dyn g k).meaning k.1) c.args.kinds.now) (told_or (g.S.Source.left c.args.source.now) c.in-Ok.bytes.items))
whole g c P told =
    let kinds : List Meaning = kinds_of (λ k. (goal.UnitKind-dyn g k).meaning k.1) c.args.kinds.now in
    let task = c.in-Ok-Some.task in
    let asked : task_of c.args.words.now ≡ Some task = sym c.in-Ok-Some.ensures.task ∙ c.in-Ok-Some.field-0-is in
    let read : task_reads task ≡ true = task_is_read task c.in_default.not-Demo in
    let end : length c.in-Ok.bytes.items < limit_for (Some task) → AtEnd (g.S.Source.left c.read_input.new.source) = λ h. c.in-Ok.ensures.end (search rules) in
    input_answer (g.S.Source.left c.args.source.now) (g.S.Source.left c.read_input.new.source) c.args.words.now task kinds c.in-Ok.bytes.items P asked read c.in-Ok.ensures.taken end told

pub returns-in-Err-clause-answered : goal.returns-in-Err-clause-answered
returns-in-Err-clause-answered g c = did_nothing c.args.words.now _ g.S.Source.left g.S.Source.given _ _ 7 _ g.D.Tables.units g.D.Tables.words g.D.Tables.log _ (all_of_map _ c.args.kinds.now.list.items c.requires.kinds.lawful) refl refl refl (inr refl) (λ _ _. refl) (record { units = c.requires.none; sized = g.met.D.Tables.sized c.args.device.now })

pub returns-in-Err-Failed-clause-answered : goal.returns-in-Err-Failed-clause-answered
returns-in-Err-Failed-clause-answered g c =
    let asked : task_of c.args.words.now ≡ Some c.in-Ok-Some.task = sym c.in-Ok-Some.ensures.task ∙ c.in-Ok-Some.field-0-is in
    let read = asked_reads c.args.words.now c.in-Ok-Some.task asked (task_is_read c.in-Ok-Some.task c.in_default.not-Demo) in
    did_nothing c.args.words.now _ g.S.Source.left g.S.Source.given _ _ 2 _ g.D.Tables.units g.D.Tables.words g.D.Tables.log _ (all_of_map _ c.args.kinds.now.list.items c.requires.kinds.lawful) refl refl refl (inl refl) (λ bytes e. absurd (true≢false (sym e ∙ read_is_not_shown c.args.words.now _ bytes read))) (record { units = c.requires.none; sized = g.met.D.Tables.sized c.args.device.now })

pub returns-in-Err-OutOfMemory-clause-answered : goal.returns-in-Err-OutOfMemory-clause-answered
returns-in-Err-OutOfMemory-clause-answered g c = did_nothing c.args.words.now _ g.S.Source.left g.S.Source.given _ _ 7 _ g.D.Tables.units g.D.Tables.words g.D.Tables.log _ (all_of_map _ c.args.kinds.now.list.items c.requires.kinds.lawful) refl refl refl (inr refl) (λ _ _. refl) (record { units = c.requires.none; sized = g.met.D.Tables.sized c.args.device.now })

pub returns-clause-answered : goal.returns-clause-answered
returns-clause-answered g c =
    let kinds : List Meaning = kinds_of (λ k. (goal.UnitKind-dyn g k).meaning k.1) c.args.kinds.now in
    let left = g.S.Source.left c.args.source.now in
    let P : ℕ → Answer → Type 0 = λ status a. IsAnswered kinds a status (g.K.Sink.written c.args.sink.now) (g.K.Sink.written c.answer_bytes.new.sink) (g.D.Tables.log c.args.device.now) (g.D.Tables.log c.answer_bytes.new.device) (g.D.Tables.units c.answer_bytes.new.device) (g.D.Tables.words c.answer_bytes.new.device) in
    let Q : Answer → Type 0 = λ a. is_script a ≡ false → c.answer_bytes.new.device ≡ c.args.device.now in
    let told : P (ending_status c.answer_bytes.result) (bytes_answer c.in-Ok-Some.task kinds c.in-Ok.bytes.items) = rw (← c.deref.ensures.value) c.answer_bytes.ensures.answered in
    let asked : task_of c.args.words.now ≡ Some c.in-Ok-Some.task = sym c.in-Ok-Some.ensures.task ∙ c.in-Ok-Some.field-0-is in
    let here : In-Ok g = (goal.at.returns-clause-answered g c).In-Ok in
    record {
      bytes = told_or left c.in-Ok.bytes.items;
      read = λ _. told_is left c.in-Ok.bytes.items;
      gave = λ _ _ _. c.in-Ok.ensures.given ∙ ap (λ (l : List ℕ). g.S.Source.given c.args.source.now ++ l) (gave_all left c.in-Ok.bytes.items (limit_for (Some c.in-Ok-Some.task)) (search rules) c.in-Ok.ensures.front ∙ ap (λ (o : Option Task). take (limit_for o) (told_or left c.in-Ok.bytes.items)) (sym asked));
      answered = whole g here (P c.status_of-2.result) (subst (λ (n : ℕ). P n (bytes_answer c.in-Ok-Some.task kinds c.in-Ok.bytes.items)) (sym c.status_of-2.ensures) told);
      untouched = whole g here Q (rw (← c.deref.ensures.value) c.answer_bytes.ensures.untouched);
    }
