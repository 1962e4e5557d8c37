-- A run that ended before there was an answer.
use Rattle.std.proofs.Common.{◌≡◌, ◌≢◌, ◌∙◌, ◌==◌, sym, subst, cond, refl, arith, Bool, true, false, not, ◌⊎◌, inl, inr, List, [], ◌∷◌, Option, Some, None, Ok, Err, is_ok, Result, ℕ, eq-eqb}
use Rattle.std.specs.List.{All}
use Rattle.std.specs.Option.{IfSome}
use Rattle.dn_base.specs.declared.device.DeviceOrMemory.{DeviceOrMemory}
use Rattle.dn_base.specs.declared.device.TableEvent.{TableEvent}
use Rattle.dn_base.specs.declared.device.UnitWords.{UnitWords}
use Rattle.dn_base.specs.Device.{UnitSize, is_device_fault, sizes_of}
use Rattle.dn_base.specs.Outside.{IsWritten}
use Rattle.dn_base.proofs.Booleans.{true≢false}
use Rattle.dn_base.proofs.Logs.{Logged-none}
use Rattle.dn_base.proofs.Told.{Added-none, if_some_then, written_none}
use Rattle.dn_net.specs.declared.node.NodeDecl.{NodeDecl}
use Rattle.dn_kind.specs.Kind.{IsLawful, Meaning}
use Rattle.dn_kind.specs.Units.{IsLegalWith}
use Rattle.dn_tables.specs.Set.{fresh_set, tables_of_set}
use Rattle.dn_tables.specs.Writes.{AreUnitsMade}
use Rattle.dn_module.specs.Expand.{Expansion}
use Rattle.dn_module.specs.declared.command.Command.{Command}
use Rattle.dn_words.specs.declared.words.Task.{Task}
use Rattle.dn_words.specs.declared.words.Task.TheVariants.{Run, Check, Audit, Demo}
use Rattle.dn_words.specs.Words.{task_of}
use Rattle.dn_tool.specs.Answer.{Answer, IsAnswered, IsRunAnswered, answer, asked_answer, bytes_answer, commands_answer, compiled_answer, played, said, shown, task_answer, task_bytes, text_answer, too_long_line}
use Rattle.dn_tool.specs.Compiled.{Compilation, compilation, with_refusal}
use Rattle.dn_script.specs.declared.halt.RunHalt.{RunHalt}
use Rattle.dn_script.specs.Halt.{ending_status, is_free_status, make_halt}
use Rattle.dn_tool.specs.Input.{Parts, is_too_long, parts_of}
use Rattle.dn_script.specs.Played.{IsPlayed}
use Rattle.dn_tool.proofs.Demos.{shown_unmade}
use Rattle.dn_tool.proofs.Inputs.{is_shown, told_is, told_or}
use Rattle.dn_script.proofs.Kept.{IsLawfulNet}
use Rattle.dn_script.proofs.Played.{unmade_by}
use Rattle.dn_tool.proofs.Reread.{compiled_is_legal}
use Rattle.dn_script.proofs.Scripts.{added_given}

-- a device has no unit
pub record HasNoUnit (sizes : List UnitSize) (told : Option (List UnitWords)) : Type 0 where
  pub units : sizes ≡ []
  pub sized : IfSome told (λ ts. sizes_of ts ≡ sizes)

-- and no words, where it tells them
no_words : {sizes : List UnitSize} {told : Option (List UnitWords)} → HasNoUnit sizes told → IfSome told (λ ts. ts ≡ [])
no_words {sizes} {told} none = by told none.sized
  where
    by : (o : Option (List UnitWords)) → IfSome o (λ ts. sizes_of ts ≡ sizes) → IfSome o (λ ts. ts ≡ [])
    by None e = tt
    by (Some []) e = refl
    by (Some (t ∷ ts)) e = let f : sizes_of (t ∷ ts) ≡ [] = e ∙ none.units in absurd (cc)

-- nothing of a script was done
unplayed : (kinds : List Meaning) (net : List NodeDecl) (commands : List Command) (status : ℕ) (b d : Option (List ℕ)) (log log' : Option (List TableEvent)) (sizes : List UnitSize) (told' : Option (List UnitWords)) → All IsLawful kinds → IsLegalWith kinds net → is_free_status status ≡ true → (status == 3) ≡ false → (status == 6) ≡ false → d ≡ b → log' ≡ log → HasNoUnit sizes told' → IsPlayed kinds net commands status b d log log' sizes told'
unplayed kinds net commands status b d log log' sizes told' lawful legal free not_sink not_device same unlogged none = record {
  turns = [];
  few = omega arith;
  happened = refl;
  came = record {
    whole = 0;
    events = 0;
    bytes = 0;
    logged = Logged-none log log' unlogged;
    written = Added-none b d same;
    last = omega arith;
    in_order = λ _. refl;
    done = λ e. absurd (going e);
    sink = λ e. absurd (sink e);
    device = λ e. absurd (device e);
    between = λ l _. absurd (omega (arith, l));
  };
  exact = λ e. (let f : true ≡ false = sym free ∙ e in cc);
  all = λ e. absurd (going e);
  made = record { all = λ l. absurd (omega (arith, l)); first = λ _. none.units; unwritten = λ _. no_words none };
  tables = λ _ l. absurd (omega (arith, l));
  books = λ count l. absurd (omega (arith, l));
  stopped = λ six _ _. absurd (device six);
  flown = added_given kinds net [] [] lawful legal refl 0 0;
}
  where
    going : status ≢ 0
    going e = let f : is_free_status 0 ≡ true = subst (λ n. is_free_status n ≡ true) e free in cc

    sink : status ≢ 3
    sink e = let f : true ≡ false = subst (λ n. (n == 3) ≡ false) e not_sink in cc

    device : status ≢ 6
    device e = let f : true ≡ false = subst (λ n. (n == 6) ≡ false) e not_device in cc

-- the same, as a device that makes its first units had it
sized_none : (sizes : List UnitSize) (told : Option (List UnitWords)) → HasNoUnit sizes told → IfSome told (λ ts. sizes_of ts ≡ [])
sized_none sizes told none = if_some_then told (λ ts. sizes_of ts ≡ sizes) (λ ts. sizes_of ts ≡ []) (λ ts e. e ∙ none.units) none.sized

-- the net of a script is legal with its kinds
abbrev pub IsLegalScript : List Meaning → Answer → Type 0
IsLegalScript kinds (said own output) = Unit {0}
IsLegalScript kinds (played net commands) = IsLegalWith kinds net
IsLegalScript kinds (shown agents net commands) = IsLegalWith kinds net

-- so it is where a script is the answer to a text
pub text_legal : (task : Task) (kinds : List Meaning) (parts : Parts) → IsLegalScript kinds (text_answer task kinds parts)
text_legal task kinds parts = by (compilation kinds parts.text) refl
  where
    of_task : (task : Task) (o : Expansion) → IsLegalWith kinds o.net → IsLegalScript kinds (task_answer task kinds parts.image o.net o.commands)
    of_task Run o legal = legal
    of_task Check o legal = tt
    of_task Audit o legal = tt
    of_task (Demo agents) o legal = legal

    by : (r : Compilation) → compilation kinds parts.text ≡ r → IsLegalScript kinds (compiled_answer task kinds parts.image (with_refusal r))
    by (Ok o) e = of_task task o (compiled_is_legal kinds parts.text o e).legal
    by (Err broken) e = tt

-- and to the bytes that a task is about
pub bytes_legal : (task : Task) (kinds : List Meaning) (bytes : List ℕ) → IsLegalScript kinds (bytes_answer task kinds bytes)
bytes_legal task kinds bytes = by (is_too_long task bytes)
  where
    by : (b : Bool) → IsLegalScript kinds (cond b (said 4 too_long_line) (text_answer task kinds (parts_of task bytes)))
    by true = tt
    by false = text_legal task kinds (parts_of task bytes)

pub answer_legal : (words : List (List ℕ)) (kinds : List Meaning) (bytes : List ℕ) → IsLegalScript kinds (answer words kinds bytes)
answer_legal words kinds bytes = by (task_of words)
  where
    by : (asked : Option Task) → IsLegalScript kinds (asked_answer asked kinds bytes)
    by None = tt
    by (Some task) = bytes_legal task kinds (task_bytes task bytes)

-- nothing was done and nothing written, and the device has no unit; a demonstration ends so only for want of memory
pub unanswered : (kinds : List Meaning) (a : Answer) (status : ℕ) (b d : Option (List ℕ)) (log log' : Option (List TableEvent)) (sizes : List UnitSize) (told' : Option (List UnitWords)) → All IsLawful kinds → IsLegalScript kinds a → is_free_status status ≡ true → (status == 3) ≡ false → (status == 6) ≡ false → (is_shown a ≡ true → status ≡ 7) → d ≡ b → log' ≡ log → HasNoUnit sizes told' → IsAnswered kinds a status b d log log' sizes told'
unanswered kinds (said own output) status b d log log' sizes told' lawful legal free not_sink not_device only same unlogged none = record {
  exact = λ e. cc;
  written = subst (λ (w : Bool). IsWritten b d (not (is_free_status status)) w output) (sym not_sink) (subst (λ (f : Bool). IsWritten b d (not f) false output) (sym free) (written_none b d output same));
  no_device = λ e. true≢false (sym (eq-eqb status 6 e) ∙ not_device);
}
unanswered kinds (played net commands) status b d log log' sizes told' lawful legal free not_sink not_device only same unlogged none = unplayed kinds net commands status b d log log' sizes told' lawful legal free not_sink not_device same unlogged none
unanswered kinds (shown agents net commands) status b d log log' sizes told' lawful legal free not_sink not_device only same unlogged none = inr (record {
  played = unplayed kinds net commands status None None log log' sizes told' lawful legal free not_sink not_device refl unlogged none;
  why = inr (only refl);
  unwritten = same;
})

-- not all units were made, on a device that had none
pub unmade_answer : {X : Type 0} (kinds : List Meaning) (net : List NodeDecl) (agents : Option ℕ) (commands : List Command) (r : Result X DeviceOrMemory) (fault : DeviceOrMemory) (ended : Result ℕ RunHalt) (told : Option (List ℕ)) (log log' : Option (List TableEvent)) (before sizes : List UnitSize) (words words' : Option (List UnitWords)) → IsLawfulNet kinds net → r ≡ Err fault → ended ≡ Err (make_halt fault) → HasNoUnit before words → AreUnitsMade (tables_of_set (fresh_set kinds net)) (is_ok r) (is_device_fault r) log log' sizes words words' → IsAnswered kinds (commands_answer agents net commands) (ending_status ended) told told log log' sizes words'
unmade_answer kinds net None commands r fault ended told log log' before sizes words words' known is by none made = unmade_by kinds net commands r fault ended told told log log' sizes words words' known is by refl (sized_none before words none) made
unmade_answer kinds net (Some agents) commands r fault ended told log log' before sizes words words' known is by none made = shown_unmade kinds net agents commands r fault ended told log log' sizes words words' known is by (sized_none before words none) made

-- a run that did nothing, over a device that has no unit, came to the answer to whatever the source holds
pub did_nothing : {S D : Type 0} (w : List (List ℕ)) (kinds : List Meaning) (left : S → Option (List ℕ)) (given : S → List ℕ) (source source' : S) (status : ℕ) (b : Option (List ℕ)) (units : D → List UnitSize) (words : D → Option (List UnitWords)) (log : D → Option (List TableEvent)) (d : D) → All IsLawful kinds → is_free_status status ≡ true → (status == 3) ≡ false → (status == 6) ≡ false → (status ≡ 2) ⊎ (status ≡ 7) → ((bytes : List ℕ) → is_shown (answer w kinds bytes) ≡ true → status ≡ 7) → HasNoUnit (units d) (words d) → IsRunAnswered w kinds left given source source' status b b units words log d d
did_nothing w kinds left given source source' status b units words log d lawful free not_sink not_device unread only none = record {
  bytes = told_or (left source) [];
  read = λ _. told_is (left source) [];
  gave = λ _ not_read not_memory. absurd (by unread not_read not_memory);
  answered = unanswered kinds (answer w kinds (told_or (left source) [])) status b b (log d) (log d) (units d) (words d) lawful (answer_legal w kinds (told_or (left source) [])) free not_sink not_device (only (told_or (left source) [])) refl refl none;
  untouched = λ _. refl;
}
  where
    by : (status ≡ 2) ⊎ (status ≡ 7) → (status ≢ 2) → (status ≢ 7) → ⊥
    by (inl e) not_read not_memory = not_read e
    by (inr e) not_read not_memory = not_memory e
