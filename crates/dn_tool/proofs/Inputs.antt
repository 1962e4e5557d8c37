-- The answer to what was read of the source is the answer to all its bytes.
use Rattle.std.proofs.Common.{arith, ◌≡◌, ◌∙◌, ap, sym, subst, cond, ◌<◌, ◌≤◌, ◌⊎◌, inl, inr, Bool, true, false, nat_lt, List, [], ◌++◌, length, take, Option, Some, None, Result, Ok, Err, append-nil, length-append, refl, ℕ}
use Rattle.std.specs.Option.{IfSome}
use Rattle.dn_base.specs.Outside.{Taken, AtEnd, input_limit}
use Rattle.dn_base.proofs.Lists.{take_past}
use Rattle.dn_parse.specs.Whole.{too_long}
use Rattle.dn_parse.proofs.Judge.{text_too_long}
use Rattle.dn_kind.specs.Kind.{Meaning}
use Rattle.dn_module.specs.Expand.{Expansion}
use Rattle.dn_tool.specs.Compiled.{compilation, reading_compilation, with_refusal}
use Rattle.dn_tool.specs.declared.refusal.Refusal.{Refusal}
use Rattle.dn_tool.specs.Refused.{of_text, refusal_of}
use Rattle.dn_words.specs.declared.words.Task.{Task}
use Rattle.dn_words.specs.declared.words.Task.TheVariants.{Run, Check, Audit, Demo}
use Rattle.dn_words.specs.Words.{task_of}
use Rattle.dn_tool.specs.Answer.{Answer, answer, asked_answer, bytes_answer, compiled_answer, played, reads, said, shown, some_task_reads, task_bytes, task_reads, text_answer, too_long_line}
use Rattle.dn_tool.specs.Input.{is_too_long, limit_for, parts_of}

-- a text that is longer than the limit is refused by that alone
long_refused : (kinds : List Meaning) (text : List ℕ) → 4194304 < length text → compilation kinds text ≡ Err (of_text too_long)
unfolding compilation
long_refused kinds text l = ap (reading_compilation kinds) (text_too_long text l)

-- a text that was read as far as the limit comes to what the whole comes to
same_compiled : (kinds : List Meaning) (text rest : List ℕ) → (length text < input_limit → rest ≡ []) → (length text < input_limit) ⊎ (4194304 < length text) → compilation kinds (text ++ rest) ≡ compilation kinds text
same_compiled kinds text rest end (inl l) = ap (compilation kinds) (ap (λ (r : List ℕ). text ++ r) (end l) ∙ append-nil text)
same_compiled kinds text rest end (inr l) =
    let m : 4194304 < length (text ++ rest) = simp length-append (omega (arith, l)) in
    long_refused kinds (text ++ rest) m ∙ sym (long_refused kinds text l)

-- the same, whichever it is
pub same_text : (kinds : List Meaning) (text rest : List ℕ) → (length text < input_limit → rest ≡ []) → compilation kinds (text ++ rest) ≡ compilation kinds text
same_text kinds text rest end = same_compiled kinds text rest end (grind arith)

-- each task but a demonstration reads the source
pub task_is_read : (task : Task) → ((agents : ℕ) → task ≡ Demo agents → ⊥) → task_reads task ≡ true
task_is_read Run other = refl
task_is_read Check other = refl
task_is_read Audit other = refl
task_is_read (Demo agents) other = absurd (other agents refl)

-- words that ask for such a task read the source
pub asked_reads : (w : List (List ℕ)) (task : Task) → task_of w ≡ Some task → task_reads task ≡ true → reads w ≡ true
asked_reads w task asked read = ap some_task_reads asked ∙ read

-- and it is about the bytes that are read
bytes_read : (task : Task) (bytes : List ℕ) → task_reads task ≡ true → task_bytes task bytes ≡ bytes
bytes_read Run bytes read = refl
bytes_read Check bytes read = refl
bytes_read Audit bytes read = refl
bytes_read (Demo agents) bytes read = cc

-- an audit of more bytes than it takes is refused by that alone
long_audit : (kinds : List Meaning) (bytes : List ℕ) → 67108864 < length bytes → bytes_answer Audit kinds bytes ≡ said 4 too_long_line
long_audit kinds bytes l =
    let long : nat_lt 67108864 (length bytes) ≡ true = grind arith in
    ap (λ (b : Bool). cond b (said 4 too_long_line) (text_answer Audit kinds (parts_of Audit bytes))) long

-- bytes that were read as far as the limit have the answer of the whole
same_audit : (kinds : List Meaning) (bytes rest : List ℕ) → (length bytes < 67108865 → rest ≡ []) → (length bytes < 67108865) ⊎ (67108864 < length bytes) → bytes_answer Audit kinds (bytes ++ rest) ≡ bytes_answer Audit kinds bytes
same_audit kinds bytes rest end (inl l) = ap (bytes_answer Audit kinds) (ap (λ (r : List ℕ). bytes ++ r) (end l) ∙ append-nil bytes)
same_audit kinds bytes rest end (inr l) =
    let m : 67108864 < length (bytes ++ rest) = simp length-append (omega (arith, l)) in
    long_audit kinds (bytes ++ rest) m ∙ sym (long_audit kinds bytes l)

same_answer : (task : Task) (kinds : List Meaning) (bytes rest : List ℕ) → task_reads task ≡ true → (length bytes < limit_for (Some task) → rest ≡ []) → bytes_answer task kinds (bytes ++ rest) ≡ bytes_answer task kinds bytes
same_answer Run kinds bytes rest read end = ap (λ c. compiled_answer Run kinds None (with_refusal c)) (same_text kinds bytes rest end)
same_answer Check kinds bytes rest read end = ap (λ c. compiled_answer Check kinds None (with_refusal c)) (same_text kinds bytes rest end)
same_answer Audit kinds bytes rest read end = same_audit kinds bytes rest end (grind arith)
same_answer (Demo agents) kinds bytes rest read end = cc

-- the answer to what words ask for is the answer to the words
pub asked_as : (w : List (List ℕ)) (asked : Option Task) (kinds : List Meaning) (bytes : List ℕ) → task_of w ≡ asked → asked_answer asked kinds bytes ≡ answer w kinds bytes
asked_as w asked kinds bytes e = ap (λ (o : Option Task). asked_answer o kinds bytes) (sym e)

-- what the source told, where it tells that, and else these bytes
abbrev pub told_or : Option (List ℕ) → List ℕ → List ℕ
told_or None bytes = bytes
told_or (Some told) bytes = told

pub told_is : (left : Option (List ℕ)) (bytes : List ℕ) → IfSome left (λ source. source ≡ told_or left bytes)
told_is None bytes = tt
told_is (Some told) bytes = refl

-- what was read is so much of what the source told, where it tells that
pub gave_all : (left : Option (List ℕ)) (bytes : List ℕ) (limit : ℕ) → length bytes ≤ limit → IfSome left (λ told. bytes ≡ take limit told) → bytes ≡ take limit (told_or left bytes)
gave_all None bytes limit few front = sym (take_past bytes limit few)
gave_all (Some told) bytes limit few front = front

-- what holds of the answer to what was read holds of the answer to all bytes, where the source tells them
pub input_answer : (left after : Option (List ℕ)) (w : List (List ℕ)) (task : Task) (kinds : List Meaning) (bytes : List ℕ) (P : Answer → Type 0) → task_of w ≡ Some task → task_reads task ≡ true → Taken left after bytes → (length bytes < limit_for (Some task) → AtEnd after) → P (bytes_answer task kinds bytes) → P (answer w kinds (told_or left bytes))
input_answer left after w task kinds bytes P asked read taken end p = go left after taken end
  where
    all : (text : List ℕ) → bytes_answer task kinds text ≡ answer w kinds text
    all text = ap (bytes_answer task kinds) (sym (bytes_read task text read)) ∙ asked_as w (Some task) kinds text asked

    go : (l a : Option (List ℕ)) → Taken l a bytes → (length bytes < limit_for (Some task) → AtEnd a) → P (answer w kinds (told_or l bytes))
    go None a taken end = subst P (all bytes) p
    go (Some whole) None taken end = cc
    go (Some whole) (Some rest) taken end =
        let joined : whole ≡ bytes ++ rest = cc in
        let same : bytes_answer task kinds bytes ≡ bytes_answer task kinds whole = sym (same_answer task kinds bytes rest read end) ∙ ap (bytes_answer task kinds) (sym joined) in
        subst P (same ∙ all whole) p

-- the answer is a demonstration
abbrev pub is_shown : Answer → Bool
is_shown (said status output) = false
is_shown (played net commands) = false
is_shown (shown agents net commands) = true

-- no words that read the source have such an answer
pub read_is_not_shown : (w : List (List ℕ)) (kinds : List Meaning) (text : List ℕ) → reads w ≡ true → is_shown (answer w kinds text) ≡ false
read_is_not_shown w kinds text e = by (task_of w) e
  where
    by : (o : Option Task) → some_task_reads o ≡ true → is_shown (asked_answer o kinds text) ≡ false
    by None f = refl
    by (Some Run) f = run_by (with_refusal (compilation kinds text))
      where
        run_by : (r : Result Expansion Refusal) → is_shown (compiled_answer Run kinds None r) ≡ false
        run_by (Ok o) = refl
        run_by (Err r) = refl
    by (Some Check) f = check_by (with_refusal (compilation kinds text))
      where
        check_by : (r : Result Expansion Refusal) → is_shown (compiled_answer Check kinds None r) ≡ false
        check_by (Ok o) = refl
        check_by (Err r) = refl
    by (Some Audit) f = audit_by (is_too_long Audit text) (with_refusal (compilation kinds (parts_of Audit text).text))
      where
        audit_by : (b : Bool) (r : Result Expansion Refusal) → is_shown (cond b (said 4 too_long_line) (compiled_answer Audit kinds (parts_of Audit text).image r)) ≡ false
        audit_by true r = refl
        audit_by false (Ok o) = refl
        audit_by false (Err r) = refl
    by (Some (Demo agents)) f = cc

-- a text with a net is no longer than the limit
pub legal_short : (kinds : List Meaning) (text : List ℕ) (o : Expansion) → with_refusal (compilation kinds text) ≡ Ok o → length text < input_limit
legal_short kinds text o e = short (grind arith)
  where
    short : (length text < input_limit) ⊎ (4194304 < length text) → length text < input_limit
    short (inl l) = l
    short (inr l) = let f : ◌≡◌ {A = Result Expansion Refusal} (Err (refusal_of (of_text too_long))) (Ok o) = sym (ap with_refusal (long_refused kinds text l)) ∙ e in absurd (cc)

-- bytes that are more than the task takes are refused by that alone
pub refused_long : (task : Task) (kinds : List Meaning) (bytes : List ℕ) → is_too_long task bytes ≡ true → said 4 too_long_line ≡ bytes_answer task kinds bytes
refused_long task kinds bytes e = ap (λ (b : Bool). cond b (said 4 too_long_line) (text_answer task kinds (parts_of task bytes))) (sym e)

-- and others are answered by their parts
pub answered_by_parts : (task : Task) (kinds : List Meaning) (bytes : List ℕ) → is_too_long task bytes ≡ false → text_answer task kinds (parts_of task bytes) ≡ bytes_answer task kinds bytes
answered_by_parts task kinds bytes e = ap (λ (b : Bool). cond b (said 4 too_long_line) (text_answer task kinds (parts_of task bytes))) (sym e)

-- bytes that a task takes, of which the text is no longer than the limit of texts, are below the task's limit
pub short_bytes : (task : Task) (bytes : List ℕ) → is_too_long task bytes ≡ false → length (parts_of task bytes).text < input_limit → length bytes < limit_for (Some task)
short_bytes Run bytes fits short = short
short_bytes Check bytes fits short = short
short_bytes Audit bytes fits short = not_past (length bytes) fits
  where
    not_past : (n : ℕ) → nat_lt 67108864 n ≡ false → n < 67108865
    not_past n e = grind arith
short_bytes (Demo agents) bytes fits short = short
