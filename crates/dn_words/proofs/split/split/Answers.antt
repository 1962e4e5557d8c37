use Rattle.std.proofs.Common.{◌≡◌, ◌∙◌, ap, sym, map, true, List, inl, inr, ℕ, subst, []}
use Rattle.std.specs.String.{string_bytes}
use Rattle.std.specs.List.{list_all}
use Rattle.std.proofs.lemmas.List.Folds.{list_all-map}
use Rattle.clap.specs.Words.{App, app_of, found_of, matches_of, rows_of}
use Rattle.clap.specs.Faults.{fault_of, is_simple_and_free}
use Rattle.clap.specs.Kinds.{IsAmong}
use Rattle.clap.specs.Simple.{is_simple}
use Rattle.dn_words.specs.Split.{program}
use Rattle.dn_words.specs.Words.{is_plain_word}
use Rattle.dn_words.proofs.CommandLine.{found_parts, no_parts, program_is_simple}
use Rattle.dn_words.proofs.split.split.Goals as goal

pub returns-in-Ok : goal.returns-in-Ok
returns-in-Ok c =
    let ws : List (List ℕ) = map (λ s. string_bytes s) c.args.words.now in
    let plain : list_all is_plain_word ws ≡ true = list_all-map is_plain_word (λ s. string_bytes s) c.args.words.now ∙ c.requires in
    let app_is : app_of c.in_ok-program.field-0 ≡ program = c.in_ok-program.ensures in
    let simple : is_simple (app_of c.in_ok-program.field-0) ≡ true = ap is_simple app_is in
    let none : fault_of program ws ≡ [] = sym (ap (λ (a : App). fault_of a ws) app_is) ∙ c.in-Ok.ensures.kinds (ap is_simple_and_free app_is ∙ program_is_simple) in
    let found : rows_of (found_of c.in-Ok.matches) ≡ matches_of program ws = (c.in-Ok.ensures.matches simple).0 ∙ ap (λ (a : App). matches_of a ws) app_is in
    c.parts_found.ensures ∙ found_parts ws plain none (found_of c.in-Ok.matches) found

pub returns : goal.returns
returns c =
    let ws : List (List ℕ) = map (λ s. string_bytes s) c.args.words.now in
    let plain : list_all is_plain_word ws ≡ true = list_all-map is_plain_word (λ s. string_bytes s) c.args.words.now ∙ c.requires in
    let app_is : app_of c.in_ok-program.field-0 ≡ program = c.in_ok-program.ensures in
    elim (c.in-Err.ensures.kinds (ap is_simple_and_free app_is ∙ program_is_simple)) [
      | inl memory ↦ absurd (c.in_default.not-OutOfMemory (c.kind.ensures ∙ memory))
      | inr among ↦ no_parts ws plain _ (subst (IsAmong _) (ap (λ (a : App). fault_of a ws) app_is) among)
    ]
