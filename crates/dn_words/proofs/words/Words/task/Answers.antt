use Rattle.std.proofs.Common.{◌≡◌, ◌∙◌, ap, sym, map, List, ℕ, false, String, Global}
use Rattle.std.specs.List.{list_all}
use Rattle.std.specs.String.{string_bytes}
use Rattle.std.proofs.lemmas.List.Folds.{list_all-map}
use Rattle.dn_words.specs.Words.{is_plain_word}
use Rattle.dn_words.proofs.Dashed.{dashed_asks_none}
use Rattle.dn_words.proofs.words.Words.task.Goals as goal

pub returns-then-not-are_plain-clause-task : goal.returns-then-not-are_plain-clause-task
returns-then-not-are_plain-clause-task c =
    let ws : List (List ℕ) = map (λ s. string_bytes s) c.self.inside.list.items in
    let dashed : list_all is_plain_word ws ≡ false = list_all-map is_plain_word (λ s. string_bytes s) c.self.inside.list.items ∙ ap (λ (l : List (String Global)). list_all (λ s. is_plain_word (string_bytes s)) l) (sym c.as_slice-words.ensures.value) ∙ sym c.if-not-are_plain.ensures in
    rw (← c.self.view_is) (dashed_asks_none ws dashed)
