-- The words of the crate that clauses cite, from one place.
pub use Rattle.dn_words.specs.Split.{parts_found, words_apart, split_view, program}
pub use Rattle.dn_words.specs.Words.{HasAgents, agents_of, is_plain_word, task_of, task_of_parts, task_of_word}
