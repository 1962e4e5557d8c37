-- The words of the crate that clauses cite, from one place.
pub use Rattle.dn_radix.specs.Built.{IsTreeOf, built, radix_fault_view}
pub use Rattle.dn_radix.specs.Found.{AreOfPage, found, is_bad, word_in_bytes, word_of_page}
pub use Rattle.dn_radix.specs.Laws.{LevelIsLeast, OneListOfTree, TreeIsWalked, WordsAreFound}
pub use Rattle.dn_radix.specs.Tree.{AreMarks, entries, are_all_zero, level_of, page_count, pages_of, pieces, room, tree, tree_bytes, joined_bytes}
pub use Rattle.dn_radix.specs.Walked.{bad_view, walked, walked_words}
