-- The words of the crate that clauses cite, from one place.
pub use Rattle.dn_token.specs.Ahead.{ahead, first_and_rest, how_many, is_good}
pub use Rattle.dn_token.specs.Cursor.{cursor_view}
pub use Rattle.dn_token.specs.Faults.{token_fault_view}
pub use Rattle.dn_token.specs.Going.{TokensGoOn, tokens_of}
pub use Rattle.dn_token.specs.Lexing.{base_of, begins_comment, begins_hexadecimal, class_of, front_of, keyword_among, lexeme_view, of_length, reserved_word, sign_front_of, token_view, value_of}
pub use Rattle.dn_token.specs.Token.{after_comment, after_run, bad, decimal_value, digits_number, hex_value, is_blank, is_digit, is_letter, is_word_byte, number_of, number_within, reserved_words, sign_of, spelled_from, taken, tokens, with_digit, word_lexeme, word_run}
pub use Rattle.dn_token.specs.Words.{spelling}
