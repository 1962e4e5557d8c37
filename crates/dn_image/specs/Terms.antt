-- The words of the crate that clauses cite, from one place.
pub use Rattle.dn_image.specs.Bytes.{BytesOfNumber, word_bytes, words_spelled}
pub use Rattle.dn_image.specs.Image.{ImageWords, IsImageOf, are_filled, count_unit, head_of, image, image_mark, unit_bytes, unit_count, width_of, word_count, written_version}
pub use Rattle.dn_image.specs.Laws.{ImageIsRead, ReadIsImage}
pub use Rattle.dn_image.specs.Reading.{PassesFields, broken_image, header_fields, image_fault_view, image_reading, image_words, node_size, node_words, nodes_size, reading_by, unit_fields, units_fields, version_of}
