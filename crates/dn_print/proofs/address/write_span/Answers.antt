-- The addresses with their marks are text.
use Rattle.std.proofs.Common.{◌≡◌, ◌-◌, ◌++◌, codes, arith, drop, take_all, replicate, length-drop}
use Rattle.std.proofs.lemmas.Str.{IsUtf8-from_ascii}
use Rattle.dn_print.specs.Terms.{address_text}
use Rattle.dn_print.proofs.Digits.{span_ascii, span_text}
use Rattle.dn_print.proofs.address.write_span.Goals as goal

pub from_utf8_unchecked-requires : goal.from_utf8_unchecked-requires
from_utf8_unchecked-requires c =
    let w = c.encode-start in
    let text : drop w.result w.new.room ≡ address_text c.args.lo ++ (codes "-" ++ (address_text c.args.hi ++ codes " ")) = span_text (replicate 134 0) c.encode-second.new.room w.new.room c.encode-second.result w.result c.args.lo c.args.hi c.encode-second.ensures.text w.ensures.text (omega arith) (omega arith) (omega arith) (omega arith) in
    IsUtf8-from_ascii _ (rw (take_all (134 - w.result) (drop w.result w.new.room) (omega (arith, length-drop w.result w.new.room)), text) (span_ascii c.args.lo c.args.hi))
