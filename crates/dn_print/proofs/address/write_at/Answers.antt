-- The address with its mark is text.
use Rattle.std.proofs.Common.{◌≡◌, ◌-◌, ◌++◌, codes, arith, drop, set, take_all, replicate, length-drop, length-set}
use Rattle.std.proofs.lemmas.Str.{IsUtf8-from_ascii}
use Rattle.dn_print.specs.Terms.{address_text}
use Rattle.dn_print.proofs.Digits.{at_ascii, at_text}
use Rattle.dn_print.proofs.address.write_at.Goals as goal

pub from_utf8_unchecked-requires : goal.from_utf8_unchecked-requires
from_utf8_unchecked-requires c =
    let w = c.encode-first in
    let room = set w.new.room (w.result - 1) 64 in
    let text : drop (w.result - 1) room ≡ codes "@" ++ address_text c.args.addr = at_text (replicate 134 0) w.new.room w.result c.args.addr w.ensures.text (omega arith) (omega arith) (omega arith) in
    IsUtf8-from_ascii _ (rw (take_all (134 - (w.result - 1)) (drop (w.result - 1) room) (omega (arith, length-drop (w.result - 1) room, length-set w.new.room (w.result - 1) 64)), text) (at_ascii c.args.addr))
