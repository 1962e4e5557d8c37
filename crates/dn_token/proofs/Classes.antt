-- The classes of bytes, by their table.
use Rattle.std.proofs.Common.{◌≡◌, ◌∙◌, ap, refl, ℕ, ◌<◌, ◌≤◌, nat_lt, List, map, get_or, Some, None, arith, tests}
use Rattle.std.proofs.lemmas.List.FromFn.{get_or-map-range_with_len}
use Rattle.std.specs.List.{range_with_len}
use Rattle.dn_token.specs.declared.class.TheConstants.{CLASSES}
use Rattle.dn_token.specs.declared.number.Radix.{Radix}
use Rattle.dn_token.specs.declared.number.Radix.TheVariants.{Decimal, Hexadecimal}
use Rattle.dn_token.specs.Token.{is_word_byte}
use Rattle.dn_token.specs.Lexing.{base_of, class_of, value_of}

classes_are : CLASSES ≡ map class_of (range_with_len 0 256)
unfolding class_of
classes_are = refl

pub class_at : (b d : ℕ) → b < 256 → get_or CLASSES b d ≡ class_of b
class_at b d h = ap (λ (l : List ℕ). get_or l b d) classes_are ∙ get_or-map-range_with_len class_of 0 256 b b d h (omega arith)

pub word_class : (b : ℕ) → nat_lt (class_of b) 17 ≡ is_word_byte b
unfolding class_of
word_class b = grind (arith, tests)

pub digit_value : (r : Radix) (b : ℕ) → class_of b < base_of r → value_of r b ≡ Some (class_of b)
unfolding class_of
digit_value Decimal b h = grind (arith, tests)
digit_value Hexadecimal b h = grind (arith, tests)

pub no_value : (r : Radix) (b : ℕ) → base_of r ≤ class_of b → value_of r b ≡ None
unfolding class_of
no_value Decimal b h = grind (arith, tests)
no_value Hexadecimal b h = grind (arith, tests)
