-- The parts of a name: the first, and one more behind a `.`.
use Rattle.std.proofs.Common.{◌≡◌, ℕ, List, [], ◌∷◌, Some, None, Ok, Err}
use Rattle.dn_token.specs.declared.token.Sign.TheVariants.{Dot}
use Rattle.dn_token.specs.Token.{Token}
use Rattle.dn_parse.specs.Tree.{Part}
use Rattle.dn_parse.specs.Machine.{Stop}
use Rattle.dn_parse.specs.Descent.{after_sign, with_front, row_at, part_at, next_part_at, name_at}
use Rattle.dn_parse.proofs.Members.{behind_read, behind_stops, none_behind}
use Rattle.dn_parse.proofs.Series.{first_stops, first_read}

pub name_stop : (d : ℕ) (ts : List Token) (s : Stop) → part_at d ts ≡ Err s → name_at d ts ≡ Err s
unfolding name_at
name_stop d ts s e = first_stops (part_at d) (next_part_at d) ts s e

pub name_first : (d : ℕ) (ts : List Token) (x : Part) (rest : List Token) → part_at d ts ≡ Ok (x, rest) → name_at d ts ≡ with_front (x ∷ []) (row_at (next_part_at d) rest)
unfolding name_at
name_first d ts x rest e = first_read (part_at d) (next_part_at d) ts x rest e

pub part_found : (d : ℕ) (ts rest : List Token) (x : Part) (after : List Token) → after_sign Dot ts ≡ Some rest → part_at d rest ≡ Ok (x, after) → next_part_at d ts ≡ Ok (Some (x, after))
unfolding next_part_at
part_found d ts rest x after e is = behind_read (after_sign Dot ts) (part_at d) rest x after e is

pub part_stops : (d : ℕ) (ts rest : List Token) (s : Stop) → after_sign Dot ts ≡ Some rest → part_at d rest ≡ Err s → next_part_at d ts ≡ Err s
unfolding next_part_at
part_stops d ts rest s e is = behind_stops (after_sign Dot ts) (part_at d) rest s e is

pub no_part : (d : ℕ) (ts : List Token) → after_sign Dot ts ≡ None → next_part_at d ts ≡ Ok None
unfolding next_part_at
no_part d ts e = none_behind (after_sign Dot ts) (part_at d) e
