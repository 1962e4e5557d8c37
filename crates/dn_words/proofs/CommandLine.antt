-- How the command line of one required word and one optional word is split.
use Rattle.std.proofs.Common.{◌≡◌, ◌∙◌, ap, ap₂, sym, subst, cond, ℕ, ◌==◌, Bool, true, false, Option, Some, None, is_some, List, [], ◌∷◌, refl, codes, ◌&&◌, option_map, option_and_then}
use Rattle.std.specs.List.{list_all}
use Rattle.std.specs.Option.{option_map_or}
use Rattle.std.specs.Str.{bytes_eq}
use Rattle.clap.specs.Lexer.{long_of, long_of_rest, short_of, short_of_rest, strip_byte}
use Rattle.clap.specs.Words.{Row, Shape, Text, built, first_of, matches_of, rows_of}
use Rattle.clap.specs.Faults.{bundle_fault, check_fault, defaults_fault, entered_fault, fault_of, flag_word_fault, is_simple_and_free, settle_fault, step_fault, turn_fault, walk_fault, word_fault}
use Rattle.clap.specs.Simple.{entered}
use Rattle.clap.specs.Walk.{Held, Step, Walk, after_step, finished, idle, long_or_other, nothing_held, settled, short_or_plain, trailing, value, walk, walked, word_met}
use Rattle.clap.specs.Kinds.{IsAmong, Kinds, or_else}
use Rattle.clap.specs.declared.parser.matches.Found.{Found}
use Rattle.clap.specs.declared.builder.value_parser.Reading.TheVariants.{AsWritten}
use Rattle.clap.specs.declared.parser.matches.ValueSource.TheVariants.{CommandLine}
use Rattle.clap.specs.declared.error.kind.ErrorKind.{ErrorKind}
use Rattle.clap.specs.declared.error.kind.ErrorKind.TheVariants.{UnknownArgument, MissingRequiredArgument}
use Rattle.clap.proofs.WalkLemmas.{first_value-rows}
use Rattle.dn_base.proofs.Booleans.{and_parts, not-true}
use Rattle.dn_words.specs.Split.{Split, parts_found, words_apart, program}
use Rattle.dn_words.specs.Words.{is_plain_word}

-- the program once it is built
abbrev top : Shape
top = (built program).top

pub program_is_simple : is_simple_and_free program ≡ true
program_is_simple = refl

-- a word that is no flag
pub record IsWord (w : Text) : Type 0 where
  pub no_dashes : bytes_eq w (45 ∷ 45 ∷ []) ≡ false
  pub no_long : long_of w ≡ None
  pub no_short : short_of w ≡ None

-- is a value, and has no fault of its own
value_met : (position : ℕ) (w : Text) (h : Held) → IsWord w → word_met top.rules [] false idle position w h ≡ (h, value)
value_met position w h p =
    ap (λ (b : Bool). cond b (h, trailing position) (long_or_other top.rules idle w (long_of w) h)) p.no_dashes
    ∙ ap (λ (o : Option (Text × Option Text)). long_or_other top.rules idle w o h) p.no_long
    ∙ ap (λ (o : Option Text). short_or_plain top.rules idle w o h) p.no_short

no_word_fault : (w : Text) (h : Held) → IsWord w → word_fault top [] false idle w h ≡ []
no_word_fault w h p =
    ap (λ (b : Bool). cond b [] (flag_word_fault top.rules false (long_of w) w h)) p.no_dashes
    ∙ ap (λ (o : Option (Text × Option Text)). flag_word_fault top.rules false o w h) p.no_long
    ∙ ap (λ (o : Option Text). option_map_or {T = Text} {U = Kinds} (λ flags. bundle_fault top.rules false flags h) o []) p.no_short

-- where the walk stands at a place, with what is held
abbrev stands : ℕ → Held → Walk
stands position h = record { held = h; waiting = idle; position = position; is_trailing = false; stopped = None }

-- a word there has the fault of the argument at that place, and goes to it
word_turn_fault : (position : ℕ) (h : Held) (w : Text) → IsWord w → turn_fault top [] (stands position h) w ≡ step_fault top position h value
word_turn_fault position h w p =
    ap₂ (λ (f : Kinds) (met : Held × Step). or_else f (step_fault top position met.0 met.1)) (no_word_fault w h p) (value_met position w h p)

word_walked : (position : ℕ) (h : Held) (w : Text) → IsWord w → walked top.rules [] (stands position h) w ≡ after_step top.rules w (stands position h) h value
unfolding walked
word_walked position h w p = ap (λ (met : Held × Step). after_step top.rules w (stands position h) met.0 met.1) (value_met position w h p)

-- what is held behind the first word, and behind the second
abbrev one_held : Text → Held
one_held w = record { rows = []; pending = Some (codes "COMMAND", w ∷ []); skip = 0 }

abbrev row : Text → Text → Row
row id w = record { id = id; values = w ∷ []; count = None; source = Some CommandLine; reading = AsWritten }

abbrev two_held : Text → Text → Held
two_held w n = record { rows = row (codes "COMMAND") w ∷ []; pending = Some (codes "N", n ∷ []); skip = 0 }

one_walked : (w : Text) → IsWord w → walked top.rules [] (stands 1 nothing_held) w ≡ stands 2 (one_held w)
one_walked w p = word_walked 1 nothing_held w p

two_walked : (w n : Text) → IsWord w → IsWord n → walked top.rules [] (walked top.rules [] (stands 1 nothing_held) w) n ≡ stands 3 (two_held w n)
two_walked w n p q = ap (λ (k : Walk). walked top.rules [] k n) (one_walked w p) ∙ word_walked 2 (one_held w) n q

-- the faults of the words
abbrev faults_from : Walk → List Text → Kinds
faults_from = walk_fault top []

one_faults : (w : Text) (rest : List Text) → IsWord w → faults_from (stands 1 nothing_held) (w ∷ rest) ≡ faults_from (stands 2 (one_held w)) rest
unfolding walk_fault
one_faults w rest p =
    ap₂ (λ (f : Kinds) (k : Walk). or_else f (faults_from k rest)) (word_turn_fault 1 nothing_held w p) (one_walked w p)

two_faults : (w n : Text) (rest : List Text) → IsWord n → faults_from (stands 2 (one_held w)) (n ∷ rest) ≡ faults_from (stands 3 (two_held w n)) rest
unfolding walk_fault
two_faults w n rest q =
    ap₂ (λ (f : Kinds) (k : Walk). or_else f (faults_from k rest)) (word_turn_fault 2 (one_held w) n q) (word_walked 2 (one_held w) n q)

three_faults : (w n x : Text) (rest : List Text) → IsWord x → faults_from (stands 3 (two_held w n)) (x ∷ rest) ≡ UnknownArgument ∷ []
unfolding walk_fault
three_faults w n x rest r =
    ap (λ (f : Kinds). or_else f (faults_from (walked top.rules [] (stands 3 (two_held w n)) x) rest)) (word_turn_fault 3 (two_held w n) x r)

-- the faults of a whole line, by those of its words and where the walk ends
abbrev whole : Kinds → Walk → Kinds
whole f k =
    or_else f (or_else (entered_fault (built program) k.stopped)
    (or_else (settle_fault top.rules false k.held)
    (or_else (defaults_fault (settled top.rules k.held).rows top.rules)
    (check_fault top (finished top.rules k.held) (is_some (entered (built program) k.stopped))))))

pub fault_none : fault_of program [] ≡ MissingRequiredArgument ∷ []
unfolding walk_fault defaults_fault
fault_none = refl

pub fault_one : (w : Text) → IsWord w → fault_of program (w ∷ []) ≡ []
unfolding walk_fault defaults_fault
fault_one w p = ap₂ whole (one_faults w [] p) (one_walked w p)

pub fault_two : (w n : Text) → IsWord w → IsWord n → fault_of program (w ∷ n ∷ []) ≡ []
unfolding walk_fault defaults_fault
fault_two w n p q = ap₂ whole (one_faults w (n ∷ []) p ∙ two_faults w n [] q) (two_walked w n p q)

pub fault_many : (w n x : Text) (rest : List Text) → IsWord w → IsWord n → IsWord x → fault_of program (w ∷ n ∷ x ∷ rest) ≡ UnknownArgument ∷ []
fault_many w n x rest p q r =
    ap (λ (f : Kinds). whole f (walk top.rules [] nothing_held (w ∷ n ∷ x ∷ rest)))
    (one_faults w (n ∷ x ∷ rest) p ∙ two_faults w n (x ∷ rest) q ∙ three_faults w n x rest r)

-- what one word and two words are split into
pub matches_one : (w : Text) → IsWord w → matches_of program (w ∷ []) ≡ row (codes "COMMAND") w ∷ []
matches_one w p = ap (λ (k : Walk). finished top.rules k.held) (one_walked w p)

pub matches_two : (w n : Text) → IsWord w → IsWord n → matches_of program (w ∷ n ∷ []) ≡ row (codes "COMMAND") w ∷ row (codes "N") n ∷ []
matches_two w n p q = ap (λ (k : Walk). finished top.rules k.held) (two_walked w n p q)

-- a word that does not begin with `-` is no flag
is_word : (w : Text) → is_plain_word w ≡ true → IsWord w
is_word [] e = record { no_dashes = refl; no_long = refl; no_short = refl }
is_word (x ∷ xs) e =
    let other : (x == 45) ≡ false = not-true (x == 45) e in
    record {
      no_dashes = ap (λ (b : Bool). b && bytes_eq xs (45 ∷ [])) other;
      no_long = ap (λ (b : Bool). option_and_then long_of_rest (option_and_then (strip_byte 45) (cond b (Some xs) None))) other;
      no_short = ap (λ (b : Bool). option_and_then short_of_rest (cond b (Some xs) None)) other;
    }

-- what was found, by its rows
parts_in : List Row → Option Split
parts_in rows = option_map (λ command. (command, first_of (codes "N") rows)) (first_of (codes "COMMAND") rows)

found_in : (f : Found) → parts_found f ≡ parts_in (rows_of f)
unfolding parts_in
found_in f =
    ap₂ (λ (number : Option Text) (command : Option Text). option_map (λ (w : Text). (w, number)) command)
    (first_value-rows f (codes "N")) (first_value-rows f (codes "COMMAND"))

-- words of which none begins with `-`, where they have no fault, are split into what was found in them
pub found_parts : (ws : List Text) → list_all is_plain_word ws ≡ true → fault_of program ws ≡ [] → (f : Found) → rows_of f ≡ matches_of program ws → parts_found f ≡ words_apart ws
unfolding parts_in
found_parts [] plain e f r = let bad : MissingRequiredArgument ∷ [] ≡ [] = sym fault_none ∙ e in cc
found_parts (w ∷ []) plain e f r =
    let p = is_word w (and_parts (is_plain_word w) true plain).0 in
    found_in f ∙ ap parts_in (r ∙ matches_one w p)
found_parts (w ∷ n ∷ []) plain e f r =
    let both = and_parts (is_plain_word w) (is_plain_word n && true) plain in
    let p = is_word w both.0 in
    let q = is_word n (and_parts (is_plain_word n) true both.1).0 in
    found_in f ∙ ap parts_in (r ∙ matches_two w n p q)
found_parts (w ∷ n ∷ x ∷ rest) plain e f r =
    let one = and_parts (is_plain_word w) (is_plain_word n && (is_plain_word x && list_all is_plain_word rest)) plain in
    let two = and_parts (is_plain_word n) (is_plain_word x && list_all is_plain_word rest) one.1 in
    let three = and_parts (is_plain_word x) (list_all is_plain_word rest) two.1 in
    let bad : UnknownArgument ∷ [] ≡ [] = sym (fault_many w n x rest (is_word w one.0) (is_word n two.0) (is_word x three.0)) ∙ e in
    cc

-- and where they have one, they are neither one word nor two
pub no_parts : (ws : List Text) → list_all is_plain_word ws ≡ true → (k : ErrorKind) → IsAmong k (fault_of program ws) → None ≡ words_apart ws
no_parts [] plain k a = refl
no_parts (w ∷ []) plain k a =
    let p = is_word w (and_parts (is_plain_word w) true plain).0 in
    absurd (subst (IsAmong k) (fault_one w p) a)
no_parts (w ∷ n ∷ []) plain k a =
    let both = and_parts (is_plain_word w) (is_plain_word n && true) plain in
    let p = is_word w both.0 in
    let q = is_word n (and_parts (is_plain_word n) true both.1).0 in
    absurd (subst (IsAmong k) (fault_two w n p q) a)
no_parts (w ∷ n ∷ x ∷ rest) plain k a = refl
