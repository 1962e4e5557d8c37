-- One member more of a row, as the code keeps it: a list of values of its own, and the rest behind a cursor.
use Rattle.std.proofs.Common.{◌≡◌, ◌∙◌, ap, sym, subst, ◌<◌, List, [], ◌∷◌, ◌++◌, length, map, Option, Some, None, Ok, Err, option_map}
use Rattle.std.proofs.lemmas.List.{map-append}
use Rattle.dn_token.specs.declared.cursor.Cursor.{Cursor}
use Rattle.dn_token.specs.Cursor.{cursor_view}
use Rattle.dn_token.specs.Token.{Token}
use Rattle.dn_parse.specs.Machine.{Stop}
use Rattle.dn_parse.specs.Descent.{Next, Read, Reader, first_and, if_there, one_more}
use Rattle.dn_parse.specs.Faults.{Shortens}
use Rattle.dn_parse.proofs.Series.{Found, found_first, found_more, first_read}

-- where a member was read, fewer tokens are left
pub member_shortens : {A : Type 0} (o : Option A) (x : A) (after before : Cursor) → o ≡ Some x → Shortens o after before → length (cursor_view after) < length (cursor_view before)
member_shortens {A} o x after before is h = subst (λ (v : Option A). Shortens v after before) is h

-- where none was, the tokens are as they were
pub none_stays : {A : Type 0} (o : Option A) (after before : Cursor) → o ≡ None → Shortens o after before → cursor_view after ≡ cursor_view before
none_stays {A} o after before is h = subst (λ (v : Option A). Shortens v after before) is h

module _ {A X : Type 0} (view : A → X) where
  -- the member that was read
  pub member_read : (r : Next X) (o : Option A) (x : A) (after : List Token) → r ≡ Ok (option_map (λ y. (view y, after)) o) → o ≡ Some x → r ≡ Ok (Some (view x, after))
  member_read r o x after read is = read ∙ ap (λ (v : Option A). Ok (option_map (λ y. (view y, after)) v)) is

  -- no member was read
  pub none_read : (r : Next X) (o : Option A) (after : List Token) → r ≡ Ok (option_map (λ y. (view y, after)) o) → o ≡ None → r ≡ Ok None
  none_read r o after read is = read ∙ ap (λ (v : Option A). Ok (option_map (λ y. (view y, after)) v)) is

  -- the first member, where it was pushed alone
  pub one_pushed : (x : A) (none pushed : List A) → none ≡ [] → pushed ≡ none ++ x ∷ [] → view x ∷ [] ≡ map view pushed
  one_pushed x none pushed n p = sym (ap (map view) (p ∙ ap (λ (l : List A). l ++ x ∷ []) n))

  -- the first member is the first one found
  pub first_found : (reader : Reader X) (next : List Token → Next X) (none pushed : List A) (x : A) (ts : List Token) (after : Cursor) → reader ts ≡ Ok (view x, cursor_view after) → none ≡ [] → pushed ≡ none ++ x ∷ [] → Found next (first_and reader next ts) (map view pushed) (cursor_view after)
  first_found reader next none pushed x ts after read n p = subst (λ (l : List X). Found next (first_and reader next ts) l (cursor_view after)) (one_pushed x none pushed n p) (found_first (first_and reader next ts) (view x) (cursor_view after) (first_read reader next ts (view x) (cursor_view after) read))

  -- a member that was read and pushed is the next one found
  pub pushed_found : {next : List Token → Next X} {whole : Read (List X)} (found pushed : List A) (rest : List Token) (x : A) (after : List Token) → Found next whole (map view found) rest → next rest ≡ Ok (Some (view x, after)) → length after < length rest → pushed ≡ found ++ x ∷ [] → Found next whole (map view pushed) after
  pushed_found {next} {whole} found pushed rest x after before is shorter push =
      let more : map view found ++ view x ∷ [] ≡ map view pushed = sym (ap (map view) push ∙ map-append view found (x ∷ [])) in
      subst (λ (l : List X). Found next whole l after) more (found_more before (view x) after is shorter)

  pub member_found : {next : List Token → Next X} {whole : Read (List X)} (found pushed : List A) (rest : Cursor) (o : Option A) (x : A) (after : Cursor) → Found next whole (map view found) (cursor_view rest) → next (cursor_view rest) ≡ Ok (option_map (λ y. (view y, cursor_view after)) o) → o ≡ Some x → Shortens o after rest → pushed ≡ found ++ x ∷ [] → Found next whole (map view pushed) (cursor_view after)
  member_found {next} {whole} found pushed rest o x after before read is shorter push =
      pushed_found found pushed (cursor_view rest) x (cursor_view after) before (member_read (next (cursor_view rest)) o x (cursor_view after) read is) (member_shortens o x after rest is shorter) push

-- one more part behind a token, where that was found
pub behind_read : {X : Type 0} (found : Option (List Token)) (reader : Reader X) (rest : List Token) (x : X) (after : List Token) → found ≡ Some rest → reader rest ≡ Ok (x, after) → if_there found (λ l. one_more (reader l)) (Ok None) ≡ Ok (Some (x, after))
behind_read {X} found reader rest x after e is = ap (λ (o : Option (List Token)). if_there o (λ l. one_more (reader l)) (Ok None)) e ∙ ap (λ (r : Read X). one_more r) is

pub behind_stops : {X : Type 0} (found : Option (List Token)) (reader : Reader X) (rest : List Token) (s : Stop) → found ≡ Some rest → reader rest ≡ Err s → if_there found (λ l. one_more (reader l)) (Ok None) ≡ Err s
behind_stops {X} found reader rest s e is = ap (λ (o : Option (List Token)). if_there o (λ l. one_more (reader l)) (Ok None)) e ∙ ap (λ (r : Read X). one_more r) is

pub none_behind : {X : Type 0} (found : Option (List Token)) (reader : Reader X) → found ≡ None → if_there found (λ l. one_more (reader l)) (Ok None) ≡ Ok None
none_behind found reader e = ap (λ (o : Option (List Token)). if_there o (λ l. one_more (reader l)) (Ok None)) e
