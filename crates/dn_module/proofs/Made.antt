-- What is made of commands one after another, of which none is kept.
use Rattle.std.proofs.Common.{◌≡◌, ◌∙◌, ap, sym, subst, refl, true, ℕ, List, [], ◌∷◌, ◌++◌, append-nil, Option, Some, None, Result, Ok, Err, IfSome, IsTrue, is_ok, suc, length}
use Rattle.std.proofs.lemmas.Bool.{false≢true}
use Rattle.std.specs.List.{list_all}
use Rattle.dn_base.proofs.Lists.{list_all-last}
use Rattle.dn_module.specs.declared.command.Command.{Command}
use Rattle.dn_module.specs.Commands.{commands_or_none, makes_within, nodes_within}
use Rattle.dn_scope.specs.Values.{◌>>=◌, each}
use Rattle.dn_scope.specs.Faults.{ExpansionFault}
use Rattle.dn_scope.proofs.Each.{followed, after_one}

-- what is made of a list of commands
abbrev pub Making : Type 0
Making = Result (List Command) ExpansionFault

-- commands were made, each with nodes that are there, and what the rest makes comes behind them
pub record AreMade (count : ℕ) (whole rest : Making) : Type 0 where
  pub made : List Command
  pub is : whole ≡ followed made rest
  pub known : IsTrue (list_all (nodes_within count) made)

-- none was made
pub made_first : (count : ℕ) (whole : Making) → AreMade count whole whole
made_first count whole = record { made = []; is = same whole; known = refl }
  where
    same : (r : Making) → r ≡ followed [] r
    same (Err e) = refl
    same (Ok ys) = refl

made_by : {X : Type 0} (f : X → Result Command ExpansionFault) (count : ℕ) (whole : Making) (all rest : List X) (x : X) (c : Command) → all ≡ x ∷ rest → f x ≡ Ok c → IsTrue (nodes_within count c) → AreMade count whole (each f all) → AreMade count whole (each f rest)
made_by f count whole all rest x c at is known m = record {
  made = m.made ++ c ∷ [];
  is = m.is
      ∙ ap (λ l. followed m.made (each f l)) at
      ∙ ap (λ o. followed m.made (o >>= (λ y. each f rest >>= (λ ys. Ok (y ∷ ys))))) is
      ∙ after_one m.made c (each f rest);
  known = list_all-last (nodes_within count) m.made c m.known known;
}

-- one more is made
pub made_more : {X : Type 0} (f : X → Result Command ExpansionFault) (count : ℕ) (whole : Making) (all rest : List X) (x : X) → all ≡ x ∷ rest → IsTrue (makes_within count (f x)) → AreMade count whole (each f all) → AreMade count whole (each f rest)
made_more f count whole all rest x at known m = go (f x) refl known
  where
    go : (r : Result Command ExpansionFault) → f x ≡ r → IsTrue (makes_within count r) → AreMade count whole (each f rest)
    go (Ok c) is h = made_by f count whole all rest x c at is h m
    go (Err e) is h = absurd (false≢true h)

-- one has a fault
pub made_stop : {X : Type 0} (f : X → Result Command ExpansionFault) (count : ℕ) (whole : Making) (all rest : List X) (x : X) (o : Option ExpansionFault) → all ≡ x ∷ rest → IfSome o (λ e. f x ≡ Err e) → AreMade count whole (each f all) → IfSome o (λ e. whole ≡ Err e)
made_stop f count whole all rest x None at is m = tt
made_stop f count whole all rest x (Some e) at is m =
    m.is
    ∙ ap (λ l. followed m.made (each f l)) at
    ∙ ap (λ o. followed m.made (o >>= (λ y. each f rest >>= (λ ys. Ok (y ∷ ys))))) is

whole_is : {X : Type 0} (f : X → Result Command ExpansionFault) (count : ℕ) (whole : Making) (all : List X) → all ≡ [] → (m : AreMade count whole (each f all)) → whole ≡ Ok (m.made ++ [])
whole_is f count whole all none m = m.is ∙ ap (λ l. followed m.made (each f l)) none

-- all are made
pub made_all : {X : Type 0} (f : X → Result Command ExpansionFault) (count : ℕ) (whole : Making) (all : List X) → all ≡ [] → AreMade count whole (each f all) → whole ≡ Ok (commands_or_none whole)
made_all f count whole all none m = whole_is f count whole all none m ∙ ap (λ w. Ok (commands_or_none w)) (sym (whole_is f count whole all none m))

-- and each names nodes that are there
pub all_known : {X : Type 0} (f : X → Result Command ExpansionFault) (count : ℕ) (whole : Making) (all : List X) → all ≡ [] → AreMade count whole (each f all) → IsTrue (list_all (nodes_within count) (commands_or_none whole))
all_known f count whole all none m =
    let cut : m.made ++ [] ≡ m.made = append-nil m.made in
    subst (λ (w : Making). IsTrue (list_all (nodes_within count) (commands_or_none w))) (sym (whole_is f count whole all none m)) (subst (λ (l : List Command). IsTrue (list_all (nodes_within count) l)) (sym cut) m.known)

-- they are as many as they were made of
pub made_count : {X : Type 0} (f : X → Result Command ExpansionFault) (xs : List X) → is_ok (each f xs) ≡ true → length (commands_or_none (each f xs)) ≡ length xs
made_count f [] h = refl
made_count {X} f (x ∷ xs) h = by (f x) (each f xs) (made_count f xs) h
  where
    by : (r : Result Command ExpansionFault) (s : Making) → (is_ok s ≡ true → length (commands_or_none s) ≡ length xs) → is_ok (r >>= (λ y. s >>= (λ ys. Ok (y ∷ ys)))) ≡ true → length (commands_or_none (r >>= (λ y. s >>= (λ ys. Ok (y ∷ ys))))) ≡ suc (length xs)
    by (Err e) s rest h = absurd (false≢true h)
    by (Ok y) (Err e) rest h = absurd (false≢true h)
    by (Ok y) (Ok ys) rest h = ap suc (rest refl)
