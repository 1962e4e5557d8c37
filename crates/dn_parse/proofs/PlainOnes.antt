-- Commands one behind the other that are all plain.
use Rattle.std.proofs.Common.{◌≡◌, ◌∙◌, ap, sym, subst, refl, ℕ, zero, suc, ◌+◌, Bool, ◌&&◌, List, [], ◌∷◌, ◌++◌, length, Option, Some, None, option_map, IsTrue, arith}
use Rattle.std.proofs.lemmas.Bool.{and_parts}
use Rattle.dn_base.proofs.Lists.{list_all-last}
use Rattle.dn_token.specs.Token.{Token}
use Rattle.dn_parse.specs.Tree.{Command}
use Rattle.dn_parse.specs.Commands.{next_command, commands_from}
use Rattle.dn_parse.proofs.Scripts.{behind_commands}
use Rattle.dn_parse.specs.Plain.{is_plain_order, are_plain}
use Rattle.dn_parse.proofs.Scripts.{AreCommands, more_is, past_is, fewer, none_fewer, behind_zero}

-- the next command stands last
last_is : (n : ℕ) (ts : List Token) (c : Command × List Token) → length (commands_from n ts) ≡ n → next_command (behind_commands n ts) ≡ Some c → commands_from (suc n) ts ≡ commands_from n ts ++ c.0 ∷ []
unfolding commands_from
last_is zero ts c l e = more_is zero ts (Some c) (ap next_command (sym (behind_zero ts)) ∙ e)
last_is (suc n) ts c l e = go (next_command ts) refl (last_is n)
  where
    go : (o : Option (Command × List Token)) → next_command ts ≡ o → ((us : List Token) (d : Command × List Token) → length (commands_from n us) ≡ n → next_command (behind_commands n us) ≡ Some d → commands_from (suc n) us ≡ commands_from n us ++ d.0 ∷ []) → commands_from (suc (suc n)) ts ≡ commands_from (suc n) ts ++ c.0 ∷ []
    go None q more = absurd (none_fewer n ts l q)
    go (Some d) q more =
        more_is (suc n) ts (Some d) q
        ∙ ap (λ (cs : List Command). d.0 ∷ cs) (more d.1 c (fewer n ts d l q) (ap next_command (sym (past_is n ts (Some d) q)) ∙ e))
        ∙ ap (λ (cs : List Command). cs ++ c.0 ∷ []) (sym (more_is n ts (Some d) q))

-- where all so far are plain, and the next one is, they are with it
pub plain_more : (n : ℕ) (ts before : List Token) (so_far plain : Bool) → AreCommands n ts before → option_map (λ (c : Command × List Token). is_plain_order c.0.order) (next_command before) ≡ Some plain → (IsTrue so_far → IsTrue (are_plain (commands_from n ts))) → IsTrue (so_far && plain) → IsTrue (are_plain (commands_from (n + 1) ts))
plain_more n ts before so_far plain are e h both = go (next_command before) refl e
  where
    go : (o : Option (Command × List Token)) → next_command before ≡ o → option_map (λ (c : Command × List Token). is_plain_order c.0.order) o ≡ Some plain → IsTrue (are_plain (commands_from (n + 1) ts))
    go None q p = cc
    go (Some c) q p =
        let two = and_parts so_far plain both in
        let is : is_plain_order c.0.order ≡ plain = cc in
        let last = last_is n ts c are.0 (ap next_command are.1 ∙ q) in
        let same : suc n ≡ n + 1 = omega arith in
        subst (λ (m : ℕ). IsTrue (are_plain (commands_from m ts))) same (rw last (list_all-last (λ (d : Command). is_plain_order d.order) (commands_from n ts) c.0 (h two.0) (rw is two.1)))
