-- Level is kept, and a lost tail is made good.
use Rattle.std.proofs.Common.{◌≡◌, ◌∙◌, Bool, true, false, ◌&&◌, not, cond, List, [], ◌∷◌, ◌++◌, map, Option, None, Some, refl, ap, ap₂, sym, subst, append_assoc, append-nil}
use Rattle.std.proofs.lemmas.List.{append_cancel_left, map-append}
use Rattle.serde_json.specs.Data.{Data}
use Rattle.clr_changes.specs.Deeds.{Deed, after_deed, after_deeds}
use Rattle.clr_rules.specs.Register.{Register}
use Rattle.clr_journal.specs.Answered.{deed_replies, deed_reply}
use Rattle.clr_journal.proofs.JournalsRead.{deeds_grow, lines_grow}
use Rattle.clr_journal.specs.Journals.{carried_out, in_turn, onto_some, own_pair, withdraws}
use Rattle.clr_journal.specs.Line.{Entry, carried, withdrawn, is_accepted}
use Rattle.clr_chain.specs.First.{first_turn_at}
use Rattle.clr_chain.specs.Laws.{LinesKeepLevel, LostTailsAreMadeGood, NewJournalsAreLevel, StepsKeepLevel, line_at}
use Rattle.clr_chain.specs.Level.{IsRunOf}

-- ---- what was carried out of lines and of those after them

same_withdraws : (xs ys : List Entry) → withdraws ys ≡ false → withdraws (xs ++ ys) ≡ withdraws xs
same_withdraws [] ys h = h
same_withdraws (carried receipt q reply ∷ xs) ys h = refl
same_withdraws (withdrawn n ∷ xs) ys h = refl

own_same : (one : Entry) (xs ys : List Entry) → withdraws ys ≡ false → own_pair one (xs ++ ys) ≡ own_pair one xs
own_same (withdrawn n) xs ys h = refl
own_same (carried receipt q reply) xs ys h =
    ap (λ (b : Bool). cond (is_accepted reply && not b) (Some (q, reply)) None) (same_withdraws xs ys h)

onto_pairs : (o : Option (Deed × Data)) (xs ys : List (Deed × Data)) → onto_some o (xs ++ ys) ≡ onto_some o xs ++ ys
onto_pairs None xs ys = refl
onto_pairs (Some pair) xs ys = refl

pub carried_out-append : (xs ys : List Entry) → withdraws ys ≡ false → carried_out (xs ++ ys) ≡ carried_out xs ++ carried_out ys
unfolding carried_out
carried_out-append [] ys h = refl
carried_out-append (one ∷ xs) ys h =
    ap (λ (o : Option (Deed × Data)). onto_some o (carried_out (xs ++ ys))) (own_same one xs ys h)
    ∙ ap (onto_some (own_pair one xs)) (carried_out-append xs ys h)
    ∙ onto_pairs (own_pair one xs) (carried_out xs) (carried_out ys)

-- ---- runs one after the other

after_deeds-append : (R : Register) (xs ys : List Deed) → after_deeds R (xs ++ ys) ≡ after_deeds (after_deeds R xs) ys
unfolding after_deeds
after_deeds-append R [] ys = refl
after_deeds-append R (q ∷ xs) ys = after_deeds-append (after_deed R q) xs ys

answers-append : (R : Register) (xs ys : List Deed) → deed_replies R (xs ++ ys) ≡ deed_replies R xs ++ deed_replies (after_deeds R xs) ys
unfolding after_deeds deed_replies
answers-append R [] ys = refl
answers-append R (q ∷ xs) ys = ap (λ rest. deed_reply R q ∷ rest) (answers-append (after_deed R q) xs ys)

abbrev asked : List (Deed × Data) → List Deed
asked pairs = map (λ pair. pair.0) pairs

abbrev told : List (Deed × Data) → List Data
told pairs = map (λ pair. pair.1) pairs

joined : (first R S : Register) (a b : List (Deed × Data)) → IsRunOf first a R → IsRunOf R b S → IsRunOf first (a ++ b) S
joined first R S a b one two =
    let commands : asked (a ++ b) ≡ asked a ++ asked b = map-append (λ pair. pair.0) a b in
    let come : after_deeds first (asked a) ≡ R = sym one.register in
    record {
      register = two.register ∙ ap (λ T. after_deeds T (asked b)) one.register ∙ sym (after_deeds-append first (asked a) (asked b)) ∙ ap (after_deeds first) (sym commands);
      replied = map-append (λ pair. pair.1) a b ∙ ap₂ (λ xs ys. xs ++ ys) one.replied (two.replied ∙ ap (λ T. deed_replies T (asked b)) one.register)
          ∙ sym (answers-append first (asked a) (asked b)) ∙ ap (deed_replies first) (sym commands);
    }

parted : (first R S : Register) (a b : List (Deed × Data)) → IsRunOf first a R → IsRunOf first (a ++ b) S → IsRunOf R b S
parted first R S a b one both =
    let commands : asked (a ++ b) ≡ asked a ++ asked b = map-append (λ pair. pair.0) a b in
    let come : after_deeds first (asked a) ≡ R = sym one.register in
    let all : deed_replies first (asked (a ++ b)) ≡ told a ++ deed_replies R (asked b) =
    ap (deed_replies first) commands ∙ answers-append first (asked a) (asked b) ∙ ap₂ (λ xs T. xs ++ deed_replies T (asked b)) (sym one.replied) come in
    let split : told (a ++ b) ≡ told a ++ told b = map-append (λ pair. pair.1) a b in
    record {
      register = both.register ∙ ap (after_deeds first) commands ∙ after_deeds-append first (asked a) (asked b) ∙ ap (λ T. after_deeds T (asked b)) come;
      replied = append_cancel_left (told a) (told b) (deed_replies R (asked b)) (sym split ∙ both.replied ∙ all);
    }

one_more : (R : Register) (q : Deed) → IsRunOf R ((q, deed_reply R q) ∷ []) (after_deed R q)
unfolding after_deeds deed_replies
one_more R q = record { register = refl; replied = refl }

-- ---- the laws

pub new_journals : NewJournalsAreLevel
unfolding carried_out after_deeds deed_replies in_turn
new_journals R start = record {
  had = [];
  more = [];
  all = refl;
  turns = refl;
  is_at = refl;
  kept = refl;
  run = record { register = refl; replied = refl };
}

pub lines_keep : LinesKeepLevel
lines_keep first R start place entries entry level next kept = record {
  had = level.had;
  more = level.more ++ entry ∷ [];
  all = ap (λ es. es ++ entry ∷ []) level.all ∙ append_assoc level.had level.more (entry ∷ []);
  turns = (lines_grow (first_turn_at start) entries entry level.turns next).0;
  is_at = level.is_at;
  kept = kept;
  run = level.run;
}

front_kept : (xs ys : List Entry) → withdraws (xs ++ ys) ≡ false → withdraws xs ≡ false
front_kept [] ys h = refl
front_kept (carried receipt q reply ∷ xs) ys h = refl
front_kept (withdrawn n ∷ xs) ys h = h

regrouped : (had idle rest : List Entry) (entry : Entry) → had ++ (idle ++ entry ∷ rest) ≡ ((had ++ idle) ++ entry ∷ []) ++ rest
regrouped had idle rest entry =
    sym (append_assoc (had ++ idle) (entry ∷ []) rest ∙ append_assoc had idle (entry ∷ rest))

nothing_more : (had idle : List Entry) → withdraws idle ≡ false → carried_out idle ≡ [] → carried_out (had ++ idle) ≡ carried_out had
nothing_more had idle kept none =
    carried_out-append had idle kept ∙ ap (λ more. carried_out had ++ more) none ∙ append-nil (carried_out had)

accepted_one : (b : Bool) (pair : Deed × Data) → b ≡ true → cond b (pair ∷ []) [] ≡ pair ∷ []
accepted_one true pair h = refl
accepted_one false pair h = absurd_list h
  where
    absurd_list : false ≡ true → [] ≡ pair ∷ []
    absurd_list e = cc

pub steps_keep : StepsKeepLevel
steps_keep first R start place entries level idle rest receipt q is none accepted kept =
    let reply : Data = deed_reply R q in
    let entry : Entry = line_at R receipt q in
    let idle_kept : withdraws idle ≡ false = front_kept idle (entry ∷ rest) (subst (λ more. withdraws more ≡ false) is level.kept) in
    let pairs : carried_out ((level.had ++ idle) ++ entry ∷ []) ≡ carried_out level.had ++ (q, reply) ∷ [] =
    deeds_grow (level.had ++ idle) receipt q reply
    ∙ ap₂ (λ xs ys. xs ++ ys) (nothing_more level.had idle idle_kept none) (accepted_one (is_accepted reply) (q, reply) accepted) in
    record {
      had = (level.had ++ idle) ++ entry ∷ [];
      more = rest;
      all = level.all ∙ ap (λ more. level.had ++ more) is ∙ regrouped level.had idle rest entry;
      turns = level.turns;
      is_at = refl;
      kept = kept;
      run = subst (λ all. IsRunOf first all (after_deed R q)) (sym pairs) (joined first R (after_deed R q) (carried_out level.had) ((q, reply) ∷ []) level.run (one_more R q));
    }

pub lost_tails : LostTailsAreMadeGood
lost_tails first R S start place entries level run =
    let all : carried_out entries ≡ carried_out level.had ++ carried_out level.more =
    ap carried_out level.all ∙ carried_out-append level.had level.more level.kept in
    parted first R S (carried_out level.had) (carried_out level.more) level.run (subst (λ pairs. IsRunOf first pairs S) all run)
