-- A chain with a line more: its text, its place, and what was carried out.
use Rattle.std.proofs.Common.{◌≡◌, ◌∙◌, ◌==◌, ℕ, Bool, true, false, cond, not, ◌&&◌, List, [], ◌∷◌, ◌++◌, map, Option, None, Some, refl, ap, ap₂, sym, subst, append_assoc, append-nil}
use Rattle.std.proofs.lemmas.Cmp.{nat_eq_equiv}
use Rattle.std.proofs.lemmas.List.{append_cancel_left, map-append}
use Rattle.serde_json.specs.Data.{Data}
use Rattle.clr_journal.specs.Lines.{text_of, with_feed}
use Rattle.clr_rules.specs.Register.{Register}
use Rattle.clr_changes.specs.Deeds.{Deed, after_deed, after_deeds}
use Rattle.clr_journal.specs.Answered.{deed_replies, deed_reply}
use Rattle.clr_journal.specs.Journals.{carried_out, onto_some, own_pair, turn_after, withdraws}
use Rattle.clr_journal.specs.Laws.{turn_behind}
use Rattle.clr_journal.specs.Line.{Entry, carried, is_accepted, withdrawn}
use Rattle.clr_journal.specs.declared.line.Receipt.{Receipt}
use Rattle.clr_journal.specs.declared.reading.Turn.{Turn}
use Rattle.clr_journal.proofs.JournalsRead.{deeds_grow}
use Rattle.clr_rules.specs.declared.place.Place.{Place}
use Rattle.clr_chain.specs.Chain.{chain_text, link_texts}
use Rattle.clr_chain.specs.First.{first_text, first_turn_at}
use Rattle.clr_chain.specs.Level.{IsRunOf, place_after, place_with}
use Rattle.clr_chain.specs.Link.{link_text}
use Rattle.clr_chain.specs.Sums.{sum_after, sum_behind}
use Rattle.clr_level.specs.Journaling.{with_link}

-- ---- text and place

links_more : (sum : List ℕ) (entries : List Entry) (entry : Entry) → text_of (link_texts sum (entries ++ entry ∷ []))
    ≡ text_of (link_texts sum entries) ++ (link_text entry (sum_after (sum_behind sum entries) entry) ++ 10 ∷ [])
links_more sum [] entry = append-nil (link_text entry (sum_after sum entry) ++ 10 ∷ [])
links_more sum (one ∷ rest) entry =
    ap (λ (t : List ℕ). with_feed (link_text one (sum_after sum one)) ++ t) (links_more (sum_after sum one) rest entry)
    ∙ sym (append_assoc (with_feed (link_text one (sum_after sum one))) (text_of (link_texts (sum_after sum one) rest))
    (link_text entry (sum_after (sum_behind (sum_after sum one) rest) entry) ++ 10 ∷ []))

pub chain_more : (start : Place) (entries : List Entry) (entry : Entry)
    → chain_text start (entries ++ entry ∷ []) ≡ with_link (chain_text start entries) (sum_behind start.sum entries) entry
chain_more start entries entry =
    ap (λ (t : List ℕ). with_feed (first_text start) ++ t) (links_more start.sum entries entry)
    ∙ sym (append_assoc (with_feed (first_text start)) (text_of (link_texts start.sum entries))
    (link_text entry (sum_after (sum_behind start.sum entries) entry) ++ 10 ∷ []))

sum_more : (sum : List ℕ) (entries : List Entry) (entry : Entry) → sum_behind sum (entries ++ entry ∷ []) ≡ sum_after (sum_behind sum entries) entry
sum_more sum [] entry = refl
sum_more sum (one ∷ rest) entry = sum_more (sum_after sum one) rest entry

pub turn_more : (turn : Turn) (entries : List Entry) (entry : Entry) → turn_behind turn (entries ++ entry ∷ []) ≡ turn_after entry
turn_more turn [] entry = refl
turn_more turn (one ∷ rest) entry = turn_more (turn_after one) rest entry

pub place_more : (start : Place) (entries : List Entry) (entry : Entry)
    → place_after start (entries ++ entry ∷ []) ≡ place_with (place_after start entries) entry
place_more start entries entry =
    λ i. record {
      id = start.id;
      number = (turn_more (first_turn_at start) entries entry i).last;
      sum = sum_more start.sum entries entry i;
    }

sum_on : (sum : List ℕ) (xs ys : List Entry) → sum_behind (sum_behind sum xs) ys ≡ sum_behind sum (xs ++ ys)
sum_on sum [] ys = refl
sum_on sum (one ∷ xs) ys = sum_on (sum_after sum one) xs ys

turn_on : (turn : Turn) (xs ys : List Entry) → turn_behind (turn_behind turn xs) ys ≡ turn_behind turn (xs ++ ys)
turn_on turn [] ys = refl
turn_on turn (one ∷ xs) ys = turn_on (turn_after one) xs ys

same_last : (a b : Turn) (ys : List Entry) → a.last ≡ b.last → (turn_behind a ys).last ≡ (turn_behind b ys).last
same_last a b [] is = is
same_last a b (one ∷ ys) is = refl

-- the lines after a place go on from it
pub place_on : (start : Place) (xs ys : List Entry) → place_after (place_after start xs) ys ≡ place_after start (xs ++ ys)
place_on start xs ys =
    let number : (turn_behind (first_turn_at (place_after start xs)) ys).last ≡ (turn_behind (first_turn_at start) (xs ++ ys)).last =
    same_last (first_turn_at (place_after start xs)) (turn_behind (first_turn_at start) xs) ys refl
    ∙ ap (λ (t : Turn). t.last) (turn_on (first_turn_at start) xs ys) in
    let sum : sum_behind (sum_behind start.sum xs) ys ≡ sum_behind start.sum (xs ++ ys) = sum_on start.sum xs ys in
    λ i. record { id = start.id; number = number i; sum = sum i }

pub same_number : (a b : ℕ) → a ≡ b → (a == b) ≡ true
same_number a b is = subst (λ (m : ℕ). (a == m) ≡ true) is (nat_eq_equiv.refl a)

-- ---- which line is the first, and which the last

pub front_kept : (xs ys : List Entry) → withdraws (xs ++ ys) ≡ false → withdraws xs ≡ false
front_kept [] ys kept = refl
front_kept (carried receipt q reply ∷ xs) ys kept = refl
front_kept (withdrawn n ∷ xs) ys kept = kept

pub command_kept : (xs : List Entry) (receipt : Receipt) (q : Deed) (reply : Data) → withdraws xs ≡ false
    → withdraws (xs ++ carried receipt q reply ∷ []) ≡ false
command_kept [] receipt q reply kept = refl
command_kept (carried its p other ∷ xs) receipt q reply kept = refl
command_kept (withdrawn n ∷ xs) receipt q reply kept = kept

pub kept_on : (xs : List Entry) (entry : Entry) (ys : List Entry) → withdraws (xs ++ entry ∷ []) ≡ false → withdraws ((xs ++ entry ∷ []) ++ ys) ≡ false
kept_on [] (carried receipt q reply) ys kept = refl
kept_on [] (withdrawn n) ys kept = kept
kept_on (carried receipt q reply ∷ xs) entry ys kept = refl
kept_on (withdrawn n ∷ xs) entry ys kept = kept

-- ---- what was carried out

pub accepted_out : (xs : List Entry) (receipt : Receipt) (q : Deed) (reply : Data) → carried_out xs ≡ [] → is_accepted reply ≡ true
    → carried_out (xs ++ carried receipt q reply ∷ []) ≡ (q, reply) ∷ []
accepted_out xs receipt q reply none accepted =
    deeds_grow xs receipt q reply
    ∙ ap₂ (λ (pairs : List (Deed × Data)) (b : Bool). pairs ++ cond b ((q, reply) ∷ []) []) none accepted

pub refused_out : (xs : List Entry) (receipt : Receipt) (q : Deed) (reply : Data) → carried_out xs ≡ [] → is_accepted reply ≡ false
    → carried_out (xs ++ carried receipt q reply ∷ []) ≡ []
refused_out xs receipt q reply none refused =
    deeds_grow xs receipt q reply
    ∙ ap₂ (λ (pairs : List (Deed × Data)) (b : Bool). pairs ++ cond b ((q, reply) ∷ []) []) none refused

no_pair : (o : Option (Deed × Data)) (pairs : List (Deed × Data)) → onto_some o pairs ≡ [] → (o ≡ None) × (pairs ≡ [])
no_pair None pairs is = (refl, is)
no_pair (Some pair) pairs is = absurd (cc is)

own_withdrawn : (b : Bool) (pair : Deed × Data) → cond (b && not true) (Some pair) None ≡ None
own_withdrawn true pair = refl
own_withdrawn false pair = refl

own_still : (one : Entry) (xs : List Entry) (n : ℕ) → own_pair one xs ≡ None → own_pair one (xs ++ withdrawn n ∷ []) ≡ None
own_still (withdrawn m) xs n none = refl
own_still (carried receipt q reply) [] n none = own_withdrawn (is_accepted reply) (q, reply)
own_still (carried receipt q reply) (carried its p other ∷ xs) n none = none
own_still (carried receipt q reply) (withdrawn m ∷ xs) n none = none

-- a line that withdraws carries nothing out
pub withdrawn_out : (xs : List Entry) (n : ℕ) → carried_out xs ≡ [] → carried_out (xs ++ withdrawn n ∷ []) ≡ []
unfolding carried_out
withdrawn_out [] n none = refl
withdrawn_out (one ∷ xs) n none =
    let both = no_pair (own_pair one xs) (carried_out xs) none in
    ap₂ (λ (o : Option (Deed × Data)) (pairs : List (Deed × Data)). onto_some o pairs) (own_still one xs n both.0) (withdrawn_out xs n both.1)

pub nothing_out : carried_out [] ≡ []
unfolding carried_out
nothing_out = refl

-- ---- runs

pub no_run : (R : Register) → IsRunOf R [] R
unfolding after_deeds deed_replies
no_run R = record { register = refl; replied = refl }

abbrev done : List (Deed × Data) → List Deed
done pairs = map (λ (pair : Deed × Data). pair.0) pairs

abbrev told : List (Deed × Data) → List Data
told pairs = map (λ (pair : Deed × Data). pair.1) pairs

-- deeds go on from the register after those before them, and so do their replies
goes_on : (R : Register) (xs ys : List Deed) → after_deeds R (xs ++ ys) ≡ after_deeds (after_deeds R xs) ys
unfolding after_deeds
goes_on R [] ys = refl
goes_on R (deed ∷ xs) ys = goes_on (after_deed R deed) xs ys

replies_on : (R : Register) (xs ys : List Deed) → deed_replies R (xs ++ ys) ≡ deed_replies R xs ++ deed_replies (after_deeds R xs) ys
unfolding after_deeds deed_replies
replies_on R [] ys = refl
replies_on R (deed ∷ xs) ys = ap (λ (ds : List Data). deed_reply R deed ∷ ds) (replies_on (after_deed R deed) xs ys)

pub run_on : (first R S : Register) (xs ys : List (Deed × Data)) → IsRunOf first xs R → IsRunOf R ys S → IsRunOf first (xs ++ ys) S
run_on first R S xs ys one two =
    let deeds : done (xs ++ ys) ≡ done xs ++ done ys = map-append _ xs ys in
    record {
      register = two.register ∙ ap (λ (X : Register). after_deeds X (done ys)) one.register ∙ sym (goes_on first (done xs) (done ys))
          ∙ ap (after_deeds first) (sym deeds);
      replied = map-append _ xs ys
          ∙ ap₂ (λ (a b : List Data). a ++ b) one.replied (two.replied ∙ ap (λ (X : Register). deed_replies X (done ys)) one.register)
          ∙ sym (replies_on first (done xs) (done ys)) ∙ ap (deed_replies first) (sym deeds);
    }

-- and the rest of a run goes on from where its beginning leads to
pub run_rest : (first R T : Register) (xs ys : List (Deed × Data)) → IsRunOf first xs R → IsRunOf first (xs ++ ys) T → IsRunOf R ys T
run_rest first R T xs ys one all =
    let deeds : done (xs ++ ys) ≡ done xs ++ done ys = map-append _ xs ys in
    let both : told xs ++ told ys ≡ told xs ++ deed_replies R (done ys) =
    sym (map-append _ xs ys) ∙ all.replied ∙ ap (deed_replies first) deeds ∙ replies_on first (done xs) (done ys)
    ∙ ap₂ (λ (a b : List Data). a ++ b) (sym one.replied) (ap (λ (X : Register). deed_replies X (done ys)) (sym one.register)) in
    record {
      register = all.register ∙ ap (after_deeds first) deeds ∙ goes_on first (done xs) (done ys)
          ∙ ap (λ (X : Register). after_deeds X (done ys)) (sym one.register);
      replied = append_cancel_left (told xs) (told ys) (deed_replies R (done ys)) both;
    }

one_run : (R : Register) (deed : Deed) → IsRunOf R ((deed, deed_reply R deed) ∷ []) (after_deed R deed)
unfolding after_deeds deed_replies
one_run R deed = record { register = refl; replied = refl }

pub run_more : (first R : Register) (pairs : List (Deed × Data)) (deed : Deed) → IsRunOf first pairs R
    → IsRunOf first (pairs ++ (deed, deed_reply R deed) ∷ []) (after_deed R deed)
run_more first R pairs deed run = run_on first R (after_deed R deed) pairs _ run (one_run R deed)

append_first : (a b : Data) (xs ys : List Data) → a ∷ xs ≡ b ∷ ys → a ≡ b
append_first a b xs ys is = cc

-- in a run each deed has the reply of the register that the run has come to
pub reply_in_run : (first R T : Register) (xs : List (Deed × Data)) (deed : Deed) (d : Data) (ys : List (Deed × Data)) → IsRunOf first xs R
    → IsRunOf first (xs ++ (deed, d) ∷ ys) T → d ≡ deed_reply R deed
unfolding deed_replies
reply_in_run first R T xs deed d ys one all =
    append_first d (deed_reply R deed) (told ys) (deed_replies (after_deed R deed) (done ys)) (run_rest first R T xs ((deed, d) ∷ ys) one all).replied
