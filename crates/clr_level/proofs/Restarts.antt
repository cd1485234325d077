-- A journal that begins with the lines up to a place is opened there, level, or refused.
use Rattle.std.proofs.Common.{◌≡◌, ◌∙◌, ◌==◌, ◌&&◌, ◌||◌, ◌⊎◌, ℕ, Bool, true, false, cond, List, [], ◌∷◌, ◌++◌, length, Option, None, Some, refl, ap, ap₂, sym, subst, inl, inr, append_assoc, bytes_eq, not, option_and_then, take-append-drop}
use Rattle.std.proofs.lemmas.Bool.{and_from, and_parts}
use Rattle.std.proofs.lemmas.Slice.Eq.{bytes_eq-Decides}
use Rattle.std.specs.List.{list_any}
use Rattle.clr_journal.specs.Lines.{ended_lines, text_of, with_feed}
use Rattle.clr_rules.specs.Register.{Register}
use Rattle.clr_rules.specs.declared.place.Place.{Place}
use Rattle.clr_journal.specs.Journals.{in_turn, is_next, next_place, turn_after, withdraws}
use Rattle.clr_journal.specs.Laws.{turn_behind}
use Rattle.clr_journal.specs.Line.{Entry, carried, read_line, withdrawn}
use Rattle.clr_journal.specs.declared.reading.Turn.{Turn}
use Rattle.clr_chain.proofs.Begun.{firsts_back}
use Rattle.clr_chain.proofs.Cutting.{found_there}
use Rattle.clr_chain.proofs.Firsts.{first_whole}
use Rattle.clr_chain.proofs.LinksBack.{firsts_line, links_line}
use Rattle.clr_chain.proofs.NotMissed.{from_first, stays_met}
use Rattle.clr_chain.proofs.Parts.{AreLines, Parted, lines_then, parted, text_of-append}
use Rattle.clr_chain.proofs.ReadingOn.{reads}
use Rattle.clr_chain.specs.Chain.{ReadOn, all_but_first, chain_text, link_texts, links_of, read_on}
use Rattle.clr_chain.specs.Finding.{Sought, ahead, bad_line, differs, first_of, found_after, found_by, found_in, met, or_earlier, says_accepted, sought, sought_at, sought_below, sought_here, unmet}
use Rattle.clr_chain.specs.First.{first_text, first_turn_at}
use Rattle.clr_chain.specs.Level.{place_after}
use Rattle.clr_chain.specs.Link.{end_after, has_fraction, if_holds, if_own, is_own, link_text, next_link, read_link}
use Rattle.clr_chain.specs.Opening.{CanBegin}
use Rattle.clr_chain.specs.Sums.{sum_after, sum_behind}
use Rattle.clr_chain.specs.declared.chain_end.ChainEnd.{ChainEnd}
use Rattle.clr_level.proofs.Chains.{place_more, same_number, turn_more}
use Rattle.clr_level.specs.Restarting.{HasLines, IsReadAt, IsRefused, OpensLevel, RestartsKeepLevel, at_first, at_last, not_cut, rest_after, withdraws_own}

-- ---- the texts of lines

links_both : (sum : List ℕ) (xs ys : List Entry) → link_texts sum (xs ++ ys) ≡ link_texts sum xs ++ link_texts (sum_behind sum xs) ys
links_both sum [] ys = refl
links_both sum (x ∷ xs) ys = ap (λ (ts : List (List ℕ)). link_text x (sum_after sum x) ∷ ts) (links_both (sum_after sum x) xs ys)

chain_both : (start : Place) (xs ys : List Entry) → chain_text start (xs ++ ys) ≡ chain_text start xs ++ text_of (link_texts (sum_behind start.sum xs) ys)
chain_both start xs ys =
    let one : List (List ℕ) = link_texts start.sum xs in
    let two : List (List ℕ) = link_texts (sum_behind start.sum xs) ys in
    ap (λ (ts : List (List ℕ)). with_feed (first_text start) ++ text_of ts) (links_both start.sum xs ys)
    ∙ ap (λ (t : List ℕ). with_feed (first_text start) ++ t) (text_of-append one two)
    ∙ sym (append_assoc (with_feed (first_text start)) (text_of one) (text_of two))

links_are_lines : (sum : List ℕ) (entries : List Entry) → AreLines (link_texts sum entries)
links_are_lines sum [] = tt
links_are_lines sum (x ∷ xs) = (links_line x (sum_after sum x), links_are_lines (sum_after sum x) xs)

links_then : (start : Place) (had : List Entry) (rest : List ℕ) → links_of (chain_text start had ++ rest) ≡ link_texts start.sum had ++ ended_lines rest
links_then start had rest =
    ap all_but_first (lines_then (first_text start ∷ link_texts start.sum had) rest (firsts_line start, links_are_lines start.sum had))

first_there : (start : Place) (had : List Entry) (rest : List ℕ) → CanBegin start → first_of (chain_text start had ++ rest) ≡ Some start
first_there start had rest can =
    let text : List ℕ = first_text start in
    let links : List ℕ = text_of (link_texts start.sum had) in
    ap first_of (append_assoc (with_feed text) links rest)
    ∙ first_whole text (links ++ rest) (firsts_line start) can.short ∙ firsts_back start can

-- ---- the line of the place is met

if_true : (b : Bool) (one entry : Entry) → cond b (Some one) None ≡ Some entry → (b ≡ true) × (one ≡ entry)
if_true true one entry h = let same : one ≡ entry = cc h in (refl, same)
if_true false one entry h = cc h

abbrev IsOwnLine : Entry → List ℕ → List ℕ → Option Entry → Type 0
IsOwnLine entry sum text found = (found ≡ Some entry) × (is_own entry sum text ≡ true)

own_by : (found : Option Entry) (sum text : List ℕ) (entry : Entry) → option_and_then (if_own sum text) found ≡ Some entry → IsOwnLine entry sum text found
own_by None sum text entry h = cc h
own_by (Some one) sum text entry h =
    let is = if_true (is_own one sum text) one entry h in
    (ap Some is.1, subst (λ (e : Entry). is_own e sum text ≡ true) is.1 is.0)

own_line : (sum text : List ℕ) (entry : Entry) → read_link sum text ≡ Some entry → IsOwnLine entry sum text (read_line text)
unfolding read_link
own_line sum text entry h = own_by (read_line text) sum text entry h

met_here : (place : Place) (entry : Entry) (text : List ℕ) (left : List (List ℕ)) → ((turn_after entry).last == place.number) ≡ true
    → read_link place.sum text ≡ Some entry → sought place left ≡ unmet → sought place (text ∷ left) ≡ met true (turn_after entry) left
unfolding sought
met_here place entry text left number read none =
    let own = own_line place.sum text entry read in
    ap (λ (s : Sought). or_earlier s (sought_at place text left (read_line text))) none
    ∙ ap (sought_at place text left) own.0
    ∙ ap₂ (λ (b c : Bool). cond b (sought_here c entry left) (sought_below place (turn_after entry).last left)) number own.1

-- where a chain has come to
abbrev end_behind : Place → List Entry → ChainEnd
end_behind start had = record { turn = turn_behind (first_turn_at start) had; sum = sum_behind start.sum had }

abbrev FindsBehind : Place → List Entry → List (List ℕ) → Type 0
FindsBehind start had left = sought (place_after start had) left ≡ unmet
    → found_by (place_after start had) start (link_texts start.sum had ++ left) (sought (place_after start had) (link_texts start.sum had ++ left))
    ≡ found_after (place_after start had).number (read_on (end_behind start had) left)

same_bytes : (text : List ℕ) → bytes_eq text text ≡ true
same_bytes text = (bytes_eq-Decides text text).1 refl

behind_none : (start : Place) (left : List (List ℕ)) → FindsBehind start [] left
behind_none start left none =
    let place : Place = place_after start [] in
    ap (found_by place start left) none
    ∙ from_first place start left (found_after place.number (read_on (end_behind start []) left)) (same_number start.number start.number refl) (same_bytes start.sum) refl

behind_one : (start : Place) (before : List Entry) (entry : Entry) (left : List (List ℕ))
    → read_link (place_after start (before ++ entry ∷ [])).sum (link_text entry (place_after start (before ++ entry ∷ [])).sum) ≡ Some entry
    → FindsBehind start (before ++ entry ∷ []) left
behind_one start before entry left read none =
    let had : List Entry = before ++ entry ∷ [] in
    let place : Place = place_after start had in
    let text : List ℕ = link_text entry place.sum in
    let front : List (List ℕ) = link_texts start.sum before in
    let turn : turn_behind (first_turn_at start) had ≡ turn_after entry = turn_more (first_turn_at start) before entry in
    let number : ((turn_after entry).last == place.number) ≡ true = same_number (turn_after entry).last place.number (ap (λ (t : Turn). t.last) (sym turn)) in
    let sum : place.sum ≡ sum_after (sum_behind start.sum before) entry = ap (λ (p : Place). p.sum) (place_more start before entry) in
    let texts : link_texts start.sum had ++ left ≡ front ++ text ∷ left =
    ap (λ (ts : List (List ℕ)). ts ++ left) (links_both start.sum before (entry ∷ []) ∙ ap (λ (s : List ℕ). front ++ link_text entry s ∷ []) (sym sum))
    ∙ append_assoc front (text ∷ []) left in
    let here : sought place (link_texts start.sum had ++ left) ≡ met true (turn_after entry) left =
    ap (sought place) texts
    ∙ stays_met place front (text ∷ left) (met true (turn_after entry) left) (met_here place entry text left number read none) refl in
    ap (found_by place start (link_texts start.sum had ++ left)) here
    ∙ ap (λ (t : Turn). found_after place.number (read_on (record { turn = t; sum = place.sum }) left)) (sym turn)

behind : (start : Place) (had : List Entry) (left : List (List ℕ)) → IsReadAt (place_after start had) had → FindsBehind start had left
behind start had left (at_first is) = subst (λ (es : List Entry). FindsBehind start es left) (sym is) (behind_none start left)
behind start had left (at_last before entry is read) =
    subst (λ (es : List Entry). FindsBehind start es left) (sym is)
    (behind_one start before entry left
    (subst (λ (es : List Entry). read_link (place_after start es).sum (link_text entry (place_after start es).sum) ≡ Some entry) is read))

-- so what is found is what comes after these lines
found_behind : (start : Place) (had : List Entry) (rest : List ℕ) → CanBegin start → IsReadAt (place_after start had) had
    → sought (place_after start had) (ended_lines rest) ≡ unmet
    → found_in (place_after start had) (chain_text start had ++ rest)
    ≡ found_after (place_after start had).number (read_on (end_behind start had) (ended_lines rest))
found_behind start had rest can read none =
    let place : Place = place_after start had in
    found_there place start (chain_text start had ++ rest) (first_there start had rest can) (same_bytes start.id)
    ∙ ap (λ (ls : List (List ℕ)). found_by place start ls (sought place ls)) (links_then start had rest)
    ∙ behind start had (ended_lines rest) read none

-- ---- what is read on

record IsReadOn (end : ChainEnd) (texts : List (List ℕ)) (read : ReadOn) : Type 0 where
  turns : in_turn end.turn read.entries ≡ true
  texts_are : texts ≡ link_texts end.sum read.entries ++ read.left

abbrev HoldsSum : ChainEnd → List ℕ → Entry → Type 0
HoldsSum end text entry = (is_next end.turn entry ≡ true) × (text ≡ link_text entry (sum_after end.sum entry))

holds_by : (end : ChainEnd) (text : List ℕ) (found : Option Entry) (entry : Entry) → option_and_then (if_holds end text) found ≡ Some entry → HoldsSum end text entry
holds_by end text None entry h = cc h
holds_by end text (Some one) entry h =
    let own : Bool = is_own one (sum_after end.sum one) text in
    let is = if_true (is_next end.turn one && own) one entry h in
    let both = and_parts (is_next end.turn one) own is.0 in
    let same = and_parts (not (has_fraction one)) (bytes_eq text (link_text one (sum_after end.sum one))) both.1 in
    subst (HoldsSum end text) is.1 (both.0, (bytes_eq-Decides text (link_text one (sum_after end.sum one))).0 same.1)

holds_sum : (end : ChainEnd) (text : List ℕ) (entry : Entry) → next_link end text ≡ Some entry → HoldsSum end text entry
unfolding next_link
holds_sum end text entry h = holds_by end text (read_line text) entry h

none_read : (end : ChainEnd) (texts : List (List ℕ)) → IsReadOn end texts (record { entries = []; end = end; left = texts })
unfolding in_turn
none_read end texts = record { turns = refl; texts_are = refl }

one_read : (end : ChainEnd) (text : List ℕ) (rest : List (List ℕ)) (entry : Entry) (inner : ReadOn) → HoldsSum end text entry → IsReadOn (end_after end entry) rest inner
    → IsReadOn end (text ∷ rest) (record { entries = entry ∷ inner.entries; end = inner.end; left = inner.left })
unfolding in_turn
one_read end text rest entry inner holds more = record {
  turns = and_from (is_next end.turn entry) (in_turn (turn_after entry) inner.entries) holds.0 more.turns;
  texts_are = ap₂ (λ (t : List ℕ) (ts : List (List ℕ)). t ∷ ts) holds.1 more.texts_are;
}

reads_by : (end : ChainEnd) (text : List ℕ) (rest : List (List ℕ)) (found : Option Entry) → next_link end text ≡ found
    → ((e : ChainEnd) → IsReadOn e rest (read_on e rest)) → IsReadOn end (text ∷ rest) (read_on end (text ∷ rest))
reads_by end text rest None is more =
    subst (IsReadOn end (text ∷ rest)) (sym (reads end text rest None is)) (none_read end (text ∷ rest))
reads_by end text rest (Some entry) is more =
    subst (IsReadOn end (text ∷ rest)) (sym (reads end text rest (Some entry) is))
    (one_read end text rest entry (read_on (end_after end entry) rest) (holds_sum end text entry is) (more (end_after end entry)))

is_read_on : (texts : List (List ℕ)) (end : ChainEnd) → IsReadOn end texts (read_on end texts)
unfolding read_on
is_read_on [] end = none_read end []
is_read_on (text ∷ rest) end = reads_by end text rest (next_link end text) refl (is_read_on rest)

turns_on : (turn : Turn) (xs ys : List Entry) → in_turn turn xs ≡ true → in_turn (turn_behind turn xs) ys ≡ true → in_turn turn (xs ++ ys) ≡ true
unfolding in_turn
turns_on turn [] ys one two = two
turns_on turn (x ∷ xs) ys one two =
    let both = and_parts (is_next turn x) (in_turn (turn_after x) xs) one in
    and_from (is_next turn x) (in_turn (turn_after x) (xs ++ ys)) both.0 (turns_on (turn_after x) xs ys both.1 two)

-- ---- what is found

or_true : (b : Bool) → (b || true) ≡ true
or_true true = refl
or_true false = refl

any_later : (xs ys : List (List ℕ)) → list_any says_accepted ys ≡ true → list_any says_accepted (xs ++ ys) ≡ true
any_later [] ys h = h
any_later (x ∷ xs) ys h = ap (λ (b : Bool). says_accepted x || b) (any_later xs ys h) ∙ or_true (says_accepted x)

module _ (first S : Register) (start : Place) (had : List Entry) (rest : List ℕ) where
  abbrev Here : Place
  Here = place_after start had

  abbrev Bytes : List ℕ
  Bytes = chain_text start had ++ rest

  abbrev Ends : List ℕ → Type 0
  Ends bytes = OpensLevel first start bytes Here S ⊎ IsRefused Here rest (found_in Here bytes)

  abbrev End : ChainEnd
  End = end_behind start had

  opens : HasLines first start had S → (read : ReadOn) → IsReadOn End (ended_lines rest) read → withdraws read.entries ≡ false
      → found_in Here Bytes ≡ ahead read → OpensLevel first start Bytes Here S
  opens has read is keeps found =
      let links : List (List ℕ) = link_texts (sum_behind start.sum had) read.entries in
      let parts : Parted rest links read.left = parted rest links read.left is.texts_are in
      record {
        entries = had ++ read.entries;
        level = record {
          had = had;
          more = read.entries;
          all = refl;
          turns = turns_on (first_turn_at start) had read.entries has.turns is.turns;
          is_at = refl;
          kept = keeps;
          run = has.run;
        };
        cut = parts.more;
        bytes_are = ap (λ (t : List ℕ). chain_text start had ++ t) parts.is
            ∙ sym (append_assoc (chain_text start had) (text_of links) parts.more)
            ∙ ap (λ (t : List ℕ). t ++ parts.more) (sym (chain_both start had read.entries));
        read = read;
        more = refl;
        left = sym parts.lines;
        found = found;
      }

  withdraws_first : (es : List Entry) (left : List (List ℕ)) → withdraws es ≡ true → ended_lines rest ≡ link_texts Here.sum es ++ left
      → found_in Here Bytes ≡ differs Here.number → IsRefused Here rest (found_in Here Bytes)
  withdraws_first [] left h is found = absurd (cc h)
  withdraws_first (carried receipt q reply ∷ es) left h is found = absurd (cc h)
  withdraws_first (withdrawn n ∷ es) left h is found =
      withdraws_own n (link_texts (sum_after Here.sum (withdrawn n)) es ++ left) found is

  ends_by : HasLines first start had S → (read : ReadOn) (b c : Bool) → withdraws read.entries ≡ b → list_any says_accepted read.left ≡ c
      → IsReadOn End (ended_lines rest) read
      → found_in Here Bytes ≡ cond b (differs Here.number) (cond c (bad_line (next_place read.end.turn.last)) (ahead read)) → Ends Bytes
  ends_by has read true c keeps none is found = inr (withdraws_first read.entries read.left keeps is.texts_are found)
  ends_by has read false true keeps none is found =
      inr (not_cut (next_place read.end.turn.last) found
      (ap (list_any says_accepted) is.texts_are ∙ any_later (link_texts (sum_behind start.sum had) read.entries) read.left none))
  ends_by has read false false keeps none is found = inl (opens has read is keeps found)

  ends : HasLines first start had S → CanBegin start → IsReadAt Here had → sought Here (ended_lines rest) ≡ unmet → Ends Bytes
  ends has can read_at none =
      let read : ReadOn = read_on End (ended_lines rest) in
      ends_by has read (withdraws read.entries) (list_any says_accepted read.left) refl refl (is_read_on (ended_lines rest) End)
      (found_behind start had rest can read_at none)

pub restarts_level : RestartsKeepLevel
restarts_level first S start had bytes has can read_at begins none =
    let text : List ℕ = chain_text start had in
    let rest : List ℕ = rest_after start had bytes in
    let whole : text ++ rest ≡ bytes = ap (λ (t : List ℕ). t ++ rest) (sym begins) ∙ take-append-drop (length text) bytes in
    subst (Ends first S start had rest) whole (ends first S start had rest has can read_at none)
