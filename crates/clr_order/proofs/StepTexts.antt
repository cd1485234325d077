-- The text of a step reads as that step, and no other text does.
use Rattle.std.proofs.Common.{◌≡◌, ◌∙◌, ℕ, ◌+◌, ◌<◌, inl, inr, Bool, true, false, not, ◌==◌, nat_lt, IsTrue, Option, Some, None, Result, Ok, Err, List, [], ◌∷◌, ◌++◌, length, All, refl, ap, sym, arith, length-drop, get_or}
use Rattle.std.specs.List.{after_first, before_first, list_all, position_or_len}
use Rattle.std.specs.Str.{bytes_eq}
use Rattle.std.proofs.lemmas.Bool.{and_parts, cases_lt, eqb-false, eqb-true, le-ltb, ltb-false, ne_eqb, not_from_true}
use Rattle.std.proofs.lemmas.List.Elements.{All-cons, All-nil}
use Rattle.std.proofs.lemmas.List.Sums.{passes_at_first, split_at_first}
use Rattle.std.proofs.lemmas.Slice.Eq.{bytes_eq-Decides}
use Rattle.clr_net.specs.Name.{is_name, is_name_byte}
use Rattle.clr_net.specs.NameText.{bad_byte, read_name}
use Rattle.clr_net.specs.declared.name.NameFault.{NameFault}
use Rattle.clr_net.proofs.Names.{is_name_from, name_parts}
use Rattle.clr_net.proofs.Places.{all_none}
use Rattle.clr_order.specs.Action.{action_named, action_word, all_actions}
use Rattle.clr_order.specs.Step.{Task, task}
use Rattle.clr_order.specs.Texts.{is_blank, read_step_text, step_at, step_of, step_text, waiting_step}
use Rattle.clr_order.specs.declared.action.Action.{Action}
use Rattle.clr_order.specs.declared.action.Action.TheVariants.{Open}
use Rattle.clr_order.specs.declared.step.Step.{Step}
use Rattle.clr_order.proofs.Actions.{action_named-word}
use Rattle.clr_order.proofs.Finds.{found_passes}

word_before : (a : Action) (p : List ℕ) → before_first is_blank (action_word a ++ 32 ∷ p) ≡ action_word a
word_before Open p = refl
word_before _ p = refl

name_after : (a : Action) (p : List ℕ) → after_first is_blank (action_word a ++ 32 ∷ p) ≡ p
name_after Open p = refl
name_after _ p = refl

good_bytes : (p : List ℕ) → list_all is_name_byte p ≡ true → All (λ b. not (is_name_byte b) ≡ false) p
good_bytes [] h = All-nil (λ b. not (is_name_byte b) ≡ false)
good_bytes (b ∷ p) h =
    let parts = and_parts (is_name_byte b) (list_all is_name_byte p) h in
    All-cons (λ b. not (is_name_byte b) ≡ false) b p (not_from_true (is_name_byte b) parts.0) (good_bytes p parts.1)

-- a name reads as itself
name_reads : (p : List ℕ) → IsTrue (is_name p) → read_name p ≡ Ok p
name_reads p h =
    let parts = name_parts p h in
    let some : (length p == 0) ≡ false = ne_eqb (length p) 0 (λ e. omega arith) in
    let few : nat_lt 24 (length p) ≡ false = le-ltb 24 (length p) parts.1 in
    let good : bad_byte p ≡ None = all_none (λ b. not (is_name_byte b)) p (good_bytes p parts.2) in
    rw (some, few, good) refl

pub step_texts_are_read : (t : Task) → IsTrue (is_name t.point) → read_step_text (step_text t) ≡ Ok (waiting_step t)
step_texts_are_read t named =
    let found = ap action_named (word_before t.action t.point) ∙ action_named-word t.action in
    ap (λ (a : Option Action). step_at a (after_first is_blank (step_text t))) found
    ∙ (ap (λ rest. step_of t.action (read_name rest)) (name_after t.action t.point) ∙ ap (step_of t.action) (name_reads t.point named))

-- what reads as a name is that name
name_read : (rest p : List ℕ) → read_name rest ≡ Ok p → (rest ≡ p) × IsTrue (is_name p)
name_read rest p h = at (length rest == 0) refl (nat_lt 24 (length rest)) refl (bad_byte rest) refl
  where
    at : (b : Bool) → (length rest == 0) ≡ b → (c : Bool) → nat_lt 24 (length rest) ≡ c → (o : Option ℕ) → bad_byte rest ≡ o → (rest ≡ p) × IsTrue (is_name p)
    at true e c f o g = let k = rw e at h in absurd (cc)
    at false e true f o g = let k = rw (e, f) at h in absurd (cc)
    at false e false f (Some place) g = let k = rw (e, f, g) at h in absurd (cc)
    at false e false f None g =
        let k = rw (e, f, g) at h in
        let same : rest ≡ p = cc in
        let some : length rest ≡ 0 → ⊥ = eqb-false (length rest) 0 e in
        let named : IsTrue (is_name rest) = is_name_from rest (omega arith) (ltb-false 24 (length rest) f) g in
        (same, rw (← same) named)

step_parts : (a : Action) (r : Result (List ℕ) NameFault) (s : Step) → step_of a r ≡ Ok s → (p : List ℕ) × (r ≡ Ok p) × (s ≡ waiting_step (record { action = a; point = p }))
step_parts a (Ok p) s h = (p, refl, cc)
step_parts a (Err fault) s h = absurd (cc)

text_parts : (o : Option Action) (rest : List ℕ) (s : Step) → step_at o rest ≡ Ok s → (a : Action) × (o ≡ Some a) × ((p : List ℕ) × (read_name rest ≡ Ok p) × (s ≡ waiting_step (record { action = a; point = p })))
text_parts None rest s h = absurd (cc)
text_parts (Some a) rest s h = (a, refl, step_parts a (read_name rest) s h)

named_word : (w : List ℕ) (a : Action) → action_named w ≡ Some a → w ≡ action_word a
named_word w a h =
    let same = found_passes (λ a. bytes_eq (action_word a) w) all_actions a h in
    sym ((bytes_eq-Decides (action_word a) w).0 same)

-- a text with something after its first blank has a blank
has_blank : (text : List ℕ) → 0 < length (after_first is_blank text) → position_or_len is_blank text < length text
has_blank text some = elim (cases_lt (position_or_len is_blank text) (length text)) [
  | inl inside ↦ inside
  | inr past ↦ let size = length-drop (position_or_len is_blank text + 1) text in absurd (omega arith)
]

split_text : (text : List ℕ) → position_or_len is_blank text < length text → text ≡ before_first is_blank text ++ 32 ∷ after_first is_blank text
split_text text inside =
    let blank : get_or text (position_or_len is_blank text) 0 ≡ 32 = eqb-true _ 32 (passes_at_first is_blank text 0 inside) in
    split_at_first is_blank text 0 inside ∙ ap (λ b. before_first is_blank text ++ b ∷ after_first is_blank text) blank

pub only_step_texts_are_read : (text : List ℕ) (s : Step) → read_step_text text ≡ Ok s → (text ≡ step_text (task s)) × (s ≡ waiting_step (task s)) × IsTrue (is_name s.point)
only_step_texts_are_read text s h =
    let (a, found, there) = text_parts (action_named (before_first is_blank text)) (after_first is_blank text) s h in
    let (p, read, is) = there in
    let (rest, named) = name_read (after_first is_blank text) p read in
    let some = (name_parts p named).0 in
    let size : length (after_first is_blank text) ≡ length p = ap length rest in
    let split = split_text text (has_blank text (omega arith)) in
    let word = named_word (before_first is_blank text) a found in (
      split ∙ (ap (λ w. w ++ 32 ∷ after_first is_blank text) word ∙ (ap (λ r. action_word a ++ 32 ∷ r) rest ∙ ap (λ (s : Step). step_text (task s)) (sym is))),
      is ∙ ap (λ (s : Step). waiting_step (task s)) (sym is),
      rw is named,
    )
