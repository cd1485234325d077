-- A part of a journal that is refused by its first line.
use Rattle.std.proofs.Common.{◌≡◌, ◌∙◌, ◌⊎◌, ap, inl, inr, refl, subst, sym, ℕ, Bool, false, true, List, [], ◌∷◌}
use Rattle.std.specs.Prelude.{IfSome, None, Option, Some, Vec, option_and_then}
use Rattle.std.specs.declared.alloc.Global.{Global}
use Rattle.clr_journal.specs.Lines.{ended_lines}
use Rattle.clr_chain.specs.Finding.{first_text_of}
use Rattle.clr_chain.specs.First.{other_rules_in, read_first}
use Rattle.clr_chain.specs.Walking.{part_of}
use Rattle.clr_chain.specs.declared.chain_end.ChainEnd.{ChainEnd}
use Rattle.clr_rules.specs.declared.place.Place.{Place}
use Rattle.clr_edge.specs.declared.fault.Fault.{Fault}
use Rattle.clr_edge.specs.declared.fault.Fault.TheVariants.{Journal}
use Rattle.clr_edge.specs.declared.fault.JournalFault.TheVariants.{BadLine}
use Rattle.clr_keeping.specs.Journal.{all_known}
use Rattle.clr_keeping.specs.Parts.{Breaks, BreaksAfter, IsNoFirst, IsNoNext, IsNoPart, IsOfPart, IsOfRules, IsUnreadOr, IsUnreadPart, ReadsLine, first_in, rules_in, walked}
use Rattle.clr_keeping.proofs.PartLines.{known-next}

-- ---- a part

-- what is said of bytes by their first line
first_is : (all text : List ℕ) (rest : List (List ℕ)) → ended_lines all ≡ text ∷ rest → first_in all ≡ read_first text
first_is all text rest is = ap (λ (l : List (List ℕ)). option_and_then read_first (first_text_of l)) is

rules_are : (all text : List ℕ) (rest : List (List ℕ)) → ended_lines all ≡ text ∷ rest → rules_in all ≡ other_rules_in text
rules_are all text rest is = ap (λ (l : List (List ℕ)). option_and_then other_rules_in (first_text_of l)) is

-- it has no line
pub no_line : (bytes after : Option (List ℕ)) → IfSome bytes (ReadsLine None after) → IsUnreadOr IsNoPart bytes (Journal (BadLine 0))
no_line None after none = inr tt
no_line (Some all) after none = inr (inr (refl, none.0))

-- it was not opened or read
pub unread_kind : (fault : Fault) → IsUnreadPart fault → IsOfPart fault
unread_kind fault (inl unopened) = inr (inl unopened)
unread_kind fault (inr (inl memory)) = inl memory
unread_kind fault (inr (inr (inl unread))) = inr (inr (inl unread))
unread_kind fault (inr (inr (inr long))) = inr (inr (inr (inl long)))

-- its first line names other rules
pub names_rules : (bytes after : Option (List ℕ)) (line : Vec ℕ Global) (text : List ℕ) (fault : Fault) → text ≡ line.items → IfSome bytes (ReadsLine (Some line) after)
    → IsOfRules text fault → IsUnreadOr IsNoPart bytes fault
names_rules bytes after line text fault same reads (inl memory) = inl (inr (inl memory))
names_rules None after line text fault same reads (inr (number, is, names)) = inr tt
names_rules (Some all) None line text fault same reads (inr (number, is, names)) = absurd reads.1
names_rules (Some all) (Some rest) line text fault same reads (inr (number, is, names)) =
    inr (inl (number, is, rules_are all line.items (ended_lines rest) reads.0 ∙ ap other_rules_in (sym same) ∙ names))

-- no part is no first part, and none that goes on
pub no_first : (bytes : Option (List ℕ)) (fault : Fault) → IsUnreadOr IsNoPart bytes fault → IsUnreadOr IsNoFirst bytes fault
no_first bytes fault (inl unread) = inl unread
no_first None fault (inr refused) = inr tt
no_first (Some all) fault (inr refused) = inr (inl refused)

pub no_next : (id : List ℕ) (end : ChainEnd) (bytes : Option (List ℕ)) (fault : Fault) → IsUnreadOr IsNoPart bytes fault → IsUnreadOr (IsNoNext id end) bytes fault
no_next id end bytes fault (inl unread) = inl unread
no_next id end None fault (inr refused) = inr tt
no_next id end (Some all) fault (inr refused) = inr (inl refused)

-- its first line is no first line
pub not_first : (bytes after : Option (List ℕ)) (line : Vec ℕ Global) (text : List ℕ) → text ≡ line.items → IfSome bytes (ReadsLine (Some line) after)
    → other_rules_in line.items ≡ None → None ≡ read_first text → IsUnreadOr IsNoFirst bytes (Journal (BadLine 0))
not_first None after line text same reads rules none = inr tt
not_first (Some all) None line text same reads rules none = absurd reads.1
not_first (Some all) (Some rest) line text same reads rules none = inr (inr (
  refl,
  rules_are all line.items (ended_lines rest) reads.0 ∙ rules,
  first_is all line.items (ended_lines rest) reads.0 ∙ ap read_first (sym same) ∙ sym none,
))

-- its first line does not go on
pub stops_there : (id : List ℕ) (end e : ChainEnd) (first : Option Place) (goes : Bool) → (goes, e) ≡ part_of id end first → goes ≡ false → (part_of id end first).0 ≡ false
stops_there id end e first goes part is = sym (ap (λ (p : Bool × ChainEnd). p.0) part) ∙ is

pub not_next : (id : List ℕ) (end : ChainEnd) (bytes after : Option (List ℕ)) (line : Vec ℕ Global) (text : List ℕ) → text ≡ line.items
    → IfSome bytes (ReadsLine (Some line) after) → other_rules_in line.items ≡ None → (part_of id end (read_first text)).0 ≡ false
    → IsUnreadOr (IsNoNext id end) bytes (Journal (BadLine end.turn.last))
not_next id end None after line text same reads rules stops = inr tt
not_next id end (Some all) None line text same reads rules stops = absurd reads.1
not_next id end (Some all) (Some rest) line text same reads rules stops = inr (inr (
  refl,
  rules_are all line.items (ended_lines rest) reads.0 ∙ rules,
  ap (λ (o : Option Place). (part_of id end o).0) (first_is all line.items (ended_lines rest) reads.0 ∙ ap read_first (sym same)) ∙ stops,
))

-- ---- further parts

pub breaks-here : (id : List ℕ) (end : ChainEnd) (one : List ℕ) (rest : List (List ℕ)) (fault : Fault) → IsNoNext id end one fault → BreaksAfter id end (one ∷ rest) fault
unfolding BreaksAfter
breaks-here id end one rest fault refused = inl refused

pub breaks-more : (id : List ℕ) (end next : ChainEnd) (one text : List ℕ) (rest lines : List (List ℕ)) (fault : Fault) → ended_lines one ≡ text ∷ lines
    → part_of id end (read_first text) ≡ (true, next) → BreaksAfter id (walked next lines).1 rest fault → BreaksAfter id end (one ∷ rest) fault
unfolding BreaksAfter
breaks-more id end next one text rest lines fault is part breaks = inr (text, lines, next, is, part, breaks)

-- the next of them is refused
pub next_breaks : (id : List ℕ) (end : ChainEnd) (bytes : Option (List ℕ)) (others : List (Option (List ℕ))) (rest : List (List ℕ)) (fault : Fault)
    → all_known (bytes ∷ others) ≡ Some rest → IfSome bytes (λ all. IsNoNext id end all fault) → BreaksAfter id end rest fault
next_breaks id end bytes others rest fault is refused =
    let (one, after, has, is_after, next) = known-next bytes others rest is in
    let here : IsNoNext id end one fault = subst (λ (b : Option (List ℕ)). IfSome b (λ all. IsNoNext id end all fault)) has refused in
    subst (λ (l : List (List ℕ)). BreaksAfter id end l fault) (sym next) (breaks-here id end one after fault here)

-- ---- a journal

-- its first part is refused
pub first_breaks : (one : Option (List ℕ)) (parts : Option (List (List ℕ))) (fault : Fault) → IsUnreadOr IsNoFirst one fault
    → IsUnreadPart fault ⊎ IfSome one (λ bytes. IfSome parts (λ known. Breaks bytes known fault))
first_breaks one parts fault (inl unread) = inl unread
first_breaks None parts fault (inr refused) = inr tt
first_breaks (Some one) None fault (inr refused) = inr tt
first_breaks (Some one) (Some parts) fault (inr refused) = inr (inl refused)
