-- Words that parse, and what clap says of those that do not.
use Rattle.std.proofs.Common.{◌≡◌, ◌≢◌, ◌∙◌, ap, inl, inr, refl, subst, sym, Bool, true, false, ℕ, List, [], ◌∷◌}
use Rattle.std.specs.declared.alloc.Global.{Global}
use Rattle.std.specs.Prelude.{IfOk, String, Option, Some, None, Result, Ok, Err, option_map, unwrap_or, ◌&&◌}
use Rattle.std.specs.Borrow.{Bor}
use Rattle.clap.specs.Words.{App, HasKind, HasMatchesOf, IsAmong, Kinds, Row, Text, fault_of, found_of, is_simple, is_simple_and_free, kind_of, rows_of, subcommand_of, subcommand_name_of, subcommand_rows, subcommand_rows_of}
use Rattle.clap.specs.declared.parser.matches.ArgMatches.{ArgMatches}
use Rattle.clap.specs.declared.parser.matches.ArgMatches.TheViews.{out-ArgMatches}
use Rattle.clap.specs.declared.error.Error.{Error}
use Rattle.clap.specs.declared.error.kind.ErrorKind.{ErrorKind}
use Rattle.clap.specs.declared.error.kind.ErrorKind.TheVariants as kind
use Rattle.clap.proofs.OnLiterals.{clap_on_literals}
use Rattle.clr_args.specs.Parsed.{AllowAnswer, IsParsed, IsParsedAs, IsSaid, IsUnread, MayAnswer, Parses}
use Rattle.clr_args.specs.Syntax.{gridclear}
use Rattle.clr_args.specs.declared.asked.Asked.{Asked}
use Rattle.clr_args.specs.declared.parsing.Parsed.{Parsed}
use Rattle.clr_args.specs.declared.parsing.Parsed.TheVariants as parsed

-- the kinds of error are known of the program's command line
is_plain_gridclear : is_simple_and_free gridclear ≡ true
unfolding clap_on_literals
is_plain_gridclear = refl

-- the program's command line, however it was made
plain_command : (app : App) → app ≡ gridclear → is_simple_and_free app ≡ true
plain_command app shape = ap is_simple_and_free shape ∙ is_plain_gridclear

-- words that parse have no fault of their own
pub fault_of-parsed : (app : App) (words : List Text) → app ≡ gridclear → (is_simple_and_free app ≡ true → fault_of app words ≡ []) → fault_of gridclear words ≡ []
fault_of-parsed app words shape kinds = ap (λ (a : App). fault_of a words) (sym shape) ∙ kinds (plain_command app shape)

-- the kinds of an error that words gave
pub HasKind-words : (app : App) (words : List Text) (error : Error) → app ≡ gridclear → (is_simple_and_free app ≡ true → HasKind (fault_of app words) error)
    → HasKind (fault_of gridclear words) error
HasKind-words app words error shape kinds =
    let P : App → Type 0 = λ a. HasKind (fault_of a words) error in subst P shape (kinds (plain_command app shape))

-- words in which clap finds an error
said : (kinds : Kinds) (named : Option (Text × List Row)) (error : Error) (result : Parsed) → HasKind kinds error
    → kind_of error ≢ kind.OutOfMemory → IsSaid (kind_of error) result → IsParsed kinds named result
said [] named error result has memory says = elim has [
  | inl ran_out ↦ absurd (memory ran_out)
  | inr among ↦ absurd among
]
said (k ∷ kinds) named error result has memory says = elim has [
  | inl ran_out ↦ absurd (memory ran_out)
  | inr among ↦ (kind_of error, among, says)
]

pub IsParsed-said : {E : Type 0} (kinds : Kinds) (named : Option (Text × List Row)) (error : Error) (result : Result Parsed E) → HasKind kinds error
    → IfOk result (λ _. kind_of error ≢ kind.OutOfMemory) → IfOk result (IsSaid (kind_of error)) → IfOk result (IsParsed kinds named)
IsParsed-said kinds named error (Ok result) has memory says = said kinds named error result has memory says
IsParsed-said kinds named error (Err e) has memory says = tt

-- words that parse, and name a subcommand
pub IsParsed-read : {E : Type 0} (kinds : Kinds) (name : Text) (rows : List Row) (named : Option (Text × List Row)) (result : Result Parsed E) → kinds ≡ []
    → Some (name, rows) ≡ named → IfOk result (IsParsedAs name rows) → IfOk result (IsParsed kinds named)
IsParsed-read kinds name rows named (Ok result) none is read =
    let P : Kinds → Type 0 = λ ks. IsParsed ks named result in
    let Q : Option (Text × List Row) → Type 0 = λ o. IsParsed [] o result in
    subst P (sym none) (subst Q is read)
IsParsed-read kinds name rows named (Err e) none is read = tt

-- or none
pub IsParsed-unnamed : (kinds : Kinds) (named : Option (Text × List Row)) (result : Parsed) → kinds ≡ [] → None ≡ named → IsUnread result
    → IsParsed kinds named result
IsParsed-unnamed kinds named result none is read =
    let P : Kinds → Type 0 = λ ks. IsParsed ks named result in
    let Q : Option (Text × List Row) → Type 0 = λ o. IsParsed [] o result in
    subst P (sym none) (subst Q is read)

-- the subcommand that a parse met, as its matches show it
abbrev pub shown : Option (Bor (List ℕ) × Bor ArgMatches) → Option (Text × List Row)
shown met = option_map (λ p. (p.0.now, rows_of (found_of p.1.now))) met

pairs : (met : Option (Bor (List ℕ) × Bor ArgMatches)) (sub : Option (Text × List Row))
    → option_map (λ p. p.0.now) met ≡ option_map (λ p. p.0) sub
    → option_map (λ p. rows_of (found_of p.1.now)) met ≡ option_map (λ p. p.1) sub
    → shown met ≡ sub
pairs None None name rows = refl
pairs None (Some q) name rows = absurd (cc name)
pairs (Some p) None name rows = absurd (cc name)
pairs (Some p) (Some q) name rows = λ i. Some (some_path name i, some_path rows i)
  where
    some_path : {A : Type 0} {a b : A} → Some a ≡ Some b → a ≡ b
    some_path {A} {a} {b} e = ap (λ o. unwrap_or o a) e

twice : {A B C : Type 0} (f : A → B) (g : B → C) (o : Option A) → option_map g (option_map f o) ≡ option_map (λ a. g (f a)) o
twice f g None = refl
twice f g (Some a) = refl

-- the subcommand that a parse met is the one that the words name
pub subcommand_of-met : (app : App) (words : List Text) (m : ArgMatches) (met : Option (Bor Text × Bor ArgMatches)) → app ≡ gridclear
    → HasMatchesOf app words m
    → option_map (λ p. p.0.now) met ≡ subcommand_name_of m
    → option_map (λ p. rows_of (found_of p.1.now)) met ≡ option_map (λ p. p.1) (subcommand_rows (out-ArgMatches m).subcommand)
    → shown met ≡ subcommand_of gridclear words
subcommand_of-met app words m met shape has name rows =
    pairs met (subcommand_rows_of m) (name ∙ sym (twice _ (λ p. p.0) (out-ArgMatches m).subcommand)) rows
    ∙ (has (and_left (is_simple app) _ (plain_command app shape))).1
    ∙ ap (λ (a : App). subcommand_of a words) shape
  where
    and_left : (a b : Bool) → (a && b) ≡ true → a ≡ true
    and_left true b e = refl
    and_left false b e = absurd (cc e)

-- ---- which words may have an answer

said_of_asked : (found : ErrorKind) (what : Asked) → IsSaid found (parsed.Asked what) → ⊥
said_of_asked kind.DisplayHelp what says = says
said_of_asked kind.DisplayVersion what says = says
said_of_asked _ what says = says

asked_allows : (kinds : Kinds) (named : Option (Text × List Row)) (what : Asked) → IsParsed kinds named (parsed.Asked what) → AllowAnswer kinds
asked_allows [] named what is = inl refl
asked_allows (k ∷ kinds) named what (found, among, says) = absurd (said_of_asked found what says)

said_of_help : (found : ErrorKind) (kinds : Kinds) (text : String Global) → IsAmong found kinds → IsSaid found (parsed.Help text) → AllowAnswer kinds
said_of_help kind.DisplayHelp kinds text among says = inr (inl among)
said_of_help kind.DisplayVersion kinds text among says = inr (inr among)
said_of_help _ kinds text among says = absurd says

help_allows : (kinds : Kinds) (named : Option (Text × List Row)) (text : String Global) → IsParsed kinds named (parsed.Help text) → AllowAnswer kinds
help_allows [] (Some (name, rows)) text is = absurd is
help_allows [] None text is = absurd is
help_allows (k ∷ kinds) named text (found, among, says) = said_of_help found (k ∷ kinds) text among says

-- all but those that do not parse
pub MayAnswer-parsed : (words : List Text) (result : Parsed) → Parses words result → (IsUnread result → ⊥) → MayAnswer words
MayAnswer-parsed words (parsed.Asked what) is read = asked_allows _ _ what is
MayAnswer-parsed words (parsed.Help text) is read = help_allows _ _ text is
MayAnswer-parsed words (parsed.Unread text) is read = absurd (read tt)
