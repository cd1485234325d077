-- The texts of a value that was read from a text are texts.
use Rattle.std.proofs.Common.{◌≡◌, ◌∙◌, ◌&&◌, ◌+◌, ◌==◌, ℕ, zero, suc, Bool, true, false, cond, List, [], ◌∷◌, ◌++◌, length, Option, None, Some, IsUtf8, Ordering, Less, Equal, Greater, option_map, option_and_then, nat_cmp, nat_eq, refl, ap, sym, subst, arith, append_assoc, eqb-true, drop, length-append, get_or}
use Rattle.std.proofs.lemmas.List.{drop_at}
use Rattle.std.proofs.lemmas.Str.{IsUtf8-drop, IsUtf8-from_is_utf8, IsCharBoundary-after_ascii}
use Rattle.std.specs.Cmp.Lexicographic.{slice_cmp}
use Rattle.std.specs.List.{starts_with}
use Rattle.std.specs.Ordering.{match_ordering}
use Rattle.std.specs.Prelude.{⊤}
use Rattle.std.specs.Str.{is_utf8}
use Rattle.json.specs.Ascii as ascii
use Rattle.json.specs.Json as json
use Rattle.json.specs.Json.{Parse, parse_map, after_end_array, read_key, items_step, members_step, items, members, value_with, value, if_last}
use Rattle.json.specs.Lex.{Class, Lexeme, Mode, Place, after_comma, after_key, after_value, between, begins_colon, class, colon, comma, fresh, if_allowed, in_escape, in_string, in_word, lex, lex_byte, may_begin, may_close, operator, operator_lexeme, other, backslash, space, quote, place_token, punctuate, string_token, token, tokens}
use Rattle.json.specs.Text.{content, plain}
use Rattle.json.specs.Token.{Token}
use Rattle.json.specs.Word.{after_number, ends_word, head, is_operator, is_space, literal, number_before, word}
use Rattle.serde_json.specs.Data.{Data, Items, Members, array, boolean, item, member, no_items, no_members, null, number, object, put, string}
use Rattle.serde_json.specs.Find.{as_str, get, get_member}
use Rattle.serde_json.specs.Read.{max_depth, number_of, of_items, of_json, of_members, read}
use Rattle.clr_text.proofs.ContentTexts.{content_is_text}
use Rattle.clr_text.specs.Reading.{value_of}

-- ---- tokens

abbrev TokenIsText : Token → Type 0
TokenIsText Token.begin_object = ⊤
TokenIsText Token.end_object = ⊤
TokenIsText Token.begin_array = ⊤
TokenIsText Token.end_array = ⊤
TokenIsText (Token.key s) = ⊤
TokenIsText (Token.string s) = IsUtf8 s
TokenIsText (Token.number s) = ⊤
TokenIsText (Token.boolean b) = ⊤
TokenIsText Token.null = ⊤
TokenIsText Token.bad = ⊤

abbrev AreTexts : List Token → Type 0
AreTexts [] = ⊤
AreTexts (t ∷ ts) = TokenIsText t × AreTexts ts

abbrev LexemeIsText : Lexeme → Type 0
LexemeIsText (token t) = TokenIsText t
LexemeIsText comma = ⊤
LexemeIsText colon = ⊤

abbrev AreTextLexemes : List Lexeme → Type 0
AreTextLexemes [] = ⊤
AreTextLexemes (l ∷ ls) = LexemeIsText l × AreTextLexemes ls

either_token : (b : Bool) (t u : Token) → TokenIsText t → TokenIsText u → TokenIsText (cond b t u)
either_token true t u h k = h
either_token false t u h k = k

either_lexeme : (b : Bool) (l m : Lexeme) → LexemeIsText l → LexemeIsText m → LexemeIsText (cond b l m)
either_lexeme true l m h k = h
either_lexeme false l m h k = k

number_word : (t : List ℕ) (o : Option (List ℕ)) → TokenIsText (number_before t o)
number_word t None = tt
number_word t (Some rest) = either_token (ends_word rest) _ _ tt tt

literal_word : (name : List ℕ) (k : Token) (t : List ℕ) → TokenIsText k → TokenIsText (literal name k t)
literal_word name k t h = either_token (starts_with nat_eq t name && ends_word (drop (length name) t)) k Token.bad h tt

word_is_text : (t : List ℕ) → TokenIsText (word t)
unfolding word
word_is_text t =
    either_token (head t == ascii.lower_t) _ _ (literal_word ascii.true_text (Token.boolean true) t tt)
    (either_token (head t == ascii.lower_f) _ _ (literal_word ascii.false_text (Token.boolean false) t tt)
    (either_token (head t == ascii.lower_n) _ _ (literal_word ascii.null_text Token.null t tt) (number_word t (after_number t))))

operator_is_text : (x : ℕ) → LexemeIsText (operator_lexeme x)
operator_is_text x =
    either_lexeme (x == ascii.open_brace) _ _ tt (either_lexeme (x == ascii.close_brace) _ _ tt (either_lexeme (x == ascii.open_bracket) _ _ tt
    (either_lexeme (x == ascii.close_bracket) _ _ tt (either_lexeme (x == ascii.comma) _ _ tt tt))))

string_is_text : (xs : List ℕ) (o : Option (List ℕ)) → content plain xs ≡ o → IsUtf8 xs → TokenIsText (string_token o)
string_is_text xs None is text = tt
string_is_text xs (Some s) is text = content_is_text xs s text is

class_at : (b34 b92 operates blank : Bool) → cond b34 quote (cond b92 backslash (cond operates operator (cond blank space other))) ≡ quote → b34 ≡ true
class_at true b92 operates blank h = refl
class_at false true operates blank h = cc
class_at false false true blank h = cc
class_at false false false true h = cc
class_at false false false false h = cc

quote_is : (x : ℕ) → class x ≡ quote → x ≡ 34
quote_is x h = eqb-true x 34 (class_at (x == ascii.quote) (x == ascii.backslash) (is_operator x) (is_space x) h)

byte_is_text : (m : Mode) (c : Class) (x : ℕ) (xs : List ℕ) (k : Mode → List Lexeme) → (c ≡ quote → IsUtf8 xs) → ((next : Mode) → AreTextLexemes (k next))
    → AreTextLexemes (lex_byte m c x xs k)
byte_is_text between quote x xs k text more = (string_is_text xs (content plain xs) refl (text refl), more in_string)
byte_is_text between backslash x xs k text more = (tt, more in_word)
byte_is_text between operator x xs k text more = (operator_is_text x, more between)
byte_is_text between space x xs k text more = more between
byte_is_text between other x xs k text more = (word_is_text (x ∷ xs), more in_word)
byte_is_text in_word quote x xs k text more = more in_word
byte_is_text in_word backslash x xs k text more = more in_word
byte_is_text in_word operator x xs k text more = (operator_is_text x, more between)
byte_is_text in_word space x xs k text more = more between
byte_is_text in_word other x xs k text more = more in_word
byte_is_text in_string quote x xs k text more = more between
byte_is_text in_string backslash x xs k text more = more in_escape
byte_is_text in_string operator x xs k text more = more in_string
byte_is_text in_string space x xs k text more = more in_string
byte_is_text in_string other x xs k text more = more in_string
byte_is_text in_escape c x xs k text more = more in_string

get_at : (front : List ℕ) (x : ℕ) (xs : List ℕ) → get_or (front ++ x ∷ xs) (length front) 0 ≡ x
get_at [] x xs = refl
get_at (y ∷ front) x xs = get_at front x xs

past : (front : List ℕ) (x : ℕ) (xs : List ℕ) → drop (length front + 1) (front ++ x ∷ xs) ≡ xs
past front x xs =
    ap (λ l. drop (length front + 1) l) (sym (append_assoc front (x ∷ []) xs))
    ∙ drop_at (front ++ x ∷ []) xs (length front + 1) (length-append front (x ∷ []))

-- what comes after an ASCII byte of a text is a text
behind_ascii : (front : List ℕ) (x : ℕ) (xs : List ℕ) → IsUtf8 (front ++ x ∷ xs) → x ≡ 34 → IsUtf8 xs
behind_ascii front x xs text is =
    let whole = front ++ x ∷ xs in
    let here : get_or whole (length front) 0 ≡ x = get_at front x xs in
    let inside = length-append front (x ∷ xs) in
    let edge = IsCharBoundary-after_ascii whole (length front) text (omega (arith, inside)) (omega (arith, here, is)) in
    subst IsUtf8 (past front x xs) (IsUtf8-drop whole (length front + 1) text edge)

lexemes_are_texts : (m : Mode) (front xs : List ℕ) → IsUtf8 (front ++ xs) → AreTextLexemes (lex m xs)
unfolding lex
lexemes_are_texts m front [] text = tt
lexemes_are_texts m front (x ∷ xs) text =
    byte_is_text m (class x) x xs (λ next. lex next xs) (λ is. behind_ascii front x xs text (quote_is x is))
    (λ next. lexemes_are_texts next (front ++ x ∷ []) xs (subst IsUtf8 (sym (append_assoc front (x ∷ []) xs)) text))

allowed_is_text : (b : Bool) (t : Token) (k : Place → List Token) (next : Place) → TokenIsText t → ((p : Place) → AreTexts (k p)) → AreTexts (if_allowed b t k next)
allowed_is_text true t k next h more = (h, more next)
allowed_is_text false t k next h more = (tt, tt)

placed_is_text : (p : Place) (t : Token) (b : Bool) (k : Place → List Token) → TokenIsText t → ((q : Place) → AreTexts (k q)) → AreTexts (place_token p t b k)
placed_is_text p Token.begin_object b k h more = allowed_is_text (may_begin p) _ k fresh tt more
placed_is_text p Token.end_object b k h more = allowed_is_text (may_close p) _ k after_value tt more
placed_is_text p Token.begin_array b k h more = allowed_is_text (may_begin p) _ k fresh tt more
placed_is_text p Token.end_array b k h more = allowed_is_text (may_close p) _ k after_value tt more
placed_is_text p (Token.key s) b k h more = (tt, tt)
placed_is_text p (Token.string s) true k h more = allowed_is_text (may_begin p) (Token.key s) k after_key tt more
placed_is_text p (Token.string s) false k h more = allowed_is_text (may_begin p) (Token.string s) k after_value h more
placed_is_text p (Token.number s) b k h more = allowed_is_text (may_begin p) _ k after_value tt more
placed_is_text p (Token.boolean c) b k h more = allowed_is_text (may_begin p) _ k after_value tt more
placed_is_text p Token.null b k h more = allowed_is_text (may_begin p) _ k after_value tt more
placed_is_text p Token.bad b k h more = (tt, tt)

punctuated_are_texts : (p : Place) (ls : List Lexeme) → AreTextLexemes ls → AreTexts (punctuate p ls)
unfolding punctuate
punctuated_are_texts fresh [] h = tt
punctuated_are_texts after_value [] h = tt
punctuated_are_texts after_comma [] h = (tt, tt)
punctuated_are_texts after_key [] h = (tt, tt)
punctuated_are_texts fresh (token t ∷ ls) h = placed_is_text fresh t (begins_colon ls) _ h.0 (λ next. punctuated_are_texts next ls h.1)
punctuated_are_texts after_value (token t ∷ ls) h = placed_is_text after_value t (begins_colon ls) _ h.0 (λ next. punctuated_are_texts next ls h.1)
punctuated_are_texts after_comma (token t ∷ ls) h = placed_is_text after_comma t (begins_colon ls) _ h.0 (λ next. punctuated_are_texts next ls h.1)
punctuated_are_texts after_key (token t ∷ ls) h = placed_is_text after_key t (begins_colon ls) _ h.0 (λ next. punctuated_are_texts next ls h.1)
punctuated_are_texts fresh (comma ∷ ls) h = (tt, tt)
punctuated_are_texts after_value (comma ∷ ls) h = punctuated_are_texts after_comma ls h.1
punctuated_are_texts after_comma (comma ∷ ls) h = (tt, tt)
punctuated_are_texts after_key (comma ∷ ls) h = (tt, tt)
punctuated_are_texts fresh (colon ∷ ls) h = (tt, tt)
punctuated_are_texts after_value (colon ∷ ls) h = (tt, tt)
punctuated_are_texts after_comma (colon ∷ ls) h = (tt, tt)
punctuated_are_texts after_key (colon ∷ ls) h = punctuated_are_texts fresh ls h.1

-- ---- the grammar

abbrev mutual
  JsonIsText : json.Json → Type 0
  JsonIsText json.null = ⊤
  JsonIsText (json.boolean b) = ⊤
  JsonIsText (json.number s) = ⊤
  JsonIsText (json.string s) = IsUtf8 s
  JsonIsText (json.array js) = ItemsAreTexts js
  JsonIsText (json.object ms) = MembersAreTexts ms

  ItemsAreTexts : json.Items → Type 0
  ItemsAreTexts json.no_items = ⊤
  ItemsAreTexts (json.item j js) = JsonIsText j × ItemsAreTexts js

  MembersAreTexts : json.Members → Type 0
  MembersAreTexts json.no_members = ⊤
  MembersAreTexts (json.member k j ms) = JsonIsText j × MembersAreTexts ms

-- what was read is made of texts, and so is what is left
abbrev Both : {A : Type 0} → (A → Type 0) → Option (A × List Token) → Type 0
Both good None = ⊤
Both good (Some p) = good p.0 × AreTexts p.1

abbrev Keeps : {A : Type 0} → (A → Type 0) → Parse A → Type 0
Keeps good p = (ts : List Token) → AreTexts ts → Both good (p ts)

mapped : {A B : Type 0} (f : A → Type 0) (g : B → Type 0) (h : A → B) → ((a : A) → f a → g (h a)) → (o : Option (A × List Token)) → Both f o → Both g (parse_map h o)
mapped f g h k None x = tt
mapped f g h k (Some p) x = (k p.0 x.0, x.1)

and_more : {B : Type 0} (g : B → Type 0) (h : json.Json → B → B) → ((j : json.Json) (b : B) → JsonIsText j → g b → g (h j b)) → (more : Parse B) → Keeps g more
    → (o : Option (json.Json × List Token)) → Both JsonIsText o → Both g (option_and_then (λ q. parse_map (h q.0) (more q.1)) o)
and_more g h both more keeps None x = tt
and_more g h both more keeps (Some q) x = mapped g g (h q.0) (λ b y. both q.0 b x.0 y) _ (keeps q.1 x.1)

after_end_is : (ts : List Token) → AreTexts ts → (o : Option (List Token)) → after_end_array ts ≡ o → (r : List Token) → o ≡ Some r → AreTexts r
after_end_is [] h o is r e = cc
after_end_is (Token.begin_object ∷ ts) h o is r e = cc
after_end_is (Token.end_object ∷ ts) h o is r e = cc
after_end_is (Token.begin_array ∷ ts) h o is r e = cc
after_end_is (Token.end_array ∷ ts) h o is r e = let same : ts ≡ r = cc in subst AreTexts same h.1
after_end_is (Token.key s ∷ ts) h o is r e = cc
after_end_is (Token.string s ∷ ts) h o is r e = cc
after_end_is (Token.number s ∷ ts) h o is r e = cc
after_end_is (Token.boolean b ∷ ts) h o is r e = cc
after_end_is (Token.null ∷ ts) h o is r e = cc
after_end_is (Token.bad ∷ ts) h o is r e = cc

key_rest : (ts : List Token) → AreTexts ts → Both (λ k. ⊤) (read_key ts)
key_rest [] h = tt
key_rest (Token.begin_object ∷ ts) h = tt
key_rest (Token.end_object ∷ ts) h = (tt, h.1)
key_rest (Token.begin_array ∷ ts) h = tt
key_rest (Token.end_array ∷ ts) h = tt
key_rest (Token.key s ∷ ts) h = (tt, h.1)
key_rest (Token.string s ∷ ts) h = tt
key_rest (Token.number s ∷ ts) h = tt
key_rest (Token.boolean b ∷ ts) h = tt
key_rest (Token.null ∷ ts) h = tt
key_rest (Token.bad ∷ ts) h = tt

module _ (p : Parse json.Json) (keeps : Keeps JsonIsText p) where
  item_turn : (more : Parse json.Items) → Keeps ItemsAreTexts more → (ts : List Token) → AreTexts ts → (o : Option (List Token)) → after_end_array ts ≡ o
      → Both ItemsAreTexts (items_step p more ts o)
  item_turn more again ts h (Some r) is = (tt, after_end_is ts h (Some r) is r refl)
  item_turn more again ts h None is = and_more ItemsAreTexts json.item (λ j b x y. (x, y)) more again (p ts) (keeps ts h)

  items_keep : (n : ℕ) → Keeps ItemsAreTexts (items p n)
  unfolding items
  items_keep zero ts h = tt
  items_keep (suc n) ts h = item_turn (items p n) (items_keep n) ts h (after_end_array ts) refl

  member_turn : (more : Parse json.Members) → Keeps MembersAreTexts more → (o : Option (Option (List ℕ) × List Token)) → Both (λ k. ⊤) o
      → Both MembersAreTexts (option_and_then (λ q. members_step p more q.0 q.1) o)
  member_turn more again None h = tt
  member_turn more again (Some (None, s)) h = (tt, h.1)
  member_turn more again (Some (Some k, s)) h = and_more MembersAreTexts (json.member k) (λ j b x y. (x, y)) more again (p s) (keeps s h.1)

  members_keep : (n : ℕ) → Keeps MembersAreTexts (members p n)
  unfolding members
  members_keep zero ts h = tt
  members_keep (suc n) ts h = member_turn (members p n) (members_keep n) (read_key ts) (key_rest ts h)

one_level : (a : Parse json.Items) (o : Parse json.Members) → Keeps ItemsAreTexts a → Keeps MembersAreTexts o → Keeps JsonIsText (value_with a o)
one_level a o p q [] h = tt
one_level a o p q (Token.begin_object ∷ ts) h = mapped MembersAreTexts JsonIsText json.object (λ ms x. x) (o ts) (q ts h.1)
one_level a o p q (Token.end_object ∷ ts) h = tt
one_level a o p q (Token.begin_array ∷ ts) h = mapped ItemsAreTexts JsonIsText json.array (λ js x. x) (a ts) (p ts h.1)
one_level a o p q (Token.end_array ∷ ts) h = tt
one_level a o p q (Token.key s ∷ ts) h = tt
one_level a o p q (Token.string s ∷ ts) h = (h.0, h.1)
one_level a o p q (Token.number s ∷ ts) h = (tt, h.1)
one_level a o p q (Token.boolean b ∷ ts) h = (tt, h.1)
one_level a o p q (Token.null ∷ ts) h = (tt, h.1)
one_level a o p q (Token.bad ∷ ts) h = tt

value_keeps : (d : ℕ) → Keeps JsonIsText (value d)
unfolding value
value_keeps zero = one_level (λ ts. None) (λ ts. None) (λ ts h. tt) (λ ts h. tt)
value_keeps (suc d) =
    one_level (λ ts. items (value d) (length ts) ts) (λ ts. members (value d) (length ts) ts)
    (λ ts h. items_keep (value d) (value_keeps d) (length ts) ts h) (λ ts h. members_keep (value d) (value_keeps d) (length ts) ts h)

-- ---- the data

abbrev mutual
  pub DataIsText : Data → Type 0
  DataIsText null = ⊤
  DataIsText (boolean b) = ⊤
  DataIsText (number n) = ⊤
  DataIsText (string s) = IsUtf8 s
  DataIsText (array ds) = DatasAreTexts ds
  DataIsText (object ms) = ValuesAreTexts ms

  pub DatasAreTexts : Items → Type 0
  DatasAreTexts no_items = ⊤
  DatasAreTexts (item d ds) = DataIsText d × DatasAreTexts ds

  pub ValuesAreTexts : Members → Type 0
  ValuesAreTexts no_members = ⊤
  ValuesAreTexts (member k d ms) = DataIsText d × ValuesAreTexts ms

abbrev If : {A : Type 0} → (A → Type 0) → Option A → Type 0
If good None = ⊤
If good (Some a) = good a

if_mapped : {A B : Type 0} (f : A → Type 0) (g : B → Type 0) (h : A → B) → ((a : A) → f a → g (h a)) → (o : Option A) → If f o → If g (option_map h o)
if_mapped f g h k None x = tt
if_mapped f g h k (Some a) x = k a x

if_then : {A B : Type 0} (f : A → Type 0) (g : B → Type 0) (h : A → Option B) → ((a : A) → f a → If g (h a)) → (o : Option A) → If f o → If g (option_and_then h o)
if_then f g h k None x = tt
if_then f g h k (Some a) x = k a x

any : {A : Type 0} (o : Option A) → If (λ a. ⊤) o
any None = tt
any (Some a) = tt

put_at : (o : Ordering) (k l : List ℕ) (d e : Data) (ms : Members) → DataIsText d → ValuesAreTexts (member l e ms) → ValuesAreTexts (put k d ms)
    → ValuesAreTexts (match_ordering o (member k d (member l e ms)) (member l d ms) (member l e (put k d ms)))
put_at Less k l d e ms h all more = (h, all)
put_at Equal k l d e ms h all more = (h, all.1)
put_at Greater k l d e ms h all more = (all.0, more)

put_is_text : (k : List ℕ) (d : Data) (ms : Members) → DataIsText d → ValuesAreTexts ms → ValuesAreTexts (put k d ms)
put_is_text k d no_members h all = (h, tt)
put_is_text k d (member l e ms) h all = put_at (slice_cmp nat_cmp k l) k l d e ms h all (put_is_text k d ms h all.1)

mutual
  data_is_text : (j : json.Json) → JsonIsText j → If DataIsText (of_json j)
  data_is_text json.null h = tt
  data_is_text (json.boolean b) h = tt
  data_is_text (json.number s) h = if_mapped (λ n. ⊤) DataIsText number (λ n x. tt) (number_of s) (any _)
  data_is_text (json.string s) h = h
  data_is_text (json.array js) h = if_mapped DatasAreTexts DataIsText array (λ ds x. x) (of_items js) (datas_are_texts js h)
  data_is_text (json.object ms) h = if_mapped ValuesAreTexts DataIsText object (λ ds x. x) (of_members ms no_members) (values_are_texts ms no_members h tt)

  datas_are_texts : (js : json.Items) → ItemsAreTexts js → If DatasAreTexts (of_items js)
  datas_are_texts json.no_items h = tt
  datas_are_texts (json.item j js) h =
      if_then DataIsText DatasAreTexts (λ d. option_map (item d) (of_items js))
      (λ d x. if_mapped DatasAreTexts DatasAreTexts (item d) (λ ds y. (x, y)) (of_items js) (datas_are_texts js h.1)) (of_json j) (data_is_text j h.0)

  values_are_texts : (ms : json.Members) (found : Members) → MembersAreTexts ms → ValuesAreTexts found → If ValuesAreTexts (of_members ms found)
  values_are_texts json.no_members found h all = all
  values_are_texts (json.member k j ms) found h all =
      if_then DataIsText ValuesAreTexts (λ d. of_members ms (put k d found)) (λ d x. values_are_texts ms (put k d found) h.1 (put_is_text k d found x all)) (of_json j)
      (data_is_text j h.0)

last_is_text : (o : Option (json.Json × List Token)) → Both JsonIsText o → If JsonIsText (option_and_then (λ p. if_last p.0 p.1) o)
last_is_text None h = tt
last_is_text (Some (j, [])) h = h.0
last_is_text (Some (j, t ∷ ts)) h = tt

read_is_text : (bytes : List ℕ) → IsUtf8 bytes → If DataIsText (read bytes)
read_is_text bytes text =
    let found = tokens bytes in
    let texts : AreTexts found = punctuated_are_texts fresh (lex between bytes) (lexemes_are_texts between [] bytes text) in
    if_then JsonIsText DataIsText of_json (λ j x. data_is_text j x) (option_and_then (λ p. if_last p.0 p.1) (value max_depth found))
    (last_is_text (value max_depth found) (value_keeps max_depth found texts))

-- ---- a text at a key

found_at : (o : Ordering) (v : Data) (rest : Option Data) → DataIsText v → If DataIsText rest → If DataIsText (match_ordering o rest (Some v) rest)
found_at Less v rest h more = more
found_at Equal v rest h more = h
found_at Greater v rest h more = more

member_is_text : (k : List ℕ) (ms : Members) → ValuesAreTexts ms → If DataIsText (get_member k ms)
member_is_text k no_members h = tt
member_is_text k (member l d ms) h = found_at (slice_cmp nat_cmp k l) d (get_member k ms) h.0 (member_is_text k ms h.1)

got_is_text : (k : List ℕ) (d : Data) → DataIsText d → If DataIsText (get k d)
got_is_text k null h = tt
got_is_text k (boolean b) h = tt
got_is_text k (number n) h = tt
got_is_text k (string s) h = tt
got_is_text k (array ds) h = tt
got_is_text k (object ms) h = member_is_text k ms h

as_text : (d : Data) → DataIsText d → If IsUtf8 (as_str d)
as_text null h = tt
as_text (boolean b) h = tt
as_text (number n) h = tt
as_text (string s) h = h
as_text (array ds) h = tt
as_text (object ms) h = tt

pub text_is_text : (d : Data) (s : List ℕ) → DataIsText d → as_str d ≡ Some s → IsUtf8 s
text_is_text d s whole is = subst (If IsUtf8) is (as_text d whole)

-- the values of a value of texts are values of texts
pub value_at_key : (d : Data) (k : List ℕ) (v : Data) → DataIsText d → get k d ≡ Some v → DataIsText v
value_at_key d k v whole there = subst (If DataIsText) there (got_is_text k d whole)

value_by : (utf8 : Bool) (bytes : List ℕ) (d : Data) → is_utf8 bytes ≡ utf8 → cond utf8 (read bytes) None ≡ Some d → DataIsText d
value_by true bytes d is reads = subst (If DataIsText) reads (read_is_text bytes (IsUtf8-from_is_utf8 bytes is))
value_by false bytes d is reads = cc

-- what a text reads as is a value of texts
pub value_is_text : (bytes : List ℕ) (d : Data) → value_of bytes ≡ Some d → DataIsText d
unfolding value_of
value_is_text bytes d reads = value_by (is_utf8 bytes) bytes d refl reads
