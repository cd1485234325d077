-- The parts of an ASCII target are text, and so is the text of each route.
use Rattle.std.proofs.Common.{◌≡◌, refl, ℕ, List, [], ◌∷◌, take, drop, ◌-◌, length, Bool, true, false, cond, Option, Some, None, IfSome, zero, suc, subst, rules, IsAscii, IsUtf8}
use Rattle.std.specs.Char.{is_ascii}
use Rattle.clr_rules.proofs.Common.{list_all, and_parts}
use Rattle.std.proofs.lemmas.Str.{IsUtf8-from_ascii, IsUtf8-nil, IsAscii-take, IsAscii-drop}
use Rattle.std.proofs.lemmas.Str.Ascii.{IsAscii-nil, IsAscii-cons}
use Rattle.matchit.proofs.OnLiterals.{matchit_on_literals}
use Rattle.matchit.specs.Router.{RouteOf}
use Rattle.clr_http.specs.Target.{desk_routes, routes_of, the_routes}
use Rattle.clr_http.specs.declared.target.Route.{Route}
use Rattle.matchit.specs.Params.{walk, part_of, AllText}
use Rattle.matchit.specs.Rows.{RowsOf, param_token, catch_all_token}
use Rattle.matchit.specs.Seek.{first, longest_suffix, or_else, own, param_step, seek, segment, step, has_slash, with_suffix}

text_if : (b : Bool) (n start : ℕ) (bytes : List ℕ) → IsAscii bytes → IsUtf8 (cond b (take n (drop start bytes)) [])
text_if true n start bytes a = IsUtf8-from_ascii _ (IsAscii-take _ n (IsAscii-drop bytes start a))
text_if false n start bytes a = IsUtf8-nil

text_part : (bytes : List ℕ) (start end : ℕ) → IsAscii bytes → IsUtf8 (part_of bytes start end)
text_part bytes start end a = text_if _ (end - start) start bytes a

pub all_text : (pattern text path : List ℕ) (names : List (ℕ × ℕ)) (token at : ℕ) → IsAscii text → IsAscii path → AllText (walk pattern text path names token at)
all_text pattern text path [] token at t p = tt
all_text pattern text path (name ∷ rest) token at t p = (text_part text name.0 name.1 t, text_part path _ _ p, all_text pattern text path rest _ _ t p)

-- the test for ASCII, byte by byte
pub ascii_from_test : (bytes : List ℕ) → list_all is_ascii bytes ≡ true → IsAscii bytes
ascii_from_test [] e = IsAscii-nil
ascii_from_test (b ∷ bytes) e =
    let (here, later) = and_parts (is_ascii b) (list_all is_ascii bytes) e in
    IsAscii-cons b bytes (search (here, rules)) (ascii_from_test bytes later)

-- what a path finds has what all routes have
module _ {K : Type 0} (test : K → Bool) where
  abbrev pub all_keys : RowsOf K → Bool
  all_keys rows = list_all (λ row. test row.1) rows

  abbrev pub passes : Option K → Type 0
  passes found = IfSome found (λ key. test key ≡ true)

  own_passes : (rows : RowsOf K) → all_keys rows ≡ true → passes (own rows)
  own_passes [] e = tt
  own_passes (([], key) ∷ rest) e = (and_parts (test key) (all_keys rest) e).0
  own_passes ((x ∷ t, key) ∷ rest) e = own_passes rest (and_parts (test key) (all_keys rest) e).1

  if_kept : (b : Bool) (t : List ℕ) (key : K) (rest : RowsOf K) → test key ≡ true → all_keys rest ≡ true
      → all_keys (cond b ((t, key) ∷ rest) rest) ≡ true
  if_kept true t key rest here later = rw (here, later) refl
  if_kept false t key rest here later = later

  step_keeps : (b : ℕ) (rows : RowsOf K) → all_keys rows ≡ true → all_keys (step b rows) ≡ true
  step_keeps b [] e = refl
  step_keeps b (([], key) ∷ rest) e = step_keeps b rest (and_parts (test key) (all_keys rest) e).1
  step_keeps b ((x ∷ t, key) ∷ rest) e =
      let (here, later) = and_parts (test key) (all_keys rest) e in
      if_kept _ t key (step b rest) here (step_keeps b rest later)

  suffix_keeps : (suffix : List ℕ) (rows : RowsOf K) → all_keys rows ≡ true → all_keys (with_suffix suffix rows) ≡ true
  suffix_keeps suffix [] e = refl
  suffix_keeps suffix ((t, key) ∷ rest) e =
      let (here, later) = and_parts (test key) (all_keys rest) e in
      if_kept _ t key (with_suffix suffix rest) here (suffix_keeps suffix rest later)

  pair_keeps : (b c : Bool) (n m : ℕ) (few rows : RowsOf K) → all_keys few ≡ true → all_keys rows ≡ true
      → all_keys (cond {A = ℕ × RowsOf K} b (n, few) (cond c (0, []) (m, rows))).1 ≡ true
  pair_keeps true c n m few rows f e = f
  pair_keeps false true n m few rows f e = refl
  pair_keeps false false n m few rows f e = e

  param_keeps : (rows : RowsOf K) (path : List ℕ) → all_keys rows ≡ true → all_keys (param_step rows path).1 ≡ true
  unfolding param_step
  param_keeps rows path e = pair_keeps _ (has_slash path) _ (length path) _ rows (suffix_keeps (longest_suffix (segment path) rows) rows e) e

  or_passes : (a b : Option K) → passes a → passes b → passes (or_else a b)
  or_passes None b p q = q
  or_passes (Some key) b p q = p

  seek_passes : (skip : ℕ) (rows : RowsOf K) (path : List ℕ) → all_keys rows ≡ true → passes (seek skip rows path)
  unfolding seek
  seek_passes skip rows [] e = own_passes rows e
  seek_passes (suc skip) rows (b ∷ path) e = seek_passes skip rows path e
  seek_passes zero rows (b ∷ path) e =
      let after = param_keeps (step param_token rows) (b ∷ path) (step_keeps param_token rows e) in
      or_passes _ _ (seek_passes 0 (step b rows) path (step_keeps b rows e))
      (or_passes _ _ (seek_passes _ _ path after) (own_passes (step catch_all_token rows) (step_keeps catch_all_token rows e)))

  pub first_passes : (rows : RowsOf K) (path : List ℕ) → all_keys rows ≡ true → passes (first rows path)
  first_passes rows path e = seek_passes 0 rows path e

-- the texts of the routes
pub routes_are_ascii : all_keys (λ (r : RouteOf Route). list_all is_ascii r.text) the_routes ≡ true
unfolding matchit_on_literals the_routes
routes_are_ascii = refl

desk_routes_are_ascii : all_keys (λ (r : RouteOf Route). list_all is_ascii r.text) desk_routes ≡ true
unfolding matchit_on_literals the_routes desk_routes
desk_routes_are_ascii = refl

all_are_ascii : (desk : Bool) → all_keys (λ (r : RouteOf Route). list_all is_ascii r.text) (routes_of desk) ≡ true
all_are_ascii true = desk_routes_are_ascii
all_are_ascii false = routes_are_ascii

-- the text of the route that a target finds
pub found_is_ascii : (desk : Bool) (target : List ℕ) (r : RouteOf Route) → first (routes_of desk) target ≡ Some r → IsAscii r.text
found_is_ascii desk target r e =
    let found = first_passes (λ (r : RouteOf Route). list_all is_ascii r.text) (routes_of desk) target (all_are_ascii desk) in
    ascii_from_test r.text (subst (λ (o : Option (RouteOf Route)). IfSome o (λ k. list_all is_ascii k.text ≡ true)) e found)
