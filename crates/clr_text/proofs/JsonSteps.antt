-- The grammar of JSON a step at a time, where what is read becomes data.
use Rattle.std.proofs.Common.{◌≡◌, ℕ, zero, suc, ◌-◌, ◌<◌, ◌≤◌, List, [], ◌∷◌, ◌++◌, length, Option, Some, None, option_map, option_and_then, refl, ap, ◌∙◌}
use Rattle.json.specs.Token.{Token}
use Rattle.json.specs.Json as json
use Rattle.json.specs.Json.{Parse, parse_map, after_end_array, read_key, items_step, items, members}
use Rattle.json.proofs.Grammar.{items_end, items_more, members_end, members_no_key, members_more}
use Rattle.serde_json.specs.Data.{Data, array, object, Items, no_items, item, Members, no_members, put}
use Rattle.serde_json.specs.Read.{of_json, of_items, of_members, converted}
use Rattle.serde_json.specs.View.{view, items_view}
use Rattle.serde_json.specs.declared.value.Value.{Value}

-- what is found, with the tokens that are left
abbrev Left : Type 0 → Type 0
Left A = Option (A × List Token)

abbrev rest : {B : Type 0} → List Token → Option B → Left B
rest r o = option_map (λ b. (b, r)) o

-- ---- data and the tokens that are left

abbrev or_else : {A : Type 0} → A → Option A → A
or_else d None = d
or_else d (Some a) = a

both_same : {B : Type 0} (r s : List Token) (o : Option B) (b : B) → rest r o ≡ Some (b, s)
    → (r ≡ s) × (o ≡ Some b)
both_same r s None b e = absurd (cc)
both_same r s (Some y) b e =
    let same = ap (or_else (y, r)) e in
    (ap (λ p. p.1) same, ap (λ p. Some p.0) same)

-- data that was found is that of something read
pub was_read : {A B : Type 0} (f : A → Option B) (o : Left A) (b : B) (r : List Token)
    → converted f o ≡ Some (b, r) → (a : A) × (o ≡ Some (a, r)) × (f a ≡ Some b)
was_read f None b r e = absurd (cc)
was_read f (Some p) b r e =
    let both = both_same p.1 r (f p.0) b e in
    (p.0, ap (λ s. Some (p.0, s)) both.0, both.1)

no_data : {B : Type 0} (r : List Token) (o : Option B) → rest r o ≡ None → o ≡ None
no_data r None e = refl
no_data r (Some y) e = absurd (cc)

rest_of_map : {A B : Type 0} (g : A → B) (r : List Token) (o : Option A)
    → rest r (option_map g o) ≡ parse_map g (rest r o)
rest_of_map g r None = refl
rest_of_map g r (Some a) = refl

pub array_data : (o : Left json.Items)
    → converted of_json (parse_map json.array o) ≡ parse_map array (converted of_items o)
array_data None = refl
array_data (Some p) = rest_of_map array p.1 (of_items p.0)

pub object_data : (o : Left json.Members) → converted of_json (parse_map json.object o)
    ≡ parse_map object (converted (λ ms. of_members ms no_members) o)
object_data None = refl
object_data (Some p) = rest_of_map object p.1 (of_members p.0 no_members)

-- ---- the items of an array

item_data : (j : json.Json) (d : Data) → of_json j ≡ Some d → (o : Left json.Items)
    → converted of_items (parse_map (json.item j) o) ≡ parse_map (item d) (converted of_items o)
item_data j d e None = refl
item_data j d e (Some p) = rw e (rest_of_map (item d) p.1 (of_items p.0))

item_without : (j : json.Json) → of_json j ≡ None → (o : Left json.Items)
    → converted of_items (parse_map (json.item j) o) ≡ None
item_without j e None = refl
item_without j e (Some p) = rw e

module _ (p : Parse json.Json) where
  pub next_item : (n : ℕ) (ts r : List Token) (d : Data) → 0 < n → after_end_array ts ≡ None
      → converted of_json (p ts) ≡ Some (d, r)
      → converted of_items (items p n ts) ≡ parse_map (item d) (converted of_items (items p (n - 1) r))
  next_item n ts r d some going e =
      let j = was_read of_json (p ts) d r e in
      ap (converted of_items) (items_more p n ts r j.0 some going j.1) ∙ item_data j.0 d j.2 _

  after_bad : (more : Parse json.Items) (o : Left json.Json) → converted of_json o ≡ None
      → converted of_items (option_and_then (λ q. parse_map (json.item q.0) (more q.1)) o) ≡ None
  after_bad more None e = refl
  after_bad more (Some q) e = item_without q.0 (no_data q.1 (of_json q.0) e) (more q.1)

  pub bad_item : (n : ℕ) (ts : List Token) → after_end_array ts ≡ None
      → converted of_json (p ts) ≡ None → converted of_items (items p n ts) ≡ None
  unfolding items
  bad_item zero ts going e = refl
  bad_item (suc n) ts going e =
      ap (λ o. converted of_items (items_step p (items p n) ts o)) going ∙ after_bad (items p n) (p ts) e

  pub end_of_items : (n : ℕ) (ts r : List Token) → length ts ≤ n → after_end_array ts ≡ Some r
      → converted of_items (items p n ts) ≡ Some (no_items, r)
  end_of_items n ts r enough e = ap (converted of_items) (items_end p n ts r enough e)

-- items that were read stay in front of those to come
abbrev pub in_front : List Value → Items → Items
in_front [] more = more
in_front (v ∷ vs) more = item (view v) (in_front vs more)

pub in_front-none : (vs : List Value) → in_front vs no_items ≡ items_view vs
in_front-none [] = refl
in_front-none (v ∷ vs) = ap (item (view v)) (in_front-none vs)

in_front-last : (vs : List Value) (v : Value) (more : Items)
    → in_front vs (item (view v) more) ≡ in_front (vs ++ v ∷ []) more
in_front-last [] v more = refl
in_front-last (w ∷ vs) v more = ap (item (view w)) (in_front-last vs v more)

pub one_more : (vs : List Value) (v : Value) (o : Left Items)
    → parse_map (in_front vs) (parse_map (item (view v)) o) ≡ parse_map (in_front (vs ++ v ∷ [])) o
one_more vs v None = refl
one_more vs v (Some p) = ap (λ ds. Some (ds, p.1)) (in_front-last vs v p.0)

pub none_yet : (o : Left Items) → o ≡ parse_map (λ more. more) o
none_yet None = refl
none_yet (Some p) = refl

-- ---- the members of an object, after those that were read

module _ (old : Members) where
  abbrev added : Left json.Members → Left Members
  added o = converted (λ ms. of_members ms old) o

  member_data : (k : List ℕ) (j : json.Json) (d : Data) → of_json j ≡ Some d
      → (o : Left json.Members)
      → added (parse_map (json.member k j) o) ≡ converted (λ ms. of_members ms (put k d old)) o
  member_data k j d e None = refl
  member_data k j d e (Some p) = rw e

  member_without : (k : List ℕ) (j : json.Json) → of_json j ≡ None → (o : Left json.Members)
      → added (parse_map (json.member k j) o) ≡ None
  member_without k j e None = refl
  member_without k j e (Some p) = rw e

  module _ (p : Parse json.Json) where
    pub next_member : (n : ℕ) (k : List ℕ) (ts s r : List Token) (d : Data) → 0 < n
        → read_key ts ≡ Some (Some k, s) → converted of_json (p s) ≡ Some (d, r)
        → converted (λ ms. of_members ms old) (members p n ts)
        ≡ converted (λ ms. of_members ms (put k d old)) (members p (n - 1) r)
    next_member n k ts s r d some key e =
        let j = was_read of_json (p s) d r e in
        ap added (members_more p n k ts s r j.0 some key j.1) ∙ member_data k j.0 d j.2 _

    after_bad_value : (k : List ℕ) (more : Parse json.Members) (o : Left json.Json)
        → converted of_json o ≡ None
        → added (option_and_then (λ q. parse_map (json.member k q.0) (more q.1)) o) ≡ None
    after_bad_value k more None e = refl
    after_bad_value k more (Some q) e =
        member_without k q.0 (no_data q.1 (of_json q.0) e) (more q.1)

    pub bad_member : (n : ℕ) (k : List ℕ) (ts s : List Token) → read_key ts ≡ Some (Some k, s)
        → converted of_json (p s) ≡ None
        → converted (λ ms. of_members ms old) (members p n ts) ≡ None
    unfolding members
    bad_member zero k ts s key e = refl
    bad_member (suc n) k ts s key e = rw key (after_bad_value k (members p n) (p s) e)

    pub bad_key : (n : ℕ) (ts : List Token) → read_key ts ≡ None
        → converted (λ ms. of_members ms old) (members p n ts) ≡ None
    bad_key n ts e = ap added (members_no_key p n ts e)

    pub end_of_members : (n : ℕ) (ts r : List Token) → length ts ≤ n
        → read_key ts ≡ Some (None, r)
        → converted (λ ms. of_members ms old) (members p n ts) ≡ Some (old, r)
    end_of_members n ts r enough e = ap added (members_end p n ts r enough e)
