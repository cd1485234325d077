-- Rows that are the same in each column are one; which rows are none of others; lists by their members.
use Rattle.std.proofs.Common.{◌≡◌, ◌∙◌, ◌⊎◌, inl, inr, ⊎_elim, ℕ, Bool, true, false, not, List, [], ◌∷◌, filter, map, Contains, Option, None, Some, refl, sym, ap, subst, arith, is_lt}
use Rattle.std.specs.Option.{option_eq}
use Rattle.clr_rules.specs.Checks.{is_field, is_operator}
use Rattle.clr_shelf.specs.Rows.{row_of}
use Rattle.clr_rules.specs.Footprint.{is_shut}
use Rattle.clr_staff.specs.declared.employee.Role.TheVariants.{Operator, Field, Charge}
use Rattle.clr_update.proofs.Common.{PointRow, Position, Opened, Shut, SectionRow, Role, StaffRow, same_flag, same_section, same_point, same_role, same_employee, lacking}
use Rattle.clr_update.proofs.Common.{and_from, and_parts, both_ways, false≢true, not-true, not_from_false, any_from, some_from, one_name, same_itself, same_name, list_any, name_cmp, in_key_order}
use Rattle.clr_update.proofs.Common.{nat_list_cmp_total, in_key_order-filter, in_key_order-first, in_key_order-rest, below_not_above, Contains-cases, Contains-here, Contains-later, list_all-contains}
use Rattle.clr_update.proofs.Common.{Contains-filter, kept_there, row_of-member, same_Some}

-- ---- columns

pub flag_same : (a b : Bool) → same_flag a b ≡ true → a ≡ b
flag_same true true is = refl
flag_same true false is = sym is
flag_same false true is = is
flag_same false false is = refl

flag_itself : (a : Bool) → same_flag a a ≡ true
flag_itself true = refl
flag_itself false = refl

position_same : (a b : Position) → same_flag (is_shut a) (is_shut b) ≡ true → a ≡ b
position_same Opened Opened is = refl
position_same Shut Shut is = refl
position_same _ _ is = absurd (false≢true is)

role_same : (a b : Role) → same_role a b ≡ true → a ≡ b
role_same Operator Operator is = refl
role_same Field Field is = refl
role_same Charge Charge is = refl
role_same _ _ is = absurd (false≢true is)

maybe_same : (a b : Option (List ℕ)) → option_eq same_name a b ≡ true → a ≡ b
maybe_same None None is = refl
maybe_same None (Some y) is = absurd (false≢true is)
maybe_same (Some x) None is = absurd (false≢true is)
maybe_same (Some x) (Some y) is = ap Some (one_name x y is)

maybe_itself : (a : Option (List ℕ)) → option_eq same_name a a ≡ true
maybe_itself None = refl
maybe_itself (Some x) = same_itself x

-- ---- rows

pub section_same : (a b : SectionRow) → same_section a b ≡ true → a ≡ b
section_same a b is =
    let (name, source) = and_parts (same_name a.name b.name) (same_flag a.source b.source) is in
    let names = one_name a.name b.name name in
    let sources = flag_same a.source b.source source in
    λ i. record { name = names i; source = sources i }

pub section_itself : (a : SectionRow) → same_section a a ≡ true
section_itself a = and_from (same_name a.name a.name) (same_flag a.source a.source) (same_itself a.name) (flag_itself a.source)

pub point_same : (a b : PointRow) → same_point a b ≡ true → a ≡ b
point_same a b is =
    let (name, rest1) = and_parts _ _ is in
    let (from, rest2) = and_parts _ _ rest1 in
    let (to, rest3) = and_parts _ _ rest2 in
    let (lockable, rest4) = and_parts _ _ rest3 in
    let (remote, rest5) = and_parts _ _ rest4 in
    let (position, jumper) = and_parts _ _ rest5 in
    let names = one_name a.name b.name name in
    let froms = one_name a.from_end b.from_end from in
    let tos = one_name a.to_end b.to_end to in
    let lockables = flag_same a.lockable b.lockable lockable in
    let remotes = flag_same a.remote b.remote remote in
    let positions = position_same a.position b.position position in
    let jumpers = flag_same a.jumper b.jumper jumper in
    λ i. record {
      name = names i;
      from_end = froms i;
      to_end = tos i;
      lockable = lockables i;
      remote = remotes i;
      position = positions i;
      jumper = jumpers i;
    }

pub point_itself : (a : PointRow) → same_point a a ≡ true
point_itself a =
    and_from _ _ (same_itself a.name) (and_from _ _ (same_itself a.from_end) (and_from _ _ (same_itself a.to_end) (and_from _ _ (flag_itself a.lockable)
    (and_from _ _ (flag_itself a.remote) (and_from _ _ (flag_itself (is_shut a.position)) (flag_itself a.jumper))))))

pub employee_same : (a b : StaffRow) → same_employee a b ≡ true → a ≡ b
employee_same a b is =
    let (name, rest) = and_parts _ _ is in
    let (role, supervisor) = and_parts _ _ rest in
    let names = one_name a.name b.name name in
    let roles = role_same a.role b.role role in
    let supervisors = maybe_same a.supervisor b.supervisor supervisor in
    λ i. record { name = names i; role = roles i; supervisor = supervisors i }

pub employee_itself : (a : StaffRow) → same_employee a a ≡ true
employee_itself a =
    and_from _ _ (same_itself a.name)
    (and_from _ _ (and_from _ _ (flag_itself (is_operator a.role)) (flag_itself (is_field a.role))) (maybe_itself a.supervisor))

-- ---- lists

pub no_member : {X : Type 0} (x : X) → Contains [] x → ⊥
no_member x there = let (k, within, is) = there in absurd (omega arith)

pub map_none : {X Y : Type 0} (f : X → Y) (xs : List X) → map f xs ≡ [] → xs ≡ []
map_none f [] none = refl
map_none f (x ∷ xs) none = absurd cc

pub none_within : {X : Type 0} (xs : List X) (x : X) → xs ≡ [] → Contains xs x → ⊥
none_within {X} xs x none there = no_member x (subst (λ (l : List X). Contains l x) none there)

-- a name is not below itself
below_itself : (n : List ℕ) → is_lt (name_cmp n n) ≡ true → ⊥
below_itself n below = both_ways (is_lt (name_cmp n n)) (below_not_above name_cmp nat_list_cmp_total n n below) below

module _ {Row : Type 0} (name_of : Row → List ℕ) where
  abbrev Rises : List Row → Type 0
  Rises rows = in_key_order name_cmp name_of rows ≡ true

  below_rest : (x : Row) (xs : List Row) → Rises (x ∷ xs) → (y : Row) → Contains xs y → is_lt (name_cmp (name_of x) (name_of y)) ≡ true
  below_rest x xs rises y there = list_all-contains (λ next. is_lt (name_cmp (name_of x) (name_of next))) xs y
      (in_key_order-first name_cmp name_of nat_list_cmp_total x xs rises) there

  -- rows of one name are one row
  pub one_row : (rows : List Row) → Rises rows → (x y : Row) → Contains rows x → Contains rows y → name_of x ≡ name_of y → x ≡ y
  one_row rows rises x y x_there y_there same = same_Some x y
      (sym (row_of-member name_cmp name_of nat_list_cmp_total x rows rises x_there)
      ∙ ap (λ (n : List ℕ). row_of name_cmp name_of n rows) same
      ∙ row_of-member name_cmp name_of nat_list_cmp_total y rows rises y_there)

  first_same : (x : Row) (xs : List Row) (y : Row) (ys : List Row) → Rises (x ∷ xs) → Rises (y ∷ ys) → Contains (y ∷ ys) x → Contains (x ∷ xs) y → x ≡ y
  first_same x xs y ys x_rises y_rises x_there y_there = at (Contains-cases y x ys x_there) (Contains-cases x y xs y_there)
    where
      at : (y ≡ x) ⊎ Contains ys x → (x ≡ y) ⊎ Contains xs y → x ≡ y
      at (inl same) _ = sym same
      at (inr later) (inl same) = same
      at (inr x_later) (inr y_later) = absurd (both_ways (is_lt (name_cmp (name_of x) (name_of y)))
          (below_not_above name_cmp nat_list_cmp_total (name_of y) (name_of x) (below_rest y ys y_rises x x_later))
          (below_rest x xs x_rises y y_later))

  rest_there : (x : Row) (xs : List Row) (y : Row) (ys : List Row) → Rises (x ∷ xs) → x ≡ y → ((z : Row) → Contains (x ∷ xs) z → Contains (y ∷ ys) z)
      → (z : Row) → Contains xs z → Contains ys z
  rest_there x xs y ys rises same all z there = ⊎_elim
      (λ is. absurd (below_itself (name_of x) (subst (λ (w : Row). is_lt (name_cmp (name_of x) (name_of w)) ≡ true) (sym (same ∙ is)) (below_rest x xs rises z there))))
      (λ later. later) (Contains-cases y z ys (all z (Contains-later x z xs there)))

  -- rows in the order of names that have the same members are the same
  pub same_rows : (xs ys : List Row) → Rises xs → Rises ys → ((z : Row) → Contains xs z → Contains ys z) → ((z : Row) → Contains ys z → Contains xs z) → xs ≡ ys
  same_rows [] [] x_rises y_rises fore back = refl
  same_rows [] (y ∷ ys) x_rises y_rises fore back = absurd (no_member y (back y (Contains-here y ys)))
  same_rows (x ∷ xs) [] x_rises y_rises fore back = absurd (no_member x (fore x (Contains-here x xs)))
  same_rows (x ∷ xs) (y ∷ ys) x_rises y_rises fore back =
      let same = first_same x xs y ys x_rises y_rises (fore x (Contains-here x xs)) (back y (Contains-here y ys)) in
      let rest = same_rows xs ys (in_key_order-rest name_cmp name_of nat_list_cmp_total x xs x_rises) (in_key_order-rest name_cmp name_of nat_list_cmp_total y ys y_rises)
      (rest_there x xs y ys x_rises same fore) (rest_there y ys x xs y_rises (sym same) back) in
      λ i. same i ∷ rest i

-- ---- rows that are none of others

module _ {Row : Type 0} (same : Row → Row → Bool) (exact : (a b : Row) → same a b ≡ true → a ≡ b) (itself : (a : Row) → same a a ≡ true) where
  pub from_in : (rows : List Row) (row : Row) → list_any (same row) rows ≡ true → Contains rows row
  from_in rows row is =
      let found = some_from (same row) rows is in
      subst (λ (x : Row). Contains rows x) (sym (exact row found.0 found.2)) found.1

  -- what is lacking is one of the rows, and none of the others
  pub lacking_there : (others rows : List Row) (row : Row) → Contains (lacking same others rows) row → Contains rows row
  lacking_there others rows row there = (kept_there (λ row. not (list_any (same row) others)) rows row there).0

  pub lacking_apart : (others rows : List Row) (row : Row) → Contains (lacking same others rows) row → Contains others row → ⊥
  lacking_apart others rows row there other =
      both_ways (list_any (same row) others) (not-true (list_any (same row) others) (kept_there (λ row. not (list_any (same row) others)) rows row there).1)
      (any_from (same row) others row other (itself row))

  -- a row is among the others, or lacking there
  pub there_or_lacking : (others rows : List Row) (row : Row) → Contains rows row → Contains others row ⊎ Contains (lacking same others rows) row
  there_or_lacking others rows row there = at (list_any (same row) others) refl
    where
      at : (b : Bool) → list_any (same row) others ≡ b → Contains others row ⊎ Contains (lacking same others rows) row
      at true is = inl (from_in others row is)
      at false is = inr (Contains-filter (λ row. not (list_any (same row) others)) rows row there (not_from_false (list_any (same row) others) is))

  module _ (near : Row → Bool) where
    -- where none near is lacking, each row near is there
    pub stays : (others rows : List Row) → filter near (lacking same others rows) ≡ [] → (row : Row) → Contains rows row → near row ≡ true → Contains others row
    stays others rows none row there is = ⊎_elim (λ other. other)
        (λ gone. absurd (none_within (filter near (lacking same others rows)) row none (Contains-filter near (lacking same others rows) row gone is)))
        (there_or_lacking others rows row there)

    module _ (A A' B B' : List Row) (alike : filter near A ≡ filter near B) (gone : filter near (lacking same A' A) ≡ filter near (lacking same B' B))
        (come : filter near (lacking same A A') ≡ filter near (lacking same B B')) where
      one_way : (x : Row) → Contains (filter near A') x → Contains (filter near B') x
      one_way x there = ⊎_elim was_there (λ new.
          let now = subst (λ (l : List Row). Contains l x) come (Contains-filter near (lacking same A A') x new is) in
          Contains-filter near B' x (lacking_there B B' x (kept_there near (lacking same B B') x now).0) is)
          (there_or_lacking A A' x here)
        where
          here : Contains A' x
          here = (kept_there near A' x there).0

          is : near x ≡ true
          is = (kept_there near A' x there).1

          was_there : Contains A x → Contains (filter near B') x
          was_there before =
              let other = (kept_there near B x (subst (λ (l : List Row). Contains l x) alike (Contains-filter near A x before is))).0 in
              ⊎_elim (λ stays. Contains-filter near B' x stays is) (λ goes.
              let went = (kept_there near (lacking same A' A) x (subst (λ (l : List Row). Contains l x) (sym gone) (Contains-filter near (lacking same B' B) x goes is))).0 in
              absurd (lacking_apart A' A x went here)) (there_or_lacking B' B x other)

    module _ (name_of : Row → List ℕ) where
      -- what is near, and what goes and comes near, determine what is near afterwards
      pub determined : (A A' B B' : List Row) → in_key_order name_cmp name_of A' ≡ true → in_key_order name_cmp name_of B' ≡ true
          → filter near A ≡ filter near B → filter near (lacking same A' A) ≡ filter near (lacking same B' B)
          → filter near (lacking same A A') ≡ filter near (lacking same B B') → filter near A' ≡ filter near B'
      determined A A' B B' A_rises B_rises alike gone come =
          same_rows name_of (filter near A') (filter near B') (in_key_order-filter name_cmp name_of nat_list_cmp_total near A' A_rises)
          (in_key_order-filter name_cmp name_of nat_list_cmp_total near B' B_rises)
          (one_way A A' B B' alike gone come) (one_way B B' A A' (sym alike) (sym gone) (sym come))

      -- where nothing near goes or comes, what is near stays
      pub unchanged : (A B : List Row) → in_key_order name_cmp name_of A ≡ true → in_key_order name_cmp name_of B ≡ true
          → filter near (lacking same B A) ≡ [] → filter near (lacking same A B) ≡ [] → filter near B ≡ filter near A
      unchanged A B A_rises B_rises gone come =
          same_rows name_of (filter near B) (filter near A) (in_key_order-filter name_cmp name_of nat_list_cmp_total near B B_rises)
          (in_key_order-filter name_cmp name_of nat_list_cmp_total near A A_rises)
          (λ x there. let both = kept_there near B x there in Contains-filter near A x (stays A B come x both.0 both.1) both.1)
          (λ x there. let both = kept_there near A x there in Contains-filter near B x (stays B A gone x both.0 both.1) both.1)
