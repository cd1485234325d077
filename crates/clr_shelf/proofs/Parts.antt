-- Lists in parts: what an edit of a part, a move between neighbours, a split and a join leave of
-- the items and of the sizes.
use Rattle.std.proofs.Common.{◌≡◌, ◌≢◌, ℕ, zero, suc, ◌+◌, ◌-◌, ◌<◌, ◌≤◌, List, [], ◌∷◌, ◌++◌, length, get_or, set, take, drop, refl, sym, ◌∙◌, ap, subst, arith, replicate, zero-add, append_assoc}
use Rattle.std.proofs.Common.{get_or-set_same, get_or-set_other, insert, remove}
use Rattle.std.proofs.lemmas.List.{append-nil, map-append, map-set, take-map, drop-map, length-append, get_or-map, get_or_past, take_all, take_more, drop_all, drop_more, set-append_left}
use Rattle.std.proofs.lemmas.List.{set-append_right, length-map, length-set, get_or_at, nil_from_length}
use Rattle.std.proofs.lemmas.List.Concat.{flat_map-append}
use Rattle.std.proofs.lemmas.List.Edits.{insert_end, insert-append_left, insert-append_right, remove-append_left, remove-append_right, get_or-insert_below, get_or-insert_at, get_or-insert_above}
use Rattle.std.proofs.lemmas.List.Edits.{get_or-remove_below, get_or-remove_above, length-remove}
use Rattle.clr_shelf.specs.declared.block.Block.{Block}
use Rattle.clr_shelf.specs.Blocks.{joined, parts_of, size_at, IsMove, IsJoin}

-- ---- the parts of blocks

module _ {T : Type 0} where
  pub parts-set : (blocks : List (Block T)) (k : ℕ) (block : Block T)
      → parts_of (set blocks k block) ≡ set (parts_of blocks) k block.items.items
  parts-set blocks k block = map-set (λ (b : Block T). b.items.items) blocks k block

  pub parts-insert : (blocks : List (Block T)) (k : ℕ) (block : Block T)
      → parts_of (insert blocks k block) ≡ insert (parts_of blocks) k block.items.items
  parts-insert blocks k block = simp (map-append, take-map, drop-map)

  pub parts-remove : (blocks : List (Block T)) (k : ℕ)
      → parts_of (remove blocks k) ≡ remove (parts_of blocks) k
  parts-remove blocks k = simp (map-append, take-map, drop-map)

  pub parts-push : (blocks : List (Block T)) (block : Block T)
      → parts_of (blocks ++ block ∷ []) ≡ parts_of blocks ++ block.items.items ∷ []
  parts-push blocks block = simp map-append

  pub length-parts : (blocks : List (Block T)) → length (parts_of blocks) ≡ length blocks
  length-parts blocks = length-map blocks (λ (b : Block T). b.items.items)

  -- what a block that is read has
  pub part_read : (blocks : List (Block T)) (k : ℕ) (block : Block T) → k < length blocks
      → block ≡ get_or blocks k block → get_or (parts_of blocks) k [] ≡ block.items.items
  part_read blocks k block within read =
      get_or-map (λ (b : Block T). b.items.items) blocks k block [] within
      ∙ ap (λ (b : Block T). b.items.items) (sym read)

  pub size_read : (blocks : List (Block T)) (k : ℕ) (block : Block T) → k < length blocks
      → block ≡ get_or blocks k block → size_at (parts_of blocks) k ≡ length block.items.items
  size_read blocks k block within read = ap length (part_read blocks k block within read)

  -- what a block has that is read after another was written
  pub part_read_after : (blocks : List (Block T)) (j k : ℕ) (other block : Block T)
      → k < length blocks → k ≢ j → block ≡ get_or (set blocks j other) k block
      → get_or (parts_of blocks) k [] ≡ block.items.items
  part_read_after blocks j k other block within apart read =
      part_read blocks k block within (read ∙ get_or-set_other blocks j k other block apart)

none_joined : (X : Type 0) (n : ℕ) → joined {T = X} (replicate n []) ≡ []
none_joined X zero = refl
none_joined X (suc n) = none_joined X n

none_at : (X : Type 0) (n k : ℕ) → size_at {T = X} (replicate n []) k ≡ 0
none_at X zero k = refl
none_at X (suc n) zero = refl
none_at X (suc n) (suc k) = none_at X n k

module _ {X : Type 0} where
  pub size_past : (parts : List (List X)) (k : ℕ) → length parts ≤ k → size_at parts k ≡ 0
  size_past parts k past = ap length (get_or_past parts k [] past)

  -- ---- an edit of one part

  pub joined-insert : (parts : List (List X)) (k i : ℕ) (x : X) → k < length parts
      → i ≤ size_at parts k → joined (set parts k (insert (get_or parts k []) i x))
      ≡ insert (joined parts) (length (joined (take k parts)) + i) x
  joined-insert [] k i x within fits = absurd (omega arith)
  joined-insert (part ∷ rest) zero i x within fits =
      sym (insert-append_left part (joined rest) i x fits)
      ∙ ap (λ n. insert (part ++ joined rest) n x) (sym (zero-add i))
  joined-insert (part ∷ rest) (suc k) i x within fits =
      let at = length (part ++ joined (take k rest)) + i in
      let all : length (part ++ joined (take k rest))
      ≡ length part + length (joined (take k rest)) =
      length-append part (joined (take k rest)) in
      let is : at - length part ≡ length (joined (take k rest)) + i = omega arith in
      ap (λ (xs : List X). part ++ xs) (joined-insert rest k i x (omega arith) fits)
      ∙ ap (λ n. part ++ insert (joined rest) n x) (sym is)
      ∙ sym (insert-append_right part (joined rest) (length part) at x refl (omega arith))

  pub joined-remove : (parts : List (List X)) (k i : ℕ) → k < length parts → i < size_at parts k
      → joined (set parts k (remove (get_or parts k []) i))
      ≡ remove (joined parts) (length (joined (take k parts)) + i)
  joined-remove [] k i within fits = absurd (omega arith)
  joined-remove (part ∷ rest) zero i within fits =
      sym (remove-append_left part (joined rest) i fits)
      ∙ ap (λ n. remove (part ++ joined rest) n) (sym (zero-add i))
  joined-remove (part ∷ rest) (suc k) i within fits =
      let at = length (part ++ joined (take k rest)) + i in
      let all : length (part ++ joined (take k rest))
      ≡ length part + length (joined (take k rest)) =
      length-append part (joined (take k rest)) in
      let is : at - length part ≡ length (joined (take k rest)) + i = omega arith in
      ap (λ (xs : List X). part ++ xs) (joined-remove rest k i (omega arith) fits)
      ∙ ap (λ n. part ++ remove (joined rest) n) (sym is)
      ∙ sym (remove-append_right part (joined rest) (length part) at refl (omega arith))

  pub joined-set : (parts : List (List X)) (k i : ℕ) (x : X) → k < length parts
      → i < size_at parts k → joined (set parts k (set (get_or parts k []) i x))
      ≡ set (joined parts) (length (joined (take k parts)) + i) x
  joined-set [] k i x within fits = absurd (omega arith)
  joined-set (part ∷ rest) zero i x within fits =
      sym (set-append_left part (joined rest) i x fits)
      ∙ ap (λ n. set (part ++ joined rest) n x) (sym (zero-add i))
  joined-set (part ∷ rest) (suc k) i x within fits =
      let at = length (part ++ joined (take k rest)) + i in
      let all : length (part ++ joined (take k rest))
      ≡ length part + length (joined (take k rest)) =
      length-append part (joined (take k rest)) in
      let is : at - length part ≡ length (joined (take k rest)) + i = omega arith in
      ap (λ (xs : List X). part ++ xs) (joined-set rest k i x (omega arith) fits)
      ∙ ap (λ n. part ++ set (joined rest) n x) (sym is)
      ∙ sym (set-append_right part (joined rest) (length part) at x refl (omega arith))

  -- ---- two neighbours

  two_at : (parts : List (List X)) (k : ℕ) (first second : List X) → suc k < length parts
      → first ++ second ≡ get_or parts k [] ++ get_or parts (suc k) []
      → joined (set (set parts (suc k) second) k first) ≡ joined parts
  two_at [] k first second within same = absurd (omega arith)
  two_at (p ∷ []) k first second within same = absurd (omega arith)
  two_at (p ∷ q ∷ rest) zero first second within same =
      sym (append_assoc first second (joined rest))
      ∙ ap (λ (xs : List X). xs ++ joined rest) same ∙ append_assoc p q (joined rest)
  two_at (p ∷ q ∷ rest) (suc k) first second within same =
      ap (λ (xs : List X). p ++ xs) (two_at (q ∷ rest) k first second (omega arith) same)

  pub joined-two : (parts : List (List X)) (k : ℕ) (first second : List X) → k + 1 < length parts
      → first ++ second ≡ get_or parts k [] ++ get_or parts (k + 1) []
      → joined (set (set parts (k + 1) second) k first) ≡ joined parts
  joined-two parts k first second =
      let next : suc k ≡ k + 1 = omega arith in
      subst (λ n. n < length parts → first ++ second ≡ get_or parts k [] ++ get_or parts n []
      → joined (set (set parts n second) k first) ≡ joined parts) next
      (two_at parts k first second)

  -- the first item of the second goes to the end of the first, and back
  pub moved_back : (first second : List X) (x : X) (end : ℕ) → end ≡ length first
      → 0 < length second → x ≡ get_or second 0 x
      → insert first end x ++ remove second 0 ≡ first ++ second
  moved_back first second x end is some read =
      let whole : second ≡ x ∷ drop 1 second =
      drop_more second 0 x some ∙ ap (λ (y : X). y ∷ drop 1 second) (sym read) in
      ap (λ n. insert first n x ++ drop 1 second) is
      ∙ ap (λ (xs : List X). xs ++ drop 1 second) (insert_end first x)
      ∙ append_assoc first (x ∷ []) (drop 1 second)
      ∙ ap (λ (xs : List X). first ++ xs) (sym whole)

  pub moved_on : (first second : List X) (x : X) (last : ℕ) → last + 1 ≡ length first
      → x ≡ get_or first last x → remove first last ++ insert second 0 x ≡ first ++ second
  moved_on first second x last is read =
      let none : drop (suc last) first ≡ [] = drop_all (suc last) first (omega arith) in
      let whole : take last first ++ x ∷ [] ≡ first =
      ap (λ (y : X). take last first ++ y ∷ []) read ∙ sym (take_more first last x (omega arith))
      ∙ take_all (last + 1) first (omega arith) in
      ap (λ (xs : List X). (take last first ++ xs) ++ x ∷ second) none
      ∙ ap (λ (xs : List X). xs ++ x ∷ second) (append-nil (take last first))
      ∙ sym (append_assoc (take last first) (x ∷ []) second)
      ∙ ap (λ (xs : List X). xs ++ second) whole

  -- ---- sizes

  pub size-set_same : (parts : List (List X)) (k : ℕ) (part : List X) → k < length parts
      → size_at (set parts k part) k ≡ length part
  size-set_same parts k part within = ap length (get_or-set_same parts k part [] within)

  pub size-set_other : (parts : List (List X)) (k : ℕ) (part : List X) (j : ℕ) → j ≢ k
      → size_at (set parts k part) j ≡ size_at parts j
  size-set_other parts k part j other = ap length (get_or-set_other parts k j part [] other)

  pub move_sizes : (parts : List (List X)) (from to : ℕ) (given taken : List X)
      → from < length parts → to < length parts → from ≢ to
      → length given + 1 ≡ size_at parts from → length taken ≡ size_at parts to + 1
      → IsMove from to (size_at parts) (size_at (set (set parts from given) to taken))
  move_sizes parts from to given taken from_in to_in apart less more =
      let between = set parts from given in
      let to_there : to < length between = omega (arith, to_in, length-set parts from given) in
      record {
        given = ap (λ n. n + 1) (size-set_other between to taken from apart
            ∙ size-set_same parts from given from_in) ∙ less;
        taken = size-set_same between to taken to_there ∙ more;
        others = λ k not_from not_to. size-set_other between to taken k not_to
            ∙ size-set_other parts from given k not_from;
      }

  -- ---- an empty part at the end

  pub joined-spare : (parts : List (List X)) → joined (parts ++ [] ∷ []) ≡ joined parts
  joined-spare parts =
      flat_map-append (λ (part : List X). part) parts ([] ∷ []) ∙ append-nil (joined parts)

  pub size-spare : (parts : List (List X)) (k : ℕ) → size_at (parts ++ [] ∷ []) k ≡ size_at parts k
  size-spare [] zero = refl
  size-spare [] (suc k) = refl
  size-spare (part ∷ rest) zero = refl
  size-spare (part ∷ rest) (suc k) = size-spare rest k

  pub joined-spares : (parts : List (List X)) (n : ℕ)
      → joined (parts ++ replicate n []) ≡ joined parts
  joined-spares parts n =
      flat_map-append (λ (part : List X). part) parts (replicate n [])
      ∙ ap (λ (xs : List X). joined parts ++ xs) (none_joined X n) ∙ append-nil (joined parts)

  pub size-spares : (parts : List (List X)) (n k : ℕ)
      → size_at (parts ++ replicate n []) k ≡ size_at parts k
  size-spares [] n k = none_at X n k
  size-spares (part ∷ rest) n zero = refl
  size-spares (part ∷ rest) n (suc k) = size-spares rest n k

  -- ---- a part that is split in two, and two that are joined

  split_at : (parts : List (List X)) (k : ℕ) (first second : List X) → k < length parts
      → first ++ second ≡ get_or parts k []
      → joined (insert (set parts k first) (suc k) second) ≡ joined parts
  split_at [] k first second within same = absurd (omega arith)
  split_at (p ∷ rest) zero first second within same =
      sym (append_assoc first second (joined rest)) ∙ ap (λ (xs : List X). xs ++ joined rest) same
  split_at (p ∷ rest) (suc k) first second within same =
      ap (λ (xs : List X). p ++ xs) (split_at rest k first second (omega arith) same)

  pub joined-split : (parts : List (List X)) (k : ℕ) (first second : List X) → k < length parts
      → first ++ second ≡ get_or parts k []
      → joined (insert (set parts k first) (k + 1) second) ≡ joined parts
  joined-split parts k first second within same =
      let next : suc k ≡ k + 1 = omega arith in
      subst (λ n. joined (insert (set parts k first) n second) ≡ joined parts) next
      (split_at parts k first second within same)

  pub size-split_first : (parts : List (List X)) (k : ℕ) (first second : List X) → k < length parts
      → size_at (insert (set parts k first) (k + 1) second) k ≡ length first
  size-split_first parts k first second within =
      let long : k + 1 ≤ length (set parts k first) = omega
      (arith, within, length-set parts k first) in
      ap length (get_or-insert_below (set parts k first) (k + 1) second [] k (omega arith) long)
      ∙ size-set_same parts k first within

  pub size-split_second : (parts : List (List X)) (k : ℕ) (first second : List X) → k < length parts
      → size_at (insert (set parts k first) (k + 1) second) (k + 1) ≡ length second
  size-split_second parts k first second within =
      let long : k + 1 ≤ length (set parts k first) = omega
      (arith, within, length-set parts k first) in
      ap length (get_or-insert_at (set parts k first) (k + 1) second [] long)

  pub split_sizes : (parts : List (List X)) (k : ℕ) (first second : List X) → k < length parts
      → length first + length second ≡ size_at parts k
      → IsJoin k (size_at (insert (set parts k first) (k + 1) second))
      (size_at (parts ++ [] ∷ []))
  split_sizes parts k first second within same =
      let between = set parts k first in
      let long : k + 1 ≤ length between = omega (arith, within, length-set parts k first) in
      record {
        both = size-spare parts k ∙ sym same
            ∙ (λ i. sym (size-split_first parts k first second within) i
            + sym (size-split_second parts k first second within) i);
        before = λ j sooner. size-spare parts j
            ∙ sym (ap length (get_or-insert_below between (k + 1)
            second [] j (omega arith) long) ∙ size-set_other parts k first j (omega arith));
        after = λ j later. size-spare parts j ∙ sym (ap length (get_or-insert_above between (k + 1)
            second [] j (omega arith) long) ∙ size-set_other parts k first j (omega arith));
      }

  join_at : (parts : List (List X)) (k : ℕ) → suc k < length parts
      → joined (set (remove parts (suc k)) k (get_or parts k [] ++ get_or parts (suc k) []))
      ≡ joined parts
  join_at [] k within = absurd (omega arith)
  join_at (p ∷ []) k within = absurd (omega arith)
  join_at (p ∷ q ∷ rest) zero within = append_assoc p q (joined rest)
  join_at (p ∷ q ∷ rest) (suc k) within =
      ap (λ (xs : List X). p ++ xs) (join_at (q ∷ rest) k (omega arith))

  pub joined-join : (parts : List (List X)) (k : ℕ) → k + 1 < length parts
      → joined (set (remove parts (k + 1)) k (get_or parts k [] ++ get_or parts (k + 1) []))
      ≡ joined parts
  joined-join parts k =
      let next : suc k ≡ k + 1 = omega arith in
      subst (λ n. n < length parts
      → joined (set (remove parts n) k (get_or parts k [] ++ get_or parts n [])) ≡ joined parts)
      next (join_at parts k)

  pub join_sizes : (parts : List (List X)) (k : ℕ) → k + 1 < length parts
      → IsJoin k (size_at parts) (size_at
      (set (remove parts (k + 1)) k (get_or parts k [] ++ get_or parts (k + 1) []) ++ [] ∷ []))
  join_sizes parts k within =
      let left = remove parts (k + 1) in
      let both = get_or parts k [] ++ get_or parts (k + 1) [] in
      let long : k < length left = omega (arith, length-remove parts (k + 1) within) in
      record {
        both = size-spare (set left k both) k ∙ size-set_same left k both long
            ∙ length-append (get_or parts k []) (get_or parts (k + 1) []);
        before = λ j sooner. size-spare (set left k both) j
            ∙ size-set_other left k both j (omega arith)
            ∙ ap length (get_or-remove_below parts (k + 1) [] j (omega arith) within);
        after = λ j later. size-spare (set left k both) j
            ∙ size-set_other left k both j (omega arith)
            ∙ ap length (get_or-remove_above parts (k + 1) [] j (omega arith) within);
      }

module _ {T : Type 0} where
  -- the parts with empty blocks at the end
  pub parts-spares : (blocks after more : List (Block T)) (n : ℕ) → after ≡ blocks ++ more
      → parts_of more ≡ replicate n [] → parts_of after ≡ parts_of blocks ++ replicate n []
  parts-spares blocks after more n is empty =
      ap parts_of is ∙ map-append (λ (b : Block T). b.items.items) blocks more
      ∙ ap (λ (xss : List (List T)). parts_of blocks ++ xss) empty

  -- the parts after an edit of one block
  pub parts-edit : (edit : List T → List T) (blocks : List (Block T)) (k : ℕ)
      (block after : Block T)
      → k < length blocks → block ≡ get_or blocks k block
      → after.items.items ≡ edit block.items.items
      → parts_of (set blocks k after) ≡ set (parts_of blocks) k
      (edit (get_or (parts_of blocks) k []))
  parts-edit edit blocks k block after within read is =
      parts-set blocks k after ∙ ap (λ (xs : List T). set (parts_of blocks) k xs)
      (is ∙ ap edit (sym (part_read blocks k block within read)))

  -- the parts of blocks of which two were joined
  pub join_parts : (blocks removed after : List (Block T)) (k : ℕ) (both spare : Block T)
      → removed ≡ remove blocks (k + 1) → after ≡ set removed k both ++ spare ∷ []
      → spare.items.items ≡ []
      → both.items.items ≡ get_or (parts_of blocks) k [] ++ get_or (parts_of blocks) (k + 1) []
      → parts_of after ≡ set (remove (parts_of blocks) (k + 1)) k
      (get_or (parts_of blocks) k [] ++ get_or (parts_of blocks) (k + 1) []) ++ [] ∷ []
  join_parts blocks removed after k both spare removed_is after_is spare_is both_is =
      ap parts_of after_is ∙ parts-push (set removed k both) spare
      ∙ ap (λ (xs : List T). parts_of (set removed k both) ++ xs ∷ []) spare_is
      ∙ ap (λ (xss : List (List T)). xss ++ [] ∷ []) (parts-set removed k both
      ∙ ap (λ (xss : List (List T)). set xss k both.items.items)
      (ap parts_of removed_is ∙ parts-remove blocks (k + 1))
      ∙ ap (λ (xs : List T). set (remove (parts_of blocks) (k + 1)) k xs) both_is)

  -- the parts of blocks of which one was split
  pub split_parts : (blocks shorter after : List (Block T)) (k : ℕ) (first second : Block T)
      → after ≡ insert (set shorter k first) (k + 1) second
      → parts_of after
      ≡ insert (set (parts_of shorter) k first.items.items) (k + 1) second.items.items
  split_parts blocks shorter after k first second after_is =
      ap parts_of after_is ∙ parts-insert (set shorter k first) (k + 1) second
      ∙ ap (λ (xss : List (List T)). insert xss (k + 1) second.items.items)
      (parts-set shorter k first)

  pub parts-two : (blocks : List (Block T)) (from to : ℕ) (given taken : Block T)
      → parts_of (set (set blocks from given) to taken)
      ≡ set (set (parts_of blocks) from given.items.items) to taken.items.items
  parts-two blocks from to given taken =
      parts-set (set blocks from given) to taken
      ∙ ap (λ (xss : List (List T)). set xss to taken.items.items) (parts-set blocks from given)

  -- the last of some blocks has nothing
  pub spare_parts : (blocks shorter : List (Block T)) (spare : Block T)
      → blocks ≡ shorter ++ spare ∷ [] → size_at (parts_of blocks) (length shorter) ≡ 0
      → parts_of blocks ≡ parts_of shorter ++ [] ∷ []
  spare_parts blocks shorter spare is empty =
      let parts_are : parts_of blocks ≡ parts_of shorter ++ spare.items.items ∷ [] =
      ap parts_of is ∙ parts-push shorter spare in
      let read : get_or (parts_of blocks) (length shorter) [] ≡ spare.items.items =
      ap (λ (xss : List (List T)). get_or xss (length shorter) []) parts_are
      ∙ get_or_at (parts_of shorter) spare.items.items [] [] (length shorter)
      (length-parts shorter) in
      let none : spare.items.items ≡ [] =
      nil_from_length spare.items.items (ap length (sym read) ∙ empty) in
      parts_are ∙ ap (λ (xs : List T). parts_of shorter ++ xs ∷ []) none
