-- What a crash leaves, one call after the other.
use Rattle.std.proofs.Common.{arith, inl, inr, refl}
use Rattle.sqlite.specs.State.{State, Survives}
use Rattle.sqlite.specs.Tree.{Trees}

-- where nothing was done
pub left_itself : (s : State) (Left : Trees → Type 0) → Survives s s Left
left_itself s Left = record {
  clean = omega arith;
  shield = λ shielded. shielded;
  counts = omega arith;
  limit = refl;
  closes = λ _ is_open. inl is_open;
  crash = λ _ trees left. inl left;
}

-- two things that are said of it
pub left_both : (s t : State) (One Two : Trees → Type 0) → Survives s t One → Survives s t Two → Survives s t (λ trees. One trees × Two trees)
left_both s t One Two one two = record {
  clean = one.clean;
  shield = one.shield;
  counts = one.counts;
  limit = one.limit;
  closes = one.closes;
  crash = λ clean trees left. elim (one.crash clean trees left) [
    | inl before ↦ inl before
    | inr first ↦ elim (two.crash clean trees left) [ inl before ↦ inl before | inr second ↦ inr (first, second) ]
  ];
}
