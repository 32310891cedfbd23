-- A list in which nothing stands twice is no longer than one that has all of it.
use Rattle.std.proofs.Common.{◌≡◌, ◌≤◌, suc, List, [], ◌∷◌, length, inl, inr, refl, subst, arith}
use Rattle.ghg_units.specs.declared.node.Node.{Node}
use Rattle.ghg_affected.specs.Counts.{StandOnce}
use Rattle.ghg_definitions.specs.Listed.{IsListed}
use Rattle.ghg_definitions.proofs.Listed.{contained, take_out}

pub no_more : (ns all : List Node) → StandOnce ns → ((n : Node) → IsListed n ns → IsListed n all) → length ns ≤ length all
no_more [] all once among = omega arith
no_more (k ∷ ns) all once among =
    let out = take_out k all (among k (inl refl)) in
    let rest : length ns ≤ length out.0 = no_more ns out.0 once.1 (λ n i. elim (out.1.others n (among n (inr i))) [
      | inl e ↦ absurd (once.0 (contained ns k (subst (λ x. IsListed x ns) e i)))
      | inr j ↦ j
    ]) in
    let shorter : length all ≡ suc (length out.0) = out.1.shorter in
    omega arith
