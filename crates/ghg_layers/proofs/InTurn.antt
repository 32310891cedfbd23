-- Nodes by layers stand each behind those of its inputs that are among them.
use Rattle.std.proofs.Common.{◌≡◌, ℕ, suc, ◌+◌, ◌≤◌, cond, nat_le, true, List, [], ◌∷◌, Some, refl, ap, ◌∙◌, subst, arith}
use Rattle.std.specs.Prelude.{slice_get}
use Rattle.std.specs.List.{Contains}
use Rattle.std.proofs.lemmas.List.Sums.{sum_by-cons}
use Rattle.std.proofs.lemmas.List.Sorted.{Contains-permutation, IsPermutation-sym}
use Rattle.std.proofs.lemmas.Option.{get_or_from_slice_get, slice_get-get_or, slice_get_within}
use Rattle.ghg_units.specs.declared.node.Node.{Node}
use Rattle.ghg_definitions.specs.Compilation.{is_node, sheet_of}
use Rattle.ghg_definitions.specs.Data.{Data}
use Rattle.ghg_definitions.specs.Trials.{IsInput}
use Rattle.ghg_affected.specs.Patches.{IsInTurn}
use Rattle.ghg_layers.specs.declared.buckets.Layers.{Layers}
use Rattle.ghg_layers.specs.Layers.{AreLayers, LayersAreInTurn, layer_of}

-- a place behind another is not of an earlier layer
layers_rise : (ends : List ℕ) (i j : ℕ) → i ≤ j → layer_of ends i ≤ layer_of ends j
layers_rise [] i j h = omega arith
layers_rise (end ∷ ends) i j h =
    let a = sum_by-cons (λ e. cond (nat_le e i) 1 0) end ends in
    let b = sum_by-cons (λ e. cond (nat_le e j) 1 0) end ends in
    let here = step end i j h in
    let rest = layers_rise ends i j h in omega (arith, a, b, here, rest)
  where
    step : (end i j : ℕ) → i ≤ j → cond (nat_le end i) 1 0 ≤ cond (nat_le end j) 1 0
    step end i j h = grind (arith, h)

module _ (m : Data) (given : List Node) (l : Layers) (nodes : (n : Node) → Contains given n → is_node m n ≡ true) (are : AreLayers m given l) where
  -- what stands at a place has no input there or behind it
  not_behind : (i j : ℕ) (n k : Node) → i ≤ j → slice_get l.nodes.items i ≡ Some n → slice_get l.nodes.items j ≡ Some k → IsInput (sheet_of m) k n → ⊥
  not_behind i j n k h a b input =
      let less = are.behind n k _ _ (record { place = i; there = a; within = refl }) (record { place = j; there = b; within = refl }) input in
      let rise = layers_rise l.ends.items i j h in absurd (omega (arith, less, rise))

  is_node_at : (i : ℕ) (n : Node) → slice_get l.nodes.items i ≡ Some n → is_node m n ≡ true
  is_node_at i n e = nodes n (Contains-permutation l.nodes.items given n (IsPermutation-sym given l.nodes.items are.same)
      (i, slice_get_within l.nodes.items i n e, get_or_from_slice_get l.nodes.items i n n e))

  -- the nodes from a place on
  in_turn_from : (ns : List Node) (at : ℕ) → ((i : ℕ) (n : Node) → slice_get ns i ≡ Some n → slice_get l.nodes.items (at + i) ≡ Some n) → IsInTurn (sheet_of m) ns
  in_turn_from [] at there = tt
  in_turn_from (n ∷ ns) at there = (
    is_node_at (at + 0) n (there 0 n refl),
    λ k input c. not_behind (at + 0) (at + c.0) n k (omega arith) (there 0 n refl) (there c.0 k (slice_get-get_or (n ∷ ns) c.0 k c.1 ∙ ap Some c.2)) input,
    in_turn_from ns (at + 1) (λ i k e. let f : at + suc i ≡ (at + 1) + i = omega arith in subst (λ p. slice_get l.nodes.items p ≡ Some k) f (there (suc i) k e)),
  )

pub layers_are_in_turn : LayersAreInTurn
layers_are_in_turn m given l nodes are = in_turn_from m given l nodes are l.nodes.items 0 (λ i n e. let f : i ≡ 0 + i = omega arith in subst (λ p. slice_get l.nodes.items p ≡ Some n) f e)
