use Rattle.std.proofs.Common.{◌≡◌, ◌*◌, drop}
use Rattle.std.specs.Ordering.{nat_cmp}
use Rattle.std.specs.Cmp.Lexicographic.{slice_cmp}
use Rattle.ghg_units.proofs.short_text.order.Given as goal

-- what stands before is the same
abbrev pub invariant-loop-place : goal.invariant-loop-place
invariant-loop-place g l =
    slice_cmp nat_cmp l.a l.b ≡ slice_cmp nat_cmp (drop (l.place * 8) l.a) (drop (l.place * 8) l.b)

abbrev pub invariant-loop-at : goal.invariant-loop-at
invariant-loop-at g l = slice_cmp nat_cmp l.a l.b ≡ slice_cmp nat_cmp (drop l.at l.a) (drop l.at l.b)
