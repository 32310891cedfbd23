use Rattle.std.proofs.Common.{◌≡◌, ◌∙◌, ℕ, Bool, true, false, not, List, [], ◌∷◌, ap, arith, map, length, refl, sym}
use Rattle.std.specs.Bool.{◌==◌}
use Rattle.std.proofs.lemmas.Bool.{eq-eqb}
use Rattle.std.specs.Cmp.Lexicographic.{bytes_decides, pointwise}
use Rattle.std.specs.Str.{bytes_eq}
use Rattle.std.proofs.lemmas.Slice.Eq.{slice_eq-Decides}
use Rattle.ghg_units.specs.declared.node.Node.{Node}
use Rattle.ghg_units.specs.declared.node.Node.TheVariants as node
use Rattle.ghg_definitions.specs.Data.{Name}
use Rattle.ghg_affected.specs.Equalities.{same_nodes}
use Rattle.ghg_affected.proofs.Bools.{never_so, true_not_false}
use Rattle.ghg_affected.proofs.Equalities.{nodes_decide}
use Rattle.ghg_graph.proofs.operands.sums_differ.Goals as goal

line_name : Node → Name
line_name (node.Line name year) = name
line_name (node.Equiv name year) = name
line_name _ = []

lines_in : ℕ → List Name → List Node
lines_in year names = map (λ name. node.Line name year) names

same_again : (year : ℕ) (names : List Name) → map line_name (lines_in year names) ≡ names
unfolding lines_in line_name
same_again year [] = refl
same_again year (name ∷ names) = ap (λ ns. name ∷ ns) (same_again year names)

-- lists of values of different lines differ
other_lines : (xs ys : List Name) (last year : ℕ) → pointwise bytes_eq xs ys ≡ false
    → same_nodes (lines_in last xs) (lines_in year ys) ≡ false
other_lines xs ys last year off = never_so _ (λ e.
    let same : xs ≡ ys = sym (same_again last xs) ∙ ap (map line_name) ((nodes_decide _ _).0 e) ∙ same_again year ys in
    true_not_false (sym ((slice_eq-Decides bytes_decides xs ys (pointwise bytes_eq xs ys) refl).1 same) ∙ off))

-- those of the same lines are the same in one year, and else only where there are none
same_lines : (xs ys : List Name) (last year : ℕ) → pointwise bytes_eq xs ys ≡ true → last ≡ year
    → same_nodes (lines_in last xs) (lines_in year ys) ≡ true
same_lines xs ys last year on e = (nodes_decide _ _).1
    (ap (λ y. lines_in y xs) e ∙ ap (lines_in year) ((slice_eq-Decides bytes_decides xs ys (pointwise bytes_eq xs ys) refl).0 on))

other_years : (xs ys : List Name) (last year : ℕ) → pointwise bytes_eq xs ys ≡ true → (last ≡ year → ⊥)
    → (length xs == 0) ≡ same_nodes (lines_in last xs) (lines_in year ys)
unfolding lines_in
other_years [] [] last year on apart = refl
other_years [] (y ∷ ys) last year on apart = absurd (true_not_false (sym on))
other_years (x ∷ xs) [] last year on apart = absurd (true_not_false (sym on))
other_years (x ∷ xs) (y ∷ ys) last year on apart =
    let some : (length (x ∷ xs) == 0) ≡ false = grind arith in
    some ∙ sym (never_so _ (λ e. apart (first_year x y (lines_in last xs) (lines_in year ys) ((nodes_decide _ _).0 e))))
  where
    first_year : (x y : Name) (ns ks : List Node) → node.Line x last ∷ ns ≡ node.Line y year ∷ ks → last ≡ year
    first_year x y ns ks e = cc

not_not : (b : Bool) → not b ≡ false → b ≡ true
not_not true e = refl
not_not false e = absurd (cc)

not_so : (b : Bool) → not b ≡ true → b ≡ false
not_so true e = absurd (cc)
not_so false e = refl

pub returns-then-ne : goal.returns-then-ne
unfolding lines_in
returns-then-ne c =
    let h : c.ne.result ≡ not (pointwise bytes_eq c.args.before.now c.args.after.now) = c.ne.ensures in
    c.if-ne.true ∙ sym (ap not (other_lines c.args.before.now c.args.after.now c.args.last c.args.year
    (not_so _ (sym h ∙ c.if-ne.true))))

pub returns-then-last-year : goal.returns-then-last-year
unfolding lines_in
returns-then-last-year c =
    let h : c.ne.result ≡ not (pointwise bytes_eq c.args.before.now c.args.after.now) = c.ne.ensures in
    ap not (c.is_empty.ensures ∙ other_years c.args.before.now c.args.after.now c.args.last c.args.year
    (not_not _ (sym h ∙ c.if-ne.false)) c.if-last-year.true)

pub returns-else-last-year : goal.returns-else-last-year
unfolding lines_in
returns-else-last-year c =
    let h : c.ne.result ≡ not (pointwise bytes_eq c.args.before.now c.args.after.now) = c.ne.ensures in
    ap not (eq-eqb c.args.last c.args.year c.if-last-year.false
    ∙ sym (same_lines c.args.before.now c.args.after.now c.args.last c.args.year
    (not_not _ (sym h ∙ c.if-ne.false)) c.if-last-year.false))
