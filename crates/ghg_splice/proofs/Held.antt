-- What fills the years holds what the formulas give of exact fractions.
use Rattle.std.proofs.Common.{◌≡◌, ℕ, zero, suc, ◌+◌, ◌-◌, List, [], ◌∷◌, ◌++◌, length, map, take, fold, filter_map, Option, Some, None, true, false, refl, sym, ap, ◌∙◌, inl, inr, arith}
use Rattle.std.specs.List.{cons_option, range_with_len}
use Rattle.std.specs.Option.{option_map}
use Rattle.std.specs.Result.{result_ok}
use Rattle.std.proofs.Math.Nat.{zero-lt-suc}
use Rattle.std.proofs.lemmas.Bool.{cases_Bool, true≢false}
use Rattle.std.proofs.lemmas.Int.{ints}
use Rattle.ghg_interval.specs.Bounds as bounds
use Rattle.ghg_interval.specs.Bounds.{Bounds, HoldsZero, Inside, bound_limit}
use Rattle.ghg_interval.specs.Fractions as fraction
use Rattle.ghg_interval.specs.Fractions.{Fraction}
use Rattle.ghg_interval.specs.Operations.{holds_zero, is_bounded_by, limited, product_in, quotient_in, scaled_in, sum_in}
use Rattle.ghg_interval.proofs.Containment.{product_holds, scaled_holds, sum_holds}
use Rattle.ghg_interval.proofs.Division.{quotient_holds}
use Rattle.ghg_units.specs.Steps.{◌>>=◌}
use Rattle.ghg_splice.specs.declared.fills.Fill.{Fill}
use Rattle.ghg_splice.specs.declared.formulas.Base.{Base}
use Rattle.ghg_splice.specs.declared.formulas.Known.{Known}
use Rattle.ghg_splice.specs.declared.method.Method.{Method}
use Rattle.ghg_splice.specs.declared.method.Method.TheVariants.{Linear, Surrogate, Overlap}
use Rattle.ghg_splice.specs.declared.quantity.Quantity.{Quantity}
use Rattle.ghg_splice.specs.declared.series.Row.{Row}
use Rattle.ghg_splice.specs.Fills.{base_in, fill_from_x, gap, gap_after, gaps, interpolated, known_of}
use Rattle.ghg_splice.specs.Formulas.{linear, overlap, ratio_sum, surrogate, with_ratio}
use Rattle.ghg_splice.specs.Laws.{AreChosen, AreHeld, FillsHoldExactFractions, HoldsExactFractions, IsHeld, IsSupplied}
use Rattle.ghg_splice.specs.Quantities.{fractions, part_in, quantities}

-- ---- operations

-- bounds that an operation answers are those of its definition
limited_is : (b c : Bounds) → result_ok (limited b) ≡ Some c → c ≡ b
limited_is b c e = elim (cases_Bool (is_bounded_by bound_limit b)) [
  | inl fits ↦ let same : ◌≡◌ {A = Option Bounds} (Some b) (Some c) = rw fits at e in cc
  | inr over ↦ let none : ◌≡◌ {A = Option Bounds} None (Some c) = rw over at e in absurd (cc)
]

sum_inside : (a b : Bounds) (f g : Fraction) → Inside a f → Inside b g → (c : Bounds) → result_ok (sum_in a b) ≡ Some c → Inside c (fraction.sum f g)
unfolding sum_in
sum_inside a b f g h k c e = rw (limited_is (bounds.sum a b) c e) (sum_holds a b f g h k)

product_inside : (a b : Bounds) (f g : Fraction) → Inside a f → Inside b g → (c : Bounds) → result_ok (product_in a b) ≡ Some c → Inside c (fraction.product f g)
unfolding product_in
product_inside a b f g h k c e = rw (limited_is (bounds.product a b) c e) (product_holds a b f g h k)

scaled_inside : (p q : ℕ) (a : Bounds) (f : Fraction) → Inside a f → (c : Bounds) → result_ok (scaled_in p (suc q) a) ≡ Some c → Inside c (fraction.scaled p (suc q) (zero-lt-suc q) f)
unfolding scaled_in
scaled_inside p q a f h c e = rw (limited_is (bounds.scaled p (suc q) a) c e) (scaled_holds p (suc q) a (zero-lt-suc q) f h)

zero_told : (b : Bounds) → holds_zero b ≡ false → HoldsZero b → ⊥
zero_told b none held = let told : holds_zero b ≡ true = grind (arith, ints, held.below, held.above) in true≢false (sym told ∙ none)

quotient_inside : (a b : Bounds) (f g : Fraction) → Inside a f → Inside b g → (c : Bounds) → result_ok (quotient_in a b) ≡ Some c → Inside c (fraction.quotient f g)
unfolding quotient_in
quotient_inside a b f g h k c e = elim (cases_Bool (holds_zero b)) [
  | inl holds ↦ let none : ◌≡◌ {A = Option Bounds} None (Some c) = rw holds at e in absurd (cc)
  | inr divides ↦ elim (cases_Bool (is_bounded_by bound_limit (bounds.quotient a b))) [
    | inl fits ↦
        let same : ◌≡◌ {A = Option Bounds} (Some (bounds.quotient a b)) (Some c) = rw (divides, fits) at e in
        let is : c ≡ bounds.quotient a b = cc in
        rw is (quotient_holds a b (zero_told b divides) f g h k)
    | inr over ↦ let none : ◌≡◌ {A = Option Bounds} None (Some c) = rw (divides, over) at e in absurd (cc)
  ]
]

-- of a point and a range, what the range gives is held
both_held : (point range : Option Bounds) (f : Fraction) → ((c : Bounds) → range ≡ Some c → Inside c f)
    → IsHeld (point >>= (λ p. range >>= (λ r. Some (record { point = p; range = r })))) (Some f)
both_held None range f inside = tt
both_held (Some point) None f inside = tt
both_held (Some point) (Some range) f inside = inside range refl

sum_held : (p q : Quantity) (f g : Fraction) → Inside p.range f → Inside q.range g → IsHeld (quantities.sum p q) (fractions.sum f g)
sum_held p q f g h k = both_held (result_ok (sum_in p.point q.point)) (result_ok (sum_in p.range q.range)) (fraction.sum f g) (sum_inside p.range q.range f g h k)

product_held : (p q : Quantity) (f g : Fraction) → Inside p.range f → Inside q.range g → IsHeld (quantities.product p q) (fractions.product f g)
product_held p q f g h k = both_held (result_ok (product_in p.point q.point)) (result_ok (product_in p.range q.range)) (fraction.product f g) (product_inside p.range q.range f g h k)

quotient_held : (p q : Quantity) (f g : Fraction) → Inside p.range f → Inside q.range g → IsHeld (quantities.quotient p q) (fractions.quotient f g)
quotient_held p q f g h k = both_held (result_ok (quotient_in p.point q.point)) (result_ok (quotient_in p.range q.range)) (fraction.quotient f g) (quotient_inside p.range q.range f g h k)

times_held : (n : ℕ) (p : Quantity) (f : Fraction) → Inside p.range f → IsHeld (quantities.times n p) (fractions.times n f)
times_held n p f h = both_held (result_ok (scaled_in n 1 p.point)) (result_ok (scaled_in n 1 p.range)) (fraction.scaled n 1 (zero-lt-suc 0) f) (scaled_inside n 0 p.range f h)

over_held : (n : ℕ) (p : Quantity) (f : Fraction) → Inside p.range f → IsHeld (quantities.over n p) (fractions.over n f)
over_held zero p f h = tt
over_held (suc n) p f h = both_held (part_in (suc n) p.point) (part_in (suc n) p.range) (fraction.scaled 1 (suc n) (zero-lt-suc n) f) (scaled_inside 1 n p.range f h)

-- ---- formulas

-- a step after another
then_held : (q : Option Quantity) (f : Option Fraction) (next : Quantity → Option Quantity) (exact : Fraction → Option Fraction)
    → IsHeld q f → ((a : Quantity) (g : Fraction) → Inside a.range g → IsHeld (next a) (exact g)) → IsHeld (q >>= next) (f >>= exact)
then_held None f next exact h step = tt
then_held (Some a) None next exact h step = absurd h
then_held (Some a) (Some g) next exact h step = step a g h

-- a known year, with a fraction inside its range
record IsKnown (a : Known Quantity) (b : Known Fraction) : Type 0 where
  pub year : a.year ≡ b.year
  pub y : Inside a.y.range b.y

abbrev AreKnown : List (Known Quantity) → List (Known Fraction) → Type 0
AreKnown [] [] = Unit {0}
AreKnown (a ∷ known) (b ∷ exact) = IsKnown a b × AreKnown known exact
AreKnown _ _ = ⊥

-- a base, with fractions inside its ranges
record IsBase (a : Base Quantity) (b : Base Fraction) : Type 0 where
  pub y : Inside a.y.range b.y
  pub x : Inside a.x.range b.x

abbrev AreBases : List (Base Quantity) → List (Base Fraction) → Type 0
AreBases [] [] = Unit {0}
AreBases (a ∷ bases) (b ∷ exact) = IsBase a b × AreBases bases exact
AreBases _ _ = ⊥

linear_held : (a b : Known Quantity) (f g : Known Fraction) (t : ℕ) → IsKnown a f → IsKnown b g → IsHeld (linear quantities a t b) (linear fractions f t g)
unfolding linear
linear_held a b f g t h k =
    rw (h.year, k.year) (then_held _ _ _ _ (times_held (g.year - t) a.y f.y h.y) (λ p p' first.
    then_held _ _ _ _ (times_held (t - f.year) b.y g.y k.y) (λ q q' second.
    then_held _ _ _ _ (sum_held p q p' q' first second) (λ s s' both.
    over_held (g.year - f.year) s s' both))))

surrogate_held : (bases : List (Base Quantity)) (exact : List (Base Fraction)) (x : Quantity) (f : Fraction) → AreBases bases exact → Inside x.range f
    → IsHeld (surrogate quantities bases x) (surrogate fractions exact f)
unfolding surrogate
surrogate_held [] [] x f h k = tt
surrogate_held [] (e ∷ exact) x f h k = absurd h
surrogate_held (b ∷ bases) [] x f h k = absurd h
surrogate_held (b ∷ bases) (e ∷ exact) x f h k =
    then_held _ _ _ _ (quotient_held x b.x f e.x k h.0.x) (λ r r' ratio. product_held r b.y r' e.y ratio h.0.y)

with_ratio_held : (q : Option Quantity) (f : Option Fraction) (b : Base Quantity) (e : Base Fraction) → IsHeld q f → IsBase b e
    → IsHeld (with_ratio quantities q b) (with_ratio fractions f e)
with_ratio_held q f b e h k =
    then_held q f _ _ h (λ s s' before.
    then_held _ _ _ _ (quotient_held b.y b.x e.y e.x k.y k.x) (λ r r' ratio. sum_held s r s' r' before ratio))

added_held : (bases : List (Base Quantity)) (exact : List (Base Fraction)) (q : Option Quantity) (f : Option Fraction) → IsHeld q f → AreBases bases exact
    → IsHeld (fold (with_ratio quantities) q bases) (fold (with_ratio fractions) f exact)
added_held [] [] q f h k = h
added_held [] (e ∷ exact) q f h k = absurd k
added_held (b ∷ bases) [] q f h k = absurd k
added_held (b ∷ bases) (e ∷ exact) q f h k = added_held bases exact (with_ratio quantities q b) (with_ratio fractions f e) (with_ratio_held q f b e h k.0) k.1

ratio_sum_held : (bases : List (Base Quantity)) (exact : List (Base Fraction)) → AreBases bases exact → IsHeld (ratio_sum quantities bases) (ratio_sum fractions exact)
unfolding ratio_sum
ratio_sum_held [] [] h = tt
ratio_sum_held [] (e ∷ exact) h = absurd h
ratio_sum_held (b ∷ bases) [] h = absurd h
ratio_sum_held (b ∷ bases) (e ∷ exact) h = added_held bases exact (quantities.quotient b.y b.x) (fractions.quotient e.y e.x) (quotient_held b.y b.x e.y e.x h.0.y h.0.x) h.1

same_length : (bases : List (Base Quantity)) (exact : List (Base Fraction)) → AreBases bases exact → length bases ≡ length exact
same_length [] [] h = refl
same_length [] (e ∷ exact) h = absurd h
same_length (b ∷ bases) [] h = absurd h
same_length (b ∷ bases) (e ∷ exact) h = ap suc (same_length bases exact h.1)

overlap_held : (bases : List (Base Quantity)) (exact : List (Base Fraction)) (x : Quantity) (f : Fraction) → AreBases bases exact → Inside x.range f
    → IsHeld (overlap quantities bases x) (overlap fractions exact f)
unfolding overlap
overlap_held bases exact x f h k =
    rw (same_length bases exact h) (then_held _ _ _ _ (ratio_sum_held bases exact h) (λ s s' sum.
    then_held _ _ _ _ (over_held (length exact) s s' sum) (λ r r' mean. product_held x r f r' k mean)))

-- ---- linear interpolation

cons_known : (y : Option Quantity) (f : Option Fraction) (year other : ℕ) (later : List (Known Quantity)) (laters : List (Known Fraction))
    → year ≡ other → IsSupplied y f → AreKnown later laters
    → AreKnown (cons_option (option_map (λ v. record { year = year; y = v }) y) later) (cons_option (option_map (λ v. record { year = other; y = v }) f) laters)
cons_known None None year other later laters same h k = k
cons_known None (Some f) year other later laters same h k = absurd h
cons_known (Some y) None year other later laters same h k = absurd h
cons_known (Some y) (Some f) year other later laters same h k = (record { year = same; y = h }, k)

known_held : (rows : List (Row Quantity)) (choices : List (Row Fraction)) → AreChosen rows choices → AreKnown (known_of rows) (known_of choices)
known_held [] [] h = tt
known_held [] (c ∷ choices) h = absurd h
known_held (r ∷ rows) [] h = absurd h
known_held (r ∷ rows) (c ∷ choices) h = cons_known r.y c.y r.year c.year (known_of rows) (known_of choices) h.0.year h.0.y (known_held rows choices h.1)

append_held : (a b : List (Fill Quantity)) (c d : List (Fill Fraction)) → AreHeld a c → AreHeld b d → AreHeld (a ++ b) (c ++ d)
append_held [] b [] d h k = k
append_held [] b (f ∷ c) d h k = absurd h
append_held (e ∷ a) b [] d h k = absurd h
append_held (e ∷ a) b (f ∷ c) d h k = (h.0, h.1, append_held a b c d h.2 k)

years_held : (a b : Known Quantity) (f g : Known Fraction) (years : List ℕ) → IsKnown a f → IsKnown b g
    → AreHeld (map (interpolated quantities a b) years) (map (interpolated fractions f g) years)
years_held a b f g [] h k = tt
years_held a b f g (t ∷ years) h k = (refl, linear_held a b f g t h k, years_held a b f g years h k)

gap_held : (a b : Known Quantity) (f g : Known Fraction) → IsKnown a f → IsKnown b g → AreHeld (gap quantities a b) (gap fractions f g)
unfolding gap
gap_held a b f g h k =
    let same : range_with_len (a.year + 1) (b.year - (a.year + 1)) ≡ range_with_len (f.year + 1) (g.year - (f.year + 1)) = rw (h.year, k.year) refl in
    rw same (years_held a b f g (range_with_len (f.year + 1) (g.year - (f.year + 1))) h k)

gap_after_held : (a : Known Quantity) (f : Known Fraction) (known : List (Known Quantity)) (exact : List (Known Fraction)) → IsKnown a f → AreKnown known exact
    → AreHeld (gap_after quantities a known) (gap_after fractions f exact)
gap_after_held a f [] [] h k = tt
gap_after_held a f [] (g ∷ exact) h k = absurd k
gap_after_held a f (b ∷ known) [] h k = absurd k
gap_after_held a f (b ∷ known) (g ∷ exact) h k = gap_held a b f g h k.0

gaps_held : (known : List (Known Quantity)) (exact : List (Known Fraction)) → AreKnown known exact → AreHeld (gaps quantities known) (gaps fractions exact)
unfolding gaps
gaps_held [] [] h = tt
gaps_held [] (f ∷ exact) h = absurd h
gaps_held (a ∷ known) [] h = absurd h
gaps_held (a ∷ known) (f ∷ exact) h = append_held _ _ _ _ (gap_after_held a f known exact h.0 h.1) (gaps_held known exact h.1)

-- ---- surrogate data and overlap

cons_base : (y x : Option Quantity) (f g : Option Fraction) (year other : ℕ) (later : List (Base Quantity)) (laters : List (Base Fraction))
    → IsSupplied y f → IsSupplied x g → AreBases later laters
    → AreBases (cons_option (y >>= (λ v. x >>= (λ w. Some (record { year = year; y = v; x = w })))) later) (cons_option (f >>= (λ v. g >>= (λ w. Some (record { year = other; y = v; x = w })))) laters)
cons_base None x None g year other later laters h k l = l
cons_base None x (Some f) g year other later laters h k l = absurd h
cons_base (Some y) x None g year other later laters h k l = absurd h
cons_base (Some y) None (Some f) None year other later laters h k l = l
cons_base (Some y) None (Some f) (Some g) year other later laters h k l = absurd k
cons_base (Some y) (Some x) (Some f) None year other later laters h k l = absurd k
cons_base (Some y) (Some x) (Some f) (Some g) year other later laters h k l = (record { y = h; x = k }, l)

all_bases : (rows : List (Row Quantity)) (choices : List (Row Fraction)) → AreChosen rows choices → AreBases (filter_map base_in rows) (filter_map base_in choices)
all_bases [] [] h = tt
all_bases [] (c ∷ choices) h = absurd h
all_bases (r ∷ rows) [] h = absurd h
all_bases (r ∷ rows) (c ∷ choices) h = cons_base r.y r.x c.y c.x r.year c.year (filter_map base_in rows) (filter_map base_in choices) h.0.y h.0.x (all_bases rows choices h.1)

first_base : (bases : List (Base Quantity)) (exact : List (Base Fraction)) → AreBases bases exact → AreBases (take 1 bases) (take 1 exact)
first_base [] [] h = tt
first_base [] (e ∷ exact) h = absurd h
first_base (b ∷ bases) [] h = absurd h
first_base (b ∷ bases) (e ∷ exact) h = (h.0, tt)

cons_fill : (formula : Quantity → Option Quantity) (exact : Fraction → Option Fraction) (y x : Option Quantity) (f g : Option Fraction) (year other : ℕ)
    (later : List (Fill Quantity)) (laters : List (Fill Fraction)) → ((q : Quantity) (e : Fraction) → Inside q.range e → IsHeld (formula q) (exact e))
    → year ≡ other → IsSupplied y f → IsSupplied x g → AreHeld later laters
    → AreHeld (cons_option (fill_from_x formula (record { year = year; y = y; x = x })) later) (cons_option (fill_from_x exact (record { year = other; y = f; x = g })) laters)
cons_fill formula exact None None None None year other later laters held same h k l = l
cons_fill formula exact None None None (Some g) year other later laters held same h k l = absurd k
cons_fill formula exact None (Some x) None None year other later laters held same h k l = absurd k
cons_fill formula exact None (Some x) None (Some g) year other later laters held same h k l = (same, held x g k, l)
cons_fill formula exact None x (Some f) g year other later laters held same h k l = absurd h
cons_fill formula exact (Some y) x None g year other later laters held same h k l = absurd h
cons_fill formula exact (Some y) x (Some f) g year other later laters held same h k l = l

fills_from_x_held : (formula : Quantity → Option Quantity) (exact : Fraction → Option Fraction) (rows : List (Row Quantity)) (choices : List (Row Fraction))
    → ((q : Quantity) (e : Fraction) → Inside q.range e → IsHeld (formula q) (exact e)) → AreChosen rows choices
    → AreHeld (filter_map (fill_from_x formula) rows) (filter_map (fill_from_x exact) choices)
fills_from_x_held formula exact [] [] held h = tt
fills_from_x_held formula exact [] (c ∷ choices) held h = absurd h
fills_from_x_held formula exact (r ∷ rows) [] held h = absurd h
fills_from_x_held formula exact (r ∷ rows) (c ∷ choices) held h =
    cons_fill formula exact r.y r.x c.y c.x r.year c.year _ _ held h.0.year h.0.y h.0.x (fills_from_x_held formula exact rows choices held h.1)

pub fills_hold : FillsHoldExactFractions
fills_hold Linear rows choices h = gaps_held (known_of rows) (known_of choices) (known_held rows choices h)
fills_hold Surrogate rows choices h =
    fills_from_x_held _ _ rows choices (λ q e inside. surrogate_held _ _ q e (first_base _ _ (all_bases rows choices h)) inside) h
fills_hold Overlap rows choices h =
    fills_from_x_held _ _ rows choices (λ q e inside. overlap_held _ _ q e (all_bases rows choices h) inside) h

-- the same of the rows of a body
pub held_in : (method : Method) (body : List ℕ) → HoldsExactFractions method body
held_in method body rows choices reads chosen = fills_hold method rows choices chosen
