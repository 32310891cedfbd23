-- Lists that loops build from the rows that they have passed.
use Rattle.std.proofs.Common.{◌≡◌, ◌∙◌, ◌≤◌, ◌<◌, ◌+◌, ◌-◌, ℕ, List, [], ◌∷◌, ◌++◌, length, map, filter_map, take, drop, get_or, find, Option, Some, None, Result, Ok, Err, ◌==◌, false, true≢false, arith, refl, ap, append_assoc, length-drop}
use Rattle.std.specs.List.{cons_option, range_with_len}
use Rattle.std.proofs.lemmas.List.FromFn.{map-range_with_len_more}
use Rattle.ghg_splice.specs.declared.fills.Fill.{Fill}
use Rattle.ghg_interval.specs.Operations.{holds_zero}
use Rattle.ghg_splice.specs.declared.formulas.Base.{Base}
use Rattle.ghg_splice.specs.declared.formulas.Known.{Known}
use Rattle.ghg_splice.specs.declared.refusal.SpliceRefusal.{SpliceRefusal}
use Rattle.ghg_splice.specs.declared.refusal.SpliceRefusal.TheVariants.{ZeroRange}
use Rattle.ghg_splice.specs.declared.method.Method.{Method}
use Rattle.ghg_splice.specs.declared.method.Method.TheVariants.{Linear, Surrogate, Overlap}
use Rattle.ghg_splice.specs.declared.quantity.Quantity.{Quantity}
use Rattle.ghg_splice.specs.declared.series.Row.{Row}
use Rattle.ghg_splice.specs.Fills.{base_in, bases_of, fault_of, gap, gaps, interpolated, unless}
use Rattle.ghg_splice.specs.Formulas.{linear}
use Rattle.ghg_splice.specs.Quantities.{quantities}
use Rattle.ghg_splice.proofs.Joined.{split_at}

-- ---- how many bases there are

cons_few : {X : Type 0} (o : Option X) (xs : List X) (n : ℕ) → length xs ≤ n → length (cons_option o xs) ≤ n + 1
cons_few None xs n h = omega arith
cons_few (Some x) xs n h = omega arith

few_left : {X Y : Type 0} (f : X → Option Y) (xs : List X) → length (filter_map f xs) ≤ length xs
few_left f [] = omega arith
few_left f (x ∷ xs) = omega (arith, cons_few (f x) (filter_map f xs) (length xs) (few_left f xs))

-- there are no more bases than rows
pub few_bases : (method : Method) (rows : List (Row Quantity)) → length (bases_of method rows) ≤ length rows
few_bases Linear rows = few_left base_in rows
few_bases Overlap rows = few_left base_in rows
few_bases Surrogate rows =
    let few = few_left (base_in {A = Quantity}) rows in
    let some : length (take 1 (filter_map (base_in {A = Quantity}) rows)) ≤ length (filter_map (base_in {A = Quantity}) rows) = grind arith in
    omega (arith, few, some)

-- ---- gaps

-- one year more of a gap
pub gap_more : (a b : Known Quantity) (before items new : List (Fill Quantity)) (step year : ℕ) (value : Option Quantity) → 1 ≤ step → a.year + step ≡ year
    → value ≡ linear quantities a year b → items ≡ before ++ map (interpolated quantities a b) (range_with_len (a.year + 1) (step - 1))
    → new ≡ items ++ record { year = year; value = value } ∷ []
    → new ≡ before ++ map (interpolated quantities a b) (range_with_len (a.year + 1) (step + 1 - 1))
gap_more a b before items new step year value some at is so_far longer =
    let count : step + 1 - 1 ≡ (step - 1) + 1 = omega arith in
    let place : (a.year + 1) + (step - 1) ≡ year = omega arith in
    let more = map-range_with_len_more (interpolated quantities a b) (a.year + 1) (step - 1) year place in
    rw (longer, so_far, is, count, more, append_assoc) refl

pub gap_whole : (a b : Known Quantity) (before items : List (Fill Quantity)) (step : ℕ) → step - 1 ≡ b.year - (a.year + 1)
    → items ≡ before ++ map (interpolated quantities a b) (range_with_len (a.year + 1) (step - 1)) → items ≡ before ++ gap quantities a b
unfolding gap
gap_whole a b before items step whole so_far = so_far ∙ ap (λ n. before ++ map (interpolated quantities a b) (range_with_len (a.year + 1) n)) whole

-- one gap more
pub gaps_more : (known : List (Known Quantity)) (at : ℕ) (a b : Known Quantity) (items new all : List (Fill Quantity)) → 1 ≤ at → at < length known
    → a ≡ get_or known (at - 1) a → b ≡ get_or known at b → items ++ gaps quantities (drop (at - 1) known) ≡ all → new ≡ items ++ gap quantities a b
    → new ++ gaps quantities (drop (at + 1 - 1) known) ≡ all
unfolding gaps
gaps_more known at a b items new all some small a_is b_is so_far longer =
    let here : at - 1 + 1 ≡ at = omega arith in
    let next : at + 1 - 1 ≡ at = omega arith in
    let first : drop (at - 1) known ≡ a ∷ drop (at - 1 + 1) known = split_at known (at - 1) a (omega arith) a_is in
    let second : drop at known ≡ b ∷ drop (at + 1) known = split_at known at b small b_is in
    let step : gaps quantities (drop (at - 1) known) ≡ gap quantities a b ++ gaps quantities (drop at known) = rw (first, here, second) refl in
    rw (longer, next, append_assoc, ← step) so_far

short_gaps : (known : List (Known Quantity)) → length known ≤ 1 → gaps quantities known ≡ []
unfolding gaps
short_gaps [] h = refl
short_gaps (a ∷ []) h = refl
short_gaps (a ∷ b ∷ known) h = absurd (omega arith)

pub no_gaps : (known : List (Known Quantity)) (at : ℕ) → length known ≤ at → gaps quantities (drop (at - 1) known) ≡ []
no_gaps known at past = short_gaps (drop (at - 1) known) (omega (arith, length-drop (at - 1) known))

-- ---- bases

-- the first base whose range of x holds zero
pub zero_refused : (bases : List (Base Quantity)) (base : Base Quantity) → find (λ b. holds_zero b.x.range) bases ≡ Some base
    → ◌≡◌ {A = Result (Unit {0}) SpliceRefusal} (Err (ZeroRange base.year)) (unless (fault_of bases) tt)
zero_refused [] base e = let none : ◌≡◌ {A = Option (Base Quantity)} None (Some base) = e in absurd (cc)
zero_refused (b ∷ bases) base e = rw e refl

pub none_refused : (bases : List (Base Quantity)) → (length bases == 0) ≡ false → find (λ b. holds_zero b.x.range) bases ≡ None
    → ◌≡◌ {A = Result (Unit {0}) SpliceRefusal} (Ok tt) (unless (fault_of bases) tt)
none_refused [] some e = absurd (true≢false some)
none_refused (b ∷ bases) some e = rw e refl
