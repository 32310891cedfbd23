-- The outcome of an equation over inputs: its value where they are within the limit of intervals; blank where one is
-- blank, else over where one is beyond that limit.
use Rattle.std.proofs.Common.{◌≡◌, Bool, true, false, not, ◌&&◌, ◌||◌, List, [], ◌∷◌, Option, Some, None, Ok, Err, refl, sym, ap, ap₂, ◌∙◌, if◌then◌else◌}
use Rattle.std.specs.Prelude.{⊤}
use Rattle.std.specs.List.{list_all, list_any}
use Rattle.ghg_interval.specs.Bounds.{bound_limit}
use Rattle.ghg_equations.specs.declared.eq_id.EqId.{EqId}
use Rattle.ghg_equations.specs.Table.{expression}
use Rattle.ghg_cell.specs.declared.figures.Figures.{Figures}
use Rattle.ghg_cell.specs.declared.input.Input.{Input}
use Rattle.ghg_cell.specs.declared.input.Input.TheVariants.{Blank, Known}
use Rattle.ghg_cell.specs.Totals.{are_bounded_by, computed_within, equation_outcome, is_limited}
use Rattle.ghg_cell.specs.Values.{all_known, computed, equation_value, is_blank, known, with_first}
use Rattle.ghg_definitions.proofs.Alike.{first_so, not_so, second_so}

abbrev pub is_beyond : Input → Bool
is_beyond i = not (is_limited i)

-- a figure is beyond the limit
abbrev any_beyond : List Figures → Bool
any_beyond xs = not (list_all (are_bounded_by bound_limit) xs)

or_not : (a b : Bool) → (not a || not b) ≡ not (a && b)
or_not true b = refl
or_not false b = refl

-- where none is blank all are known, and one is beyond the limit just where one of the inputs is
record AreKnown (inputs : List Input) : Type 0 where
  figures : List Figures
  known : all_known inputs ≡ Some figures
  beyond : any_beyond figures ≡ list_any is_beyond inputs

all_are_known : (inputs : List Input) → list_any is_blank inputs ≡ false → AreKnown inputs
all_are_known [] e = record { figures = []; known = refl; beyond = refl }
all_are_known (Blank ∷ inputs) e = absurd (cc)
all_are_known (Known point range ∷ inputs) e =
    let rest = all_are_known inputs e in
    let x : Figures = record { point = point; range = range } in
    record {
      figures = x ∷ rest.figures;
      known = ap (with_first (Some x)) rest.known;
      beyond = sym (or_not (are_bounded_by bound_limit x) (list_all (are_bounded_by bound_limit) rest.figures)) ∙ ap (λ b. is_beyond (Known point range) || b) rest.beyond;
    }

one_is_blank : (inputs : List Input) → list_any is_blank inputs ≡ true → all_known inputs ≡ None
one_is_blank [] e = absurd (cc)
one_is_blank (Blank ∷ inputs) e = refl
one_is_blank (Known point range ∷ inputs) e = ap (with_first (known (Known point range))) (one_is_blank inputs e)

pub blank_outcome : (id : EqId) (inputs : List Input) → list_any is_blank inputs ≡ true → equation_outcome id inputs ≡ Ok Blank
blank_outcome id inputs e = ap (computed_within id) (one_is_blank inputs e)

-- what is known is within the limit of intervals
abbrev AreLimited : Option (List Figures) → Type 0
AreLimited None = ⊤
AreLimited (Some xs) = list_all (are_bounded_by bound_limit) xs ≡ true

one_limited : (x : Figures) (xs : Option (List Figures)) → are_bounded_by bound_limit x ≡ true → AreLimited xs → AreLimited (with_first (Some x) xs)
one_limited x None first rest = rest
one_limited x (Some xs) first rest = ap₂ (λ a b. a && b) first rest

all_limited : (inputs : List Input) → list_all is_limited inputs ≡ true → AreLimited (all_known inputs)
all_limited [] e = refl
all_limited (Blank ∷ inputs) e = tt
all_limited (Known point range ∷ inputs) e = one_limited (record { point = point; range = range }) (all_known inputs) (first_so _ _ e) (all_limited inputs (second_so (is_limited (Known point range)) _ e))

-- within the limit of intervals the value of an equation is its outcome
pub limited_outcome : (id : EqId) (inputs : List Input) → list_all is_limited inputs ≡ true → equation_value id inputs ≡ equation_outcome id inputs
limited_outcome id inputs e = by (all_known inputs) (all_limited inputs e)
  where
    by : (figures : Option (List Figures)) → AreLimited figures → computed (expression id) figures ≡ computed_within id figures
    by None limited = refl
    by (Some xs) limited = sym (ap (λ b. if b then computed (expression id) (Some xs) else Err (record {})) limited)

pub beyond_outcome : (id : EqId) (inputs : List Input) → list_any is_blank inputs ≡ false → list_any is_beyond inputs ≡ true → equation_outcome id inputs ≡ Err (record {})
beyond_outcome id inputs e over =
    let all = all_are_known inputs e in
    ap (computed_within id) all.known ∙ ap (λ b. if b then computed (expression id) (Some all.figures) else Err (record {})) (not_so _ (all.beyond ∙ over))
