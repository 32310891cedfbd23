-- What is taken of all parameters of a line.
use Rattle.std.proofs.Common.{◌≡◌, Bool, true, false, not, ◌&&◌, ◌||◌, List, [], ◌∷◌, ◌++◌, length, Option, Some, None, cond, Ok, Err, refl, sym, ap, ap₂, ◌∙◌, subst, arith, length-append}
use Rattle.std.specs.List.{list_all, list_any}
use Rattle.std.proofs.lemmas.List.Folds.{list_all-append, list_any-append}
use Rattle.ghg_cell.specs.declared.input.Input.{Input}
use Rattle.ghg_cell.specs.declared.input.Input.TheVariants.{Blank, Known}
use Rattle.ghg_cell.specs.declared.figures.Figures.{Figures}
use Rattle.ghg_cell.specs.Totals.{are_bounded_by, bounded_sum, equation_outcome, is_limited, sum_all, sum_input, sum_of_known, sum_within}
use Rattle.ghg_cell.specs.Values.{all_known, equation_value, input_of, is_blank, then}
use Rattle.ghg_interval.specs.declared.Over.{Over}
use Rattle.ghg_interval.specs.Bounds.{bound_limit}
use Rattle.ghg_units.specs.declared.node.Node.{Node}
use Rattle.ghg_equations.specs.declared.eq_id.EqId.{EqId}
use Rattle.ghg_definitions.specs.Formulas.{Outcome, gather}
use Rattle.ghg_definitions.specs.Trials.{Outcomes}
use Rattle.ghg_evaluation.specs.declared.arguments.Arguments.{Arguments}
use Rattle.ghg_evaluation.specs.declared.arguments.Taken.{Taken}
use Rattle.ghg_evaluation.specs.Arguments.{AreParts, IsBeyond, IsHeld, IsTaken, sum_outcome}
use Rattle.ghg_evaluation.proofs.Gathered.{gather_more}
use Rattle.ghg_evaluation.proofs.Limits.{beyond_outcome, blank_outcome, is_beyond, limited_outcome}

clash : ◌≡◌ {A = Bool} true false → ⊥
clash e = cc

-- nothing is taken yet
pub nothing_held : (held : Arguments) → held.inputs.items ≡ [] → held.fit ≡ true → held.blank ≡ false → IsHeld [] held
nothing_held held none fit blank = record { found = []; gathered = refl; count = refl; blank = blank; fit = λ e. none; beyond = λ e. absurd (clash (sym fit ∙ e)); limited = ap (list_all is_limited) none }

-- the other buffers make no difference
pub same_held : (outcomes : List Outcome) (old new : Arguments) → new.inputs.items ≡ old.inputs.items → new.fit ≡ old.fit → new.blank ≡ old.blank → IsHeld outcomes old → IsHeld outcomes new
same_held outcomes old new inputs fit blank held = record {
  found = held.found;
  gathered = held.gathered;
  count = held.count;
  blank = blank ∙ held.blank;
  fit = λ e. inputs ∙ held.fit (sym fit ∙ e);
  beyond = λ e. held.beyond (sym fit ∙ e);
  limited = ap (list_all is_limited) inputs ∙ held.limited;
}

-- what is beyond the limit is known
beyond_known : (i : Input) → is_limited i ≡ false → is_blank i ≡ false
beyond_known Blank e = absurd (cc)
beyond_known (Known point range) e = refl

or_false : (b : Bool) → (b || false) ≡ b
or_false true = refl
or_false false = refl

or_true : (b : Bool) → (b || true) ≡ true
or_true true = refl
or_true false = refl

any_more : {A : Type 0} (p : A → Bool) (xs : List A) (x : A) → list_any p (xs ++ x ∷ []) ≡ (list_any p xs || p x)
any_more p xs x = list_any-append p xs (x ∷ []) ∙ ap (λ b. list_any p xs || b) (or_false (p x))

module _ (outcomes : List Outcome) (old new : Arguments) (x : Outcome) (held : IsHeld outcomes old) where
  one_gathered : (found : Input) → x ≡ Ok found → gather (outcomes ++ x ∷ []) ≡ Ok (held.found ++ found ∷ [])
  one_gathered found is = gather_more outcomes held.found x held.gathered ∙ ap (λ y. then y (λ p. Ok (held.found ++ p ∷ []))) is

  one_counted : (found : Input) → length (held.found ++ found ∷ []) ≡ length (outcomes ++ x ∷ [])
  one_counted found = simp length-append (omega (arith, held.count))

  -- one more is taken
  pub one_taken : (i : Input) → x ≡ Ok i → is_limited i ≡ true → new.inputs.items ≡ old.inputs.items ++ i ∷ [] → new.fit ≡ old.fit → new.blank ≡ (old.blank || is_blank i) → IsHeld (outcomes ++ x ∷ []) new
  one_taken i is within inputs fit blank = record {
    found = held.found ++ i ∷ [];
    gathered = one_gathered i is;
    count = one_counted i;
    blank = blank ∙ ap (λ b. b || is_blank i) held.blank ∙ sym (any_more is_blank held.found i);
    fit = λ e. inputs ∙ ap (λ xs. xs ++ i ∷ []) (held.fit (sym fit ∙ e));
    beyond = λ e. any_more is_beyond held.found i ∙ ap (λ b. b || is_beyond i) (held.beyond (sym fit ∙ e));
    limited = ap (list_all is_limited) inputs ∙ list_all-append is_limited old.inputs.items (i ∷ []) ∙ ap₂ (λ a b. a && (b && true)) held.limited within;
  }

  -- or it is beyond the limit
  pub one_beyond : IsBeyond x → new.inputs.items ≡ old.inputs.items → new.fit ≡ false → new.blank ≡ old.blank → IsHeld (outcomes ++ x ∷ []) new
  one_beyond is inputs fit blank = record {
    found = held.found ++ is.found ∷ [];
    gathered = one_gathered is.found is.outcome;
    count = one_counted is.found;
    blank = blank ∙ held.blank ∙ sym (any_more is_blank held.found is.found ∙ ap (λ b. list_any is_blank held.found || b) (beyond_known is.found is.beyond) ∙ or_false (list_any is_blank held.found));
    fit = λ e. absurd (clash (sym e ∙ fit));
    beyond = λ e. any_more is_beyond held.found is.found ∙ ap (λ b. list_any is_beyond held.found || not b) is.beyond ∙ or_true (list_any is_beyond held.found);
    limited = ap (list_all is_limited) inputs ∙ held.limited;
  }

-- ---- a sum that is taken

sum_is : (cells : Outcomes) (ns : List Node) (parts : List Input) → AreParts cells ns parts true → sum_outcome cells ns ≡ Ok (sum_input parts)
sum_is cells ns parts are = ap (λ r. then r (λ xs. Ok (sum_input xs))) are.gathered

is_ok : {x y : Input} → ◌≡◌ {A = Outcome} (Ok x) (Ok y) → x ≡ y
is_ok e = cc

-- the sum within the limit
within_is : (parts : List Input) (i : Input) → sum_within parts ≡ Ok i → sum_input parts ≡ i
unfolding sum_within
within_is parts i e = by (all_known parts) e
  where
    fitting : (x : Figures) (b : Bool) → then (cond b (Ok x) (Err (record {}))) (λ y. Ok (input_of y)) ≡ Ok i → input_of x ≡ i
    fitting x true f = is_ok f
    fitting x false f = absurd (cc)

    by : (o : Option (List Figures)) → bounded_sum o ≡ Ok i → sum_of_known o ≡ i
    by None f = is_ok f
    by (Some xs) f = fitting (sum_all xs) _ f

-- the sum beyond it
beyond_is : (parts : List Input) (o : Over) → sum_within parts ≡ Err o → is_limited (sum_input parts) ≡ false
unfolding sum_within
beyond_is parts o e = by (all_known parts) e
  where
    passing : (x : Figures) (b : Bool) → are_bounded_by bound_limit x ≡ b → then (cond b (Ok x) (Err (record {}))) (λ y. Ok (input_of y)) ≡ Err o → is_limited (input_of x) ≡ false
    passing x true is f = absurd (cc)
    passing x false is f = is

    by : (k : Option (List Figures)) → bounded_sum k ≡ Err o → is_limited (sum_of_known k) ≡ false
    by None f = absurd (cc)
    by (Some xs) f = passing (sum_all xs) _ refl f

pub sum_taken : (cells : Outcomes) (ns : List Node) (parts : List Input) (i : Input) (t : Taken) → AreParts cells ns parts true → sum_within parts ≡ Ok i → IsTaken (Ok i) t → IsTaken (sum_outcome cells ns) t
sum_taken cells ns parts i t are is taken = subst (λ x. IsTaken x t) (sym (sum_is cells ns parts are ∙ ap (λ j. Ok j) (within_is parts i is))) taken

pub sum_beyond : (cells : Outcomes) (ns : List Node) (parts : List Input) (o : Over) → AreParts cells ns parts true → sum_within parts ≡ Err o → IsBeyond (sum_outcome cells ns)
sum_beyond cells ns parts o are is = record { found = sum_input parts; outcome = sum_is cells ns parts are; beyond = beyond_is parts o is }

-- ---- the outcome of the equation

module _ (id : EqId) (outcomes : List Outcome) (held : Arguments) (is : IsHeld outcomes held) where
  outcome_is : then (gather outcomes) (equation_outcome id) ≡ equation_outcome id is.found
  outcome_is = ap (λ r. then r (equation_outcome id)) is.gathered

  pub held_value : held.fit ≡ true → equation_value id held.inputs.items ≡ then (gather outcomes) (equation_outcome id)
  held_value fit = limited_outcome id held.inputs.items is.limited ∙ ap (equation_outcome id) (is.fit fit) ∙ sym outcome_is

  pub held_blank : held.blank ≡ true → Ok Blank ≡ then (gather outcomes) (equation_outcome id)
  held_blank blank = sym (blank_outcome id is.found (sym is.blank ∙ blank)) ∙ sym outcome_is

  pub held_beyond : held.blank ≡ false → held.fit ≡ false → Err (record {}) ≡ then (gather outcomes) (equation_outcome id)
  held_beyond known fit = sym (beyond_outcome id is.found (sym is.blank ∙ known) (is.beyond fit)) ∙ sym outcome_is
