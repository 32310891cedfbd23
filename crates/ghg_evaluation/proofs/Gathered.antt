-- Outcomes that are gathered, of which one may be over.
use Rattle.std.proofs.Common.{◌≡◌, ◌+◌, ◌<◌, ℕ, Bool, true, false, ◌||◌, List, [], ◌∷◌, ◌++◌, length, get_or, map, flat_map, take, drop, Option, Some, None, Result, Ok, Err, is_err, refl, sym, ap, ap₂, ◌∙◌, arith, length-append}
use Rattle.std.specs.List.{list_any}
use Rattle.std.proofs.lemmas.List.{map-append}
use Rattle.std.proofs.lemmas.List.Folds.{list_any-append}
use Rattle.std.specs.Borrow.{Bor}
use Rattle.std.specs.Prelude.{option_copied}
use Rattle.ghg_cell.specs.declared.input.Input.{Input}
use Rattle.ghg_cell.specs.Totals.{sum_input}
use Rattle.ghg_cell.specs.Values.{then}
use Rattle.ghg_interval.specs.declared.Over.{Over}
use Rattle.ghg_units.specs.declared.node.Node.{Node}
use Rattle.ghg_units.specs.declared.row.Binding.{Binding}
use Rattle.ghg_definitions.specs.Data.{Data}
use Rattle.ghg_columns.specs.Cells.{outcome_in}
use Rattle.ghg_definitions.specs.Formulas.{Given, Operand, Outcome, SumOf, ValueOf, gather, map_operand, nodes_in, operand_outcome}
use Rattle.ghg_definitions.specs.Trials.{Outcomes, is_over, or_blank}
use Rattle.ghg_evaluation.specs.Arguments.{AreParts, operand_by, operand_outcomes, operands_by}
use Rattle.ghg_evaluation.specs.Kept.{copied}
use Rattle.ghg_evaluation.proofs.Each.{values_all, values_more}

-- ---- one outcome more

pub gather_more : (xs : List Outcome) (ps : List Input) (x : Outcome) → gather xs ≡ Ok ps → gather (xs ++ x ∷ []) ≡ then x (λ p. Ok (ps ++ p ∷ []))
gather_more [] ps (Ok p) e = let same : ps ≡ [] = cc in ap (λ qs. Ok (qs ++ p ∷ [])) (sym same)
gather_more [] ps (Err o) e = refl
gather_more (Err o ∷ xs) ps x e = absurd (cc)
gather_more (Ok y ∷ xs) ps x e = by (gather xs) (λ qs is. gather_more xs qs x is) e
  where
    by : (r : Result (List Input) Over) → ((qs : List Input) → r ≡ Ok qs → gather (xs ++ x ∷ []) ≡ then x (λ p. Ok (qs ++ p ∷ []))) → then r (λ rest. Ok (y ∷ rest)) ≡ Ok ps → then (gather (xs ++ x ∷ [])) (λ rest. Ok (y ∷ rest)) ≡ then x (λ p. Ok (ps ++ p ∷ []))
    by (Err o) is f = absurd (cc)
    by (Ok qs) is f = ap (λ r. then r (λ rest. Ok (y ∷ rest))) (is qs refl) ∙ onto x ∙ ap (λ zs. then x (λ p. Ok (zs ++ p ∷ []))) head
      where
        head : y ∷ qs ≡ ps
        head = cc

        onto : (z : Outcome) → then (then z (λ p. Ok (qs ++ p ∷ []))) (λ rest. Ok (y ∷ rest)) ≡ then z (λ p. Ok ((y ∷ qs) ++ p ∷ []))
        onto (Ok p) = refl
        onto (Err o) = refl

gathered_behind : (xs ys : List Outcome) (o : Over) → gather xs ≡ Err o → gather (xs ++ ys) ≡ Err o
gathered_behind [] ys o e = absurd (cc)
gathered_behind (Err p ∷ xs) ys o e = e
gathered_behind (Ok x ∷ xs) ys o e = by (gather xs) (λ p is. gathered_behind xs ys p is) e
  where
    by : (r : Result (List Input) Over) → ((p : Over) → r ≡ Err p → gather (xs ++ ys) ≡ Err p) → then r (λ rest. Ok (x ∷ rest)) ≡ Err o → then (gather (xs ++ ys)) (λ rest. Ok (x ∷ rest)) ≡ Err o
    by (Ok qs) is f = absurd (cc)
    by (Err p) is f = ap (λ r. then r (λ rest. Ok (x ∷ rest))) (is p refl) ∙ f

-- one is over, whatever follows
pub gather_stops : (xs ys : List Outcome) (ps : List Input) (x : Outcome) → gather xs ≡ Ok ps → x ≡ Err (record {}) → gather ((xs ++ x ∷ []) ++ ys) ≡ Err (record {})
gather_stops xs ys ps x e is = gathered_behind (xs ++ x ∷ []) ys (record {}) (gather_more xs ps x e ∙ ap (λ y. then y (λ p. Ok (ps ++ p ∷ []))) is)

-- ---- what is gathered is over just where one of the nodes is

then_ok : {A B : Type 0} (f : A → B) (r : Result A Over) → is_err (then r (λ x. Ok (f x))) ≡ is_err r
then_ok f (Ok x) = refl
then_ok f (Err e) = refl

gather_first : (x : Outcome) (xs : List Outcome) → is_err (gather (x ∷ xs)) ≡ (is_err x || is_err (gather xs))
gather_first (Ok i) xs = then_ok (λ rest. i ∷ rest) (gather xs)
gather_first (Err e) xs = refl

over_at : (o : Option Outcome) → is_err (or_blank o) ≡ is_over o
over_at None = refl
over_at (Some (Ok x)) = refl
over_at (Some (Err e)) = refl

module _ (cells : Outcomes) where
  gather_over : (ns : List Node) → is_err (gather (map (outcome_in cells) ns)) ≡ list_any (λ k. is_over (cells k)) ns
  gather_over [] = refl
  gather_over (n ∷ ns) = gather_first (outcome_in cells n) (map (outcome_in cells) ns) ∙ ap₂ (λ a b. a || b) (over_at (cells n)) (gather_over ns)

  or_false : (b : Bool) → b ≡ (b || false)
  or_false true = refl
  or_false false = refl

  module _ {S : Type 0} (given : S → Input) where
    operand_over : (a : Operand S) → is_err (operand_outcome (outcome_in cells) (map_operand given a)) ≡ list_any (λ k. is_over (cells k)) (nodes_in a)
    operand_over (Given x) = refl
    operand_over (ValueOf n) = over_at (cells n) ∙ or_false (is_over (cells n))
    operand_over (SumOf ns) = then_ok sum_input (gather (map (outcome_in cells) ns)) ∙ gather_over ns

    pub operands_over : (operands : List (Operand S)) → is_err (gather (operand_outcomes cells (map (map_operand given) operands))) ≡ list_any (λ k. is_over (cells k)) (flat_map nodes_in operands)
    operands_over [] = refl
    operands_over (a ∷ operands) =
        gather_first (operand_outcome (outcome_in cells) (map_operand given a)) (operand_outcomes cells (map (map_operand given) operands))
        ∙ ap₂ (λ a b. a || b) (operand_over a) (operands_over operands)
        ∙ sym (list_any-append (λ k. is_over (cells k)) (nodes_in a) (flat_map nodes_in operands))

-- ---- the parts of a sum

module _ (cells : Outcomes) where
  pub no_parts : AreParts cells [] [] true
  no_parts = record { gathered = refl; count = λ e. refl }

  module _ {A : Type 0} (to : A → Node) where
    abbrev given_by : List A → List Outcome
    given_by xs = map (outcome_in cells) (map to xs)

    given_append : (xs ys : List A) → given_by (xs ++ ys) ≡ given_by xs ++ given_by ys
    given_append xs ys = ap (map (outcome_in cells)) (map-append to xs ys) ∙ map-append (outcome_in cells) (map to xs) (map to ys)

    module _ (xs : List A) (i : ℕ) (x : A) (within : i < length xs) (is : x ≡ get_or xs i x) (parts : List Input)
        (are : AreParts cells (map to (take i xs)) parts true) where
      nodes_more : map to (take (i + 1) xs) ≡ map to (take i xs) ++ to x ∷ []
      nodes_more = values_more to (map to) (λ y. refl) (map-append to) xs i x within is

      pub part_more : (p : Input) → outcome_in cells (to x) ≡ Ok p → AreParts cells (map to (take (i + 1) xs)) (parts ++ p ∷ []) true
      part_more p here = record {
        gathered = ap gather (values_more (λ y. outcome_in cells (to y)) given_by (λ y. refl) given_append xs i x within is)
            ∙ gather_more (given_by (take i xs)) parts (outcome_in cells (to x)) are.gathered
            ∙ ap (λ y. then y (λ q. Ok (parts ++ q ∷ []))) here;
        count = λ e. omega (arith, ap length nodes_more, length-append (map to (take i xs)) (to x ∷ []), length-append parts (p ∷ []), are.count refl);
      }

      pub part_over : (others : List Input) → outcome_in cells (to x) ≡ Err (record {}) → AreParts cells (map to xs) others false
      part_over others here = record {
        gathered = ap gather (values_all (λ y. outcome_in cells (to y)) given_by (λ y. refl) given_append xs i x within is)
            ∙ gather_stops (given_by (take i xs)) (given_by (drop (i + 1) xs)) parts (outcome_in cells (to x)) are.gathered here;
        count = λ e. absurd (cc);
      }

-- ---- what bindings give

module _ (m : Data) (cells : Outcomes) (year : ℕ) where
  abbrev pub gives : Option (Bor Binding) → Outcome
  gives b = operand_outcome (outcome_in cells) (operand_by m year (option_copied b))

  abbrev pub all_give : List (Option (Bor Binding)) → List Outcome
  all_give bs = operand_outcomes cells (operands_by m year (copied bs))

  all_append : (xs ys : List (Option (Bor Binding))) → all_give (xs ++ ys) ≡ all_give xs ++ all_give ys
  all_append xs ys =
      ap (λ bs. operand_outcomes cells (operands_by m year bs)) (map-append (λ (b : Option (Bor Binding)). option_copied b) xs ys)
      ∙ ap (operand_outcomes cells) (map-append (operand_by m year) (copied xs) (copied ys))
      ∙ map-append (operand_outcome (outcome_in cells)) (operands_by m year (copied xs)) (operands_by m year (copied ys))

  module _ (bs : List (Option (Bor Binding))) (i : ℕ) (b : Option (Bor Binding)) (within : i < length bs) (is : b ≡ get_or bs i b) where
    pub one_more : all_give (take (i + 1) bs) ≡ all_give (take i bs) ++ gives b ∷ []
    one_more = values_more gives all_give (λ y. refl) all_append bs i b within is

    pub one_over : (found : List Input) → gather (all_give (take i bs)) ≡ Ok found → gives b ≡ Err (record {}) → gather (all_give bs) ≡ Err (record {})
    one_over found gathered over =
        ap gather (values_all gives all_give (λ y. refl) all_append bs i b within is)
        ∙ gather_stops (all_give (take i bs)) (all_give (drop (i + 1) bs)) found (gives b) gathered over
