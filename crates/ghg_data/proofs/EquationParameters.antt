-- The parameters of equations, as the code has them and as the table names them.
use Rattle.std.proofs.Common.{◌≡◌, Bool, true, false, cond, not, ◌||◌, ◌&&◌, List, [], ◌∷◌, map, Option, Some, None, is_some, option_and_then, if◌then◌else◌, refl, ◌∙◌, sym, ap, subst}
use Rattle.std.specs.List.{AllByRecursion, find, list_all, list_any}
use Rattle.std.specs.Option.{option_map, option_map_or}
use Rattle.std.specs.Str.{bytes_eq}
use Rattle.std.specs.Cmp.Lexicographic.{bytes_decides}
use Rattle.std.proofs.lemmas.Bool.{both_ways}
use Rattle.ghg_equations.specs.declared.eq_id.EqId.{EqId}
use Rattle.ghg_equations.specs.declared.eq_id.EqId.TheVariants.{Q10}
use Rattle.ghg_equations.specs.declared.quantity.Dim.{Dim}
use Rattle.ghg_equations.specs.declared.row.Equation.{Equation}
use Rattle.ghg_equations.specs.declared.row.Param.{Param}
use Rattle.ghg_equations.specs.Table.{Quantity, parameters, row, seen}
use Rattle.ghg_units.specs.Parameter.{is_parameter, uncertainty_word}
use Rattle.ghg_units.specs.declared.row.Binding.{Binding}
use Rattle.ghg_definitions.specs.declared.place.Place.{Place}
use Rattle.ghg_definitions.specs.Data.{Data, Name, binding, line, uncertainty}
use Rattle.ghg_definitions.specs.Rules.{binds_parameter, is_bound, is_sound, is_uncertainty}
use Rattle.ghg_definitions.proofs.Alike.{first_so, second_so}
use Rattle.ghg_data.specs.Faults.{dim_of_place, is_fault, is_parameter_place, takes}
use Rattle.ghg_data.specs.Parameters.{quantity}

pub parameters_seen : (e : Equation) (id : EqId) → seen e ≡ row id → map quantity e.params.now ≡ parameters id
parameters_seen e id is = ap (λ r. r.parameters) is

pub dim_seen : (n : Name) (ps : List Param) → option_map (λ (q : Param). q.dim) (find (λ q. bytes_eq q.name.now n) ps) ≡ option_map (λ (q : Quantity). q.dim) (find (λ q. bytes_eq q.name n) (map quantity ps))
dim_seen n [] = refl
dim_seen n (p ∷ ps) = by (bytes_eq p.name.now n) (dim_seen n ps)
  where
    by : (b : Bool) → option_map (λ (q : Param). q.dim) (find (λ q. bytes_eq q.name.now n) ps) ≡ option_map (λ (q : Quantity). q.dim) (find (λ q. bytes_eq q.name n) (map quantity ps))
        → option_map (λ (q : Param). q.dim) (cond b (Some p) (find (λ q. bytes_eq q.name.now n) ps)) ≡ option_map (λ (q : Quantity). q.dim) (cond b (Some (quantity p)) (find (λ q. bytes_eq q.name n) (map quantity ps)))
    by true rest = refl
    by false rest = rest

any_found : (p : Quantity → Bool) (qs : List Quantity) → is_some (option_map (λ (q : Quantity). q.dim) (find p qs)) ≡ list_any p qs
any_found p [] = refl
any_found p (q ∷ qs) = by (p q) (any_found p qs)
  where
    by : (b : Bool) → is_some (option_map (λ (x : Quantity). x.dim) (find p qs)) ≡ list_any p qs → is_some (option_map (λ (x : Quantity). x.dim) (cond b (Some q) (find p qs))) ≡ b || list_any p qs
    by true rest = refl
    by false rest = rest

-- an equation that has a dimension for a parameter takes it
pub takes_found : (id : EqId) (n : Name) → is_some (option_map (λ (q : Quantity). q.dim) (find (λ q. bytes_eq q.name n) (parameters id))) ≡ takes id n
takes_found id n = any_found (λ q. bytes_eq q.name n) (parameters id)

-- ---- a place is a fault by what its parameter measures

named_alone : (x : Bool) → (x || false) && true ≡ x
named_alone true = refl
named_alone false = refl

taken_too : (x y : Bool) → (x || true) && y ≡ y
taken_too true y = refl
taken_too false y = refl

module _ (m : Data) (p : Place) (b : Option Binding) where
  abbrev dim_in : Option Quantity → Option Dim
  dim_in = option_map (λ (q : Quantity). q.dim)

  by_found : (e : EqId) (o : Option Quantity) → is_some (dim_in o) ≡ takes e p.parameter
      → (is_some b || takes e p.parameter) && not (option_map_or (λ q. is_bound m q.dim b) o false) ≡ option_map_or (λ d. not (is_bound m d b)) (dim_in o) (is_some b)
  by_found e None t = ap (λ x. (is_some b || x) && true) (sym t) ∙ named_alone (is_some b)
  by_found e (Some q) t = ap (λ x. (is_some b || x) && not (is_bound m q.dim b)) (sym t) ∙ taken_too (is_some b) _

  by_line : (l : Option EqId) → (is_some b || option_map_or (λ e. takes e p.parameter) l false) && not (option_map_or (λ e. binds_parameter m e p.parameter b) l false)
      ≡ option_map_or (λ d. not (is_bound m d b)) (option_and_then (λ e. dim_in (find (λ q. bytes_eq q.name p.parameter) (parameters e))) l) (is_some b)
  by_line None = named_alone (is_some b)
  by_line (Some e) = by_found e (find (λ q. bytes_eq q.name p.parameter) (parameters e)) (takes_found e p.parameter)

pub fault_at : (m : Data) (p : Place) → is_uncertainty p ≡ false → (d : Option Dim) → d ≡ dim_of_place m p
    → is_fault m p ≡ option_map_or (λ k. not (is_bound m k (binding m p.line p.parameter))) d (is_some (binding m p.line p.parameter))
unfolding is_sound
fault_at m p u d e =
    let b = binding m p.line p.parameter in
    (λ i. (if u i then is_some (uncertainty m p.line) else is_parameter_place m p) && not (option_map_or (λ e. u i || binds_parameter m e p.parameter b) (line m p.line) false))
    ∙ by_line m p b (line m p.line) ∙ ap (λ o. option_map_or (λ k. not (is_bound m k b)) o (is_some b)) (sym e)

-- the place of an uncertainty record is a fault where the line has one and is absent
pub uncertain_at : (m : Data) (p : Place) → is_uncertainty p ≡ true → is_fault m p ≡ is_some (uncertainty m p.line) && not (is_some (line m p.line))
unfolding is_sound
uncertain_at m p u =
    (λ i. (if u i then is_some (uncertainty m p.line) else is_parameter_place m p) && not (option_map_or (λ e. u i || binds_parameter m e p.parameter (binding m p.line p.parameter)) (line m p.line) false))
    ∙ ap (λ b. is_some (uncertainty m p.line) && not b) (present (line m p.line))
  where
    present : (o : Option EqId) → option_map_or (λ e. true) o false ≡ is_some o
    present None = refl
    present (Some e) = refl

-- each parameter's name is one, by computation, each code in a case of its own
named_parameters : (id : EqId) → list_all (λ q. is_parameter q.name) (parameters id) ≡ true
named_parameters Q10 = refl
named_parameters _ = refl

-- the word of uncertainty records is no parameter's name
pub parameter_apart : (n : Name) → is_parameter n ≡ true → bytes_eq n uncertainty_word ≡ false
parameter_apart n h = by (bytes_eq n uncertainty_word) refl
  where
    by : (b : Bool) → bytes_eq n uncertainty_word ≡ b → b ≡ false
    by true e = absurd (both_ways (is_parameter n) (ap is_parameter ((bytes_decides n uncertainty_word).0 e)) h)
    by false e = refl

named_by : (n : Name) (qs : List Quantity) → list_all (λ q. is_parameter q.name) qs ≡ true → list_any (λ q. bytes_eq q.name n) qs ≡ true → is_parameter n ≡ true
named_by n [] all any = absurd (cc)
named_by n (q ∷ qs) all any = by (bytes_eq q.name n) refl any (named_by n qs (second_so (is_parameter q.name) _ all))
  where
    by : (b : Bool) → bytes_eq q.name n ≡ b → b || list_any (λ x. bytes_eq x.name n) qs ≡ true → (list_any (λ x. bytes_eq x.name n) qs ≡ true → is_parameter n ≡ true) → is_parameter n ≡ true
    by true is any rest = ap is_parameter (sym ((bytes_decides q.name n).0 is)) ∙ first_so (is_parameter q.name) _ all
    by false is any rest = rest any

-- so no equation takes it
pub takes_apart : (id : EqId) (n : Name) → takes id n ≡ true → bytes_eq n uncertainty_word ≡ false
takes_apart id n h = parameter_apart n (named_by n (parameters id) (named_parameters id) h)

each_passes : {X : Type 0} (p : X → Bool) (xs : List X) → list_all p xs ≡ true → AllByRecursion (λ x. p x ≡ true) xs
each_passes p [] e = tt
each_passes p (x ∷ xs) e = ((two (p x) (list_all p xs) e).0, each_passes p xs (two (p x) (list_all p xs) e).1)
  where
    two : (a b : Bool) → a && b ≡ true → (a ≡ true) × (b ≡ true)
    two true b e = (refl, e)
    two false b e = absurd (cc)

are_parameters : (id : EqId) → AllByRecursion (λ q. is_parameter q.name ≡ true) (parameters id)
are_parameters id = each_passes (λ q. is_parameter q.name) (parameters id) (named_parameters id)

all_seen : (ps : List Param) → AllByRecursion (λ q. is_parameter q.name ≡ true) (map quantity ps) → AllByRecursion (λ (q : Param). is_parameter q.name.now ≡ true) ps
all_seen [] h = tt
all_seen (p ∷ ps) h = (h.0, all_seen ps h.1)

pub parameters_named : (e : Equation) (id : EqId) → seen e ≡ row id → AllByRecursion (λ (q : Param). is_parameter q.name.now ≡ true) e.params.now
parameters_named e id is = all_seen e.params.now (subst (AllByRecursion (λ q. is_parameter q.name ≡ true)) (sym (parameters_seen e id is)) (are_parameters id))
