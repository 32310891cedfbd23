-- The parameters of a line's equation, as the code has them and as the table names them.
use Rattle.std.proofs.Common.{◌≡◌, ℕ, zero, suc, ◌<◌, length, get_or, inl, inr, arith, Bool, true, false, ◌||◌, List, [], ◌∷◌, ◌++◌, map, flat_map, Option, Some, refl, sym, ap, ◌∙◌}
use Rattle.std.specs.List.{list_any}
use Rattle.std.specs.Option.{option_map_or}
use Rattle.ghg_cell.specs.declared.input.Input.{Input}
use Rattle.ghg_equations.specs.declared.eq_id.EqId.{EqId}
use Rattle.ghg_equations.specs.declared.row.Param.{Param}
use Rattle.ghg_equations.specs.Table.{Quantity, parameters}
use Rattle.ghg_units.specs.declared.row.Binding.{Binding}
use Rattle.ghg_definitions.specs.Compilation.{bound_to, line_formula}
use Rattle.ghg_definitions.specs.Data.{Data, Name, binding, line}
use Rattle.ghg_definitions.specs.Formulas.{Operand, map_formula, map_operand}
use Rattle.ghg_definitions.specs.Lookups.{Source, given}
use Rattle.ghg_definitions.specs.Listed.{IsListed}
use Rattle.ghg_definitions.proofs.Listed.{listed_any}
use Rattle.ghg_data.specs.Parameters.{quantity}
use Rattle.ghg_graph.specs.Numbers.{lines_taken, taken_in}
use Rattle.ghg_graph.specs.Slots.{slot_of, slots_of}

pub flat_named : (f : Name → List Name) (ps : List Param) → flat_map (λ (q : Quantity). f q.name) (map quantity ps) ≡ flat_map (λ (p : Param). f p.name.now) ps
flat_named f [] = refl
flat_named f (p ∷ ps) = ap (λ xs. f p.name.now ++ xs) (flat_named f ps)

-- the lines that a line takes, by the parameters in the code
pub taken_at : (before : Bool) (m : Data) (l : Name) (ps : List Param) (id : EqId) → Some id ≡ line m l → map quantity ps ≡ parameters id → flat_map (λ (p : Param). taken_in before (binding m l p.name.now)) ps ≡ lines_taken before m l
taken_at before m l ps id at all =
    sym (flat_named (λ n. taken_in before (binding m l n)) ps)
    ∙ ap (flat_map (λ (q : Quantity). taken_in before (binding m l q.name))) all
    ∙ ap (λ o. option_map_or (λ e. flat_map (λ q. taken_in before (binding m l q.name)) (parameters e)) o []) at

slots_named : (g : Source → Input) (f : Name → Operand Source) (ps : List Param) → map slot_of (map (map_operand g) (map (λ (q : Quantity). f q.name) (map quantity ps))) ≡ map (λ (p : Param). slot_of (map_operand g (f p.name.now))) ps
slots_named g f [] = refl
slots_named g f (p ∷ ps) = ap (λ xs. slot_of (map_operand g (f p.name.now)) ∷ xs) (slots_named g f ps)

-- the slots of a line, by the parameters in the code
pub slots_at : (m : Data) (first year : ℕ) (l : Name) (ps : List Param) (id : EqId) → Some id ≡ line m l → map quantity ps ≡ parameters id →
    map (λ (p : Param). slot_of (map_operand (given m) (bound_to m first year (binding m l p.name.now)))) ps ≡ slots_of (map_formula (given m) (line_formula m first l year (line m l)))
slots_at m first year l ps id at all =
    sym (slots_named (given m) (λ n. bound_to m first year (binding m l n)) ps)
    ∙ ap (λ qs. map slot_of (map (map_operand (given m)) (map (λ (q : Quantity). bound_to m first year (binding m l q.name)) qs))) all
    ∙ ap (λ o. slots_of (map_formula (given m) (line_formula m first l year o))) at

pub at_place : {A : Type 0} (xs : List A) (i : ℕ) (d : A) → i < length xs → IsListed (get_or xs i d) xs
at_place [] i d h = absurd (omega arith)
at_place (x ∷ xs) zero d h = inl refl
at_place (x ∷ xs) (suc i) d h = inr (at_place xs i d (omega arith))

pub any_named : (f : Name → Bool) (ps : List Param) → list_any (λ (q : Quantity). f q.name) (map quantity ps) ≡ list_any (λ (p : Param). f p.name.now) ps
any_named f [] = refl
any_named f (p ∷ ps) = ap (λ b. f p.name.now || b) (any_named f ps)

-- whether one of a line's bindings passes a test, by the parameters in the code
pub any_bound : (m : Data) (l : Name) (test : Option Binding → Bool) (ps : List Param) (id : EqId) → Some id ≡ line m l → map quantity ps ≡ parameters id →
    list_any (λ (p : Param). test (binding m l p.name.now)) ps ≡ option_map_or (λ e. list_any (λ q. test (binding m l q.name)) (parameters e)) (line m l) false
any_bound m l test ps id at all =
    sym (any_named (λ n. test (binding m l n)) ps)
    ∙ ap (list_any (λ (q : Quantity). test (binding m l q.name))) all
    ∙ ap (λ o. option_map_or (λ e. list_any (λ q. test (binding m l q.name)) (parameters e)) o false) at

pub one_bound : (m : Data) (l : Name) (test : Option Binding → Bool) (ps : List Param) (id : EqId) → Some id ≡ line m l → map quantity ps ≡ parameters id →
    (i : ℕ) (d : Param) → i < length ps → (b : Option Binding) → b ≡ binding m l (get_or ps i d).name.now → test b ≡ true →
    true ≡ option_map_or (λ e. list_any (λ q. test (binding m l q.name)) (parameters e)) (line m l) false
one_bound m l test ps id at all i d h b bound on =
    sym (listed_any (λ (p : Param). test (binding m l p.name.now)) (get_or ps i d) ps (at_place ps i d h) (ap test (sym bound) ∙ on))
    ∙ any_bound m l test ps id at all
