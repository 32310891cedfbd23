-- What a row says is well formed.
use Rattle.std.specs.Option.{ok_or, option_map}
use Rattle.std.specs.List.{AllByRecursion, list_all}
use Rattle.std.proofs.Common.{sym, ap, subst, ◌≡◌, ◌≤ℤ◌, ◌∙◌, ◌==◌, ◌+◌, ℤ, unsigned_abs, ◌&&◌, ℕ, List, [], ◌∷◌, length, Option, Some, None, Result, Ok, Err, Bool, true, false, cond, refl, arith, is_err, is_some, nat_le, int_le, option_and_then, if◌then◌else◌, IfOk, IfSome}
use Rattle.std.proofs.lemmas.Bool.{leb-true, and_parts}
use Rattle.ghg_categories.specs.declared.category.Category.{Category}
use Rattle.ghg_categories.specs.Tree.{is_leaf_of, named_in}
use Rattle.ghg_equations.specs.declared.eq_id.EqId.{EqId}
use Rattle.ghg_equations.specs.Table.{named}
use Rattle.ghg_interval.specs.Bounds.{AreBounded, Bounds, bound_limit}
use Rattle.ghg_interval.specs.declared.Over.{Over}
use Rattle.ghg_interval.specs.Operations.{is_bounded_by}
use Rattle.ghg_units.specs.declared.decimal.Decimal.{Decimal}
use Rattle.ghg_units.specs.declared.row.Amount.{Amount}
use Rattle.ghg_units.specs.declared.row.Amount.TheVariants as amounts
use Rattle.ghg_units.specs.declared.row.Figure.{Figure}
use Rattle.ghg_units.specs.declared.row.Act.{Act}
use Rattle.ghg_units.specs.declared.row.Act.TheVariants.{Enter, Correct, Withdraw}
use Rattle.ghg_units.specs.declared.row.Binding.TheVariants as bound
use Rattle.ghg_units.specs.declared.row.Row.{Row}
use Rattle.ghg_units.specs.declared.row.RowForm.{RowForm}
use Rattle.ghg_units.specs.declared.row.RowForm.TheVariants as forms
use Rattle.ghg_units.specs.declared.rule.Column.TheVariants as columns
use Rattle.ghg_units.specs.declared.rule.Rule.{Rule}
use Rattle.ghg_units.specs.declared.unit.Unit.{Unit as UnitWord}
use Rattle.ghg_units.specs.Decimal.{decimal_in, number_of}
use Rattle.ghg_units.specs.Format.{format_in}
use Rattle.ghg_units.specs.HalfLife.{half_life_in, is_half_life, tenths_in, years_in}
use Rattle.ghg_units.specs.declared.half_life.TheConstants.{LONGEST_HALF_LIFE, SHORTEST_HALF_LIFE}
use Rattle.ghg_units.specs.Name.{factor_name_in, is_digit, is_name, is_potential_name, name_in, plain_name_in}
use Rattle.ghg_units.specs.Parameter.{is_parameter, parameter_in}
use Rattle.ghg_units.specs.Uncertainty.{uncertainty_in}
use Rattle.ghg_units.proofs.Percentages.{within_greatest}
use Rattle.ghg_units.specs.Units.{converted, interval_in, unit_in}
use Rattle.ghg_units.specs.WellFormed.{IsAmountOf, IsBinding, IsFactorName, IsFigure, IsForm, IsHalfLife, IsLeaf, IsParameterName, IsPlainName, IsSpan, IsSum, IsUncertainty, IsWellFormed, IsYear, decays, withdraws}
use Rattle.ghg_units.specs.Words.{act_in, key_in}
use Rattle.ghg_units.specs.Year.{earliest_year, is_year, latest_year, year_in}
use Rattle.ghg_import.specs.declared.fault.Fault.{Fault}
use Rattle.ghg_import.specs.declared.fault.Fault.TheVariants.{Shape}
use Rattle.ghg_import.specs.declared.kind.BindingForm.{BindingForm}
use Rattle.ghg_import.specs.declared.kind.BindingForm.TheVariants as targets
use Rattle.ghg_import.specs.declared.kind.Chosen.{Chosen}
use Rattle.ghg_import.specs.declared.kind.Kind.{Kind}
use Rattle.ghg_import.specs.declared.kind.Kind.TheVariants as kinds
use Rattle.ghg_import.specs.declared.kind.Manner.{Manner}
use Rattle.ghg_import.specs.declared.kind.Manner.TheVariants.{Withdraws, InYears, Keyed, Valued}
use Rattle.ghg_import.specs.declared.rows.Rows.{Rows}
use Rattle.ghg_import.specs.Body.{records_of}
use Rattle.ghg_import.specs.Content.{amount_in, bound_in, content_of, figure_in, form_in, form_of, known_in, line_in, span_in, uncertainties_in, unless_withdrawn, unless_wrong}
use Rattle.ghg_import.specs.Fault.{◌>>=◌}
use Rattle.ghg_import.specs.Forms.{binding_in, is_sum, leaf_in, names_in, parts_of, quantity_in, target_in}
use Rattle.ghg_import.specs.Kinds.{binding_form_in, kind_in}
use Rattle.ghg_import.specs.Reading.{Reading, content_in, no_header, numbered, reading_of, row_content, row_in, rows_from, then_rows, under_header}
use Rattle.ghg_import.specs.Shape.{Texts, has_columns, is_header, text_of}
use Rattle.ghg_import.specs.Table.{chosen_in, is_in_years, manner_of, wrong_column}
use Rattle.ghg_import.specs.Told.{Tells}
use Rattle.ghg_import.proofs.Sums.{sum_formed}

-- ---- steps

-- what holds of each result of what follows holds of both
pub reads : {A B : Type 0} (o : Option A) (f : A → Option B) (P : B → Type 0)
    → ((a : A) → o ≡ Some a → IfSome (f a) P) → IfSome (option_and_then f o) P
reads (Some a) f P k = k a refl
reads None f P k = tt

-- the same of what keeps Q
pub keeps : {A B : Type 0} (o : Option A) (Q : A → Type 0) → IfSome o Q → (f : A → Option B)
    (P : B → Type 0) → ((a : A) → Q a → IfSome (f a) P) → IfSome (option_and_then f o) P
keeps (Some a) Q good f P k = k a good
keeps None Q good f P k = tt

-- of a test
pub passes : {A : Type 0} (b : Bool) (x : A) (P : A → Type 0) → (b ≡ true → P x)
    → IfSome (if b then Some x else None) P
passes true x P k = k refl
passes false x P k = tt

-- of another value
pub mapped : {A B : Type 0} (f : A → B) (o : Option A) (P : B → Type 0)
    → ((a : A) → o ≡ Some a → P (f a)) → IfSome (option_map f o) P
mapped f (Some a) P k = k a refl
mapped f None P k = tt

-- ---- texts

chosen : {A : Type 0} (b : Bool) (x y : A) → (if b then Some x else None) ≡ Some y → (b ≡ true) × (x ≡ y)
chosen true x y e = (refl, cc)
chosen false x y e = absurd (cc)

plain_kept : (b c : Bool) (text name : List ℕ) → (if b then None else (if c then Some text else None)) ≡ Some name → text ≡ name
plain_kept true c text name e = absurd (cc)
plain_kept false true text name e = cc
plain_kept false false text name e = absurd (cc)

plain_name : (text name : List ℕ) → plain_name_in text ≡ Some name → IsPlainName name
plain_name text name e = let same : text ≡ name = plain_kept _ _ text name e in subst (λ x. plain_name_in x ≡ Some name) same e

factor_name : (text name : List ℕ) → factor_name_in text ≡ Some name → IsFactorName name
factor_name text name e = by (is_potential_name text) refl
  where
    name_itself : (b : Bool) → (if b then Some text else None) ≡ Some name → text ≡ name
    name_itself b e = (chosen b text name e).1

    by : (b : Bool) → is_potential_name text ≡ b → IsFactorName name
    by true p = let same : text ≡ name = name_itself (is_name text) (sym (ap (λ b. if b then name_in text else plain_name_in text) p) ∙ e) in subst (λ x. factor_name_in x ≡ Some name) same e
    by false p = let same : text ≡ name = plain_kept _ _ text name (sym (ap (λ b. if b then name_in text else plain_name_in text) p) ∙ e) in subst (λ x. factor_name_in x ≡ Some name) same e

year : (text : List ℕ) (y : ℕ) → year_in text ≡ Some y → IsYear y
year text y e =
    let parts = chosen ((length text == 4) && list_all is_digit text && is_year (number_of text)) (number_of text) y e in
    let within = (and_parts ((length text == 4) && list_all is_digit text) (is_year (number_of text)) parts.0).1 in
    let from = (and_parts (nat_le earliest_year (number_of text)) (nat_le (number_of text) latest_year) within).0 in
    let to = (and_parts (nat_le earliest_year (number_of text)) (nat_le (number_of text) latest_year) within).1 in
    subst IsYear parts.1 (leb-true _ _ from, leb-true _ _ to)

parameter : (text name : List ℕ) → parameter_in text ≡ Some name → IsParameterName name
parameter text name e = let same : text ≡ name = (chosen (is_parameter text) text name e).1 in subst (λ x. parameter_in x ≡ Some name) same e

leaf : (text : List ℕ) (c : Category) → leaf_in text ≡ Some c → IsLeaf c
unfolding leaf_in
leaf text c e = by (named_in text) e
  where
    by : (o : Option Category) → option_and_then (λ c. if is_leaf_of c then Some c else None) o ≡ Some c → IsLeaf c
    by None e = absurd (cc)
    by (Some d) e = let parts = chosen (is_leaf_of d) d c e in subst IsLeaf parts.1 parts.0

-- ---- figures

-- a decimal that is taken is within the limit in the base unit
bounded : (u : UnitWord) (text : List ℕ) (d : Decimal) → quantity_in u text ≡ Some d → AreBounded (converted u d d)
unfolding quantity_in interval_in
bounded u text d e = by (decimal_in text) e
  where
    fits : (b : Bounds) (t : Bool) → is_bounded_by bound_limit b ≡ t → is_err (cond {A = Result Bounds Over} t (Ok b) (Err (record {}))) ≡ false → AreBounded b
    fits b true t e = record {
      lo = leb-true _ _ (and_parts (nat_le (unsigned_abs b.lo) bound_limit) (nat_le (unsigned_abs b.hi) bound_limit) t).0;
      hi = leb-true _ _ (and_parts (nat_le (unsigned_abs b.lo) bound_limit) (nat_le (unsigned_abs b.hi) bound_limit) t).1;
    }
    fits b false t e = absurd (cc)

    taken : (x : Decimal) (over : Bool) → is_err (interval_in u x) ≡ over → (if over then None else Some x) ≡ Some d → AreBounded (converted u d d)
    taken x true o e = absurd (cc)
    taken x false o e = let same : x ≡ d = cc in subst (λ (y : Decimal). AreBounded (converted u y y)) same (fits (converted u x x) (is_bounded_by bound_limit (converted u x x)) refl o)

    by : (o : Option Decimal) → option_and_then (λ d. if is_err (interval_in u d) then None else Some d) o ≡ Some d → AreBounded (converted u d d)
    by None e = absurd (cc)
    by (Some x) e = taken x (is_err (interval_in u x)) refl e

bound_bounded : (u : UnitWord) (value d : Decimal) (text : List ℕ) → AreBounded (converted u value value) → bound_in u value text ≡ Some d → AreBounded (converted u d d)
unfolding bound_in
bound_bounded u value d text is e = by (length text == 0) e
  where
    by : (b : Bool) → (if b then Some value else quantity_in u text) ≡ Some d → AreBounded (converted u d d)
    by true e = let same : value ≡ d = cc in subst (λ (x : Decimal). AreBounded (converted u x x)) same is
    by false e = bounded u text d e

in_order : (x y : ℤ) → int_le x y ≡ true → x ≤ℤ y
in_order x y e = grind (arith, e)

known_formed : (u : UnitWord) (row : Texts) → IfSome (known_in u row) (IsAmountOf u)
unfolding known_in
known_formed u row =
    reads (quantity_in u (text_of row columns.Value)) _ (IsAmountOf u) (λ value v.
    reads (bound_in u value (text_of row columns.Low)) _ (IsAmountOf u) (λ low l.
    reads (bound_in u value (text_of row columns.High)) _ (IsAmountOf u) (λ high h.
    passes (int_le low.scaled value.scaled && int_le value.scaled high.scaled) _ (IsAmountOf u) (λ ordered.
    let is = bounded u (text_of row columns.Value) value v in (
      in_order _ _ (and_parts (int_le low.scaled value.scaled) _ ordered).0,
      in_order _ _ (and_parts (int_le low.scaled value.scaled) _ ordered).1,
      record { lo = (bound_bounded u value low (text_of row columns.Low) is l).lo; hi = (bound_bounded u value high (text_of row columns.High) is h).hi },
    )))))

half_life_formed : (format : ℕ) (text : List ℕ) (tenths : ℕ) → half_life_in format text ≡ Some tenths → IsHalfLife tenths
unfolding half_life_in
half_life_formed format text tenths e = by (if format == 2 then tenths_in text else years_in text) e
  where
    by : (o : Option ℕ) → option_and_then (λ t. if is_half_life t then Some t else None) o ≡ Some tenths → IsHalfLife tenths
    by None e = absurd (cc)
    by (Some t) e =
        let parts = chosen (is_half_life t) t tenths e in
        let within = and_parts (nat_le SHORTEST_HALF_LIFE t) (nat_le t LONGEST_HALF_LIFE) parts.0 in
        subst IsHalfLife parts.1 (leb-true _ _ within.0, leb-true _ _ within.1)

abbrev pub says_years : Manner → Bool
says_years Withdraws = false
says_years InYears = true
says_years Keyed = false
says_years Valued = false

-- an amount of a unit that decays exactly in this manner
abbrev IsAmountIn : Manner → UnitWord → Amount → Type 0
IsAmountIn m u a = IsAmountOf u a × (decays a ≡ says_years m)

known_amount : (u : UnitWord) (row : Texts) → IfSome (known_in u row) (λ a. IsAmountOf u a × (decays a ≡ false))
unfolding known_in
known_amount u row = by (known_in u row) (known_formed u row) (known_stays)
  where
    by : (o : Option Amount) → IfSome o (IsAmountOf u) → IfSome o (λ a. decays a ≡ false) → IfSome o (λ a. IsAmountOf u a × (decays a ≡ false))
    by None is stays = tt
    by (Some a) is stays = (is, stays)

    known_stays : IfSome (known_in u row) (λ a. decays a ≡ false)
    known_stays =
        let P : Amount → Type 0 = λ a. decays a ≡ false in
        reads (quantity_in u (text_of row columns.Value)) _ P (λ value v.
        reads (bound_in u value (text_of row columns.Low)) _ P (λ low l.
        reads (bound_in u value (text_of row columns.High)) _ P (λ high h.
        passes (int_le low.scaled value.scaled && int_le value.scaled high.scaled) _ P (λ ordered. refl))))

amount_formed : (format : ℕ) (m : Manner) (u : UnitWord) (row : Texts) → IfSome (amount_in format m u row) (IsAmountIn m u)
amount_formed format Withdraws u row = known_amount u row
amount_formed format InYears u row = mapped amounts.HalfLife (half_life_in format (text_of row columns.Value)) (IsAmountIn InYears u) (λ tenths e. (half_life_formed format (text_of row columns.Value) tenths e, refl))
amount_formed format Keyed u row = mapped amounts.Key (key_in (text_of row columns.Value)) (IsAmountIn Keyed u) (λ key e. (tt, refl))
amount_formed format Valued u row = known_amount u row

-- a figure in the row's unit
abbrev IsFigureIn : Chosen → Figure → Type 0
IsFigureIn c f = IsFigure f × (decays f.amount ≡ says_years c.manner) × (c.unit ≡ Some f.unit)

figure_formed : (c : Chosen) (row : Texts) → IfSome (figure_in c row) (IsFigureIn c)
unfolding figure_in
figure_formed c row = reads c.unit _ (IsFigureIn c) (λ u e. keeps (amount_in c.format c.manner u row) (IsAmountIn c.manner u) (amount_formed c.format c.manner u row) _ (IsFigureIn c) (λ a good. (good.0, good.1, e)))

span_formed : (row : Texts) → IfSome (span_in row) IsSpan
unfolding span_in
span_formed row =
    reads (year_in (text_of row columns.Year)) _ IsSpan (λ first f. reads (year_in (text_of row columns.Value)) _ IsSpan (λ last l. reads (year_in (text_of row columns.Low)) _ IsSpan (λ base b.
    passes (nat_le first base && nat_le base last) _ IsSpan (λ ordered. (
      year (text_of row columns.Year) first f,
      year (text_of row columns.Value) last l,
      leb-true _ _ (and_parts (nat_le first base) _ ordered).0,
      leb-true _ _ (and_parts (nat_le first base) _ ordered).1,
    )))))

line_formed : (row : Texts) → IfSome (line_in row) (λ l. IsLeaf l.0)
unfolding line_in
line_formed row =
    let P : Category × EqId → Type 0 = λ l. IsLeaf l.0 in
    reads (leaf_in (text_of row columns.Subject)) _ P (λ c l. reads (named (text_of row columns.Value)) _ P (λ e _. leaf (text_of row columns.Subject) c l))

sum_named : (text : List ℕ) (names : List (List ℕ)) → names_in text ≡ Some names → IsSum names
unfolding names_in
sum_named text names e = let test = chosen (is_sum (parts_of text)) (parts_of text) names e in subst IsSum test.1 (sum_formed (parts_of text) test.0)

target_formed : (form : BindingForm) (text : List ℕ) → IfSome (target_in form text) IsBinding
unfolding target_in
target_formed targets.Activity text = mapped bound.Activity (plain_name_in text) IsBinding (plain_name text)
target_formed targets.Factor text = mapped bound.Factor (plain_name_in text) IsBinding (plain_name text)
target_formed targets.Line text = mapped bound.Line (plain_name_in text) IsBinding (plain_name text)
target_formed targets.Prev text = mapped bound.Prev (plain_name_in text) IsBinding (plain_name text)
target_formed targets.Sum text = mapped bound.Sum (names_in text) IsBinding (sum_named text)
target_formed targets.Decay text = mapped bound.Decay (plain_name_in text) IsBinding (plain_name text)
target_formed targets.Key text = mapped bound.Key (key_in text) IsBinding (λ key e. tt)

binding_formed : (row : Texts) → IfSome (binding_in row) IsBinding
unfolding binding_in
binding_formed row = reads (binding_form_in (text_of row columns.Value)) _ IsBinding (λ form e. target_formed form (text_of row columns.Low))

-- ---- uncertainties

abbrev AreUncertainties : ℕ × ℕ → Type 0
AreUncertainties u = IsUncertainty u.0 × IsUncertainty u.1

uncertainties_formed : (row : Texts) → IfSome (uncertainties_in row) AreUncertainties
unfolding uncertainties_in
uncertainties_formed row =
    reads (uncertainty_in (text_of row columns.Value)) _ AreUncertainties (λ activity a. reads (uncertainty_in (text_of row columns.Low)) _ AreUncertainties (λ factor f.
    (within_greatest (text_of row columns.Value) activity a, within_greatest (text_of row columns.Low) factor f)))

-- ---- forms

abbrev pub is_away : Manner → Bool
is_away Withdraws = true
is_away InYears = false
is_away Keyed = false
is_away Valued = false

-- the manner of a row that does not withdraw
abbrev staying : (years key : Bool) → Manner
staying years key = if years then InYears else if key then Keyed else Valued

stays_here : (years key : Bool) → is_away (staying years key) ≡ false
stays_here true key = refl
stays_here false true = refl
stays_here false false = refl

stays_in_years : (years key : Bool) → says_years (staying years key) ≡ years
stays_in_years true key = refl
stays_in_years false true = refl
stays_in_years false false = refl

pub away : (kind : Kind) (act : Act) (row : Texts) → is_away (manner_of kind act row) ≡ withdraws act
away k Withdraw row = refl
away k Enter row = stays_here (is_in_years k (unit_in (text_of row columns.Unit))) (is_some (key_in (text_of row columns.Value)))
away k Correct row = stays_here (is_in_years k (unit_in (text_of row columns.Unit))) (is_some (key_in (text_of row columns.Value)))

-- a row holds a half-life exactly where its kind and unit do, unless it withdraws
pub in_years : (kind : Kind) (act : Act) (row : Texts) → is_away (manner_of kind act row) ≡ false
    → says_years (manner_of kind act row) ≡ is_in_years kind (unit_in (text_of row columns.Unit))
in_years k Withdraw row here = absurd (cc)
in_years k Enter row here = stays_in_years (is_in_years k (unit_in (text_of row columns.Unit))) (is_some (key_in (text_of row columns.Value)))
in_years k Correct row here = stays_in_years (is_in_years k (unit_in (text_of row columns.Unit))) (is_some (key_in (text_of row columns.Value)))

-- what is said behind a key
behind : {A : Type 0} (m : Manner) (said : Option A) (Q : A → Type 0) → IfSome said Q → (f : Option A → RowForm) → IsForm true (f None) → ((a : A) → is_away m ≡ false → Q a → IsForm false (f (Some a)))
    → IfSome (option_map f (unless_withdrawn m said)) (IsForm (is_away m))
behind Withdraws said Q good f gone here = gone
behind InYears None Q good f gone here = tt
behind InYears (Some a) Q good f gone here = here a refl good
behind Keyed None Q good f gone here = tt
behind Keyed (Some a) Q good f gone here = here a refl good
behind Valued None Q good f gone here = tt
behind Valued (Some a) Q good f gone here = here a refl good

said_formed : (format : ℕ) (kind : Kind) (act : Act) (row : Texts) → IfSome (content_of kind (chosen_in format kind act row) row) (IsForm (is_away (manner_of kind act row)))
unfolding content_of
said_formed format kinds.Span act row = behind (manner_of kinds.Span act row) (span_in row) IsSpan (span_formed row) forms.Span refl (λ s here ok. (refl, ok))
said_formed format kinds.Activity act row =
    let c : Chosen = chosen_in format kinds.Activity act row in
    let P : RowForm → Type 0 = IsForm (is_away c.manner) in
    reads (plain_name_in (text_of row columns.Name)) _ P (λ name n. reads (year_in (text_of row columns.Year)) _ P (λ y e.
    let plain = plain_name (text_of row columns.Name) name n in
    let is = year (text_of row columns.Year) y e in
    behind c.manner (figure_in c row) (IsFigureIn c) (figure_formed c row) (forms.Activity name y) (refl, plain, is) (λ f here ok.
    (refl, plain, is, (ok.0, ok.1 ∙ in_years kinds.Activity act row here)))))
said_formed format kinds.Factor act row =
    let c : Chosen = chosen_in format kinds.Factor act row in
    let P : RowForm → Type 0 = IsForm (is_away c.manner) in
    reads (factor_name_in (text_of row columns.Name)) _ P (λ name n. reads (year_in (text_of row columns.Year)) _ P (λ y e.
    let own = factor_name (text_of row columns.Name) name n in
    let is = year (text_of row columns.Year) y e in
    behind c.manner (figure_in c row) (IsFigureIn c) (figure_formed c row) (forms.Factor name y) (refl, own, is) (λ f here ok.
    (refl, own, is, (ok.0, ok.1 ∙ in_years kinds.Factor act row here ∙ ap (is_in_years kinds.Factor) ok.2)))))
said_formed format kinds.Line act row =
    let m : Manner = manner_of kinds.Line act row in
    reads (plain_name_in (text_of row columns.Name)) _ (IsForm (is_away m)) (λ name n.
    let plain = plain_name (text_of row columns.Name) name n in
    behind m (line_in row) (λ l. IsLeaf l.0) (line_formed row) (forms.Line name) (refl, plain) (λ l here ok. (refl, plain, ok)))
said_formed format kinds.Bind act row =
    let m : Manner = manner_of kinds.Bind act row in
    let P : RowForm → Type 0 = IsForm (is_away m) in
    reads (plain_name_in (text_of row columns.Subject)) _ P (λ line l. reads (parameter_in (text_of row columns.Name)) _ P (λ name n.
    let plain = plain_name (text_of row columns.Subject) line l in
    let own = parameter (text_of row columns.Name) name n in
    behind m (binding_in row) IsBinding (binding_formed row) (forms.Bind line name) (refl, plain, own) (λ b here ok. (refl, plain, own, ok))))
said_formed format kinds.Uncert act row =
    let m : Manner = manner_of kinds.Uncert act row in
    reads (plain_name_in (text_of row columns.Name)) _ (IsForm (is_away m)) (λ line l.
    let plain = plain_name (text_of row columns.Name) line l in
    behind m (uncertainties_in row) AreUncertainties (uncertainties_formed row) (forms.Uncert line) (refl, plain) (λ u here ok. (refl, plain, ok.0, ok.1)))

form_formed : (format : ℕ) (kind : Kind) (act : Act) (row : Texts) → IfOk (form_in format kind act row) (IsForm (withdraws act))
unfolding form_of
form_formed format kind act row = by (wrong_column kind (chosen_in format kind act row) row) (content_of kind (chosen_in format kind act row) row) (said_formed format kind act row)
  where
    by : (fault : Option Fault) (o : Option RowForm) → IfSome o (IsForm (is_away (manner_of kind act row))) → IfOk (unless_wrong fault o) (IsForm (withdraws act))
    by (Some fault) o good = tt
    by None None good = tt
    by None (Some form) good = subst (λ b. IsForm b form) (away kind act row) good

-- ---- rows

content_formed : (format : ℕ) (row : Texts) → IfOk (content_in format row) (λ (c : Act × RowForm). IsForm (withdraws c.0) c.1)
unfolding content_in
content_formed format row =
    let P : Act × RowForm → Type 0 = λ c. IsForm (withdraws c.0) c.1 in
    named (act_in (text_of row columns.Act)) _ _ P (λ act. named (kind_in (text_of row columns.Kind)) _ _ P (λ kind. pair act (form_in format kind act row) (form_formed format kind act row)))
  where
    named : {A B : Type 0} (o : Option A) (e : Fault) (f : A → Result B Fault) (P : B → Type 0) → ((a : A) → IfOk (f a) P) → IfOk (ok_or o e >>= f) P
    named (Some a) e f P k = k a
    named None e f P k = tt

    pair : (act : Act) (r : Result RowForm Fault) → IfOk r (IsForm (withdraws act)) → IfOk {T = Act × RowForm} (r >>= λ form. Ok (act, form)) (λ c. IsForm (withdraws c.0) c.1)
    pair act (Ok form) good = good
    pair act (Err e) good = tt

row_formed : (format : ℕ) (number : ℕ) (fields : List (List ℕ)) → IfOk (row_in format number fields) IsWellFormed
unfolding row_in row_content
row_formed format number fields = by (has_columns fields)
  where
    counted : (r : Result (Act × RowForm) Fault) → IfOk r (λ (c : Act × RowForm). IsForm (withdraws c.0) c.1) → IfOk (numbered number r) IsWellFormed
    counted (Ok c) good = good
    counted (Err e) good = tt

    by : (b : Bool) → IfOk (numbered number (if b then content_in format fields else Err Shape)) IsWellFormed
    by false = tt
    by true = counted (content_in format fields) (content_formed format fields)

rows_formed : (format : ℕ) (number : ℕ) (records : List (List (List ℕ))) → AllByRecursion IsWellFormed (rows_from format number records).rows
unfolding rows_from
rows_formed format number [] = tt
rows_formed format number (fields ∷ records) = by (row_in format number fields) (row_formed format number fields) (rows_from format (number + 1) records) (rows_formed format (number + 1) records)
  where
    by : (r : Result Row Rule) → IfOk r IsWellFormed → (later : Reading) → AllByRecursion IsWellFormed later.rows → AllByRecursion IsWellFormed (then_rows r later).rows
    by (Ok row) good later rest = (good, rest)
    by (Err rule) good later rest = tt

pub all_formed : (body : List ℕ) → AllByRecursion IsWellFormed (reading_of body).rows
unfolding reading_of
all_formed body = by (format_in body) (records_of body)
  where
    headed : (format : ℕ) (records : List (List (List ℕ))) (b : Bool) → AllByRecursion IsWellFormed (if b then rows_from format 1 records else no_header).rows
    headed format records true = rows_formed format 1 records
    headed format records false = tt

    by : (format : ℕ) (records : List (List (List ℕ))) → AllByRecursion IsWellFormed (under_header format records).rows
    by format [] = tt
    by format (header ∷ records) = headed format records (is_header format header)

-- rows that tell a body are well formed
pub told_formed : {E : Type 0} (r : Result Rows E) (body : List ℕ) → IfOk r (λ rows. Tells rows (reading_of body)) → IfOk r (λ rows. AllByRecursion IsWellFormed rows.rows.items)
told_formed (Ok rows) body told = subst (AllByRecursion IsWellFormed) (sym told.0) (all_formed body)
told_formed (Err e) body told = tt
