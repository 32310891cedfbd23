-- A row with a content, no text in a column that should be empty, and no bound alone has no wrong column.
use Rattle.std.specs.List.{find}
use Rattle.std.specs.Option.{ok_or, option_map}
use Rattle.std.proofs.Common.{sym, ap, ◌≡◌, ◌∙◌, ◌==◌, ◌&&◌, ◌||◌, ℕ, length, Option, Some, None, Ok, Bool, true, false, not, refl, is_some, option_and_then, if◌then◌else◌, IfSome}
use Rattle.std.proofs.lemmas.Bool.{and_parts}
use Rattle.ghg_units.specs.declared.decimal.Decimal.{Decimal}
use Rattle.ghg_units.specs.declared.row.Act.{Act}
use Rattle.ghg_units.specs.declared.row.Act.TheVariants.{Enter, Correct, Withdraw}
use Rattle.ghg_units.specs.declared.row.Amount.TheVariants as amounts
use Rattle.ghg_units.specs.declared.row.Figure.{Figure}
use Rattle.ghg_units.specs.declared.row.RowForm.{RowForm}
use Rattle.ghg_units.specs.declared.row.RowForm.TheVariants as forms
use Rattle.ghg_units.specs.declared.rule.Column.{Column}
use Rattle.ghg_units.specs.declared.rule.Column.TheVariants as columns
use Rattle.ghg_units.specs.declared.unit.Unit.{Unit as UnitWord}
use Rattle.ghg_units.specs.HalfLife.{half_life_in}
use Rattle.ghg_units.specs.Name.{factor_name_in, plain_name_in}
use Rattle.ghg_units.specs.Parameter.{parameter_in}
use Rattle.ghg_units.specs.Uncertainty.{uncertainty_in}
use Rattle.ghg_units.specs.Units.{unit_in}
use Rattle.ghg_units.specs.Words.{key_in}
use Rattle.ghg_units.specs.Year.{year_in}
use Rattle.ghg_equations.specs.Table.{named}
use Rattle.ghg_import.specs.declared.fault.Fault.TheVariants.{Disorder}
use Rattle.ghg_import.specs.declared.kind.Chosen.{Chosen}
use Rattle.ghg_import.specs.declared.kind.Kind.{Kind}
use Rattle.ghg_import.specs.declared.kind.Kind.TheVariants as kinds
use Rattle.ghg_import.specs.declared.kind.Manner.{Manner}
use Rattle.ghg_import.specs.declared.kind.Manner.TheVariants.{Withdraws, InYears, Keyed, Valued}
use Rattle.ghg_import.specs.declared.table.Holdings.{Holdings}
use Rattle.ghg_import.specs.Content.{amount_in, bound_in, content_of, figure_in, form_in, form_of, known_in, line_in, span_in, uncertainties_in}
use Rattle.ghg_import.specs.Forms.{binding_in, leaf_in, quantity_in, target_in}
use Rattle.ghg_import.specs.Kinds.{binding_form_in}
use Rattle.ghg_import.specs.Shape.{Texts, text_of}
use Rattle.ghg_import.specs.Table.{chosen_in, decided, holding_at, holdings_of, is_held, is_number, is_wrong_number, is_wrong_word, manner_of, say_no_more, says_no_more, says_no_more_in, wrong_among, wrong_column}
use Rattle.ghg_import.proofs.Formed.{away, in_years, is_away, keeps, mapped, passes, reads, says_years}

-- ---- where each column is right, none is wrong

-- each of the columns that the kind decides has the property
abbrev Each : (Column → Type 0) → Type 0
Each P =
    P columns.Subject × P columns.Name × P columns.Year × P columns.Value
    × P columns.Low × P columns.High × P columns.Unit

-- each column is what it may hold
abbrev held_at : Holdings → Chosen → Texts → Column → Bool
held_at h c row column = is_held (holding_at h column) c row (text_of row column)

abbrev AreHeld : Holdings → Chosen → Texts → Type 0
AreHeld h c row = Each (λ column. held_at h c row column ≡ true)

none_found : (p : Column → Bool) → Each (λ column. p column ≡ false) → find p decided ≡ None
none_found p f = rw (f.0, f.1, f.2, f.3, f.4, f.5, f.6) refl

not_wrong : (b held : Bool) → held ≡ true → (b && not held) ≡ false
not_wrong true true e = refl
not_wrong false true e = refl
not_wrong b false e = absurd (cc)

none_wrong : (h : Holdings) (c : Chosen) (row : Texts) → AreHeld h c row → wrong_among h c row ≡ None
none_wrong h c row held =
    rw (none_found (is_wrong_word h c row) words, none_found (is_wrong_number h c row) numbers) refl
  where
    both : (b : Column → Bool) → Each (λ column. (b column && not (held_at h c row column)) ≡ false)
    both b = (
      not_wrong _ _ held.0,
      not_wrong _ _ held.1,
      not_wrong _ _ held.2,
      not_wrong _ _ held.3,
      not_wrong _ _ held.4,
      not_wrong _ _ held.5,
      not_wrong _ _ held.6,
    )

    words : Each (λ column. is_wrong_word h c row column ≡ false)
    words = both (λ column. not (is_number (holding_at h column)))

    numbers : Each (λ column. is_wrong_number h c row column ≡ false)
    numbers = both (λ column. is_number (holding_at h column))

-- ---- what a row that says no more has in each column

-- each column is empty if it should be, and no bound stands alone
abbrev AreBare : Holdings → Texts → Type 0
AreBare h row = Each (λ column. says_no_more_in (holding_at h column) row (text_of row column) ≡ true)

seven_parts : (a b c d e f g : Bool) → (a && b && c && d && e && f && g) ≡ true
    → (a ≡ true) × (b ≡ true) × (c ≡ true) × (d ≡ true) × (e ≡ true) × (f ≡ true) × (g ≡ true)
seven_parts a b c d e f g all =
    let six = and_parts (a && b && c && d && e && f) g all in
    let five = and_parts (a && b && c && d && e) f six.0 in
    let four = and_parts (a && b && c && d) e five.0 in
    let three = and_parts (a && b && c) d four.0 in
    let two = and_parts (a && b) c three.0 in
    let one = and_parts a b two.0 in
    (one.0, one.1, two.1, three.1, four.1, five.1, six.1)

bare : (h : Holdings) (row : Texts) → say_no_more h row ≡ true → AreBare h row
bare h row no_more = seven_parts _ _ _ _ _ _ _ no_more

-- ---- steps

-- what each value shows is so where there is one
shown : {A : Type 0} (o : Option A) (P : Type 0) → IfSome o (λ _. P) → is_some o ≡ true → P
shown (Some a) P good e = good
shown None P good e = absurd (cc)

-- of a text that is read
reads_one : {A B : Type 0} (o : Option A) (f : A → Option B) (P : Type 0)
    → (is_some o ≡ true → (a : A) → IfSome (f a) (λ _. P)) → IfSome (option_and_then f o) (λ _. P)
reads_one o f P k = reads o f (λ _. P) (λ a e. k (ap is_some e) a)

-- of two texts
reads_both : {A B C : Type 0} (o : Option A) (q : Option B) (f : A → B → Option C) (P : Type 0)
    → (is_some o ≡ true → is_some q ≡ true → (a : A) (b : B) → IfSome (f a b) (λ _. P))
    → IfSome (option_and_then (λ a. option_and_then (λ b. f a b) q) o) (λ _. P)
reads_both o q f P k = reads_one o _ P (λ first a. reads_one q _ P (λ second b. k first second a b))

-- of another value
made : {A B : Type 0} (f : A → B) (o : Option A) (P : Type 0)
    → (is_some o ≡ true → P) → IfSome (option_map f o) (λ _. P)
made f o P k = mapped f o (λ _. P) (λ a e. k (ap is_some e))

-- of what is said behind a key
stays : {A B : Type 0} (f : Option A → B) (o : Option A) (Q P : Type 0)
    → IfSome o (λ _. Q) → (Q → P) → IfSome (option_map f (option_map Some o)) (λ _. P)
stays f (Some a) Q P good k = k good
stays f None Q P good k = tt

-- ---- what a row that says something, and no more, has in each column

abbrev chosen_by : ℕ → Manner → Option UnitWord → Texts → Chosen
chosen_by format m u row = record { format = format; manner = m; unit = u; binds = is_some (binding_in row) }

-- each column is what it may hold where the row says something, and no more
abbrev IsRight : Kind → Chosen → Texts → Type 0
IsRight kind c row =
    AreBare (holdings_of kind c.manner) row
    → IfSome (content_of kind c row) (λ _. AreHeld (holdings_of kind c.manner) c row)

-- the same of what a row that does not withdraw says, where all such rows of its kind are filled alike
abbrev IsRightThere : Kind → Chosen → Texts → Option RowForm → Type 0
IsRightThere kind c row content =
    AreBare (holdings_of kind Valued) row → IfSome content (λ _. AreHeld (holdings_of kind Valued) c row)

-- ---- spans

abbrev AreYears : Texts → Type 0
AreYears row =
    (is_some (year_in (text_of row columns.Year)) ≡ true) × (is_some (year_in (text_of row columns.Value)) ≡ true)
    × (is_some (year_in (text_of row columns.Low)) ≡ true)

span_read : (row : Texts) → IfSome (span_in row) (λ _. AreYears row)
unfolding span_in
span_read row =
    let P : Type 0 = AreYears row in
    reads_both (year_in (text_of row columns.Year)) (year_in (text_of row columns.Value)) _ P (λ first last f l.
    reads_one (year_in (text_of row columns.Low)) _ P (λ base b. passes _ _ (λ _. P) (λ ordered. (first, last, base))))

span_right : (format : ℕ) (m : Manner) (u : Option UnitWord) (row : Texts) → IsRight kinds.Span (chosen_by format m u row) row
unfolding content_of
span_right format m u row = by m
  where
    stayed : (c : Chosen)
        → IsRightThere kinds.Span c row (option_map forms.Span (option_map Some (span_in row)))
    stayed c b = stays forms.Span (span_in row) _ _ (span_read row) (λ s. (b.0, b.1, s.0, s.1, s.2, b.5, b.6))

    by : (m : Manner) → IsRight kinds.Span (chosen_by format m u row) row
    by Withdraws b = b
    by InYears b = stayed (chosen_by format InYears u row) b
    by Keyed b = stayed (chosen_by format Keyed u row) b
    by Valued b = stayed (chosen_by format Valued u row) b

-- ---- figures

-- a bound is a quantity, or there is none on either side
low_held : (a b : Bool) (value : Decimal) (q : Option Decimal) → (if a then b else not b) ≡ true
    → is_some (if a then Some value else q) ≡ true → ((a && b) || is_some q) ≡ true
low_held true true value q same e = refl
low_held true false value q same e = absurd (cc)
low_held false b value q same e = e

high_held : (a b : Bool) (value : Decimal) (q : Option Decimal) → (if a then b else not b) ≡ true
    → is_some (if b then Some value else q) ≡ true → ((a && b) || is_some q) ≡ true
high_held true true value q same e = refl
high_held true false value q same e = absurd (cc)
high_held false true value q same e = absurd (cc)
high_held false false value q same e = e

-- each column of a figure is what it may hold; those of an activity hold what those of a factor do
abbrev IsFigureHeld : ℕ → Manner → Option UnitWord → Texts → Type 0
IsFigureHeld format m u row =
    let h : Holdings = holdings_of kinds.Factor m in
    let c : Chosen = chosen_by format m u row in
    (is_held h.value c row (text_of row columns.Value) ≡ true) × (is_held h.low c row (text_of row columns.Low) ≡ true)
    × (is_held h.high c row (text_of row columns.High) ≡ true) × (is_held h.unit c row (text_of row columns.Unit) ≡ true)

known_held : (format : ℕ) (u : UnitWord) (row : Texts) → AreBare (holdings_of kinds.Factor Valued) row
    → IfSome (known_in u row) (λ _. IsFigureHeld format Valued (Some u) row)
unfolding known_in bound_in
known_held format u row b =
    let P : Type 0 = IsFigureHeld format Valued (Some u) row in
    let low : Bool = length (text_of row columns.Low) == 0 in
    let high : Bool = length (text_of row columns.High) == 0 in
    reads_one (quantity_in u (text_of row columns.Value)) _ P (λ is_value value.
    reads_both (bound_in u value (text_of row columns.Low)) (bound_in u value (text_of row columns.High)) _ P (λ is_low is_high l h.
    passes _ _ (λ _. P) (λ ordered. (
      is_value,
      low_held low high value (quantity_in u (text_of row columns.Low)) b.4 is_low,
      high_held low high value (quantity_in u (text_of row columns.High)) b.5 is_high,
      refl,
    ))))

amount_held : (format : ℕ) (m : Manner) (u : UnitWord) (row : Texts) → is_away m ≡ false
    → AreBare (holdings_of kinds.Factor m) row → IfSome (amount_in format m u row) (λ _. IsFigureHeld format m (Some u) row)
amount_held format Withdraws u row here b = absurd (cc)
amount_held format InYears u row here b =
    made amounts.HalfLife (half_life_in format (text_of row columns.Value)) _ (λ years. (years, b.4, b.5, refl))
amount_held format Keyed u row here b =
    made amounts.Key (key_in (text_of row columns.Value)) _ (λ key. (key, b.4, b.5, refl))
amount_held format Valued u row here b = known_held format u row b

figure_held : (format : ℕ) (m : Manner) (u : Option UnitWord) (row : Texts) → is_away m ≡ false
    → AreBare (holdings_of kinds.Factor m) row
    → IfSome (figure_in (chosen_by format m u row) row) (λ _. IsFigureHeld format m u row)
unfolding figure_in
figure_held format m None row here b = tt
figure_held format m (Some u) row here b =
    let P : Type 0 = IsFigureHeld format m (Some u) row in
    keeps (amount_in format m u row) (λ _. P) (amount_held format m u row here b) _ (λ _. P) (λ amount held. held)

figure_stays : (format : ℕ) (m : Manner) (u : Option UnitWord) (row : Texts) → is_away m ≡ false
    → AreBare (holdings_of kinds.Factor m) row
    → (f : Option Figure → RowForm) (P : Type 0) → (IsFigureHeld format m u row → P)
    → IfSome (option_map f (option_map Some (figure_in (chosen_by format m u row) row))) (λ _. P)
figure_stays format m u row here b f P k =
    stays f (figure_in (chosen_by format m u row) row) (IsFigureHeld format m u row) P (figure_held format m u row here b) k

activity_right : (format : ℕ) (m : Manner) (u : Option UnitWord) (row : Texts) → says_years m ≡ false
    → IsRight kinds.Activity (chosen_by format m u row) row
unfolding content_of
activity_right format Withdraws u row never b =
    reads_both (plain_name_in (text_of row columns.Name)) (year_in (text_of row columns.Year)) _ _ (λ name year n y.
    (b.0, name, year, b.3, b.4, b.5, b.6))
activity_right format InYears u row never b = absurd (cc)
activity_right format Keyed u row never b =
    reads_both (plain_name_in (text_of row columns.Name)) (year_in (text_of row columns.Year)) _ _ (λ name year n y.
    figure_stays format Keyed u row refl b (forms.Activity n y) _ (λ f. (b.0, name, year, f.0, f.1, f.2, f.3)))
activity_right format Valued u row never b =
    reads_both (plain_name_in (text_of row columns.Name)) (year_in (text_of row columns.Year)) _ _ (λ name year n y.
    figure_stays format Valued u row refl b (forms.Activity n y) _ (λ f. (b.0, name, year, f.0, f.1, f.2, f.3)))

factor_right : (format : ℕ) (m : Manner) (u : Option UnitWord) (row : Texts) → IsRight kinds.Factor (chosen_by format m u row) row
unfolding content_of
factor_right format Withdraws u row b =
    reads_both (factor_name_in (text_of row columns.Name)) (year_in (text_of row columns.Year)) _ _ (λ name year n y.
    (b.0, name, year, b.3, b.4, b.5, b.6))
factor_right format InYears u row b =
    reads_both (factor_name_in (text_of row columns.Name)) (year_in (text_of row columns.Year)) _ _ (λ name year n y.
    figure_stays format InYears u row refl b (forms.Factor n y) _ (λ f. (b.0, name, year, f.0, f.1, f.2, f.3)))
factor_right format Keyed u row b =
    reads_both (factor_name_in (text_of row columns.Name)) (year_in (text_of row columns.Year)) _ _ (λ name year n y.
    figure_stays format Keyed u row refl b (forms.Factor n y) _ (λ f. (b.0, name, year, f.0, f.1, f.2, f.3)))
factor_right format Valued u row b =
    reads_both (factor_name_in (text_of row columns.Name)) (year_in (text_of row columns.Year)) _ _ (λ name year n y.
    figure_stays format Valued u row refl b (forms.Factor n y) _ (λ f. (b.0, name, year, f.0, f.1, f.2, f.3)))

-- ---- lines

line_read : (row : Texts) → IfSome (line_in row)
    (λ _. (is_some (leaf_in (text_of row columns.Subject)) ≡ true) × (is_some (named (text_of row columns.Value)) ≡ true))
unfolding line_in
line_read row =
    reads_both (leaf_in (text_of row columns.Subject)) (named (text_of row columns.Value)) _ _ (λ category equation c e. (category, equation))

line_right : (format : ℕ) (m : Manner) (u : Option UnitWord) (row : Texts) → IsRight kinds.Line (chosen_by format m u row) row
unfolding content_of
line_right format m u row = by m
  where
    stayed : (c : Chosen) → IsRightThere kinds.Line c row
        (option_and_then (λ name. option_map (forms.Line name) (option_map Some (line_in row)))
        (plain_name_in (text_of row columns.Name)))
    stayed c b =
        reads_one (plain_name_in (text_of row columns.Name)) _ _ (λ name n.
        stays (forms.Line n) (line_in row) _ _ (line_read row) (λ l. (l.0, name, b.2, l.1, b.4, b.5, b.6)))

    by : (m : Manner) → IsRight kinds.Line (chosen_by format m u row) row
    by Withdraws b = reads_one (plain_name_in (text_of row columns.Name)) _ _ (λ name n. (b.0, name, b.2, b.3, b.4, b.5, b.6))
    by InYears b = stayed (chosen_by format InYears u row) b
    by Keyed b = stayed (chosen_by format Keyed u row) b
    by Valued b = stayed (chosen_by format Valued u row) b

-- ---- bindings

-- a row that binds names a form, and a target of that form
binding_read : (row : Texts) → IfSome (binding_in row)
    (λ _. (is_some (binding_form_in (text_of row columns.Value)) ≡ true) × (is_some (binding_in row) ≡ true))
unfolding binding_in
binding_read row = by (binding_form_in (text_of row columns.Value)) (λ form. target_in form (text_of row columns.Low))
  where
    target : {B : Type 0} (o : Option B) → IfSome o (λ _. (true ≡ true) × (is_some o ≡ true))
    target None = tt
    target (Some b) = (refl, refl)

    by : {A B : Type 0} (o : Option A) (f : A → Option B)
        → IfSome (option_and_then f o) (λ _. (is_some o ≡ true) × (is_some (option_and_then f o) ≡ true))
    by None f = tt
    by (Some a) f = target (f a)

bind_right : (format : ℕ) (m : Manner) (u : Option UnitWord) (row : Texts) → IsRight kinds.Bind (chosen_by format m u row) row
unfolding content_of
bind_right format m u row = by m
  where
    stayed : (m : Manner) → IsRightThere kinds.Bind (chosen_by format m u row) row
        (option_and_then (λ line. option_and_then (λ name. option_map (forms.Bind line name)
        (option_map Some (binding_in row))) (parameter_in (text_of row columns.Name))) (plain_name_in (text_of row columns.Subject)))
    stayed m b =
        reads_both (plain_name_in (text_of row columns.Subject)) (parameter_in (text_of row columns.Name)) _ _ (λ line name l n.
        stays (forms.Bind l n) (binding_in row) _ _ (binding_read row) (λ t.
        (line, name, b.2, t.0, t.1, b.5, b.6)))

    by : (m : Manner) → IsRight kinds.Bind (chosen_by format m u row) row
    by Withdraws b =
        reads_both (plain_name_in (text_of row columns.Subject)) (parameter_in (text_of row columns.Name)) _ _ (λ line name l n.
        (line, name, b.2, b.3, b.4, b.5, b.6))
    by InYears b = stayed InYears b
    by Keyed b = stayed Keyed b
    by Valued b = stayed Valued b

-- ---- uncertainties

uncertainties_read : (row : Texts) → IfSome (uncertainties_in row)
    (λ _. (is_some (uncertainty_in (text_of row columns.Value)) ≡ true) × (is_some (uncertainty_in (text_of row columns.Low)) ≡ true))
unfolding uncertainties_in
uncertainties_read row =
    reads_both (uncertainty_in (text_of row columns.Value)) (uncertainty_in (text_of row columns.Low)) _ _ (λ activity factor a f.
    (activity, factor))

uncert_right : (format : ℕ) (m : Manner) (u : Option UnitWord) (row : Texts) → IsRight kinds.Uncert (chosen_by format m u row) row
unfolding content_of
uncert_right format m u row = by m
  where
    stayed : (c : Chosen) → IsRightThere kinds.Uncert c row
        (option_and_then (λ line. option_map (forms.Uncert line) (option_map Some (uncertainties_in row)))
        (plain_name_in (text_of row columns.Name)))
    stayed c b =
        reads_one (plain_name_in (text_of row columns.Name)) _ _ (λ line l.
        stays (forms.Uncert l) (uncertainties_in row) _ _ (uncertainties_read row) (λ p.
        (b.0, line, b.2, p.0, p.1, b.5, b.6)))

    by : (m : Manner) → IsRight kinds.Uncert (chosen_by format m u row) row
    by Withdraws b = reads_one (plain_name_in (text_of row columns.Name)) _ _ (λ line l. (b.0, line, b.2, b.3, b.4, b.5, b.6))
    by InYears b = stayed (chosen_by format InYears u row) b
    by Keyed b = stayed (chosen_by format Keyed u row) b
    by Valued b = stayed (chosen_by format Valued u row) b

-- ---- rows

-- activity data hold no half-life
never_in_years : (act : Act) (row : Texts) → says_years (manner_of kinds.Activity act row) ≡ false
never_in_years Withdraw row = refl
never_in_years Enter row = in_years kinds.Activity Enter row (away kinds.Activity Enter row)
never_in_years Correct row = in_years kinds.Activity Correct row (away kinds.Activity Correct row)

all_right : (format : ℕ) (kind : Kind) (act : Act) (row : Texts) → IsRight kind (chosen_in format kind act row) row
all_right format kinds.Span act row = span_right format (manner_of kinds.Span act row) (unit_in (text_of row columns.Unit)) row
all_right format kinds.Activity act row =
    activity_right format (manner_of kinds.Activity act row) (unit_in (text_of row columns.Unit)) row (never_in_years act row)
all_right format kinds.Factor act row = factor_right format (manner_of kinds.Factor act row) (unit_in (text_of row columns.Unit)) row
all_right format kinds.Line act row = line_right format (manner_of kinds.Line act row) (unit_in (text_of row columns.Unit)) row
all_right format kinds.Bind act row = bind_right format (manner_of kinds.Bind act row) (unit_in (text_of row columns.Unit)) row
all_right format kinds.Uncert act row = uncert_right format (manner_of kinds.Uncert act row) (unit_in (text_of row columns.Unit)) row

nothing_wrong : (format : ℕ) (kind : Kind) (act : Act) (row : Texts)
    → is_some (content_of kind (chosen_in format kind act row) row) ≡ true
    → says_no_more kind (manner_of kind act row) row ≡ true
    → wrong_column kind (chosen_in format kind act row) row ≡ None
unfolding wrong_column
nothing_wrong format kind act row says no_more =
    let c : Chosen = chosen_in format kind act row in
    let h : Holdings = holdings_of kind c.manner in
    let right = all_right format kind act row (bare h row no_more) in
    none_wrong h c row (shown (content_of kind c row) (AreHeld h c row) right says)

abbrev says_no_more_by : Kind → Texts → Chosen → Bool
says_no_more_by kind row c = says_no_more kind c.manner row

-- a row that says something, and no more, gives its content
pub right_row : (format : ℕ) (kind : Kind) (act : Act) (row : Texts) (c : Chosen) (form : RowForm)
    → c ≡ chosen_in format kind act row → content_of kind c row ≡ Some form
    → says_no_more kind c.manner row ≡ true → form_in format kind act row ≡ Ok form
unfolding form_of
right_row format kind act row c form same says no_more =
    let chosen : Chosen = chosen_in format kind act row in
    let said : content_of kind chosen row ≡ Some form = ap (λ x. content_of kind x row) (sym same) ∙ says in
    let more = ap (says_no_more_by kind row) (sym same) ∙ no_more in
    rw (nothing_wrong format kind act row (ap is_some said) more) (ap (λ o. ok_or o Disorder) said)
