-- Data without records are a workbook.
use Rattle.std.proofs.Common.{◌≡◌, ◌∷◌, ℕ, Bool, true, false, ◌&&◌, is_some, nat_lt, not, filter, length, [], List, inl, refl, sym, ap, ◌∙◌, Option, None, Some, if◌then◌else◌, arith, map, flat_map}
use Rattle.std.specs.FinMap.{empty, get, get-empty, entries, len, len-empty, len-entries}
use Rattle.std.specs.List.{filter_map}
use Rattle.ghg_definitions.specs.declared.record.Record.{Record}
use Rattle.ghg_definitions.specs.declared.record.RecordKey.{RecordKey}
use Rattle.ghg_definitions.specs.declared.record.RecordKey.TheVariants as key
use Rattle.ghg_definitions.specs.Data.{Data, Name, as_figure, as_line, as_span, figure, first_name, key_cmp, line, line_name, line_names, span}
use Rattle.ghg_definitions.specs.Rings.{IsAcyclic, Takes}
use Rattle.ghg_definitions.specs.Rules.{is_long, is_sound, least_place, most_lines, most_records, passed_limit, places_in, unsound_place}
use Rattle.ghg_definitions.specs.Sound.{IsWorkbook}
use Rattle.ghg_definitions.proofs.Chains.{leading}
use Rattle.ghg_data.specs.declared.series.Series.{Series}
use Rattle.ghg_data.specs.Series.{dated}
use Rattle.ghg_units.specs.Year.{is_year}
use Rattle.ghg_units.specs.declared.row.Figure.{Figure}
use Rattle.ghg_units.specs.declared.rule.Limit.TheVariants.{Lines, Records}
use Rattle.ghg_units.specs.declared.rule.Limit.TheVariants as limits

none : Data
none = empty {X = Record} {R = key_cmp}

no_length : {A : Type 0} (es : List A) → length es ≡ 0 → es ≡ []
no_length [] e = refl
no_length (x ∷ es) e = absurd (omega arith)

no_entries : entries none ≡ []
unfolding none
no_entries = no_length (entries none) (sym (len-entries none) ∙ len-empty key_cmp Record)

absent : {P : Type 0} (k : RecordKey) (r : Record) → get none k ≡ Some r → P
unfolding none
absent k r e = absurd (apart (sym (get-empty key_cmp k) ∙ e))
  where
    apart : ◌≡◌ {A = Option Record} None (Some r) → ⊥
    apart h = cc

no_span : get none key.Span ≡ None
unfolding none
no_span = get-empty key_cmp key.Span

no_figure : {P : Type 0} (k : RecordKey) (f : Figure) → figure none k ≡ Some f → P
unfolding none
no_figure k f e = absurd (apart (sym (ap as_figure (get-empty key_cmp k)) ∙ e))
  where
    apart : ◌≡◌ {A = Option Figure} None (Some f) → ⊥
    apart h = cc

pub no_lines : line_names (empty {X = Record} {R = key_cmp}) ≡ []
unfolding none
no_lines = ap (λ es. filter_map line_name (map (λ e. e.0) es)) no_entries

pub no_dates : (s : Series) (y : ℕ) → is_year y && is_some (get (empty {X = Record} {R = key_cmp}) (dated s y)) ≡ false
no_dates s y = ap (λ o. is_year y && is_some o) (get-empty key_cmp (dated s y)) ∙ by (is_year y)
  where
    by : (b : Bool) → b && false ≡ false
    by true = refl
    by false = refl

sound : unsound_place none ≡ None
unfolding unsound_place
sound = ap (λ es. least_place (filter (λ p. not (is_sound none p)) (flat_map (λ e. places_in e.0 (line none (first_name e.0))) es))) no_entries

within : passed_limit none ≡ None
unfolding passed_limit
within =
    ap (λ es. if nat_lt most_lines (length (filter_map line_name (map (λ e. e.0) es))) then Some Lines else if nat_lt most_records (len none) then Some Records else if is_long (span none) then Some limits.Span else None) no_entries
    ∙ ap (λ n. if nat_lt most_records n then Some Records else if is_long (span none) then Some limits.Span else None) (len-entries none ∙ ap length no_entries)
    ∙ ap (λ r. if is_long (as_span r) then Some limits.Span else None) no_span

pub is_workbook : IsWorkbook (empty {X = Record} {R = key_cmp})
unfolding none
is_workbook = record {
  records = λ k r e. absent k r e;
  dimensions = λ k q f g e _ _. no_figure k f e;
  bindings = sound;
  limits = within;
}

no_line : (k : Name) → is_some (line none k) ≡ true → ⊥
unfolding none
no_line k e = clash (sym (ap (λ o. is_some (as_line o)) (get-empty key_cmp (key.Line k))) ∙ e)
  where
    clash : ◌≡◌ {A = Bool} false true → ⊥
    clash h = cc

-- and have no ring
pub is_acyclic : IsAcyclic (empty {X = Record} {R = key_cmp})
unfolding none
is_acyclic [] ring = ring
is_acyclic (k ∷ names) ring = let taken = leading (Takes none) (k ∷ names) k k ring (inl refl) in no_line k taken.1.present
