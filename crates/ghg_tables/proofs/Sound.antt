-- The texts of the tables of a workbook without a ring are sound.
use Rattle.std.proofs.Common.{unwrap_or, ◌≡◌, ℕ, ◌+◌, ◌-◌, List, [], ◌∷◌, ◌++◌, map, flat_map, Option, Some, None, Result, Ok, Err, IfOk, refl, sym, ap, ◌∙◌, subst, append_assoc}
use Rattle.std.proofs.lemmas.List.{append-nil}
use Rattle.ghg_categories.specs.declared.category.Category.{Category}
use Rattle.ghg_categories.specs.declared.category.Category.TheVariants.{National}
use Rattle.ghg_categories.specs.Tree.{tree}
use Rattle.ghg_equations.specs.declared.eq_id.EqId.{EqId}
use Rattle.ghg_cell.specs.declared.input.Input.TheVariants.{Blank, Known}
use Rattle.ghg_units.specs.declared.node.Node.{Node}
use Rattle.ghg_units.specs.declared.node.Node.TheVariants as node
use Rattle.ghg_definitions.specs.Compilation.{compilation, first_year, years_from}
use Rattle.ghg_definitions.specs.Data.{Data, Name, category, line, line_names, span}
use Rattle.ghg_definitions.specs.Formulas.{Outcome}
use Rattle.ghg_definitions.specs.Rings.{IsAcyclic}
use Rattle.ghg_definitions.specs.Sound.{IsWorkbook}
use Rattle.ghg_definitions.specs.Trials.{value_of}
use Rattle.ghg_definitions.proofs.Exactness.{compilations_contain}
use Rattle.ghg_tables.specs.declared.table.Table.{Table}
use Rattle.ghg_tables.specs.declared.table.Table.TheVariants as table
use Rattle.ghg_tables.specs.Laws.{line_precision, node_precision}
use Rattle.ghg_tables.specs.Rounding.{high_of, low_of, reported}
use Rattle.ghg_tables.specs.SoundTexts.{AreFigures, AreFiguresOf, AreRowsOf, IsRowOf, IsSoundText, Subject, gross_subject, line_subject, total_subject, year_subject}
use Rattle.ghg_tables.specs.Sums.{shown}
use Rattle.ghg_tables.specs.Tables.{category_row, cells_text, gross_row, header, line_row, present_text, series_text, summary_text, table_text, year_row}
use Rattle.ghg_tables.specs.Texts.{cell_text, cell_words, field, figures_text, known_text, total_text, year_text}
use Rattle.ghg_tables.proofs.Bounds.{held}

module _ (m : Data) (workbook : IsWorkbook m) (acyclic : IsAcyclic m) where
  -- ---- the figures of a node

  figures_sound : (n : Node) → AreFiguresOf m n (value_of (compilation m n)) (figures_text (node_precision m n) (shown (compilation m) n))
  unfolding figures_text known_text
  figures_sound n = by (compilation m n) refl
    where
      by : (o : Option Outcome) → compilation m n ≡ o → AreFiguresOf m n (value_of o) (figures_text (node_precision m n) (unwrap_or (value_of o) Blank))
      by None e = refl
      by (Some (Err over)) e = refl
      by (Some (Ok Blank)) e = refl
      by (Some (Ok (Known point range))) e = record {
        value = reported (node_precision m n) point;
        low = low_of (node_precision m n) range;
        high = high_of (node_precision m n) range;
        written = refl;
        hold = λ choice supplied fractions exact. held (node_precision m n) range (fractions n) (((compilations_contain m workbook acyclic).each n point range e).holds choice supplied fractions exact).0;
      }

  -- ---- rows

  one_row : (s : Subject) (row : List ℕ) → IsRowOf m s row → AreRowsOf m (s ∷ []) row
  one_row s row is = (row, [], sym (append-nil row), is, refl)

  rows_joined : (ss more : List Subject) (text rest : List ℕ) → AreRowsOf m ss text → AreRowsOf m more rest → AreRowsOf m (ss ++ more) (text ++ rest)
  rows_joined [] more text rest e h = subst (AreRowsOf m more) (sym (ap (λ front. front ++ rest) e)) h
  rows_joined (s ∷ ss) more text rest rows h = (rows.0, rows.1 ++ rest, ap (λ front. front ++ rest) rows.2 ∙ append_assoc rows.0 rows.1 rest, rows.3, rows_joined ss more rows.1 rest rows.4 h)

  rows_of_lists : {A : Type 0} (f : A → List Subject) (g : A → List ℕ) → ((x : A) → AreRowsOf m (f x) (g x)) → (xs : List A) → AreRowsOf m (flat_map f xs) (flat_map g xs)
  rows_of_lists f g each [] = refl
  rows_of_lists f g each (x ∷ xs) = rows_joined (f x) (flat_map f xs) (g x) (flat_map g xs) (each x) (rows_of_lists f g each xs)

  rows_of_each : {A : Type 0} (f : A → Subject) (g : A → List ℕ) → ((x : A) → IsRowOf m (f x) (g x)) → (xs : List A) → AreRowsOf m (map f xs) (flat_map g xs)
  rows_of_each f g each [] = refl
  rows_of_each f g each (x ∷ xs) = (g x, flat_map g xs, refl, each x, rows_of_each f g each xs)

  -- ---- the rows of each table

  line_sound : (year : ℕ) (name : Name) → AreRowsOf m (line_subject year name (category m name) (line m name)) (line_row m (compilation m) year name)
  unfolding line_row cell_text
  line_sound year name = by (category m name) (line m name) refl
    where
      shows : Option EqId → List ℕ
      shows e = figures_text (line_precision e) (shown (compilation m) (node.Line name year))

      by : (c : Option Category) (e : Option EqId) → line m name ≡ e → AreRowsOf m (line_subject year name c e) (present_text name c e (shown (compilation m) (node.Line name year)))
      by None e is = refl
      by (Some c) None is = refl
      by (Some c) (Some e) is =
          let sound : AreFigures m (node.Line name year ∷ []) (shows (Some e)) = subst (λ o. AreFigures m (node.Line name year ∷ []) (shows o)) is (figures_sound (node.Line name year)) in
          let words = cell_words name c e in
          one_row (record { words = words; nodes = node.Line name year ∷ [] }) (words ++ shows (Some e) ++ 10 ∷ []) (shows (Some e), refl, sound)

  total_sound : (year : ℕ) (c : Category) → IsRowOf m (total_subject year c) (category_row (compilation m) year c)
  unfolding category_row total_text
  total_sound year c = (_, refl, figures_sound (node.Total c year))

  gross_sound : (year : ℕ) → IsRowOf m (gross_subject year) (gross_row (compilation m) year)
  unfolding gross_row total_text
  gross_sound year = (_, refl, figures_sound (node.Gross year))

  year_sound : (year : ℕ) → IsRowOf m (year_subject year) (year_row (compilation m) year)
  unfolding year_row year_text
  year_sound year =
      let total = figures_text (node_precision m (node.Total National year)) (shown (compilation m) (node.Total National year)) in
      let gross = figures_text (node_precision m (node.Gross year)) (shown (compilation m) (node.Gross year)) in
      (field total ++ gross, ap (λ front. front ++ 10 ∷ []) (append_assoc _ (field total) gross), (total, gross, refl, figures_sound (node.Total National year), figures_sound (node.Gross year)))

  -- ---- the tables

  pub texts_sound : (t : Table) (year : ℕ) → IsSoundText t m year (table_text t m (compilation m) year)
  unfolding IsSoundText cells_text summary_text series_text
  texts_sound table.Cells year = (_, refl, rows_of_lists (λ name. line_subject year name (category m name) (line m name)) (line_row m (compilation m) year) (line_sound year) (line_names m))
  texts_sound table.Summary year = (
    flat_map (category_row (compilation m) year) tree ++ gross_row (compilation m) year,
    append_assoc (header table.Summary) (flat_map (category_row (compilation m) year) tree) (gross_row (compilation m) year),
    rows_joined (map (total_subject year) tree) (gross_subject year ∷ []) (flat_map (category_row (compilation m) year) tree) (gross_row (compilation m) year)
        (rows_of_each (total_subject year) (category_row (compilation m) year) (total_sound year) tree)
        (one_row (gross_subject year) (gross_row (compilation m) year) (gross_sound year)),
  )
  texts_sound table.Series year = (_, refl, rows_of_each year_subject (year_row (compilation m)) year_sound (years_from (first_year (span m)) (year + 1 - first_year (span m))))
  texts_sound _ year = tt

  pub result_sound : {E : Type 0} (t : Table) (year : ℕ) (r : Result (List ℕ) E) → IfOk r (λ text. text ≡ table_text t m (compilation m) year) → IfOk r (IsSoundText t m year)
  result_sound t year (Ok text) is = subst (IsSoundText t m year) (sym is) (texts_sound t year)
  result_sound t year (Err e) is = is
