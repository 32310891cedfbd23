-- Where no name loses its dimension and no line its equation, each fault is one that a changed key is about.
use Rattle.std.proofs.Common.{◌≡◌, inl, inr, ℕ, Bool, true, false, not, ◌&&◌, ◌||◌, List, [], ◌∷◌, ◌++◌, map, Option, Some, None, refl, sym, ap, ◌∙◌, if◌then◌else◌}
use Rattle.std.specs.FinMap.{find as find_key, get}
use Rattle.std.specs.List.{find, list_all, list_any}
use Rattle.std.specs.Option.{option_map_or}
use Rattle.std.specs.Str.{bytes_eq}
use Rattle.std.proofs.lemmas.Bool.{both_ways, false_from_ne_true}
use Rattle.std.proofs.lemmas.Option.{same_Some}
use denote.Enum.Bare.{same_true, true_same}
use Rattle.ghg_equations.specs.contracts.eq_id.EqId.{the_type}
use Rattle.ghg_equations.specs.declared.eq_id.EqId.{EqId}
use Rattle.ghg_equations.specs.declared.quantity.Dim.{Dim}
use Rattle.ghg_equations.specs.declared.quantity.Dim.TheVariants as dims
use Rattle.ghg_equations.specs.Quantity.{same_dim}
use Rattle.ghg_equations.specs.Table.{Quantity, output, parameters}
use Rattle.ghg_units.specs.declared.row.Binding.{Binding}
use Rattle.ghg_units.specs.declared.row.Binding.TheVariants as bound
use Rattle.ghg_units.specs.Year.{is_year}
use Rattle.ghg_definitions.specs.declared.place.Place.{Place}
use Rattle.ghg_definitions.specs.declared.record.Record.{Record}
use Rattle.ghg_definitions.specs.declared.record.RecordKey.{RecordKey}
use Rattle.ghg_definitions.specs.declared.record.RecordKey.TheVariants as key
use Rattle.ghg_definitions.specs.Data.{Data, Name, as_binding, as_figure, as_line, binding, figure, key_cmp, line, year_of}
use Rattle.ghg_definitions.specs.Rules.{are_of, binds_parameter, dim_of_output, gives_decay, gives_dimension, is_bound, is_line_of, is_sound, is_uncertainty}
use Rattle.ghg_definitions.specs.Sound.{IsConsistent, IsWorkbook}
use Rattle.ghg_definitions.proofs.Alike.{both, first_so, second_so}
use Rattle.ghg_definitions.proofs.Consistent.{workbook_consistent}
use Rattle.ghg_definitions.proofs.Listed.{listed_any}
use Rattle.ghg_data.specs.declared.series.Series.{Series}
use Rattle.ghg_data.specs.declared.series.Series.TheVariants as series
use Rattle.ghg_data.specs.Calendar.{is_put, is_taken}
use Rattle.ghg_data.specs.Changes.{Change, applied}
use Rattle.ghg_data.specs.Faults.{is_fault, is_place}
use Rattle.ghg_data.specs.Series.{date_of, dated}
use Rattle.ghg_data.specs.Settling.{IsSettled, figures_of, loses_dimension, loses_equation, same_equation}
use Rattle.ghg_data.proofs.Applied.{get-applied, over}
use Rattle.ghg_data.proofs.Covered.{changed_or_kept, keyed, keyed_or_sound}
use Rattle.ghg_data.proofs.Faults.{IsAmong, among_either, among_left, among_right}
use Rattle.ghg_data.proofs.Figures.{loses_so, lost_figure}
use Rattle.ghg_data.proofs.OtherYears.{in_time, of_series}

-- ---- lists and options

so_too : {A : Type 0} (f g : A → Bool) → ((x : A) → f x ≡ true → g x ≡ true) → (o : Option A) → option_map_or f o false ≡ true → option_map_or g o false ≡ true
so_too f g h None e = e
so_too f g h (Some x) e = h x e

all_too : {A : Type 0} (f g : A → Bool) → ((x : A) → f x ≡ true → g x ≡ true) → (xs : List A) → list_all f xs ≡ true → list_all g xs ≡ true
all_too f g h [] e = refl
all_too f g h (x ∷ xs) e = both _ _ (h x (first_so (f x) _ e)) (all_too f g h xs (second_so (f x) _ e))

or_too : (a b c : Bool) → (b ≡ true → c ≡ true) → a || b ≡ true → a || c ≡ true
or_too true b c h e = refl
or_too false b c h e = h e

not_so : (b : Bool) → not b ≡ true → b ≡ false
not_so true e = sym e
not_so false e = refl

date_dated : (s : Series) (y : ℕ) → date_of (dated s y) ≡ Some (s, y)
date_dated (series.Activity name) y = refl
date_dated (series.Factor name) y = refl

-- ---- what stays sound

module _ {m n : Data} (settled : IsSettled m n) where
  figures_too : (d : Dim) (s : Series) → are_of d (figures_of m s) ≡ true → are_of d (figures_of n s) ≡ true
  figures_too d s h = by (are_of d (figures_of n s)) refl
    where
      by : (b : Bool) → are_of d (figures_of n s) ≡ b → are_of d (figures_of n s) ≡ true
      by true e = e
      by false e = absurd (both_ways _ (settled.names s) (loses_so m n s d h e))

  line_kept : (l : Name) (e : EqId) → line m l ≡ Some e → line n l ≡ Some e
  line_kept l e h = by (line n l) (sym (ap (λ o. option_map_or (λ q. not (option_map_or (same_equation q) (line n l) false)) o false) h) ∙ settled.lines (key.Line l))
    where
      same : (b : Bool) → not b ≡ false → b ≡ true
      same true e = refl
      same false e = absurd (cc)

      by : (o : Option EqId) → not (option_map_or (same_equation e) o false) ≡ false → o ≡ Some e
      by None f = absurd (cc)
      by (Some q) f = ap Some (sym (same_true the_type tt e q (same _ f)))

  line_too : (d : Dim) (l : Name) → is_line_of m d l ≡ true → is_line_of n d l ≡ true
  line_too d l h = by (line m l) refl h
    where
      by : (o : Option EqId) → line m l ≡ o → option_map_or (λ e. same_dim d (dim_of_output (output e))) o false ≡ true → is_line_of n d l ≡ true
      by None e h = absurd (cc)
      by (Some q) e h = ap (λ o. option_map_or (λ e. same_dim d (dim_of_output (output e))) o false) (line_kept l q e) ∙ h

  dimension_too : (d : Dim) (b : Binding) → gives_dimension m d b ≡ true → gives_dimension n d b ≡ true
  dimension_too d (bound.Activity name) h = figures_too d (series.Activity name) h
  dimension_too d (bound.Factor name) h = figures_too d (series.Factor name) h
  dimension_too d (bound.Line name) h = line_too d name h
  dimension_too d (bound.Prev name) h = line_too d name h
  dimension_too d (bound.Sum names) h = all_too (is_line_of m d) (is_line_of n d) (line_too d) names h
  dimension_too d (bound.Decay name) h = h
  dimension_too d (bound.Key notation) h = h

  decay_too : (b : Binding) → gives_decay m b ≡ true → gives_decay n b ≡ true
  decay_too (bound.Decay name) h = figures_too dims.HalfLife (series.Factor name) h
  decay_too (bound.Activity name) h = h
  decay_too (bound.Factor name) h = h
  decay_too (bound.Line name) h = h
  decay_too (bound.Prev name) h = h
  decay_too (bound.Sum names) h = h
  decay_too (bound.Key notation) h = h

  bound_too : (d : Dim) (o : Option Binding) → is_bound m d o ≡ true → is_bound n d o ≡ true
  bound_too d None h = h
  bound_too d (Some b) h = by (same_dim d dims.Decay) h
    where
      by : (t : Bool) → (if t then gives_decay m b else gives_dimension m d b) ≡ true → (if t then gives_decay n b else gives_dimension n d b) ≡ true
      by true h = decay_too b h
      by false h = dimension_too d b h

  -- where its binding stands as it was
  sound_too : (p : Place) → get n (key.Bind p.line p.parameter) ≡ get m (key.Bind p.line p.parameter) → is_sound m p ≡ true → is_sound n p ≡ true
  unfolding is_sound
  sound_too p b h = by (line m p.line) refl h
    where
      by : (o : Option EqId) → line m p.line ≡ o → option_map_or (λ e. is_uncertainty p || binds_parameter m e p.parameter (binding m p.line p.parameter)) o false ≡ true
          → option_map_or (λ e. is_uncertainty p || binds_parameter n e p.parameter (binding n p.line p.parameter)) (line n p.line) false ≡ true
      by None e h = absurd (cc)
      by (Some q) e h =
          ap (λ o. option_map_or (λ x. is_uncertainty p || binds_parameter n x p.parameter (binding n p.line p.parameter)) o false) (line_kept p.line q e)
          ∙ (λ i. is_uncertainty p || binds_parameter n q p.parameter (as_binding (b i)))
          ∙ or_too (is_uncertainty p) _ _ (so_too (λ (x : Quantity). is_bound m x.dim (binding m p.line p.parameter)) _ (λ x. bound_too x.dim (binding m p.line p.parameter)) (find (λ x. bytes_eq x.name p.parameter) (parameters q))) h

pub settled_faults : (m : Data) (w : IsWorkbook m) (cs : List Change) → IsSettled m (applied m cs) → (p : Place) → is_fault (applied m cs) p ≡ true → IsAmong p (keyed m w cs)
settled_faults m w cs settled p h = elim (keyed_or_sound m w cs p h) [
  | inl i ↦ i
  | inr was ↦ absurd (both_ways _ (not_so _ (second_so (is_place (applied m cs) p) _ h)) (sound_too settled p was.1 was.2))
]

-- ---- what a change loses

-- a name that loses its dimension is among those of which a record is set or removed
module _ (m : Data) (w : IsWorkbook m) (cs : List Change) (now : IsConsistent (applied m cs)) (puts gone : List Series)
    (put : (s : Series) (y : ℕ) → is_year y && is_put (find_key key_cmp (dated s y) cs) ≡ true → IsAmong s puts)
    (took : (s : Series) (y : ℕ) → is_year y && is_taken (find_key key_cmp (dated s y) cs) ≡ true → IsAmong s gone) where
  named : (s : Series) (y : ℕ) → is_year y ≡ true → (c : Option Record) → find_key key_cmp (dated s y) cs ≡ Some c → IsAmong s (puts ++ gone)
  named s y timely None at = among_right s puts gone (took s y (both _ _ timely (ap is_taken at)))
  named s y timely (Some r) at = among_left s puts gone (put s y (both _ _ timely (ap is_put at)))

  pub lost_listed : (s : Series) → loses_dimension m (applied m cs) s ≡ true → IsAmong s (puts ++ gone)
  lost_listed s loses =
      let found = lost_figure (workbook_consistent w) now s loses in
      let q = found.0 in
      let at = of_series (workbook_consistent w) (dated s 0) q found.1 found.2 found.3 in
      by q (at.2 ∙ ap (λ x. dated x.0 (year_of q)) (same_Some _ _ (sym at.1 ∙ date_dated s 0))) (in_time (year_of q) at.3) found.4 (find_key key_cmp q cs) refl
    where
      by : (q : RecordKey) → q ≡ dated s (year_of q) → is_year (year_of q) ≡ true → (figure (applied m cs) q ≡ figure m q → ⊥) → (o : Option (Option Record)) → find_key key_cmp q cs ≡ o → IsAmong s (puts ++ gone)
      by q is timely changed None e = absurd (changed (ap as_figure (get-applied m cs q ∙ ap (λ o. over o (get m q)) e)))
      by q is timely changed (Some c) e = named s (year_of q) timely c (ap (λ k. find_key key_cmp k cs) (sym is) ∙ e)

  names_kept : list_any (loses_dimension m (applied m cs)) puts ≡ false → list_any (loses_dimension m (applied m cs)) gone ≡ false → (s : Series) → loses_dimension m (applied m cs) s ≡ false
  names_kept none_put none_gone s = false_from_ne_true _ (λ loses. elim (among_either s puts gone (lost_listed s loses)) [
    | inl i ↦ both_ways _ none_put (listed_any (loses_dimension m (applied m cs)) s puts i loses)
    | inr i ↦ both_ways _ none_gone (listed_any (loses_dimension m (applied m cs)) s gone i loses)
  ])

  -- a line that loses its equation is changed
  lost_changed : (k : RecordKey) → loses_equation m (applied m cs) k ≡ true → IsAmong k (map (λ d. d.0) cs)
  lost_changed k loses = elim (changed_or_kept m cs k) [ inl changed ↦ changed | inr kept ↦ absurd (by k kept loses) ]
    where
      still : (l : Name) (o : Option EqId) → line (applied m cs) l ≡ o → option_map_or (λ q. not (option_map_or (same_equation q) (line (applied m cs) l) false)) o false ≡ true → ⊥
      still l None e h = cc
      still l (Some q) e h = both_ways _ (ap (λ o. not (option_map_or (same_equation q) o false)) e ∙ ap not (true_same the_type q q refl)) h

      by : (k : RecordKey) → get (applied m cs) k ≡ get m k → loses_equation m (applied m cs) k ≡ true → ⊥
      by key.Span kept h = cc
      by (key.Activity name year) kept h = cc
      by (key.Factor name start) kept h = cc
      by (key.Line l) kept h = still l (line m l) (ap as_line kept) h
      by (key.Bind l p) kept h = cc
      by (key.Uncert l) kept h = cc

  -- so where none of these loses anything, nothing does
  pub nothing_lost : list_any (loses_dimension m (applied m cs)) puts ≡ false → list_any (loses_dimension m (applied m cs)) gone ≡ false → list_any (loses_equation m (applied m cs)) (map (λ d. d.0) cs) ≡ false → IsSettled m (applied m cs)
  nothing_lost none_put none_gone no_line = record {
    names = names_kept none_put none_gone;
    lines = λ k. false_from_ne_true _ (λ loses. both_ways _ no_line (listed_any (loses_equation m (applied m cs)) k (map (λ d. d.0) cs) (lost_changed k loses) loses));
  }

-- where nothing loses anything, none of these does
pub none_lose : {A : Type 0} (p : A → Bool) (xs : List A) → ((x : A) → p x ≡ false) → list_any p xs ≡ false
none_lose p [] none = refl
none_lose p (x ∷ xs) none = rw (none x) (none_lose p xs none)
