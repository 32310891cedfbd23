-- Shifts added up, one more at a time.
use Rattle.std.proofs.Common.{◌≡◌, ◌≤◌, ◌+◌, ◌*◌, ℕ, Bool, true, false, cond, ◌||◌, List, [], ◌∷◌, ◌++◌, map, length, Option, refl, sym, ap, ap₂, ◌∙◌, subst, arith}
use Rattle.std.specs.BTreeMap.{IsOrdered}
use Rattle.std.proofs.Math.Bool.{or-false}
use Rattle.std.proofs.lemmas.Int.{ints}
use Rattle.std.proofs.lemmas.List.{append_assoc, append-nil, length-append, map-append}
use Rattle.std.proofs.lemmas.List.Elements.{filter-append}
use Rattle.std.proofs.lemmas.List.Folds.{list_any-append}
use Rattle.ghg_categories.specs.declared.category.Category.{Category}
use Rattle.ghg_categories.specs.Tree.{tree}
use Rattle.ghg_cell.specs.declared.figures.Figures.{Figures}
use Rattle.ghg_cell.specs.Totals.{sum_all}
use Rattle.ghg_cell.specs.Values.{zero}
use Rattle.ghg_cell.proofs.Limited.{sum_more}
use Rattle.ghg_definitions.proofs.Listed.{contained, from_filter, map_agree}
use Rattle.ghg_definitions.proofs.NodeLists.{tree_is}
use Rattle.ghg_shifts.specs.declared.shift.Shift.{Shift}
use Rattle.ghg_shifts.specs.declared.shifts.Counted.{Counted}
use Rattle.ghg_shifts.specs.Extents.{figures_of}
use Rattle.ghg_shifts.specs.declared.shifts.Shifts.{Shifts}
use Rattle.ghg_shifts.specs.Laws.{any_over}
use Rattle.ghg_shifts.specs.Noted.{IsAdded, IsCounted, nothing, place_order, shift_at, shifts_in}
use Rattle.ghg_shifts.specs.Shifts.{counted, counts_in}
use Rattle.ghg_shifts.specs.Sums.{IsSumOf, most_joined, most_terms, plus}
use Rattle.ghg_shifts.proofs.Limits.{sum_both, sum_within}
use Rattle.ghg_shifts.proofs.OfYear.{AreOfYear, Entry, are_of_year, entries_of, few, noted, noted_in_year, over_noted, passing, picked, shifts_of, sums_noted}

zero_within : (n : ℕ) → IsSumOf n zero
zero_within n = record {
  point = record { ordered = omega (arith, ints); lo_within = omega arith; hi_within = omega arith };
  range = record { ordered = omega (arith, ints); lo_within = omega arith; hi_within = omega arith };
}

pub counted_none : (c : Counted) → figures_of c.went ≡ zero → figures_of c.came ≡ zero → c.over ≡ false → IsCounted 0 [] c
counted_none c went came over = record {
  went = went;
  came = came;
  over = over;
  went_terms = subst (IsSumOf 0) (sym went) (zero_within 0);
  came_terms = subst (IsSumOf 0) (sym came) (zero_within 0);
}

pub counted_within : (n m : ℕ) (shifts : List Shift) (c : Counted) → n ≤ m → IsCounted n shifts c → IsCounted m shifts c
counted_within n m shifts c le h = record {
  went = h.went;
  came = h.came;
  over = h.over;
  went_terms = sum_within n m (figures_of c.went) le h.went_terms;
  came_terms = sum_within n m (figures_of c.came) le h.came_terms;
}

pub counted_more : (n : ℕ) (shifts : List Shift) (s : Shift) (c d : Counted) → IsCounted n shifts c → IsAdded c s d → IsCounted (n + most_terms) (shifts ++ s ∷ []) d
counted_more n shifts s c d h a = record {
  went = a.went ∙ ap (λ x. plus x s.went) h.went ∙ sym (sum_more (map (λ (t : Shift). t.went) shifts) s.went) ∙ ap sum_all (sym (map-append (λ (t : Shift). t.went) shifts (s ∷ [])));
  came = a.came ∙ ap (λ x. plus x s.came) h.came ∙ sym (sum_more (map (λ (t : Shift). t.came) shifts) s.came) ∙ ap sum_all (sym (map-append (λ (t : Shift). t.came) shifts (s ∷ [])));
  over = a.over ∙ ap₂ (λ a b. a || b) h.over (sym (or-false s.over)) ∙ sym (list_any-append (λ (t : Shift). t.over) shifts (s ∷ []));
  went_terms = subst (IsSumOf (n + most_terms)) (sym a.went) (sum_both n most_terms (figures_of c.went) s.went h.went_terms a.went_terms);
  came_terms = subst (IsSumOf (n + most_terms)) (sym a.came) (sum_both n most_terms (figures_of c.came) s.came h.came_terms a.came_terms);
}

-- ---- the entries of a year, one by one

-- the entries that are done are counted, and the rest is left
pub record AreDone (test : Category → Bool) (es rest : List Entry) (c : Counted) : Type 0 where
  pub done : List Entry
  pub all : es ≡ done ++ rest
  pub counted : IsCounted (length done * most_terms) (picked test done) c

pub none_done : (test : Category → Bool) (es : List Entry) (c : Counted)
    → figures_of c.went ≡ zero → figures_of c.came ≡ zero → c.over ≡ false → AreDone test es es c
none_done test es c went came over = record { done = []; all = refl; counted = counted_none c went came over }

module _ (test : Category → Bool) (es rest : List Entry) (c : Counted) (are : AreDone test es rest c) where
  abbrev count : ℕ
  count = length are.done

  -- no more than may be joined
  pub room : (year : ℕ) → AreOfYear year es → IsCounted most_joined (picked test are.done) c
  room year of =
      let all = few year es of in
      let parts : length es ≡ count + length rest = ap length are.all ∙ length-append are.done rest in
      counted_within (count * most_terms) most_joined (picked test are.done) c (omega (arith, all, parts)) are.counted

  module _ (e : Entry) (after : List Entry) (next : rest ≡ e ∷ after) where
    abbrev done : List Entry
    done = are.done ++ e ∷ []

    all : es ≡ done ++ after
    all =
        are.all ∙ ap (λ (ds : List Entry). are.done ++ ds) next
        ∙ sym (append_assoc are.done (e ∷ []) after)

    more : count * most_terms + most_terms ≡ length done * most_terms
    more = let longer : length done ≡ count + 1 = length-append are.done (e ∷ []) in omega (arith, longer)

    picked_more : (b : Bool) → test e.0.1 ≡ b → picked test done ≡ picked test are.done ++ cond b (e.1 ∷ []) []
    picked_more b is =
        ap shifts_of (filter-append (λ (d : Entry). test d.0.1) are.done (e ∷ [])
        ∙ ap (λ t. passing test are.done ++ cond t (e ∷ []) []) is)
        ∙ map-append (λ (d : Entry). d.1) (passing test are.done) (cond b (e ∷ []) [])
        ∙ ap (λ ss. picked test are.done ++ ss) (by b)
      where
        by : (t : Bool) → shifts_of (cond t (e ∷ []) []) ≡ cond t (e.1 ∷ []) []
        by true = refl
        by false = refl

    pub one_done : test e.0.1 ≡ true → (d : Counted) → IsAdded c e.1 d → AreDone test es after d
    one_done on d added = record {
      done = done;
      all = all;
      counted = subst (λ n. IsCounted n (picked test done) d) more
          (subst (λ ss. IsCounted (count * most_terms + most_terms) ss d) (sym (picked_more true on))
          (counted_more (count * most_terms) (picked test are.done) e.1 c d are.counted added));
    }

    pub one_left : test e.0.1 ≡ false → AreDone test es after c
    one_left off = record {
      done = done;
      all = all;
      counted = counted_within (count * most_terms) (length done * most_terms) (picked test done) c (omega (arith, more))
          (subst (λ ss. IsCounted (count * most_terms) ss c)
          (sym (picked_more false off ∙ append-nil (picked test are.done))) are.counted);
    }

-- all of them, so all leaves
module _ (shifts : Shifts) (year : ℕ) (top : Option Category) (ordered : IsOrdered place_order shifts.by_leaf) where
  abbrev entries : List Entry
  entries = entries_of year shifts

  of : AreOfYear year entries
  of = are_of_year year shifts ordered

  same : map (noted year entries) (counted top) ≡ shifts_in shifts year top
  same = map_agree (noted year entries) (shift_at shifts year) (counted top) (λ leaf i.
      let listed = (from_filter (counts_in top) leaf tree i).0 in
      noted_in_year shifts year leaf ((tree_is leaf).1 (contained tree leaf listed)))

  sums : (f : Shift → Figures) → f nothing ≡ zero
      → sum_all (map f (picked (counts_in top) entries)) ≡ sum_all (map f (shifts_in shifts year top))
  sums f none = sums_noted f none year (counts_in top) entries of ∙ ap (λ ss. sum_all (map f ss)) same

  pub all_done : (rest : List Entry) → rest ≡ [] → (c : Counted) → AreDone (counts_in top) entries rest c
      → IsCounted most_joined (shifts_in shifts year top) c
  all_done rest ended c are =
      let none_left : entries ≡ are.done =
      are.all ∙ ap (λ (ds : List Entry). are.done ++ ds) ended ∙ append-nil are.done in
      let is : IsCounted most_joined (picked (counts_in top) entries) c =
      subst (λ ds. IsCounted most_joined (picked (counts_in top) ds) c) (sym none_left)
      (room (counts_in top) entries rest c are year of) in record {
        went = is.went ∙ sums (λ s. s.went) refl;
        came = is.came ∙ sums (λ s. s.came) refl;
        over = is.over ∙ over_noted year (counts_in top) entries of ∙ ap any_over same;
        went_terms = is.went_terms;
        came_terms = is.came_terms;
      }
