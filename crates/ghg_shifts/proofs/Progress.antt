-- What is noted while nodes are evaluated, step by step.
use Rattle.std.proofs.Common.{◌≡◌, ◌≤◌, ◌<◌, ◌+◌, ◌==◌, inl, inr, ℕ, Bool, true, false, not, ◌&&◌, ◌||◌, cond, nat_lt, is_eq, is_some, List, [], ◌∷◌, ◌++◌, Contains, Option, Some, None, Ok, Err, eq-eqb, eqb-true, ltb-true, refl, sym, ap, ap₂, ◌∙◌, subst, arith, option_and_then, map, lt-ltb}
use Rattle.std.specs.Cmp.Lexicographic.{bytes_decides}
use Rattle.std.specs.List.{list_any}
use Rattle.std.specs.Option.{option_map_or}
use Rattle.std.specs.Ordering.{eq_by_cmp}
use Rattle.std.specs.Str.{bytes_eq}
use Rattle.std.proofs.lemmas.Cmp.{tied_itself}
use Rattle.std.proofs.lemmas.List.Folds.{list_any-append}
use Rattle.ghg_categories.specs.declared.category.Category.{Category}
use Rattle.ghg_cell.specs.declared.input.Input.{Input}
use Rattle.ghg_equations.specs.declared.quantity.Gas.{Gas}
use Rattle.ghg_units.specs.declared.node.Node.{Node}
use Rattle.ghg_units.specs.declared.node.Node.TheVariants as node
use Rattle.ghg_definitions.specs.declared.record.RecordKey.{RecordKey}
use Rattle.ghg_definitions.specs.declared.record.RecordKey.TheVariants as key
use Rattle.ghg_definitions.specs.Compilation.{compilation, emits, gas_lines_at, is_node, is_year_of, line_gas, sheet_of}
use Rattle.ghg_definitions.specs.Data.{Data, Name, category, key_cmp, line_name, span, first_name, as_line, as_category}
use Rattle.ghg_definitions.specs.Formulas.{Outcome}
use Rattle.ghg_definitions.specs.Listed.{IsListed}
use Rattle.ghg_definitions.specs.Nodes.{node_cmp, name_of, year_in}
use Rattle.ghg_definitions.specs.Trials.{IsInput, or_blank, Sheet, value_of}
use Rattle.ghg_affected.specs.Patches.{IsInTurn}
use Rattle.ghg_definitions.proofs.Depth.{or_else}
use Rattle.ghg_definitions.proofs.Keys.{keys_same, keys_total, equal_by}
use Rattle.ghg_definitions.proofs.Listed.{contained, from_any, in_either, listed, listed_any, listed_map}
use Rattle.ghg_definitions.proofs.NodeOrder.{nodes_total}
use Rattle.ghg_definitions.proofs.OneTrial.{overflows_break}
use Rattle.ghg_affected.proofs.Bools.{never_so, true_not_false, either, or_first, or_second}
use Rattle.ghg_affected.proofs.Kept.{unaffected_keep}
use Rattle.ghg_shifts.specs.declared.shifts.Shifts.{Shifts}
use Rattle.ghg_shifts.specs.Noted.{AreNoted, AreShifts, HasRoom, emitted_at, no_line, shift_at, with_line_in, with_line}
use Rattle.ghg_shifts.specs.Progress.{AreNotedBefore, AreNotedUntil, IsEdit, TotalsHaveShifts, has_come, has_equivalent, is_counted, is_edited, is_gone, is_gone_until}
use Rattle.ghg_shifts.specs.Shifts.{AreMoved, counts_in, input_at, total_at, or_nothing}
use Rattle.ghg_shifts.proofs.Exchange.{listed_at, year_of_total}
use Rattle.ghg_shifts.proofs.Leaves.{same_truth}
use Rattle.ghg_shifts.proofs.Room.{shifts_have_room}
use Rattle.ghg_shifts.proofs.Steps.{nodes_are_noted, total_is_noted}
use Rattle.std.proofs.lemmas.Bool.{eqb-false}
use Rattle.ghg_affected.proofs.Equalities.{node_decides}
use Rattle.ghg_definitions.proofs.Alike.{both, first_so, second_so}
use Rattle.std.specs.FinMap.{get}
use Rattle.ghg_interval.specs.declared.Over.{Over}
use Rattle.ghg_equations.specs.Quantity.{gas_of}
use Rattle.ghg_equations.specs.Table.{output}

-- ---- truth values

or_parts : (a b : Bool) → a || b ≡ false → (a ≡ false) × (b ≡ false)
or_parts true b e = absurd (true_not_false e)
or_parts false b e = (refl, e)

or_false : (a : Bool) → a || false ≡ a
or_false true = refl
or_false false = refl

and_false : (a : Bool) → a && false ≡ false
and_false true = refl
and_false false = refl

and_true : (a : Bool) → a && true ≡ a
and_true true = refl
and_true false = refl

rest_so : (e g : Bool) → ((e && not g) || g) ≡ (e || g)
rest_so true true = refl
rest_so true false = refl
rest_so false g = refl

pushed : (b : Bool) (f g : Name → Bool) (k : Name) → (cond b f g) k ≡ cond b (f k) (g k)
pushed true f g k = refl
pushed false f g k = refl

-- one node more
merged : (a b e d : Bool) → cond a (b || (e || d)) (e || d) ≡ (e || (d || (a && b)))
merged true true true d = refl
merged true true false true = refl
merged true true false false = refl
merged true false true d = refl
merged true false false true = refl
merged true false false false = refl
merged false b true d = refl
merged false b false true = refl
merged false b false false = refl

-- of a line that is noted already
merged_there : (a b e d : Bool) → (b ≡ true → e ≡ true) → (e || d) ≡ (e || (d || (a && b)))
merged_there a true e d so = ap (λ x. x || d) (so refl) ∙ sym (ap (λ x. x || (d || (a && true))) (so refl))
merged_there a false e d so = ap (λ x. e || x) (sym (or_false d) ∙ ap (λ x. d || x) (sym (and_false a)))

-- one year more
later_so : (a b e l : Bool) → cond a (b || (e || (b && l))) (e || (b && l)) ≡ (e || (b && (l || a)))
later_so true true true l = refl
later_so true true false true = refl
later_so true true false false = refl
later_so true false e l = refl
later_so false b e true = refl
later_so false b e false = refl

-- in which the line's equivalent is given, or is not
came_given : (a b u g : Bool) → (a ≡ true → b ≡ true → g ≡ true) → (u && not g) ≡ (cond a (b || u) u && not g)
came_given true true u g so = ap (λ x. u && not x) (so refl refl) ∙ and_false u ∙ sym (ap not (so refl refl))
came_given true false u g so = refl
came_given false b u g so = refl

came_kept : (a b u g : Bool) → (a ≡ true → b ≡ true → g ≡ false) → cond a (b || (u && not g)) (u && not g) ≡ (cond a (b || u) u && not g)
came_kept true true u g so = sym (ap not (so refl refl))
came_kept true false u g so = refl
came_kept false b u g so = refl

lt_more : (y n : ℕ) → nat_lt y (n + 1) ≡ (nat_lt y n || (n == y))
lt_more y n = same_truth _ _
    (λ e. let below = ltb-true y (n + 1) e in elim (or_else (n == y)) [
      | inl same ↦ or_second (nat_lt y n) _ same
      | inr apart ↦ or_first (nat_lt y n) _ (lt-ltb y n (let never = eqb-false n y apart in omega (arith, below, never)))
    ])
    (λ e. lt-ltb y (n + 1) (elim (either (nat_lt y n) _ e) [
      | inl l ↦ let below = ltb-true y n l in omega (arith, below)
      | inr same ↦ let is = eqb-true n y same in omega (arith, is)
    ]))

-- ---- what is in a list

key_there : (k : RecordKey) (keys : List RecordKey) → IsListed k keys → list_any (eq_by_cmp key_cmp k) keys ≡ true
key_there k keys i = listed_any (eq_by_cmp key_cmp k) k keys i (ap is_eq (tied_itself keys_total k))

node_there : (n : Node) (ns : List Node) → IsListed n ns → list_any (eq_by_cmp node_cmp n) ns ≡ true
node_there n ns i = listed_any (eq_by_cmp node_cmp n) n ns i (ap is_eq (tied_itself nodes_total n))

-- a line whose record is among the keys is edited, and no other is
pub edited_listed : (keys : List RecordKey) (name : Name) → Contains keys (key.Line name) → is_edited keys name ≡ true
edited_listed keys name c = key_there (key.Line name) keys (listed keys (key.Line name) c)

pub edited_not_listed : (keys : List RecordKey) (name : Name) → (Contains keys (key.Line name) → ⊥) → is_edited keys name ≡ false
edited_not_listed keys name never = never_so (is_edited keys name) (λ e.
    let found = from_any (eq_by_cmp key_cmp (key.Line name)) keys e in
    never (contained keys (key.Line name) (subst (λ k. IsListed k keys) (sym (keys_same (key.Line name) found.0 (equal_by _ found.2))) found.1)))

-- so it is with equivalents among nodes
pub equivalent_listed : (ns : List Node) (year : ℕ) (name : Name) → Contains ns (node.Equiv name year) → has_equivalent ns year name ≡ true
equivalent_listed ns year name c = node_there (node.Equiv name year) ns (listed ns (node.Equiv name year) c)

pub listed_equivalent : (ns : List Node) (year : ℕ) (name : Name) → has_equivalent ns year name ≡ true → Contains ns (node.Equiv name year)
listed_equivalent ns year name e =
    let found = from_any (eq_by_cmp node_cmp (node.Equiv name year)) ns e in
    contained ns (node.Equiv name year) (subst (λ k. IsListed k ns) (sym ((node_decides (node.Equiv name year) found.0).0 found.2)) found.1)

pub equivalent_not_listed : (ns : List Node) (year : ℕ) (name : Name) → (Contains ns (node.Equiv name year) → ⊥) → has_equivalent ns year name ≡ false
equivalent_not_listed ns year name never = never_so (has_equivalent ns year name) (λ e. never (listed_equivalent ns year name e))

-- one node more
more_nodes : (ns : List Node) (n : Node) (year : ℕ) (name : Name) → has_equivalent (ns ++ n ∷ []) year name ≡ (has_equivalent ns year name || eq_by_cmp node_cmp (node.Equiv name year) n)
more_nodes ns n year name = list_any-append (eq_by_cmp node_cmp (node.Equiv name year)) ns (n ∷ []) ∙ ap (λ b. has_equivalent ns year name || b) (or_false (eq_by_cmp node_cmp (node.Equiv name year) n))

same_equivalent : (name other : Name) (year y : ℕ) → eq_by_cmp node_cmp (node.Equiv other y) (node.Equiv name year) ≡ ((year == y) && bytes_eq name other)
same_equivalent name other year y = same_truth _ _
    (λ e. let same = (node_decides (node.Equiv other y) (node.Equiv name year)).0 e in
    both _ _ (eq-eqb year y (sym (ap year_in same))) ((bytes_decides name other).1 (sym (ap name_of same))))
    (λ e. (node_decides (node.Equiv other y) (node.Equiv name year)).1
    (ap₂ (λ (k : Name) (z : ℕ). node.Equiv k z) (sym ((bytes_decides name other).0 (second_so (year == y) _ e))) (sym (eqb-true year y (first_so (year == y) _ e)))))

-- one key more
more_keys : (keys : List RecordKey) (k : RecordKey) (name : Name) → is_edited (keys ++ k ∷ []) name ≡ (is_edited keys name || eq_by_cmp key_cmp (key.Line name) k)
more_keys keys k name = list_any-append (eq_by_cmp key_cmp (key.Line name)) keys (k ∷ []) ∙ ap (λ b. is_edited keys name || b) (or_false (eq_by_cmp key_cmp (key.Line name) k))

same_line : (name other : Name) → eq_by_cmp key_cmp (key.Line other) (key.Line name) ≡ bytes_eq name other
same_line name other = same_truth _ _
    (λ e. (bytes_decides name other).1 (sym (ap first_name (keys_same (key.Line other) (key.Line name) (equal_by _ e)))))
    (λ e. ap (λ k. eq_by_cmp key_cmp (key.Line other) (key.Line k)) ((bytes_decides name other).0 e) ∙ ap is_eq (tied_itself keys_total (key.Line other)))

-- all that is in a list with one node more
added : (ns given : List Node) (n : Node) → ((k : Node) → Contains ns k → Contains given k) → Contains given n → (k : Node) → Contains (ns ++ n ∷ []) k → Contains given k
added ns given n all one k c = elim (in_either k ns (n ∷ []) (listed (ns ++ n ∷ []) k c)) [
  | inl i ↦ all k (contained ns k i)
  | inr i ↦ elim i [ inl e ↦ subst (λ x. Contains given x) (sym e) one | inr none ↦ absurd none ]
]

-- ---- where a line stands

-- a line that emits a gas stands at its category
pub emitted_is : (m : Data) (name : Name) → emits m name ≡ true → emitted_at m name ≡ category m name
emitted_is m name e = by (line_gas m name) e
  where
    by : (o : Option Gas) → is_some o ≡ true → option_and_then (λ gas. category m name) o ≡ category m name
    by None e = absurd (true_not_false (sym e))
    by (Some gas) e = refl

-- one that stands somewhere emits a gas
emits_there : (m : Data) (name : Name) (leaf : Category) → emitted_at m name ≡ Some leaf → emits m name ≡ true
emits_there m name leaf e = by (line_gas m name) e
  where
    by : (o : Option Gas) → option_and_then (λ gas. category m name) o ≡ Some leaf → is_some o ≡ true
    by None e = absurd (cc)
    by (Some gas) e = refl

-- the equivalents that a total counts are its inputs
input_of_total : (m : Data) (top : Option Category) (year : ℕ) → is_node m (total_at top year) ≡ true → (name : Name) → emits m name ≡ true → is_counted top m name ≡ true
    → IsInput (sheet_of m) (node.Equiv name year) (total_at top year)
input_of_total m None year there name e at = record {
  node = there;
  among = contained (map (λ k. node.Equiv k year) (gas_lines_at (counts_in None) m)) (node.Equiv name year) (listed_map (λ k. node.Equiv k year) name (gas_lines_at (counts_in None) m) (listed_at (counts_in None) m name e at));
}
input_of_total m (Some c) year there name e at = record {
  node = there;
  among = contained (map (λ k. node.Equiv k year) (gas_lines_at (counts_in (Some c)) m)) (node.Equiv name year)
      (listed_map (λ k. node.Equiv k year) name (gas_lines_at (counts_in (Some c)) m) (listed_at (counts_in (Some c)) m name e at));
}

module _ (old new : Data) (keys : List RecordKey) (given : List Node) (edit : IsEdit old new keys given) where
  -- a line that is not edited has the record that it had
  same_record : (name : Name) → is_edited keys name ≡ false → get old (key.Line name) ≡ get new (key.Line name)
  same_record name off = edit.others (key.Line name) (λ c. true_not_false (sym (edited_listed keys name c) ∙ off))

  -- so it stands where it stood
  pub stood_there : (name : Name) → is_edited keys name ≡ false → emitted_at old name ≡ emitted_at new name
  stood_there name off = ap (λ r. option_and_then (λ gas. as_category r) (option_and_then (λ e. gas_of (output e)) (as_line r))) (same_record name off)

  pub are_moved : (year : ℕ) → AreMoved old new year (λ name. is_edited keys name || has_equivalent given year name)
  are_moved year = record {
    others = λ name off. same_record name (or_parts _ _ off).0;
    unaffected = λ name off a. true_not_false (sym (equivalent_listed given year name (edit.affected (node.Equiv name year) a)) ∙ (or_parts _ _ off).1);
  }

  -- an equivalent that is not given gives what it gave
  pub gives_still : (year : ℕ) (name : Name) (stands : Option Category) (kept : Input) → is_year_of (span new) year ≡ true → has_equivalent given year name ≡ false → stands ≡ emitted_at new name
      → kept ≡ input_at (compilation old) (node.Equiv name year) → (leaf : Category) → stands ≡ Some leaf → Ok kept ≡ or_blank (compilation new (node.Equiv name year))
  gives_still year name stands kept on off at was leaf is =
      let there : is_node new (node.Equiv name year) ≡ true = both (emits new name) _ (emits_there new name leaf (sym at ∙ is)) on in
      let same = unaffected_keep old new edit.change.workbook edit.change.before edit.change.after (node.Equiv name year) there
      (λ a. true_not_false (sym (equivalent_listed given year name (edit.affected (node.Equiv name year) a)) ∙ off)) in
      ap Ok was ∙ by (compilation old (node.Equiv name year)) ((overflows_break old edit.change.before edit.change.fits).fits (node.Equiv name year)) ∙ ap or_blank same.outcome
    where
      by : (o : Option Outcome) → ((over : Over) → o ≡ Some (Err over) → ⊥) → Ok (or_nothing (value_of o)) ≡ or_blank o
      by None fits = refl
      by (Some (Ok x)) fits = refl
      by (Some (Err over)) fits = absurd (fits over refl)

  -- ---- notes

  pub notes_have_room : (gone come : ℕ → Name → Bool) (shifts : Shifts) → AreNoted old new gone come shifts → (year : ℕ) → is_year_of (span new) year ≡ true
      → (leaf : Category) → HasRoom (shift_at shifts year leaf)
  notes_have_room gone come shifts are year on leaf = subst HasRoom (sym (are.each year on leaf))
      (shifts_have_room old new edit.was edit.change.before edit.change.workbook edit.change.after (gone year) (come year) year leaf)

  -- tests that agree in the years of the new data
  pub alike : (gone come others more : ℕ → Name → Bool) (shifts : Shifts)
      → ((year : ℕ) → is_year_of (span new) year ≡ true → (name : Name) → gone year name ≡ others year name)
      → ((year : ℕ) → is_year_of (span new) year ≡ true → (name : Name) → come year name ≡ more year name)
      → AreNoted old new gone come shifts → AreNoted old new others more shifts
  alike gone come others more shifts a b are = record {
    each = λ year on leaf. are.each year on leaf ∙ nodes_are_noted old new edit.change.before edit.change.after (gone year) (come year) (others year) (more year) year leaf
        (λ name n at. a year on name) (λ name n at. b year on name);
  }

  -- ---- edited lines, before the first node is evaluated

  pub none_edited : (shifts : Shifts) → AreNoted old new (λ year. no_line) (λ year. no_line) shifts → AreNotedBefore old new [] given [] shifts
  none_edited shifts are = record { noted = alike (λ year. no_line) (λ year. no_line) (is_gone [] []) (has_come [] given []) shifts (λ year on name. refl) (λ year on name. refl) are; among = λ n c. absurd (listed [] n c) }

  -- a key of no line
  pub other_key : (some : List RecordKey) (k : RecordKey) (shifts : Shifts) → line_name k ≡ None → AreNotedBefore old new some given [] shifts → AreNotedBefore old new (some ++ k ∷ []) given [] shifts
  other_key some k shifts none are = record {
    noted = alike (is_gone some []) (has_come some given []) (is_gone (some ++ k ∷ []) []) (has_come (some ++ k ∷ []) given []) shifts
        (λ year on name. ap (λ b. b || false) (same name)) (λ year on name. ap (λ b. (b && not (has_equivalent given year name)) || false) (same name)) are.noted;
    among = are.among;
  }
    where
      no_name : (name : Name) → key.Line name ≡ k → ⊥
      no_name name e = let f : ◌≡◌ {A = Option Name} (Some name) None = ap line_name e ∙ none in cc

      same : (name : Name) → is_edited some name ≡ is_edited (some ++ k ∷ []) name
      same name = sym (more_keys some k name ∙ ap (λ b. is_edited some name || b) (never_so (eq_by_cmp key_cmp (key.Line name) k) (λ e. no_name name (keys_same (key.Line name) k (equal_by _ e)))) ∙ or_false (is_edited some name))

  module _ (some : List RecordKey) (name : Name) where
    abbrev until : ℕ → ℕ → Name → Bool
    until end = is_gone_until some name end

    abbrev until_come : ℕ → ℕ → Name → Bool
    until_come end year other = is_gone_until some name end year other && not (has_equivalent given year other)

    -- before the first year of the line
    pub line_begun : (first : ℕ) (shifts : Shifts) → ((year : ℕ) → is_year_of (span new) year ≡ true → first ≤ year) → AreNotedBefore old new some given [] shifts → AreNotedUntil old new some given name first shifts
    line_begun first shifts least are = record {
      noted = alike (is_gone some []) (has_come some given []) (until first) (until_come first) shifts
          (λ year on other. ap (λ b. is_edited some other || b) (sym (not_yet year on other)))
          (λ year on other. or_false (is_edited some other && not (has_equivalent given year other)) ∙ ap (λ b. b && not (has_equivalent given year other)) (sym (or_false (is_edited some other)) ∙ ap (λ b. is_edited some other || b) (sym (not_yet year on other)))) are.noted;
    }
      where
        not_yet : (year : ℕ) → is_year_of (span new) year ≡ true → (other : Name) → (bytes_eq name other && nat_lt year first) ≡ false
        not_yet year on other = ap (λ b. bytes_eq name other && b) (never_so (nat_lt year first) (λ e. let below = ltb-true year first e in let le = least year on in omega (arith, below, le))) ∙ and_false (bytes_eq name other)

    -- behind its last
    pub line_ended : (end : ℕ) (shifts : Shifts) → ((year : ℕ) → is_year_of (span new) year ≡ true → year < end) → AreNotedUntil old new some given name end shifts
        → AreNotedBefore old new (some ++ key.Line name ∷ []) given [] shifts
    line_ended end shifts most are = record {
      noted = alike (until end) (until_come end) (is_gone (some ++ key.Line name ∷ []) []) (has_come (some ++ key.Line name ∷ []) given []) shifts
          (λ year on other. all_years year on other ∙ sym (or_false _))
          (λ year on other. ap (λ b. b && not (has_equivalent given year other)) (all_years year on other) ∙ sym (or_false _)) are.noted;
      among = λ n c. absurd (listed [] n c);
    }
      where
        all_years : (year : ℕ) → is_year_of (span new) year ≡ true → (other : Name) → until end year other ≡ is_edited (some ++ key.Line name ∷ []) other
        all_years year on other = ap (λ b. is_edited some other || (bytes_eq name other && b)) (lt-ltb year end (most year on))
            ∙ ap (λ b. is_edited some other || b) (and_true (bytes_eq name other) ∙ sym (same_line name other)) ∙ sym (more_keys some (key.Line name) other)

    module _ (end : ℕ) (off : is_edited some name ≡ false) where
      -- the line is not yet noted in the year
      pub line_not_gone : until end end name ≡ false
      line_not_gone = ap₂ (λ a b. a || (bytes_eq name name && b)) off (never_so (nat_lt end end) (λ e. let below = ltb-true end end e in omega (arith, below))) ∙ and_false (bytes_eq name name)

      pub line_not_come : until_come end end name ≡ false
      line_not_come = ap (λ b. b && not (has_equivalent given end name)) line_not_gone

    -- one year more
    later : (end year : ℕ) (other : Name) → cond (end == year) (bytes_eq name other || until end year other) (until end year other) ≡ until (end + 1) year other
    later end year other = later_so (end == year) (bytes_eq name other) (is_edited some other) (nat_lt year end)
        ∙ ap (λ b. is_edited some other || (bytes_eq name other && b)) (sym (lt_more year end))

    later_gone : (end year : ℕ) (other : Name) → with_line_in end name (until end) year other ≡ until (end + 1) year other
    later_gone end year other = pushed (end == year) (with_line name (until end year)) (until end year) other ∙ later end year other

    in_the_year : (end year : ℕ) (other : Name) → (end == year) ≡ true → bytes_eq name other ≡ true → has_equivalent given year other ≡ has_equivalent given end name
    in_the_year end year other e f = ap₂ (has_equivalent given) (sym (eqb-true end year e)) (sym ((bytes_decides name other).0 f))

    -- the year in which its equivalent is given
    pub line_went_on : (end : ℕ) (shifts : Shifts) → has_equivalent given end name ≡ true → AreNoted old new (with_line_in end name (until end)) (until_come end) shifts → AreNotedUntil old new some given name (end + 1) shifts
    line_went_on end shifts is are = record {
      noted = alike (with_line_in end name (until end)) (until_come end) (until (end + 1)) (until_come (end + 1)) shifts
          (λ year on other. later_gone end year other)
          (λ year on other. came_given (end == year) (bytes_eq name other) (until end year other) (has_equivalent given year other) (λ e f. in_the_year end year other e f ∙ is)
          ∙ ap (λ b. b && not (has_equivalent given year other)) (later end year other)) are;
    }

    -- one in which it is not, and gives what it gave
    pub line_came_on : (end : ℕ) (shifts : Shifts) → has_equivalent given end name ≡ false → AreNoted old new (with_line_in end name (until end)) (with_line_in end name (until_come end)) shifts
        → AreNotedUntil old new some given name (end + 1) shifts
    line_came_on end shifts off are = record {
      noted = alike (with_line_in end name (until end)) (with_line_in end name (until_come end)) (until (end + 1)) (until_come (end + 1)) shifts
          (λ year on other. later_gone end year other)
          (λ year on other. pushed (end == year) (with_line name (until_come end year)) (until_come end year) other
          ∙ came_kept (end == year) (bytes_eq name other) (until end year other) (has_equivalent given year other) (λ e f. in_the_year end year other e f ∙ off)
          ∙ ap (λ b. b && not (has_equivalent given year other)) (later end year other)) are;
    }

  -- ---- nodes that are evaluated

  module _ (done : List Node) (shifts : Shifts) (are : AreNotedBefore old new keys given done shifts) where
    -- a line's value or a total, of which nothing is noted
    pub other_node : (n : Node) → Contains given n → ((name : Name) (year : ℕ) → n ≡ node.Equiv name year → ⊥) → AreNotedBefore old new keys given (done ++ n ∷ []) shifts
    other_node n is never = record {
      noted = alike (is_gone keys done) (has_come keys given done) (is_gone keys (done ++ n ∷ [])) (has_come keys given (done ++ n ∷ [])) shifts
          (λ year on name. ap (λ b. is_edited keys name || b) (same year name))
          (λ year on name. ap (λ b. (is_edited keys name && not (has_equivalent given year name)) || b) (same year name)) are.noted;
      among = added done given n are.among is;
    }
      where
        same : (year : ℕ) (name : Name) → has_equivalent done year name ≡ has_equivalent (done ++ n ∷ []) year name
        same year name = sym (more_nodes done n year name ∙ ap (λ b. has_equivalent done year name || b)
            (never_so (eq_by_cmp node_cmp (node.Equiv name year) n) (λ e. never name year (sym ((node_decides (node.Equiv name year) n).0 e)))) ∙ or_false (has_equivalent done year name))

    -- before a total all of its inputs that are given are done
    pub shifts_are : (top : Option Category) (year : ℕ) → is_node new (total_at top year) ≡ true → ((k : Node) → IsInput (sheet_of new) k (total_at top year) → Contains given k → Contains done k)
        → AreShifts old new year top shifts
    shifts_are top year there inputs = total_is_noted old new edit.change.before edit.change.after (is_gone keys done) (has_come keys given done) shifts are.noted
        year (λ name. is_edited keys name || has_equivalent given year name) (are_moved year) top on gone_are come_are
      where
        on : is_year_of (span new) year ≡ true
        on = year_of_total new top year there

        among : (name : Name) → has_equivalent done year name ≡ true → has_equivalent given year name ≡ true
        among name e = equivalent_listed given year name (are.among (node.Equiv name year) (listed_equivalent done year name e))

        -- where it is an input
        done_where_given : (name : Name) → emits new name ≡ true → is_counted top new name ≡ true → has_equivalent done year name ≡ has_equivalent given year name
        done_where_given name e at = same_truth _ _ (among name) (λ g. equivalent_listed done year name
            (inputs (node.Equiv name year) (input_of_total new top year there name e at) (listed_equivalent given year name g)))

        gone_are : (name : Name) → is_node old (node.Equiv name year) ≡ true → is_counted top old name ≡ true → is_gone keys done year name ≡ (is_edited keys name || has_equivalent given year name)
        gone_are name n at = elim (or_else (is_edited keys name)) [
          | inl edited ↦ ap (λ b. b || has_equivalent done year name) edited ∙ sym (ap (λ b. b || has_equivalent given year name) edited)
          | inr off ↦
              let same = same_record name off in
              ap (λ b. is_edited keys name || b) (done_where_given name
              (ap (λ r. is_some (option_and_then (λ e. gas_of (output e)) (as_line r))) (sym same) ∙ first_so (emits old name) _ n)
              (ap (λ r. option_map_or (counts_in top) (as_category r) false) (sym same) ∙ at))
        ]

        come_are : (name : Name) → is_node new (node.Equiv name year) ≡ true → is_counted top new name ≡ true → has_come keys given done year name ≡ (is_edited keys name || has_equivalent given year name)
        come_are name n at = ap (λ b. (is_edited keys name && not (has_equivalent given year name)) || b) (done_where_given name (first_so (emits new name) _ n) at)
            ∙ rest_so (is_edited keys name) (has_equivalent given year name)

    module _ (name : Name) (year : ℕ) (is : Contains given (node.Equiv name year)) where
      -- an equivalent that is not yet done
      module _ (first : Contains done (node.Equiv name year) → ⊥) where
        pub equivalent_not_come : has_come keys given done year name ≡ false
        equivalent_not_come = ap₂ (λ a b. (is_edited keys name && not a) || b) (equivalent_listed given year name is) (equivalent_not_listed done year name first)
            ∙ or_false (is_edited keys name && false) ∙ and_false (is_edited keys name)

        pub equivalent_not_gone : is_edited keys name ≡ false → is_gone keys done year name ≡ false
        equivalent_not_gone off = ap₂ (λ a b. a || b) off (equivalent_not_listed done year name first)

      one_done : (test : Name → ℕ → Bool) (y : ℕ) (other : Name) → with_line_in year name (λ z k. test k z || has_equivalent done z k) y other ≡ (test other y || has_equivalent (done ++ node.Equiv name year ∷ []) y other)
      one_done test y other = pushed (year == y) (with_line name (λ k. test k y || has_equivalent done y k)) (λ k. test k y || has_equivalent done y k) other
          ∙ merged (year == y) (bytes_eq name other) (test other y) (has_equivalent done y other)
          ∙ ap (λ b. test other y || b) (ap (λ b. has_equivalent done y other || b) (sym (same_equivalent name other year y)) ∙ sym (more_nodes done (node.Equiv name year) y other))

      -- it is noted as come, and as gone
      pub equivalent_done : (after : Shifts) → AreNoted old new (with_line_in year name (is_gone keys done)) (with_line_in year name (has_come keys given done)) after
          → AreNotedBefore old new keys given (done ++ node.Equiv name year ∷ []) after
      equivalent_done after noted = record {
        noted = alike (with_line_in year name (is_gone keys done)) (with_line_in year name (has_come keys given done)) (is_gone keys (done ++ node.Equiv name year ∷ [])) (has_come keys given (done ++ node.Equiv name year ∷ [])) after
            (λ y on other. one_done (λ k z. is_edited keys k) y other)
            (λ y on other. one_done (λ k z. is_edited keys k && not (has_equivalent given z k)) y other) noted;
        among = added done given (node.Equiv name year) are.among is;
      }

      -- it is noted as come; its line is edited, so it is gone already
      pub edited_done : is_edited keys name ≡ true → (after : Shifts) → AreNoted old new (is_gone keys done) (with_line_in year name (has_come keys given done)) after
          → AreNotedBefore old new keys given (done ++ node.Equiv name year ∷ []) after
      edited_done edited after noted = record {
        noted = alike (is_gone keys done) (with_line_in year name (has_come keys given done)) (is_gone keys (done ++ node.Equiv name year ∷ [])) (has_come keys given (done ++ node.Equiv name year ∷ [])) after
            (λ y on other. merged_there (year == y) (bytes_eq name other) (is_edited keys other) (has_equivalent done y other) (λ e. ap (is_edited keys) (sym ((bytes_decides name other).0 e)) ∙ edited)
            ∙ ap (λ b. is_edited keys other || b) (ap (λ b. has_equivalent done y other || b) (sym (same_equivalent name other year y)) ∙ sym (more_nodes done (node.Equiv name year) y other)))
            (λ y on other. one_done (λ k z. is_edited keys k && not (has_equivalent given z k)) y other) noted;
        among = added done given (node.Equiv name year) are.among is;
      }

-- ---- nodes in turn

behind : {Source : Type 0} (sheet : Sheet Source) (done rest : List Node) → IsInTurn sheet (done ++ rest) → IsInTurn sheet rest
behind sheet [] rest turn = turn
behind sheet (n ∷ done) rest turn = behind sheet done rest turn.2

-- of nodes in turn those that are inputs of one stand before it
pub inputs_before : (m : Data) (done : List Node) (n : Node) (rest : List Node) → IsInTurn (sheet_of m) (done ++ n ∷ rest)
    → (k : Node) → IsInput (sheet_of m) k n → Contains (done ++ n ∷ rest) k → Contains done k
inputs_before m done n rest turn k input c = elim (in_either k done (n ∷ rest) (listed (done ++ n ∷ rest) k c)) [
  | inl i ↦ contained done k i
  | inr i ↦ absurd ((behind (sheet_of m) done (n ∷ rest) turn).1 k input (contained (n ∷ rest) k i))
]

pub totals_have_shifts : TotalsHaveShifts
totals_have_shifts old new keys given done shifts edit are top year there inputs = shifts_are old new keys given edit done shifts are top year there inputs
