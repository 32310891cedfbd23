-- The list of nodes has all nodes and no other; so have those of years, lines and categories.
use Rattle.std.proofs.Common.{◌≡◌, inl, inr, ℕ, zero, suc, ◌+◌, ◌-◌, ◌<◌, ◌≤◌, true, nat_le, eq-or-lt_of_le, le-leb, leb-true, List, [], ◌++◌, map, is_some, is_eq, Contains, Option, Some, None, Decides, option_and_then, refl, sym, ap, ◌∙◌, subst, arith}
use Rattle.std.specs.Ordering.{eq_by_cmp}
use Rattle.std.specs.Cmp.Lexicographic.{bytes_decides}
use Rattle.std.specs.FinMap.{contains_key-keys, get, keys}
use Rattle.std.proofs.lemmas.Cmp.{tied_itself}
use Rattle.std.proofs.lemmas.Option.{same_Some}
use Rattle.ghg_categories.specs.declared.category.Category.{Category}
use Rattle.ghg_categories.specs.Tree.{code_of, is_same, named_in, tree}
use Rattle.ghg_categories.proofs.Table.{named_by_code}
use Rattle.ghg_equations.specs.declared.eq_id.EqId.{EqId}
use Rattle.ghg_equations.specs.Quantity.{gas_of}
use Rattle.ghg_equations.specs.Table.{output}
use Rattle.ghg_units.specs.declared.node.Node.{Node}
use Rattle.ghg_units.specs.declared.node.Node.TheVariants as node
use Rattle.ghg_units.specs.declared.row.Span.{Span}
use Rattle.ghg_definitions.specs.declared.record.Record.{Record}
use Rattle.ghg_definitions.specs.declared.record.Record.TheVariants as entry
use Rattle.ghg_definitions.specs.declared.record.RecordKey.{RecordKey}
use Rattle.ghg_definitions.specs.declared.record.RecordKey.TheVariants as key
use Rattle.ghg_definitions.specs.Compilation.{emits, gas_lines, in_years, is_in_tree, is_node, is_year_of, nodes, years_from, years_of}
use Rattle.ghg_definitions.specs.Data.{Data, Name, as_line, key_cmp, line, line_name, line_names, span}
use Rattle.ghg_definitions.specs.Sound.{IsRecord}
use Rattle.ghg_definitions.proofs.Alike.{both, first_so, second_so}
use Rattle.ghg_definitions.proofs.Grounded.{line_listed}
use Rattle.ghg_definitions.proofs.Keys.{keys_total}
use Rattle.ghg_definitions.specs.Listed.{IsListed}
use Rattle.ghg_definitions.proofs.Listed.{contained, from_any, from_filter, from_filter_map, from_flat, from_map, in_either, listed, listed_any, listed_filter, listed_flat, listed_left, listed_map, listed_right}

-- ---- years

pub from_years : (first count year : ℕ) → IsListed year (years_from first count) → (first ≤ year) × (year < first + count)
from_years first zero year h = absurd h
from_years first (suc count) year (inl e) = (omega (arith, e), omega (arith, e))
from_years first (suc count) year (inr h) = let rest = from_years (first + 1) count year h in (omega (arith, rest.0), omega (arith, rest.1))

in_years_from : (first count year : ℕ) → first ≤ year → year < first + count → IsListed year (years_from first count)
in_years_from first zero year h k = absurd (omega arith)
in_years_from first (suc count) year h k = elim (eq-or-lt_of_le h) [ inl e ↦ inl (sym e) | inr l ↦ inr (in_years_from (first + 1) count year (omega arith) (omega arith)) ]

-- the years of a span are those that pass
pub years_are : (s : Option Span) (year : ℕ) → Decides (is_year_of s year) (Contains (years_of s) year)
years_are None year = (λ e. absurd (cc), λ c. absurd (listed [] year c))
years_are (Some s) year = (
  λ e. contained _ year (in_years_from s.first (s.last + 1 - s.first) year (leb-true _ _ (first_so _ _ e)) (let le : year ≤ s.last = leb-true _ _ (second_so (nat_le s.first year) _ e) in omega arith)),
  λ c. let h = from_years s.first (s.last + 1 - s.first) year (listed _ year c) in both _ _ (le-leb _ _ h.0) (le-leb _ _ (omega (arith, h.0, h.1))),
)

-- ---- categories

pub category_same : (c d : Category) → Decides (is_same c d) (c ≡ d)
category_same c d = (
  λ e. let same : code_of c ≡ code_of d = (bytes_decides (code_of c) (code_of d)).0 e in same_Some _ _ (sym (named_by_code c) ∙ ap named_in same ∙ named_by_code d),
  λ e. (bytes_decides (code_of c) (code_of d)).1 (ap code_of e),
)

-- the categories of the tree are those that pass
pub tree_is : (c : Category) → Decides (is_in_tree c) (Contains tree c)
tree_is c = (
  λ e. let found = from_any (is_same c) tree e in contained tree c (subst (λ d. IsListed d tree) (sym ((category_same c found.0).0 found.2)) found.1),
  λ i. listed_any (is_same c) c tree (listed tree c i) ((category_same c c).1 refl),
)

-- ---- lines

-- each record is one that a well formed row puts under its key
abbrev pub AreRecords : Data → Type 0
AreRecords m = (k : RecordKey) (r : Record) → get m k ≡ Some r → IsRecord k r

pub named_line : (k : RecordKey) (name : Name) → line_name k ≡ Some name → k ≡ key.Line name
named_line key.Span name e = absurd (cc)
named_line (key.Activity other year) name e = absurd (cc)
named_line (key.Factor other start) name e = absurd (cc)
named_line (key.Line other) name e = ap key.Line (same_Some _ _ e)
named_line (key.Bind other parameter) name e = absurd (cc)
named_line (key.Uncert other) name e = absurd (cc)

is_line : (name : Name) (r : Record) → IsRecord (key.Line name) r → is_some (as_line (Some r)) ≡ true
is_line name (entry.Span s) h = absurd h
is_line name (entry.Activity f) h = absurd h
is_line name (entry.Factor f) h = absurd h
is_line name (entry.Line c e) h = refl
is_line name (entry.Bind b) h = absurd h
is_line name (entry.Uncert a f) h = absurd h

-- each name of a line is that of a record
pub record_there : (m : Data) (name : Name) → IsListed name (line_names m) → is_some (get m (key.Line name)) ≡ true
record_there m name h =
    let found = from_filter_map line_name name (keys m) h in
    contains_key-keys m (key.Line name) ∙ listed_any (eq_by_cmp key_cmp (key.Line name)) (key.Line name) (keys m) (subst (λ k. IsListed k (keys m)) (named_line found.0 name found.2) found.1) (ap is_eq (tied_itself keys_total (key.Line name)))

line_there : (m : Data) → AreRecords m → (name : Name) → IsListed name (line_names m) → is_some (line m name) ≡ true
line_there m records name h = by (get m (key.Line name)) refl (record_there m name h)
  where
    by : (o : Option Record) → get m (key.Line name) ≡ o → is_some o ≡ true → is_some (line m name) ≡ true
    by None e there = absurd (cc)
    by (Some r) e there = ap (λ o. is_some (as_line o)) e ∙ is_line name r (records (key.Line name) r e)

-- the names of the lines are those of lines that are present
pub lines_are : (m : Data) → AreRecords m → (name : Name) → Decides (is_some (line m name)) (Contains (line_names m) name)
lines_are m records name = (λ e. contained _ name (line_listed m name e), λ c. line_there m records name (listed _ name c))

pub emitting : (m : Data) (name : Name) → emits m name ≡ true → is_some (line m name) ≡ true
emitting m name e = by (line m name) e
  where
    by : (o : Option EqId) → is_some (option_and_then (λ q. gas_of (output q)) o) ≡ true → is_some o ≡ true
    by None f = f
    by (Some q) f = refl

-- the lines that emit a gas are those that pass
pub gas_lines_are : (m : Data) (name : Name) → Decides (emits m name) (Contains (gas_lines m) name)
gas_lines_are m name = (
  λ e. contained _ name (listed_filter (emits m) name (line_names m) (line_listed m name (emitting m name e)) e),
  λ c. (from_filter (emits m) name (line_names m) (listed _ name c)).1,
)

-- ---- nodes

module _ {A : Type 0} (to : A → ℕ → Node) (years : List ℕ) (xs : List A) where
  in_each : (x : A) (year : ℕ) → IsListed x xs → IsListed year years → IsListed (to x year) (in_years to years xs)
  in_each x year h i = listed_flat (λ x. map (to x) years) x (to x year) xs h (listed_map (to x) year years i)

  pub from_each : (n : Node) → IsListed n (in_years to years xs) → (x : A) × (year : ℕ) × IsListed x xs × IsListed year years × (n ≡ to x year)
  from_each n h =
      let at = from_flat (λ x. map (to x) years) n xs h in
      let when = from_map (to at.0) n years at.2 in
      (at.0, when.0, at.1, when.1, when.2)

module _ (m : Data) where
  abbrev lines : List Node
  lines = in_years node.Line (years_of (span m)) (line_names m)

  abbrev equivalents : List Node
  equivalents = in_years node.Equiv (years_of (span m)) (gas_lines m)

  abbrev totals : List Node
  totals = in_years node.Total (years_of (span m)) tree

  abbrev grosses : List Node
  grosses = map node.Gross (years_of (span m))

  year_in_span : (year : ℕ) → is_year_of (span m) year ≡ true → IsListed year (years_of (span m))
  year_in_span year e = listed _ year ((years_are (span m) year).0 e)

  year_passes : (year : ℕ) → IsListed year (years_of (span m)) → is_year_of (span m) year ≡ true
  year_passes year h = (years_are (span m) year).1 (contained _ year h)

  node_listed : (n : Node) → is_node m n ≡ true → IsListed n (nodes m)
  node_listed (node.Line name year) e = listed_left _ (lines ++ equivalents ++ totals) grosses (listed_left _ (lines ++ equivalents) totals (listed_left _ lines equivalents
      (in_each node.Line _ (line_names m) name year (line_listed m name (first_so _ _ e)) (year_in_span year (second_so (is_some (line m name)) _ e)))))
  node_listed (node.Equiv name year) e = listed_left _ (lines ++ equivalents ++ totals) grosses (listed_left _ (lines ++ equivalents) totals (listed_right _ lines equivalents
      (in_each node.Equiv _ (gas_lines m) name year (listed _ name ((gas_lines_are m name).0 (first_so _ _ e))) (year_in_span year (second_so (emits m name) _ e)))))
  node_listed (node.Total c year) e = listed_left _ (lines ++ equivalents ++ totals) grosses (listed_right _ (lines ++ equivalents) totals
      (in_each node.Total _ tree c year (listed tree c ((tree_is c).0 (first_so _ _ e))) (year_in_span year (second_so (is_in_tree c) _ e))))
  node_listed (node.Gross year) e = listed_right _ (lines ++ equivalents ++ totals) grosses (listed_map node.Gross year _ (year_in_span year e))

  -- each node is in the list
  pub nodes_listed : (n : Node) → is_node m n ≡ true → Contains (nodes m) n
  nodes_listed n e = contained (nodes m) n (node_listed n e)

  module _ (records : AreRecords m) where
    line_passes : (n : Node) → IsListed n lines → is_node m n ≡ true
    line_passes n h =
        let at = from_each node.Line (years_of (span m)) (line_names m) n h in
        subst (λ k. is_node m k ≡ true) (sym at.4) (both _ _ (line_there m records at.0 at.2) (year_passes at.1 at.3))

    equivalent_passes : (n : Node) → IsListed n equivalents → is_node m n ≡ true
    equivalent_passes n h =
        let at = from_each node.Equiv (years_of (span m)) (gas_lines m) n h in
        subst (λ k. is_node m k ≡ true) (sym at.4) (both _ _ ((gas_lines_are m at.0).1 (contained _ at.0 at.2)) (year_passes at.1 at.3))

    total_passes : (n : Node) → IsListed n totals → is_node m n ≡ true
    total_passes n h =
        let at = from_each node.Total (years_of (span m)) tree n h in
        subst (λ k. is_node m k ≡ true) (sym at.4) (both _ _ ((tree_is at.0).1 (contained tree at.0 at.2)) (year_passes at.1 at.3))

    gross_passes : (n : Node) → IsListed n grosses → is_node m n ≡ true
    gross_passes n h =
        let at = from_map node.Gross n (years_of (span m)) h in
        subst (λ k. is_node m k ≡ true) (sym at.2) (year_passes at.0 at.1)

    node_passes : (n : Node) → IsListed n (nodes m) → is_node m n ≡ true
    node_passes n h = elim (in_either n (lines ++ equivalents ++ totals) grosses h) [
      | inr i ↦ gross_passes n i
      | inl i ↦ elim (in_either n (lines ++ equivalents) totals i) [
        | inr j ↦ total_passes n j
        | inl j ↦ elim (in_either n lines equivalents j) [ inl k ↦ line_passes n k | inr k ↦ equivalent_passes n k ]
      ]
    ]

    -- the list of nodes has the nodes and no other
    pub nodes_are : (n : Node) → Decides (is_node m n) (Contains (nodes m) n)
    nodes_are n = (nodes_listed n, λ c. node_passes n (listed (nodes m) n c))
