-- Lines in the groups of their pairs.
use denote.Enum.Bare.{same_true}
use Rattle.std.proofs.Common.{◌≡◌, Bool, true, false, cond, List, [], ◌∷◌, ◌++◌, filter, if◌then◌else◌, Option, Some, Vec, Global, vec_len, refl, sym, ap, ap₂, ◌∙◌}
use Rattle.std.specs.Option.{UnwrapsOrElse, option_map_or}
use Rattle.std.specs.BTreeMap.{is_at}
use Rattle.std.specs.Map.{lookup}
use Rattle.std.specs.Ordering.{is_eq, ordering_then}
use Rattle.std.specs.declared.cmp.Ordering.{Ordering}
use Rattle.std.specs.declared.cmp.Ordering.TheVariants.{Less, Equal, Greater}
use Rattle.std.proofs.lemmas.Map.Text.{is_eq-slice_cmp}
use Rattle.std.proofs.lemmas.List.Elements.{filter-append}
use Rattle.ghg_graph.proofs.Pushed.{item_pushed, items_in}
use Rattle.ghg_categories.specs.declared.category.Category.{Category}
use Rattle.ghg_categories.specs.Tree.{code_of}
use Rattle.ghg_categories.specs.contracts.category.CategoryOrd.TheImpl as category_order
use Rattle.ghg_equations.specs.contracts.quantity.Gas.{the_type}
use Rattle.ghg_equations.specs.contracts.quantity.GasOrd.TheImpl as gas_order
use Rattle.ghg_equations.specs.contracts.quantity.GasOrd.TheImpl.Laws as gas_laws
use Rattle.ghg_equations.specs.declared.quantity.Gas.{Gas}
use Rattle.ghg_definitions.specs.Compilation.{compilation, sheet_of}
use Rattle.ghg_definitions.specs.Data.{Data, Name, line_names}
use Rattle.ghg_definitions.specs.Sound.{IsWorkbook}
use Rattle.ghg_definitions.specs.Trials.{IsCompilation}
use Rattle.ghg_definitions.proofs.NodeLists.{category_same}
use Rattle.ghg_keycat.specs.Ranking.{key_order}
use Rattle.ghg_tables.specs.declared.groups.Groups.{Groups}
use Rattle.ghg_tables.specs.Gathering.{IsGrouping, group_of}
use Rattle.ghg_tables.specs.Sums.{emission, same_pair}

-- ---- pairs that are the same are equal

both_equal : (o p : Ordering) → is_eq (ordering_then o p) ≡ true → (is_eq o ≡ true) × (is_eq p ≡ true)
both_equal Less p e = cc
both_equal Equal p e = (refl, e)
both_equal Greater p e = cc

gas_is : (a b : Gas) → is_eq ((gas_order.ghosts).cmp a b) ≡ true → a ≡ b
gas_is a b e = same_true the_type tt a b (gas_laws.matches_eq-law a b ∙ e)

category_is : (a b : Category) → is_eq ((category_order.ghosts).cmp a b) ≡ true → a ≡ b
category_is a b e = (category_same a b).0 (sym (is_eq-slice_cmp (code_of a) (code_of b)) ∙ e)

pub pair_is : (a b : Category × Gas) → same_pair a b ≡ true → a ≡ b
pair_is a b e =
    let both = both_equal ((category_order.ghosts).cmp a.0 b.0) ((gas_order.ghosts).cmp a.1 b.1) e in
    ap₂ (λ (c : Category) (g : Gas). let p : Category × Gas = (c, g) in p) (category_is a.0 b.0 both.0) (gas_is a.1 b.1 both.1)

-- ---- the lines so far

-- the name, where the test passes
abbrev pub name_if : Bool → Name → List Name
name_if b name = if b then name ∷ [] else []

abbrev pub stands_at : Data → Category × Gas → Name → Bool
stands_at m pair name = option_map_or (λ k. same_pair k pair) (emission m name) false

pub record IsGroupedSoFar (m : Data) (names : List Name) (groups : Groups) : Type 0 where
  pub so_far : (pair : Category × Gas) → group_of groups pair ≡ filter (stands_at m pair) names

one_more : (m : Data) (names : List Name) (name : Name) (at : Option (Category × Gas)) (pair : Category × Gas) → emission m name ≡ at → filter (stands_at m pair) (names ++ name ∷ []) ≡ filter (stands_at m pair) names ++ name_if (option_map_or (λ k. same_pair k pair) at false) name
one_more m names name at pair is = filter-append (stands_at m pair) names (name ∷ []) ∙ ap (λ ys. filter (stands_at m pair) names ++ ys) (ap (λ o. name_if (option_map_or (λ k. same_pair k pair) o false) name) is)

pub grouped_more : (m : Data) (names : List Name) (name : Name) (at : Category × Gas) (old new : Groups) → IsGroupedSoFar m names old → emission m name ≡ Some at →
    ((q : Category × Gas) → group_of new q ≡ group_of old q ++ name_if (same_pair at q) name) → IsGroupedSoFar m (names ++ name ∷ []) new
grouped_more m names name at old new held is groups = record {
  so_far = λ q. groups q ∙ ap (λ xs. xs ++ name_if (same_pair at q) name) (held.so_far q) ∙ sym (one_more m names name (Some at) q is);
}

pub grouped_all : (m : Data) (names : List Name) (groups : Groups) → IsGroupedSoFar m names groups → names ≡ line_names m → IsWorkbook m → IsCompilation (sheet_of m) (compilation m) → IsGrouping m groups
grouped_all m names groups held is workbook compiled = record { lines = λ q. held.so_far q ∙ ap (filter (stands_at m q)) is; workbook = workbook; compiled = compiled }

pub nothing_grouped : (m : Data) (groups : Groups) → groups.by_pair.entries ≡ [] → IsGroupedSoFar m [] groups
nothing_grouped m groups e = record { so_far = λ q. ap (λ es. items_in (lookup (is_at (key_order q)) es)) e }

-- ---- one more in the group of a pair

pub pushed : (old new : Option (Vec Name Global)) (before now : Vec Name Global) (at : Option (Vec Name Global)) (a c : Category × Gas) (name : Name) →
    new ≡ cond (is_at (key_order a) c) (Some now) old → (a ≡ c → at ≡ old) → UnwrapsOrElse at (λ x. (x.items ≡ []) × (vec_len x ≡ 0)) before → now.items ≡ before.items ++ name ∷ [] → items_in new ≡ items_in old ++ name_if (same_pair a c) name
pushed old new before now at a c name is same unwraps items =
    item_pushed old new at before now (same_pair a c) name is (λ e. same (pair_is a c e)) unwraps items
