-- Each given node has a rank above those of its given inputs: the first, or just above one of these.
use Rattle.std.proofs.Common.{◌≡◌, ◌⊎◌, ℕ, zero, suc, ◌+◌, ◌-◌, ◌<◌, ◌≤◌, Bool, true, false, is_some, leb-true, List, [], ◌∷◌, filter, length, map, Option, Some, None, refl, sym, ap, ap₂, ◌∙◌, subst, inl, inr, arith}
use Rattle.std.specs.Option.{option_map_or}
use Rattle.ghg_categories.specs.declared.category.Category.{Category}
use Rattle.ghg_categories.specs.declared.category.Category.TheVariants.{National, MB, MC, RA}
use Rattle.ghg_categories.specs.Laws.{IsUnder, itself, by_parent}
use Rattle.ghg_categories.specs.Tree.{parent_of, stands_under, tree}
use Rattle.ghg_categories.proofs.Under.{by_parents}
use Rattle.ghg_units.specs.declared.node.Node.{Node}
use Rattle.ghg_units.specs.declared.node.Node.TheVariants as node
use Rattle.ghg_units.specs.declared.row.Span.{Span}
use Rattle.ghg_definitions.specs.Compilation.{counts_in_gross, emits, first_year, gas_lines, gas_lines_at, is_in_tree, is_node, is_year_of, sheet_of}
use Rattle.ghg_definitions.specs.Data.{Data, Name, category, line, span}
use Rattle.ghg_definitions.specs.Listed.{IsListed}
use Rattle.ghg_definitions.specs.Nodes.{year_in}
use Rattle.ghg_definitions.specs.Rings.{taken}
use Rattle.ghg_definitions.specs.Trials.{IsInput}
use Rattle.ghg_definitions.proofs.Alike.{first_so, second_so}
use Rattle.ghg_definitions.proofs.Listed.{contained, from_filter, from_map, listed, listed_filter, listed_map}
use Rattle.ghg_definitions.proofs.NodeLists.{gas_lines_are, tree_is}
use Rattle.ghg_graph.specs.Links.{targets_of}
use Rattle.ghg_graph.specs.Numbers.{lines_taken, name_at}
use Rattle.ghg_graph.specs.Slots.{is_within}
use Rattle.ghg_layers.specs.declared.lines.Lines.{Lines}
use Rattle.ghg_layers.specs.declared.ranks.Ranks.{Ranks}
use Rattle.ghg_graph.specs.declared.slots.Scope.{Scope}
use Rattle.ghg_graph.specs.declared.slots.Scope.TheVariants as scope
use Rattle.ghg_layers.specs.declared.turns.Turn.{Turn}
use Rattle.ghg_layers.specs.Grids.{cell}
use Rattle.ghg_layers.specs.Lines.{AreLines}
use Rattle.ghg_layers.specs.Ranks.{AreLineRanks, AreOwn, AreRanks, last, last_before, last_of, line_rank, number_in, own_rank, rank_in, sum_rank}
use Rattle.ghg_layers.specs.Turns.{AreTurns}
use Rattle.ghg_layers.proofs.Greatest.{last_least, last_met}
use Rattle.ghg_layers.proofs.Inputs.{same, earlier, before_input, line_inputs, now_input}
use Rattle.ghg_layers.proofs.Placing.{number_found, number_listed, number_of_name}

-- ---- categories under a total

-- what has a parent is in the tree
in_tree : (c p : Category) → parent_of c ≡ Some p → is_in_tree c ≡ true
in_tree MB p e = cc
in_tree MC p e = cc
in_tree RA p e = cc
in_tree National p e = cc
in_tree _ p e = refl

under_in_tree : (c top : Category) → IsUnder c top → is_in_tree top ≡ true → is_in_tree c ≡ true
under_in_tree c _ itself e = e
under_in_tree c top (by_parent {p = p} f up) e = in_tree c p f

under_passes : (top : Category) → is_in_tree top ≡ true → (c : Category) → stands_under c top ≡ true → IsListed c tree
under_passes top e c u = listed tree c ((tree_is c).0 (under_in_tree c top ((by_parents c top).0 u) e))

gross_passes : (c : Category) → counts_in_gross c ≡ true → IsListed c tree
gross_passes c e = under_passes National refl c (first_so _ _ e)

-- a node's year is not before the first
year_after : (s : Option Span) (year : ℕ) → is_year_of s year ≡ true → first_year s ≤ year
year_after None year e = omega arith
year_after (Some s) year e = leb-true _ _ (first_so _ _ e)

pub node_year : (m : Data) (n : Node) → is_node m n ≡ true → first_year (span m) ≤ year_in n
node_year m (node.Line name year) e = year_after (span m) year (second_so (is_some (line m name)) _ e)
node_year m (node.Equiv name year) e = year_after (span m) year (second_so (emits m name) _ e)
node_year m (node.Total c year) e = year_after (span m) year (second_so (is_in_tree c) _ e)
node_year m (node.Gross year) e = year_after (span m) year e

-- ---- ranks of given nodes

module _ (m : Data) (ns : List Node) (nodes : (n : Node) → IsListed n ns → is_node m n ≡ true) (l : Lines) (lines : AreLines m l) (turns : List Turn) (r : Ranks)
    (names : r.names.items ≡ l.names.items) (are_turns : AreTurns l r.first ns turns) (ranked : AreLineRanks l turns r.lines) (own : AreOwn m ns r)
    (first : r.first ≡ first_year (span m)) (years : (n : Node) → IsListed n ns → r.first ≤ year_in n) where
  abbrev at : ℕ → Name
  at i = name_at l.names.items i

  -- the rank of a given line by its turn
  module _ (name : Name) (year : ℕ) (given : IsListed (node.Line name year) ns) where
    t : (t : Turn) × IsListed t turns × (at t.number ≡ name) × (r.first + t.year ≡ year)
    t = are_turns.all name year given

    number_here : number_in r.names.items name ≡ t.0.number
    number_here = ap (λ xs. number_in xs name) names ∙ number_of_name l.names.items lines.order t.0.number name (are_turns.each t.0 t.1).number t.2

    year_here : year - r.first ≡ t.0.year
    year_here = let e = t.3 in omega (arith, e)

    rank_here : line_rank r name year ≡ cell r.lines t.0.number t.0.year
    rank_here = ap₂ (cell r.lines) number_here year_here

    has_rank : 0 < cell r.lines t.0.number t.0.year
    has_rank = ranked.all t.0 t.1

    last_here : line_rank r name year ≡ last l r.lines t.0.number t.0.year + 1
    last_here = rank_here ∙ ranked.ranked t.0.number t.0.year has_rank

  -- what has a rank is given
  given_by : (i y : ℕ) → 0 < cell r.lines i y → IsListed (node.Line (at i) (r.first + y)) ns × (line_rank r (at i) (r.first + y) ≡ cell r.lines i y)
  given_by i y some =
      let turn = ranked.only i y some in
      let here : IsListed (node.Line (at i) (r.first + y)) ns = subst (λ j. IsListed (node.Line (at j) (r.first + y)) ns) turn.2 (subst (λ z. IsListed (node.Line (at turn.0.number) (r.first + z)) ns) turn.3 (are_turns.given turn.0 turn.1)) in
      let small = subst (λ j. j < length l.names.items) turn.2 (are_turns.each turn.0 turn.1).number in
      (here, ap₂ (cell r.lines) (ap (λ xs. number_in xs (at i)) names ∙ number_of_name l.names.items lines.order i (at i) small refl) (let e : (r.first + y) - r.first ≡ y = omega arith in e))

  abbrev Next : Node → Type 0
  Next n = (rank_in r n ≡ 1) ⊎ ((k : Node) × IsListed k ns × IsInput (sheet_of m) k n × (rank_in r n ≡ rank_in r k + 1))

  -- ---- lines

  abbrev line_input : Name → ℕ → Node → Type 0
  line_input name year k = IsInput (sheet_of m) k (node.Line name year)

  line_above : (name : Name) (year : ℕ) → IsListed (node.Line name year) ns → (k : Node) → IsListed k ns → line_input name year k → rank_in r k < line_rank r name year
  line_above name year given k k_given input = elim (line_inputs m (first_year (span m)) year name (line m name) k (listed _ k input.among)) [
    | same b i is ↦ now b i is
    | earlier b i h is ↦ before b i h is
  ]
    where
      i : ℕ
      i = (t name year given).0.number

      y : ℕ
      y = (t name year given).0.year

      within : i < length l.names.items
      within = (are_turns.each (t name year given).0 (t name year given).1).number

      named : at i ≡ name
      named = (t name year given).2

      now : (b : Name) → IsListed b (taken m name) → k ≡ node.Line b year → rank_in r k < line_rank r name year
      now b mine is =
          let given_b = subst (λ x. IsListed x ns) is k_given in
          let s = t b year given_b in
          let target = number_listed l.names.items lines.order (targets_of l.links i) _ (lines.links.targets i within) s.0.number (are_turns.each s.0 s.1).number
          (subst (λ x. IsListed (at s.0.number) (taken m x)) (sym named) (subst (λ x. IsListed x (taken m name)) (sym s.2) mine)) in
          let low = last_least (λ j. cell r.lines j y) (targets_of l.links i) s.0.number target in
          let rank_b = ap (rank_in r) is ∙ rank_here b year given_b ∙ ap (cell r.lines s.0.number) (let e = s.3 in let f = (t name year given).3 in let g : s.0.year ≡ y = omega (arith, e, f) in g) in
          let rank_n = last_here name year given in omega (arith, low, rank_b, rank_n)

      before : (b : Name) → IsListed b (lines_taken true m name) → first_year (span m) < year → k ≡ node.Line b (year - 1) → rank_in r k < line_rank r name year
      before b mine h is =
          let given_b = subst (λ x. IsListed x ns) is k_given in
          let s = t b (year - 1) given_b in
          let target = number_listed l.names.items lines.order (targets_of l.previous i) _ (lines.previous.targets i within) s.0.number (are_turns.each s.0 s.1).number
          (subst (λ x. IsListed (at s.0.number) (lines_taken true m x)) (sym named) (subst (λ x. IsListed x (lines_taken true m name)) (sym s.2) mine)) in
          let e : y ≡ suc s.0.year = (let e = s.3 in let f = (t name year given).3 in let h = h in omega (arith, e, f, h, first)) in
          let low = last_least (λ j. cell r.lines j s.0.year) (targets_of l.previous i) s.0.number target in
          let rank_b = ap (rank_in r) is ∙ rank_here b (year - 1) given_b in
          let rank_n = last_here name year given ∙ ap (λ z. last l r.lines i z + 1) e in omega (arith, low, rank_b, rank_n)

  line_next : (name : Name) (year : ℕ) → IsListed (node.Line name year) ns → Next (node.Line name year)
  line_next name year given = by (last_of r.lines (targets_of l.links i) y) (last_before l r.lines i y) refl refl
    where
      i : ℕ
      i = (t name year given).0.number

      y : ℕ
      y = (t name year given).0.year

      within : i < length l.names.items
      within = (are_turns.each (t name year given).0 (t name year given).1).number

      named : at i ≡ name
      named = (t name year given).2

      year_is : r.first + y ≡ year
      year_is = (t name year given).3

      rank_n : line_rank r name year ≡ last l r.lines i y + 1
      rank_n = last_here name year given

      now : (v w : ℕ) → last_of r.lines (targets_of l.links i) y ≡ suc v → last_before l r.lines i y ≡ w → w ≤ suc v → Next (node.Line name year)
      now v w e f h =
          let met = last_met (λ j. cell r.lines j y) (targets_of l.links i) v e in
          let j = met.0 in
          let there = given_by j y (let p = met.2 in omega (arith, p)) in
          let k_given : IsListed (node.Line (at j) year) ns = subst (λ z. IsListed (node.Line (at j) z) ns) year_is there.0 in
          let mine = subst (λ x. IsListed (at j) (taken m x)) named ((lines.links.targets i within).named j met.1) in
          let rank_k = ap (line_rank r (at j)) (sym year_is) ∙ there.1 ∙ met.2 in
          inr (node.Line (at j) year, k_given, record { node = nodes (node.Line name year) given; among = contained _ _ (now_input m (first_year (span m)) year name (line m name) (at j) mine) }, omega (arith, rank_n, rank_k, e, f, h))

      before : (v w z : ℕ) → z ≡ y → last_of r.lines (targets_of l.links i) y ≡ w → last_before l r.lines i z ≡ suc v → w ≤ suc v → Next (node.Line name year)
      before v w zero at_z e f h = absurd (omega (arith, f))
      before v w (suc z) at_z e f h =
          let met = last_met (λ j. cell r.lines j z) (targets_of l.previous i) v f in
          let j = met.0 in
          let there = given_by j z (let p = met.2 in omega (arith, p)) in
          let earlier_year : r.first + z ≡ year - 1 = omega (arith, year_is, at_z) in
          let k_given : IsListed (node.Line (at j) (year - 1)) ns = subst (λ x. IsListed (node.Line (at j) x) ns) earlier_year there.0 in
          let mine = subst (λ x. IsListed (at j) (lines_taken true m x)) named ((lines.previous.targets i within).named j met.1) in
          let rank_k = ap (line_rank r (at j)) (sym earlier_year) ∙ there.1 ∙ met.2 in
          let both : last l r.lines i y ≡ suc v = (let g = ap (last_before l r.lines i) (sym at_z) ∙ f in omega (arith, e, g, h)) in
          let later : first_year (span m) < year = omega (arith, year_is, at_z, first) in
          inr (node.Line (at j) (year - 1), k_given, record { node = nodes (node.Line name year) given; among = contained _ _ (before_input m (first_year (span m)) year name later (line m name) (at j) mine) }, omega (arith, rank_n, rank_k, both))

      by : (v w : ℕ) → last_of r.lines (targets_of l.links i) y ≡ v → last_before l r.lines i y ≡ w → Next (node.Line name year)
      by zero zero e f = inl (omega (arith, rank_n, e, f))
      by zero (suc w) e f = before w zero y refl e f (omega arith)
      by (suc v) zero e f = now v zero e f (omega arith)
      by (suc v) (suc w) e f = elim (either (suc w) (suc v)) [ inl h ↦ now v (suc w) e f h | inr h ↦ before w (suc v) y refl e f h ]
        where
          either : (a b : ℕ) → (a ≤ b) ⊎ (b ≤ a)
          either a b = grind arith

  -- ---- equivalents

  equiv_above : (name : Name) (year : ℕ) (k : Node) → IsInput (sheet_of m) k (node.Equiv name year) → rank_in r k < line_rank r name year + 1
  equiv_above name year k input = elim (listed (node.Line name year ∷ []) k input.among) [
    | inl is ↦ let e = ap (rank_in r) is in omega (arith, e)
    | inr none ↦ absurd none
  ]

  equiv_next : (name : Name) (year : ℕ) → IsListed (node.Equiv name year) ns → Next (node.Equiv name year)
  equiv_next name year given = by (line_rank r name year) refl
    where
      by : (v : ℕ) → line_rank r name year ≡ v → Next (node.Equiv name year)
      by zero e = inl (omega (arith, e))
      by (suc v) e =
          let i = number_in r.names.items name in
          let y = year - r.first in
          let there = given_by i y (omega (arith, e)) in
          let turn = ranked.only i y (omega (arith, e)) in
          let small = subst (λ j. j < length l.names.items) turn.2 (are_turns.each turn.0 turn.1).number in
          let named : at i ≡ name = named_by i small refl in
          let low = years (node.Equiv name year) given in
          let year_is : r.first + y ≡ year = omega (arith, low) in
          inr (node.Line name year, subst (λ x. IsListed (node.Line x year) ns) named (subst (λ z. IsListed (node.Line (at i) z) ns) year_is there.0), record { node = nodes (node.Equiv name year) given; among = contained (node.Line name year ∷ []) _ (inl refl) }, refl)
        where
          named_by : (i : ℕ) → i < length l.names.items → number_in r.names.items name ≡ i → at i ≡ name
          named_by i h e = number_found l.names.items name i h (sym (ap (λ xs. number_in xs name) names) ∙ e)

  -- ---- totals

  module _ (test : Category → Bool) (s : Scope) (is : (c : Category) → is_within s c ≡ test c) (passes : (c : Category) → test c ≡ true → IsListed c tree) (year : ℕ) (low : r.first ≤ year) where
    abbrev tests : Name → Bool
    tests name = option_map_or test (category m name) false

    abbrev equiv : Name → Node
    equiv name = node.Equiv name year

    abbrev own_at : Category → ℕ
    own_at c = own_rank r c year

    found : (o : Option Category) → option_map_or test o false ≡ true → (c : Category) × (o ≡ Some c) × (test c ≡ true)
    found None e = absurd (cc)
    found (Some c) e = (c, refl, e)

    sum_above : (k : Node) → IsListed k ns → IsListed k (map equiv (gas_lines_at test m)) → rank_in r k ≤ sum_rank r s year
    unfolding sum_rank
    sum_above k given among =
        let from = from_map equiv k (gas_lines_at test m) among in
        let at_one = found (category m from.0) (from_filter tests from.0 (gas_lines m) from.1).1 in
        let c = at_one.0 in
        let mine = own.least from.0 year c (subst (λ x. IsListed x ns) from.2 given) at_one.1 in
        let least = last_least own_at (filter (is_within s) tree) c (listed_filter (is_within s) c tree (passes c at_one.2) (is c ∙ at_one.2)) in
        let e = ap (rank_in r) from.2 in omega (arith, mine, least, e)

    sum_next : (v : ℕ) → sum_rank r s year ≡ suc v → (k : Node) × IsListed k ns × IsListed k (map equiv (gas_lines_at test m)) × (rank_in r k ≡ suc v)
    unfolding sum_rank
    sum_next v e =
        let met = last_met own_at (filter (is_within s) tree) v e in
        let c = met.0 in
        let passed = from_filter (is_within s) c tree met.1 in
        let one = own.met c year v low met.2 in
        let name = one.0 in
        let emitter = first_so _ _ (nodes (equiv name) one.1) in
        let among = listed_filter tests name (gas_lines m) (listed _ name ((gas_lines_are m name).0 emitter)) (ap (λ o. option_map_or test o false) one.2 ∙ sym (is c) ∙ passed.1) in
        (equiv name, one.1, listed_map equiv name (gas_lines_at test m) among, let p = one.3 in omega (arith, p))

    total_next : (n : Node) → rank_in r n ≡ sum_rank r s year + 1 → ((k : Node) → IsListed k (map equiv (gas_lines_at test m)) → IsInput (sheet_of m) k n) → Next n
    total_next n rank input = by (sum_rank r s year) refl
      where
        by : (v : ℕ) → sum_rank r s year ≡ v → Next n
        by zero e = inl (omega (arith, rank, e))
        by (suc v) e = let k = sum_next v e in inr (k.0, k.1, input k.0 k.2, let p = k.3 in omega (arith, rank, e, p))

  -- ---- all

  tree_top : (top : Category) (year : ℕ) → IsListed (node.Total top year) ns → (c : Category) → stands_under c top ≡ true → IsListed c tree
  tree_top top year given = under_passes top (first_so _ _ (nodes (node.Total top year) given))

  above : (n k : Node) → IsListed n ns → IsListed k ns → IsInput (sheet_of m) k n → rank_in r k < rank_in r n
  above (node.Line name year) k i j input = line_above name year i k j input
  above (node.Equiv name year) k i j input = equiv_above name year k input
  above (node.Total top year) k i j input =
      let low = sum_above (λ c. stands_under c top) (scope.Under top) (λ c. refl) (tree_top top year i) year (years (node.Total top year) i) k j (listed _ k input.among) in omega (arith, low)
  above (node.Gross year) k i j input =
      let low = sum_above counts_in_gross scope.Gross (λ c. refl) gross_passes year (years (node.Gross year) i) k j (listed _ k input.among) in omega (arith, low)

  next : (n : Node) → IsListed n ns → Next n
  next (node.Line name year) i = line_next name year i
  next (node.Equiv name year) i = equiv_next name year i
  next (node.Total top year) i = total_next (λ c. stands_under c top) (scope.Under top) (λ c. refl) (tree_top top year i) year (years (node.Total top year) i) (node.Total top year) refl (λ k l. record { node = nodes (node.Total top year) i; among = contained _ k l })
  next (node.Gross year) i = total_next counts_in_gross scope.Gross (λ c. refl) gross_passes year (years (node.Gross year) i) (node.Gross year) refl (λ k l. record { node = nodes (node.Gross year) i; among = contained _ k l })

  pub ranks_are : AreRanks m ns (rank_in r)
  ranks_are = record { above = above; next = next }
