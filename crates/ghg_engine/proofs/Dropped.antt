-- The cells of lines that are withdrawn, key by key.
use Rattle.std.proofs.Common.{◌≡◌, ℕ, ◌+◌, ◌<◌, Bool, true, false, cond, if◌then◌else◌, not, ◌&&◌, ◌||◌, List, [], ◌∷◌, ◌++◌, length, get_or, take, Option, None, is_some, refl, sym, ap, ◌∙◌, subst}
use Rattle.std.proofs.Math.Path.{fun_ext}
use Rattle.std.proofs.lemmas.Map.Lookups.{exact_bytes}
use Rattle.std.specs.BTreeMap.{is_at}
use Rattle.ghg_units.specs.declared.node.Node.{Node}
use Rattle.ghg_units.specs.declared.node.Node.TheVariants as node
use Rattle.ghg_affected.proofs.Bools.{true_not_false}
use Rattle.ghg_columns.specs.Cells.{without_series}
use Rattle.ghg_columns.specs.declared.series.Series.TheVariants as series
use Rattle.ghg_definitions.specs.declared.record.RecordKey.{RecordKey}
use Rattle.ghg_definitions.specs.declared.record.RecordKey.TheVariants as key
use Rattle.ghg_definitions.specs.Compilation.{emits, is_node}
use Rattle.ghg_definitions.specs.Data.{Data, Name, line, line_name, name_cmp}
use Rattle.ghg_definitions.specs.Trials.{Outcomes}
use Rattle.ghg_definitions.proofs.Alike.{first_so}
use Rattle.ghg_definitions.proofs.Keys.{equal_by}
use Rattle.ghg_shifts.specs.Progress.{is_edited}
use Rattle.ghg_engine.specs.Withdrawn.{is_withdrawn, without_withdrawn}
use Rattle.ghg_engine.proofs.Noting.{line_edited_too, next_taken, none_edited_by}

-- ---- truth values

and_false : (a : Bool) → (a && false) ≡ false
and_false true = refl
and_false false = refl

or_false : (a : Bool) → (a || false) ≡ a
or_false true = refl
or_false false = refl

both_ways : {X : Type 0} (b : Bool) (x : X) → cond b x x ≡ x
both_ways true x = refl
both_ways false x = refl

-- what is dropped with one name more: what was dropped, and at that name all, unless it is there
one_more : {X : Type 0} (there is edited present : Bool) (o : Option X) → (is ≡ true → there ≡ present)
    → cond there (cond (edited && not present) None o) (cond is None (cond (edited && not present) None o))
    ≡ cond ((edited || is) && not present) None o
one_more there false edited present o same =
    both_ways there (cond (edited && not present) None o) ∙ ap (λ b. cond (b && not present) None o) (sym (or_false edited))
one_more true true true true o same = refl
one_more true true false true o same = refl
one_more false true true false o same = refl
one_more false true false false o same = refl
one_more true true edited false o same = absurd (true_not_false (same refl))
one_more false true edited true o same = absurd (true_not_false (sym (same refl)))

chosen_at : (b : Bool) (f g : Outcomes) (n : Node) → (if b then f else g) n ≡ cond b (f n) (g n)
chosen_at true f g n = refl
chosen_at false f g n = refl

-- ---- cells

pub kept_if : (b : Bool) (f g : Outcomes) → b ≡ true → f ≡ (if b then f else g)
kept_if true f g e = refl
kept_if false f g e = absurd (true_not_false (sym e))

pub dropped_if : (b : Bool) (f g : Outcomes) → b ≡ false → g ≡ (if b then f else g)
dropped_if true f g e = absurd (true_not_false e)
dropped_if false f g e = refl

module _ (m : Data) where
  -- nodes of the data are not withdrawn
  pub nodes_stay : (keys : List RecordKey) (outcomes : Outcomes) (n : Node) → is_node m n ≡ true
      → without_withdrawn m keys outcomes n ≡ outcomes n
  nodes_stay keys outcomes (node.Line k year) is =
      ap (λ b. cond b None (outcomes (node.Line k year)))
      (ap (λ b. is_edited keys k && not b) (first_so (is_some (line m k)) _ is) ∙ and_false (is_edited keys k))
  nodes_stay keys outcomes (node.Equiv k year) is =
      ap (λ b. cond b None (outcomes (node.Equiv k year)))
      (ap (λ b. is_edited keys k && not b) (first_so (emits m k) _ is) ∙ and_false (is_edited keys k))
  nodes_stay keys outcomes (node.Total c year) is = refl
  nodes_stay keys outcomes (node.Gross year) is = refl

  -- without edits none are
  pub none_dropped : (outcomes : Outcomes) → outcomes ≡ without_withdrawn m [] outcomes
  none_dropped outcomes = fun_ext at
    where
      at : (n : Node) → outcomes n ≡ without_withdrawn m [] outcomes n
      at (node.Line k year) = refl
      at (node.Equiv k year) = refl
      at (node.Total c year) = refl
      at (node.Gross year) = refl

  module _ (keys : List RecordKey) (start : Outcomes) where
    -- a key of no line drops none
    pub other_dropped : (k : RecordKey) → line_name k ≡ None → without_withdrawn m keys start ≡ without_withdrawn m (keys ++ k ∷ []) start
    other_dropped k none = fun_ext at
      where
        at : (n : Node) → without_withdrawn m keys start n ≡ without_withdrawn m (keys ++ k ∷ []) start n
        at (node.Line name year) = ap (λ b. cond (b && not (is_some (line m name))) None (start (node.Line name year))) (none_edited_by keys k none name)
        at (node.Equiv name year) = ap (λ b. cond (b && not (emits m name)) None (start (node.Equiv name year))) (none_edited_by keys k none name)
        at (node.Total c year) = refl
        at (node.Gross year) = refl

    -- the key of a line drops its values and its equivalents, unless it is there and emits
    pub line_dropped : (name : Name) (kept values all : Outcomes) → kept ≡ without_withdrawn m keys start
        → values ≡ (if is_some (line m name) then kept else without_series kept (series.Line name))
        → all ≡ (if emits m name then values else without_series values (series.Equivalent name))
        → all ≡ without_withdrawn m (keys ++ key.Line name ∷ []) start
    line_dropped name kept values all before first second = fun_ext at
      where
        value_at : (n : Node) → values n ≡ cond (is_some (line m name)) (without_withdrawn m keys start n) (without_series (without_withdrawn m keys start) (series.Line name) n)
        value_at n = ap (λ (o : Outcomes). o n) first ∙ chosen_at (is_some (line m name)) kept (without_series kept (series.Line name)) n
            ∙ ap (λ (o : Outcomes). cond (is_some (line m name)) (o n) (without_series o (series.Line name) n)) before

        all_at : (n : Node) → all n ≡ cond (emits m name) (values n) (without_series values (series.Equivalent name) n)
        all_at n = ap (λ (o : Outcomes). o n) second ∙ chosen_at (emits m name) values (without_series values (series.Equivalent name)) n

        same_name : (k : Name) → is_at (name_cmp name) k ≡ true → name ≡ k
        same_name k e = exact_bytes name k (equal_by (name_cmp name k) e)

        at : (n : Node) → all n ≡ without_withdrawn m (keys ++ key.Line name ∷ []) start n
        at (node.Line k year) = all_at (node.Line k year) ∙ both_ways (emits m name) (values (node.Line k year)) ∙ value_at (node.Line k year)
            ∙ one_more (is_some (line m name)) (is_at (name_cmp name) k) (is_edited keys k) (is_some (line m k)) (start (node.Line k year))
            (λ e. ap (λ x. is_some (line m x)) (same_name k e))
            ∙ ap (λ b. cond (b && not (is_some (line m k))) None (start (node.Line k year))) (sym (line_edited_too keys name k))
        at (node.Equiv k year) = all_at (node.Equiv k year)
            ∙ ap (λ o. cond (emits m name) o (cond (is_at (name_cmp name) k) None o))
            (value_at (node.Equiv k year) ∙ both_ways (is_some (line m name)) (without_withdrawn m keys start (node.Equiv k year)))
            ∙ one_more (emits m name) (is_at (name_cmp name) k) (is_edited keys k) (emits m k) (start (node.Equiv k year))
            (λ e. ap (emits m) (same_name k e))
            ∙ ap (λ b. cond (b && not (emits m k)) None (start (node.Equiv k year))) (sym (line_edited_too keys name k))
        at (node.Total c year) = all_at (node.Total c year) ∙ both_ways (emits m name) (values (node.Total c year))
            ∙ value_at (node.Total c year) ∙ both_ways (is_some (line m name)) (start (node.Total c year))
        at (node.Gross year) = all_at (node.Gross year) ∙ both_ways (emits m name) (values (node.Gross year))
            ∙ value_at (node.Gross year) ∙ both_ways (is_some (line m name)) (start (node.Gross year))

  -- one key more of a list
  module _ (keys : List RecordKey) (i : ℕ) (k : RecordKey) (within : i < length keys) (is : k ≡ get_or keys i k) (start kept : Outcomes)
      (before : kept ≡ without_withdrawn m (take i keys) start) where
    pub line_next : (name : Name) → k ≡ key.Line name → (values all : Outcomes)
        → values ≡ (if is_some (line m name) then kept else without_series kept (series.Line name))
        → all ≡ (if emits m name then values else without_series values (series.Equivalent name))
        → all ≡ without_withdrawn m (take (i + 1) keys) start
    line_next name e values all first second =
        subst (λ ks. all ≡ without_withdrawn m ks start) (sym (next_taken keys i k within is ∙ ap (λ x. take i keys ++ x ∷ []) e))
        (line_dropped (take i keys) start name kept values all before first second)

    pub other_next : line_name k ≡ None → kept ≡ without_withdrawn m (take (i + 1) keys) start
    other_next none = subst (λ ks. kept ≡ without_withdrawn m ks start) (sym (next_taken keys i k within is)) (before ∙ other_dropped (take i keys) start k none)
