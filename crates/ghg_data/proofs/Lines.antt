-- What a change of a record does to the names of the lines.
use Rattle.std.proofs.Common.{◌≡◌, ℕ, zero, suc, ◌<◌, arith, drop, slice_get, Bool, true, false, cond, not, List, [], ◌∷◌, map, Option, Some, None, refl, sym, ap, ◌∙◌, subst, Ordering, Less, Equal, Greater, is_eq, is_some, T}
use Rattle.std.specs.Ordering.{eq_by_cmp, is_lt, ordering_then}
use Rattle.std.specs.List.{cons_option, filter_map}
use Rattle.std.specs.FinMap.{entries, entries-insert, entries_sorted, insert, is_sorted, put, remove}
use Rattle.std.specs.FinMap.Entries.{below_all, by_order, where_key}
use Rattle.std.proofs.lemmas.Option.{same_Some}
use Rattle.ghg_definitions.specs.declared.record.Record.{Record}
use Rattle.ghg_definitions.specs.declared.record.RecordKey.{RecordKey}
use Rattle.ghg_definitions.specs.declared.record.RecordKey.TheVariants as key
use Rattle.ghg_definitions.specs.Data.{Data, Name, key_cmp, kind, line_name, line_names, name_cmp}
use Rattle.ghg_definitions.specs.Rows.{with_record}
use Rattle.ghg_definitions.proofs.Keys.{equal_by, keys_same, keys_total}
use Rattle.ghg_definitions.proofs.Members.{entries-remove, first, second}
use Rattle.ghg_data.specs.Names.{names_after, placed, with_name, without_name}

abbrev Entries : Type 0
Entries = List (RecordKey × Record)

abbrev names : Entries → List Name
names es = filter_map line_name (map (λ e. e.0) es)

-- ---- a record that is put

before_line : (q : RecordKey) (name : Name) → 3 < kind q → T (is_lt (key_cmp q (key.Line name))) → ⊥
before_line key.Span name later h = omega arith
before_line (key.Activity other year) name later h = omega arith
before_line (key.Factor other start) name later h = omega arith
before_line (key.Line other) name later h = omega arith
before_line (key.Bind l p) name later h = h
before_line (key.Uncert l) name later h = h

-- no line stands behind a binding or an uncertainty record
none_after : (q : RecordKey) → 3 < kind q → (es : Entries) → T (below_all key_cmp q es) → names es ≡ []
none_after q later [] h = refl
none_after q later (e ∷ es) h = by e.0 (first _ _ h) (none_after q later es (second _ _ h))
  where
    by : (k : RecordKey) → T (is_lt (key_cmp q k)) → names es ≡ [] → cons_option (line_name k) (names es) ≡ []
    by key.Span h rest = rest
    by (key.Activity name year) h rest = rest
    by (key.Factor name start) h rest = rest
    by (key.Line name) h rest = absurd (before_line q name later h)
    by (key.Bind name parameter) h rest = rest
    by (key.Uncert name) h rest = rest

put_line : (n : Name) (r : Record) (es : Entries) → T (is_sorted key_cmp es) → names (put key_cmp (key.Line n) r es) ≡ with_name n (names es)
put_line n r [] h = refl
put_line n r (e ∷ es) h = by e.0 refl (first _ _ h) (put_line n r es (second _ _ h))
  where
    line : (x : Name) (o : Ordering) → names (put key_cmp (key.Line n) r es) ≡ with_name n (names es)
        → names (by_order (ordering_then o Equal) ((key.Line n, r) ∷ (key.Line x, e.1) ∷ es) ((key.Line x, r) ∷ es) ((key.Line x, e.1) ∷ put key_cmp (key.Line n) r es)) ≡ placed o n x (names es) (with_name n (names es))
    line x Less rest = refl
    line x Equal rest = refl
    line x Greater rest = ap (λ xs. x ∷ xs) rest

    alone : names es ≡ [] → n ∷ names es ≡ with_name n (names es)
    alone none = ap (λ xs. n ∷ xs) none ∙ sym (ap (with_name n) none)

    by : (k : RecordKey) → k ≡ e.0 → T (below_all key_cmp e.0 es) → names (put key_cmp (key.Line n) r es) ≡ with_name n (names es)
        → names (by_order (key_cmp (key.Line n) k) ((key.Line n, r) ∷ (k, e.1) ∷ es) ((k, r) ∷ es) ((k, e.1) ∷ put key_cmp (key.Line n) r es)) ≡ with_name n (cons_option (line_name k) (names es))
    by key.Span is h rest = rest
    by (key.Activity name year) is h rest = rest
    by (key.Factor name start) is h rest = rest
    by (key.Line x) is h rest = line x (name_cmp n x) rest
    by (key.Bind l p) is h rest = alone (none_after (key.Bind l p) (omega arith) es (subst (λ k. T (below_all key_cmp k es)) (sym is) h))
    by (key.Uncert l) is h rest = alone (none_after (key.Uncert l) (omega arith) es (subst (λ k. T (below_all key_cmp k es)) (sym is) h))

put_other : (k : RecordKey) (r : Record) (es : Entries) → line_name k ≡ None → names (put key_cmp k r es) ≡ names es
put_other k r [] e = ap (λ o. cons_option o []) e
put_other k r (f ∷ es) e = by (key_cmp k f.0) (put_other k r es e)
  where
    by : (o : Ordering) → names (put key_cmp k r es) ≡ names es → names (by_order o ((k, r) ∷ f ∷ es) ((f.0, r) ∷ es) (f ∷ put key_cmp k r es)) ≡ names (f ∷ es)
    by Less rest = ap (λ o. cons_option o (names (f ∷ es))) e
    by Equal rest = refl
    by Greater rest = ap (cons_option (line_name f.0)) rest

-- ---- a record that is taken out

taken : (n : Name) (es : Entries) → names (where_key key_cmp (λ x. not (eq_by_cmp key_cmp (key.Line n) x)) es) ≡ without_name n (names es)
taken n [] = refl
taken n (e ∷ es) = by e.0 (taken n es)
  where
    left : Entries
    left = where_key key_cmp (λ x. not (eq_by_cmp key_cmp (key.Line n) x)) es

    line : (x : Name) (o : Ordering) → names left ≡ without_name n (names es) → names (cond (not (is_eq (ordering_then o Equal))) ((key.Line x, e.1) ∷ left) left) ≡ cond (not (is_eq o)) (x ∷ without_name n (names es)) (without_name n (names es))
    line x Less rest = ap (λ xs. x ∷ xs) rest
    line x Equal rest = rest
    line x Greater rest = ap (λ xs. x ∷ xs) rest

    by : (k : RecordKey) → names left ≡ without_name n (names es) → names (cond (not (eq_by_cmp key_cmp (key.Line n) k)) ((k, e.1) ∷ left) left) ≡ without_name n (cons_option (line_name k) (names es))
    by key.Span rest = rest
    by (key.Activity name year) rest = rest
    by (key.Factor name start) rest = rest
    by (key.Line x) rest = line x (name_cmp n x) rest
    by (key.Bind l p) rest = rest
    by (key.Uncert l) rest = rest

taken_other : (k : RecordKey) (es : Entries) → line_name k ≡ None → names (where_key key_cmp (λ x. not (eq_by_cmp key_cmp k x)) es) ≡ names es
taken_other k [] e = refl
taken_other k (f ∷ es) e = by (eq_by_cmp key_cmp k f.0) refl (taken_other k es e)
  where
    left : Entries
    left = where_key key_cmp (λ x. not (eq_by_cmp key_cmp k x)) es

    by : (b : Bool) → eq_by_cmp key_cmp k f.0 ≡ b → names left ≡ names es → names (cond (not b) (f ∷ left) left) ≡ names (f ∷ es)
    by true is rest = rest ∙ sym (ap (λ o. cons_option o (names es)) (ap line_name (sym (keys_same k f.0 (equal_by _ is))) ∙ e))
    by false is rest = ap (cons_option (line_name f.0)) rest

-- ---- the names after a change

put_names : (m : Data) (k : RecordKey) (r : Record) (xs : List Name) → names (put key_cmp k r (entries m)) ≡ xs → line_names (insert m k r) ≡ xs
put_names m k r xs e = ap names (entries-insert keys_total m k r) ∙ e

taken_names : (m : Data) (k : RecordKey) (xs : List Name) → names (where_key key_cmp (λ x. not (eq_by_cmp key_cmp k x)) (entries m)) ≡ xs → line_names (remove m k) ≡ xs
taken_names m k xs e = ap names (entries-remove keys_total keys_same m k) ∙ e

pub line_names-with_record : (m : Data) (k : RecordKey) (c : Option Record) → line_names (with_record m k c) ≡ names_after k (is_some c) (line_names m)
line_names-with_record m (key.Line n) (Some r) = put_names m (key.Line n) r _ (put_line n r (entries m) (entries_sorted m))
line_names-with_record m (key.Line n) None = taken_names m (key.Line n) _ (taken n (entries m))
line_names-with_record m key.Span (Some r) = put_names m key.Span r _ (put_other key.Span r (entries m) refl)
line_names-with_record m key.Span None = taken_names m key.Span _ (taken_other key.Span (entries m) refl)
line_names-with_record m (key.Activity n y) (Some r) = put_names m (key.Activity n y) r _ (put_other (key.Activity n y) r (entries m) refl)
line_names-with_record m (key.Activity n y) None = taken_names m (key.Activity n y) _ (taken_other (key.Activity n y) (entries m) refl)
line_names-with_record m (key.Factor n y) (Some r) = put_names m (key.Factor n y) r _ (put_other (key.Factor n y) r (entries m) refl)
line_names-with_record m (key.Factor n y) None = taken_names m (key.Factor n y) _ (taken_other (key.Factor n y) (entries m) refl)
line_names-with_record m (key.Bind l p) (Some r) = put_names m (key.Bind l p) r _ (put_other (key.Bind l p) r (entries m) refl)
line_names-with_record m (key.Bind l p) None = taken_names m (key.Bind l p) _ (taken_other (key.Bind l p) (entries m) refl)
line_names-with_record m (key.Uncert l) (Some r) = put_names m (key.Uncert l) r _ (put_other (key.Uncert l) r (entries m) refl)
line_names-with_record m (key.Uncert l) None = taken_names m (key.Uncert l) _ (taken_other (key.Uncert l) (entries m) refl)

-- ---- a change by its number

pub drop_at : {A : Type 0} (xs : List A) (i : ℕ) (x : A) → slice_get xs i ≡ Some x → drop i xs ≡ x ∷ drop (suc i) xs
drop_at [] i x e = absurd (cc)
drop_at (y ∷ ys) zero x e = ap (λ z. z ∷ ys) (same_Some y x e)
drop_at (y ∷ ys) (suc i) x e = drop_at ys i x e
