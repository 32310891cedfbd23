-- The line that is named is the least on any ring.
use Rattle.std.proofs.Common.{◌≡◌, ◌≢◌, inl, inr, ℕ, zero, suc, Bool, true, false, cond, not, ◌||◌, is_some, List, [], ◌∷◌, length, filter, Option, Some, None, Result, Ok, Err, refl, sym, ap, ◌∙◌, subst, Ordering, Less, Equal, Greater, is_eq, if◌then◌else◌}
use Rattle.std.specs.FinMap.{entries, get}
use Rattle.std.specs.List.{AllByRecursion, find, flat_map, list_all}
use Rattle.std.specs.List.Sorted.{IsStrictlySortedBy}
use Rattle.std.specs.Option.{option_map_or}
use Rattle.std.specs.Str.{bytes_eq}
use Rattle.std.specs.Cmp.Lexicographic.{bytes_decides, nat_list_cmp_total}
use Rattle.std.specs.Cmp.{tied_itself}
use Rattle.std.specs.Ordering.{eq_by_cmp, ordering_reverse}
use Rattle.std.proofs.lemmas.Bool.{or_cases, both_ways, or_right}
use Rattle.ghg_equations.specs.declared.eq_id.EqId.{EqId}
use Rattle.ghg_equations.specs.declared.quantity.Dim.{Dim}
use Rattle.ghg_equations.specs.declared.quantity.Dim.TheVariants as dims
use Rattle.ghg_equations.specs.Quantity.{same_dim}
use Rattle.ghg_equations.specs.Table.{Quantity, output, parameters}
use Rattle.ghg_units.specs.declared.row.Binding.{Binding}
use Rattle.ghg_units.specs.declared.row.Binding.TheVariants as bound
use Rattle.ghg_units.specs.declared.row.Row.{Row}
use Rattle.ghg_units.specs.declared.rule.Rule.{Rule}
use Rattle.ghg_units.specs.Parameter.{uncertainty_word}
use Rattle.ghg_units.specs.WellFormed.{IsParameterName, IsWellFormed}
use Rattle.ghg_definitions.specs.declared.place.Place.{Place}
use Rattle.ghg_definitions.specs.declared.record.Record.{Record}
use Rattle.ghg_definitions.specs.declared.record.Record.TheVariants as entry
use Rattle.ghg_definitions.specs.declared.record.RecordKey.{RecordKey}
use Rattle.ghg_definitions.specs.declared.record.RecordKey.TheVariants as key
use Rattle.ghg_definitions.specs.Data.{Data, Name, as_binding, binding, first_name, key_cmp, line, line_names, name_cmp}
use Rattle.ghg_definitions.specs.Laws.{NamesRing, RingsAreNamed}
use Rattle.ghg_definitions.specs.Rings.{IsAcyclic, IsLeastRing, IsRing, Leads, Takes, TakesBinding, leads_within, ring_line, taken, taken_by}
use Rattle.ghg_definitions.specs.Rules.{after_rows, arranged, binds_parameter, dim_of_output, is_bound, is_line_of, is_sound, least_place, places, places_in, planned, unsound_place, without_ring}
use Rattle.ghg_definitions.specs.Sound.{IsRecord, IsWorkbook}
use Rattle.ghg_definitions.proofs.Alike.{first_so, second_so}
use Rattle.ghg_definitions.proofs.Chains.{leading, turned, within}
use Rattle.ghg_definitions.proofs.Decided.{decide_name}
use Rattle.ghg_definitions.proofs.Grounded.{line_listed}
use Rattle.ghg_definitions.proofs.Keys.{equal_by, keys_same, keys_total, names_same}
use Rattle.ghg_definitions.proofs.Lines.{lines_sorted}
use Rattle.ghg_definitions.specs.Listed.{IsListed}
use Rattle.ghg_definitions.proofs.Listed.{contained, from_any, from_flat, listed, listed_any, listed_filter, listed_flat}
use Rattle.ghg_definitions.proofs.Members.{entry_any}
use Rattle.ghg_definitions.proofs.Planned.{plans_keep}

-- ---- a line takes what it is said to take

takes_taken : (b : Option Binding) (name : Name) → IsListed name (taken_by b) → TakesBinding b name
takes_taken None name h = h
takes_taken (Some (bound.Activity other)) name h = h
takes_taken (Some (bound.Factor other)) name h = h
takes_taken (Some (bound.Line k)) name (inl e) = e
takes_taken (Some (bound.Line k)) name (inr h) = absurd h
takes_taken (Some (bound.Prev k)) name h = h
takes_taken (Some (bound.Sum ks)) name h = contained ks name h
takes_taken (Some (bound.Decay other)) name h = h
takes_taken (Some (bound.Key notation)) name h = h

taken_takes : (b : Option Binding) (name : Name) → TakesBinding b name → IsListed name (taken_by b)
taken_takes None name h = h
taken_takes (Some (bound.Activity other)) name h = h
taken_takes (Some (bound.Factor other)) name h = h
taken_takes (Some (bound.Line k)) name e = inl e
taken_takes (Some (bound.Prev k)) name h = h
taken_takes (Some (bound.Sum ks)) name h = listed ks name h
taken_takes (Some (bound.Decay other)) name h = h
taken_takes (Some (bound.Key notation)) name h = h

pub takes : (m : Data) (k name : Name) → IsListed name (taken m k) → Takes m k name
takes m k name h = by (line m k) refl h
  where
    by : (e : Option EqId) → line m k ≡ e → IsListed name (option_map_or (λ e. flat_map (λ q. taken_by (binding m k q.name)) (parameters e)) e []) → Takes m k name
    by None is h = absurd h
    by (Some e) is h =
        let from = from_flat (λ q. taken_by (binding m k q.name)) name (parameters e) h in
        record { present = ap is_some is; parameter = from.0.name; bound = takes_taken (binding m k from.0.name) name from.2 }

-- ---- in a workbook a line is said to take what it takes

-- a binding of the data is one of the places that are judged
bound_place : (m : Data) (k parameter : Name) (r : Record) → get m (key.Bind k parameter) ≡ Some r → IsListed (record { line = k; parameter = parameter }) (places m)
bound_place m k parameter r e =
    let found = from_any (λ (e : RecordKey × Record). eq_by_cmp key_cmp (key.Bind k parameter) e.0) (entries m)
    (entry_any keys_total keys_same (λ (e : RecordKey × Record). eq_by_cmp key_cmp (key.Bind k parameter) e.0) m (key.Bind k parameter) r e (ap is_eq (tied_itself keys_total (key.Bind k parameter)))) in
    let same : key.Bind k parameter ≡ found.0.0 = keys_same (key.Bind k parameter) found.0.0 (equal_by _ found.2) in
    listed_flat (λ (e : RecordKey × Record). places_in e.0 (line m (first_name e.0))) found.0 _ (entries m) found.1
    (subst (λ q. IsListed (record { line = k; parameter = parameter }) (places_in q (line m (first_name q)))) same (inl refl))

unsound_listed : (m : Data) → unsound_place m ≡ None → (p : Place) → IsListed p (filter (λ p. not (is_sound m p)) (places m)) → ⊥
unfolding unsound_place
unsound_listed m none p h = by (filter (λ p. not (is_sound m p)) (places m)) none h
  where
    by : (ps : List Place) → least_place ps ≡ None → IsListed p ps → ⊥
    by [] e h = h
    by (q ∷ ps) e h = absurd (cc)

pub places_sound : (m : Data) → unsound_place m ≡ None → (p : Place) → IsListed p (places m) → is_sound m p ≡ true
places_sound m none p h = by (is_sound m p) refl
  where
    by : (b : Bool) → is_sound m p ≡ b → b ≡ true
    by true e = refl
    by false e = absurd (unsound_listed m none p (listed_filter (λ p. not (is_sound m p)) p (places m) h (ap not e)))

-- a binding's parameter is not the word of uncertainty records
bound_parameter : (k parameter : Name) (r : Record) → IsRecord (key.Bind k parameter) r → IsParameterName parameter
bound_parameter k parameter (entry.Span s) h = absurd h
bound_parameter k parameter (entry.Activity f) h = absurd h
bound_parameter k parameter (entry.Factor f) h = absurd h
bound_parameter k parameter (entry.Line c e) h = absurd h
bound_parameter k parameter (entry.Bind b) h = h.1
bound_parameter k parameter (entry.Uncert a f) h = absurd h

other_word : (parameter : Name) → IsParameterName parameter → bytes_eq parameter uncertainty_word ≡ false
other_word parameter h = by (bytes_eq parameter uncertainty_word) refl
  where
    none : IsParameterName uncertainty_word → ⊥
    none e = cc

    by : (b : Bool) → bytes_eq parameter uncertainty_word ≡ b → b ≡ false
    by true e = absurd (none (subst IsParameterName ((bytes_decides parameter uncertainty_word).0 e) h))
    by false e = refl

-- each binding of a workbook is that of a parameter of its line's equation
pub binding_sound : (m : Data) → IsWorkbook m → (k parameter : Name) (r : Record) → get m (key.Bind k parameter) ≡ Some r → option_map_or (λ e. binds_parameter m e parameter (binding m k parameter)) (line m k) false ≡ true
unfolding is_sound
binding_sound m is k parameter r e =
    subst (λ b. option_map_or (λ e. b || binds_parameter m e parameter (binding m k parameter)) (line m k) false ≡ true)
    (other_word parameter (bound_parameter k parameter r (is.records (key.Bind k parameter) r e)))
    (places_sound m is.bindings (record { line = k; parameter = parameter }) (bound_place m k parameter r e))

-- the parameter is one of the equation's
pub found_parameter : (m : Data) (e : EqId) (parameter : Name) (b : Option Binding) → binds_parameter m e parameter b ≡ true → (q : Quantity) × IsListed q (parameters e) × (q.name ≡ parameter)
found_parameter m e parameter b h = by (parameters e) h
  where
    here : (q : Quantity) (qs : List Quantity) (t : Bool) → bytes_eq q.name parameter ≡ t
        → (option_map_or (λ q. is_bound m q.dim b) (find (λ q. bytes_eq q.name parameter) qs) false ≡ true → (p : Quantity) × IsListed p qs × (p.name ≡ parameter))
        → option_map_or (λ q. is_bound m q.dim b) (cond t (Some q) (find (λ q. bytes_eq q.name parameter) qs)) false ≡ true
        → (p : Quantity) × IsListed p (q ∷ qs) × (p.name ≡ parameter)
    here q qs true is later h = (q, inl refl, (bytes_decides q.name parameter).0 is)
    here q qs false is later h = let found = later h in (found.0, inr found.1, found.2)

    by : (qs : List Quantity) → option_map_or (λ q. is_bound m q.dim b) (find (λ q. bytes_eq q.name parameter) qs) false ≡ true → (q : Quantity) × IsListed q qs × (q.name ≡ parameter)
    by [] h = absurd (cc)
    by (q ∷ qs) h = here q qs (bytes_eq q.name parameter) refl (by qs) h

-- a binding that takes a line's value is a record
bound_record : (o : Option Record) (name : Name) → TakesBinding (as_binding o) name → (r : Record) × (o ≡ Some r)
bound_record None name h = absurd h
bound_record (Some r) name h = (r, refl)

pub taken_of : (m : Data) → IsWorkbook m → (k name : Name) → Takes m k name → IsListed name (taken m k)
taken_of m is k name t = by (line m k) (binding_sound m is k t.parameter found.0 found.1)
  where
    found : (r : Record) × (get m (key.Bind k t.parameter) ≡ Some r)
    found = bound_record (get m (key.Bind k t.parameter)) name t.bound

    by : (e : Option EqId) → option_map_or (λ e. binds_parameter m e t.parameter (binding m k t.parameter)) e false ≡ true → IsListed name (option_map_or (λ e. flat_map (λ q. taken_by (binding m k q.name)) (parameters e)) e [])
    by None h = absurd (cc)
    by (Some e) h =
        let q = found_parameter m e t.parameter (binding m k t.parameter) h in
        listed_flat (λ q. taken_by (binding m k q.name)) q.0 name (parameters e) q.1 (subst (λ p. IsListed name (taken_by (binding m k p))) (sym q.2) (taken_takes (binding m k t.parameter) name t.bound))

-- ---- what a line takes is a line

pub present : (o : Option EqId) (d : Dim) → option_map_or (λ e. same_dim d (dim_of_output (output e))) o false ≡ true → is_some o ≡ true
present None d h = h
present (Some e) d h = refl

pub all_listed : (p : Name → Bool) (names : List Name) (name : Name) → list_all p names ≡ true → IsListed name names → p name ≡ true
all_listed p [] name h i = absurd i
all_listed p (x ∷ names) name h (inl e) = ap p e ∙ first_so (p x) (list_all p names) h
all_listed p (x ∷ names) name h (inr i) = all_listed p names name (second_so (p x) (list_all p names) h) i

bound_line : (m : Data) (d : Dim) (b : Option Binding) (name : Name) → is_bound m d b ≡ true → TakesBinding b name → is_some (line m name) ≡ true
bound_line m d None name h t = absurd t
bound_line m d (Some (bound.Activity other)) name h t = absurd t
bound_line m d (Some (bound.Factor other)) name h t = absurd t
bound_line m d (Some (bound.Line k)) name h t = by (same_dim d dims.Decay) h
  where
    by : (b : Bool) → (if b then false else is_line_of m d k) ≡ true → is_some (line m name) ≡ true
    by true h = absurd (cc)
    by false h = ap (λ k. is_some (line m k)) t ∙ present (line m k) d h
bound_line m d (Some (bound.Prev k)) name h t = absurd t
bound_line m d (Some (bound.Sum ks)) name h t = by (same_dim d dims.Decay) h
  where
    by : (b : Bool) → (if b then false else list_all (is_line_of m d) ks) ≡ true → is_some (line m name) ≡ true
    by true h = absurd (cc)
    by false h = present (line m name) d (all_listed (is_line_of m d) ks name h (listed ks name t))
bound_line m d (Some (bound.Decay other)) name h t = absurd t
bound_line m d (Some (bound.Key notation)) name h t = absurd t

pub taken_present : (m : Data) → IsWorkbook m → (k name : Name) → Takes m k name → is_some (line m name) ≡ true
taken_present m is k name t = by (line m k) (binding_sound m is k t.parameter found.0 found.1)
  where
    found : (r : Record) × (get m (key.Bind k t.parameter) ≡ Some r)
    found = bound_record (get m (key.Bind k t.parameter)) name t.bound

    at : (o : Option Quantity) → option_map_or (λ q. is_bound m q.dim (binding m k t.parameter)) o false ≡ true → is_some (line m name) ≡ true
    at None h = absurd (cc)
    at (Some q) h = bound_line m q.dim (binding m k t.parameter) name h t.bound

    by : (e : Option EqId) → option_map_or (λ e. binds_parameter m e t.parameter (binding m k t.parameter)) e false ≡ true → is_some (line m name) ≡ true
    by None h = absurd (cc)
    by (Some e) h = at (find (λ q. bytes_eq q.name t.parameter) (parameters e)) h

-- ---- a line that leads to another within so many steps leads to it, and the other way round

chain_within : (m : Data) (d : ℕ) (k name : Name) → leads_within m d k name ≡ true → (others : List Name) × Leads (Takes m) (k ∷ others) name
unfolding leads_within
chain_within m zero k name e = absurd (cc)
chain_within m (suc d) k name e =
    let step = from_any (λ t. bytes_eq t name || leads_within m d t name) (taken m k) e in
    let first : Takes m k step.0 = takes m k step.0 step.1 in
    elim (or_cases (bytes_eq step.0 name) _ step.2) [
      | inl is ↦ ([], subst (Takes m k) ((bytes_decides step.0 name).0 is) first)
      | inr on ↦ let rest = chain_within m d step.0 name on in (step.0 ∷ rest.0, (first, rest.1))
    ]

module _ (m : Data) (is : IsWorkbook m) where
  one_step : (d : ℕ) (k name : Name) → Takes m k name → leads_within m (suc d) k name ≡ true
  unfolding leads_within
  one_step d k name t = listed_any (λ t. bytes_eq t name || leads_within m d t name) name (taken m k) (taken_of m is k name t) (ap (λ b. b || leads_within m d name name) ((bytes_decides name name).1 refl))

  step_more : (d : ℕ) (k t name : Name) → Takes m k t → leads_within m d t name ≡ true → leads_within m (suc d) k name ≡ true
  unfolding leads_within
  step_more d k t name s e = listed_any (λ t. bytes_eq t name || leads_within m d t name) t (taken m k) (taken_of m is k t s) (or_right (bytes_eq t name) _ e)

  -- a line on a ring is present
  on_ring_listed : (names : List Name) → IsRing (Takes m) names → (k : Name) → IsListed k names → IsListed k (line_names m)
  on_ring_listed [] ring k i = absurd i
  on_ring_listed (x ∷ xs) ring k i = let taken = leading (Takes m) (x ∷ xs) x k ring i in line_listed m k taken.1.present

  -- and leads back to itself in no more steps than there are lines
  on_ring_leads : (names : List Name) → IsRing (Takes m) names → (k : Name) → IsListed k names → leads_within m (length (line_names m)) k k ≡ true
  on_ring_leads names ring k i =
      let ring_at = turned (Takes m) names k ring i in
      within (Takes m) decide_name (λ d x y. leads_within m d x y ≡ true) one_step step_more (line_names m) k ring_at.0 k (λ z j. on_ring_listed (k ∷ ring_at.0) ring_at.1 z j) ring_at.1

-- ---- the first of names in order that pass

-- it passes, and no other that passes is before it
abbrev pub IsFirst : (Name → Bool) → List Name → Option Name → Type 0
IsFirst p names None = (k : Name) → IsListed k names → p k ≡ true → ⊥
IsFirst p names (Some first) = (p first ≡ true) × ((k : Name) → IsListed k names → p k ≡ true → name_cmp first k ≢ Greater)

not_less : (o : Ordering) → o ≡ Less → o ≢ Greater
not_less o e f = cc

not_level : (o : Ordering) → o ≡ Equal → o ≢ Greater
not_level o e f = cc

pub is_before : (x k : Name) (names : List Name) → AllByRecursion (λ y. name_cmp x y ≡ Less) names → IsListed k names → name_cmp x k ≡ Less
is_before x k [] h i = absurd i
is_before x k (y ∷ names) h (inl e) = ap (name_cmp x) e ∙ h.0
is_before x k (y ∷ names) h (inr i) = is_before x k names h.1 i

first_found : (p : Name → Bool) (names : List Name) → IsStrictlySortedBy name_cmp names → IsFirst p names (find p names)
unfolding IsStrictlySortedBy
first_found p [] sorted = λ k i e. i
first_found p (x ∷ names) sorted = by (p x) refl (find p names) (first_found p names sorted.1)
  where
    by : (b : Bool) → p x ≡ b → (o : Option Name) → IsFirst p names o → IsFirst p (x ∷ names) (cond b (Some x) o)
    by true is o h = (is, λ k i e. elim i [ inl same ↦ not_level _ (ap (name_cmp x) same ∙ tied_itself nat_list_cmp_total x) | inr j ↦ not_less _ (is_before x k names sorted.0 j) ])
    by false is None h = λ k i e. elim i [ inl same ↦ both_ways _ is (ap p (sym same) ∙ e) | inr j ↦ h k j e ]
    by false is (Some first) h = (h.0, λ k i e. elim i [ inl same ↦ absurd (both_ways _ is (ap p (sym same) ∙ e)) | inr j ↦ h.1 k j e ])

-- ---- the law

pub rings_are_named : RingsAreNamed
unfolding ring_line
rings_are_named m is = by (find back (line_names m)) (first_found back (line_names m) (lines_sorted m))
  where
    back : Name → Bool
    back name = leads_within m (length (line_names m)) name name

    none_on : IsFirst back (line_names m) None → IsAcyclic m
    none_on none [] ring = ring
    none_on none (k ∷ names) ring = none k (on_ring_listed m is (k ∷ names) ring k (inl refl)) (on_ring_leads m is (k ∷ names) ring k (inl refl))

    by : (o : Option Name) → IsFirst back (line_names m) o → NamesRing m o
    by None none = none_on none
    by (Some least) first =
        let chain = chain_within m (length (line_names m)) least least first.0 in (
          chain.0,
          record {
            ring = chain.1;
            before = λ names ring k c. let i = listed names k c in first.1 k (on_ring_listed m is names ring k i) (on_ring_leads m is names ring k i);
          },
        )

-- ---- what is known to be the least is named

-- two least lines on rings are one
one_least : (m : Data) (a b : Name) (xs ys : List Name) → IsLeastRing m a xs → IsLeastRing m b ys → a ≡ b
one_least m a b xs ys one two = by (name_cmp a b) refl
  where
    by : (o : Ordering) → name_cmp a b ≡ o → a ≡ b
    by Less e = absurd (two.before (a ∷ xs) one.ring a (contained (a ∷ xs) a (inl refl)) (nat_list_cmp_total.antisymm b a ∙ ap ordering_reverse e))
    by Equal e = names_same a b e
    by Greater e = absurd (one.before (b ∷ ys) two.ring b (contained (b ∷ ys) b (inl refl)) e)

pub ring_line_is : (m : Data) → IsWorkbook m → (least : Name) (others : List Name) → IsLeastRing m least others → ring_line m ≡ Some least
ring_line_is m is least others ring = by (ring_line m) (rings_are_named m is)
  where
    by : (o : Option Name) → NamesRing m o → o ≡ Some least
    by None acyclic = absurd (acyclic (least ∷ others) ring.ring)
    by (Some other) named = ap Some (one_least m other least named.0 others named.1 ring)

pub no_ring_line : (m : Data) → IsWorkbook m → IsAcyclic m → ring_line m ≡ None
no_ring_line m is acyclic = by (ring_line m) (rings_are_named m is)
  where
    by : (o : Option Name) → NamesRing m o → o ≡ None
    by None h = refl
    by (Some least) named = absurd (acyclic (least ∷ named.0) named.1.ring)

-- where no line is named there is no ring
pub none_named : (m : Data) → IsWorkbook m → ring_line m ≡ None → IsAcyclic m
none_named m is e = subst (NamesRing m) e (rings_are_named m is)

-- ---- what is arranged

-- data that keep the rules of the book and have no ring are those that the rows make
arranged_as : (m n : Data) (rows : List Row) (rest : Option Rule) (kept_bytes : ℕ) → arranged m rows rest kept_bytes ≡ Ok n → (planned m rows rest kept_bytes ≡ Ok n) × (ring_line n ≡ None)
unfolding arranged
arranged_as m n rows rest kept_bytes e = by (planned m rows rest kept_bytes) e
  where
    same : (k : Data) (o : Option Name) → ring_line k ≡ o → without_ring k o ≡ Ok n → (◌≡◌ {A = Result Data Rule} (Ok k) (Ok n)) × (ring_line n ≡ None)
    same k None none e = let is : k ≡ n = cc in (e, subst (λ j. ring_line j ≡ None) is none)
    same k (Some name) some e = absurd (cc)

    by : (r : Result Data Rule) → after_rows (λ n. without_ring n (ring_line n)) r ≡ Ok n → (r ≡ Ok n) × (ring_line n ≡ None)
    by (Err rule) e = absurd (cc)
    by (Ok k) e = same k (ring_line k) refl e

-- and they are a workbook again, without a ring
pub arranged_keeps : (m n : Data) (rows : List Row) (rest : Option Rule) (kept_bytes : ℕ) → IsWorkbook m → AllByRecursion IsWellFormed rows → arranged m rows rest kept_bytes ≡ Ok n → IsWorkbook n × IsAcyclic n
arranged_keeps m n rows rest kept_bytes is well e =
    let parts = arranged_as m n rows rest kept_bytes e in
    let kept = plans_keep m n rows rest kept_bytes is well parts.0 in
    (kept, none_named n kept parts.1)
