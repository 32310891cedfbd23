-- The least unsound place, from any list that has each fault.
use Rattle.std.proofs.Common.{◌≡◌, ◌⊎◌, inl, inr, Bool, true, false, cond, not, ◌||◌, List, [], ◌∷◌, ◌++◌, map, filter, fold, flat_map, Option, Some, None, is_some, refl, sym, ap, ◌∙◌, subst, Ordering, Less, Equal, Greater, is_eq, if◌then◌else◌}
use Rattle.std.specs.Ordering.{eq_by_cmp, is_gt, min_by_ordering, ordering_reverse}
use Rattle.std.specs.Cmp.{IsTotalOrder}
use Rattle.std.specs.Cmp.Lexicographic.{bytes_decides, nat_list_cmp_total}
use Rattle.std.specs.FinMap.{entries, get}
use Rattle.std.specs.List.{list_any}
use Rattle.std.specs.Option.{option_map_or}
use Rattle.std.specs.Str.{bytes_eq}
use Rattle.std.proofs.lemmas.Cmp.{on_total, then_total, tied_itself, upto}
use Rattle.std.proofs.lemmas.List.Folds.{list_any-append}
use Rattle.std.proofs.lemmas.Bool.{or_cases, false_from_ne_true, or_left, or_right, both_ways}
use Rattle.ghg_equations.specs.declared.eq_id.EqId.{EqId}
use Rattle.ghg_equations.specs.Table.{Quantity, parameters}
use Rattle.ghg_definitions.specs.declared.place.Place.{Place}
use Rattle.ghg_definitions.specs.declared.record.Record.{Record}
use Rattle.ghg_definitions.specs.declared.record.Record.TheVariants as entry
use Rattle.ghg_definitions.specs.declared.record.RecordKey.{RecordKey}
use Rattle.ghg_definitions.specs.declared.record.RecordKey.TheVariants as key
use Rattle.ghg_definitions.specs.Data.{Data, Name, as_binding, as_line, as_uncertainty, binding, first_name, line, uncertainty}
use Rattle.ghg_definitions.specs.Listed.{IsListed}
use Rattle.ghg_definitions.specs.Rules.{is_sound, is_uncertainty, least_place, lesser_place, place_cmp, places, places_in, unsound_place}
use Rattle.ghg_definitions.specs.Sound.{IsConsistent, IsRecord}
use Rattle.ghg_definitions.proofs.Alike.{both, first_so, second_so}
use Rattle.ghg_definitions.proofs.Keys.{both_equal, equal_by, keys_same, keys_total, names_same}
use Rattle.ghg_definitions.proofs.Members.{any_entry, entry_any}
use Rattle.ghg_units.specs.Parameter.{is_parameter, uncertainty_word}
use Rattle.ghg_data.specs.Faults.{considered, is_fault, is_parameter_place, is_place, takes, uncertainty_place}
use Rattle.ghg_data.proofs.EquationParameters.{parameter_apart, takes_apart}

-- ---- lists

abbrev pub IsAmong : {A : Type 0} → A → List A → Type 0
IsAmong = IsListed

pub among_left : {A : Type 0} (x : A) (xs ys : List A) → IsAmong x xs → IsAmong x (xs ++ ys)
among_left x [] ys h = absurd h
among_left x (z ∷ zs) ys (inl e) = inl e
among_left x (z ∷ zs) ys (inr h) = inr (among_left x zs ys h)

pub among_right : {A : Type 0} (x : A) (xs ys : List A) → IsAmong x ys → IsAmong x (xs ++ ys)
among_right x [] ys h = h
among_right x (z ∷ zs) ys h = inr (among_right x zs ys h)

pub among_either : {A : Type 0} (x : A) (xs ys : List A) → IsAmong x (xs ++ ys) → IsAmong x xs ⊎ IsAmong x ys
among_either x [] ys h = inr h
among_either x (z ∷ zs) ys (inl e) = inl (inl e)
among_either x (z ∷ zs) ys (inr h) = elim (among_either x zs ys h) [ inl i ↦ inl (inr i) | inr j ↦ inr j ]

pub among_flat : {A B : Type 0} (f : A → List B) (x : A) (y : B) (xs : List A) → IsAmong x xs → IsAmong y (f x) → IsAmong y (flat_map f xs)
among_flat f x y [] h i = absurd h
among_flat f x y (z ∷ zs) (inl e) i = among_left y (f z) (flat_map f zs) (subst (λ w. IsAmong y (f w)) e i)
among_flat f x y (z ∷ zs) (inr h) i = among_right y (f z) (flat_map f zs) (among_flat f x y zs h i)

flat_among : {A B : Type 0} (f : A → List B) (y : B) (xs : List A) → IsAmong y (flat_map f xs) → (x : A) × IsAmong x xs × IsAmong y (f x)
flat_among f y [] h = absurd h
flat_among f y (x ∷ xs) h = elim (among_either y (f x) (flat_map f xs) h) [
  | inl here ↦ (x, inl refl, here)
  | inr there ↦ let rest = flat_among f y xs there in (rest.0, inr rest.1, rest.2)
]

pub filter_among : {A : Type 0} (test : A → Bool) (x : A) (xs : List A) → IsAmong x xs → test x ≡ true → IsAmong x (filter test xs)
filter_among test x [] h e = absurd h
filter_among test x (y ∷ ys) h e = step (test y) refl h (λ i. filter_among test x ys i e)
  where
    step : (b : Bool) → test y ≡ b → IsAmong x (y ∷ ys) → (IsAmong x ys → IsAmong x (filter test ys)) → IsAmong x (cond b (y ∷ filter test ys) (filter test ys))
    step true t (inl is) rest = inl is
    step true t (inr i) rest = inr (rest i)
    step false t (inl is) rest = absurd (both_ways (test y) t (ap test (sym is) ∙ e))
    step false t (inr i) rest = rest i

pub among_filter : {A : Type 0} (test : A → Bool) (x : A) (xs : List A) → IsAmong x (filter test xs) → IsAmong x xs × (test x ≡ true)
among_filter test x [] h = absurd h
among_filter test x (y ∷ ys) h = step (test y) refl h (λ i. among_filter test x ys i)
  where
    step : (b : Bool) → test y ≡ b → IsAmong x (cond b (y ∷ filter test ys) (filter test ys)) → (IsAmong x (filter test ys) → IsAmong x ys × (test x ≡ true)) → IsAmong x (y ∷ ys) × (test x ≡ true)
    step true t (inl is) rest = (inl is, ap test is ∙ t)
    step true t (inr i) rest = let r = rest i in (inr r.0, r.1)
    step false t i rest = let r = rest i in (inr r.0, r.1)

-- ---- the order of places

pub places_total : IsTotalOrder place_cmp
places_total = then_total (on_total (λ (p : Place). p.line) nat_list_cmp_total) (on_total (λ (p : Place). p.parameter) nat_list_cmp_total)

pub places_same : (p q : Place) → place_cmp p q ≡ Equal → p ≡ q
places_same p q e =
    let parts = both_equal _ _ e in
    let one = names_same p.line q.line parts.0 in
    let other = names_same p.parameter q.parameter parts.1 in
    λ i. record { line = one i; parameter = other i }

-- the first is not behind the second
abbrev Upto : Place → Place → Type 0
Upto p q = is_gt (place_cmp p q) ≡ false

upto_itself : (p : Place) → Upto p p
upto_itself p = ap is_gt (tied_itself places_total p)

pub upto_both : (p q : Place) → Upto p q → Upto q p → p ≡ q
upto_both p q a b = by (place_cmp p q) refl a (ap is_gt (sym (places_total.antisymm q p)) ∙ b)
  where
    by : (o : Ordering) → place_cmp p q ≡ o → is_gt o ≡ false → is_gt (ordering_reverse (place_cmp p q)) ≡ false → p ≡ q
    by Less e a b = absurd (both_ways _ b (ap (λ o. is_gt (ordering_reverse o)) e))
    by Equal e a b = places_same p q e
    by Greater e a b = absurd (both_ways true a refl)

lesser_either : (p q : Place) → (lesser_place p (Some q) ≡ p) ⊎ (lesser_place p (Some q) ≡ q)
lesser_either p q = by (place_cmp p q)
  where
    by : (o : Ordering) → (min_by_ordering o p q ≡ p) ⊎ (min_by_ordering o p q ≡ q)
    by Less = inl refl
    by Equal = inl refl
    by Greater = inr refl

lesser_first : (p : Place) (r : Option Place) → Upto (lesser_place p r) p
lesser_first p None = upto_itself p
lesser_first p (Some q) = by (place_cmp p q) refl
  where
    by : (o : Ordering) → place_cmp p q ≡ o → Upto (min_by_ordering o p q) p
    by Less e = upto_itself p
    by Equal e = upto_itself p
    by Greater e = ap is_gt (places_total.antisymm q p ∙ ap ordering_reverse e)

lesser_other : (p q : Place) → Upto (lesser_place p (Some q)) q
lesser_other p q = by (place_cmp p q) refl
  where
    by : (o : Ordering) → place_cmp p q ≡ o → Upto (min_by_ordering o p q) q
    by Less e = ap is_gt e
    by Equal e = ap is_gt e
    by Greater e = upto_itself q

-- ---- the least of a list

IsLeastAmong : List Place → Option Place → Type 0
IsLeastAmong ps None = (p : Place) → IsAmong p ps → ⊥
IsLeastAmong ps (Some q) = IsAmong q ps × ((p : Place) → IsAmong p ps → Upto q p)

least_step : (p : Place) (ps : List Place) (r : Option Place) → IsLeastAmong ps r → IsLeastAmong (p ∷ ps) (Some (lesser_place p r))
unfolding IsLeastAmong
least_step p ps None none = (inl refl, λ q i. elim i [ inl e ↦ subst (Upto p) (sym e) (upto_itself p) | inr h ↦ absurd (none q h) ])
least_step p ps (Some r) least = (
  elim (lesser_either p r) [ inl e ↦ inl e | inr e ↦ inr (subst (λ x. IsAmong x ps) (sym e) least.0) ],
  λ q i. elim i [
    | inl e ↦ subst (Upto (lesser_place p (Some r))) (sym e) (lesser_first p (Some r))
    | inr h ↦ upto places_total (lesser_place p (Some r)) r q (lesser_other p r) (least.1 q h)
  ],
)

least_among : (ps : List Place) → IsLeastAmong ps (least_place ps)
unfolding IsLeastAmong
least_among [] = λ p h. h
least_among (p ∷ ps) = least_step p ps (least_place ps) (least_among ps)

-- ---- the places of data

same : Place → Place → Bool
same p q = eq_by_cmp place_cmp p q

any_among : (p : Place) (ps : List Place) → list_any (same p) ps ≡ true → IsAmong p ps
unfolding same
any_among p [] e = absurd (cc)
any_among p (q ∷ qs) e = by (eq_by_cmp place_cmp p q) refl e (any_among p qs)
  where
    by : (b : Bool) → eq_by_cmp place_cmp p q ≡ b → b || list_any (λ x. eq_by_cmp place_cmp p x) qs ≡ true → (list_any (λ x. eq_by_cmp place_cmp p x) qs ≡ true → IsAmong p qs) → (p ≡ q) ⊎ IsAmong p qs
    by true is e rest = inl (places_same p q (equal_by _ is))
    by false is e rest = inr (rest e)

among_any : (p : Place) (ps : List Place) → IsAmong p ps → list_any (same p) ps ≡ true
unfolding same
among_any p [] h = absurd h
among_any p (q ∷ qs) (inl e) = or_left _ _ (subst (λ x. is_eq (place_cmp p x) ≡ true) e (ap is_eq (tied_itself places_total p)))
among_any p (q ∷ qs) (inr h) = or_right (eq_by_cmp place_cmp p q) _ (among_any p qs h)

abbrev pub parameter_at : Name → Quantity → Place
parameter_at l q = record { line = l; parameter = q.name }

pub takes_among : (l n : Name) (qs : List Quantity) → list_any (λ q. bytes_eq q.name n) qs ≡ true → IsAmong (record { line = l; parameter = n }) (map (parameter_at l) qs)
takes_among l n [] e = absurd (cc)
takes_among l n (q ∷ qs) e = by (bytes_eq q.name n) refl e (takes_among l n qs)
  where
    by : (b : Bool) → bytes_eq q.name n ≡ b → b || list_any (λ x. bytes_eq x.name n) qs ≡ true → (list_any (λ x. bytes_eq x.name n) qs ≡ true → IsAmong (record { line = l; parameter = n }) (map (parameter_at l) qs)) → IsAmong (record { line = l; parameter = n }) (parameter_at l q ∷ map (parameter_at l) qs)
    by true is e rest = inl (let one = (bytes_decides q.name n).0 is in λ i. record { line = l; parameter = sym one i })
    by false is e rest = inr (rest e)

among_takes : (p : Place) (l : Name) (qs : List Quantity) → IsAmong p (map (parameter_at l) qs) → (p.line ≡ l) × (list_any (λ q. bytes_eq q.name p.parameter) qs ≡ true)
among_takes p l [] h = absurd h
among_takes p l (q ∷ qs) (inl e) = (ap (λ (x : Place). x.line) e, or_left _ _ ((bytes_decides q.name p.parameter).1 (sym (ap (λ (x : Place). x.parameter) e))))
among_takes p l (q ∷ qs) (inr h) = let rest = among_takes p l qs h in (rest.0, or_right (bytes_eq q.name p.parameter) _ rest.1)

any_flat : {A : Type 0} (f : A → List Place) (p : Place → Bool) (xs : List A) → list_any p (flat_map f xs) ≡ list_any (λ x. list_any p (f x)) xs
any_flat f p [] = refl
any_flat f p (x ∷ xs) = list_any-append p (f x) (flat_map f xs) ∙ ap (λ b. list_any p (f x) || b) (any_flat f p xs)

places_of : Data → RecordKey × Record → List Place
places_of m e = places_in e.0 (line m (first_name e.0))

held_binding : (o : Option Record) → is_some (as_binding o) ≡ true → (r : Record) × (o ≡ Some r)
held_binding None e = absurd (cc)
held_binding (Some r) e = (r, refl)

pub held_line : (o : Option Record) (e : EqId) → as_line o ≡ Some e → (r : Record) × (o ≡ Some r)
held_line None e h = absurd (cc)
held_line (Some r) e h = (r, refl)

pub with_equation : (o : Option EqId) (n : Name) → option_map_or (λ e. takes e n) o false ≡ true → (e : EqId) × (o ≡ Some e) × (takes e n ≡ true)
with_equation None n h = absurd (cc)
with_equation (Some e) n h = (e, refl, h)

held_uncertainty : (o : Option Record) → is_some (as_uncertainty o) ≡ true → (r : Record) × (o ≡ Some r)
held_uncertainty None e = absurd (cc)
held_uncertainty (Some r) e = (r, refl)

-- the place of an uncertainty record is its line's
pub uncertain_place : (p : Place) → is_uncertainty p ≡ true → p ≡ uncertainty_place p.line
uncertain_place p u = let word = (bytes_decides p.parameter uncertainty_word).0 u in λ i. record { line = p.line; parameter = word i }

pub place_parameter : (m : Data) (p : Place) → is_uncertainty p ≡ false → is_place m p ≡ is_parameter_place m p
place_parameter m p u = ap (λ b. if b then is_some (uncertainty m p.line) else is_parameter_place m p) u

pub place_uncertain : (m : Data) (p : Place) → is_uncertainty p ≡ true → is_place m p ≡ is_some (uncertainty m p.line)
place_uncertain m p u = ap (λ b. if b then is_some (uncertainty m p.line) else is_parameter_place m p) u

listed_at : (m : Data) (p : Place) (k : RecordKey) (r : Record) → get m k ≡ Some r → IsAmong p (places_of m (k, r)) → IsAmong p (places m)
unfolding places_of
listed_at m p k r at h = any_among p (places m) (any_flat (places_of m) (same p) (entries m)
    ∙ entry_any keys_total keys_same (λ (e : RecordKey × Record). list_any (same p) (places_of m e)) m k r at (among_any p (places_of m (k, r)) h))

parameter_listed : (m : Data) (p : Place) → is_parameter_place m p ≡ true → IsAmong p (places m)
unfolding places_of
parameter_listed m p h = elim (or_cases (is_some (binding m p.line p.parameter)) _ h) [
  | inl bound ↦ let r = held_binding (get m (key.Bind p.line p.parameter)) bound in listed_at m p (key.Bind p.line p.parameter) r.0 r.1 (inl refl)
  | inr taken ↦
      let e = with_equation (line m p.line) p.parameter taken in
      let r = held_line (get m (key.Line p.line)) e.0 e.1 in
      listed_at m p (key.Line p.line) r.0 r.1
      (subst (λ o. IsAmong p (places_in (key.Line p.line) o)) (sym e.1) (takes_among p.line p.parameter (parameters e.0) e.2))
]

place_listed : (m : Data) (p : Place) → is_place m p ≡ true → IsAmong p (places m)
unfolding places_of
place_listed m p h = by (is_uncertainty p) refl
  where
    by : (b : Bool) → is_uncertainty p ≡ b → IsAmong p (places m)
    by true u =
        let r = held_uncertainty (get m (key.Uncert p.line)) (sym (place_uncertain m p u) ∙ h) in
        listed_at m p (key.Uncert p.line) r.0 r.1 (inl (uncertain_place p u))
    by false u = parameter_listed m p (sym (place_parameter m p u) ∙ h)

bound_record : (l n : Name) (r : Record) → IsRecord (key.Bind l n) r → is_some (as_binding (Some r)) ≡ true
bound_record l n (entry.Bind b) h = refl
bound_record l n _ h = absurd h

named : (n : Name) (b : Bool) → is_parameter n ≡ b → (if b then Some n else None) ≡ Some n → is_parameter n ≡ true
named n true e h = e
named n false e h = absurd (cc)

bound_name : (l n : Name) (r : Record) → IsRecord (key.Bind l n) r → is_parameter n ≡ true
bound_name l n (entry.Bind b) h = named n (is_parameter n) refl h.1
bound_name l n _ h = absurd h

uncertain_record : (l : Name) (r : Record) → IsRecord (key.Uncert l) r → is_some (as_uncertainty (Some r)) ≡ true
uncertain_record l (entry.Uncert a f) h = refl
uncertain_record l _ h = absurd h

listed_by : {m : Data} → IsConsistent m → (p : Place) (k : RecordKey) (r : Record) → get m k ≡ Some r → (o : Option EqId) → line m (first_name k) ≡ o → IsAmong p (places_in k o) → is_place m p ≡ true
listed_by {m} is p key.Span r at o e h = absurd h
listed_by {m} is p (key.Activity name year) r at o e h = absurd h
listed_by {m} is p (key.Factor name start) r at o e h = absurd h
listed_by {m} is p (key.Line name) r at None e h = absurd h
listed_by {m} is p (key.Line name) r at (Some q) e h =
    let taken = among_takes p name (parameters q) h in
    place_parameter m p (takes_apart q p.parameter taken.1) ∙ or_right (is_some (binding m p.line p.parameter)) _ (ap (λ o. option_map_or (λ e. takes e p.parameter) o false) (ap (line m) taken.0 ∙ e) ∙ taken.1)
listed_by {m} is p (key.Bind l n) r at o e (inl one) =
    place_parameter m p (ap (λ (x : Place). is_uncertainty x) one ∙ parameter_apart n (bound_name l n r (is.records (key.Bind l n) r at)))
    ∙ or_left _ _ (ap (λ x. is_some (binding m x.line x.parameter)) one ∙ ap (λ o. is_some (as_binding o)) at ∙ bound_record l n r (is.records (key.Bind l n) r at))
listed_by {m} is p (key.Bind l n) r at o e (inr h) = absurd h
listed_by {m} is p (key.Uncert l) r at o e (inl one) =
    ap (is_place m) one ∙ ap (λ o. is_some (as_uncertainty o)) at ∙ uncertain_record l r (is.records (key.Uncert l) r at)
listed_by {m} is p (key.Uncert l) r at o e (inr h) = absurd h

listed_place : {m : Data} → IsConsistent m → (p : Place) → IsAmong p (places m) → is_place m p ≡ true
unfolding places_of
listed_place {m} is p h =
    let found = any_entry keys_total keys_same (λ (e : RecordKey × Record). list_any (same p) (places_of m e)) m (sym (any_flat (places_of m) (same p) (entries m)) ∙ among_any p (places m) h) in
    listed_by is p found.0 found.1 found.2 (line m (first_name found.0)) refl (any_among p _ found.3)

-- ---- the least fault of data

-- there is no fault, or this is the least
abbrev pub IsLeastFault : Data → Option Place → Type 0
IsLeastFault m None = (p : Place) → is_fault m p ≡ false
IsLeastFault m (Some q) = (is_fault m q ≡ true) × ((p : Place) → is_fault m p ≡ true → is_gt (place_cmp q p) ≡ false)

unsound : Data → Place → Bool
unsound m p = not (is_sound m p)

fault_among : (m : Data) (p : Place) → is_fault m p ≡ true → IsAmong p (filter (unsound m) (places m))
unfolding unsound
fault_among m p h = filter_among (unsound m) p (places m) (place_listed m p (first_so _ _ h)) (second_so (is_place m p) _ h)

among_fault : {m : Data} → IsConsistent m → (p : Place) → IsAmong p (filter (unsound m) (places m)) → is_fault m p ≡ true
unfolding unsound
among_fault {m} is p h = let parts = among_filter (unsound m) p (places m) h in both _ _ (listed_place is p parts.0) parts.1

least_by : {m : Data} → IsConsistent m → (r : Option Place) → IsLeastAmong (filter (unsound m) (places m)) r → IsLeastFault m r
unfolding IsLeastAmong
least_by {m} is None none = λ p. false_from_ne_true (is_fault m p) (λ h. none p (fault_among m p h))
least_by {m} is (Some q) least = (among_fault is q least.0, λ p h. least.1 p (fault_among m p h))

pub least_fault : {m : Data} → IsConsistent m → IsLeastFault m (unsound_place m)
unfolding unsound_place unsound
least_fault {m} is = least_by is (least_place (filter (unsound m) (places m))) (least_among (filter (unsound m) (places m)))

one_least : (m : Data) (r s : Option Place) → IsLeastFault m r → IsLeastFault m s → r ≡ s
one_least m None None f g = refl
one_least m None (Some q) f g = absurd (both_ways _ (f q) g.0)
one_least m (Some p) None f g = absurd (both_ways _ (g p) f.0)
one_least m (Some p) (Some q) f g = ap Some (upto_both p q (f.1 q g.0) (g.1 p f.0))

-- ---- the least fault among places that are looked at in turn

Below : Option Place → Place → Type 0
Below None p = ⊥
Below (Some q) p = Upto q p

Sure : Data → Option Place → Type 0
Sure m None = Unit {0}
Sure m (Some q) = is_fault m q ≡ true

lesser_kept : (p : Place) (r : Option Place) (q : Place) → Below r q → Upto (lesser_place p r) q
unfolding Below
lesser_kept p None q h = absurd h
lesser_kept p (Some r) q h = upto places_total (lesser_place p (Some r)) r q (lesser_other p r) h

below_kept : (m : Data) (r : Option Place) (p q : Place) → Below r q → Below (considered m r p) q
unfolding Below
below_kept m r p q h = by (is_fault m p)
  where
    by : (b : Bool) → Below (if b then Some (lesser_place p r) else r) q
    by true = lesser_kept p r q h
    by false = h

below_new : (m : Data) (r : Option Place) (p : Place) → is_fault m p ≡ true → Below (considered m r p) p
unfolding Below
below_new m r p h = subst (λ b. Below (if b then Some (lesser_place p r) else r) p) (sym h) (lesser_first p r)

lesser_sure : (m : Data) (r : Option Place) (p : Place) → is_fault m p ≡ true → Sure m r → is_fault m (lesser_place p r) ≡ true
unfolding Sure
lesser_sure m None p h s = h
lesser_sure m (Some q) p h s = elim (lesser_either p q) [ inl e ↦ ap (is_fault m) e ∙ h | inr e ↦ ap (is_fault m) e ∙ s ]

sure_kept : (m : Data) (r : Option Place) (p : Place) → Sure m r → Sure m (considered m r p)
unfolding Sure
sure_kept m r p s = by (is_fault m p) refl
  where
    by : (b : Bool) → is_fault m p ≡ b → Sure m (if b then Some (lesser_place p r) else r)
    by true h = lesser_sure m r p h s
    by false h = s

all_kept : (m : Data) (ps : List Place) (r : Option Place) (q : Place) → Below r q → Below (fold (considered m) r ps) q
all_kept m [] r q h = h
all_kept m (p ∷ ps) r q h = all_kept m ps (considered m r p) q (below_kept m r p q h)

all_below : (m : Data) (ps : List Place) (r : Option Place) (q : Place) → IsAmong q ps → is_fault m q ≡ true → Below (fold (considered m) r ps) q
all_below m [] r q i h = absurd i
all_below m (p ∷ ps) r q (inl e) h = all_kept m ps (considered m r p) q (subst (Below (considered m r p)) (sym e) (below_new m r p (ap (is_fault m) (sym e) ∙ h)))
all_below m (p ∷ ps) r q (inr i) h = all_below m ps (considered m r p) q i h

all_sure : (m : Data) (ps : List Place) (r : Option Place) → Sure m r → Sure m (fold (considered m) r ps)
all_sure m [] r s = s
all_sure m (p ∷ ps) r s = all_sure m ps (considered m r p) (sure_kept m r p s)

seen_least : (m : Data) (r : Option Place) → Sure m r → ((p : Place) → is_fault m p ≡ true → Below r p) → IsLeastFault m r
unfolding Sure Below
seen_least m None s h = λ p. false_from_ne_true (is_fault m p) (h p)
seen_least m (Some q) s h = (s, h)

-- looking at places that have each fault among them finds the least
pub unsound_found : {m : Data} → IsConsistent m → (ps : List Place) → ((p : Place) → is_fault m p ≡ true → IsAmong p ps) → fold (considered m) None ps ≡ unsound_place m
unfolding Sure
unsound_found {m} is ps each = one_least m (fold (considered m) None ps) (unsound_place m) (seen_least m _ (all_sure m ps None tt) (λ p h. all_below m ps None p (each p h) h)) (least_fault is)
