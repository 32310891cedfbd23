-- Where the old data are sound, each fault of the new stands at an old line's parameter or under a changed key.
use Rattle.std.proofs.Common.{◌≡◌, ◌⊎◌, inl, inr, Bool, true, false, cond, not, ◌&&◌, ◌||◌, List, [], ◌∷◌, ◌++◌, map, flat_map, Option, Some, None, is_some, refl, sym, ap, ◌∙◌, subst}
use Rattle.std.specs.Ordering.{eq_by_cmp}
use Rattle.std.specs.FinMap.{contains_key-keys, find as find_key, get, keys}
use Rattle.std.specs.List.{cons_option, filter_map, find, list_any}
use Rattle.std.specs.Option.{option_map_or}
use Rattle.std.specs.Str.{bytes_eq}
use Rattle.std.proofs.lemmas.Bool.{or_cases, or_left, or_right}
use Rattle.ghg_equations.specs.declared.eq_id.EqId.{EqId}
use Rattle.ghg_equations.specs.Table.{Quantity, parameters}
use Rattle.ghg_definitions.specs.declared.place.Place.{Place}
use Rattle.ghg_definitions.specs.declared.record.Record.{Record}
use Rattle.ghg_definitions.specs.declared.record.RecordKey.{RecordKey}
use Rattle.ghg_definitions.specs.declared.record.RecordKey.TheVariants as key
use Rattle.ghg_definitions.specs.Data.{Data, Name, as_binding, as_line, as_uncertainty, binding, key_cmp, line, line_name, line_names, uncertainty}
use Rattle.ghg_definitions.specs.Rules.{binds_parameter, is_bound, is_sound, is_uncertainty, places_in}
use Rattle.ghg_definitions.specs.Sound.{IsWorkbook}
use Rattle.ghg_definitions.proofs.Alike.{first_so, second_so}
use Rattle.ghg_definitions.proofs.Consistent.{workbook_consistent}
use Rattle.ghg_definitions.proofs.Keys.{equal_by, keys_same}
use Rattle.ghg_data.specs.Changes.{Change, applied}
use Rattle.ghg_data.specs.Faults.{is_fault, is_place, key_places, line_places, places_about, takes}
use Rattle.ghg_data.proofs.Applied.{get-applied, over}
use Rattle.ghg_data.proofs.EquationParameters.{uncertain_at}
use Rattle.ghg_data.proofs.Faults.{IsAmong, IsLeastFault, among_flat, among_left, among_right, held_line, least_fault, place_parameter, place_uncertain, takes_among, uncertain_place, with_equation}

-- ---- keys

pub found_change : (k : RecordKey) (cs : List Change) (c : Option Record) → find_key key_cmp k cs ≡ Some c → IsAmong k (map (λ d. d.0) cs)
found_change k [] c e = absurd (cc)
found_change k (d ∷ cs) c e = by (eq_by_cmp key_cmp k d.0) refl e (λ f. found_change k cs c f)
  where
    by : (b : Bool) → eq_by_cmp key_cmp k d.0 ≡ b → cond b (Some d.1) (find_key key_cmp k cs) ≡ Some c → (find_key key_cmp k cs ≡ Some c → IsAmong k (map (λ d. d.0) cs)) → (k ≡ d.0) ⊎ IsAmong k (map (λ d. d.0) cs)
    by true is f rest = inl (keys_same k d.0 (equal_by _ is))
    by false is f rest = inr (rest f)

-- a key is changed, or has what it had
pub changed_or_kept : (m : Data) (cs : List Change) (k : RecordKey) → IsAmong k (map (λ d. d.0) cs) ⊎ (get (applied m cs) k ≡ get m k)
changed_or_kept m cs k = by (find_key key_cmp k cs) refl
  where
    by : (o : Option (Option Record)) → find_key key_cmp k cs ≡ o → IsAmong k (map (λ d. d.0) cs) ⊎ (get (applied m cs) k ≡ get m k)
    by None e = inr (get-applied m cs k ∙ ap (λ o. over o (get m k)) e)
    by (Some c) e = inl (found_change k cs c e)

pub found_key : (q : RecordKey) (ks : List RecordKey) → list_any (eq_by_cmp key_cmp q) ks ≡ true → IsAmong q ks
found_key q [] e = absurd (cc)
found_key q (k ∷ ks) e = by (eq_by_cmp key_cmp q k) refl e (found_key q ks)
  where
    by : (b : Bool) → eq_by_cmp key_cmp q k ≡ b → b || list_any (eq_by_cmp key_cmp q) ks ≡ true → (list_any (eq_by_cmp key_cmp q) ks ≡ true → IsAmong q ks) → (q ≡ k) ⊎ IsAmong q ks
    by true is f rest = inl (keys_same q k (equal_by _ is))
    by false is f rest = inr (rest f)

among_more : (l : Name) (o : Option Name) (xs : List Name) → IsAmong l xs → IsAmong l (cons_option o xs)
among_more l None xs h = h
among_more l (Some x) xs h = inr h

pub line_named : (l : Name) (ks : List RecordKey) → IsAmong (key.Line l) ks → IsAmong l (filter_map line_name ks)
line_named l [] h = absurd h
line_named l (k ∷ ks) h = elim h [
  | inl e ↦ subst (λ x. IsAmong l (cons_option (line_name x) (filter_map line_name ks))) e (inl refl)
  | inr i ↦ among_more l (line_name k) _ (line_named l ks i)
]

pub line_among : (m : Data) (l : Name) (e : EqId) → line m l ≡ Some e → IsAmong l (line_names m)
line_among m l e h =
    let r = held_line (get m (key.Line l)) e h in
    line_named l (keys m) (found_key (key.Line l) (keys m) (sym (contains_key-keys m (key.Line l)) ∙ ap is_some r.1))

-- ---- what a sound place is

find_any : {A : Type 0} (p : A → Bool) (f : A → Bool) (xs : List A) → option_map_or f (find p xs) false ≡ true → list_any p xs ≡ true
find_any p f [] h = absurd (cc)
find_any p f (x ∷ xs) h = by (p x) h (find_any p f xs)
  where
    by : (b : Bool) → option_map_or f (cond b (Some x) (find p xs)) false ≡ true → (option_map_or f (find p xs) false ≡ true → list_any p xs ≡ true) → b || list_any p xs ≡ true
    by true h rest = refl
    by false h rest = rest h

sound_by : (m : Data) (n : Name) (o : Option EqId) (f : EqId → Quantity → Bool) → option_map_or (λ e. option_map_or (f e) (find (λ q. bytes_eq q.name n) (parameters e)) false) o false ≡ true → (e : EqId) × (o ≡ Some e) × (takes e n ≡ true)
sound_by m n None f h = absurd (cc)
sound_by m n (Some e) f h = (e, refl, find_any (λ (q : Quantity). bytes_eq q.name n) (f e) (parameters e) h)

-- the line is there,
pub sound_line : (m : Data) (p : Place) → is_sound m p ≡ true → (e : EqId) × (line m p.line ≡ Some e)
unfolding is_sound
sound_line m p h = by (line m p.line) h
  where
    by : (o : Option EqId) → option_map_or (λ e. is_uncertainty p || binds_parameter m e p.parameter (binding m p.line p.parameter)) o false ≡ true → (e : EqId) × (o ≡ Some e)
    by None h = absurd (cc)
    by (Some e) h = (e, refl)

-- and takes the parameter
pub sound_takes : (m : Data) (p : Place) → is_uncertainty p ≡ false → is_sound m p ≡ true → (e : EqId) × (line m p.line ≡ Some e) × (takes e p.parameter ≡ true)
unfolding is_sound
sound_takes m p u h = sound_by m p.parameter (line m p.line) (λ e q. is_bound m q.dim (binding m p.line p.parameter))
    ((λ i. option_map_or (λ e. sym u i || binds_parameter m e p.parameter (binding m p.line p.parameter)) (line m p.line) false) ∙ h)

-- a fault at the place of an uncertainty record: the line has one, and is absent
pub left_behind : (m : Data) (p : Place) → is_uncertainty p ≡ true → is_fault m p ≡ true → (is_some (uncertainty m p.line) ≡ true) × (line m p.line ≡ None)
left_behind m p u h = let both = sym (uncertain_at m p u) ∙ h in (first_so _ _ both, absent (line m p.line) (second_so (is_some (uncertainty m p.line)) _ both))
  where
    absent : (o : Option EqId) → not (is_some o) ≡ true → o ≡ None
    absent None e = refl
    absent (Some q) e = absurd (cc)

pub never_both : {A : Type 0} (o : Option A) (x : A) → o ≡ Some x → o ≡ None → ⊥
never_both o x e f = cc

no_fault : (a b : Bool) → a && not b ≡ false → a ≡ true → b ≡ true
no_fault true true e f = refl
no_fault true false e f = absurd (cc)
no_fault false b e f = absurd (cc)

-- ---- what is looked at

pub sound_before : {m : Data} → IsWorkbook m → (p : Place) → is_place m p ≡ true → is_sound m p ≡ true
sound_before {m} w p h = no_fault (is_place m p) (is_sound m p) (subst (IsLeastFault m) w.bindings (least_fault (workbook_consistent w)) p) h

module _ (m : Data) (w : IsWorkbook m) (cs : List Change) where
  abbrev pub keyed : List Place
  keyed = flat_map (key_places (applied m cs)) (map (λ d. d.0) cs)

  by_key : (p : Place) (k : RecordKey) → IsAmong k (map (λ d. d.0) cs) → IsAmong p (key_places (applied m cs) k) → IsAmong p keyed
  by_key p k i h = among_flat (key_places (applied m cs)) k p (map (λ d. d.0) cs) i h

  -- the record was changed, or its line is
  by_uncertainty : (p : Place) → is_uncertainty p ≡ true → is_fault (applied m cs) p ≡ true → IsAmong p keyed
  by_uncertainty p u h =
      let parts = left_behind (applied m cs) p u h in
      elim (changed_or_kept m cs (key.Uncert p.line)) [
        | inl changed ↦ by_key p (key.Uncert p.line) changed (inl (uncertain_place p u))
        | inr kept ↦
            let e = sound_line m p (sound_before w p (place_uncertain m p u ∙ ap (λ o. is_some (as_uncertainty o)) (sym kept) ∙ parts.0)) in
            elim (changed_or_kept m cs (key.Line p.line)) [
              | inl changed ↦ by_key p (key.Line p.line) changed (subst (λ o. IsAmong p (places_about (key.Line p.line) o)) (sym parts.1) (inl (uncertain_place p u)))
              | inr stays ↦ absurd (never_both _ e.0 (ap as_line stays ∙ e.1) parts.1)
            ]
      ]

  -- the place was sound, and its binding stays
  abbrev pub WasSound : Place → Type 0
  WasSound p = (is_uncertainty p ≡ false) × (get (applied m cs) (key.Bind p.line p.parameter) ≡ get m (key.Bind p.line p.parameter)) × (is_sound m p ≡ true)

  by_parameter : (p : Place) → is_uncertainty p ≡ false → is_fault (applied m cs) p ≡ true → IsAmong p keyed ⊎ WasSound p
  by_parameter p u h = elim (changed_or_kept m cs (key.Bind p.line p.parameter)) [
    | inl changed ↦ inl (by_key p (key.Bind p.line p.parameter) changed (inl refl))
    | inr kept ↦ elim (or_cases (is_some (binding (applied m cs) p.line p.parameter)) _ (sym (place_parameter (applied m cs) p u) ∙ first_so (is_place (applied m cs) p) _ h)) [
      | inl bound ↦ inr (u, kept, sound_before w p (place_parameter m p u ∙ or_left _ _ (ap (λ o. is_some (as_binding o)) (sym kept) ∙ bound)))
      | inr taken ↦ elim (changed_or_kept m cs (key.Line p.line)) [
        | inl changed ↦
            let e = with_equation (line (applied m cs) p.line) p.parameter taken in
            inl (by_key p (key.Line p.line) changed (subst (λ o. IsAmong p (places_about (key.Line p.line) o)) (sym e.1) (takes_among p.line p.parameter (parameters e.0) e.2)))
        | inr stays ↦
            let before = ap (λ o. option_map_or (λ e. takes e p.parameter) (as_line o) false) (sym stays) ∙ taken in
            inr (u, kept, sound_before w p (place_parameter m p u ∙ or_right (is_some (binding m p.line p.parameter)) _ before))
      ]
    ]
  ]

  -- a changed key is about each fault, unless the place was sound
  pub keyed_or_sound : (p : Place) → is_fault (applied m cs) p ≡ true → IsAmong p keyed ⊎ WasSound p
  keyed_or_sound p h = by (is_uncertainty p) refl
    where
      by : (b : Bool) → is_uncertainty p ≡ b → IsAmong p keyed ⊎ WasSound p
      by true u = inl (by_uncertainty p u h)
      by false u = by_parameter p u h

  pub covered : (p : Place) → is_fault (applied m cs) p ≡ true → IsAmong p (flat_map (line_places m) (line_names m) ++ keyed)
  covered p h = elim (keyed_or_sound p h) [
    | inl i ↦ among_right p (flat_map (line_places m) (line_names m)) _ i
    | inr was ↦
        let taken = sound_takes m p was.0 was.2 in
        among_left p _ keyed (among_flat (line_places m) p.line p (line_names m) (line_among m p.line taken.0 taken.1)
        (subst (λ o. IsAmong p (places_in (key.Line p.line) o)) (sym taken.1) (takes_among p.line p.parameter (parameters taken.0) taken.2)))
  ]
