-- Lines that are gathered one after the other, and where a ring of them can be.
use Rattle.std.proofs.Common.{◌≡◌, ◌⊎◌, inl, inr, ℕ, ◌+◌, ◌<◌, ◌≤◌, Bool, true, false, cond, if◌then◌else◌, is_eq, is_some, List, [], ◌∷◌, ◌++◌, length, get_or, flat_map, map, take, Some, None, refl, sym, ap, ◌∙◌, subst, arith, length-append}
use Rattle.std.proofs.lemmas.List.{append-nil, append_assoc, get_or_default, take-append-le, take_all}
use Rattle.std.proofs.lemmas.Map.Keys.{IsDistinct-from_sorted}
use Rattle.std.proofs.lemmas.Map.Lookups.{exact_bytes}
use Rattle.std.proofs.lemmas.Map.Made.{length-le_from_is_member}
use Rattle.std.proofs.lemmas.Map.Views.{tells_apart}
use Rattle.std.specs.BTreeSet.{BTreeSet, IsOrdered, Updates, btree_set_len, contains}
use Rattle.std.specs.Cmp.{eq_by_cmp_equiv}
use Rattle.std.specs.Cmp.Lexicographic.{nat_list_cmp_total}
use Rattle.ghg_definitions.specs.declared.record.RecordKey.{RecordKey}
use Rattle.ghg_definitions.specs.declared.record.RecordKey.TheVariants as key
use Rattle.ghg_definitions.specs.Data.{Data, Name, as_binding, as_line, line, line_names, name_cmp}
use Rattle.ghg_definitions.specs.Listed.{IsListed}
use Rattle.ghg_definitions.specs.Rings.{IsAcyclic, IsRing, Leads, Takes, TakesBinding, taken as lines_taken}
use Rattle.ghg_definitions.specs.Sound.{IsWorkbook}
use Rattle.ghg_definitions.proofs.Chains.{turned}
use Rattle.ghg_definitions.proofs.Grounded.{line_listed}
use Rattle.ghg_definitions.proofs.Listed.{from_filter_map, in_either, listed_filter_map, listed_left, listed_right}
use Rattle.ghg_definitions.proofs.Rings.{taken_of, taken_present, takes}
use Rattle.ghg_data.specs.Changes.{Change, applied}
use Rattle.ghg_data.proofs.Covered.{changed_or_kept}
use Rattle.ghg_graph.specs.Dependencies.{AreLedTo, AreLedToBy, IsGathered, IsIn, IsQueued, IsLedTo, present_line, present_lines}
use Rattle.ghg_graph.specs.Dependencies.IsLedTo.{begun, taken}
use Rattle.ghg_graph.specs.Links.{IsLeast, IsOrder, Links}
use Rattle.ghg_graph.specs.Numbers.{AreNamesOf, IsNumbering}
use Rattle.ghg_graph.specs.Refusal.{IfRing, IsLeastRingOf}
use Rattle.ghg_graph.specs.declared.dependencies.Gathered.{Gathered}
use Rattle.ghg_graph.specs.declared.rings.CycleRefusal.{CycleRefusal}
use Rattle.ghg_graph.proofs.EquationParameters.{at_place}
use Rattle.ghg_graph.proofs.Membership.{key_listed, listed_key}
use Rattle.ghg_graph.proofs.Named.{if_ring, no_ring, ring_of}
use Rattle.ghg_graph.proofs.LineNumbers.{flat_more, take_next}

-- ---- names in a set

-- a name of the set is one of its keys
key_of : (s : BTreeSet Name) (name : Name) → IsIn s name → IsListed name s.keys
key_of s name is = key_listed exact_bytes name s.keys is

is_key : (s : BTreeSet Name) (name : Name) → IsListed name s.keys → IsIn s name
is_key s name i = listed_key nat_list_cmp_total name s.keys i

-- as many as there are lines at most
few_names : (m : Data) (s : BTreeSet Name) → IsOrdered name_cmp s
    → ((name : Name) → IsIn s name → is_some (line m name) ≡ true) → btree_set_len s ≤ length (line_names m)
few_names m s ordered present =
    length-le_from_is_member (eq_by_cmp_equiv nat_list_cmp_total) s.keys (line_names m)
    (IsDistinct-from_sorted name_cmp s.keys ordered)
    (λ name on. listed_key nat_list_cmp_total name (line_names m) (line_listed m name (present name on)))

module _ (s t : BTreeSet Name) (x : Name) (updates : Updates name_cmp s t x true) where
  stays : (name : Name) → IsIn s name → IsIn t name
  stays name is = updates.0 name ∙ by (is_eq (name_cmp x name)) is
    where
      by : (b : Bool) → IsIn s name → cond b true (contains name_cmp s name) ≡ true
      by true is = refl
      by false is = is

  comes : (name : Name) → IsIn t name → IsIn s name ⊎ (name ≡ x)
  comes name is = by (is_eq (name_cmp x name)) refl (sym (updates.0 name) ∙ is)
    where
      by : (b : Bool) → is_eq (name_cmp x name) ≡ b → cond b true (contains name_cmp s name) ≡ true
          → IsIn s name ⊎ (name ≡ x)
      by true e is = inr (sym (tells_apart exact_bytes x name e))
      by false e is = inl is

-- ---- names that are gathered

pub gathered_none : (g : Gathered) → IsQueued g → IsGathered [] g g
gathered_none g queued = record {
  queued = queued;
  kept = λ name is. is;
  added = λ name i. absurd i;
  only = λ name is. inl is;
  behind = ([], sym (append-nil g.queue.items));
}

pub gathered_more : (xs ys : List Name) (a b c : Gathered) → IsGathered xs a b → IsGathered ys b c → IsGathered (xs ++ ys) a c
gathered_more xs ys a b c first second = record {
  queued = second.queued;
  kept = λ name is. second.kept name (first.kept name is);
  added = λ name i. elim (in_either name xs ys i) [
    | inl j ↦ second.kept name (first.added name j)
    | inr j ↦ second.added name j
  ];
  only = λ name is. elim (second.only name is) [
    | inl j ↦ elim (first.only name j) [ inl l ↦ inl l | inr l ↦ inr (listed_left name xs ys l) ]
    | inr j ↦ inr (listed_right name xs ys j)
  ];
  behind = (
    first.behind.0 ++ second.behind.0,
    second.behind.1 ∙ ap (λ qs. qs ++ second.behind.0) first.behind.1
        ∙ append_assoc a.queue.items first.behind.0 second.behind.0,
  );
}

-- one name more
pub gathered_new : (old new : Gathered) (name : Name) → IsQueued old → IsOrdered name_cmp new.names
    → btree_set_len new.names ≡ btree_set_len old.names + 1 → Updates name_cmp old.names new.names name true
    → new.queue.items ≡ old.queue.items ++ name ∷ [] → IsGathered (name ∷ []) old new
gathered_new old new name was ordered len updates queued = record {
  queued = record {
    ordered = ordered;
    count = ap length queued ∙ length-append old.queue.items (name ∷ []) ∙ ap (λ n. n + 1) was.count ∙ sym len;
    sound = λ other i. elim (in_either other old.queue.items (name ∷ []) (subst (IsListed other) queued i)) [
      | inl j ↦ stays old.names new.names name updates other (was.sound other j)
      | inr j ↦ added_itself other j
    ];
    full = λ other is. subst (IsListed other) (sym queued) (elim (only_more other is) [
      | inl j ↦ listed_left other old.queue.items (name ∷ []) (was.full other j)
      | inr j ↦ listed_right other old.queue.items (name ∷ []) j
    ]);
  };
  kept = stays old.names new.names name updates;
  added = added_itself;
  only = only_more;
  behind = (name ∷ [], queued);
}
  where
    added_itself : (other : Name) → IsListed other (name ∷ []) → IsIn new.names other
    added_itself other (inl same) = subst (IsIn new.names) (sym same) updates.1
    added_itself other (inr none) = absurd none

    only_more : (other : Name) → IsIn new.names other → IsIn old.names other ⊎ IsListed other (name ∷ [])
    only_more other is = elim (comes old.names new.names name updates other is) [
      | inl j ↦ inl j
      | inr same ↦ inr (inl same)
    ]

-- ---- names that are gone through

pub gathered_next : (names : List Name) (i : ℕ) (name : Name) (first old new : Gathered) → i < length names
    → name ≡ get_or names i name → IsGathered (take i names) first old → IsGathered (name ∷ []) old new
    → IsGathered (take (i + 1) names) first new
gathered_next names i name first old new h e before one =
    subst (λ ns. IsGathered ns first new) (sym (take_next names i name h e))
    (gathered_more (take i names) (name ∷ []) first old new before one)

-- what is taken at one parameter more
pub taken_next : {A : Type 0} (names : A → List Name) (xs : List A) (i : ℕ) (d : A) (given : List Name)
    (first old new : Gathered) → i < length xs → given ≡ names (get_or xs i d)
    → IsGathered (flat_map names (take i xs)) first old → IsGathered given old new
    → IsGathered (flat_map names (take (i + 1) xs)) first new
taken_next names xs i d given first old new h is before more =
    subst (λ ns. IsGathered ns first new) (sym (flat_more names xs i d h))
    (gathered_more (flat_map names (take i xs)) (names (get_or xs i d)) first old new before (subst (λ ns. IsGathered ns old new) is more))

-- ---- from line to line

module _ (m : Data) (first : Gathered) where
  -- the lines that the first ones of the queue take are gathered
  pub record IsSpreadTo (next : ℕ) (g : Gathered) : Type 0 where
    pub queued : IsQueued g
    pub kept : (name : Name) → IsIn first.names name → IsIn g.names name
    pub reached : (name : Name) → IsIn g.names name → IsLedTo m first.queue.items name
    pub within : next ≤ length g.queue.items
    pub done : (name other : Name) → IsListed name (take next g.queue.items) → IsListed other (lines_taken m name)
        → IsIn g.names other

  pub spread_none : IsQueued first → IsSpreadTo 0 first
  spread_none queued = record {
    queued = queued;
    kept = λ name is. is;
    reached = λ name is. begun (queued.full name is);
    within = omega arith;
    done = λ name other i. absurd i;
  }

  pub spread_more : (next : ℕ) (name : Name) (old new : Gathered) → IsSpreadTo next old → next < length old.queue.items
      → name ≡ get_or old.queue.items next name → IsGathered (lines_taken m name) old new → IsSpreadTo (next + 1) new
  spread_more next name old new to h e more = record {
    queued = more.queued;
    kept = λ other is. more.kept other (to.kept other is);
    reached = λ other is. elim (more.only other is) [
      | inl j ↦ to.reached other j
      | inr j ↦ taken (to.reached name (to.queued.sound name here)) (takes m name other j)
    ];
    within =
        let long : length new.queue.items ≡ length old.queue.items + length more.behind.0 =
        ap length more.behind.1 ∙ length-append old.queue.items more.behind.0 in
        omega (arith, long, h);
    done = λ k other i j. elim (in_either k (take next old.queue.items) (name ∷ []) (subst (IsListed k) front i)) [
      | inl l ↦ more.kept other (to.done k other l j)
      | inr l ↦ elim l [
        | inl same ↦ more.added other (subst (λ n. IsListed other (lines_taken m n)) same j)
        | inr none ↦ absurd none
      ]
    ];
  }
    where
      here : IsListed name old.queue.items
      here = subst (λ n. IsListed n old.queue.items) (sym (e ∙ get_or_default old.queue.items next name [] h)) (at_place old.queue.items next [] h)

      front : take (next + 1) new.queue.items ≡ take next old.queue.items ++ name ∷ []
      front = ap (take (next + 1)) more.behind.1
          ∙ take-append-le (next + 1) old.queue.items more.behind.0 (omega (arith, h))
          ∙ take_next old.queue.items next name h e

  module _ (is : IsWorkbook m) (present : (name : Name) → IsListed name first.queue.items → is_some (line m name) ≡ true) where
    reached_present : (name : Name) → IsLedTo m first.queue.items name → is_some (line m name) ≡ true
    reached_present name (begun i) = present name i
    reached_present name (taken {name = k} r t) = taken_present m is k name t

    -- there is room for each in the queue
    pub few_queued : (next : ℕ) (g : Gathered) → IsSpreadTo next g → length g.queue.items ≤ length (line_names m)
    few_queued next g to =
        let few = few_names m g.names to.queued.ordered (λ name on. reached_present name (to.reached name on)) in
        omega (arith, few, to.queued.count)

    pub spread_all : IsQueued first → (next : ℕ) (g : Gathered) → IsSpreadTo next g → length g.queue.items ≤ next
        → AreLedTo m first.queue.items g.names.keys
    spread_all queued next g to h = record {
      order = to.queued.ordered;
      led_to = λ name. (λ i. to.reached name (is_key g.names name i), λ r. key_of g.names name (all name r));
    }
      where
        all : (name : Name) → IsLedTo m first.queue.items name → IsIn g.names name
        all name (begun i) = to.kept name (queued.sound name i)
        all name (taken {name = k} r t) = to.done k name
            (subst (IsListed k) (sym (take_all next g.queue.items h)) (to.queued.full k (all k r))) (taken_of m is k name t)

-- ---- from the names on that are gathered first

reached_more : (m : Data) (xs ys : List Name) → ((name : Name) → IsListed name xs → IsListed name ys)
    → (name : Name) → IsLedTo m xs name → IsLedTo m ys name
reached_more m xs ys more name (begun i) = begun (more name i)
reached_more m xs ys more name (taken {name = k} r t) = taken (reached_more m xs ys more k r) t

module _ (xs : List Name) (none first : Gathered) (queued : IsQueued none) (empty : none.queue.items ≡ []) (more : IsGathered xs none first) where
  pub queued_from : (name : Name) → IsListed name first.queue.items → IsListed name xs
  queued_from name i = elim (more.only name (more.queued.sound name i)) [
    | inl j ↦ absurd (subst (IsListed name) empty (queued.full name j))
    | inr j ↦ j
  ]

  pub reached_from : (m : Data) (names : List Name) → AreLedTo m first.queue.items names → AreLedTo m xs names
  reached_from m names are = record {
    order = are.order;
    led_to = λ name. (
      λ i. reached_more m first.queue.items xs queued_from name ((are.led_to name).0 i),
      λ r. (are.led_to name).1 (reached_more m xs first.queue.items (λ k i. more.queued.full k (more.added k i)) name r),
    );
  }

-- ---- from the changed lines on

module _ (m : Data) where
  -- the line of a key is present
  named : (other name : Name) → (if is_some (line m other) then Some other else None) ≡ Some name
      → is_some (line m name) ≡ true
  named other name e = by (is_some (line m other)) refl e
    where
      by : (b : Bool) → is_some (line m other) ≡ b → (if b then Some other else None) ≡ Some name
          → is_some (line m name) ≡ true
      by true here e = let same : other ≡ name = cc in subst (λ z. is_some (line m z) ≡ true) same here
      by false off e = absurd (cc)

  key_present : (k : RecordKey) (name : Name) → present_line m k ≡ Some name → is_some (line m name) ≡ true
  key_present (key.Line other) name e = named other name e
  key_present (key.Bind other parameter) name e = named other name e
  key_present key.Span name e = absurd (cc)
  key_present (key.Activity other year) name e = absurd (cc)
  key_present (key.Factor other start) name e = absurd (cc)
  key_present (key.Uncert other) name e = absurd (cc)

  pub changed_present : (keys : List RecordKey) (name : Name) → IsListed name (present_lines m keys) → is_some (line m name) ≡ true
  changed_present keys name i = let from = from_filter_map (present_line m) name keys i in key_present from.0 name from.2

-- ---- rings of what is changed

module _ (m : Data) (cs : List Change) (acyclic : IsAcyclic m) (names : List Name) (are : AreLedToBy m cs names) where
  abbrev new : Data
  new = applied m cs

  -- what a line of the names takes is one of the names,
  name_taken : (k name : Name) → IsListed k names → Takes new k name → IsListed name names
  name_taken k name i t = (are.led_to name).1 (taken ((are.led_to k).0 i) t)

  -- and so is what a line that is changed takes
  changed_taken : (q : RecordKey) (k name : Name) → IsListed q (map (λ c. c.0) cs) → present_line new q ≡ Some k
      → Takes new k name → IsListed name names
  changed_taken q k name i e t =
      (are.led_to name).1 (taken (begun (listed_filter_map (present_line new) q k (map (λ c. c.0) cs) i e)) t)

  here : (k : Name) → is_some (line new k) ≡ true → (if is_some (line new k) then Some k else None) ≡ Some k
  here k present = ap (λ b. if b then Some k else None) present

  -- a line takes one of the names, or what it took before
  takes_name : (k name : Name) → Takes new k name → IsListed name names ⊎ Takes m k name
  takes_name k name t = elim (changed_or_kept m cs (key.Line k)) [
    | inl changed ↦ inl (changed_taken (key.Line k) k name changed (here k t.present) t)
    | inr line_kept ↦ elim (changed_or_kept m cs (key.Bind k t.parameter)) [
      | inl changed ↦ inl (changed_taken (key.Bind k t.parameter) k name changed (here k t.present) t)
      | inr kept ↦ inr (record {
        present = ap (λ r. is_some (as_line r)) (sym line_kept) ∙ t.present;
        parameter = t.parameter;
        bound = subst (λ o. TakesBinding (as_binding o) name) kept t.bound;
      })
    ]
  ]

  -- a chain from one of the names ends at one of them,
  leads_on : (x : Name) (xs : List Name) (end : Name) → IsListed x names → Leads (Takes new) (x ∷ xs) end → IsListed end names
  leads_on x [] end i t = name_taken x end i t
  leads_on x (y ∷ ys) end i r = leads_on y ys end (name_taken x y i r.0) r.1

  -- and so does any chain that is not one of before
  leads_to : (x : Name) (xs : List Name) (end : Name) → Leads (Takes new) (x ∷ xs) end
      → IsListed end names ⊎ Leads (Takes m) (x ∷ xs) end
  leads_to x [] end t = takes_name x end t
  leads_to x (y ∷ ys) end r = elim (takes_name x y r.0) [
    | inl i ↦ inl (leads_on y ys end i r.1)
    | inr t ↦ elim (leads_to y ys end r.1) [ inl i ↦ inl i | inr rest ↦ inr (t, rest) ]
  ]

  rings_reached : (ring : List Name) → IsRing (Takes new) ring → (k : Name) → IsListed k ring → IsListed k names
  rings_reached ring is k i =
      let from = turned (Takes new) ring k is i in
      elim (leads_to k from.0 k from.1) [ inl on ↦ on | inr before ↦ absurd (acyclic (k ∷ from.0) before) ]

  module _ (is : IsWorkbook new) (links : Links) (n : IsNumbering false new names links) where
    pub no_ring_reached : (order : List Name) → AreNamesOf names (IsOrder links) order → IsAcyclic new
    no_ring_reached order of = no_ring new is names are.order links n rings_reached of.numbers of.holds

    pub ring_reached : (refusal : CycleRefusal) → IfRing (AreNamesOf names (IsLeast links)) refusal → IfRing (IsLeastRingOf new) refusal
    ring_reached refusal of = if_ring (ring_of new is names are.order links n rings_reached) refusal of
